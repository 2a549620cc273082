-- How deep brackets are nested in forms.
use Rattle.std.specs.Prelude.{ℕ, ◌+◌, max, List, [], ◌∷◌, map}
use Rattle.clj_reader.specs.declared.form.Form.{Form}
use Rattle.clj_reader.specs.declared.form.Shape.{Shape}
use Rattle.clj_reader.specs.declared.form.Shape.TheOpen.{Shape-F, Form-F}
use Rattle.clj_reader.specs.declared.form.Shape.TheFolds.{fold-Form, fold-Shape}

abbrev pub greatest : List ℕ → ℕ
greatest [] = 0
greatest (n ∷ ns) = max n (greatest ns)

-- one level of a shape, with how deep the forms are that it holds
abbrev pub nesting_of_level : Shape-F ℕ ℕ → ℕ
nesting_of_level (Shape-F.List forms) = greatest forms + 1
nesting_of_level (Shape-F.Vector forms) = greatest forms + 1
nesting_of_level _ = 0

abbrev pub nesting_at_place : Form-F ℕ ℕ → ℕ
nesting_at_place f = f.shape

abbrev pub nesting_of_shape : Shape → ℕ
nesting_of_shape = fold-Shape ℕ ℕ nesting_of_level nesting_at_place

abbrev pub nesting_of_form : Form → ℕ
nesting_of_form = fold-Form ℕ ℕ nesting_of_level nesting_at_place

-- the deepest bracket of forms, where an outermost one has depth 1
abbrev pub nesting : List Form → ℕ
nesting forms = greatest (map nesting_of_form forms)

-- The forms of a script as trees that threading can be written out in.
use Rattle.std.specs.Prelude.{ℕ, Bool, true, false, List, [], ◌∷◌, map, Option, Some, None}
use Rattle.clj_reader.specs.declared.place.Place.{Place}
use Rattle.clj_reader.specs.declared.form.Form.{Form}
use Rattle.clj_reader.specs.declared.form.Shape.{Shape}
use Rattle.clj_reader.specs.declared.form.Shape.TheOpen.{Shape-F, Form-F}
use Rattle.clj_reader.specs.declared.form.Shape.TheFolds.{fold-Form, fold-Shape}
use Rattle.clj_script.specs.Trees.{Literal, nil_literal, bool_literal, int_literal, keyword_literal, text_literal}

-- Each form has its own place, which threading keeps.
mutual
  pub data Source : Type 0 where
    atom : Place → Literal → Source
    symbol : Place → List ℕ → Source
    -- in round brackets
    round : Place → Sources → Source
    -- in square brackets
    square : Place → Sources → Source

  pub data Sources : Type 0 where
    no_more : Sources
    before : Source → Sources → Sources

abbrev pub sources : List Source → Sources
sources [] = no_more
sources (s ∷ ss) = before s (sources ss)

abbrev pub listed : Sources → List Source
listed no_more = []
listed (before s ss) = s ∷ listed ss

abbrev pub place_of : Source → Place
place_of (atom p l) = p
place_of (symbol p name) = p
place_of (round p items) = p
place_of (square p items) = p

-- one level of a shape at a place, with the sources of the forms that it holds
abbrev pub source_of_level : Shape-F (Place → Source) Source → Place → Source
source_of_level Shape-F.Nil = λ p. atom p nil_literal
source_of_level (Shape-F.Bool b) = λ p. atom p (bool_literal b)
source_of_level (Shape-F.Int z) = λ p. atom p (int_literal z)
source_of_level (Shape-F.Text name) = λ p. atom p (text_literal name)
source_of_level (Shape-F.Keyword name) = λ p. atom p (keyword_literal name)
source_of_level (Shape-F.Symbol name) = λ p. symbol p name
source_of_level (Shape-F.List forms) = λ p. round p (sources forms)
source_of_level (Shape-F.Vector forms) = λ p. square p (sources forms)

abbrev pub source_at_place : Form-F (Place → Source) Source → Source
source_at_place f = f.shape f.place

-- a form of the reader
abbrev pub source_of : Form → Source
source_of = fold-Form (Place → Source) Source source_of_level source_at_place

abbrev pub source_of_shape : Shape → Place → Source
source_of_shape = fold-Shape (Place → Source) Source source_of_level source_at_place

abbrev pub sources_of : List Form → List Source
sources_of forms = map source_of forms

-- the name of a symbol, the forms in round brackets, and the forms in square brackets
abbrev pub spelling : Source → Option (List ℕ)
spelling (symbol p name) = Some name
spelling (atom p l) = None
spelling (round p items) = None
spelling (square p items) = None

abbrev pub in_round : Source → Option (List Source)
in_round (round p items) = Some (listed items)
in_round (atom p l) = None
in_round (symbol p name) = None
in_round (square p items) = None

abbrev pub in_square : Source → Option (List Source)
in_square (square p items) = Some (listed items)
in_square (atom p l) = None
in_square (symbol p name) = None
in_square (round p items) = None

abbrev pub is_text_source : Source → Bool
is_text_source (atom p (text_literal t)) = true
is_text_source _ = false

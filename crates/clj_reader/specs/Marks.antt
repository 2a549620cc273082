-- Which tokens forms are written as.
use Rattle.std.specs.Prelude.{List, [], ◌∷◌, ◌++◌, map, Option, Some, None}
use Rattle.clj_reader.specs.declared.place.Place.{Place}
use Rattle.clj_reader.specs.declared.token.Token.{Token}
use Rattle.clj_reader.specs.declared.token.Token.TheVariants.{Open, Close, Atom, Bad}
use Rattle.clj_reader.specs.declared.token.Bracket.{Bracket}
use Rattle.clj_reader.specs.declared.token.Bracket.TheVariants.{Round, Square}
use Rattle.clj_reader.specs.declared.token.Lexeme.{Lexeme}
use Rattle.clj_reader.specs.declared.form.Form.{Form}
use Rattle.clj_reader.specs.declared.form.Shape.{Shape}
use Rattle.clj_reader.specs.declared.form.Shape.TheOpen.{Shape-F, Form-F}
use Rattle.clj_reader.specs.declared.form.Shape.TheFolds.{fold-Form, fold-Shape}
use Rattle.clj_reader.specs.declared.token.Atom as atoms
use Rattle.clj_reader.specs.declared.token.Atom.TheVariants as atom

-- A token and its place, which a form doesn't keep of a closing bracket.
pub record Mark : Type 0 where
  pub place : Option Place
  pub token : Token

abbrev pub mark : Place → Token → Mark
mark p (Close b) = record { place = None; token = Close b }
mark p (Open b) = record { place = Some p; token = Open b }
mark p (Atom a) = record { place = Some p; token = Atom a }
mark p (Bad flaw) = record { place = Some p; token = Bad flaw }

-- the marks of tokens
abbrev pub marks_of_tokens : List Lexeme → List Mark
marks_of_tokens tokens = map (λ l. mark l.place l.token) tokens

abbrev pub joined : List (List Mark) → List Mark
joined [] = []
joined (m ∷ ms) = m ++ joined ms

abbrev pub alone : atoms.Atom → Place → List Mark
alone a p = mark p (Atom a) ∷ []

-- what stands between brackets of a kind, where the first is at a place
abbrev pub bracketed : Bracket → List Mark → Place → List Mark
bracketed b inner p = mark p (Open b) ∷ (inner ++ mark p (Close b) ∷ [])

-- one level of a shape at a place, with the marks of the forms that it holds
abbrev pub marks_of_level : Shape-F (Place → List Mark) (List Mark) → Place → List Mark
marks_of_level Shape-F.Nil = alone atom.Nil
marks_of_level (Shape-F.Bool b) = alone (atom.Bool b)
marks_of_level (Shape-F.Int z) = alone (atom.Int z)
marks_of_level (Shape-F.Text name) = alone (atom.Text name)
marks_of_level (Shape-F.Keyword name) = alone (atom.Keyword name)
marks_of_level (Shape-F.Symbol name) = alone (atom.Symbol name)
marks_of_level (Shape-F.List forms) = bracketed Round (joined forms)
marks_of_level (Shape-F.Vector forms) = bracketed Square (joined forms)

abbrev pub marks_at_place : Form-F (Place → List Mark) (List Mark) → List Mark
marks_at_place f = f.shape f.place

-- the marks of a shape at a place, and of a form
abbrev pub marks_of_shape : Shape → Place → List Mark
marks_of_shape = fold-Shape (Place → List Mark) (List Mark) marks_of_level marks_at_place

abbrev pub marks_of_form : Form → List Mark
marks_of_form = fold-Form (Place → List Mark) (List Mark) marks_of_level marks_at_place

-- the marks of forms, one after the other
abbrev pub marks : List Form → List Mark
marks forms = joined (map marks_of_form forms)

-- The forms of tokens by a plain pass over them, token by token. The code is proved by it.
use Rattle.std.specs.Prelude.{◌≡◌, List, [], ◌∷◌, ◌++◌, length, nat_lt, reverse, if◌then◌else◌, Result, Ok, Err}
use Rattle.clj_reader.specs.declared.place.Place.{Place}
use Rattle.clj_reader.specs.declared.token.Token.{Token}
use Rattle.clj_reader.specs.declared.token.Token.TheVariants.{Open, Close, Atom, Bad}
use Rattle.clj_reader.specs.declared.token.Bracket.{Bracket}
use Rattle.clj_reader.specs.declared.token.Bracket.TheVariants.{Round, Square}
use Rattle.clj_reader.specs.declared.token.Atom as atoms
use Rattle.clj_reader.specs.declared.token.Atom.TheVariants as atom
use Rattle.clj_reader.specs.declared.token.Lexeme.{Lexeme}
use Rattle.clj_reader.specs.declared.nest.Opening.{Opening}
use Rattle.clj_reader.specs.declared.nest.Nest.{Nest}
use Rattle.clj_reader.specs.declared.form.Form.{Form}
use Rattle.clj_reader.specs.declared.form.Shape.{Shape}
use Rattle.clj_reader.specs.declared.form.Shape.TheVariants as shape
use Rattle.clj_reader.specs.declared.refusal.ReadRefusal.{ReadRefusal}
use Rattle.clj_reader.specs.declared.refusal.ReadFormsStop.{ReadFormsStop}
use Rattle.clj_reader.specs.declared.refusal.ReadFormsStop.TheVariants.{Refused, Memory}
use Rattle.clj_reader.specs.Refusals.{refusal, flaw_number, same_bracket}

abbrev pub form : Place → Shape → Form
form place kind = record { place = place; shape = kind }

-- an atom as a shape
abbrev pub shape_of : atoms.Atom → Shape
shape_of atom.Nil = shape.Nil
shape_of (atom.Bool b) = shape.Bool b
shape_of (atom.Int z) = shape.Int z
shape_of (atom.Text name) = shape.Text name
shape_of (atom.Keyword name) = shape.Keyword name
shape_of (atom.Symbol name) = shape.Symbol name

abbrev pub opening : Place → Bracket → List Form → Opening
opening place bracket before = record { place = place; bracket = bracket; before = before }

-- what brackets of a kind make of the forms between them
abbrev pub group : Bracket → List Form → Shape
group Round forms = shape.List forms
group Square forms = shape.Vector forms

-- the brackets that stand open, the innermost first, and the forms read since
pub record Level : Type 0 where
  pub opened : List Opening
  pub forms : List Form

abbrev pub level : List Opening → List Form → Level
level opened forms = record { opened = opened; forms = forms }

abbrev pub level_of : Nest → Level
level_of nest = level (reverse nest.opened.items) nest.forms

-- what stands behind a token, or its refusal
unfoldable pub nested : List Opening → List Form → Place → Token → Result Level ReadRefusal
nested opened forms p (Open b) = if nat_lt (length opened) 200 then Ok (level (opening p b forms ∷ opened) []) else Err (refusal 5 p)
nested [] forms p (Close b) = Err (refusal 2 p)
nested (o ∷ opened) forms p (Close b) =
    if same_bracket b o.bracket then Ok (level opened (o.before ++ form o.place (group o.bracket forms) ∷ [])) else Err (refusal 2 p)
nested opened forms p (Atom a) = Ok (level opened (forms ++ form p (shape_of a) ∷ []))
nested opened forms p (Bad flaw) = Err (refusal (flaw_number flaw) p)

-- the forms at the end, where no bracket stands open
abbrev pub nested_at_end : List Opening → List Form → Result (List Form) ReadRefusal
nested_at_end [] forms = Ok forms
nested_at_end (o ∷ opened) forms = Err (refusal 2 o.place)

abbrev pub and_on : Result Level ReadRefusal → (List Opening → List Form → Result (List Form) ReadRefusal) → Result (List Form) ReadRefusal
and_on (Ok l) go = go l.opened l.forms
and_on (Err r) go = Err r

-- the forms of tokens behind what stands, or the first refusal
abbrev pub assembled : List Opening → List Form → List Lexeme → Result (List Form) ReadRefusal
assembled opened forms [] = nested_at_end opened forms
assembled opened forms (l ∷ ls) = and_on (nested opened forms l.place l.token) (λ more since. assembled more since ls)

-- a call gave what was to be given, or ran out of memory
abbrev pub Gives : {X Y : Type 0} → (X → Y) → Result X ReadFormsStop → Result Y ReadRefusal → Type 0
Gives view (Ok x) read = read ≡ Ok (view x)
Gives view (Err Memory) read = Unit {0}
Gives view (Err (Refused r)) read = read ≡ Err r

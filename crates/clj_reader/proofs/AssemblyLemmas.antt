-- What a pass over tokens reads: no token is refused, and the forms are written as the tokens.
use Rattle.std.proofs.Common.{◌≡◌, Bool, true, false, cond, List, [], ◌∷◌, ◌++◌, length, map, nat_lt, Some, None, Result, Ok, Err, refl, sym, ◌∙◌, ap}
use Rattle.std.proofs.lemmas.List.{append-nil, append_assoc, length-map}
use Rattle.clj_reader.specs.declared.place.Place.{Place}
use Rattle.clj_reader.specs.declared.token.Token.{Token}
use Rattle.clj_reader.specs.declared.token.Token.TheVariants.{Open, Close, Atom, Bad}
use Rattle.clj_reader.specs.declared.token.Bracket.{Bracket}
use Rattle.clj_reader.specs.declared.token.Bracket.TheVariants.{Round, Square}
use Rattle.clj_reader.specs.declared.token.Atom as atoms
use Rattle.clj_reader.specs.declared.token.Atom.TheVariants as atom
use Rattle.clj_reader.specs.declared.token.Lexeme.{Lexeme}
use Rattle.clj_reader.specs.declared.nest.Opening.{Opening}
use Rattle.clj_reader.specs.declared.form.Form.{Form}
use Rattle.clj_reader.specs.declared.form.Shape.{Shape}
use Rattle.clj_reader.specs.declared.form.Shape.TheOpen.{Shape-F}
use Rattle.clj_reader.specs.declared.form.Shape.TheFolds as folds
use Rattle.clj_reader.specs.declared.form.Shape.TheFolds.{fold-roll-Shape}
use Rattle.clj_reader.specs.declared.form.Shape.TheViews as shapes
use Rattle.clj_reader.specs.declared.form.Shape.TheVariants as shape
use Rattle.clj_reader.specs.declared.form.Shape.TheVariants.{rolls-List, rolls-Vector}
use Rattle.clj_reader.specs.declared.refusal.ReadRefusal.{ReadRefusal}
use Rattle.clj_reader.specs.Refusals.{refusal, same_bracket, opened_behind, first_refusal}
use Rattle.clj_reader.specs.Marks.{Mark, mark, marks_of_tokens, alone, bracketed, marks_of_level, marks_at_place, marks_of_shape, marks_of_form, marks}
use Rattle.clj_reader.specs.Nests.{form, shape_of, opening, group, Level, level, nested, nested_at_end, and_on, assembled}

-- marks of forms

pub form_marks : (s : Shape) (p : Place) → marks_of_form (form p s) ≡ marks_of_shape s p
form_marks s p = folds.fold-roll-Form (Place → List Mark) (List Mark) marks_of_level marks_at_place (record { place = p; shape = s })

level_marks : (x : Shape-F Shape Form) → marks_of_shape (shapes.roll-Shape x) ≡ marks_of_level (folds.map-Shape Shape Form (Place → List Mark) (List Mark) marks_of_shape marks_of_form x)
level_marks x = fold-roll-Shape (Place → List Mark) (List Mark) marks_of_level marks_at_place x

-- an atom is written as its token
pub atom_level : (a : atoms.Atom) → marks_of_shape (shape_of a) ≡ alone a
atom_level atom.Nil = ap marks_of_shape (sym shape.rolls-Nil) ∙ level_marks Shape-F.Nil
atom_level (atom.Bool b) = ap marks_of_shape (sym (shape.rolls-Bool b)) ∙ level_marks (Shape-F.Bool b)
atom_level (atom.Int z) = ap marks_of_shape (sym (shape.rolls-Int z)) ∙ level_marks (Shape-F.Int z)
atom_level (atom.Text name) = ap marks_of_shape (sym (shape.rolls-Text name)) ∙ level_marks (Shape-F.Text name)
atom_level (atom.Keyword name) = ap marks_of_shape (sym (shape.rolls-Keyword name)) ∙ level_marks (Shape-F.Keyword name)
atom_level (atom.Symbol name) = ap marks_of_shape (sym (shape.rolls-Symbol name)) ∙ level_marks (Shape-F.Symbol name)

pub atom_marks : (a : atoms.Atom) (p : Place) → marks_of_form (form p (shape_of a)) ≡ mark p (Atom a) ∷ []
atom_marks a p = form_marks (shape_of a) p ∙ ap (λ (f : Place → List Mark). f p) (atom_level a)

-- forms between brackets are written between brackets
pub group_level : (b : Bracket) (forms : List Form) → marks_of_shape (group b forms) ≡ bracketed b (marks forms)
group_level Round forms = ap marks_of_shape (sym (shape.rolls-List forms)) ∙ level_marks (Shape-F.List forms)
group_level Square forms = ap marks_of_shape (sym (shape.rolls-Vector forms)) ∙ level_marks (Shape-F.Vector forms)

pub group_marks : (b : Bracket) (forms : List Form) (p : Place) → marks_of_form (form p (group b forms)) ≡ bracketed b (marks forms) p
group_marks b forms p = form_marks (group b forms) p ∙ ap (λ (f : Place → List Mark). f p) (group_level b forms)

pub marks_push : (forms : List Form) (f : Form) → marks (forms ++ f ∷ []) ≡ marks forms ++ marks_of_form f
marks_push [] f = append-nil (marks_of_form f)
marks_push (g ∷ forms) f = ap (λ (ms : List Mark). marks_of_form g ++ ms) (marks_push forms f) ∙ sym (append_assoc (marks_of_form g) (marks forms) (marks_of_form f))

-- what stands, and how it is written

abbrev pub bracket_of : Opening → Place × Bracket
bracket_of o = (o.place, o.bracket)

abbrev pub brackets : List Opening → List (Place × Bracket)
brackets opened = map bracket_of opened

abbrev pub written : List Opening → List Form → List Mark
written [] forms = marks forms
written (o ∷ opened) forms = written opened o.before ++ mark o.place (Open o.bracket) ∷ marks forms

written_push : (opened : List Opening) (forms : List Form) (f : Form) → written opened (forms ++ f ∷ []) ≡ written opened forms ++ marks_of_form f
written_push [] forms f = marks_push forms f
written_push (o ∷ opened) forms f = ap (λ (ms : List Mark). written opened o.before ++ mark o.place (Open o.bracket) ∷ ms) (marks_push forms f)
    ∙ sym (append_assoc (written opened o.before) (mark o.place (Open o.bracket) ∷ marks forms) (marks_of_form f))

-- one token

-- a token's outcome is that of the brackets alone, and what stands behind it is written with its mark
abbrev Stands : List Opening → List Form → Place → Token → Result Level ReadRefusal → Type 0
Stands opened forms p t (Ok l) = (opened_behind (brackets opened) p t ≡ Ok (brackets l.opened)) × (written opened forms ++ mark p t ∷ [] ≡ written l.opened l.forms)
Stands opened forms p t (Err r) = opened_behind (brackets opened) p t ≡ Err r

same_kind : (a b : Bracket) → same_bracket a b ≡ true → a ≡ b
same_kind Round Round e = refl
same_kind Round Square e = absurd (cc e)
same_kind Square Round e = absurd (cc e)
same_kind Square Square e = refl

opens : (opened : List Opening) (forms : List Form) (p : Place) (b : Bracket) (t : Bool) → nat_lt (length opened) 200 ≡ t
    → Stands opened forms p (Open b) (cond t (Ok (level (opening p b forms ∷ opened) [])) (Err (refusal 5 p)))
opens opened forms p b true e = (rw (length-map opened bracket_of, e) refl, refl)
opens opened forms p b false e = rw (length-map opened bracket_of, e) refl

closes : (o : Opening) (opened : List Opening) (forms : List Form) (p : Place) (b : Bracket) (t : Bool) → same_bracket b o.bracket ≡ t
    → Stands (o ∷ opened) forms p (Close b) (cond t (Ok (level opened (o.before ++ form o.place (group o.bracket forms) ∷ []))) (Err (refusal 2 p)))
closes o opened forms p b true e = (
  rw e refl,
  append_assoc (written opened o.before) (mark o.place (Open o.bracket) ∷ marks forms) (mark p (Close b) ∷ [])
      ∙ ap (λ (c : Bracket). written opened o.before ++ (mark o.place (Open o.bracket) ∷ (marks forms ++ mark p (Close c) ∷ []))) (same_kind b o.bracket e)
      ∙ sym (written_push opened o.before (form o.place (group o.bracket forms)) ∙ ap (λ (ms : List Mark). written opened o.before ++ ms) (group_marks o.bracket forms o.place)),
)
closes o opened forms p b false e = rw e refl

stands : (opened : List Opening) (forms : List Form) (p : Place) (t : Token) → Stands opened forms p t (nested opened forms p t)
unfolding nested
stands opened forms p (Open b) = opens opened forms p b (nat_lt (length opened) 200) refl
stands [] forms p (Close b) = refl
stands (o ∷ opened) forms p (Close b) = closes o opened forms p b (same_bracket b o.bracket) refl
stands opened forms p (Atom a) = (refl, sym (written_push opened forms (form p (shape_of a)) ∙ ap (λ (ms : List Mark). written opened forms ++ ms) (atom_marks a p)))
stands opened forms p (Bad flaw) = refl

-- all tokens

-- a pass's outcome: with forms, no token is refused and the forms are written as what stood and the tokens; else it is the first refusal
abbrev pub Follows : List Opening → List Form → List Lexeme → Result (List Form) ReadRefusal → Type 0
Follows opened forms ls (Ok read) = (first_refusal (brackets opened) ls ≡ None) × (written opened forms ++ marks_of_tokens ls ≡ marks read)
Follows opened forms ls (Err r) = first_refusal (brackets opened) ls ≡ Some r

ends : (opened : List Opening) (forms : List Form) → Follows opened forms [] (nested_at_end opened forms)
ends [] forms = (refl, append-nil (marks forms))
ends (o ∷ opened) forms = refl

-- a token before the rest
read : (opened : List Opening) (forms : List Form) (l : Lexeme) (ls : List Lexeme) (v : Level) (r : Result (List Form) ReadRefusal) → Stands opened forms l.place l.token (Ok v)
    → Follows v.opened v.forms ls r → Follows opened forms (l ∷ ls) r
read opened forms l ls v (Ok all) h rest = (
  rw h.0 rest.0,
  sym (append_assoc (written opened forms) (mark l.place l.token ∷ []) (marks_of_tokens ls)) ∙ ap (λ (ms : List Mark). ms ++ marks_of_tokens ls) h.1 ∙ rest.1,
)
read opened forms l ls v (Err r) h rest = rw h.0 rest

before_rest : (opened : List Opening) (forms : List Form) (l : Lexeme) (ls : List Lexeme) (r : Result Level ReadRefusal) → Stands opened forms l.place l.token r
    → ((opened : List Opening) (forms : List Form) → Follows opened forms ls (assembled opened forms ls))
    → Follows opened forms (l ∷ ls) (and_on r (λ more since. assembled more since ls))
before_rest opened forms l ls (Err r) h rest = rw h refl
before_rest opened forms l ls (Ok v) h rest = read opened forms l ls v (assembled v.opened v.forms ls) h (rest v.opened v.forms)

pub follows : (ls : List Lexeme) (opened : List Opening) (forms : List Form) → Follows opened forms ls (assembled opened forms ls)
follows [] opened forms = ends opened forms
follows (l ∷ ls) opened forms = before_rest opened forms l ls (nested opened forms l.place l.token) (stands opened forms l.place l.token) (follows ls)

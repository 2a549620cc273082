-- No token is refused exactly where the brackets match and none is nested deeper than 200.
use Rattle.std.proofs.Common.{◌≡◌, ℕ, suc, ◌+◌, ◌<◌, ◌≤◌, max, Bool, true, false, cond, ◌&&◌, nat_lt, nat_le, List, [], ◌∷◌, ◌++◌, length, map, Option, Some, None, Ok, Err, refl, sym, ◌∙◌, ap, subst, arith}
use Rattle.std.proofs.lemmas.Bool.Decides.{nat_tests}
use Rattle.std.proofs.lemmas.List.{append-nil, append_assoc, length-map}
use Rattle.clj_reader.specs.declared.place.Place.{Place}
use Rattle.clj_reader.specs.declared.token.Token.{Token}
use Rattle.clj_reader.specs.declared.token.Token.TheVariants.{Open, Close, Atom, Bad}
use Rattle.clj_reader.specs.declared.token.Bracket.{Bracket}
use Rattle.clj_reader.specs.declared.token.Bracket.TheVariants.{Round, Square}
use Rattle.clj_reader.specs.declared.token.Atom as atoms
use Rattle.clj_reader.specs.declared.token.Atom.TheVariants as atom
use Rattle.clj_reader.specs.declared.token.Lexeme.{Lexeme}
use Rattle.clj_reader.specs.declared.form.Form.{Form}
use Rattle.clj_reader.specs.declared.form.Shape.{Shape}
use Rattle.clj_reader.specs.declared.form.Shape.TheOpen.{Shape-F}
use Rattle.clj_reader.specs.declared.form.Shape.TheFolds.{fold-roll-Shape, fold-roll-Form, ind-Form, map-Shape}
use Rattle.clj_reader.specs.declared.form.Shape.TheViews.{roll-Shape, roll-Form}
use Rattle.clj_reader.specs.declared.form.Shape.TheVariants as shape
use Rattle.clj_reader.specs.declared.refusal.ReadRefusal.{ReadRefusal}
use Rattle.clj_reader.specs.Refusals.{refusal, same_bracket, opened_behind, first_refusal, refusal_of_rest, refusal_at_end}
use Rattle.clj_reader.specs.Marks.{Mark, mark, marks_of_tokens, marks_of_form, marks}
use Rattle.clj_reader.specs.Nests.{form, shape_of, group}
use Rattle.clj_reader.specs.Nesting.{nesting_of_level, nesting_at_place, nesting_of_shape, nesting_of_form, nesting}
use Rattle.clj_reader.proofs.AssemblyLemmas.{form_marks, atom_level, group_level}

-- whether no mark is refused, where these brackets stand open before them
abbrev fine_mark : List Bracket → Token → (List Bracket → Bool) → Bool
fine_mark opened (Open b) go = nat_lt (length opened) 200 && go (b ∷ opened)
fine_mark [] (Close b) go = false
fine_mark (o ∷ opened) (Close b) go = same_bracket b o && go opened
fine_mark opened (Atom a) go = go opened
fine_mark opened (Bad flaw) go = false

abbrev none_open : List Bracket → Bool
none_open [] = true
none_open (o ∷ opened) = false

abbrev fine : List Bracket → List Mark → Bool
fine opened [] = none_open opened
fine opened (m ∷ ms) = fine_mark opened m.token (λ more. fine more ms)

-- tokens aren't refused where their marks are fine

abbrev kinds : List (Place × Bracket) → List Bracket
kinds opened = map (λ (o : Place × Bracket). o.1) opened

abbrev nothing : Option ReadRefusal → Bool
nothing None = true
nothing (Some r) = false

same_end : (opened : List (Place × Bracket)) → nothing (refusal_at_end opened) ≡ none_open (kinds opened)
same_end [] = refl
same_end (o ∷ opened) = refl

opens : (opened : List (Place × Bracket)) (p : Place) (b : Bracket) (ls : List Lexeme) (t : Bool) → nat_lt (length opened) 200 ≡ t
    → ((more : List (Place × Bracket)) → nothing (first_refusal more ls) ≡ fine (kinds more) (marks_of_tokens ls))
    → nothing (refusal_of_rest (cond t (Ok ((p, b) ∷ opened)) (Err (refusal 5 p))) (λ more. first_refusal more ls)) ≡ (t && fine (b ∷ kinds opened) (marks_of_tokens ls))
opens opened p b ls true e rest = rest ((p, b) ∷ opened)
opens opened p b ls false e rest = refl

closes : (o : Place × Bracket) (opened : List (Place × Bracket)) (p : Place) (b : Bracket) (ls : List Lexeme) (t : Bool)
    → ((more : List (Place × Bracket)) → nothing (first_refusal more ls) ≡ fine (kinds more) (marks_of_tokens ls))
    → nothing (refusal_of_rest (cond t (Ok opened) (Err (refusal 2 p))) (λ more. first_refusal more ls)) ≡ (t && fine (kinds opened) (marks_of_tokens ls))
closes o opened p b ls true rest = rest opened
closes o opened p b ls false rest = refl

one_token : (opened : List (Place × Bracket)) (p : Place) (t : Token) (ls : List Lexeme)
    → ((more : List (Place × Bracket)) → nothing (first_refusal more ls) ≡ fine (kinds more) (marks_of_tokens ls))
    → nothing (refusal_of_rest (opened_behind opened p t) (λ more. first_refusal more ls)) ≡ fine_mark (kinds opened) t (λ more. fine more (marks_of_tokens ls))
one_token opened p (Open b) ls rest = opens opened p b ls (nat_lt (length opened) 200) refl rest
    ∙ ap (λ (n : ℕ). nat_lt n 200 && fine (b ∷ kinds opened) (marks_of_tokens ls)) (sym (length-map opened (λ (o : Place × Bracket). o.1)))
one_token [] p (Close b) ls rest = refl
one_token (o ∷ opened) p (Close b) ls rest = closes o opened p b ls (same_bracket b o.1) rest
one_token opened p (Atom a) ls rest = rest opened
one_token opened p (Bad flaw) ls rest = refl

mark_token : (p : Place) (t : Token) → (mark p t).token ≡ t
mark_token p (Open b) = refl
mark_token p (Close b) = refl
mark_token p (Atom a) = refl
mark_token p (Bad flaw) = refl

pub refused_unless_fine : (ls : List Lexeme) (opened : List (Place × Bracket)) → nothing (first_refusal opened ls) ≡ fine (kinds opened) (marks_of_tokens ls)
refused_unless_fine [] opened = same_end opened
refused_unless_fine (l ∷ ls) opened = one_token opened l.place l.token ls (refused_unless_fine ls)
    ∙ ap (λ (t : Token). fine_mark (kinds opened) t (λ more. fine more (marks_of_tokens ls))) (sym (mark_token l.place l.token))

-- how deep the forms are

form_nesting : (s : Shape) (p : Place) → nesting_of_form (form p s) ≡ nesting_of_shape s
form_nesting s p = fold-roll-Form ℕ ℕ nesting_of_level nesting_at_place (record { place = p; shape = s })

level_nesting : (x : Shape-F Shape Form) → nesting_of_shape (roll-Shape x) ≡ nesting_of_level (map-Shape Shape Form ℕ ℕ nesting_of_shape nesting_of_form x)
level_nesting x = fold-roll-Shape ℕ ℕ nesting_of_level nesting_at_place x

atom_nesting : (a : atoms.Atom) → nesting_of_shape (shape_of a) ≡ 0
atom_nesting atom.Nil = ap nesting_of_shape (sym shape.rolls-Nil) ∙ level_nesting Shape-F.Nil
atom_nesting (atom.Bool b) = ap nesting_of_shape (sym (shape.rolls-Bool b)) ∙ level_nesting (Shape-F.Bool b)
atom_nesting (atom.Int z) = ap nesting_of_shape (sym (shape.rolls-Int z)) ∙ level_nesting (Shape-F.Int z)
atom_nesting (atom.Text name) = ap nesting_of_shape (sym (shape.rolls-Text name)) ∙ level_nesting (Shape-F.Text name)
atom_nesting (atom.Keyword name) = ap nesting_of_shape (sym (shape.rolls-Keyword name)) ∙ level_nesting (Shape-F.Keyword name)
atom_nesting (atom.Symbol name) = ap nesting_of_shape (sym (shape.rolls-Symbol name)) ∙ level_nesting (Shape-F.Symbol name)

group_nesting : (b : Bracket) (forms : List Form) → nesting_of_shape (group b forms) ≡ nesting forms + 1
group_nesting Round forms = ap nesting_of_shape (sym (shape.rolls-List forms)) ∙ level_nesting (Shape-F.List forms)
group_nesting Square forms = ap nesting_of_shape (sym (shape.rolls-Vector forms)) ∙ level_nesting (Shape-F.Vector forms)

-- the marks of forms are fine exactly where the forms are not too deep

abbrev Fits : Form → Type 0
Fits f = (opened : List Bracket) (ms : List Mark) → length opened ≤ 200 → fine opened (marks_of_form f ++ ms) ≡ (nat_le (nesting_of_form f + length opened) 200 && fine opened ms)

abbrev ShapeFits : Shape → Type 0
ShapeFits s = (p : Place) → Fits (form p s)

both : (a b n : ℕ) (t : Bool) → (nat_le (max a b + n) 200 && t) ≡ (nat_le (a + n) 200 && (nat_le (b + n) 200 && t))
both a b n t = grind (arith, nat_tests)

within : (n : ℕ) (t : Bool) → n ≤ 200 → (nat_le (0 + n) 200 && t) ≡ t
within n t h = grind (arith, nat_tests)

all_fit : (fs : List ((f : Form) × Fits f)) (opened : List Bracket) (ms : List Mark) → length opened ≤ 200
    → fine opened (marks (map (λ e. e.0) fs) ++ ms) ≡ (nat_le (nesting (map (λ e. e.0) fs) + length opened) 200 && fine opened ms)
all_fit [] opened ms h = sym (within (length opened) (fine opened ms) h)
all_fit (e ∷ fs) opened ms h =
    let inner = map (λ (e : (f : Form) × Fits f). e.0) fs in
    ap (fine opened) (append_assoc (marks_of_form e.0) (marks inner) ms)
    ∙ e.1 opened (marks inner ++ ms) h
    ∙ ap (λ (t : Bool). nat_le (nesting_of_form e.0 + length opened) 200 && t) (all_fit fs opened ms h)
    ∙ sym (both (nesting_of_form e.0) (nesting inner) (length opened) (fine opened ms))

atom_fits : (a : atoms.Atom) → ShapeFits (shape_of a)
atom_fits a p opened ms h = ap (λ (xs : List Mark). fine opened (xs ++ ms)) (form_marks (shape_of a) p ∙ ap (λ (f : Place → List Mark). f p) (atom_level a))
    ∙ sym (within (length opened) (fine opened ms) h)
    ∙ ap (λ (n : ℕ). nat_le (n + length opened) 200 && fine opened ms) (sym (form_nesting (shape_of a) p ∙ atom_nesting a))

same_kind : (b : Bracket) → same_bracket b b ≡ true
same_kind Round = refl
same_kind Square = refl

deeper : (n d : ℕ) (t : Bool) → n < 200 → (nat_le (d + suc n) 200 && t) ≡ (nat_le (d + 1 + n) 200 && t)
deeper n d t h = grind (arith, nat_tests)

too_deep : (n d : ℕ) (t : Bool) → 200 ≤ n → false ≡ (nat_le (d + 1 + n) 200 && t)
too_deep n d t h = grind (arith, nat_tests)

is_below : (n : ℕ) → nat_lt n 200 ≡ true → n < 200
is_below n e = grind (arith, nat_tests)

is_not_below : (n : ℕ) → nat_lt n 200 ≡ false → 200 ≤ n
is_not_below n e = grind (arith, nat_tests)

inside : (b : Bracket) (fs : List ((f : Form) × Fits f)) (p : Place) (opened : List Bracket) (ms : List Mark) (t : Bool) → nat_lt (length opened) 200 ≡ t
    → (t && fine (b ∷ opened) (marks (map (λ e. e.0) fs) ++ mark p (Close b) ∷ ms)) ≡ (nat_le (nesting (map (λ e. e.0) fs) + 1 + length opened) 200 && fine opened ms)
inside b fs p opened ms true e =
    let n : length opened < 200 = is_below (length opened) e in
    let inner = map (λ (e : (f : Form) × Fits f). e.0) fs in
    all_fit fs (b ∷ opened) (mark p (Close b) ∷ ms) (omega arith)
    ∙ ap (λ (t : Bool). nat_le (nesting inner + suc (length opened)) 200 && (t && fine opened ms)) (same_kind b)
    ∙ deeper (length opened) (nesting inner) (fine opened ms) n
inside b fs p opened ms false e = too_deep (length opened) (nesting (map (λ (e : (f : Form) × Fits f). e.0) fs)) (fine opened ms) (is_not_below (length opened) e)

group_fits : (b : Bracket) (fs : List ((f : Form) × Fits f)) → ShapeFits (group b (map (λ e. e.0) fs))
group_fits b fs p opened ms h =
    let inner = map (λ (e : (f : Form) × Fits f). e.0) fs in
    ap (λ (xs : List Mark). fine opened (xs ++ ms)) (form_marks (group b inner) p ∙ ap (λ (f : Place → List Mark). f p) (group_level b inner))
    ∙ ap (λ (xs : List Mark). nat_lt (length opened) 200 && fine (b ∷ opened) xs) (append_assoc (marks inner) (mark p (Close b) ∷ []) ms)
    ∙ inside b fs p opened ms (nat_lt (length opened) 200) refl
    ∙ ap (λ (n : ℕ). nat_le (n + length opened) 200 && fine opened ms) (sym (form_nesting (group b inner) p ∙ group_nesting b inner))

shape_fits : (y : Shape-F ((s : Shape) × ShapeFits s) ((f : Form) × Fits f)) → ShapeFits (roll-Shape (map-Shape ((s : Shape) × ShapeFits s) ((f : Form) × Fits f) Shape Form (λ e. e.0) (λ e. e.0) y))
shape_fits Shape-F.Nil = subst ShapeFits (sym shape.rolls-Nil) (atom_fits atom.Nil)
shape_fits (Shape-F.Bool b) = subst ShapeFits (sym (shape.rolls-Bool b)) (atom_fits (atom.Bool b))
shape_fits (Shape-F.Int z) = subst ShapeFits (sym (shape.rolls-Int z)) (atom_fits (atom.Int z))
shape_fits (Shape-F.Text name) = subst ShapeFits (sym (shape.rolls-Text name)) (atom_fits (atom.Text name))
shape_fits (Shape-F.Keyword name) = subst ShapeFits (sym (shape.rolls-Keyword name)) (atom_fits (atom.Keyword name))
shape_fits (Shape-F.Symbol name) = subst ShapeFits (sym (shape.rolls-Symbol name)) (atom_fits (atom.Symbol name))
shape_fits (Shape-F.List fs) = subst ShapeFits (sym (shape.rolls-List (map (λ e. e.0) fs))) (group_fits Round fs)
shape_fits (Shape-F.Vector fs) = subst ShapeFits (sym (shape.rolls-Vector (map (λ e. e.0) fs))) (group_fits Square fs)

fits : (f : Form) → Fits f
fits = ind-Form ShapeFits Fits (λ x y is. subst (λ z. ShapeFits (roll-Shape z)) is (shape_fits y)) (λ x y is. subst (λ z. Fits (roll-Form z)) is (y.shape.1 y.place))

with_proofs : (fs : List Form) → map (λ (e : (f : Form) × Fits f). e.0) (map (λ (f : Form). (f, fits f)) fs) ≡ fs
with_proofs [] = refl
with_proofs (f ∷ fs) = ap (λ (gs : List Form). f ∷ gs) (with_proofs fs)

shallow : (n : ℕ) → (nat_le (n + 0) 200 && true) ≡ nat_le n 200
shallow n = grind (arith, nat_tests)

none_is_short : 0 ≤ 200
none_is_short = omega arith

fine_of_marks : (fs : List Form) → fine [] (marks fs) ≡ nat_le (nesting fs) 200
fine_of_marks fs =
    let es = map (λ (f : Form). (f, fits f)) fs in
    let inner = map (λ (e : (f : Form) × Fits f). e.0) es in
    ap (λ (gs : List Form). fine [] (marks gs)) (sym (with_proofs fs))
    ∙ ap (fine []) (sym (append-nil (marks inner)))
    ∙ all_fit es [] [] none_is_short
    ∙ shallow (nesting inner)
    ∙ ap (λ (gs : List Form). nat_le (nesting gs) 200) (with_proofs fs)

nothing_is : (o : Option ReadRefusal) → nothing o ≡ true → o ≡ None
nothing_is None e = refl
nothing_is (Some r) e = absurd (cc e)

within_is : (n : ℕ) → nat_le n 200 ≡ true → n ≤ 200
within_is n e = grind (arith, nat_tests)

is_within : (n : ℕ) → n ≤ 200 → nat_le n 200 ≡ true
is_within n h = grind (arith, nat_tests)

-- tokens that are written for forms are accepted exactly where the forms are not too deep

pub accepted_if_shallow : (ls : List Lexeme) (forms : List Form) → marks_of_tokens ls ≡ marks forms → nesting forms ≤ 200 → first_refusal [] ls ≡ None
accepted_if_shallow ls forms e h = nothing_is (first_refusal [] ls) (refused_unless_fine ls [] ∙ ap (fine []) e ∙ fine_of_marks forms ∙ is_within (nesting forms) h)

pub shallow_if_accepted : (ls : List Lexeme) (forms : List Form) → marks_of_tokens ls ≡ marks forms → first_refusal [] ls ≡ None → nesting forms ≤ 200
shallow_if_accepted ls forms e h = within_is (nesting forms) (sym (fine_of_marks forms) ∙ ap (fine []) (sym e) ∙ sym (refused_unless_fine ls []) ∙ ap nothing h)

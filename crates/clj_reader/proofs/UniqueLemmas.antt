-- Forms are known from the tokens that they are written as.
use Rattle.std.proofs.Common.{◌≡◌, List, [], ◌∷◌, ◌++◌, map, Option, Some, refl, sym, ◌∙◌, ap, subst}
use Rattle.std.proofs.lemmas.List.{append-nil, append_assoc}
use Rattle.clj_reader.specs.declared.place.Place.{Place}
use Rattle.clj_reader.specs.declared.token.Token.{Token}
use Rattle.clj_reader.specs.declared.token.Token.TheVariants.{Open, Close, Atom}
use Rattle.clj_reader.specs.declared.token.Bracket.{Bracket}
use Rattle.clj_reader.specs.declared.token.Bracket.TheVariants.{Round, Square}
use Rattle.clj_reader.specs.declared.token.Atom as atoms
use Rattle.clj_reader.specs.declared.token.Atom.TheVariants as atom
use Rattle.clj_reader.specs.declared.nest.Opening.{Opening}
use Rattle.clj_reader.specs.declared.form.Form.{Form}
use Rattle.clj_reader.specs.declared.form.Shape.{Shape}
use Rattle.clj_reader.specs.declared.form.Shape.TheOpen.{Shape-F}
use Rattle.clj_reader.specs.declared.form.Shape.TheFolds.{ind-Form, map-Shape}
use Rattle.clj_reader.specs.declared.form.Shape.TheViews.{roll-Shape, roll-Form}
use Rattle.clj_reader.specs.declared.form.Shape.TheVariants as shape
use Rattle.clj_reader.specs.Marks.{Mark, mark, marks_of_form, marks}
use Rattle.clj_reader.specs.Nests.{form, shape_of, opening, group}
use Rattle.clj_reader.proofs.AssemblyLemmas.{form_marks, atom_level, group_level}

-- the forms of marks behind what stands, where the marks are those of forms
abbrev built_mark : List Opening → List Form → Option Place → Token → (List Opening → List Form → List Form) → List Form
built_mark opened forms (Some p) (Open b) go = go (opening p b forms ∷ opened) []
built_mark (o ∷ opened) forms p (Close b) go = go opened (o.before ++ form o.place (group o.bracket forms) ∷ [])
built_mark opened forms (Some p) (Atom a) go = go opened (forms ++ form p (shape_of a) ∷ [])
built_mark opened forms p t go = []

abbrev built : List Opening → List Form → List Mark → List Form
built opened forms [] = forms
built opened forms (m ∷ ms) = built_mark opened forms m.place m.token (λ more since. built more since ms)

-- the marks of a form build it
abbrev Builds : Form → Type 0
Builds f = (opened : List Opening) (forms : List Form) (ms : List Mark) → built opened forms (marks_of_form f ++ ms) ≡ built opened (forms ++ f ∷ []) ms

abbrev ShapeBuilds : Shape → Type 0
ShapeBuilds s = (p : Place) → Builds (form p s)

all_build : (fs : List ((f : Form) × Builds f)) (opened : List Opening) (forms : List Form) (ms : List Mark)
    → built opened forms (marks (map (λ e. e.0) fs) ++ ms) ≡ built opened (forms ++ map (λ e. e.0) fs) ms
all_build [] opened forms ms = ap (λ (fs : List Form). built opened fs ms) (sym (append-nil forms))
all_build (e ∷ fs) opened forms ms =
    ap (built opened forms) (append_assoc (marks_of_form e.0) (marks (map (λ e. e.0) fs)) ms)
    ∙ e.1 opened forms (marks (map (λ e. e.0) fs) ++ ms)
    ∙ all_build fs opened (forms ++ e.0 ∷ []) ms
    ∙ ap (λ (gs : List Form). built opened gs ms) (append_assoc forms (e.0 ∷ []) (map (λ e. e.0) fs))

atom_builds : (a : atoms.Atom) → ShapeBuilds (shape_of a)
atom_builds a p opened forms ms = ap (λ (xs : List Mark). built opened forms (xs ++ ms)) (form_marks (shape_of a) p ∙ ap (λ (f : Place → List Mark). f p) (atom_level a))

group_builds : (b : Bracket) (fs : List ((f : Form) × Builds f)) → ShapeBuilds (group b (map (λ e. e.0) fs))
group_builds b fs p opened forms ms =
    let inner = map (λ (e : (f : Form) × Builds f). e.0) fs in
    ap (λ (xs : List Mark). built opened forms (xs ++ ms)) (form_marks (group b inner) p ∙ ap (λ (f : Place → List Mark). f p) (group_level b inner))
    ∙ ap (built (opening p b forms ∷ opened) []) (append_assoc (marks inner) (mark p (Close b) ∷ []) ms)
    ∙ all_build fs (opening p b forms ∷ opened) [] (mark p (Close b) ∷ ms)

shape_builds : (y : Shape-F ((s : Shape) × ShapeBuilds s) ((f : Form) × Builds f)) → ShapeBuilds (roll-Shape (map-Shape ((s : Shape) × ShapeBuilds s) ((f : Form) × Builds f) Shape Form (λ e. e.0) (λ e. e.0) y))
shape_builds Shape-F.Nil = subst ShapeBuilds (sym shape.rolls-Nil) (atom_builds atom.Nil)
shape_builds (Shape-F.Bool b) = subst ShapeBuilds (sym (shape.rolls-Bool b)) (atom_builds (atom.Bool b))
shape_builds (Shape-F.Int z) = subst ShapeBuilds (sym (shape.rolls-Int z)) (atom_builds (atom.Int z))
shape_builds (Shape-F.Text name) = subst ShapeBuilds (sym (shape.rolls-Text name)) (atom_builds (atom.Text name))
shape_builds (Shape-F.Keyword name) = subst ShapeBuilds (sym (shape.rolls-Keyword name)) (atom_builds (atom.Keyword name))
shape_builds (Shape-F.Symbol name) = subst ShapeBuilds (sym (shape.rolls-Symbol name)) (atom_builds (atom.Symbol name))
shape_builds (Shape-F.List fs) = subst ShapeBuilds (sym (shape.rolls-List (map (λ e. e.0) fs))) (group_builds Round fs)
shape_builds (Shape-F.Vector fs) = subst ShapeBuilds (sym (shape.rolls-Vector (map (λ e. e.0) fs))) (group_builds Square fs)

builds : (f : Form) → Builds f
builds = ind-Form ShapeBuilds Builds (λ x y is. subst (λ z. ShapeBuilds (roll-Shape z)) is (shape_builds y)) (λ x y is. subst (λ z. Builds (roll-Form z)) is (y.shape.1 y.place))

with_proofs : (fs : List Form) → map (λ (e : (f : Form) × Builds f). e.0) (map (λ (f : Form). (f, builds f)) fs) ≡ fs
with_proofs [] = refl
with_proofs (f ∷ fs) = ap (λ (gs : List Form). f ∷ gs) (with_proofs fs)

marks_build : (fs : List Form) → built [] [] (marks fs) ≡ fs
marks_build fs =
    let es = map (λ (f : Form). (f, builds f)) fs in
    ap (λ (gs : List Form). built [] [] (marks gs)) (sym (with_proofs fs))
    ∙ ap (built [] []) (sym (append-nil (marks (map (λ (e : (f : Form) × Builds f). e.0) es))))
    ∙ all_build es [] [] [] ∙ with_proofs fs

-- forms that are written as the same tokens are the same
pub same_forms : (fs gs : List Form) → marks fs ≡ marks gs → fs ≡ gs
same_forms fs gs e = sym (marks_build fs) ∙ ap (built [] []) e ∙ marks_build gs

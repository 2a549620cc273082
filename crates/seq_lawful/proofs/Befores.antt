-- The forms of a lawful book that were done: the values of the forms before, under their names.
use Rattle.std.proofs.Common.{◌≡◌, ℕ, zero, suc, ◌<◌, ◌≤◌, List, [], ◌∷◌, ◌++◌, length, take, Some, slice_get, refl, ap, sym, subst, ◌∙◌, arith}
use Rattle.std.specs.Prelude.{unwrap_or}
use Rattle.seq_values.specs.declared.value.Value.{Value as Coded}
use Rattle.seq_values.specs.declared.value.Value.TheVariants.{Nil}
use Rattle.seq_values.specs.Model.{Value, nil, Outcome, gave}
use Rattle.seq_values.specs.Plain.{plain, plains}
use Rattle.clj_script.specs.Trees.{Top, Expr, def, defn, prn, ledger, Program}
use Rattle.seq_plan.specs.Plan.{Rules}
use Rattle.seq_plan.specs.Alike.{Likeness, Like, LikeList, like_end, like_item, like_nil, LikeOutcome, like_gave, like_threw}
use Rattle.cell_book.specs.declared.cell.ClaimEnd.TheVariants as E
use Rattle.cell_book.specs.declared.cell.Form.{Form}
use Rattle.cell_book.specs.Account.{Account}
use Rattle.cell_book.specs.Glimpses.{glimpse}
use Rattle.seq_meaning.specs.Gives.{IsNoDef, defn_none, prn_none, ledger_none, Before, none_before, def_before, other_before, Gives}
use Rattle.seq_meaning.specs.Names.{Name, form}
use Rattle.seq_meaning.specs.Referred.{seen_of, referred}
use Rattle.seq_lawful.specs.Sites.{Mode, at_form, on_form, ended_form, ValueOf, value_open, value_gave, value_threw, value_given_up, FormDone, form_gave, form_threw}
use Rattle.seq_lawful.specs.Lawful.{form_name, called, GivesSo, gives_so, Lawful}
use Rattle.seq_lawful.specs.Runs.{IsBefore, is_before}
use Rattle.seq_lawful.proofs.Named.{gives_of}

none_left : {C : Type 0} (tops : List Top) → referred {C = C} tops [] ≡ []
none_left [] = refl
none_left (t ∷ tops) = refl

-- what references see of one more value
pub referred_push : {C : Type 0} (tops : List Top) (vs : List (Value C)) {t : Top} (v : Value C) → slice_get tops (length vs) ≡ Some t → referred tops (vs ++ v ∷ []) ≡ referred tops vs ++ seen_of t v ∷ []
referred_push [] vs v q = absurd cc
referred_push (s ∷ tops) [] {t = t} v q = let e : s ≡ t = cc in rw (e, none_left tops)
referred_push (s ∷ tops) (u ∷ vs) v q = ap (λ l. seen_of s u ∷ l) (referred_push tops vs v q)

like_push : {R : Likeness ℕ Name} {xs : List (Value ℕ)} {ys : List (Value Name)} {x : Value ℕ} {y : Value Name} → LikeList R xs ys → Like R x y → LikeList R (xs ++ x ∷ []) (ys ++ y ∷ [])
like_push like_end h = like_item h like_end
like_push (like_item a l) h = like_item a (like_push l h)

take_push : {A : Type 0} (xs : List A) (i : ℕ) (x : A) → slice_get xs i ≡ Some x → take (suc i) xs ≡ take i xs ++ x ∷ []
take_push [] i x p = absurd cc
take_push (y ∷ xs) zero x p = let e : y ≡ x = cc in ap (λ z. z ∷ []) e
take_push (y ∷ xs) (suc i) x p = ap (λ l. y ∷ l) (take_push xs i x p)

take_long : {A : Type 0} (xs : List A) (i : ℕ) → i ≤ length xs → length (take i xs) ≡ i
take_long [] zero h = refl
take_long [] (suc i) h = absurd (omega arith)
take_long (x ∷ xs) zero h = refl
take_long (x ∷ xs) (suc i) h = ap suc (take_long xs i (omega arith))

take_whole : {A : Type 0} (xs : List A) → take (length xs) xs ≡ xs
take_whole [] = refl
take_whole (x ∷ xs) = ap (λ l. x ∷ l) (take_whole xs)

plains_push : (xs : List Coded) (x : Coded) → plains (xs ++ x ∷ []) ≡ plains xs ++ plain x ∷ []
plains_push [] x = refl
plains_push (y ∷ xs) x = ap (λ l. plain y ∷ l) (plains_push xs x)

length_plains : (xs : List Coded) → length (plains xs) ≡ length xs
length_plains [] = refl
length_plains (x ∷ xs) = ap suc (length_plains xs)

module _ (rules : Rules Name) (program : Program) (limit : ℕ) (a : Account) (law : Lawful rules program limit a) (mode : Mode) where
  -- the values of so many forms
  pub data HasBefore (outcomes : List Coded) (k : ℕ) : Type 0 where
    has_before : {defs : List (Value Name)} → Before rules program limit k defs → LikeList (called rules program limit a mode) (referred program.tops (plains (take k outcomes))) defs → HasBefore outcomes k

  -- a form that gave a value gives it under its name
  form_gives : (k : ℕ) (f : Form) (v : Coded) → slice_get a.forms k ≡ Some f → f.attempt.end ≡ E.Value → f.value ≡ Some v → GivesSo rules program limit a mode (form (suc k)) (gave (plain v))
  form_gives k f v p e q = let r = gives_of rules program limit a (law.ended mode (at_form k) f.attempt (gave (plain v)) (form (suc k)) (on_form p refl) (ended_form f e p q) (form_name p refl)) in gives_so r.1 r.2

  module _ (outcomes : List Coded) (long : length outcomes < length a.forms) (all : (i : ℕ) → i < length outcomes → IsBefore (glimpse a) outcomes i) where
    -- one more form
    one_more_form : (k : ℕ) → k < length outcomes → (f : Form) → slice_get a.forms k ≡ Some f → slice_get outcomes k ≡ Some (unwrap_or f.value Nil) → (t : Top) → slice_get program.tops k ≡ Some t → FormDone program k f → ValueOf f → HasBefore outcomes k → HasBefore outcomes (suc k)
    one_more_form k h f p q t top done val (has_before {defs = defs} b l) = go t top (sees t top)
      where
        u : Coded
        u = unwrap_or f.value Nil

        sees : (t : Top) → slice_get program.tops k ≡ Some t → referred program.tops (plains (take (suc k) outcomes)) ≡ referred program.tops (plains (take k outcomes)) ++ seen_of t (plain u) ∷ []
        sees t top =
            let n : length (plains (take k outcomes)) ≡ k = length_plains (take k outcomes) ∙ take_long outcomes k (omega (arith, h)) in
            ap (λ l. referred program.tops (plains l)) (take_push outcomes k u q) ∙ (ap (referred program.tops) (plains_push (take k outcomes) u) ∙ referred_push program.tops (plains (take k outcomes)) (plain u) (subst (λ i. slice_get program.tops i ≡ Some t) (sym n) top))

        other : (t : Top) → slice_get program.tops k ≡ Some t → IsNoDef t → referred program.tops (plains (take (suc k) outcomes)) ≡ referred program.tops (plains (take k outcomes)) ++ nil ∷ [] → HasBefore outcomes (suc k)
        other t top n e = has_before (other_before b top n refl) (subst (λ z. LikeList (called rules program limit a mode) z (defs ++ nil ∷ [])) (sym e) (like_push l like_nil))

        value_of : (name : ℕ) (e : Expr) → slice_get program.tops k ≡ Some (def name e) → FormDone program k f → f.attempt.end ≡ E.Value
        value_of name e top (form_gave z) = z
        value_of name e top (form_threw {t = t2} top2 n z) = absurd (not_def n (let y : t2 ≡ def name e = cc in y))
          where
            not_def : {s : Top} → IsNoDef s → s ≡ def name e → ⊥
            not_def defn_none y = absurd cc
            not_def prn_none y = absurd cc
            not_def ledger_none y = absurd cc

        has_value : f.attempt.end ≡ E.Value → ValueOf f → (v : Coded) × (f.value ≡ Some v)
        has_value z (value_open y r) = absurd cc
        has_value z (value_gave v y r) = (v, r)
        has_value z (value_threw y r) = absurd cc
        has_value z (value_given_up y r) = absurd cc

        defines : (name : ℕ) (e : Expr) → slice_get program.tops k ≡ Some (def name e) → (v : Coded) → f.attempt.end ≡ E.Value → f.value ≡ Some v → referred program.tops (plains (take (suc k) outcomes)) ≡ referred program.tops (plains (take k outcomes)) ++ plain u ∷ [] → HasBefore outcomes (suc k)
        defines name e top v en fv s = given refl (form_gives k f v p en fv)
          where
            uv : u ≡ v
            uv = ap (λ z. unwrap_or z Nil) fv

            like : {o : Outcome ℕ} {r : Outcome Name} → o ≡ gave (plain v) → Gives rules program limit (form (suc k)) r → LikeOutcome (called rules program limit a mode) o r → HasBefore outcomes (suc k)
            like z g (like_gave {v = v0} {w = w} i) =
                let d : v0 ≡ plain v = cc in
                has_before (def_before b top g refl) (subst (λ z. LikeList (called rules program limit a mode) z (defs ++ w ∷ [])) (sym (s ∙ ap (λ x. referred program.tops (plains (take k outcomes)) ++ plain x ∷ []) uv)) (like_push l (subst (λ x. Like (called rules program limit a mode) x w) d i)))
            like z g like_threw = absurd cc

            given : {o : Outcome ℕ} → o ≡ gave (plain v) → GivesSo rules program limit a mode (form (suc k)) o → HasBefore outcomes (suc k)
            given z (gives_so g i) = like z g i

        go : (t : Top) → slice_get program.tops k ≡ Some t → referred program.tops (plains (take (suc k) outcomes)) ≡ referred program.tops (plains (take k outcomes)) ++ seen_of t (plain u) ∷ [] → HasBefore outcomes (suc k)
        go (def name e) top s = let z = value_of name e top done in let v = has_value z val in defines name e top v.0 z v.1 s
        go defn top s = other defn top defn_none s
        go (prn e) top s = other (prn e) top prn_none s
        go ledger top s = other ledger top ledger_none s

    befores : (k : ℕ) → k ≤ length outcomes → HasBefore outcomes k
    befores zero h = has_before none_before (subst (λ z. LikeList (called rules program limit a mode) z []) (sym (none_left program.tops)) like_end)
    befores (suc k) h = at (all k (omega arith)) (befores k (omega arith))
      where
        at : IsBefore (glimpse a) outcomes k → HasBefore outcomes k → HasBefore outcomes (suc k)
        at (is_before f p o q) b = let r = law.forms_are k f p in one_more_form k (omega arith) f p q r.1 r.2 (law.forms_done k f p (omega arith)) (law.values k f p) b

    -- the values of all forms before
    pub all_befores : (defs : List (Value Name)) × Before rules program limit (length outcomes) defs × LikeList (called rules program limit a mode) (referred program.tops (plains outcomes)) defs
    all_befores = go (befores (length outcomes) (omega arith))
      where
        go : HasBefore outcomes (length outcomes) → (defs : List (Value Name)) × Before rules program limit (length outcomes) defs × LikeList (called rules program limit a mode) (referred program.tops (plains outcomes)) defs
        go (has_before {defs = defs} b l) = (defs, b, subst (λ z. LikeList (called rules program limit a mode) (referred program.tops (plains z)) defs) (take_whole outcomes) l)

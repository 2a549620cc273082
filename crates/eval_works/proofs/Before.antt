-- The values of the forms before, one after the other, as far as they may be referred to.
use Rattle.std.proofs.Common.{◌≡◌, ◌⊎◌, inl, inr, ℕ, zero, suc, ◌+◌, ◌≤◌, ◌<◌, List, [], ◌∷◌, length, drop, Some, slice_get, Bool, true, false, refl, ap, sym, subst, ◌∙◌, arith}
use Rattle.std.specs.Prelude.{MatchBool}
use Rattle.std.proofs.lemmas.List.{drop_all, at_drop_more, length-map}
use Rattle.std.proofs.lemmas.Option.{slice_get_within, get_or_from_slice_get}
use Rattle.cell_book.proofs.Lists.{get_within}
use Rattle.clj_script.specs.Trees.{Top}
use Rattle.seq_values.specs.declared.value.Value.{Value as Coded}
use Rattle.seq_values.specs.Model.{Value, nil}
use Rattle.seq_values.specs.Plain.{plain, plains}
use Rattle.seq_meaning.specs.Referred.{referred, seen_of}

item_at : {X : Type 0} (xs : List X) (i : ℕ) (x : X) → slice_get xs i ≡ Some x → drop i xs ≡ x ∷ drop (i + 1) xs
item_at xs i x e = at_drop_more (λ l. l) xs i x (slice_get_within xs i x e) ∙ ap (λ z. z ∷ drop (i + 1) xs) (get_or_from_slice_get xs i x x e)

plain_at : (vs : List Coded) (i : ℕ) (v : Coded) → slice_get vs i ≡ Some v → slice_get (plains vs) i ≡ Some (plain v)
plain_at [] i v e = absurd cc
plain_at (u ∷ us) zero v e = let z : u ≡ v = cc in ap (λ x. Some (plain x)) z
plain_at (u ∷ us) (suc i) v e = plain_at us i v e

one_more : (ts : List Top) (vs : List Coded) (i : ℕ) (t : Top) (v : Coded) → slice_get ts i ≡ Some t → slice_get vs i ≡ Some v → referred (drop i ts) (drop i (plains vs)) ≡ seen_of t (plain v) ∷ referred (drop (i + 1) ts) (drop (i + 1) (plains vs))
one_more ts vs i t v e f = ap (λ l. referred l (drop i (plains vs))) (item_at ts i t e) ∙ ap (λ l. referred (t ∷ drop (i + 1) ts) l) (item_at (plains vs) i (plain v) (plain_at vs i v f))

no_values_left : (ts : List Top) → referred {C = ℕ} ts [] ≡ []
no_values_left [] = refl
no_values_left (t ∷ ts) = refl

pub none_left : (ts : List Top) (vs : List Coded) (n : ℕ) → (length ts ≤ n) ⊎ (length vs ≤ n) → referred (drop n ts) (drop n (plains vs)) ≡ []
none_left ts vs n (inl h) = ap (λ l. referred l (drop n (plains vs))) (drop_all n ts h)
none_left ts vs n (inr h) = ap (λ l. referred (drop n ts) l) (drop_all n (plains vs) (let e = length-map vs plain in omega arith)) ∙ no_values_left (drop n ts)

-- the value of a form that is a `def`, or nil
pub next_is : (ts : List Top) (vs : List Coded) (i : ℕ) (is_def : Bool) → ((t : Top) (v : Value ℕ) → slice_get ts i ≡ Some t → MatchBool is_def (seen_of t v ≡ v) (seen_of t v ≡ nil)) → i < length ts → i < length vs → (w : Value ℕ) → ((v : Coded) → slice_get vs i ≡ Some v → MatchBool is_def (w ≡ plain v) (w ≡ nil)) → referred (drop i ts) (drop i (plains vs)) ≡ w ∷ referred (drop (i + 1) ts) (drop (i + 1) (plains vs))
next_is ts vs i is_def kind h k w is = one_more ts vs i t.0 v.0 t.1 v.1 ∙ ap (λ x. x ∷ referred (drop (i + 1) ts) (drop (i + 1) (plains vs))) (go is_def (kind t.0 (plain v.0) t.1) (is v.0 v.1))
  where
    t : (t : Top) × (slice_get ts i ≡ Some t)
    t = get_within ts i h

    v : (v : Coded) × (slice_get vs i ≡ Some v)
    v = get_within vs i k

    go : (b : Bool) → MatchBool b (seen_of t.0 (plain v.0) ≡ plain v.0) (seen_of t.0 (plain v.0) ≡ nil) → MatchBool b (w ≡ plain v.0) (w ≡ nil) → seen_of t.0 (plain v.0) ≡ w
    go true e f = e ∙ sym f
    go false e f = e ∙ sym f

pub next_nil : (ts : List Top) (vs : List Coded) (i : ℕ) (b : Bool) → b ≡ false → ((t : Top) (v : Value ℕ) → slice_get ts i ≡ Some t → MatchBool b (seen_of t v ≡ v) (seen_of t v ≡ nil)) → i < length ts → i < length vs → (w : Value ℕ) → w ≡ nil → referred (drop i ts) (drop i (plains vs)) ≡ w ∷ referred (drop (i + 1) ts) (drop (i + 1) (plains vs))
next_nil ts vs i b e kind h k w is = next_is ts vs i false (λ t v q. subst (λ x. MatchBool x (seen_of t v ≡ v) (seen_of t v ≡ nil)) e (kind t v q)) h k w (λ v q. is)

pub next_def : (ts : List Top) (vs : List Coded) (i : ℕ) (b : Bool) → b ≡ true → ((t : Top) (v : Value ℕ) → slice_get ts i ≡ Some t → MatchBool b (seen_of t v ≡ v) (seen_of t v ≡ nil)) → i < length ts → i < length vs → (u : Coded) → slice_get vs i ≡ Some u → referred (drop i ts) (drop i (plains vs)) ≡ plain u ∷ referred (drop (i + 1) ts) (drop (i + 1) (plains vs))
next_def ts vs i b e kind h k u at = next_is ts vs i true (λ t v q. subst (λ x. MatchBool x (seen_of t v ≡ v) (seen_of t v ≡ nil)) e (kind t v q)) h k (plain u) (λ v q. (let z : u ≡ v = cc in ap plain z))

-- The number that bounds how often items are halved is never reached.
use Rattle.std.proofs.Common.{◌≡◌, ℕ, zero, suc, ◌≤◌, ◌<◌, ◌/◌, pos, int_le, true, false, cond, List, [], ◌∷◌, length, take, drop, refl, ap, sym, ◌∙◌, arith}
use Rattle.std.proofs.Math.Arith.{half_le}
use Rattle.std.proofs.lemmas.Bool.Decides.{nat_tests}
use Rattle.std.proofs.lemmas.Int.{ints}
use Rattle.std.proofs.lemmas.List.{length-take}
use Rattle.seq_values.specs.declared.words.Kind.TheVariants.{Future}
use Rattle.seq_values.specs.declared.words.Op.TheVariants as O
use Rattle.seq_values.specs.Model.{Value, int, vector, values}
use Rattle.seq_plan.specs.Plan.{Plan, ask, call}
use Rattle.seq_plan.specs.Nodes.{make_term}
use Rattle.fold_rows.specs.Table.{fold_group, fold_at_most}
use Rattle.fold_rows.specs.Laws.{FoldsAGroup, FoldsHalves}

within : (a b : ℕ) → a ≤ b → int_le (pos a) (pos b) ≡ true
within a b h = grind (arith, nat_tests, ints)

over : (a b : ℕ) → b < a → int_le (pos a) (pos b) ≡ false
over a b h = grind (arith, nat_tests, ints)

abbrev half : List (Value ℕ) → List (Value ℕ)
half items = take (length items / 2) items

-- half of some items are fewer
fewer : (items : List (Value ℕ)) (n : ℕ) → length items ≤ suc n → length (half items) ≤ n
fewer items n h =
    let e : length items / 2 ≤ n = half_le h in
    rw (length-take (length items / 2) items) (omega (arith, e))

module _ (size : ℕ) (combine f : Value ℕ) (stages : List (Value ℕ)) where
  -- a fold of at most so many halvings
  abbrev folds : ℕ → List (Value ℕ) → (Value ℕ → Plan ℕ) → Plan ℕ
  folds n items k = fold_at_most n (pos size) combine f stages items k

  -- two halves, where what folds the first is given
  abbrev halved : ((Value ℕ → Plan ℕ) → Plan ℕ) → List (Value ℕ) → (Value ℕ → Plan ℕ) → Plan ℕ
  halved first items k =
      make_term Future O.Fold (vector (values (drop (length items / 2) items)) ∷ int (pos size) ∷ combine ∷ f ∷ stages) (λ m.
      first (λ left. ask m (λ right. call combine (left ∷ right ∷ []) k)))

  few : (n : ℕ) (items : List (Value ℕ)) (k : Value ℕ → Plan ℕ) → length items ≤ size → folds n items k ≡ fold_group combine f stages items k
  few zero items k h = refl
  few (suc n) items k h = ap (λ b. cond b (fold_group combine f stages items k) (halved (folds n (half items)) items k)) (within (length items) size h)

  more : (n : ℕ) (items : List (Value ℕ)) (k : Value ℕ → Plan ℕ) → size < length items → folds (suc n) items k ≡ halved (folds n (half items)) items k
  more n items k h = ap (λ b. cond b (fold_group combine f stages items k) (halved (folds n (half items)) items k)) (over (length items) size h)

  -- two bounds that are high enough do the same
  same_fold : (n m : ℕ) (items : List (Value ℕ)) (k : Value ℕ → Plan ℕ) → length items ≤ n → length items ≤ m → folds n items k ≡ folds m items k
  same_fold zero zero items k h g = refl
  same_fold zero (suc m) [] k h g = sym (few (suc m) [] k (omega arith))
  same_fold zero (suc m) (x ∷ xs) k h g = absurd (omega arith)
  same_fold (suc n) zero [] k h g = few (suc n) [] k (omega arith)
  same_fold (suc n) zero (x ∷ xs) k h g = absurd (omega arith)
  same_fold (suc n) (suc m) items k h g = λ i.
      cond (int_le (pos (length items)) (pos size)) (fold_group combine f stages items k)
      (halved (λ first. same_fold n m (half items) first (fewer items n h) (fewer items m g) i) items k)

pub folds_a_group : FoldsAGroup
folds_a_group size combine f stages items k h = few size combine f stages (length items) items k h

pub folds_halves : FoldsHalves
folds_halves size combine f stages [] k h = absurd (omega arith)
folds_halves size combine f stages (x ∷ xs) k h =
    let first : List (Value ℕ) = half (x ∷ xs) in
    let e : length first ≤ length xs = fewer (x ∷ xs) (length xs) (omega arith) in
    more size combine f stages (length xs) (x ∷ xs) k h
    ∙ (λ i. halved size combine f stages (λ l. same_fold size combine f stages (length xs) (length first) first l e (omega arith) i) (x ∷ xs) k)

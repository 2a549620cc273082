-- Turns of the action `fold`.
use Rattle.std.proofs.Common.{◌≡◌, ◌≢◌, ℕ, zero, suc, ◌+◌, ◌≤◌, ◌<◌, ◌/◌, ℤ, pos, negsuc, ◌≤ℤ◌, ◌<ℤ◌, List, [], ◌∷◌, length, take, drop, refl, ap, sym, subst, ◌∙◌, arith}
use Rattle.std.proofs.lemmas.Int.{ints}
use Rattle.std.proofs.lemmas.List.{length-map, take-map, drop-map}
use Rattle.seq_values.specs.Model as M
use Rattle.seq_values.specs.Plain.{plain, plains}
use Rattle.seq_values.specs.declared.value.Value.{Value}
use Rattle.seq_values.specs.declared.words.Kind.TheVariants as K
use Rattle.seq_values.specs.declared.words.Op.TheVariants as O
use Rattle.seq_plan.specs.Nodes.{make_term}
use Rattle.seq_plan.specs.Plan.{Plan, call, give, make}
use Rattle.seq_plan.specs.Stages.{reduces, fresh, enter_each}
use Rattle.seq_turns.specs.Turning.{Takes}
use Rattle.seq_turns.specs.declared.next.Next.{Next}
use Rattle.seq_turns.specs.declared.proper.Proper.{Proper}
use Rattle.fold_rows.specs.Table.{fold_group, fold_items}
use Rattle.fold_rows.proofs.Halves.{folds_a_group, folds_halves}
use Rattle.xf_stages.specs.Left.{stages_in, states_in}
use Rattle.xf_stages.specs.Opening.{AreFresh}
use Rattle.xf_stages.specs.declared.state.Stages.{Stages}
use Rattle.fold_rules.specs.Left.{after, combined, halved, left_value, reduced_to, running, second_half}
use Rattle.fold_rules.specs.declared.state.AtValue.TheVariants as V
use Rattle.fold_rules.specs.declared.state.Fold.{Fold}
use Rattle.fold_rules.specs.declared.state.Pending.{Pending}
use Rattle.fold_rules.specs.declared.state.State.{State}
use Rattle.fold_rules.proofs.Taking.{takes_same}

within : (a b : ℕ) → pos a ≤ℤ pos b → a ≤ b
within a b h = omega (arith, ints)

above : (a b : ℕ) → pos a <ℤ pos b → a < b
above a b h = omega (arith, ints)

-- the same number, as it is handed on
pub le_same : (n m : ℤ) (k : ℕ) → n ≡ m → pos k ≤ℤ n → pos k ≤ℤ m
le_same n m k e h = subst (λ z. pos k ≤ℤ z) e h

pub lt_same : (n m : ℤ) (k : ℕ) → n ≡ m → n <ℤ pos k → m <ℤ pos k
lt_same n m k e h = subst (λ z. z <ℤ pos k) e h

module _ (combine f : M.Value ℕ) (stages : List (M.Value ℕ)) (items : List Value) (k : M.Value ℕ → Plan ℕ) where
  long : length (plains items) ≡ length items
  long = length-map items plain

  -- so few items are a group
  pub goes_group : (n : ℤ) (r : Next State) → pos 0 <ℤ n → pos (length items) ≤ℤ n → Takes running (fold_group combine f stages (plains items) k) r → Takes running (fold_items n combine f stages (plains items) k) r
  goes_group (pos n) r s h t = takes_same (sym (folds_a_group n combine f stages (plains items) k (omega (arith, long, within (length items) n h)))) t
  goes_group (negsuc n) r s h t = absurd (omega (arith, ints, s))

  -- more are halved
  pub goes_halves : (n : ℤ) (half : ℕ) (r : Next State) → pos 0 <ℤ n → n <ℤ pos (length items) → half ≡ length items / 2 → Takes running (make_term K.Future O.Fold (M.vector (M.values (plains (drop half items))) ∷ M.int n ∷ combine ∷ f ∷ stages) (λ m. fold_items n combine f stages (plains (take half items)) (combined m combine k))) r → Takes running (fold_items n combine f stages (plains items) k) r
  goes_halves (pos n) half r s h e t =
      let where_is : half ≡ length (plains items) / 2 = e ∙ ap (λ l. l / 2) (sym long) in
      let second : plains (drop half items) ≡ drop (length (plains items) / 2) (plains items) = sym (drop-map plain half items) ∙ ap (λ m. drop m (plains items)) where_is in
      let first : plains (take half items) ≡ take (length (plains items) / 2) (plains items) = sym (take-map plain half items) ∙ ap (λ m. take m (plains items)) where_is in
      takes_same (
      (λ i. make_term K.Future O.Fold (M.vector (M.values (second i)) ∷ M.int (pos n) ∷ combine ∷ f ∷ stages) (λ m. fold_items (pos n) combine f stages (first i) (combined m combine k)))
      ∙ sym (folds_halves n combine f stages (plains items) k (omega (arith, long, above n (length items) h)))) t
  goes_halves (negsuc n) half r s h e t = absurd (omega (arith, ints, s))

pub drop_nothing : (xs : List Value) → drop 0 xs ≡ xs
drop_nothing xs = refl

-- ## A group

pub group_called : (combine f : M.Value ℕ) (stages : List (M.Value ℕ)) (items : List Value) (s : Stages) (p : Pending) (r : Next State) → length items ≢ 0 → stages_in s ≡ stages → AreFresh s → Takes running (call combine [] (λ init. enter_each (stages_in s) (states_in s) (reduces f init) (M.vector (M.values (plains items))) (reduced_to p))) r → Takes running (fold_group combine f stages (plains items) (after p)) r
group_called combine f stages [] s p r l e n h = absurd (l refl)
group_called combine f stages (x ∷ xs) s p r l e n h =
    takes_same (
    (λ i. call combine [] (λ init. enter_each (stages_in s) (n i) (reduces f init) (M.vector (M.values (plains (x ∷ xs)))) (reduced_to p)))
    ∙ (λ i. call combine [] (λ init. enter_each (e i) (fresh (e i)) (reduces f init) (M.vector (M.values (plains (x ∷ xs)))) (reduced_to p)))) h

pub group_empty : (combine f : M.Value ℕ) (stages : List (M.Value ℕ)) (items : List Value) (p : Pending) (r : Next State) → length items ≡ 0 → Takes running (call combine [] (after p)) r → Takes running (fold_group combine f stages (plains items) (after p)) r
group_empty combine f stages [] p r l h = h
group_empty combine f stages (x ∷ xs) p r l h = absurd cc

pub first_asked : (combine : M.Value ℕ) (s : Stages) (f c : Proper) (p : Pending) (args : List Value) (v : M.Value ℕ) (r : Next State) → plain c.value ≡ v → args ≡ [] → Takes running (call combine (plains args) (λ y. left_value (V.First s f c p) y)) r → Takes running (call combine [] (λ init. enter_each (stages_in s) (states_in s) (reduces (plain f.value) init) v (reduced_to p))) r
first_asked combine s f c p args v r e q h = takes_same (λ i. call combine (plains (q i)) (λ y. enter_each (stages_in s) (states_in s) (reduces (plain f.value) y) (e i) (reduced_to p))) h

pub answer_asked : (combine : M.Value ℕ) (p : Pending) (args : List Value) (r : Next State) → args ≡ [] → Takes running (call combine (plains args) (after p)) r → Takes running (call combine [] (after p)) r
answer_asked combine p args r q h = takes_same (ap (λ l. call combine (plains l) (after p)) q) h

-- ## Two halves

pub halves_made : (f : Fold) (first second a b : List Value) (p : Pending) (t : M.Term ℕ) (r : Next State) → first ≡ a → second ≡ b → t ≡ record { op = O.Fold; args = second_half f second } → Takes running (make K.Future t (λ m. halved f first p m)) r → Takes running (make_term K.Future O.Fold (second_half f b) (λ m. halved f a p m)) r
halves_made f first second a b p t r e s q h =
    takes_same (
    (λ i. make K.Future (q i) (λ m. halved f first p m))
    ∙ (λ i. make K.Future (record { op = O.Fold; args = second_half f (s i) }) (λ m. halved f (e i) p m))) h

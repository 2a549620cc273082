-- Which row a word has.
use Rattle.std.proofs.Common.{◌≡◌, ℕ, zero, suc, ◌+◌, ◌-◌, ◌<◌, ◌≤◌, Bool, true, false, cond, List, [], ◌∷◌, length, map, Option, Some, None, refl, sym, ap, ◌∙◌, subst, arith}
use Rattle.std.specs.Prelude.{slice_get}
use Rattle.seq_values.specs.Model as M
use Rattle.seq_values.specs.Plain.{plain, plains}
use Rattle.seq_values.specs.declared.value.Value.{Value}
use Rattle.seq_values.specs.declared.words.Builtin.{Builtin}
use Rattle.seq_values.specs.declared.words.Builtin.TheVariants as B
use Rattle.seq_plan.specs.Plan.{Plan}
use Rattle.core_rows.specs.Table.{core_call}
use Rattle.lazy_rows.specs.Table.{walk_call}
use Rattle.stage_rows.specs.Table.{stage_call}
use Rattle.fold_rows.specs.Table.{fold_call, is_reducer}
use Rattle.lazy_rules.specs.Words.{is_lazy_word}
use Rattle.walk_rules.specs.Words.{is_walk_word}
use Rattle.pull_rules.specs.Words.{is_stage_word}
use Rattle.reducer_values.specs.Words.{is_reducer_word}
use Rattle.seq_table.specs.Table.{on_word, reduce_row, into_row}
use Rattle.eval_rules.specs.Left.{ends_in_reducer, IsPlain}

-- ## The last argument

pub last_item : (xs : List Value) (v : Value) → Some v ≡ slice_get xs (length xs - 1) → is_reducer (plain v) ≡ ends_in_reducer (plains xs)
last_item xs v e = by xs (length xs - 1) v refl e
  where
    by : (xs : List Value) (n : ℕ) (v : Value) → n ≡ length xs - 1 → Some v ≡ slice_get xs n → is_reducer (plain v) ≡ ends_in_reducer (plains xs)
    by [] n v l e = absurd cc
    by (x ∷ []) zero v l e = let p : v ≡ x = cc in ap (λ u. is_reducer (plain u)) p
    by (x ∷ []) (suc n) v l e = absurd (omega (arith, l))
    by (x ∷ y ∷ ys) zero v l e = absurd (omega (arith, l))
    by (x ∷ y ∷ ys) (suc n) v l e = by (y ∷ ys) n v (omega (arith, l)) e

-- ## `reduce` and `into`

pub reduce_folds : (vs : List Value) → 2 ≤ length vs → length vs ≤ 3 → ends_in_reducer (plains vs) ≡ true → fold_call B.Reduce (plains vs) ≡ reduce_row (plains vs)
reduce_folds [] a b e = absurd (omega (arith, a))
reduce_folds (f ∷ []) a b e = absurd (omega (arith, a))
reduce_folds (f ∷ c ∷ []) a b e = sym (ap (λ t. cond t (fold_call B.Reduce (plain f ∷ plain c ∷ [])) (walk_call B.Reduce (plain f ∷ plain c ∷ []))) e)
reduce_folds (f ∷ i ∷ c ∷ []) a b e = sym (ap (λ t. cond t (fold_call B.Reduce (plain f ∷ plain i ∷ plain c ∷ [])) (walk_call B.Reduce (plain f ∷ plain i ∷ plain c ∷ []))) e)
reduce_folds (f ∷ i ∷ c ∷ d ∷ more) a b e = absurd (omega (arith, b))

pub reduce_walks : (vs : List Value) → 2 ≤ length vs → length vs ≤ 3 → ends_in_reducer (plains vs) ≡ false → walk_call B.Reduce (plains vs) ≡ reduce_row (plains vs)
reduce_walks [] a b e = absurd (omega (arith, a))
reduce_walks (f ∷ []) a b e = absurd (omega (arith, a))
reduce_walks (f ∷ c ∷ []) a b e = sym (ap (λ t. cond t (fold_call B.Reduce (plain f ∷ plain c ∷ [])) (walk_call B.Reduce (plain f ∷ plain c ∷ []))) e)
reduce_walks (f ∷ i ∷ c ∷ []) a b e = sym (ap (λ t. cond t (fold_call B.Reduce (plain f ∷ plain i ∷ plain c ∷ [])) (walk_call B.Reduce (plain f ∷ plain i ∷ plain c ∷ []))) e)
reduce_walks (f ∷ i ∷ c ∷ d ∷ more) a b e = absurd (omega (arith, b))

pub reduce_other : (vs : List Value) → ¬ (length vs ≡ 2) → ¬ (length vs ≡ 3) → walk_call B.Reduce (plains vs) ≡ reduce_row (plains vs)
reduce_other [] a b = refl
reduce_other (f ∷ []) a b = refl
reduce_other (f ∷ c ∷ []) a b = absurd (a refl)
reduce_other (f ∷ i ∷ c ∷ []) a b = absurd (b refl)
reduce_other (f ∷ i ∷ c ∷ d ∷ more) a b = refl

pub into_stages : (vs : List Value) → length vs ≡ 3 → stage_call B.Into (plains vs) ≡ into_row (plains vs)
into_stages [] e = absurd (omega (arith, e))
into_stages (a ∷ []) e = absurd (omega (arith, e))
into_stages (a ∷ b ∷ []) e = absurd (omega (arith, e))
into_stages (a ∷ b ∷ c ∷ []) e = refl
into_stages (a ∷ b ∷ c ∷ d ∷ more) e = absurd (omega (arith, e))

pub into_folds : (vs : List Value) → length vs ≡ 2 → ends_in_reducer (plains vs) ≡ true → fold_call B.Into (plains vs) ≡ into_row (plains vs)
into_folds [] n e = absurd (omega (arith, n))
into_folds (a ∷ []) n e = absurd (omega (arith, n))
into_folds (a ∷ c ∷ []) n e = sym (ap (λ t. cond t (fold_call B.Into (plain a ∷ plain c ∷ [])) (walk_call B.Into (plain a ∷ plain c ∷ []))) e)
into_folds (a ∷ b ∷ c ∷ more) n e = absurd (omega (arith, n))

pub into_walks : (vs : List Value) → length vs ≡ 2 → ends_in_reducer (plains vs) ≡ false → walk_call B.Into (plains vs) ≡ into_row (plains vs)
into_walks [] n e = absurd (omega (arith, n))
into_walks (a ∷ []) n e = absurd (omega (arith, n))
into_walks (a ∷ c ∷ []) n e = sym (ap (λ t. cond t (fold_call B.Into (plain a ∷ plain c ∷ [])) (walk_call B.Into (plain a ∷ plain c ∷ []))) e)
into_walks (a ∷ b ∷ c ∷ more) n e = absurd (omega (arith, n))

pub into_other : (vs : List Value) → ¬ (length vs ≡ 2) → ¬ (length vs ≡ 3) → walk_call B.Into (plains vs) ≡ into_row (plains vs)
into_other [] a b = refl
into_other (f ∷ []) a b = refl
into_other (f ∷ c ∷ []) a b = absurd (a refl)
into_other (f ∷ i ∷ c ∷ []) a b = absurd (b refl)
into_other (f ∷ i ∷ c ∷ d ∷ more) a b = refl

-- ## The other words

module _ (processors : ℕ) (xs : List (M.Value ℕ)) where
  pub is_lazy : (w : Builtin) → is_lazy_word w ≡ true → walk_call w xs ≡ on_word processors w xs
  is_lazy B.Map e = refl
  is_lazy B.Filter e = refl
  is_lazy B.Keep e = refl
  is_lazy B.Remove e = refl
  is_lazy B.Take e = refl
  is_lazy B.Drop e = refl
  is_lazy B.TakeWhile e = refl
  is_lazy B.DropWhile e = refl
  is_lazy B.Concat e = refl
  is_lazy B.Mapcat e = refl
  is_lazy B.Iterate e = refl
  is_lazy B.Range e = refl
  is_lazy B.Repeat e = refl
  is_lazy B.Cycle e = refl
  is_lazy B.PartitionAll e = refl
  is_lazy B.Cat e = refl
  is_lazy _ e = absurd cc

  pub makes_reducer : (w : Builtin) → is_reducer_word w ≡ true → fold_call w xs ≡ on_word processors w xs
  makes_reducer B.ReducerMap e = refl
  makes_reducer B.ReducerFilter e = refl
  makes_reducer B.ReducerRemove e = refl
  makes_reducer B.ReducerMapcat e = refl
  makes_reducer B.ReducerTake e = refl
  makes_reducer B.ReducerTakeWhile e = refl
  makes_reducer _ e = absurd cc

  pub is_staged : (w : Builtin) → is_stage_word w ≡ true → ¬ (w ≡ B.Into) → stage_call w xs ≡ on_word processors w xs
  is_staged B.Transduce e p = refl
  is_staged B.Sequence e p = refl
  is_staged B.Into e p = absurd (p refl)
  is_staged _ e p = absurd cc

  pub is_walk : (w : Builtin) → is_walk_word w ≡ true → IsPlain w → walk_call w xs ≡ on_word processors w xs
  is_walk B.Seq e p = refl
  is_walk B.First e p = refl
  is_walk B.Second e p = refl
  is_walk B.Rest e p = refl
  is_walk B.Next e p = refl
  is_walk B.Nth e p = refl
  is_walk B.Last e p = refl
  is_walk B.Count e p = refl
  is_walk B.IsEmpty e p = refl
  is_walk B.Cons e p = refl
  is_walk B.Conj e p = refl
  is_walk B.Vec e p = refl
  is_walk B.Reverse e p = refl
  is_walk B.Doall e p = refl
  is_walk B.IsEvery e p = refl
  is_walk B.Some e p = refl
  is_walk B.Apply e p = refl
  is_walk B.Equal e p = refl
  is_walk B.NotEqual e p = refl
  is_walk B.Reduce e p = absurd (p.0 refl)
  is_walk B.Into e p = absurd (p.1 refl)
  is_walk _ e p = absurd cc

  pub is_core : (w : Builtin) → IsPlain w → is_lazy_word w ≡ false → is_reducer_word w ≡ false → is_stage_word w ≡ false → is_walk_word w ≡ false → core_call w xs ≡ on_word processors w xs
  is_core B.Map p a b c d = absurd cc
  is_core B.Filter p a b c d = absurd cc
  is_core B.Keep p a b c d = absurd cc
  is_core B.Remove p a b c d = absurd cc
  is_core B.Take p a b c d = absurd cc
  is_core B.Drop p a b c d = absurd cc
  is_core B.TakeWhile p a b c d = absurd cc
  is_core B.DropWhile p a b c d = absurd cc
  is_core B.Concat p a b c d = absurd cc
  is_core B.Mapcat p a b c d = absurd cc
  is_core B.Iterate p a b c d = absurd cc
  is_core B.Range p a b c d = absurd cc
  is_core B.Repeat p a b c d = absurd cc
  is_core B.Cycle p a b c d = absurd cc
  is_core B.PartitionAll p a b c d = absurd cc
  is_core B.Cat p a b c d = absurd cc
  is_core B.Seq p a b c d = absurd cc
  is_core B.First p a b c d = absurd cc
  is_core B.Second p a b c d = absurd cc
  is_core B.Rest p a b c d = absurd cc
  is_core B.Next p a b c d = absurd cc
  is_core B.Nth p a b c d = absurd cc
  is_core B.Last p a b c d = absurd cc
  is_core B.Count p a b c d = absurd cc
  is_core B.IsEmpty p a b c d = absurd cc
  is_core B.Cons p a b c d = absurd cc
  is_core B.Conj p a b c d = absurd cc
  is_core B.Vec p a b c d = absurd cc
  is_core B.Reverse p a b c d = absurd cc
  is_core B.Doall p a b c d = absurd cc
  is_core B.IsEvery p a b c d = absurd cc
  is_core B.Some p a b c d = absurd cc
  is_core B.Apply p a b c d = absurd cc
  is_core B.Equal p a b c d = absurd cc
  is_core B.NotEqual p a b c d = absurd cc
  is_core B.ReducerMap p a b c d = absurd cc
  is_core B.ReducerFilter p a b c d = absurd cc
  is_core B.ReducerRemove p a b c d = absurd cc
  is_core B.ReducerMapcat p a b c d = absurd cc
  is_core B.ReducerTake p a b c d = absurd cc
  is_core B.ReducerTakeWhile p a b c d = absurd cc
  is_core B.Transduce p a b c d = absurd cc
  is_core B.Sequence p a b c d = absurd cc
  is_core B.Reduce p a b c d = absurd (p.0 refl)
  is_core B.Into p a b c d = absurd (p.1 refl)
  is_core B.Fold p a b c d = absurd (p.2 refl)
  is_core B.Pmap p a b c d = absurd (p.3 refl)
  is_core B.Seque p a b c d = absurd (p.4 refl)
  is_core _ p a b c d = refl

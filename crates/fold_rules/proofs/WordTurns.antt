-- The words, by the number of their arguments.
use Rattle.std.proofs.Common.{◌≡◌, ◌≢◌, ℕ, ℤ, pos, ◌≤ℤ◌, ◌<ℤ◌, int_le, Bool, true, false, cond, List, [], ◌∷◌, ◌++◌, length, Some, None, refl, ap, sym, ◌∙◌, arith}
use Rattle.std.proofs.lemmas.Int.{ints}
use Rattle.seq_base.specs.declared.thrown.Thrown.TheVariants.{Arity, BadType, Index}
use Rattle.seq_values.specs.Model as M
use Rattle.seq_values.specs.Model.{◌&◌}
use Rattle.seq_values.specs.Plain.{plain, plains}
use Rattle.seq_values.specs.Sight.{Sight}
use Rattle.seq_values.specs.WellFormedTerms.{is_fold_stage, are_fold_stages}
use Rattle.seq_values.specs.declared.value.Value.{Value}
use Rattle.seq_values.specs.declared.words.Builtin.TheVariants as B
use Rattle.seq_values.specs.declared.words.FolderKind.TheVariants as F
use Rattle.seq_values.specs.declared.words.Target.TheVariants as T
use Rattle.seq_plan.specs.Plan.{Plan, call, give, throw}
use Rattle.seq_plan.specs.WellFormed.{sight, sights}
use Rattle.seq_turns.specs.Arguments.{integer_of}
use Rattle.seq_turns.specs.Turning.{Takes}
use Rattle.seq_turns.specs.declared.next.Next.{Next}
use Rattle.fold_rows.specs.Table.{bottom, can_split, fold_call, fold_in, fold_items, fold_rule, items_of, reduce_rule, reducer_stage, reducer_stages}
use Rattle.reducer_values.specs.Layers.{IsFoldable}
use Rattle.reducer_values.specs.declared.shapes.Foldable.{Foldable}
use Rattle.reducer_values.proofs.Peeling.{fits_more}
use Rattle.fold_rules.specs.Left.{pended, running}
use Rattle.fold_rules.specs.declared.state.Half.{Half}
use Rattle.fold_rules.specs.declared.state.State.{State}
use Rattle.fold_rules.proofs.Taking.{takes_same}

-- ## Of the wrong number

pub reduce_arity : (xs : List Value) (r : Next State) → length xs ≢ 2 → length xs ≢ 3 → Takes running (throw Arity) r → Takes running (fold_call B.Reduce (plains xs)) r
reduce_arity [] r n m h = h
reduce_arity (a ∷ []) r n m h = h
reduce_arity (a ∷ b ∷ []) r n m h = absurd (n refl)
reduce_arity (a ∷ b ∷ c ∷ []) r n m h = absurd (m refl)
reduce_arity (a ∷ b ∷ c ∷ d ∷ xs) r n m h = h

pub into_arity : (xs : List Value) (r : Next State) → length xs ≢ 2 → Takes running (throw Arity) r → Takes running (fold_call B.Into (plains xs)) r
into_arity [] r n h = h
into_arity (a ∷ []) r n h = h
into_arity (a ∷ b ∷ []) r n h = absurd (n refl)
into_arity (a ∷ b ∷ c ∷ xs) r n h = h

pub fold_arity : (xs : List Value) (r : Next State) → length xs ≢ 2 → length xs ≢ 3 → length xs ≢ 4 → Takes running (throw Arity) r → Takes running (fold_call B.Fold (plains xs)) r
fold_arity [] r n m o h = h
fold_arity (a ∷ []) r n m o h = h
fold_arity (a ∷ b ∷ []) r n m o h = absurd (n refl)
fold_arity (a ∷ b ∷ c ∷ []) r n m o h = absurd (m refl)
fold_arity (a ∷ b ∷ c ∷ d ∷ []) r n m o h = absurd (o refl)
fold_arity (a ∷ b ∷ c ∷ d ∷ e ∷ xs) r n m o h = h

-- ## Of the right number

pub reduce_two : (xs : List Value) (f called c : Value) (r : Next State) → xs ≡ f ∷ c ∷ [] → called ≡ f → Takes running (call (plain called) [] (λ init. reduce_rule (plain f) init (plain c))) r → Takes running (fold_call B.Reduce (plains xs)) r
reduce_two xs f called c r e q h = takes_same (ap (λ g. call (plain g) [] (λ init. reduce_rule (plain f) init (plain c))) q ∙ ap (λ l. fold_call B.Reduce (plains l)) (sym e)) h

pub reduce_three : (xs : List Value) (f i c : Value) (r : Next State) → xs ≡ f ∷ i ∷ c ∷ [] → Takes running (reduce_rule (plain f) (plain i) (plain c)) r → Takes running (fold_call B.Reduce (plains xs)) r
reduce_three xs f i c r e h = takes_same (ap (λ l. fold_call B.Reduce (plains l)) (sym e)) h

pub into_two : (xs : List Value) (to f c : Value) (r : Next State) → xs ≡ to ∷ c ∷ [] → plain f ≡ M.function (T.Builtin B.Conj) M.no_values → Takes running (reduce_rule (plain f) (plain to) (plain c)) r → Takes running (fold_call B.Into (plains xs)) r
into_two xs to f c r e q h = takes_same (ap (λ g. reduce_rule g (plain to) (plain c)) q ∙ ap (λ l. fold_call B.Into (plains l)) (sym e)) h

pub fold_two : (xs : List Value) (f combine c : Value) (r : Next State) → xs ≡ f ∷ c ∷ [] → combine ≡ f → Takes running (fold_rule (pos 512) (plain combine) (plain f) (plain c)) r → Takes running (fold_call B.Fold (plains xs)) r
fold_two xs f combine c r e q h = takes_same (ap (λ g. fold_rule (pos 512) (plain g) (plain f) (plain c)) q ∙ ap (λ l. fold_call B.Fold (plains l)) (sym e)) h

pub fold_three : (xs : List Value) (combine f c : Value) (r : Next State) → xs ≡ combine ∷ f ∷ c ∷ [] → Takes running (fold_rule (pos 512) (plain combine) (plain f) (plain c)) r → Takes running (fold_call B.Fold (plains xs)) r
fold_three xs combine f c r e h = takes_same (ap (λ l. fold_call B.Fold (plains l)) (sym e)) h

pub fold_four : (xs : List Value) (n combine f c : Value) (r : Next State) → xs ≡ n ∷ combine ∷ f ∷ c ∷ [] → Takes running (fold_in (plain n) (plain combine) (plain f) (plain c)) r → Takes running (fold_call B.Fold (plains xs)) r
fold_four xs n combine f c r e h = takes_same (ap (λ l. fold_call B.Fold (plains l)) (sym e)) h

-- ## The size of a group

pub size_none : (v combine f c : M.Value ℕ) (r : Next State) → integer_of v ≡ None → Takes running (throw BadType) r → Takes running (fold_in v combine f c) r
size_none (M.int n) combine f c r e h = absurd cc
size_none _ combine f c r e h = h

the_integer : (v : M.Value ℕ) (n : ℤ) → integer_of v ≡ Some n → v ≡ M.int n
the_integer (M.int k) n e = ap M.int (cc e)
the_integer _ n e = absurd cc

below : (n : ℤ) → n <ℤ pos 1 → int_le (pos 1) n ≡ false
below n h = grind (arith, ints)

at_least : (n : ℤ) → pos 1 ≤ℤ n → int_le (pos 1) n ≡ true
at_least n h = grind (arith, ints)

pub size_below : (v combine f c : M.Value ℕ) (n : ℤ) (r : Next State) → integer_of v ≡ Some n → n <ℤ pos 1 → Takes running (throw Index) r → Takes running (fold_in v combine f c) r
size_below v combine f c n r e b h = takes_same (ap (λ t. cond t (fold_rule n combine f c) (throw Index)) (sym (below n b)) ∙ ap (λ w. fold_in w combine f c) (sym (the_integer v n e))) h

pub size_some : (v combine f c : M.Value ℕ) (n : ℤ) (r : Next State) → integer_of v ≡ Some n → pos 1 ≤ℤ n → Takes running (fold_rule n combine f c) r → Takes running (fold_in v combine f c) r
size_some v combine f c n r e b h = takes_same (ap (λ t. cond t (fold_rule n combine f c) (throw Index)) (sym (at_least n b)) ∙ ap (λ w. fold_in w combine f c) (sym (the_integer v n e))) h

-- ## What may be split

sights_more : (xs : List (M.Value ℕ)) (x : M.Value ℕ) → sights (M.values (xs ++ x ∷ [])) ≡ sights (M.values xs) ++ sight x ∷ []
sights_more [] x = refl
sights_more (y ∷ ys) x = ap (λ l. sight y ∷ l) (sights_more ys x)

one_more : (xs : List (M.Value ℕ)) (x : M.Value ℕ) → are_fold_stages (sights (M.values xs)) ≡ true → is_fold_stage (sight x) ≡ true → are_fold_stages (sights (M.values (xs ++ x ∷ []))) ≡ true
one_more xs x h k = ap are_fold_stages (sights_more xs x) ∙ fits_more (sights (M.values xs)) (sight x) h k

stages_fit : (v : M.Value ℕ) → can_split v ≡ true → are_fold_stages (sights (M.values (reducer_stages v))) ≡ true
stages_fit (M.vector items) e = refl
stages_fit (M.function (T.Folder F.Map) (f & c & M.no_values)) e = one_more (reducer_stages c) (reducer_stage F.Map f) (stages_fit c e) refl
stages_fit (M.function (T.Folder F.Filter) (f & c & M.no_values)) e = one_more (reducer_stages c) (reducer_stage F.Filter f) (stages_fit c e) refl
stages_fit (M.function (T.Folder F.Remove) (f & c & M.no_values)) e = one_more (reducer_stages c) (reducer_stage F.Remove f) (stages_fit c e) refl
stages_fit (M.function (T.Folder F.Mapcat) (f & c & M.no_values)) e = one_more (reducer_stages c) (reducer_stage F.Mapcat f) (stages_fit c e) refl
stages_fit _ e = absurd cc

pub foldable_fits : (v : M.Value ℕ) (f : Foldable) → IsFoldable v f → are_fold_stages (sights (M.values (plains f.stages.items))) ≡ true
foldable_fits v f h = ap (λ l. are_fold_stages (sights (M.values l))) h.stages_are ∙ stages_fit v h.splits

pub whole_goes : (n : ℤ) (combine f c : M.Value ℕ) (r : Next State) → can_split c ≡ false → Takes running (call combine [] (λ init. reduce_rule f init c)) r → Takes running (fold_rule n combine f c) r
whole_goes n combine f c r e h = takes_same (ap (λ t. cond t (fold_items n combine f (reducer_stages c) (items_of (bottom c)) give) (call combine [] (λ init. reduce_rule f init c))) (sym e)) h

pub split_goes : (n : ℤ) (combine f c : M.Value ℕ) (x : Foldable) (hs : List Half) (r : Next State) → IsFoldable c x → hs ≡ [] → Takes running (fold_items n combine f (plains x.stages.items) (plains x.items.items) (pended hs give)) r → Takes running (fold_rule n combine f c) r
split_goes n combine f c x hs r h o t =
    takes_same (
    (λ i. fold_items n combine f (h.stages_are i) (h.items_are i) (pended (o i) give))
    ∙ ap (λ t. cond t (fold_items n combine f (reducer_stages c) (items_of (bottom c)) give) (call combine [] (λ init. reduce_rule f init c))) (sym h.splits)) t

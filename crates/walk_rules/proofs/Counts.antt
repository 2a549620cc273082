-- Turns of `last` and `count`.
use Rattle.std.proofs.Common.{◌≡◌, ℕ, ◌-◌, ℤ, pos, ◌+ℤ◌, ◌-ℤ◌, unsigned_abs, true, false, int_le, int_lt, List, [], ◌∷◌, length, Some, None, refl, ap, sym, ◌∙◌, arith, rules}
use Rattle.std.proofs.lemmas.Int.{ints}
use Rattle.seq_base.specs.declared.thrown.Thrown.TheVariants.{Overflow}
use Rattle.seq_values.specs.Model as M
use Rattle.seq_values.specs.Plain.{plain, plains}
use Rattle.seq_values.specs.declared.value.Value.{Value}
use Rattle.seq_values.specs.declared.value.Value.TheVariants as V
use Rattle.seq_values.specs.declared.value.Node.TheVariants as N
use Rattle.seq_values.specs.declared.value.Node.TheFolds.{the_lemmas}
use Rattle.seq_values.specs.WellFormed.{is_well_formed}
use Rattle.seq_values.proofs.WellFormedLemmas.{node_in, range_ends}
use Rattle.seq_plan.specs.Plan.{visit, seq, go, give, throw, plan_of, last_from, count_from}
use Rattle.seq_plan.specs.Nodes.{first_of, rest_of, is_nil}
use Rattle.seq_plan.specs.Cursors.{stands}
use Rattle.seq_plan.specs.declared.cursor.Cursor.{Cursor}
use Rattle.seq_plan.proofs.CursorLemmas.{length_values, plain_vec_seq}
use Rattle.lazy_rows.specs.Walks.{last_rule, count_rule, count_ends, count_on, count_goes_on, greatest}
use Rattle.seq_turns.specs.declared.next.Next.{Next}
use Rattle.seq_turns.specs.declared.proper.Proper.{Proper}
use Rattle.seq_turns.specs.declared.places.Rest.{Rest}
use Rattle.seq_turns.specs.Seen.{rested}
use Rattle.seq_turns.proofs.Taking.{some_cursor}
use Rattle.walk_rules.specs.Left.{left_seq, left_step, Takes}
use Rattle.walk_rules.specs.Words.{is_another, left_at_once, range_left, vector_left}
use Rattle.walk_rules.specs.declared.state.AtSeq.TheVariants as Q
use Rattle.walk_rules.specs.declared.state.AtStep.TheVariants as T
use Rattle.walk_rules.specs.declared.state.State.{State}
use Rattle.walk_rules.proofs.Taking.{same, round}

-- ## `last`

pub last_begins : (v : M.Value ℕ) (x : Proper) (r : Next State) → plain x.value ≡ M.nil → Takes (seq v (λ s. left_seq (Q.Last x) s)) r → Takes (last_rule v) r
last_begins v x r e h = same (λ i. seq v (λ s. go last_from (e i ∷ s ∷ []) give)) h

pub last_ends : (x : Proper) (r : Next State) → Takes (give (plain x.value)) r → Takes (left_seq (Q.Last x) M.nil) r
last_ends x r h = round last_from (plain x.value ∷ M.nil ∷ []) refl h

pub last_goes : (x : Proper) (c : Cursor) (r : Next State) → Takes (visit (left_step (T.Last c))) r → Takes (left_seq (Q.Last x) (stands c)) r
last_goes x c r h = round last_from (plain x.value ∷ stands c ∷ []) refl (rw (some_cursor c) h)

pub last_steps : (c : Cursor) (x : Proper) (rest : Rest) (r : Next State) → plain x.value ≡ first_of (stands c) → rested rest ≡ rest_of (stands c) → Takes (seq (rested rest) (λ s. left_seq (Q.Last x) s)) r → Takes (left_step (T.Last c)) r
last_steps c x rest r e f h = same (λ i. seq (f i) (λ s. go last_from (e i ∷ s ∷ []) give)) h

-- ## `count`

pub of_nil : (v : M.Value ℕ) (r : Next State) → v ≡ M.nil → Takes (give (M.int (pos 0))) r → Takes (count_rule v) r
of_nil v r e h = same (ap count_rule (sym e)) h

pub of_vector : (v : M.Value ℕ) (xs : List Value) (r : Next State) → v ≡ M.vector (M.values (plains xs)) → Takes (give (M.int (pos (length xs)))) r → Takes (count_rule v) r
of_vector v xs r e h = same (ap (λ n. give (M.int (pos n))) (sym (length_values xs)) ∙ ap count_rule (sym e)) h

by_seq : (v : M.Value ℕ) → is_another v ≡ true → seq v (λ s. left_seq (Q.Count (pos 0)) s) ≡ count_rule v
by_seq M.nil e = absurd cc
by_seq (M.bool b) e = refl
by_seq (M.int m) e = refl
by_seq (M.keyword k) e = refl
by_seq (M.text t) e = refl
by_seq (M.vector xs) e = absurd cc
by_seq (M.function t xs) e = refl
by_seq (M.reduced v) e = refl
by_seq (M.cell c) e = refl
by_seq M.empty e = refl
by_seq (M.cons xs r) e = refl
by_seq (M.chunk xs r) e = refl
by_seq (M.range from at end) e = refl
by_seq (M.vec_seq xs at) e = refl

pub of_another : (v : M.Value ℕ) (p : Proper) (r : Next State) → plain p.value ≡ v → is_another v ≡ true → Takes (seq (plain p.value) (λ s. left_seq (Q.Count (pos 0)) s)) r → Takes (count_rule v) r
of_another v p r e a h = same (ap (λ x. seq x (λ s. left_seq (Q.Count (pos 0)) s)) e ∙ by_seq v a) h

pub count_ends_here : (n : ℤ) (r : Next State) → Takes (give (M.int n)) r → Takes (left_seq (Q.Count n) M.nil) r
count_ends_here n r h = round count_from (M.int n ∷ M.nil ∷ []) refl h

whole : (n : ℤ) (s : M.Value ℕ) (m : ℤ) → left_at_once s ≡ Some m → count_ends (n +ℤ m) ≡ count_on n s
whole n M.nil m e = absurd cc
whole n (M.bool b) m e = absurd cc
whole n (M.int k) m e = absurd cc
whole n (M.keyword k) m e = absurd cc
whole n (M.text t) m e = absurd cc
whole n (M.vector xs) m e = absurd cc
whole n (M.function t xs) m e = absurd cc
whole n (M.reduced v) m e = absurd cc
whole n (M.cell c) m e = absurd cc
whole n M.empty m e = absurd cc
whole n (M.cons xs r) m e = absurd cc
whole n (M.chunk xs r) m e = absurd cc
whole n (M.range from at end) m e = let p : m ≡ end -ℤ at = cc in ap (λ k. count_ends (n +ℤ k)) p
whole n (M.vec_seq xs at) m e = let p : m ≡ pos (length (M.list xs) - at) = cc in ap (λ k. count_ends (n +ℤ k)) p

plain_range : (from at end : ℤ) → plain (V.Node (N.Range from at end)) ≡ M.range from at end
plain_range from at end = search (rules, the_lemmas)

apart : (at end : ℤ) (k : ℕ) → int_lt at end ≡ true → k ≡ unsigned_abs (end -ℤ at) → end -ℤ at ≡ pos k
apart at end k b e = grind (arith, ints)

pub range_counts : (node : Value) (from at end : ℤ) (k : ℕ) → node ≡ V.Node (N.Range from at end) → is_well_formed node ≡ true → k ≡ unsigned_abs (end -ℤ at) → range_left (plain node) ≡ Some (pos k)
range_counts node from at end k is well e =
    ap (λ v. range_left (plain v)) is ∙ ap range_left (plain_range from at end) ∙ ap Some (apart at end k (range_ends from at end (node_in node (N.Range from at end) is well)) e)

pub vector_counts : (node : Value) (kept : ℕ) (items : List Value) (at k : ℕ) → node ≡ V.Node (N.VecSeq kept items at) → k ≡ length items - at → vector_left (plain node) ≡ Some (pos k)
vector_counts node kept items at k is e =
    ap (λ v. vector_left (plain v)) is ∙ ap vector_left (plain_vec_seq kept items at) ∙ ap (λ n. Some (pos (n - at))) (length_values items) ∙ ap (λ n. Some (pos n)) (sym e)

pub counts_whole : (n : ℤ) (c : Cursor) (m : ℕ) (r : Next State) → left_at_once (stands c) ≡ Some (pos m) → Takes (plan_of (count_ends (n +ℤ pos m))) r → Takes (left_seq (Q.Count n) (stands c)) r
counts_whole n c m r e h = round count_from (M.int n ∷ stands c ∷ []) refl (same (ap plan_of (whole n (stands c) (pos m) e)) h)

one : (n : ℤ) (s : M.Value ℕ) → is_nil s ≡ false → left_at_once s ≡ None → plan_of (count_on n s) ≡ visit (count_goes_on (n +ℤ pos 1) s)
one n M.nil a e = absurd cc
one n (M.bool b) a e = refl
one n (M.int m) a e = refl
one n (M.keyword m) a e = refl
one n (M.text t) a e = refl
one n (M.vector xs) a e = refl
one n (M.function t xs) a e = refl
one n (M.reduced v) a e = refl
one n (M.cell c) a e = refl
one n M.empty a e = refl
one n (M.cons xs r) a e = refl
one n (M.chunk xs r) a e = refl
one n (M.range from at end) a e = absurd cc
one n (M.vec_seq xs at) a e = absurd cc

pub counts_one : (n : ℤ) (c d : Cursor) (r : Next State) → stands d ≡ stands c → left_at_once (stands c) ≡ None → Takes (visit (left_step (T.Count n d))) r → Takes (left_seq (Q.Count n) (stands c)) r
counts_one n c d r f e h = round count_from (M.int n ∷ stands c ∷ []) refl (same (ap (λ s. visit (count_goes_on (n +ℤ pos 1) s)) f ∙ sym (one n (stands c) (some_cursor c) e)) h)

pub sum_fits : (n : ℤ) (r : Next State) → int_le n greatest ≡ true → Takes (give (M.int n)) r → Takes (plan_of (count_ends n)) r
sum_fits n r e h = rw e h

pub sum_over : (n m : ℤ) (r : Next State) → m ≡ n → int_le m greatest ≡ false → Takes (throw Overflow) r → Takes (plan_of (count_ends n)) r
sum_over n m r e b h = same (ap (λ k. plan_of (count_ends k)) e) (over m r b h)
  where
    over : (m : ℤ) (r : Next State) → int_le m greatest ≡ false → Takes (throw Overflow) r → Takes (plan_of (count_ends m)) r
    over m r b h = rw b h

pub sum_same : (n m : ℤ) (r : Next State) → m ≡ n → Takes (plan_of (count_ends m)) r → Takes (plan_of (count_ends n)) r
sum_same n m r e h = same (ap (λ k. plan_of (count_ends k)) e) h

pub count_passes : (n m : ℤ) (c : Cursor) (rest : Rest) (r : Next State) → rested rest ≡ rest_of (stands c) → Takes (seq (rested rest) (λ s. left_seq (Q.Count m) s)) r → m ≡ n +ℤ pos 1 → int_le (n +ℤ pos 1) greatest ≡ true → Takes (left_step (T.Count n c)) r
count_passes n m c rest r f h e t = rw t (same (λ i. seq (f i) (λ s. go count_from (M.int (e i) ∷ s ∷ []) give)) h)

pub count_steps : (n m : ℤ) (c : Cursor) (rest : Rest) (r : Next State) → m ≡ n +ℤ pos 1 → int_le m greatest ≡ true → rested rest ≡ rest_of (stands c) → Takes (seq (rested rest) (λ s. left_seq (Q.Count m) s)) r → Takes (left_step (T.Count n c)) r
count_steps n m c rest r e b f h =
    let t : int_le (n +ℤ pos 1) greatest ≡ true = sym (ap (λ k. int_le k greatest) e) ∙ b in
    rw t (same (λ i. seq (f i) (λ s. go count_from (M.int (e i) ∷ s ∷ []) give)) h)

pub count_over : (n : ℤ) (c : Cursor) (r : Next State) → n ≡ greatest → Takes (throw Overflow) r → Takes (left_step (T.Count n c)) r
count_over n c r e h = same (ap (λ k. left_step (T.Count k c)) (sym e)) h

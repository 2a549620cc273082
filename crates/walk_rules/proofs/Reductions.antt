-- Turns of `reduce` and `into`.
use Rattle.std.proofs.Common.{◌≡◌, ◌≢◌, ℕ, false, List, [], ◌∷◌, length, refl, ap, sym, ◌∙◌}
use Rattle.seq_base.specs.declared.thrown.Thrown.TheVariants.{Arity}
use Rattle.seq_values.specs.Model as M
use Rattle.seq_values.specs.Plain.{plain, plains}
use Rattle.seq_values.specs.declared.value.Value.{Value}
use Rattle.seq_values.specs.declared.words.Builtin.TheVariants as B
use Rattle.seq_values.specs.declared.words.Target.TheVariants as F
use Rattle.seq_plan.specs.Plan.{Plan, visit, seq, call, give, throw, reduce_from}
use Rattle.seq_plan.specs.Nodes.{first_of, rest_of}
use Rattle.seq_plan.specs.Cursors.{stands}
use Rattle.seq_plan.specs.declared.cursor.Cursor.{Cursor}
use Rattle.lazy_rows.specs.Walks.{reduce_call, into_call, unless_reduced}
use Rattle.seq_turns.specs.declared.next.Next.{Next}
use Rattle.seq_turns.specs.declared.proper.Proper.{Proper}
use Rattle.seq_turns.specs.declared.places.Rest.{Rest}
use Rattle.seq_turns.specs.Seen.{rested}
use Rattle.seq_turns.proofs.Taking.{some_cursor}
use Rattle.walk_rules.specs.Left.{left_seq, left_step, left_value, reduces, Takes}
use Rattle.walk_rules.specs.Words.{is_reduced}
use Rattle.walk_rules.specs.declared.state.AtSeq.TheVariants as Q
use Rattle.walk_rules.specs.declared.state.AtStep.TheVariants as T
use Rattle.walk_rules.specs.declared.state.AtValue.TheVariants as V
use Rattle.walk_rules.specs.declared.state.State.{State}
use Rattle.walk_rules.proofs.Taking.{same, round}

-- ## Arguments

pub call_two : (args : List Value) (f c : Proper) (r : Next State) → plains args ≡ plain f.value ∷ plain c.value ∷ [] → Takes (seq (plain c.value) (λ s. left_seq (Q.ReduceFirst f) s)) r → Takes (reduce_call (plains args)) r
call_two args f c r e h = same (ap reduce_call (sym e)) h

pub call_three : (args : List Value) (f i c : Proper) (r : Next State) → plains args ≡ plain f.value ∷ plain i.value ∷ plain c.value ∷ [] → Takes (seq (plain c.value) (λ s. left_seq (Q.Reduce f i) s)) r → Takes (reduce_call (plains args)) r
call_three args f i c r e h = same (ap reduce_call (sym e)) h

pub call_others : (args : List Value) (r : Next State) → length args ≢ 2 → length args ≢ 3 → Takes (throw Arity) r → Takes (reduce_call (plains args)) r
call_others [] r n m h = h
call_others (x ∷ []) r n m h = h
call_others (x ∷ y ∷ []) r n m h = absurd (n refl)
call_others (x ∷ y ∷ z ∷ []) r n m h = absurd (m refl)
call_others (x ∷ y ∷ z ∷ w ∷ ws) r n m h = h

pub into_two : (args : List Value) (f i c : Proper) (r : Next State) → plains args ≡ plain i.value ∷ plain c.value ∷ [] → plain f.value ≡ M.function (F.Builtin B.Conj) M.no_values → Takes (seq (plain c.value) (λ s. left_seq (Q.Reduce f i) s)) r → Takes (into_call (plains args)) r
into_two args f i c r e g h = same ((λ k. seq (plain c.value) (λ s. reduces (g k) (plain i.value) s)) ∙ ap into_call (sym e)) h

pub into_others : (args : List Value) (r : Next State) → length args ≢ 2 → Takes (throw Arity) r → Takes (into_call (plains args)) r
into_others [] r n h = h
into_others (x ∷ []) r n h = h
into_others (x ∷ y ∷ []) r n h = absurd (n refl)
into_others (x ∷ y ∷ z ∷ zs) r n h = h

-- ## Without a first value

pub first_none : (f : Proper) (args : List Value) (r : Next State) → args ≡ [] → Takes (call (plain f.value) (plains args) (λ y. left_value V.Answer y)) r → Takes (left_seq (Q.ReduceFirst f) M.nil) r
first_none f args r e h = same (ap (λ xs. call (plain f.value) (plains xs) give) e) h

pub first_some : (f : Proper) (c : Cursor) (r : Next State) → Takes (visit (left_step (T.ReduceFirst f c))) r → Takes (left_seq (Q.ReduceFirst f) (stands c)) r
first_some f c r h = rw (some_cursor c) h

pub first_steps : (f : Proper) (c : Cursor) (x : Proper) (rest : Rest) (r : Next State) → plain x.value ≡ first_of (stands c) → rested rest ≡ rest_of (stands c) → Takes (seq (rested rest) (λ s. left_seq (Q.Reduce f x) s)) r → Takes (left_step (T.ReduceFirst f c)) r
first_steps f c x rest r e g h = same (λ i. seq (g i) (λ s. reduces (plain f.value) (e i) s)) h

-- ## Rounds

pub reduce_ends : (f acc : Proper) (r : Next State) → Takes (give (plain acc.value)) r → Takes (left_seq (Q.Reduce f acc) M.nil) r
reduce_ends f acc r h = round reduce_from (plain f.value ∷ plain acc.value ∷ M.nil ∷ []) refl h

pub reduce_goes : (f acc : Proper) (c : Cursor) (r : Next State) → Takes (visit (left_step (T.Reduce f acc c))) r → Takes (left_seq (Q.Reduce f acc) (stands c)) r
reduce_goes f acc c r h = round reduce_from (plain f.value ∷ plain acc.value ∷ stands c ∷ []) refl (rw (some_cursor c) h)

pub reduce_calls : (f acc : Proper) (c : Cursor) (first : Proper) (args : List Value) (rest : Rest) (called : Proper) (r : Next State) → plain first.value ≡ first_of (stands c) → rested rest ≡ rest_of (stands c) → called.value ≡ f.value → plains args ≡ plain acc.value ∷ plain first.value ∷ [] → Takes (call (plain called.value) (plains args) (λ y. left_value (V.Reduce f rest) y)) r → Takes (left_step (T.Reduce f acc c)) r
reduce_calls f acc c first args rest called r e1 e2 e3 e4 h =
    let e : plains args ≡ plain acc.value ∷ first_of (stands c) ∷ [] = e4 ∙ ap (λ x. plain acc.value ∷ x ∷ []) e1 in
    same (λ i. call (plain (e3 i)) (e i) (λ y. unless_reduced y (seq (e2 i) (λ t. reduces (plain f.value) y t)))) h

pub answer_reduced : (f : Proper) (rest : Rest) (y : M.Value ℕ) (v : Proper) (r : Next State) → y ≡ M.reduced (plain v.value) → Takes (give (plain v.value)) r → Takes (left_value (V.Reduce f rest) y) r
answer_reduced f rest y v r e h = rw e h

goes_on : (y : M.Value ℕ) (p : Plan ℕ) → is_reduced y ≡ false → p ≡ unless_reduced y p
goes_on M.nil p e = refl
goes_on (M.bool b) p e = refl
goes_on (M.int m) p e = refl
goes_on (M.keyword n) p e = refl
goes_on (M.text t) p e = refl
goes_on (M.vector ys) p e = refl
goes_on (M.function t ys) p e = refl
goes_on (M.reduced v) p e = absurd cc
goes_on (M.cell c) p e = refl
goes_on M.empty p e = refl
goes_on (M.cons ys r) p e = refl
goes_on (M.chunk ys r) p e = refl
goes_on (M.range from at end) p e = refl
goes_on (M.vec_seq ys at) p e = refl

pub answer_on : (f : Proper) (rest : Rest) (y : M.Value ℕ) (v : Proper) (r : Next State) → plain v.value ≡ y → is_reduced y ≡ false → Takes (seq (rested rest) (λ s. left_seq (Q.Reduce f v) s)) r → Takes (left_value (V.Reduce f rest) y) r
answer_on f rest y v r e n h = same ((λ i. seq (rested rest) (λ s. reduces (plain f.value) (e i) s)) ∙ goes_on y (seq (rested rest) (λ s. reduces (plain f.value) y s)) n) h

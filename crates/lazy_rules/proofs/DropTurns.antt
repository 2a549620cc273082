-- Turns of `take` and `drop`.
use Rattle.std.specs.declared.result.Result.{Result}
use Rattle.std.proofs.Common.{◌≡◌, ℕ, ℤ, pos, ◌-ℤ◌, int_le, true, false, IfOk, [], ◌∷◌, refl, ap, ◌∙◌}
use Rattle.seq_values.specs.Model as M
use Rattle.seq_values.specs.Plain.{plains, plain_term}
use Rattle.seq_values.specs.declared.term.Term.{Term}
use Rattle.seq_values.specs.declared.words.Op.TheVariants as O
use Rattle.seq_plan.specs.Plan.{visit, seq, give, drop_from}
use Rattle.seq_plan.specs.Nodes.{first_of, rest_of}
use Rattle.seq_plan.specs.Lists.{first_and}
use Rattle.seq_plan.specs.Cursors.{stands}
use Rattle.seq_plan.specs.declared.cursor.Cursor.{Cursor}
use Rattle.seq_turns.specs.declared.next.Next.{Next}
use Rattle.seq_turns.proofs.Taking.{some_cursor}
use Rattle.lazy_rows.specs.Terms.{take_rule}
use Rattle.lazy_rules.specs.Left.{left_seq, left_step, Takes}
use Rattle.lazy_rules.specs.declared.state.AtSeq.TheVariants as Q
use Rattle.lazy_rules.specs.declared.state.AtStep.TheVariants as T
use Rattle.lazy_rules.specs.declared.state.State.{State}
use Rattle.lazy_rules.proofs.Taking.{takes_same, takes_round, ok_same}

pub drop_nil : (n : ℤ) (r : Next State) → Takes (give M.nil) r → Takes (left_seq (Q.Drop n) M.nil) r
drop_nil n r h = takes_round drop_from (M.int n ∷ M.nil ∷ []) refl h

pub drop_here : (n : ℤ) (c : Cursor) (r : Next State) → int_le n (pos 0) ≡ true → Takes (give (stands c)) r → Takes (left_seq (Q.Drop n) (stands c)) r
drop_here n c r b h = takes_round drop_from (M.int n ∷ stands c ∷ []) refl (rw (some_cursor c, b) h)

pub drop_goes : (n m : ℤ) (c : Cursor) (r : Next State) → int_le n (pos 0) ≡ false → m ≡ n -ℤ pos 1 → Takes (visit (left_step (T.Drop m c))) r → Takes (left_seq (Q.Drop n) (stands c)) r
drop_goes n m c r b e h = takes_round drop_from (M.int n ∷ stands c ∷ []) refl (rw (some_cursor c, b) (takes_same (ap (λ k. visit (left_step (T.Drop k c))) e) h))

-- a number as the callee has it
pub drop_counted : {E : Type 0} (n m : ℤ) (s : M.Value ℕ) (r : Result (Next State) E) → m ≡ n → IfOk r (λ x. Takes (left_seq (Q.Drop m) s) x) → IfOk r (λ x. Takes (left_seq (Q.Drop n) s) x)
drop_counted n m s r e h = ok_same r (ap (λ k. left_seq (Q.Drop k) s) e) h

pub take_left : {E : Type 0} (n m : ℤ) (s : M.Value ℕ) (r : Result (Next State) E) → m ≡ n → IfOk r (λ x. Takes (left_seq (Q.Take m) s) x) → IfOk r (λ x. Takes (left_seq (Q.Take n) s) x)
take_left n m s r e h = ok_same r (ap (λ k. left_seq (Q.Take k) s) e) h

pub take_first : (n m : ℤ) (c : Cursor) (first rest : M.Value ℕ) (t : Term) (r : Next State) → first ≡ first_of (stands c) → rest ≡ rest_of (stands c) → m ≡ n → plain_term t ≡ record { op = O.Take; args = M.int m ∷ rest ∷ [] } → Takes (first_and first t.op (plains t.args)) r → Takes (left_seq (Q.Take n) (stands c)) r
take_first n m c first rest t r e1 e2 e3 q h =
    let p : plain_term t ≡ record { op = O.Take; args = M.int n ∷ rest_of (stands c) ∷ [] } = q ∙ (λ i. record { op = O.Take; args = M.int (e3 i) ∷ e2 i ∷ [] }) in
    rw (some_cursor c) (takes_same (λ i. first_and (e1 i) (p i).op (p i).args) h)

pub take_none : (n : ℤ) (c : M.Value ℕ) (r : Next State) → int_le n (pos 0) ≡ true → Takes (give M.nil) r → Takes (take_rule n c) r
take_none n c r b h = rw b h

pub take_some : {E : Type 0} (n m : ℤ) (c : M.Value ℕ) (r : Result (Next State) E) → int_le n (pos 0) ≡ false → m ≡ n -ℤ pos 1 → IfOk r (λ x. Takes (seq c (λ s. left_seq (Q.Take m) s)) x) → IfOk r (λ x. Takes (take_rule n c) x)
take_some n m c r b e h = rw b (ok_same r (ap (λ k. seq c (λ s. left_seq (Q.Take k) s)) e) h)

pub drop_asked : (n m : ℤ) (v : M.Value ℕ) (r : Next State) → m ≡ n → Takes (seq v (λ s. left_seq (Q.Drop m) s)) r → Takes (seq v (λ s. left_seq (Q.Drop n) s)) r
drop_asked n m v r e h = takes_same (ap (λ k. seq v (λ s. left_seq (Q.Drop k) s)) e) h

pub take_goes : (n m : ℤ) (c : M.Value ℕ) (r : Next State) → int_le n (pos 0) ≡ false → m ≡ n -ℤ pos 1 → Takes (seq c (λ s. left_seq (Q.Take m) s)) r → Takes (take_rule n c) r
take_goes n m c r b e h = rw b (takes_same (ap (λ k. seq c (λ s. left_seq (Q.Take k) s)) e) h)

-- Turns of `cycle`, `iterate` and `repeat`.
use Rattle.std.proofs.Common.{◌≡◌, ℕ, List, [], ◌∷◌, ap, ◌∙◌}
use Rattle.seq_values.specs.Model as M
use Rattle.seq_values.specs.Plain.{plain, plains, plain_term}
use Rattle.seq_values.specs.declared.term.Term.{Term}
use Rattle.seq_values.specs.declared.value.Value.{Value}
use Rattle.seq_values.specs.declared.words.Op.{Op}
use Rattle.seq_values.specs.declared.words.Op.TheVariants as O
use Rattle.seq_plan.specs.Plan.{call}
use Rattle.seq_plan.specs.Nodes.{first_of, rest_of}
use Rattle.seq_plan.specs.Lists.{first_and}
use Rattle.seq_plan.specs.Cursors.{stands}
use Rattle.seq_plan.specs.declared.cursor.Cursor.{Cursor}
use Rattle.seq_turns.specs.declared.next.Next.{Next}
use Rattle.seq_turns.specs.declared.proper.Proper.{Proper}
use Rattle.seq_turns.proofs.Taking.{some_cursor}
use Rattle.lazy_rows.specs.Terms.{next_one_rule}
use Rattle.lazy_rules.specs.Left.{left_seq, left_value, Takes}
use Rattle.lazy_rules.specs.declared.state.AtSeq.TheVariants as Q
use Rattle.lazy_rules.specs.declared.state.AtValue.TheVariants as V
use Rattle.lazy_rules.specs.declared.state.State.{State}
use Rattle.lazy_rules.proofs.Taking.{takes_same}

pub cycle_goes : (w : Proper) (c : Cursor) (r : Next State) → Takes (first_and (first_of (stands c)) O.Cycle (plain w.value ∷ rest_of (stands c) ∷ [])) r → Takes (left_seq (Q.Cycle w) (stands c)) r
cycle_goes w c r h = rw (some_cursor c) h

pub cycle_begins_again : (w : Proper) (c : Cursor) (r : Next State) → Takes (first_and (first_of (stands c)) O.Cycle (plain w.value ∷ rest_of (stands c) ∷ [])) r → Takes (left_seq (Q.CycleAgain w) (stands c)) r
cycle_begins_again w c r h = rw (some_cursor c) h

-- an element before a part, as the code made the two
pub first_of_pair : (first : M.Value ℕ) (v a b a' b' : M.Value ℕ) (op : Op) (t : Term) (r : Next State) → first ≡ v → a ≡ a' → b ≡ b' → plain_term t ≡ record { op = op; args = a ∷ b ∷ [] } → Takes (first_and first t.op (plains t.args)) r → Takes (first_and v op (a' ∷ b' ∷ [])) r
first_of_pair first v a b a' b' op t r e1 e2 e3 q h =
    let p : plain_term t ≡ record { op = op; args = a' ∷ b' ∷ [] } = q ∙ (λ i. record { op = op; args = e2 i ∷ e3 i ∷ [] }) in
    takes_same (λ i. first_and (e1 i) (p i).op (p i).args) h

pub first_of_list : (v : M.Value ℕ) (xs : List (M.Value ℕ)) (ys : List Value) (op : Op) (t : Term) (r : Next State) → plains ys ≡ xs → plain_term t ≡ record { op = op; args = plains ys } → Takes (first_and v t.op (plains t.args)) r → Takes (first_and v op xs) r
first_of_list v xs ys op t r e q h =
    let p : plain_term t ≡ record { op = op; args = xs } = q ∙ ap (λ l. record { op = op; args = l }) e in
    takes_same (λ i. first_and v (p i).op (p i).args) h

pub next_calls : (f x called : Value) (args : List Value) (w : Proper) (r : Next State) → w.value ≡ f → called ≡ f → plains args ≡ plain x ∷ [] → Takes (call (plain called) (plains args) (λ y. left_value (V.Next w) y)) r → Takes (next_one_rule (plain f) (plain x)) r
next_calls f x called args w r e1 e2 e3 h = takes_same (λ i. call (plain (e2 i)) (e3 i) (λ y. first_and y O.Next (plain (e1 i) ∷ y ∷ []))) h

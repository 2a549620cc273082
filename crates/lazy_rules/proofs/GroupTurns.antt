-- Turns of `partition-all`.
use Rattle.std.specs.declared.result.Result.{Result}
use Rattle.seq_values.specs.declared.value.Value.{Value}
use Rattle.std.proofs.Common.{IfOk, ◌≡◌, ℕ, ℤ, pos, ◌-ℤ◌, int_le, true, false, List, [], ◌∷◌, ◌++◌, refl, ap, sym, ◌∙◌}
use Rattle.seq_values.specs.Model as M
use Rattle.seq_values.specs.Plain.{plains, plain_term}
use Rattle.seq_values.specs.declared.term.Term.{Term}
use Rattle.seq_values.specs.declared.words.Op.TheVariants as O
use Rattle.seq_plan.specs.Plan.{Plan, visit, seq, go, give, throw, parts_from}
use Rattle.seq_plan.specs.Nodes.{first_of, rest_of, if_nil, with_members}
use Rattle.seq_plan.specs.Lists.{list_of, first_and}
use Rattle.seq_plan.specs.Cursors.{stands}
use Rattle.seq_plan.specs.declared.cursor.Cursor.{Cursor}
use Rattle.seq_plan.proofs.CursorLemmas.{list_values, cursor_found}
use Rattle.seq_base.specs.declared.thrown.Thrown.TheVariants.{Overflow}
use Rattle.seq_turns.specs.Making.{Grows}
use Rattle.seq_turns.specs.declared.made.Grown.TheVariants as G
use Rattle.seq_turns.specs.declared.next.Next.{Next}
use Rattle.seq_turns.specs.declared.proper.Gathered.{Gathered}
use Rattle.seq_turns.specs.declared.proper.Proper.{Proper}
use Rattle.seq_turns.proofs.Taking.{some_cursor}
use Rattle.lazy_rows.specs.Terms.{parts_on}
use Rattle.lazy_rules.specs.Left.{left_seq, left_step, group_on, group_round, group_ends, Takes}
use Rattle.lazy_rules.specs.declared.state.AtSeq.TheVariants as Q
use Rattle.lazy_rules.specs.declared.state.AtStep.TheVariants as T
use Rattle.lazy_rules.specs.declared.state.Group.{Group}
use Rattle.lazy_rules.specs.declared.state.State.{State}
use Rattle.lazy_rules.proofs.Taking.{takes_same, takes_round, now_goes, ok_same}

pub round_visits : (g : Group) (c : Cursor) (r : Next State) → Takes (visit (left_step (T.Parts g c))) r → Takes (group_round g (stands c)) r
round_visits g c r h = takes_round parts_from (M.int g.size ∷ M.int g.left ∷ M.vector (M.values (plains g.taken.items.items)) ∷ stands c ∷ []) refl (takes_same (ap (λ l. visit (with_members (l ++ first_of (stands c) ∷ []) (λ ys. parts_on g.size (g.left -ℤ pos 1) ys (stands c)))) (sym (list_values (plains g.taken.items.items)))) h)

pub parts_goes : (g : Group) (c : Cursor) (r : Next State) → Takes (group_round g (stands c)) r → Takes (left_seq (Q.Parts g) (stands c)) r
parts_goes g c r h = rw (some_cursor c) h

pub next_goes : (g : Group) (rest : Proper) (c : Cursor) (r : Next State) → Takes (group_round g (stands c)) r → Takes (left_seq (Q.PartsNext g rest) (stands c)) r
next_goes g rest c r h = rw (some_cursor c) h

-- more of the same node comes next
pub goes_within : (g : Group) (c : Cursor) (r : Next State) → Takes (group_round g (stands c)) r → Takes (seq (stands c) (λ t. if_nil t (group_ends g (stands c)) (group_round g t))) r
goes_within g c r h = now_goes (λ t. if_nil t (group_ends g (stands c)) (group_round g t)) refl (cursor_found c) (rw (some_cursor c) h)

-- an element was taken
pub step_goes : (g : Group) (c : Cursor) (first rest : M.Value ℕ) (all : Gathered) (n m : ℤ) (r : Next State) → first ≡ first_of (stands c) → rest ≡ rest_of (stands c) → Grows (with_members (plains g.taken.items.items ++ first ∷ [])) (G.All all) → n ≡ g.size → m ≡ g.left -ℤ pos 1 → Takes (group_on n m (plains all.items.items) rest) r → Takes (left_step (T.Parts g c)) r
step_goes g c first rest all n m r e1 e2 q en em h =
    let k : List (M.Value ℕ) → Plan ℕ = λ ys. parts_on g.size (g.left -ℤ pos 1) ys (stands c) in
    let p : with_members (plains g.taken.items.items ++ first_of (stands c) ∷ []) k ≡ k (plains all.items.items) = ap (λ x. with_members (plains g.taken.items.items ++ x ∷ []) k) (sym e1) ∙ q.goes k in
    takes_same ((λ i. group_on (en i) (em i) (plains all.items.items) (e2 i)) ∙ sym p) h

pub step_throws : (g : Group) (c : Cursor) (first : M.Value ℕ) (r : Next State) → first ≡ first_of (stands c) → Grows (with_members (plains g.taken.items.items ++ first ∷ [])) G.TooMany → Takes (throw Overflow) r → Takes (left_step (T.Parts g c)) r
step_throws g c first r e q h =
    let k : List (M.Value ℕ) → Plan ℕ = λ ys. parts_on g.size (g.left -ℤ pos 1) ys (stands c) in
    let p : with_members (plains g.taken.items.items ++ first_of (stands c) ∷ []) k ≡ throw Overflow = ap (λ x. with_members (plains g.taken.items.items ++ x ∷ []) k) (sym e) ∙ q.goes k in
    takes_same (sym p) h

pub on_full : (n m : ℤ) (xs : List (M.Value ℕ)) (rest : M.Value ℕ) (r : Next State) → int_le m (pos 0) ≡ true → Takes (first_and (list_of xs) O.Parts (M.int n ∷ rest ∷ [])) r → Takes (group_on n m xs rest) r
on_full n m xs rest r b h = rw b h

-- what comes after an element tells whether the group goes on
abbrev tells_on : ℤ → ℤ → List Value → M.Value ℕ → Plan ℕ
tells_on n m xs s = seq s (λ t. if_nil t (first_and (list_of (plains xs)) O.Parts (M.int n ∷ s ∷ [])) (go parts_from (M.int n ∷ M.int m ∷ M.vector (M.values (plains xs)) ∷ t ∷ []) give))

on_same : (n m k l : ℤ) (xs : List Value) (rest s : M.Value ℕ) → k ≡ n → l ≡ m → s ≡ rest → int_le m (pos 0) ≡ false → tells_on k l xs s ≡ group_on n m (plains xs) rest
on_same n m k l xs rest s e1 e2 e4 b = rw b (λ i. tells_on (e1 i) (e2 i) xs (e4 i))

pub goes_on : (n m k l : ℤ) (xs : List Value) (rest s : M.Value ℕ) (r : Next State) → k ≡ n → l ≡ m → s ≡ rest → int_le m (pos 0) ≡ false → Takes (tells_on k l xs s) r → Takes (group_on n m (plains xs) rest) r
goes_on n m k l xs rest s r e1 e2 e4 b h = takes_same (on_same n m k l xs rest s e1 e2 e4 b) h

pub goes_on_ok : {E : Type 0} (n m k l : ℤ) (xs : List Value) (rest s : M.Value ℕ) (r : Result (Next State) E) → k ≡ n → l ≡ m → s ≡ rest → int_le m (pos 0) ≡ false → IfOk r (λ x. Takes (tells_on k l xs s) x) → IfOk r (λ x. Takes (group_on n m (plains xs) rest) x)
goes_on_ok n m k l xs rest s r e1 e2 e4 b h = ok_same r (on_same n m k l xs rest s e1 e2 e4 b) h

pub on_goes : (n m : ℤ) (xs : List (M.Value ℕ)) (rest : M.Value ℕ) (r : Next State) → int_le m (pos 0) ≡ false → Takes (seq rest (λ t. if_nil t (first_and (list_of xs) O.Parts (M.int n ∷ rest ∷ [])) (go parts_from (M.int n ∷ M.int m ∷ M.vector (M.values xs) ∷ t ∷ []) give))) r → Takes (group_on n m xs rest) r
on_goes n m xs rest r b h = rw b h

pub full_makes : (n m : ℤ) (xs : List (M.Value ℕ)) (rest : M.Value ℕ) (t : Term) (r : Next State) → m ≡ n → plain_term t ≡ record { op = O.Parts; args = M.int m ∷ rest ∷ [] } → Takes (first_and (list_of xs) t.op (plains t.args)) r → Takes (first_and (list_of xs) O.Parts (M.int n ∷ rest ∷ [])) r
full_makes n m xs rest t r e q h =
    let p : plain_term t ≡ record { op = O.Parts; args = M.int n ∷ rest ∷ [] } = q ∙ ap (λ k. record { op = O.Parts; args = M.int k ∷ rest ∷ [] }) e in
    takes_same (λ i. first_and (list_of xs) (p i).op (p i).args) h

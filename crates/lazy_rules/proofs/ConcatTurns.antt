-- Turns of `concat`.
use Rattle.std.proofs.Common.{◌≡◌, ℕ, zero, suc, ◌+◌, ◌<◌, ◌≤◌, List, [], ◌∷◌, length, drop, Some, None, refl, ap, sym, subst, ◌∙◌, arith}
use Rattle.seq_values.specs.Model as M
use Rattle.seq_values.specs.Plain.{plain, plains, plain_term}
use Rattle.seq_values.specs.declared.term.Term.{Term}
use Rattle.seq_values.specs.declared.value.Value.{Value}
use Rattle.seq_values.specs.declared.words.Kind.TheVariants.{Lazy}
use Rattle.seq_values.specs.declared.words.Op.TheVariants as O
use Rattle.seq_plan.specs.Plan.{Plan, make, seq, give}
use Rattle.seq_plan.specs.Nodes.{first_of, rest_of, chunk_of, if_nil, found, now, give_value, with_items}
use Rattle.seq_plan.specs.Lists.{first_and}
use Rattle.seq_plan.specs.Cursors.{stands}
use Rattle.seq_plan.specs.declared.cursor.Cursor.{Cursor}
use Rattle.seq_turns.specs.Turning.{Silent, arrives, finds}
use Rattle.seq_turns.specs.declared.next.Next.{Next}
use Rattle.seq_turns.proofs.Taking.{some_cursor, joins}
use Rattle.lazy_rows.specs.Table.{walk_round}
use Rattle.lazy_rows.specs.Terms.{concat_rule, concat_on}
use Rattle.lazy_rules.specs.Left.{is_lazy_loop, left_seq, Takes}
use Rattle.lazy_rules.specs.Leading.{leading_plan}
use Rattle.lazy_rules.specs.declared.concatenating.Leading.TheVariants as L
use Rattle.lazy_rules.specs.declared.state.AtSeq.TheVariants as Q
use Rattle.lazy_rules.specs.declared.state.Collections.{Collections}
use Rattle.lazy_rules.specs.declared.state.State.{State}
use Rattle.lazy_rules.proofs.Taking.{takes_same}

-- what may be passed over
abbrev pub Passes : Plan ℕ → Plan ℕ → Type 0
Passes p q = Silent is_lazy_loop walk_round p q

same_plan : {p q : Plan ℕ} → p ≡ q → Passes p q
same_plan {p = p} e = subst (λ x. Passes p x) e arrives

-- the others, of which there is one
others : (xs : List Value) (k : ℕ) → k < length xs → (x : Value) × (drop k xs ≡ x ∷ drop (k + 1) xs)
others [] k b = absurd (omega arith)
others (x ∷ xs) zero b = (x, refl)
others (x ∷ xs) (suc k) b =
    let e : suc k + 1 ≡ suc (k + 1) = omega arith in
    let p = others xs k (omega arith) in
    (p.0, rw e p.1)

-- the rule of two collections or more asks the first one
abbrev asks_first : ℕ → M.Value ℕ → List (M.Value ℕ) → Plan ℕ
asks_first size c others = seq c (λ s. if_nil s (concat_rule size others) (concat_on s others (chunk_of size s)))

asks : (size : ℕ) (args : List Value) (at : ℕ) (v : Value) → drop at args ≡ v ∷ drop (at + 1) args → at + 1 < length args → concat_rule size (plains (drop at args)) ≡ asks_first size (plain v) (plains (drop (at + 1) args))
asks size args at v e b =
    let p = others args (at + 1) b in
    ap (λ l. concat_rule size (plains l)) (e ∙ ap (λ l. v ∷ l) p.1) ∙ sym (ap (λ l. asks_first size (plain v) (plains l)) p.1)

pub passes_nil : (size : ℕ) (args : List Value) (at : ℕ) (v : Value) → drop at args ≡ v ∷ drop (at + 1) args → at + 1 < length args → found (plain v) ≡ now M.nil → Passes (concat_rule size (plains (drop at args))) (concat_rule size (plains (drop (at + 1) args)))
passes_nil size args at v e b f = subst (λ x. Passes x (concat_rule size (plains (drop (at + 1) args)))) (sym (asks size args at v e b)) (finds f arrives)

pub passes_node : (size : ℕ) (args : List Value) (at : ℕ) (v : Value) (c : Cursor) → drop at args ≡ v ∷ drop (at + 1) args → at + 1 < length args → found (plain v) ≡ now (stands c) → Passes (concat_rule size (plains (drop at args))) (leading_plan size args (L.Node c (at + 1)))
passes_node size args at v c e b f =
    let q : if_nil (stands c) (concat_rule size (plains (drop (at + 1) args))) (concat_on (stands c) (plains (drop (at + 1) args)) (chunk_of size (stands c))) ≡ leading_plan size args (L.Node c (at + 1)) = rw (some_cursor c) refl in
    subst (λ x. Passes x (leading_plan size args (L.Node c (at + 1)))) (sym (asks size args at v e b)) (finds f (same_plan q))

pub step_over : (size : ℕ) (p : Plan ℕ) (args : List Value) (at : ℕ) (q : Plan ℕ) → Passes p (concat_rule size (plains (drop at args))) → Passes (concat_rule size (plains (drop at args))) q → Passes p q
step_over size p args at q s t = joins s t

pub asked_is : (size : ℕ) (args : List Value) (at : ℕ) (v w : Value) → drop at args ≡ v ∷ drop (at + 1) args → at + 1 < length args → plain w ≡ plain v → Passes (concat_rule size (plains (drop at args))) (asks_first size (plain w) (plains (drop (at + 1) args)))
asked_is size args at v w e b q = same_plan (asks size args at v e b ∙ ap (λ x. asks_first size x (plains (drop (at + 1) args))) (sym q))

drop_all : (xs : List Value) (k : ℕ) → length xs ≤ k → drop k xs ≡ []
drop_all [] zero b = refl
drop_all [] (suc k) b = refl
drop_all (x ∷ xs) zero b = absurd (omega arith)
drop_all (x ∷ xs) (suc k) b = drop_all xs k (omega arith)

pub last_is : (size : ℕ) (args : List Value) (at : ℕ) (v : Value) → drop at args ≡ v ∷ drop (at + 1) args → length args ≤ at + 1 → Passes (concat_rule size (plains (drop at args))) (give (plain v))
last_is size args at v e b = same_plan (ap (λ l. concat_rule size (plains l)) (e ∙ ap (λ l. v ∷ l) (drop_all args (at + 1) b)))

pub none_is : (size : ℕ) (args : List Value) (at : ℕ) → length args ≤ at → Passes (concat_rule size (plains (drop at args))) (give M.nil)
none_is size args at b = same_plan (ap (λ l. concat_rule size (plains l)) (drop_all args at b))

-- ## After the first collection was asked

pub concat_passed : (c : Collections) (r : Next State) → Takes (concat_rule c.chunk (plains (drop c.at c.args.items))) r → Takes (left_seq (Q.Concat c) M.nil) r
concat_passed c r h = h

pub concat_found : (l : Collections) (c : Cursor) (r : Next State) → Takes (concat_on (stands c) (plains (drop l.at l.args.items)) (chunk_of l.chunk (stands c))) r → Takes (left_seq (Q.Concat l) (stands c)) r
concat_found l c r h = rw (some_cursor c) h

pub single_node : (size : ℕ) (s t : M.Value ℕ) (others : List (M.Value ℕ)) (r : Next State) → None ≡ chunk_of size s → t ≡ s → Takes (concat_on t others None) r → Takes (concat_on s others (chunk_of size s)) r
single_node size s t others r e q h = takes_same (ap (λ v. concat_on v others None) q ∙ ap (λ o. concat_on s others o) e) h

pub whole_node : (size : ℕ) (s : M.Value ℕ) (others xs : List (M.Value ℕ)) (rest : M.Value ℕ) (t : Term) (r : Next State) → Some (xs, rest) ≡ chunk_of size s → plain_term t ≡ record { op = O.Concat; args = rest ∷ others } → Takes (make Lazy (plain_term t) (λ m. give_value (with_items (M.values xs) (M.cell m)))) r → Takes (concat_on s others (chunk_of size s)) r
whole_node size s others xs rest t r e q h = takes_same (ap (λ o. concat_on s others o) e) (takes_same (ap (λ y. make Lazy y (λ m. give_value (with_items (M.values xs) (M.cell m)))) q) h)

pub single_first : (s first rest : M.Value ℕ) (others : List (M.Value ℕ)) (t : Term) (r : Next State) → first ≡ first_of s → rest ≡ rest_of s → plain_term t ≡ record { op = O.Concat; args = rest ∷ others } → Takes (first_and first t.op (plains t.args)) r → Takes (concat_on s others None) r
single_first s first rest others t r e1 e2 q h =
    let p : plain_term t ≡ record { op = O.Concat; args = rest_of s ∷ others } = q ∙ ap (λ x. record { op = O.Concat; args = x ∷ others }) e2 in
    takes_same (λ i. first_and (e1 i) (p i).op (p i).args) h

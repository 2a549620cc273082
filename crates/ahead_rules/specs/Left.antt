-- The plan that a rule has left, by where it stands and what it is told. Each clause is what its row says after the node that it waits for.
use Rattle.std.specs.Prelude.{ℕ, ◌+◌, pos, ◌-ℤ◌, int_le, cond, Bool, true, false, [], ◌∷◌, ◌++◌, drop, Option, Some, None}
use Rattle.seq_base.specs.declared.thrown.Thrown.TheVariants.{BadType}
use Rattle.seq_values.specs.declared.words.Kind.TheVariants.{Lazy, Future}
use Rattle.seq_values.specs.declared.words.Op.TheVariants as O
use Rattle.seq_values.specs.Model.{nil, int, cell, cons, no_values, ◌&◌, values}
use Rattle.seq_values.specs.Model as M
use Rattle.seq_values.specs.Plain.{plain, plains}
use Rattle.seq_plan.specs.Plan.{Plan, seq, go, give, throw, Loop, ahead_from, Told, begun, done, got, told_made}
use Rattle.seq_plan.specs.Nodes.{first_of, rest_of, chunk_of, if_nil, give_value, with_items, make_term, ask_each}
use Rattle.seq_plan.specs.Lists.{lazily, first_and, items_and}
use Rattle.seq_plan.specs.Cursors.{stands}
use Rattle.seq_turns.specs.Turning.{Wait, to_begin, a_step, a_seq, a_value, a_part, nothing, Running}
use Rattle.ahead_rows.specs.Table.{ask_of, step, start_each, rets_on, derefs_on, ahead_rule, ahead_call, ahead_term, ahead_round}
use Rattle.seq_turns.specs.declared.proper.Proper.{Proper}
use Rattle.ahead_rules.specs.declared.state.State.{State}
use Rattle.ahead_rules.specs.declared.state.State.TheVariants as S
use Rattle.ahead_rules.specs.declared.state.AtBegin.{AtBegin}
use Rattle.ahead_rules.specs.declared.state.AtBegin.TheVariants as B
use Rattle.ahead_rules.specs.declared.state.AtSeq.{AtSeq}
use Rattle.ahead_rules.specs.declared.state.AtSeq.TheVariants as Q
use Rattle.ahead_rules.specs.declared.state.AtStep.{AtStep}
use Rattle.ahead_rules.specs.declared.state.AtStep.TheVariants as T
use Rattle.ahead_rules.specs.declared.state.AtValue.{AtValue}
use Rattle.ahead_rules.specs.declared.state.AtValue.TheVariants as V
use Rattle.ahead_rules.specs.declared.state.AtPart.{AtPart}
use Rattle.ahead_rules.specs.declared.state.AtPart.TheVariants as P

-- a term, and a call of a word, is the row itself
abbrev pub left_begin : AtBegin → Plan ℕ
left_begin (B.Work w) = ahead_term w.chunk w.term.op (plains w.term.args)
left_begin (B.Call c) = ahead_call c.processors c.word (plains c.args)

-- what a step of `pmap` does with its part: it gives the part's cell, after the answer if there is one
abbrev pub stepped : Option Proper → ℕ → Plan ℕ
stepped None m = give (cell m)
stepped (Some y) m = give_value (cons (plain y.value & no_values) (cell m))

abbrev pub left_seq : AtSeq → M.Value ℕ → Plan ℕ
left_seq (Q.Rets f chunk) s = if_nil s (give nil) (rets_on (plain f.value) s (chunk_of chunk.elements s))
left_seq (Q.Step x xs vs) s =
    if_nil s
    (lazily O.Derefs (plain vs.value ∷ []))
    (ask_of (plain x.value) (λ y. step (plain xs.value) (rest_of s) (λ m. give_value (cons (y & no_values) (cell m)))))
left_seq (Q.Derefs chunk) s = if_nil s (give nil) (derefs_on s (chunk_of chunk.elements s))
left_seq (Q.First g) s =
    if_nil s
    (make_term Lazy O.Step (nil ∷ nil ∷ plain g.values.value ∷ plain g.further.value ∷ []) (stepped g.before))
    (seq (rest_of s) (λ xs. make_term Lazy O.Step (first_of s ∷ xs ∷ plain g.values.value ∷ plain g.further.value ∷ []) (stepped g.before)))
left_seq (Q.Others x g) xs = make_term Lazy O.Step (plain x.value ∷ xs ∷ plain g.values.value ∷ plain g.further.value ∷ []) (stepped g.before)
left_seq (Q.Ahead n c) s = go ahead_from (int n ∷ plain c.value ∷ s ∷ []) give
left_seq (Q.Near a) s = if_nil s (give nil) (make_term Future O.AheadOf (cell a ∷ []) (λ b. first_and (first_of s) O.Near (rest_of s ∷ cell b ∷ [])))

abbrev pub left_step : AtStep → Plan ℕ
left_step (T.Ahead n c) =
    cond (int_le n (pos 1))
    (give (rest_of (stands c)))
    (seq (rest_of (stands c)) (λ t. go ahead_from (int (n -ℤ pos 1) ∷ rest_of (stands c) ∷ t ∷ []) give))

abbrev pub left_value : AtValue → M.Value ℕ → Plan ℕ
left_value (V.Step xs fs) y = step (plain xs.value) (plain fs.value) (λ m. give_value (cons (y & no_values) (cell m)))
left_value (V.Derefs c rest) y = ask_each (plains c.answers.items.items ++ y ∷ []) (plains (drop c.at c.items.items)) (λ ys. items_and ys O.Derefs (plain rest.value ∷ []))
left_value (V.DerefsOne rest) y = first_and y O.Derefs (plain rest.value ∷ [])
left_value V.Call y = give y
left_value V.AheadOf y = ahead_rule (pos 1) y

abbrev pub left_part : AtPart → ℕ → Plan ℕ
left_part (P.PmapRets processors) m = make_term Lazy O.Drop (int (pos (2 + processors)) ∷ cell m ∷ []) (λ d. step (cell m) (cell d) (λ k. give (cell k)))
left_part (P.PmapDrop rets) m = step (cell rets) (cell m) (λ k. give (cell k))
left_part (P.Seque c) m = lazily O.Near (plain c.value ∷ cell m ∷ [])
left_part (P.Rets f c rest) m = start_each (plain f.value) (plains c.answers.items.items ++ cell m ∷ []) (plains (drop c.at c.items.items)) (λ ys. items_and ys O.Rets (plain f.value ∷ plain rest.value ∷ []))
left_part (P.RetsOne f rest) m = first_and (cell m) O.Rets (plain f.value ∷ plain rest.value ∷ [])
left_part (P.Near x rest) m = first_and (plain x.value) O.Near (plain rest.value ∷ cell m ∷ [])
left_part (P.Items ys) m = give_value (with_items (values (plains ys.items)) (cell m))
left_part (P.One x) m = give_value (cons (plain x.value & no_values) (cell m))
left_part P.Cell m = give (cell m)

abbrev pub left : State → Told ℕ → Plan ℕ
left (S.Begin q) begun = left_begin q
left (S.Seq q) (got s) = left_seq q s
left (S.Step q) done = left_step q
left (S.Value q) (got y) = left_value q y
left (S.Part q) (told_made m) = left_part q m
left _ _ = throw BadType

abbrev pub wait_of : State → Wait
wait_of (S.Begin q) = to_begin
wait_of (S.Seq q) = a_seq
wait_of (S.Step q) = a_step
wait_of (S.Value q) = a_value
wait_of (S.Part q) = a_part
wait_of S.Over = nothing

-- the one loop of this crate
abbrev pub is_ahead : Loop → Bool
is_ahead ahead_from = true
is_ahead _ = false

abbrev pub running : Running State
running = record { left = left; wait_of = wait_of; own = is_ahead; rounds = ahead_round }

-- The plan that a rule has left, by where it stands and what it is told. Each clause is a piece of the row's own text.
use Rattle.std.specs.Prelude.{ℕ, pos, int_le, Bool, true, false, cond, List, [], ◌∷◌, length}
use Rattle.seq_base.specs.declared.thrown.Thrown.TheVariants.{BadType}
use Rattle.seq_values.specs.Model as M
use Rattle.seq_values.specs.Model.{◌&◌}
use Rattle.seq_values.specs.Plain.{plain, plains}
use Rattle.seq_plan.specs.Plan.{Plan, seq, call, go, give, throw, Told, begun, done, got, told_made, Loop, enter_from, pull_from}
use Rattle.seq_plan.specs.Nodes.{first_of, rest_of, give_value, with_items, with_members}
use Rattle.seq_plan.specs.Stages.{reduces, gathers, Onward, answer_of, outputs_of, enter, enter_each, complete}
use Rattle.seq_plan.specs.Cursors.{stands}
use Rattle.seq_turns.specs.Seen.{rested}
use Rattle.seq_turns.specs.Turning.{Wait, to_begin, a_step, a_seq, a_value, a_part, nothing, Running, TakesTurn}
use Rattle.seq_turns.specs.declared.next.Next.{Next}
use Rattle.stage_rows.specs.Table.{stage_call, pull_term, stage_round, make_pull, last_outputs, after_pull}
use Rattle.xf_stages.specs.Left.{stages_in, states_in}
use Rattle.pull_rules.specs.Reducing.{left_reduction, reduction_waits, reduction_stages, reduction_function, left_gathering, waiting_for, waiting_stages}
use Rattle.pull_rules.specs.declared.state.State.{State}
use Rattle.pull_rules.specs.declared.state.State.TheVariants as S
use Rattle.pull_rules.specs.declared.state.AtBegin.{AtBegin}
use Rattle.pull_rules.specs.declared.state.AtBegin.TheVariants as B
use Rattle.pull_rules.specs.declared.state.AtSeq.{AtSeq}
use Rattle.pull_rules.specs.declared.state.AtSeq.TheVariants as Q
use Rattle.pull_rules.specs.declared.state.AtStep.{AtStep}
use Rattle.pull_rules.specs.declared.state.AtStep.TheVariants as T
use Rattle.pull_rules.specs.declared.state.AtValue.{AtValue}
use Rattle.pull_rules.specs.declared.state.AtValue.TheVariants as V
use Rattle.pull_rules.specs.declared.state.AtStages.{AtStages}
use Rattle.pull_rules.specs.declared.state.AtStages.TheVariants as G
use Rattle.pull_rules.specs.declared.state.AtPart.{AtPart}
use Rattle.pull_rules.specs.declared.state.AtPart.TheVariants as P

-- ## What goes on after stages

-- after the completion: the function is called with the answer alone
abbrev pub completed : M.Value ℕ → Onward ℕ
completed f = λ states sink done. call f (answer_of sink ∷ []) give

-- after a collection: done or not, the stages are completed
abbrev pub transduced : List (M.Value ℕ) → M.Value ℕ → Onward ℕ
transduced stages f = λ states sink done. complete stages states sink (λ after. call f (answer_of after ∷ []) give)

-- the loop of a pull, with the seq, and what comes after it
abbrev pub pull_at : ℕ → M.Value ℕ → List (M.Value ℕ) → List (M.Value ℕ) → List (M.Value ℕ) → M.Value ℕ → Plan ℕ
pull_at size xf stages states outputs s =
    go pull_from (M.int (pos size) ∷ M.vector (M.values stages) ∷ M.vector (M.values states) ∷ M.vector (M.values outputs) ∷ s ∷ []) (after_pull xf stages)

-- where the collection is at its end, or all is done
abbrev pub pull_ends : List (M.Value ℕ) → List (M.Value ℕ) → List (M.Value ℕ) → Plan ℕ
pull_ends stages states outputs = complete stages states (gathers outputs) (λ sink. last_outputs (outputs_of sink))

-- where there are outputs enough: what is left is left to another part
abbrev pub pull_stops : M.Value ℕ → List (M.Value ℕ) → List (M.Value ℕ) → M.Value ℕ → Plan ℕ
pull_stops xf states outputs rest = make_pull xf states rest (λ m. with_members outputs (λ xs. give_value (with_items (M.values xs) (M.cell m))))

-- after an element
abbrev pub pull_on : ℕ → M.Value ℕ → List (M.Value ℕ) → M.Value ℕ → Onward ℕ
pull_on size xf stages rest = λ states sink done.
    cond done
    (pull_ends stages states (outputs_of sink))
    (cond (int_le (pos size) (pos (length (outputs_of sink))))
    (pull_stops xf states (outputs_of sink) rest)
    (seq rest (λ t. pull_at size xf stages states (outputs_of sink) t)))

-- the outputs of the last pull
abbrev pub last_of : List (M.Value ℕ) → Plan ℕ
last_of [] = give M.nil
last_of (x ∷ xs) = give_value (M.chunk (M.values (x ∷ xs)) M.empty)

-- after the completion of a pull
abbrev pub pull_over : Onward ℕ
pull_over = λ states sink done. last_outputs (outputs_of sink)

-- ## By what the rule waits for

abbrev pub left_begin : AtBegin → Plan ℕ
left_begin (B.Work w) = pull_term w.enough (plains w.term.args)
left_begin (B.Call c) = stage_call c.word (plains c.args)

abbrev pub left_seq : AtSeq → M.Value ℕ → Plan ℕ
left_seq (Q.Pull p) s = pull_at p.pull.enough (plain p.pull.transducer.value) (stages_in p.stages) (states_in p.stages) (plains p.outputs.items.items) s

abbrev pub left_step : AtStep → Plan ℕ
left_step (T.Pull p c) = enter (stages_in p.stages) (states_in p.stages) (gathers (plains p.outputs.items.items)) (first_of (stands c)) (pull_on p.pull.enough (plain p.pull.transducer.value) (stages_in p.stages) (rest_of (stands c)))

abbrev pub left_value : AtValue → M.Value ℕ → Plan ℕ
left_value (V.First s f c) y = enter_each (stages_in s) (states_in s) (reduces (plain f.value) y) (plain c.value) (transduced (stages_in s) (plain f.value))
left_value V.Answer y = give y

abbrev pub left_stages : AtStages → Told ℕ → Plan ℕ
left_stages (G.Transduce r) t = left_reduction r t (transduced (reduction_stages r) (reduction_function r))
left_stages (G.Complete r) t = left_reduction r t (completed (reduction_function r))
left_stages (G.Pull m) t = left_gathering m.gathering t (pull_on m.pull.enough (plain m.pull.transducer.value) (waiting_stages m.gathering.waiting) (rested m.rest))
left_stages (G.PullEnd g) t = left_gathering g t pull_over

abbrev pub stages_wait : AtStages → Wait
stages_wait (G.Transduce r) = reduction_waits r
stages_wait (G.Complete r) = reduction_waits r
stages_wait (G.Pull m) = waiting_for m.gathering.waiting
stages_wait (G.PullEnd g) = waiting_for g.waiting

abbrev pub left_part : AtPart → ℕ → Plan ℕ
left_part P.Cell m = give (M.cell m)
left_part (P.Pulled outputs) m = with_members (plains outputs.items.items) (λ xs. give_value (with_items (M.values xs) (M.cell m)))

abbrev pub left : State → Told ℕ → Plan ℕ
left (S.Begin q) begun = left_begin q
left (S.Seq q) (got s) = left_seq q s
left (S.Step q) done = left_step q
left (S.Value q) (got y) = left_value q y
left (S.Stages q) t = left_stages q t
left (S.Part q) (told_made m) = left_part q m
left _ _ = throw BadType

abbrev pub wait_of : State → Wait
wait_of (S.Begin q) = to_begin
wait_of (S.Seq q) = a_seq
wait_of (S.Step q) = a_step
wait_of (S.Value q) = a_value
wait_of (S.Stages q) = stages_wait q
wait_of (S.Part q) = a_part
wait_of S.Over = nothing

-- the loops of this crate
abbrev pub is_stage_loop : Loop → Bool
is_stage_loop enter_from = true
is_stage_loop pull_from = true
is_stage_loop _ = false

-- how a rule of this crate runs
abbrev pub pulling : Running State
pulling = record { left = left; wait_of = wait_of; own = is_stage_loop; rounds = stage_round }

abbrev pub Takes : Plan ℕ → Next State → Type 0
Takes plan next = TakesTurn pulling plan next.state next.turn

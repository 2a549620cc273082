-- Turns of reductions.
use Rattle.std.proofs.Common.{◌≡◌, ℕ, List, [], refl, ap, sym, ◌∙◌}
use Rattle.seq_values.specs.Model as M
use Rattle.seq_values.specs.Plain.{plain, plains}
use Rattle.seq_values.specs.declared.value.Value.{Value}
use Rattle.seq_plan.specs.Plan.{Plan, call, give}
use Rattle.seq_plan.specs.Stages.{Onward, reduces, fresh, answer_of, enter_each}
use Rattle.seq_turns.specs.Turning.{Takes, arrives}
use Rattle.seq_turns.specs.declared.next.Next.{Next}
use Rattle.seq_turns.specs.declared.proper.Proper.{Proper}
use Rattle.fold_rows.specs.Table.{bottom, reducer_stages, reduce_rule}
use Rattle.xf_stages.specs.Left.{stages_in, states_in}
use Rattle.xf_stages.specs.Opening.{AreFresh}
use Rattle.xf_stages.specs.declared.state.Stages.{Stages}
use Rattle.pull_rules.specs.Reducing.{Errand, Runs, IsReductionAsked, reduction_node}
use Rattle.pull_rules.specs.declared.flow.Reduction.{Reduction}
use Rattle.pull_rules.specs.declared.flow.ReductionTurn.{ReductionTurn}
use Rattle.pull_rules.specs.declared.flow.ReductionTurn.TheVariants as RT
use Rattle.fold_rules.specs.Left.{left_value, pended, reduced_to, running}
use Rattle.fold_rules.specs.declared.state.AtValue.TheVariants as V
use Rattle.fold_rules.specs.declared.state.Half.{Half}
use Rattle.fold_rules.specs.declared.state.Pending.{Pending}
use Rattle.fold_rules.specs.declared.state.State.{State}
use Rattle.fold_rules.specs.declared.state.State.TheVariants as S
use Rattle.fold_rules.proofs.Taking.{takes_from, takes_same}

-- what goes on after a reduction takes what the reduction came to
pub turn_goes : (stages : List (M.Value ℕ)) (f : M.Value ℕ) (errand : Errand) (t : ReductionTurn) (k : Onward ℕ) (r : Next State) → Runs stages f errand t → Takes running (reduction_node t k) r → Takes running (errand k) r
turn_goes stages f errand t k r h g = takes_from (h.goes k) g

pub reduction_asks : (n : Next Reduction) (p : Pending) → IsReductionAsked (RT.Asks n) → Takes running (reduction_node (RT.Asks n) (reduced_to p)) (record { state = S.Reduction n.state p; turn = n.turn })
reduction_asks n p h = record { goes = arrives; step = h.step; waits = h.waits; well = h.well }

-- a reduction through the stages of a collection, after which nothing waits
same_rule : (f a c b : M.Value ℕ) (s : Stages) (p : Pending) → stages_in s ≡ reducer_stages c → b ≡ bottom c → AreFresh s → p.halves.items ≡ [] → enter_each (stages_in s) (states_in s) (reduces f a) b (reduced_to p) ≡ reduce_rule f a c
same_rule f a c b s p e q n o =
    (λ i. enter_each (stages_in s) (n i) (reduces f a) b (λ states sink done. pended (o i) give (answer_of sink)))
    ∙ (λ i. enter_each (e i) (fresh (e i)) (reduces f a) (q i) (λ states sink done. give (answer_of sink)))

pub rule_reduces : (f a c b : M.Value ℕ) (s : Stages) (p : Pending) (r : Next State) → stages_in s ≡ reducer_stages c → b ≡ bottom c → AreFresh s → p.halves.items ≡ [] → Takes running (enter_each (stages_in s) (states_in s) (reduces f a) b (reduced_to p)) r → Takes running (reduce_rule f a c) r
rule_reduces f a c b s p r e q n o h = takes_same (same_rule f a c b s p e q n o) h

pub rule_called : (first c : M.Value ℕ) (f b : Proper) (s : Stages) (p : Pending) (args : List Value) (r : Next State) → stages_in s ≡ reducer_stages c → plain b.value ≡ bottom c → AreFresh s → p.halves.items ≡ [] → args ≡ [] → Takes running (call first (plains args) (λ y. left_value (V.First s f b p) y)) r → Takes running (call first [] (λ init. reduce_rule (plain f.value) init c)) r
rule_called first c f b s p args r e q n o z h = takes_same (λ i. call first (plains (z i)) (λ y. same_rule (plain f.value) y c (plain b.value) s p e q n o i)) h

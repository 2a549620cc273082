-- Turns of `transduce`.
use Rattle.std.proofs.Common.{◌≡◌, ℕ, List, [], ◌∷◌, refl, sym, ◌∙◌}
use Rattle.seq_base.specs.declared.thrown.Thrown.{Thrown}
use Rattle.seq_values.specs.Model as M
use Rattle.seq_values.specs.Plain.{plain, plains}
use Rattle.seq_values.specs.declared.value.Value.{Value}
use Rattle.seq_plan.specs.Plan.{Plan, call, give, throw}
use Rattle.seq_plan.specs.Turns.{node}
use Rattle.seq_plan.specs.Stages.{reduces, with_stages, enter_each}
use Rattle.seq_turns.specs.Turning.{arrives}
use Rattle.seq_turns.specs.declared.next.Next.{Next}
use Rattle.seq_turns.specs.declared.proper.Proper.{Proper}
use Rattle.stage_rows.specs.Table.{transduce_rule}
use Rattle.xf_stages.specs.Left.{stages_in, states_in}
use Rattle.xf_stages.specs.Opening.{Opens, AreFresh}
use Rattle.xf_stages.specs.declared.state.Stages.{Stages}
use Rattle.xf_stages.specs.declared.state.Opened.TheVariants as O
use Rattle.pull_rules.specs.Left.{left_value, transduced, completed, Takes}
use Rattle.pull_rules.specs.Reducing.{IsAsked, Runs, Errand, left_reduction, reduction_waits, reduction_stages, reduction_function, reduction_node, turn_stages, turn_function}
use Rattle.pull_rules.specs.declared.state.AtStages.TheVariants as G
use Rattle.pull_rules.specs.declared.state.AtValue.TheVariants as V
use Rattle.pull_rules.specs.declared.flow.Reduction.{Reduction}
use Rattle.pull_rules.specs.declared.flow.ReductionTurn.{ReductionTurn}
use Rattle.pull_rules.specs.declared.flow.ReductionTurn.TheVariants as RT
use Rattle.pull_rules.specs.declared.state.State.{State}
use Rattle.pull_rules.specs.declared.state.State.TheVariants as S
use Rattle.pull_rules.proofs.Taking.{takes_from, takes_same, silent_stages}

-- ## A reduction that waits

pub over_waits : (n : Next Reduction) → IsAsked (reduction_waits n.state) n.turn → Takes (reduction_node (RT.Asks n) (transduced (reduction_stages n.state) (reduction_function n.state))) (record { state = S.Stages (G.Transduce n.state); turn = n.turn })
over_waits n h = record { goes = arrives; step = h.step; waits = h.waits; well = h.well }

pub completion_waits : (n : Next Reduction) → IsAsked (reduction_waits n.state) n.turn → Takes (reduction_node (RT.Asks n) (completed (reduction_function n.state))) (record { state = S.Stages (G.Complete n.state); turn = n.turn })
completion_waits n h = record { goes = arrives; step = h.step; waits = h.waits; well = h.well }

-- ## From an errand to what the reduction came to

-- the node with what goes on by the stages and the function that were there before
pub over_same : (stages : List (M.Value ℕ)) (f : M.Value ℕ) (errand : Errand) (t : ReductionTurn) → Runs stages f errand t → reduction_node t (transduced (turn_stages t) (turn_function t)) ≡ reduction_node t (transduced stages f)
over_same stages f errand (RT.Asks n) h = λ i. node n.turn (λ t. left_reduction n.state t (transduced (h.rests i) (h.keeps i)))
over_same stages f errand (RT.Throw why) h = refl
over_same stages f errand (RT.Rest s g a) h = λ i. transduced (h.rests i) (h.keeps i) (states_in s) (reduces (plain g.value) (plain a.value)) s.done

pub complete_same : (stages : List (M.Value ℕ)) (f : M.Value ℕ) (errand : Errand) (t : ReductionTurn) → Runs stages f errand t → reduction_node t (completed (turn_function t)) ≡ reduction_node t (completed f)
complete_same stages f errand (RT.Asks n) h = λ i. node n.turn (λ t. left_reduction n.state t (completed (h.keeps i)))
complete_same stages f errand (RT.Throw why) h = refl
complete_same stages f errand (RT.Rest s g a) h = λ i. completed (h.keeps i) (states_in s) (reduces (plain g.value) (plain a.value)) s.done

pub over_goes : (stages : List (M.Value ℕ)) (f : M.Value ℕ) (errand : Errand) (t : ReductionTurn) (r : Next State) → Runs stages f errand t → Takes (reduction_node t (transduced (turn_stages t) (turn_function t))) r → Takes (errand (transduced stages f)) r
over_goes stages f errand t r h g = takes_from (silent_stages (h.goes (transduced stages f))) (takes_same (over_same stages f errand t h) g)

pub complete_goes : (stages : List (M.Value ℕ)) (f : M.Value ℕ) (errand : Errand) (t : ReductionTurn) (r : Next State) → Runs stages f errand t → Takes (reduction_node t (completed (turn_function t))) r → Takes (errand (completed f)) r
complete_goes stages f errand t r h g = takes_from (silent_stages (h.goes (completed f))) (takes_same (complete_same stages f errand t h) g)

-- ## The stages of a transducer

pub thrown : (xf : M.Value ℕ) (k : List (M.Value ℕ) → Plan ℕ) (why : Thrown) (r : Next State) → Opens (with_stages xf) (O.Thrown why) → Takes (throw why) r → Takes (with_stages xf k) r
thrown xf k why r e h = takes_same (sym (e.goes k)) h

pub first_goes : (xf f : M.Value ℕ) (s : Stages) (g c : Proper) (r : Next State) → plain g.value ≡ f → Opens (with_stages xf) (O.Stages s) → AreFresh s → Takes (call f [] (λ y. left_value (V.First s g c) y)) r → Takes (with_stages xf (λ stages. call f [] (λ init. transduce_rule stages f init (plain c.value)))) r
first_goes xf f s g c r q e a h =
    takes_same (
    (λ i. call f [] (λ y. enter_each (stages_in s) (a i) (reduces (q i) y) (plain c.value) (transduced (stages_in s) (q i))))
    ∙ sym (e.goes (λ stages. call f [] (λ init. transduce_rule stages f init (plain c.value))))) h

pub transduce_goes : (xf f a c : M.Value ℕ) (s : Stages) (r : Next State) → Opens (with_stages xf) (O.Stages s) → AreFresh s → Takes (enter_each (stages_in s) (states_in s) (reduces f a) c (transduced (stages_in s) f)) r → Takes (with_stages xf (λ stages. transduce_rule stages f a c)) r
transduce_goes xf f a c s r e n h =
    takes_same (
    (λ i. enter_each (stages_in s) (n i) (reduces f a) c (transduced (stages_in s) f))
    ∙ sym (e.goes (λ stages. transduce_rule stages f a c))) h

-- ## Calls of the function

pub first_asked : (s : Stages) (f c : Proper) (called : Value) (args : List Value) (r : Next State) → called ≡ f.value → args ≡ [] → Takes (call (plain called) (plains args) (λ y. left_value (V.First s f c) y)) r → Takes (call (plain f.value) [] (λ y. left_value (V.First s f c) y)) r
first_asked s f c called args r e q h = takes_same (λ i. call (plain (e i)) (plains (q i)) (λ y. left_value (V.First s f c) y)) h

pub last_called : (f a : Value) (args : List Value) (r : Next State) → plains args ≡ plain a ∷ [] → Takes (call (plain f) (plains args) (λ y. left_value V.Answer y)) r → Takes (call (plain f) (plain a ∷ []) give) r
last_called f a args r e h = takes_same (λ i. call (plain f) (e i) give) h

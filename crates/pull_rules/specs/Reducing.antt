-- The plan that a reduction has left, for each way to go on, and so of stages whose outputs are gathered.
use Rattle.std.specs.Prelude.{◌≡◌, ℕ, List, [], IsTrue}
use Rattle.seq_base.specs.declared.thrown.Thrown.TheVariants.{BadType}
use Rattle.seq_values.specs.Model as M
use Rattle.seq_values.specs.Plain.{plain, plains}
use Rattle.seq_values.specs.WellFormedTerms.{is_well_formed_turn}
use Rattle.seq_values.specs.declared.term.Turn.{Turn}
use Rattle.seq_plan.specs.Plan.{Plan, throw, Told, done, got}
use Rattle.seq_plan.specs.Stages.{Sink, reduces, gathers, Onward, is_reduced, unwrapped, output}
use Rattle.seq_plan.specs.Turns.{node}
use Rattle.seq_turns.specs.Turning.{Wait, a_step, a_seq, a_value, awaited, IsStep}
use Rattle.xf_stages.specs.Left.{Course, stages_in, states_in, at_rest, left_call, left_seq, left_step, left_out, StageSilent}
use Rattle.pull_rules.specs.declared.flow.Waiting.{Waiting}
use Rattle.pull_rules.specs.declared.flow.Waiting.TheVariants as W
use Rattle.pull_rules.specs.declared.flow.Flowed.{Flowed}
use Rattle.pull_rules.specs.declared.flow.Flowed.TheVariants as F
use Rattle.pull_rules.specs.declared.flow.Reduction.{Reduction}
use Rattle.pull_rules.specs.declared.flow.Reduction.TheVariants as R
use Rattle.pull_rules.specs.declared.flow.ReductionTurn.{ReductionTurn}
use Rattle.pull_rules.specs.declared.flow.ReductionTurn.TheVariants as RT
use Rattle.pull_rules.specs.declared.flow.Gathering.{Gathering}
use Rattle.pull_rules.specs.declared.flow.GatheringTurn.{GatheringTurn}
use Rattle.pull_rules.specs.declared.flow.GatheringTurn.TheVariants as GT

-- the plan of an input, a collection or a completion, where the sink is there, for each way to go on
abbrev pub Errand : Type 0
Errand = Onward ℕ → Plan ℕ

-- ## Stages in the midst of an input

abbrev pub left_waiting : Waiting → Told ℕ → Course
left_waiting (W.Call w) (got y) sink k = left_call w y sink k
left_waiting (W.Seq w) (got s) sink k = left_seq w s sink k
left_waiting (W.Step w) done sink k = left_step w sink k
left_waiting _ _ sink k = throw BadType

abbrev pub waiting_for : Waiting → Wait
waiting_for (W.Call w) = a_value
waiting_for (W.Seq w) = a_seq
waiting_for (W.Step w) = a_step

-- the stages that will stand once the input is through
abbrev pub waiting_stages : Waiting → List (M.Value ℕ)
waiting_stages (W.Call w) = at_rest w.flow
waiting_stages (W.Seq w) = at_rest w.flow
waiting_stages (W.Step w) = at_rest w.flow

-- what holds of a turn and of what waits for its answer
pub record IsAsked (wait : Wait) (turn : Turn) : Type 0 where
  pub step : IsStep turn
  pub waits : wait ≡ awaited turn
  pub well : IsTrue (is_well_formed_turn turn)

-- the node of what stages came to
abbrev pub flowed_node : Flowed → Course
flowed_node (F.Asks n) sink k = node n.turn (λ t. left_waiting n.state t sink k)
flowed_node (F.Out w x) sink k = output sink (plain x.value) (λ after done. left_out w done after k)
flowed_node (F.Throw why) sink k = throw why
flowed_node (F.Rest s) sink k = k (states_in s) sink s.done

abbrev pub IsFlowedAsked : Flowed → Type 0
IsFlowedAsked (F.Asks n) = IsAsked (waiting_for n.state) n.turn
IsFlowedAsked _ = Unit {0}

abbrev pub FlowedRests : List (M.Value ℕ) → Flowed → Type 0
FlowedRests stages (F.Asks n) = waiting_stages n.state ≡ stages
FlowedRests stages (F.Out w x) = at_rest w.flow ≡ stages
FlowedRests stages (F.Throw why) = Unit {0}
FlowedRests stages (F.Rest s) = stages_in s ≡ stages

-- Stages go on to the next node of a course, whatever the sink is and whatever goes on after it.
pub record Flows (stages : List (M.Value ℕ)) (course : Course) (f : Flowed) : Type 0 where
  pub goes : (sink : Sink ℕ) (k : Onward ℕ) → StageSilent (course sink k) (flowed_node f sink k)
  pub asked : IsFlowedAsked f
  pub rests : FlowedRests stages f

-- ## A reduction

-- A reduced answer is unwrapped and makes all done.
abbrev pub left_reduction : Reduction → Told ℕ → Errand
left_reduction (R.Within r) t k = left_waiting r.waiting t (reduces (plain r.function.value) (plain r.answer.value)) k
left_reduction (R.Output a) (got y) k = left_out a.waiting (is_reduced y) (reduces (plain a.function.value) (unwrapped y)) k
left_reduction (R.Output a) _ k = throw BadType

abbrev pub reduction_waits : Reduction → Wait
reduction_waits (R.Within r) = waiting_for r.waiting
reduction_waits (R.Output a) = a_value

-- the stages that will stand once it is through
abbrev pub reduction_stages : Reduction → List (M.Value ℕ)
reduction_stages (R.Within r) = waiting_stages r.waiting
reduction_stages (R.Output a) = at_rest a.waiting.flow

-- the function that is called with each output
abbrev pub reduction_function : Reduction → M.Value ℕ
reduction_function (R.Within r) = plain r.function.value
reduction_function (R.Output a) = plain a.function.value

-- the node of a turn
abbrev pub reduction_node : ReductionTurn → Errand
reduction_node (RT.Asks n) k = node n.turn (λ t. left_reduction n.state t k)
reduction_node (RT.Throw why) k = throw why
reduction_node (RT.Rest s f answer) k = k (states_in s) (reduces (plain f.value) (plain answer.value)) s.done

-- the stages that will stand once a turn's reduction is through, and its function
abbrev pub turn_stages : ReductionTurn → List (M.Value ℕ)
turn_stages (RT.Asks n) = reduction_stages n.state
turn_stages (RT.Throw why) = []
turn_stages (RT.Rest s f answer) = stages_in s

abbrev pub turn_function : ReductionTurn → M.Value ℕ
turn_function (RT.Asks n) = reduction_function n.state
turn_function (RT.Throw why) = M.nil
turn_function (RT.Rest s f answer) = plain f.value

abbrev pub IsReductionAsked : ReductionTurn → Type 0
IsReductionAsked (RT.Asks n) = IsAsked (reduction_waits n.state) n.turn
IsReductionAsked _ = Unit {0}

abbrev pub ReductionRests : List (M.Value ℕ) → ReductionTurn → Type 0
ReductionRests stages (RT.Asks n) = reduction_stages n.state ≡ stages
ReductionRests stages (RT.Throw why) = Unit {0}
ReductionRests stages (RT.Rest s f answer) = stages_in s ≡ stages

abbrev pub ReductionKeeps : M.Value ℕ → ReductionTurn → Type 0
ReductionKeeps f (RT.Asks n) = reduction_function n.state ≡ f
ReductionKeeps f (RT.Throw why) = Unit {0}
ReductionKeeps f (RT.Rest s g answer) = plain g.value ≡ f

-- A turn takes the next node of an errand, whatever goes on after it. The stages that will stand once it is through, and the function, stay as they are.
pub record Runs (stages : List (M.Value ℕ)) (function : M.Value ℕ) (errand : Errand) (turn : ReductionTurn) : Type 0 where
  pub goes : (k : Onward ℕ) → StageSilent (errand k) (reduction_node turn k)
  pub asked : IsReductionAsked turn
  pub rests : ReductionRests stages turn
  pub keeps : ReductionKeeps function turn

-- ## Outputs that are gathered

abbrev pub left_gathering : Gathering → Told ℕ → Errand
left_gathering g t k = left_waiting g.waiting t (gathers (plains g.outputs.items.items)) k

abbrev pub gathering_node : GatheringTurn → Errand
gathering_node (GT.Asks n) k = node n.turn (λ t. left_gathering n.state t k)
gathering_node (GT.Throw why) k = throw why
gathering_node (GT.Rest s outputs) k = k (states_in s) (gathers (plains outputs.items.items)) s.done

-- the stages that will stand once a turn's input is through
abbrev pub gathering_stages : GatheringTurn → List (M.Value ℕ)
gathering_stages (GT.Asks n) = waiting_stages n.state.waiting
gathering_stages (GT.Throw why) = []
gathering_stages (GT.Rest s outputs) = stages_in s

abbrev pub IsGatheringAsked : GatheringTurn → Type 0
IsGatheringAsked (GT.Asks n) = IsAsked (waiting_for n.state.waiting) n.turn
IsGatheringAsked _ = Unit {0}

abbrev pub GatheringRests : List (M.Value ℕ) → GatheringTurn → Type 0
GatheringRests stages (GT.Asks n) = waiting_stages n.state.waiting ≡ stages
GatheringRests stages (GT.Throw why) = Unit {0}
GatheringRests stages (GT.Rest s outputs) = stages_in s ≡ stages

pub record Gathers (stages : List (M.Value ℕ)) (errand : Errand) (turn : GatheringTurn) : Type 0 where
  pub goes : (k : Onward ℕ) → StageSilent (errand k) (gathering_node turn k)
  pub asked : IsGatheringAsked turn
  pub rests : GatheringRests stages turn

-- How an input flows between two turns.
use Rattle.std.specs.Prelude.{◌≡◌, ◌≤◌, ◌<◌, ℕ, ◌+◌, ◌-◌, ◌*◌, Bool, true, false, cond, List, [], ◌∷◌, ◌++◌, length, take, drop, slice_set, Option, Some, None}
use Rattle.seq_values.specs.Model as M
use Rattle.seq_values.specs.Plain.{plain, plains}
use Rattle.seq_plan.specs.Plan.{Plan, call, throw}
use Rattle.seq_plan.specs.Stages.{Sink, Onward, entered, each_from, enter, complete}
use Rattle.xf_stages.specs.Left.{Course, StageSilent, stages_stand, states_stand, from_stage, after_input, through, entering, walking, first_answered, effected, stage_node, IsStageStep, RestsWith, at_rest}
use Rattle.xf_stages.specs.declared.state.Effect as D
use Rattle.xf_stages.specs.declared.state.Effect.TheVariants as E
use Rattle.xf_stages.specs.declared.state.Effected.{Effected}
use Rattle.xf_stages.specs.declared.state.Flow.{Flow}
use Rattle.xf_stages.specs.declared.state.Passing.{Passing}
use Rattle.xf_stages.specs.declared.state.Passing.TheVariants as G
use Rattle.xf_stages.specs.declared.state.Stage.{Stage}
use Rattle.xf_stages.specs.declared.state.Stages.{Stages}
use Rattle.xf_stages.specs.declared.state.Stage.TheVariants as S
use Rattle.xf_stages.specs.declared.state.UnderWay.{UnderWay}
use Rattle.xf_stages.specs.declared.state.UnderWay.TheVariants as U

-- an input enters the stage at a place, and then all is done
abbrev pub entering_last : Flow → ℕ → M.Value ℕ → Course
entering_last g at x sink k = enter (drop at (stages_stand g.stages.items)) (drop at (states_stand g.stages.items)) sink x (λ new after done. from_stage at (states_stand g.stages.items) (after_input g k) new after true)

-- what is left by the effect of the stage at a place
abbrev pub effect_course : D.Effect → Flow → ℕ → Course
effect_course (E.Calls f xs x) g at sink k = call (plain f.value) (plains xs.items) (λ y. first_answered (drop at g.stages.items) (plain x.value) y (effected g at sink k))
effect_course (E.Passes y) g at sink k = entering g (at + 1) (plain y.value) sink k
effect_course (E.PassesLast y) g at sink k = entering_last g (at + 1) (plain y.value) sink k
effect_course (E.PassesEach c) g at sink k = walking g (at + 1) (plain c.value) sink k
effect_course E.PassesNothing g at sink k = through g false sink k
effect_course E.Done g at sink k = through g true sink k
effect_course (E.Throws why) g at sink k = throw why

-- the seq of a collection is there, each of whose elements enters the stage at a place
abbrev pub walk_left : Flow → ℕ → M.Value ℕ → Course
walk_left g at s sink k = each_from (drop at (stages_stand g.stages.items)) (drop at (states_stand g.stages.items)) sink s (entered (from_stage at (states_stand g.stages.items) (after_input g k)))

abbrev pub passing_course : Passing → Course
passing_course (G.Turned t) = stage_node t
passing_course (G.Entering g at x) = entering g at (plain x.value)
passing_course (G.Through g done) = through g done

abbrev pub IsPassingStep : Passing → Type 0
IsPassingStep (G.Turned t) = IsStageStep t
IsPassingStep _ = Unit {0}

abbrev pub RestsIn : List (M.Value ℕ) → Passing → Type 0
RestsIn stages (G.Turned t) = RestsWith stages t
RestsIn stages (G.Entering g at x) = at_rest g ≡ stages
RestsIn stages (G.Through g done) = at_rest g ≡ stages

-- a course may be passed on, whatever the sink is and whatever goes on after it
pub record Leads (stages : List (M.Value ℕ)) (course : Course) (p : Passing) : Type 0 where
  pub goes : (sink : Sink ℕ) (k : Onward ℕ) → StageSilent (course sink k) (passing_course p sink k)
  pub step : IsPassingStep p
  pub rests : RestsIn stages p

-- ## What is passed over without a turn comes to an end

-- how many stages are still to be completed
abbrev pub to_complete : UnderWay → ℕ → ℕ
to_complete (U.Input last) n = 0
to_complete (U.Completion from) n = n - from

abbrev pub flow_weight : Flow → ℕ
flow_weight g = to_complete g.under_way (length g.stages.items) * (length g.stages.items + 3) + length g.walks.items

-- of an input that enters the stage at a place
abbrev pub enter_weight : Flow → ℕ → ℕ
enter_weight g at = flow_weight g + (length g.stages.items - at) + 2

abbrev pub weight : Passing → ℕ
weight (G.Turned t) = 0
weight (G.Entering g at x) = enter_weight g at
weight (G.Through g done) = flow_weight g + 1

-- ## Changes of a flow

-- another stage stands at a place
pub record Puts (f : Flow) (at : ℕ) (s : Stage) (g : Flow) : Type 0 where
  pub stages : g.stages.items ≡ slice_set f.stages.items at s
  pub walks : g.walks.items ≡ f.walks.items
  pub under_way : g.under_way ≡ f.under_way

-- the stages that stand at rest, their number and what is to be completed are as before
pub record Keeps (f g : Flow) : Type 0 where
  pub rests : at_rest g ≡ at_rest f
  pub count : length g.stages.items ≡ length f.stages.items
  pub weight : flow_weight g ≡ flow_weight f

-- a stage took an input or an answer: the course goes on by its effect
pub record Affects (f : Flow) (at : ℕ) (course : Course) (r : Effected) : Type 0 where
  pub goes : (sink : Sink ℕ) (k : Onward ℕ) → course sink k ≡ effect_course r.effect r.flow at sink k
  pub keeps : Keeps f r.flow

-- all is done once what is under way is through
abbrev pub last_way : UnderWay → UnderWay
last_way (U.Input last) = U.Input true
last_way (U.Completion from) = U.Completion from

-- nothing waits any more, and all is done once what is under way is through
pub record Lasts (f g : Flow) : Type 0 where
  pub stages : g.stages.items ≡ f.stages.items
  pub walks : g.walks.items ≡ []
  pub under_way : g.under_way ≡ last_way f.under_way

-- whether a stage has a group that its completion passes on
abbrev pub is_some : {A : Type 0} → List A → Bool
is_some [] = false
is_some (x ∷ xs) = true

abbrev pub has_group : Stage → Bool
has_group (S.PartitionAll g) = is_some g.items
has_group _ = false

-- the stages from a place on complete as those from another
abbrev pub CompletesFrom : Flow → ℕ → ℕ → Type 0
CompletesFrom f from at = (sink : Sink ℕ) (k : Sink ℕ → Plan ℕ) →
    complete (drop from (stages_stand f.stages.items)) (drop from (states_stand f.stages.items)) sink k ≡ complete (drop at (stages_stand f.stages.items)) (drop at (states_stand f.stages.items)) sink k

-- the stages from a place on have no group left to pass on
abbrev pub CompletesAll : Flow → ℕ → Type 0
CompletesAll f from = (sink : Sink ℕ) (k : Sink ℕ → Plan ℕ) →
    complete (drop from (stages_stand f.stages.items)) (drop from (states_stand f.stages.items)) sink k ≡ k sink

abbrev pub first_has_group : List Stage → Bool
first_has_group [] = false
first_has_group (s ∷ ss) = has_group s

-- the first stage from a place on that has a group to pass on
pub record GroupAt (f : Flow) (from at : ℕ) : Type 0 where
  pub behind : from ≤ at
  pub within : at < length f.stages.items
  pub group : first_has_group (drop at f.stages.items) ≡ true
  pub completes : CompletesFrom f from at

-- the stages from a place on are completed
abbrev pub completing : Flow → ℕ → Course
completing f at sink k = complete (drop at (stages_stand f.stages.items)) (drop at (states_stand f.stages.items)) sink (λ after. k [] after true)

pub record SameButWalks (f g : Flow) : Type 0 where
  pub stages : g.stages.items ≡ f.stages.items
  pub under_way : g.under_way ≡ f.under_way

-- the flow of these stages, where nothing waits
pub record IsFlowOf (s : Stages) (u : UnderWay) (f : Flow) : Type 0 where
  pub stages : f.stages.items ≡ s.stages.items
  pub walks : f.walks.items ≡ []
  pub under_way : f.under_way ≡ u

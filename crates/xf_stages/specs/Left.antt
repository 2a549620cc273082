-- The plan that an input has left in the midst of stages, for each sink and each way to go on. Each clause is a piece of the text of `enter`, `enter_each` and `complete`.
use Rattle.std.specs.Prelude.{◌≡◌, ℕ, ◌+◌, Bool, true, false, cond, ◌||◌, List, [], ◌∷◌, ◌++◌, map, take, drop}
use Rattle.seq_base.specs.declared.thrown.Thrown.TheVariants.{BadType}
use Rattle.seq_values.specs.Model as M
use Rattle.seq_values.specs.Model.{◌&◌}
use Rattle.seq_values.specs.Plain.{plain, plains}
use Rattle.seq_values.specs.declared.words.FolderKind.TheVariants as F
use Rattle.seq_values.specs.declared.words.Target.TheVariants as T
use Rattle.seq_values.specs.declared.words.XfKind.{XfKind}
use Rattle.seq_values.specs.declared.words.XfKind.TheVariants as X
use Rattle.seq_plan.specs.Cursors.{stands}
use Rattle.seq_plan.specs.Nodes.{first_of, rest_of, if_nil, if_true}
use Rattle.seq_plan.specs.Plan.{Plan, visit, seq, call, throw, Loop, enter_from}
use Rattle.seq_plan.specs.Stages.{Effect, passes, passes_each, passes_nothing, is_done, Sink, Onward, output, entered, each_from, enter_each, with_state, with_last, by_effect, enter, complete}
use Rattle.seq_turns.specs.Seen.{rested, NotNow}
use Rattle.seq_turns.specs.Turning.{Silent}
use Rattle.stage_rows.specs.Table.{stage_round}
use Rattle.xf_stages.specs.declared.state.Purpose.{Purpose}
use Rattle.xf_stages.specs.declared.state.Purpose.TheVariants as P
use Rattle.xf_stages.specs.declared.state.Stage.{Stage}
use Rattle.xf_stages.specs.declared.state.Stage.TheVariants as S
use Rattle.xf_stages.specs.declared.state.Walk.{Walk}
use Rattle.xf_stages.specs.declared.state.UnderWay.{UnderWay}
use Rattle.xf_stages.specs.declared.state.UnderWay.TheVariants as U
use Rattle.xf_stages.specs.declared.state.Flow.{Flow}
use Rattle.xf_stages.specs.declared.state.Stages.{Stages}
use Rattle.xf_stages.specs.declared.state.AtCall.{AtCall}
use Rattle.xf_stages.specs.declared.state.AtSeq.{AtSeq}
use Rattle.xf_stages.specs.declared.state.AtStep.{AtStep}
use Rattle.xf_stages.specs.declared.state.AtOut.{AtOut}
use Rattle.xf_stages.specs.declared.state.StageTurn.{StageTurn}
use Rattle.xf_stages.specs.declared.state.StageTurn.TheVariants as R

-- ## The stages and their states as values

abbrev pub purpose_kind : Purpose → XfKind
purpose_kind P.Map = X.Map
purpose_kind P.Filter = X.Filter
purpose_kind P.Remove = X.Remove
purpose_kind P.Keep = X.Keep
purpose_kind P.TakeWhile = X.TakeWhile
purpose_kind P.Mapcat = X.Mapcat

abbrev pub stage_value : Stage → M.Value ℕ
stage_value (S.Applies u f) = M.function (T.Xf (purpose_kind u)) (plain f.value & M.no_values)
stage_value (S.Take n left) = M.function (T.Xf X.Take) (M.int n & M.no_values)
stage_value (S.Drop n left) = M.function (T.Xf X.Drop) (M.int n & M.no_values)
stage_value (S.DropWhile p drops) = M.function (T.Xf X.DropWhile) (plain p.value & M.no_values)
stage_value S.Cat = M.function (T.Xf X.Cat) M.no_values
stage_value (S.PartitionAll g) = M.function (T.Xf X.PartitionAll) (M.int g.size & M.no_values)
stage_value (S.ReducerTake n left) = M.function (T.Folder F.Take) (M.int n & M.no_values)

abbrev pub state_value : Stage → M.Value ℕ
state_value (S.Applies u f) = M.nil
state_value (S.Take n left) = M.int left
state_value (S.Drop n left) = M.int left
state_value (S.DropWhile p drops) = M.bool drops
state_value S.Cat = M.nil
state_value (S.PartitionAll g) = M.vector (M.values (plains g.items))
state_value (S.ReducerTake n left) = M.int left

abbrev pub stages_stand : List Stage → List (M.Value ℕ)
stages_stand ss = map stage_value ss

abbrev pub states_stand : List Stage → List (M.Value ℕ)
states_stand ss = map state_value ss

-- the stages between two inputs, as values
abbrev pub stages_in : Stages → List (M.Value ℕ)
stages_in s = stages_stand s.stages.items

abbrev pub states_in : Stages → List (M.Value ℕ)
states_in s = states_stand s.stages.items

-- what a stage keeps of an input until its function has answered: the input, or nil where the answer alone is passed on
abbrev pub kept_for : Purpose → M.Value ℕ → M.Value ℕ
kept_for P.Map x = M.nil
kept_for P.Filter x = x
kept_for P.Remove x = x
kept_for P.Keep x = M.nil
kept_for P.TakeWhile x = x
kept_for P.Mapcat x = M.nil

-- ## What is left

-- the plan of an input, a collection or a completion, for each sink and each way to go on
abbrev pub Course : Type 0
Course = Sink ℕ → Onward ℕ → Plan ℕ

-- Where an input is through, and nothing waits. The completion leaves no stages behind, and all is done.
abbrev pub at_end : UnderWay → List (M.Value ℕ) → Onward ℕ → Onward ℕ
at_end (U.Input last) stages k = λ states sink done. k states sink (last || done)
at_end (U.Completion from) stages k = λ states sink done. complete (drop from stages) (drop from states) sink (λ after. k [] after true)

-- goes on with the states of all stages, where those before a place stand as they did
abbrev pub from_stage : ℕ → List (M.Value ℕ) → Onward ℕ → Onward ℕ
from_stage at states k = λ new sink done. k (take at states ++ new) sink done

-- after an element of a walk: all is done, or the next element enters the stage at this place
abbrev pub walks_on : ℕ → M.Value ℕ → List (M.Value ℕ) → Onward ℕ → Onward ℕ
walks_on at rest stages k = λ states sink done. cond done (k states sink true) (seq rest (λ s. each_from (drop at stages) (drop at states) sink s (entered (from_stage at states k))))

-- after an input: the walks that wait go on, the innermost one first, which is the last
abbrev pub waiting : List Walk → List (M.Value ℕ) → Onward ℕ → Onward ℕ
waiting [] stages k = k
waiting (w ∷ ws) stages k = waiting ws stages (walks_on w.at (rested w.rest) stages k)

abbrev pub after_input : Flow → Onward ℕ → Onward ℕ
after_input f k = waiting f.walks.items (stages_stand f.stages.items) (at_end f.under_way (stages_stand f.stages.items) k)

-- an input is through the stages that it entered
abbrev pub through : Flow → Bool → Course
through f done sink k = after_input f k (states_stand f.stages.items) sink done

-- an input enters the stage at a place
abbrev pub entering : Flow → ℕ → M.Value ℕ → Course
entering f at x sink k = enter (drop at (stages_stand f.stages.items)) (drop at (states_stand f.stages.items)) sink x (from_stage at (states_stand f.stages.items) (after_input f k))

-- each element of a collection enters the stage at a place
abbrev pub walking : Flow → ℕ → M.Value ℕ → Course
walking f at c sink k = enter_each (drop at (stages_stand f.stages.items)) (drop at (states_stand f.stages.items)) sink c (from_stage at (states_stand f.stages.items) (after_input f k))

-- what a stage does once its function has answered, given what it kept of the input
abbrev pub answered : Stage → M.Value ℕ → M.Value ℕ → (M.Value ℕ → Effect ℕ → Plan ℕ) → Plan ℕ
answered (S.Applies P.Map f) x y k = k M.nil (passes y)
answered (S.Applies P.Filter p) x y k = if_true y (k M.nil (passes x)) (k M.nil passes_nothing)
answered (S.Applies P.Remove p) x y k = if_true y (k M.nil passes_nothing) (k M.nil (passes x))
answered (S.Applies P.Keep f) x y k = if_nil y (k M.nil passes_nothing) (k M.nil (passes y))
answered (S.Applies P.TakeWhile p) x y k = if_true y (k M.nil (passes x)) (k M.nil is_done)
answered (S.Applies P.Mapcat f) x y k = k M.nil (passes_each y)
answered (S.DropWhile p drops) x y k = if_true y (k (M.bool true) passes_nothing) (k (M.bool false) (passes x))
answered _ _ _ _ = throw BadType

abbrev pub first_answered : List Stage → M.Value ℕ → M.Value ℕ → (M.Value ℕ → Effect ℕ → Plan ℕ) → Plan ℕ
first_answered [] x y k = throw BadType
first_answered (s ∷ ss) x y k = answered s x y k

-- what goes on after the stage at a place, by its new state and its effect
abbrev pub effected : Flow → ℕ → Sink ℕ → Onward ℕ → M.Value ℕ → Effect ℕ → Plan ℕ
effected f at sink k new =
    let later = drop (at + 1) (stages_stand f.stages.items) in
    let states = drop (at + 1) (states_stand f.stages.items) in
    let on = from_stage at (states_stand f.stages.items) (after_input f k) in
    by_effect
    (λ y. enter later states sink y (with_state new on))
    (λ y. enter later states sink y (with_last new on))
    (λ c. enter_each later states sink c (with_state new on))
    (on (new ∷ states) sink false)
    (on (new ∷ states) sink true)

-- ## By what is waited for

abbrev pub left_call : AtCall → M.Value ℕ → Course
left_call w y sink k = first_answered (drop w.at w.flow.stages.items) (plain w.kept.value) y (effected w.flow w.at sink k)

abbrev pub left_seq : AtSeq → M.Value ℕ → Course
left_seq w s sink k = each_from (drop w.at (stages_stand w.flow.stages.items)) (drop w.at (states_stand w.flow.stages.items)) sink s (entered (from_stage w.at (states_stand w.flow.stages.items) (after_input w.flow k)))

abbrev pub left_step : AtStep → Course
left_step w sink k = enter (drop w.at (stages_stand w.flow.stages.items)) (drop w.at (states_stand w.flow.stages.items)) sink (first_of (stands w.place)) (from_stage w.at (states_stand w.flow.stages.items) (walks_on w.at (rest_of (stands w.place)) (stages_stand w.flow.stages.items) (after_input w.flow k)))

abbrev pub left_out : AtOut → Bool → Course
left_out w done = through w.flow done

-- ## Turns

-- the node of a turn
abbrev pub stage_node : StageTurn → Course
stage_node (R.Apply w f xs) sink k = call (plain f.value) (plains xs.items) (λ y. left_call w y sink k)
stage_node (R.Seq w v) sink k = seq (plain v.value) (λ s. left_seq w s sink k)
stage_node (R.Visit w) sink k = visit (left_step w sink k)
stage_node (R.Out w x) sink k = output sink (plain x.value) (λ after done. left_out w done after k)
stage_node (R.Throw why) sink k = throw why
stage_node (R.Rest s) sink k = k (states_in s) sink s.done

-- a `seq` that is asked for is never of what is there already
abbrev pub IsStageStep : StageTurn → Type 0
IsStageStep (R.Seq w v) = NotNow (plain v.value)
IsStageStep _ = Unit {0}

-- the stages that stand once the input is through: those of before, or none after the completion
abbrev pub at_rest : Flow → List (M.Value ℕ)
at_rest f = rest_stages f.under_way
  where
    rest_stages : UnderWay → List (M.Value ℕ)
    rest_stages (U.Input last) = stages_stand f.stages.items
    rest_stages (U.Completion from) = []

-- these stages will stand once the input is through
abbrev pub RestsWith : List (M.Value ℕ) → StageTurn → Type 0
RestsWith stages (R.Apply w f xs) = at_rest w.flow ≡ stages
RestsWith stages (R.Seq w v) = at_rest w.flow ≡ stages
RestsWith stages (R.Visit w) = at_rest w.flow ≡ stages
RestsWith stages (R.Out w x) = at_rest w.flow ≡ stages
RestsWith stages (R.Throw why) = Unit {0}
RestsWith stages (R.Rest s) = stages_in s ≡ stages

-- the loop through a collection is the only one of stages
abbrev pub is_enter_loop : Loop → Bool
is_enter_loop enter_from = true
is_enter_loop _ = false

-- what may be passed over without a turn
abbrev pub StageSilent : Plan ℕ → Plan ℕ → Type 0
StageSilent p q = Silent is_enter_loop stage_round p q

-- A turn takes the next node of a course, whatever the sink is and whatever goes on after it.
pub record Goes (stages : List (M.Value ℕ)) (course : Course) (turn : StageTurn) : Type 0 where
  pub goes : (sink : Sink ℕ) (k : Onward ℕ) → StageSilent (course sink k) (stage_node turn sink k)
  pub step : IsStageStep turn
  pub rests : RestsWith stages turn

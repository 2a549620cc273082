-- Walks of which each element enters the stages from a place on.
use Rattle.std.proofs.Common.{◌≡◌, ℕ, ◌≤◌, Bool, true, false, cond, List, [], ◌∷◌, ◌++◌, length, take, drop, map, refl, ap, sym, ◌∙◌, subst}
use Rattle.std.proofs.lemmas.List.{take_at, drop_at, length-take-le, take-append-drop, length-map}
use Rattle.seq_values.specs.Model as M
use Rattle.seq_values.specs.Model.{vector, values}
use Rattle.seq_plan.specs.Cursors.{stands}
use Rattle.seq_plan.specs.Nodes.{first_of, rest_of, is_nil, round_at, found, now}
use Rattle.seq_plan.specs.Plan.{Plan, seq, go, give, visit, then, plan_of, enter_from, Round, ends_with, visits}
use Rattle.seq_plan.specs.Stages.{Sink, Onward, sink_values, standing, entered, each_from, enter, each_round, enter_round}
use Rattle.seq_plan.specs.declared.cursor.Cursor.{Cursor}
use Rattle.seq_plan.proofs.StageLoops.{standing_enters, round_is_of_each}
use Rattle.seq_plan.proofs.StageThens.{then_enter}
use Rattle.seq_turns.specs.Turning.{arrives, opens, finds}
use Rattle.seq_turns.proofs.Taking.{joins, some_cursor}
use Rattle.stage_rows.specs.Table.{stage_round}
use Rattle.xf_stages.specs.Left.{StageSilent, from_stage, walks_on, after_input, at_rest, stages_stand, states_stand, through, walking, left_step, stage_value, state_value}
use Rattle.xf_stages.specs.Flowing.{walk_left, Leads}
use Rattle.xf_stages.specs.declared.state.AtStep.{AtStep}
use Rattle.xf_stages.specs.declared.state.Flow.{Flow}
use Rattle.xf_stages.proofs.Leading.{same_plan}

module _ (stages states : List (M.Value ℕ)) (sink : Sink ℕ) (j : Onward ℕ) where
  -- a round of the loop, and what goes on after it
  round_then : M.Value ℕ → Plan ℕ
  round_then s = then (plan_of (each_round stages states sink s)) (entered j)

  rounds : (s : M.Value ℕ) → StageSilent (each_from stages states sink s (entered j)) (then (plan_of (each_round stages states sink s)) (entered j))
  rounds s = opens refl (same_plan (ap (λ r. then (plan_of r) (entered j)) (round_is_of_each stages states s sink)))

  -- no element is left
  pub walk_ends : StageSilent (each_from stages states sink M.nil (entered j)) (j states sink false)
  walk_ends = joins (rounds M.nil) (same_plan (standing_enters j states sink false))

  -- what goes on after an element
  abbrev pub goes_round : M.Value ℕ → Onward ℕ
  goes_round s = λ new after done. cond done (j new after true) (seq (rest_of s) (λ t. each_from stages new after t (entered j)))

  after_element : (s : M.Value ℕ) (new : List (M.Value ℕ)) (after : Sink ℕ) (done : Bool)
      → then (cond done (give (standing new after true)) (seq (rest_of s) (λ t. each_from stages new after t give))) (entered j) ≡ goes_round s new after done
  after_element s new after true = standing_enters j new after true
  after_element s new after false = refl

  element_visits : (s : M.Value ℕ) → then (visit (enter stages states sink (first_of s) (λ new after done. cond done (give (standing new after true)) (seq (rest_of s) (λ t. each_from stages new after t give))))) (entered j) ≡ visit (enter stages states sink (first_of s) (goes_round s))
  element_visits s =
      ap visit (then_enter (entered j) stages states sink (first_of s) (λ new after done. cond done (give (standing new after true)) (seq (rest_of s) (λ t. each_from stages new after t give))))
      ∙ (λ i. visit (enter stages states sink (first_of s) (λ new after done. after_element s new after done i)))

  some_round : (s : M.Value ℕ) → is_nil s ≡ false → plan_of (each_round stages states sink s) ≡ visit (enter stages states sink (first_of s) (λ new after done. cond done (give (standing new after true)) (seq (rest_of s) (λ t. each_from stages new after t give))))
  some_round s b = rw b refl

  -- an element is there
  pub walk_visits : (s : M.Value ℕ) → is_nil s ≡ false → StageSilent (each_from stages states sink s (entered j)) (visit (enter stages states sink (first_of s) (goes_round s)))
  walk_visits s b = joins (rounds s) (same_plan (ap (λ p. then p (entered j)) (some_round s b) ∙ element_visits s))

-- the states before and from a place on
split_take : (at : ℕ) (states new : List (M.Value ℕ)) → at ≤ length states → take at (take at states ++ new) ≡ take at states
split_take at states new b = take_at (take at states) new at (length-take-le at states b)

split_drop : (at : ℕ) (states new : List (M.Value ℕ)) → at ≤ length states → drop at (take at states ++ new) ≡ new
split_drop at states new b = drop_at (take at states) new at (length-take-le at states b)

-- what goes on after an element, by all states
pub round_on : (at : ℕ) (stages states : List (M.Value ℕ)) (rest : M.Value ℕ) (k : Onward ℕ) (new : List (M.Value ℕ)) (after : Sink ℕ) (done : Bool) → at ≤ length states
    → cond done (from_stage at states k new after true) (seq rest (λ t. each_from (drop at stages) new after t (entered (from_stage at states k)))) ≡ from_stage at states (walks_on at rest stages k) new after done
round_on at stages states rest k new after true b = refl
round_on at stages states rest k new after false b = λ i. seq rest (λ t. each_from (drop at stages) (sym (split_drop at states new b) i) after t (entered (from_left (sym (split_take at states new b) i))))
  where
    from_left : List (M.Value ℕ) → Onward ℕ
    from_left front = λ n a d. k (front ++ n) a d

states_long : (f : Flow) (at : ℕ) → at ≤ length f.stages.items → at ≤ length (states_stand f.stages.items)
states_long f at b = subst (λ n. at ≤ n) (sym (length-map f.stages.items state_value)) b

pub found_nil : (f : Flow) (at : ℕ) (sink : Sink ℕ) (k : Onward ℕ) → StageSilent (walk_left f at M.nil sink k) (through f false sink k)
found_nil f at sink k =
    let s = states_stand f.stages.items in
    joins (walk_ends (drop at (stages_stand f.stages.items)) (drop at s) sink (from_stage at s (after_input f k)))
    (same_plan (ap (λ l. after_input f k l sink false) (take-append-drop at s)))

pub found_some : (w : AtStep) (sink : Sink ℕ) (k : Onward ℕ) → StageSilent (walk_left w.flow w.at (stands w.place) sink k) (visit (left_step w sink k))
found_some w sink k =
    let f = w.flow in
    let s = states_stand f.stages.items in
    let j = from_stage w.at s (after_input f k) in
    joins (walk_visits (drop w.at (stages_stand f.stages.items)) (drop w.at s) sink j (stands w.place) (some_cursor w.place))
    (same_plan (λ i. visit (enter (drop w.at (stages_stand f.stages.items)) (drop w.at s) sink (first_of (stands w.place)) (λ new after done. round_on w.at (stages_stand f.stages.items) s (rest_of (stands w.place)) (after_input f k) new after done (states_long f w.at w.within) i))))

-- the seq of what is there is found at once
pub seeks_now : (f : Flow) (at : ℕ) (v s : M.Value ℕ) → found v ≡ now s → (sink : Sink ℕ) (k : Onward ℕ) → StageSilent (walking f at v sink k) (walk_left f at s sink k)
seeks_now f at v s e sink k = finds e arrives

-- What goes on after the effect of a stage.
use Rattle.std.proofs.Common.{◌≡◌, ℕ, suc, ◌+◌, ◌-◌, ◌*◌, ◌≤◌, ◌<◌, Bool, true, false, List, [], ◌∷◌, ◌++◌, length, take, drop, slice_set, map, refl, ap, sym, ◌∙◌, subst, arith, append_assoc}
use Rattle.std.proofs.lemmas.List.{length-map, length-set, set-set, set_split, map-set, take-set, drop-set-lt, take_more_set, drop-set, drop-map, take-append-drop}
use Rattle.seq_values.specs.Model as M
use Rattle.seq_values.specs.Plain.{plain, plains}
use Rattle.seq_plan.specs.Plan.{Plan, call, throw}
use Rattle.seq_plan.specs.Stages.{Effect, Sink, Onward, by_effect, enter, enter_each, stage_on, output, with_state, with_last}
use Rattle.xf_stages.specs.Left.{Course, StageSilent, at_end, answered, at_rest, entering, walking, through, left_call, first_answered, effected, from_stage, waiting, after_input, stages_stand, states_stand, stage_value, state_value}
use Rattle.xf_stages.specs.Reacting.{OnEffect, effect_plan, Comes, Reacts, Answers}
use Rattle.xf_stages.specs.Flowing.{effect_course, entering_last, flow_weight, to_complete, Puts, Keeps, Affects}
use Rattle.xf_stages.specs.declared.state.AtCall.{AtCall}
use Rattle.xf_stages.specs.declared.state.Effect as D
use Rattle.xf_stages.specs.declared.state.Effect.TheVariants as E
use Rattle.xf_stages.specs.declared.state.Effected.{Effected}
use Rattle.xf_stages.specs.declared.state.Flow.{Flow}
use Rattle.xf_stages.specs.declared.state.Reacted.{Reacted}
use Rattle.xf_stages.specs.declared.state.Stage.{Stage}
use Rattle.xf_stages.specs.declared.state.UnderWay.{UnderWay}
use Rattle.xf_stages.specs.declared.state.UnderWay.TheVariants as U

-- ## Another stage in a place

pub puts_twice : (f h g : Flow) (at : ℕ) (a b : Stage) → Puts f at a h → Puts h at b g → Puts f at b g
puts_twice f h g at a b p q = record {
  stages = q.stages ∙ ap (λ l. slice_set l at b) p.stages ∙ set-set f.stages.items at a b;
  walks = q.walks ∙ p.walks;
  under_way = q.under_way ∙ p.under_way;
}

pub puts_long : (f g : Flow) (at : ℕ) (s : Stage) → Puts f at s g → length g.stages.items ≡ length f.stages.items
puts_long f g at s p = ap length p.stages ∙ length-set f.stages.items at s

abbrev pub rest_stages : UnderWay → List (M.Value ℕ) → List (M.Value ℕ)
rest_stages (U.Input last) l = l
rest_stages (U.Completion from) l = []

pub rests_as : (f : Flow) → at_rest f ≡ rest_stages f.under_way (stages_stand f.stages.items)
rests_as f = by f.under_way refl
  where
    by : (u : UnderWay) → f.under_way ≡ u → at_rest f ≡ rest_stages u (stages_stand f.stages.items)
    by (U.Input last) e = rw e refl
    by (U.Completion from) e = rw e refl

module _ (f g : Flow) (at : ℕ) (s t : Stage) (within : at < length f.stages.items) (there : drop at f.stages.items ≡ s ∷ drop (at + 1) f.stages.items) (p : Puts f at t g) (same : stage_value t ≡ stage_value s) where
  -- the list with the stage that stood there is the list
  put_same : slice_set f.stages.items at s ≡ f.stages.items
  put_same = set_split f.stages.items at s within ∙ (λ i. take at f.stages.items ++ (s ∷ drop (more i) f.stages.items)) ∙ ap (λ l. take at f.stages.items ++ l) (sym there) ∙ take-append-drop at f.stages.items
    where
      more : suc at ≡ at + 1
      more = omega arith

  pub puts_stages : stages_stand g.stages.items ≡ stages_stand f.stages.items
  puts_stages =
      ap stages_stand p.stages ∙ map-set stage_value f.stages.items at t
      ∙ ap (λ v. slice_set (stages_stand f.stages.items) at v) same
      ∙ sym (map-set stage_value f.stages.items at s) ∙ ap stages_stand put_same

  pub puts_states : states_stand g.stages.items ≡ slice_set (states_stand f.stages.items) at (state_value t)
  puts_states = ap states_stand p.stages ∙ map-set state_value f.stages.items at t

  states_within : at < length (states_stand f.stages.items)
  states_within = subst (λ n. at < n) (sym (length-map f.stages.items state_value)) within

  pub puts_after : (k : Onward ℕ) → after_input g k ≡ after_input f k
  puts_after k = λ i. waiting (p.walks i) (puts_stages i) (at_end (p.under_way i) (puts_stages i) k)

  before : take at (states_stand g.stages.items) ≡ take at (states_stand f.stages.items)
  before = ap (take at) puts_states ∙ take-set (states_stand f.stages.items) at (state_value t)

  upto : take (at + 1) (states_stand g.stages.items) ≡ take at (states_stand f.stages.items) ++ state_value t ∷ []
  upto = ap (take (at + 1)) puts_states ∙ take_more_set (states_stand f.stages.items) at (state_value t) states_within

  pub behind : drop (at + 1) (states_stand g.stages.items) ≡ drop (at + 1) (states_stand f.stages.items)
  behind = ap (drop (at + 1)) puts_states ∙ drop-set-lt (at + 1) (states_stand f.stages.items) at (state_value t) (omega arith)

  all : states_stand g.stages.items ≡ take at (states_stand f.stages.items) ++ (state_value t ∷ drop (at + 1) (states_stand f.stages.items))
  all = puts_states ∙ set_split (states_stand f.stages.items) at (state_value t) states_within ∙ (λ i. take at (states_stand f.stages.items) ++ (state_value t ∷ drop (more i) (states_stand f.stages.items)))
    where
      more : suc at ≡ at + 1
      more = omega arith

  -- what goes on with the stage's new state
  goes_with : (new : List (M.Value ℕ)) → take at (states_stand f.stages.items) ++ (state_value t ∷ new) ≡ take (at + 1) (states_stand g.stages.items) ++ new
  goes_with new = sym (append_assoc (take at (states_stand f.stages.items)) (state_value t ∷ []) new) ∙ ap (λ l. l ++ new) (sym upto)

  affected : (sink : Sink ℕ) (k : Onward ℕ) (v : M.Value ℕ) (e : Effect ℕ) → effected f at sink k v e ≡ effected g at sink k v e
  affected sink k v e = λ i. by_effect
      (λ y. enter (drop (at + 1) (sym puts_stages i)) (sym behind i) sink y (with_state v (on i)))
      (λ y. enter (drop (at + 1) (sym puts_stages i)) (sym behind i) sink y (with_last v (on i)))
      (λ c. enter_each (drop (at + 1) (sym puts_stages i)) (sym behind i) sink c (with_state v (on i)))
      ((on i) (v ∷ sym behind i) sink false)
      ((on i) (v ∷ sym behind i) sink true) e
    where
      on : from_stage at (states_stand f.stages.items) (after_input f k) ≡ from_stage at (states_stand g.stages.items) (after_input g k)
      on = λ i. λ new after done. sym (puts_after k) i (sym before i ++ new) after done

  placed : drop at g.stages.items ≡ t ∷ drop (at + 1) f.stages.items
  placed = ap (drop at) p.stages ∙ drop-set f.stages.items at t within

  -- the effect of the stage, by all stages
  pub effect_goes : (e : D.Effect) (sink : Sink ℕ) (k : Onward ℕ) → effect_plan t e (effected f at sink k) ≡ effect_course e g at sink k
  effect_goes (E.Calls h xs x) sink k =
      (λ i. call (plain h.value) (plains xs.items) (λ y. answered t (plain x.value) y (λ v e. affected sink k v e i)))
      ∙ (λ i. call (plain h.value) (plains xs.items) (λ y. first_answered (sym placed i) (plain x.value) y (effected g at sink k)))
  effect_goes (E.Passes y) sink k = λ i. enter (drop (at + 1) (sym puts_stages i)) (sym behind i) sink (plain y.value) (λ new after done. sym (puts_after k) i (goes_with new i) after done)
  effect_goes (E.PassesLast y) sink k = λ i. enter (drop (at + 1) (sym puts_stages i)) (sym behind i) sink (plain y.value) (λ new after done. sym (puts_after k) i (goes_with new i) after true)
  effect_goes (E.PassesEach c) sink k = λ i. enter_each (drop (at + 1) (sym puts_stages i)) (sym behind i) sink (plain c.value) (λ new after done. sym (puts_after k) i (goes_with new i) after done)
  effect_goes E.PassesNothing sink k = λ i. sym (puts_after k) i (sym all i) sink false
  effect_goes E.Done sink k = λ i. sym (puts_after k) i (sym all i) sink true
  effect_goes (E.Throws why) sink k = refl

  keeps_weight : flow_weight g ≡ flow_weight f
  keeps_weight = λ i. to_complete (p.under_way i) (puts_long f g at t p i) * (puts_long f g at t p i + 3) + length (p.walks i)

  pub keeps_all : Keeps f g
  keeps_all = record {
    rests = rests_as g ∙ (λ i. rest_stages (p.under_way i) (puts_stages i)) ∙ sym (rests_as f);
    count = puts_long f g at t p;
    weight = keeps_weight;
  }

-- ## A stage takes an input, or its function has answered

enters_stage : (f : Flow) (at : ℕ) (s : Stage) (x : M.Value ℕ) → drop at f.stages.items ≡ s ∷ drop (at + 1) f.stages.items → (sink : Sink ℕ) (k : Onward ℕ) → entering f at x sink k ≡ stage_on (stage_value s) (state_value s) x (effected f at sink k)
enters_stage f at s x e sink k = (λ i. enter (first i) (second i) sink x on) ∙ (λ i. stage_on (stage_value s) (state_value s) x (λ new. by_effect
    (λ y. enter (later i) (states i) sink y (with_state new on))
    (λ y. enter (later i) (states i) sink y (with_last new on))
    (λ c. enter_each (later i) (states i) sink c (with_state new on))
    (on (new ∷ states i) sink false)
    (on (new ∷ states i) sink true)))
  where
    on : Onward ℕ
    on = from_stage at (states_stand f.stages.items) (after_input f k)

    first : drop at (stages_stand f.stages.items) ≡ stage_value s ∷ stages_stand (drop (at + 1) f.stages.items)
    first = drop-map stage_value at f.stages.items ∙ ap stages_stand e

    second : drop at (states_stand f.stages.items) ≡ state_value s ∷ states_stand (drop (at + 1) f.stages.items)
    second = drop-map state_value at f.stages.items ∙ ap states_stand e

    later : stages_stand (drop (at + 1) f.stages.items) ≡ drop (at + 1) (stages_stand f.stages.items)
    later = sym (drop-map stage_value (at + 1) f.stages.items)

    states : states_stand (drop (at + 1) f.stages.items) ≡ drop (at + 1) (states_stand f.stages.items)
    states = sym (drop-map state_value (at + 1) f.stages.items)

pub reacts_as : (f g : Flow) (at : ℕ) (s : Stage) (x : M.Value ℕ) (r : Reacted) → at < length f.stages.items → drop at f.stages.items ≡ s ∷ drop (at + 1) f.stages.items → Puts f at r.stage g → Reacts s x r → (e : Effected) → e.flow ≡ g → e.effect ≡ r.effect → Affects f at (entering f at x) e
reacts_as f g at s x r b there p q e ef ee = record {
  goes = λ sink k. enters_stage f at s x there sink k ∙ q.goes (effected f at sink k) ∙ effect_goes f g at s r.stage b there p q.same r.effect sink k ∙ (λ i. effect_course (sym ee i) (sym ef i) at sink k);
  keeps = subst (λ z. Keeps f z) (sym ef) (keeps_all f g at s r.stage b there p q.same);
}

pub answers_as : (w : AtCall) (g : Flow) (s : Stage) (y : M.Value ℕ) (r : Reacted) → drop w.at w.flow.stages.items ≡ s ∷ drop (w.at + 1) w.flow.stages.items → Puts w.flow w.at r.stage g → Answers s (plain w.kept.value) y r → (e : Effected) → e.flow ≡ g → e.effect ≡ r.effect → Affects w.flow w.at (left_call w y) e
answers_as w g s y r there p q e ef ee = record {
  goes = λ sink k. (λ i. first_answered (there i) (plain w.kept.value) y (effected w.flow w.at sink k)) ∙ q.goes (effected w.flow w.at sink k) ∙ effect_goes w.flow g w.at s r.stage w.within there p q.same r.effect sink k ∙ (λ i. effect_course (sym ee i) (sym ef i) w.at sink k);
  keeps = subst (λ z. Keeps w.flow z) (sym ef) (keeps_all w.flow g w.at s r.stage w.within there p q.same);
}

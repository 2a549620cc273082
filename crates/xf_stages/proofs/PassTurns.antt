-- How an input goes on until a turn is due.
use Rattle.std.proofs.Common.{◌≡◌, ℕ, suc, ◌+◌, ◌-◌, ◌*◌, ◌≤◌, ◌<◌, Bool, true, false, List, [], ◌∷◌, ◌++◌, length, take, drop, refl, ap, sym, ◌∙◌, subst, arith, append-nil}
use Rattle.std.proofs.lemmas.List.{length-map, length_push, drop_all, take_all}
use Rattle.seq_values.specs.Model as M
use Rattle.seq_values.specs.Plain.{plain}
use Rattle.seq_plan.specs.Cursors.{stands}
use Rattle.seq_plan.specs.Nodes.{first_of, rest_of, found, now}
use Rattle.seq_plan.specs.Plan.{Plan, seq}
use Rattle.seq_plan.specs.Stages.{Sink, Onward, output, enter}
use Rattle.seq_turns.specs.Seen.{rested, NotNow}
use Rattle.seq_turns.specs.Turning.{arrives}
use Rattle.seq_turns.specs.declared.places.Rest.{Rest}
use Rattle.seq_turns.specs.declared.proper.Proper.{Proper}
use Rattle.xf_stages.specs.Left.{Course, at_end, at_rest, stages_stand, states_stand, stage_value, state_value, from_stage, walks_on, waiting, after_input, through, entering, walking, left_step, left_seq}
use Rattle.xf_stages.specs.Flowing.{Leads, Affects, Keeps, Lasts, SameButWalks, effect_course, entering_last, walk_left, passing_course, flow_weight, enter_weight, weight, to_complete, last_way}
use Rattle.xf_stages.specs.declared.state.AtOut.{AtOut}
use Rattle.xf_stages.specs.declared.state.AtSeq.{AtSeq}
use Rattle.xf_stages.specs.declared.state.AtStep.{AtStep}
use Rattle.xf_stages.specs.declared.state.Effected.{Effected}
use Rattle.xf_stages.specs.declared.state.Flow.{Flow}
use Rattle.xf_stages.specs.declared.state.Passing.{Passing}
use Rattle.xf_stages.specs.declared.state.Passing.TheVariants as G
use Rattle.xf_stages.specs.declared.state.StageTurn.TheVariants as R
use Rattle.xf_stages.specs.declared.state.UnderWay.{UnderWay}
use Rattle.xf_stages.specs.declared.state.UnderWay.TheVariants as U
use Rattle.xf_stages.specs.declared.state.Walk.{Walk}
use Rattle.xf_stages.proofs.EffectTurns.{rest_stages, rests_as}
use Rattle.xf_stages.proofs.Leading.{leads_from, leads_same, leads_at, same_plan}
use Rattle.xf_stages.proofs.Waits.{enters_last_as, through_last_as, waits_last}
use Rattle.xf_stages.proofs.WalkTurns.{found_nil, found_some, seeks_now}

-- ## An input enters a stage

pub enters_as : (f : Flow) (at : ℕ) (x : M.Value ℕ) (e : Effected) (p : Passing) → Affects f at (entering f at x) e → Leads (at_rest e.flow) (effect_course e.effect e.flow at) p → Leads (at_rest f) (entering f at x) p
enters_as f at x e p a h = leads_at a.keeps.rests (leads_same a.goes h)

pub enters_lighter : (f : Flow) (at : ℕ) (x : M.Value ℕ) (e : Effected) (p : Passing) → at < length f.stages.items → Affects f at (entering f at x) e → weight p ≤ enter_weight e.flow (at + 1) → weight p < enter_weight f at
enters_lighter f at x e p b a h =
    let q : enter_weight e.flow (at + 1) ≡ flow_weight f + (length f.stages.items - (at + 1)) + 2 = λ i. a.keeps.weight i + (a.keeps.count i - (at + 1)) + 2 in
    let r : weight p ≤ flow_weight f + (length f.stages.items - (at + 1)) + 2 = subst (λ n. weight p ≤ n) q h in
    omega (arith, r, b)

pub goes_out_as : (w : AtOut) (at : ℕ) (x : Proper) → length w.flow.stages.items ≤ at → Leads (at_rest w.flow) (entering w.flow at (plain x.value)) (G.Turned (R.Out w x))
goes_out_as w at x b = record { goes = λ sink k. same_plan (out sink k); step = tt; rests = refl }
  where
    no_stage : drop at (stages_stand w.flow.stages.items) ≡ []
    no_stage = drop_all at (stages_stand w.flow.stages.items) (subst (λ n. n ≤ at) (sym (length-map w.flow.stages.items stage_value)) b)

    all : take at (states_stand w.flow.stages.items) ++ [] ≡ states_stand w.flow.stages.items
    all = append-nil (take at (states_stand w.flow.stages.items)) ∙ take_all at (states_stand w.flow.stages.items) (subst (λ n. n ≤ at) (sym (length-map w.flow.stages.items state_value)) b)

    out : (sink : Sink ℕ) (k : Onward ℕ) → entering w.flow at (plain x.value) sink k ≡ output sink (plain x.value) (λ after done. through w.flow done after k)
    out sink k =
        (λ i. enter (no_stage i) (drop at (states_stand w.flow.stages.items)) sink (plain x.value) (from_stage at (states_stand w.flow.stages.items) (after_input w.flow k)))
        ∙ (λ i. output sink (plain x.value) (λ after done. after_input w.flow k (all i) after done))

-- ## The last input

same_rests : (f g : Flow) → Lasts f g → at_rest g ≡ at_rest f
same_rests f g h = rests_as g ∙ (λ i. rest_stages (h.under_way i) (stages_stand (h.stages i))) ∙ last_rest f.under_way ∙ sym (rests_as f)
  where
    last_rest : (u : UnderWay) → rest_stages (last_way u) (stages_stand f.stages.items) ≡ rest_stages u (stages_stand f.stages.items)
    last_rest (U.Input last) = refl
    last_rest (U.Completion from) = refl

last_complete : (u : UnderWay) (n : ℕ) → to_complete (last_way u) n ≡ to_complete u n
last_complete (U.Input last) n = refl
last_complete (U.Completion from) n = refl

last_weight : (f g : Flow) → Lasts f g → flow_weight g + length f.walks.items ≡ flow_weight f
last_weight f g h = λ i. last_part i + length f.walks.items
  where
    last_part : flow_weight g ≡ to_complete f.under_way (length f.stages.items) * (length f.stages.items + 3)
    last_part =
        (λ i. to_complete (h.under_way i) (length (h.stages i)) * (length (h.stages i) + 3) + length (h.walks i))
        ∙ (λ i. last_complete f.under_way (length f.stages.items) i * (length f.stages.items + 3) + 0)
        ∙ omega arith

pub enters_last_leads : (f g : Flow) (at : ℕ) (x : Proper) → Lasts f g → Leads (at_rest f) (entering_last f at (plain x.value)) (G.Entering g at x)
enters_last_leads f g at x h = leads_same (enters_last_as f g h at (plain x.value)) (record { goes = λ sink k. arrives; step = tt; rests = same_rests f g h })

pub enters_last_lighter : (f g : Flow) (at : ℕ) → Lasts f g → enter_weight g at ≤ enter_weight f at
enters_last_lighter f g at h =
    let w : flow_weight g + length f.walks.items ≡ flow_weight f = last_weight f g h in
    let n : length g.stages.items ≡ length f.stages.items = ap length h.stages in
    omega (arith, w, n)

-- ## Walks

pub asks_leads : (w : AtSeq) (rest v : M.Value ℕ) (x : Proper) → v ≡ rest → (plain x.value ≡ v) × NotNow v → Leads (at_rest w.flow) (walking w.flow w.at rest) (G.Turned (R.Seq w x))
asks_leads w rest v x e q = record {
  goes = λ sink k. same_plan (ap (λ s. seq s (λ t. left_seq w t sink k)) (sym (q.0 ∙ e)));
  step = subst NotNow (sym q.0) q.1;
  rests = refl;
}

pub now_leads : (f : Flow) (at : ℕ) (rest s : M.Value ℕ) (p : Passing) → found rest ≡ now s → Leads (at_rest f) (walk_left f at s) p → Leads (at_rest f) (walking f at rest) p
now_leads f at rest s p e h = leads_from (seeks_now f at rest s e) h

pub nil_leads : (f : Flow) (at : ℕ) → Leads (at_rest f) (walk_left f at M.nil) (G.Through f false)
nil_leads f at = record { goes = found_nil f at; step = tt; rests = refl }

pub some_leads : (w : AtStep) → Leads (at_rest w.flow) (walk_left w.flow w.at (stands w.place)) (G.Turned (R.Visit w))
some_leads w = record { goes = found_some w; step = tt; rests = refl }

same_walks_rests : (f g : Flow) → SameButWalks f g → at_rest g ≡ at_rest f
same_walks_rests f g h = rests_as g ∙ (λ i. rest_stages (h.under_way i) (stages_stand (h.stages i))) ∙ sym (rests_as f)

-- what goes on after an input, where one walk more waits
one_more_waits : (f g : Flow) (w : Walk) → SameButWalks f g → g.walks.items ≡ f.walks.items ++ w ∷ [] → (k : Onward ℕ) → after_input g k ≡ walks_on w.at (rested w.rest) (stages_stand f.stages.items) (after_input f k)
one_more_waits f g w h e k =
    (λ i. waiting (e i) (stages_stand (h.stages i)) (at_end (h.under_way i) (stages_stand (h.stages i)) k))
    ∙ waits_last f.walks.items w (stages_stand f.stages.items) (at_end f.under_way (stages_stand f.stages.items) k)

pub step_leads : (w : AtStep) (g : Flow) (x : Proper) (rest : Rest) → plain x.value ≡ first_of (stands w.place) → rested rest ≡ rest_of (stands w.place) → SameButWalks w.flow g → g.walks.items ≡ w.flow.walks.items ++ record { at = w.at; rest = rest } ∷ [] → Leads (at_rest w.flow) (left_step w) (G.Entering g w.at x)
step_leads w g x rest e1 e2 h e = record { goes = λ sink k. same_plan (on_plan sink k); step = tt; rests = same_walks_rests w.flow g h }
  where
    on_plan : (sink : Sink ℕ) (k : Onward ℕ) → left_step w sink k ≡ entering g w.at (plain x.value) sink k
    on_plan sink k = λ i. enter
        (drop w.at (stages_stand (sym h.stages i))) (drop w.at (states_stand (sym h.stages i))) sink (sym e1 i)
        (λ new after done. on i (take w.at (states_stand (sym h.stages i)) ++ new) after done)
      where
        on : walks_on w.at (rest_of (stands w.place)) (stages_stand w.flow.stages.items) (after_input w.flow k) ≡ after_input g k
        on = ap (λ r. walks_on w.at r (stages_stand w.flow.stages.items) (after_input w.flow k)) (sym e2) ∙ sym (one_more_waits w.flow g (record { at = w.at; rest = rest }) h e k)

-- ## What entered is through

pub last_through : (f g : Flow) (p : Passing) → Lasts f g → Leads (at_rest g) (through g true) p → Leads (at_rest f) (through f true) p
last_through f g p h l = leads_at (same_rests f g h) (leads_same (λ sink k. through_last_as f g h true sink k) l)

pub last_through_lighter : (f g : Flow) (n : ℕ) → Lasts f g → n < flow_weight g + 1 → n < flow_weight f + 1
last_through_lighter f g n h l =
    let w : flow_weight g + length f.walks.items ≡ flow_weight f = last_weight f g h in
    omega (arith, w, l)

-- the innermost walk goes on
pub walk_goes : (f g : Flow) (w : Walk) (p : Passing) → SameButWalks f g → f.walks.items ≡ g.walks.items ++ w ∷ [] → Leads (at_rest g) (walking g w.at (rested w.rest)) p → Leads (at_rest f) (through f false) p
walk_goes f g w p h e l = leads_at (same_walks_rests f g h) (leads_same on_plan l)
  where
    back : SameButWalks g f
    back = record { stages = sym h.stages; under_way = sym h.under_way }

    on_plan : (sink : Sink ℕ) (k : Onward ℕ) → through f false sink k ≡ walking g w.at (rested w.rest) sink k
    on_plan sink k = (λ i. one_more_waits g f w back e k i (states_stand (sym h.stages i)) sink false)

pub walk_lighter : (f g : Flow) (w : Walk) (n : ℕ) → SameButWalks f g → f.walks.items ≡ g.walks.items ++ w ∷ [] → n ≤ flow_weight g + 1 → n < flow_weight f + 1
walk_lighter f g w n h e l =
    let q : flow_weight f ≡ flow_weight g + 1 =
    (λ i. to_complete (sym h.under_way i) (length (sym h.stages i)) * (length (sym h.stages i) + 3) + length (e i))
    ∙ ap (λ m. to_complete g.under_way (length g.stages.items) * (length g.stages.items + 3) + m) (length_push g.walks.items w)
    ∙ omega arith in
    omega (arith, q, l)

-- nothing waits
pub none_goes : (f g : Flow) (p : Passing) → SameButWalks f g → f.walks.items ≡ g.walks.items ++ [] → Leads (at_rest g) (through g false) p → Leads (at_rest f) (through f false) p
none_goes f g p h e l = leads_at (same_walks_rests f g h) (leads_same on_plan l)
  where
    on_plan : (sink : Sink ℕ) (k : Onward ℕ) → through f false sink k ≡ through g false sink k
    on_plan sink k = λ i. waiting ((e ∙ append-nil g.walks.items) i) (stages_stand (sym h.stages i)) (at_end (sym h.under_way i) (stages_stand (sym h.stages i)) k) (states_stand (sym h.stages i)) sink false

pub none_lighter : (f g : Flow) (n : ℕ) → SameButWalks f g → f.walks.items ≡ g.walks.items ++ [] → n < flow_weight g + 1 → n < flow_weight f + 1
none_lighter f g n h e l = subst (λ m. n < m + 1) (λ i. to_complete (h.under_way i) (length (h.stages i)) * (length (h.stages i) + 3) + length ((sym (e ∙ append-nil g.walks.items)) i)) l

-- Inputs, collections and completions begin, and go on after each turn.
use Rattle.std.proofs.Common.{◌≡◌, ℕ, ◌<◌, Bool, true, false, List, [], length, drop, take, ◌++◌, refl, ap, sym, ◌∙◌, subst}
use Rattle.seq_values.specs.Model as M
use Rattle.seq_values.specs.Plain.{plain}
use Rattle.seq_plan.specs.Stages.{Sink, Onward, enter, enter_each, complete}
use Rattle.seq_turns.specs.Turning.{arrives}
use Rattle.seq_turns.specs.declared.proper.Proper.{Proper}
use Rattle.xf_stages.specs.Left.{Course, at_end, at_rest, after_input, waiting, stages_in, states_in, stages_stand, states_stand, through, entering, walking, left_call}
use Rattle.xf_stages.specs.Flowing.{Leads, Affects, IsFlowOf, effect_course}
use Rattle.xf_stages.specs.declared.state.AtCall.{AtCall}
use Rattle.xf_stages.specs.declared.state.Effected.{Effected}
use Rattle.xf_stages.specs.declared.state.Flow.{Flow}
use Rattle.xf_stages.specs.declared.state.Passing.{Passing}
use Rattle.xf_stages.specs.declared.state.Passing.TheVariants as G
use Rattle.xf_stages.specs.declared.state.Stages.{Stages}
use Rattle.xf_stages.specs.declared.state.UnderWay.{UnderWay}
use Rattle.xf_stages.specs.declared.state.UnderWay.TheVariants as U
use Rattle.xf_stages.proofs.EffectTurns.{rest_stages, rests_as}
use Rattle.xf_stages.proofs.Leading.{leads_same, leads_at, same_plan}

begins_after : (s : Stages) (u : UnderWay) (f : Flow) → IsFlowOf s u f → (k : Onward ℕ) → after_input f k ≡ at_end u (stages_in s) k
begins_after s u f h k = λ i. waiting (h.walks i) (stages_stand (h.stages i)) (at_end (h.under_way i) (stages_stand (h.stages i)) k)

begins_rest : (s : Stages) (u : UnderWay) (f : Flow) → IsFlowOf s u f → at_rest f ≡ rest_stages u (stages_in s)
begins_rest s u f h = rests_as f ∙ (λ i. rest_stages (h.under_way i) (stages_stand (h.stages i)))

pub enter_begins : (s : Stages) (f : Flow) (x : Proper) → IsFlowOf s (U.Input false) f → Leads (stages_in s) (λ sink k. enter (stages_in s) (states_in s) sink (plain x.value) k) (G.Entering f 0 x)
enter_begins s f x h = record {
  goes = λ sink k. same_plan (λ i. enter (stages_stand (sym h.stages i)) (states_stand (sym h.stages i)) sink (plain x.value) (λ new after done. sym (begins_after s (U.Input false) f h k) i new after done));
  step = tt;
  rests = begins_rest s (U.Input false) f h;
}

pub walk_begins : (s : Stages) (f : Flow) (c : M.Value ℕ) (p : Passing) → IsFlowOf s (U.Input false) f → Leads (at_rest f) (walking f 0 c) p → Leads (stages_in s) (λ sink k. enter_each (stages_in s) (states_in s) sink c k) p
walk_begins s f c p h l = leads_at (begins_rest s (U.Input false) f h) (leads_same (λ sink k. λ i. enter_each (stages_stand (sym h.stages i)) (states_stand (sym h.stages i)) sink c (λ new after done. sym (begins_after s (U.Input false) f h k) i new after done)) l)

pub complete_begins : (s : Stages) (f : Flow) → IsFlowOf s (U.Completion 0) f → Leads [] (λ sink k. complete (stages_in s) (states_in s) sink (λ after. k [] after true)) (G.Through f false)
complete_begins s f h = record {
  goes = λ sink k. same_plan (λ i. sym (begins_after s (U.Completion 0) f h k) i (states_stand (sym h.stages i)) sink false);
  step = tt;
  rests = begins_rest s (U.Completion 0) f h;
}

pub answer_goes : (w : AtCall) (y : M.Value ℕ) (e : Effected) (p : Passing) → Affects w.flow w.at (left_call w y) e → Leads (at_rest e.flow) (effect_course e.effect e.flow w.at) p → Leads (at_rest w.flow) (left_call w y) p
answer_goes w y e p a h = leads_at a.keeps.rests (leads_same a.goes h)

pub still_there : (w : AtCall) (y : M.Value ℕ) (e : Effected) → Affects w.flow w.at (left_call w y) e → w.at < length e.flow.stages.items
still_there w y e a = subst (λ n. w.at < n) (sym a.keeps.count) w.within

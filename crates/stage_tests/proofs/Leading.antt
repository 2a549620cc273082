-- Turns that lead to the same stages.
use Rattle.std.proofs.Common.{◌≡◌, ℕ, List, sym, subst, ◌∙◌, ap}
use Rattle.std.specs.Prelude.{Option, Some, None, IfSome, Result, Ok, Err, IfOk}
use Rattle.seq_values.specs.Model as M
use Rattle.seq_plan.specs.WellFormed.{sight}
use Rattle.seq_turns.specs.declared.proper.Proper.{Proper}
use Rattle.seq_turns.specs.declared.proper.ProperList.{ProperList}
use Rattle.xf_stages.specs.Left.{Course, Goes, RestsWith, at_rest, stages_in}
use Rattle.xf_stages.specs.Opening.{all_kept, kept_in, seen_kept}
use Rattle.xf_stages.specs.declared.state.AtCall.{AtCall}
use Rattle.xf_stages.specs.declared.state.AtOut.{AtOut}
use Rattle.xf_stages.specs.declared.state.AtSeq.{AtSeq}
use Rattle.xf_stages.specs.declared.state.AtStep.{AtStep}
use Rattle.xf_stages.specs.declared.state.Stages.{Stages}
use Rattle.xf_stages.specs.declared.state.StageTurn.{StageTurn}
use Rattle.xf_stages.specs.declared.state.StageTurn.TheVariants as R
use Rattle.stage_tests.specs.Following.{Follows, LeadsTo}

-- a turn after one that waits, which leads to the stages in the midst of it
follows : (t u w : StageTurn) (at : List (M.Value ℕ)) → t ≡ w → ((stages : List (M.Value ℕ)) → RestsWith stages w → at ≡ stages) → RestsWith at u → Follows t u
follows t u w at e h r stages s = subst (λ ss. RestsWith ss u) (h stages (subst (RestsWith stages) e s)) r

pub same_follows : (t u : StageTurn) → t ≡ u → Follows t u
same_follows t u e stages s = subst (RestsWith stages) e s

module _ {E : Type 0} (t : StageTurn) where
  pub call_follows : (w : AtCall) (f : Proper) (xs : ProperList) (r : Result StageTurn E) → t ≡ R.Apply w f xs → IfOk r (RestsWith (at_rest w.flow)) → IfOk r (Follows t)
  call_follows w f xs (Ok u) e h = follows t u (R.Apply w f xs) (at_rest w.flow) e (λ stages s. s) h
  call_follows w f xs (Err x) e h = tt

  pub seq_follows : (w : AtSeq) (v : Proper) (r : Result StageTurn E) → t ≡ R.Seq w v → IfOk r (RestsWith (at_rest w.flow)) → IfOk r (Follows t)
  seq_follows w v (Ok u) e h = follows t u (R.Seq w v) (at_rest w.flow) e (λ stages s. s) h
  seq_follows w v (Err x) e h = tt

  pub step_follows : (w : AtStep) (r : Result StageTurn E) → t ≡ R.Visit w → IfOk r (RestsWith (at_rest w.flow)) → IfOk r (Follows t)
  step_follows w (Ok u) e h = follows t u (R.Visit w) (at_rest w.flow) e (λ stages s. s) h
  step_follows w (Err x) e h = tt

  pub out_follows : (w : AtOut) (v : Proper) (r : Result StageTurn E) → t ≡ R.Out w v → IfOk r (RestsWith (at_rest w.flow)) → IfOk r (Follows t)
  out_follows w v (Ok u) e h = follows t u (R.Out w v) (at_rest w.flow) e (λ stages s. s) h
  out_follows w v (Err x) e h = tt

  pub rest_leads : (s : Stages) (r : Result (Option Stages) E) → t ≡ R.Rest s → IfOk r (λ x. x ≡ Some s) → IfOk r (λ x. IfSome x (LeadsTo t))
  rest_leads s (Ok x) e h = subst (λ y. IfSome y (LeadsTo t)) (sym h) (λ stages r. subst (RestsWith stages) e r)
  rest_leads s (Err x) e h = tt

  pub none_leads : (r : Result (Option Stages) E) → IfOk r (λ x. x ≡ None) → IfOk r (λ x. IfSome x (LeadsTo t))
  none_leads (Ok x) h = subst (λ y. IfSome y (LeadsTo t)) (sym h) tt
  none_leads (Err x) h = tt

pub follows_on : (t u v : StageTurn) → Follows t u → Follows u v → Follows t v
follows_on t u v f g stages s = g stages (f stages s)

-- the stages at the end of turns
pub leads_on : (t u : StageTurn) (x : Option Stages) → Follows t u → IfSome x (LeadsTo u) → IfSome x (LeadsTo t)
leads_on t u (Some s) f h = λ stages r. h stages (f stages r)
leads_on t u None f h = tt

pub leads_from : (stages : List (M.Value ℕ)) (course : Course) (t : StageTurn) (x : Option Stages) → Goes stages course t → IfSome x (LeadsTo t) → IfSome x (λ s. stages_in s ≡ stages)
leads_from stages course t (Some s) g h = h stages g.rests
leads_from stages course t None g h = tt

-- stages that are the same ones keep the same states
pub still_through : (xf : M.Value ℕ) (before : Stages) (x : Option Stages) → seen_kept (sight xf) ≡ Some (kept_in before) → IfSome x (λ s. stages_in s ≡ stages_in before) → IfSome x (λ s. seen_kept (sight xf) ≡ Some (kept_in s))
still_through xf before (Some s) e h = e ∙ ap (λ l. Some (all_kept l)) (sym h)
still_through xf before None e h = tt

pub back_through : (xf : M.Value ℕ) (fresh after : Stages) → seen_kept (sight xf) ≡ Some (kept_in fresh) → stages_in after ≡ stages_in fresh → seen_kept (sight xf) ≡ Some (kept_in after)
back_through xf fresh after e h = e ∙ ap (λ l. Some (all_kept l)) (sym h)

pub same_kept : (xf : M.Value ℕ) (old fresh : Stages) → seen_kept (sight xf) ≡ Some (kept_in old) → seen_kept (sight xf) ≡ Some (kept_in fresh) → kept_in old ≡ kept_in fresh
same_kept xf old fresh e h = cc

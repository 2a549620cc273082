-- What stages whose outputs are gathered came to, and that they give few outputs without a turn.
use Rattle.std.proofs.Common.{◌≡◌, ℕ, suc, ◌<◌, Bool, true, false, cond, List, [], ◌∷◌, ◌++◌, refl, ap, sym, subst, ◌∙◌, arith}
use Rattle.seq_base.specs.declared.thrown.Thrown.{Thrown}
use Rattle.seq_values.specs.Model as M
use Rattle.seq_values.specs.Model.{◌&◌}
use Rattle.seq_values.specs.Plain.{plain, plains}
use Rattle.seq_plan.specs.Plan.{Plan, visit, ask, seq, call, go, make, give, throw, then, plan_of, Loop, enter_from, Round, ends_with, fails, visits, calls_for}
use Rattle.seq_plan.specs.Nodes.{Found, now, asks_for, no_seq, found, is_nil}
use Rattle.seq_plan.specs.Stages.{Onward, reduces, gathers, enter_round}
use Rattle.seq_turns.specs.Turning.{arrives, opens, finds}
use Rattle.seq_turns.specs.declared.next.Next.{Next}
use Rattle.seq_turns.specs.declared.proper.Proper.{Proper}
use Rattle.seq_turns.proofs.Taking.{joins}
use Rattle.stage_rows.specs.Table.{stage_round}
use Rattle.xf_stages.specs.Left.{Course, StageSilent, is_enter_loop, left_out, at_rest}
use Rattle.xf_stages.specs.declared.state.Stages.{Stages}
use Rattle.xf_stages.specs.declared.state.AtOut.{AtOut}
use Rattle.pull_rules.specs.Reducing.{Errand, Flows, Gathers, FlowedRests, IsFlowedAsked, flowed_node}
use Rattle.pull_rules.specs.declared.flow.Flowed.{Flowed}
use Rattle.pull_rules.specs.declared.flow.Flowed.TheVariants as F
use Rattle.pull_rules.specs.declared.flow.GatheringTurn.TheVariants as GT
use Rattle.pull_rules.specs.declared.flow.Outputs.{Outputs}
use Rattle.pull_rules.specs.declared.flow.Waiting.{Waiting}

-- Stages came to this in the midst of an errand, with these outputs behind them.
pub record Advances (stages : List (M.Value ℕ)) (errand : Errand) (f : Flowed) (o : Outputs) : Type 0 where
  pub goes : (k : Onward ℕ) → StageSilent (errand k) (flowed_node f (gathers (plains o.items.items)) k)
  pub asked : IsFlowedAsked f
  pub rests : FlowedRests stages f

pub advances_first : (stages : List (M.Value ℕ)) (course : Course) (f : Flowed) (o : Outputs) → Flows stages course f → Advances stages (λ k. course (gathers (plains o.items.items)) k) f o
advances_first stages course f o h = record { goes = λ k. h.goes (gathers (plains o.items.items)) k; asked = h.asked; rests = h.rests }

module _ (stages : List (M.Value ℕ)) (errand : Errand) where
  asks_from : (n : Next Waiting) (o : Outputs) → Advances stages errand (F.Asks n) o → Gathers stages errand (GT.Asks (record { state = record { waiting = n.state; outputs = o }; turn = n.turn }))
  asks_from n o h = record { goes = h.goes; asked = h.asked; rests = h.rests }

  pub advances_asks : (n : Next Waiting) (f : Flowed) (o : Outputs) → f ≡ F.Asks n → Advances stages errand f o → Gathers stages errand (GT.Asks (record { state = record { waiting = n.state; outputs = o }; turn = n.turn }))
  advances_asks n f o e h = asks_from n o (subst (λ g. Advances stages errand g o) e h)

  throws_from : (why : Thrown) (o : Outputs) → Advances stages errand (F.Throw why) o → Gathers stages errand (GT.Throw why)
  throws_from why o h = record { goes = h.goes; asked = tt; rests = tt }

  pub advances_throw : (why : Thrown) (f : Flowed) (o : Outputs) → f ≡ F.Throw why → Advances stages errand f o → Gathers stages errand (GT.Throw why)
  advances_throw why f o e h = throws_from why o (subst (λ g. Advances stages errand g o) e h)

  rests_from : (s : Stages) (o : Outputs) → Advances stages errand (F.Rest s) o → Gathers stages errand (GT.Rest s o)
  rests_from s o h = record { goes = h.goes; asked = tt; rests = h.rests }

  pub advances_rest : (s : Stages) (f : Flowed) (o : Outputs) → f ≡ F.Rest s → Advances stages errand f o → Gathers stages errand (GT.Rest s o)
  advances_rest s f o e h = rests_from s o (subst (λ g. Advances stages errand g o) e h)

  -- an output is gathered, and the stages go on
  output_from : (w : AtOut) (x : Proper) (next : Flowed) (o more : Outputs) → plains more.items.items ≡ plains o.items.items ++ plain x.value ∷ [] → Advances stages errand (F.Out w x) o → Flows (at_rest w.flow) (left_out w false) next → Advances stages errand next more
  output_from w x next o more e h g = record { goes = goes; asked = g.asked; rests = subst (λ s. FlowedRests s next) h.rests g.rests }
    where
      goes : (k : Onward ℕ) → StageSilent (errand k) (flowed_node next (gathers (plains more.items.items)) k)
      goes k = joins (h.goes k) (subst (λ ys. StageSilent (left_out w false (gathers ys) k) (flowed_node next (gathers (plains more.items.items)) k)) e (g.goes (gathers (plains more.items.items)) k))

  pub advances_output : (w : AtOut) (x : Proper) (f next : Flowed) (o more : Outputs) → f ≡ F.Out w x → plains more.items.items ≡ plains o.items.items ++ plain x.value ∷ [] → Advances stages errand f o → Flows (at_rest w.flow) (left_out w false) next → Advances stages errand next more
  advances_output w x f next o more q e h g = output_from w x next o more e (subst (λ p. Advances stages errand p o) q h) g

-- ## Few outputs come without a turn

-- by what `seq` finds at once, and by what a round ends with
abbrev by_found : (M.Value ℕ → ℕ) → Found ℕ → ℕ
by_found f (now w) = f w
by_found f (asks_for c) = 0
by_found f no_seq = 0

abbrev by_end : (M.Value ℕ → ℕ) → Round ℕ → ℕ
by_end f (ends_with v) = f v
by_end f (fails e) = 0
by_end f (visits p) = 0
by_end f (calls_for g xs k) = 0

-- how many calls a plan comes to one after the other, where each answers nil, and nothing is asked
abbrev calls_ahead : Plan ℕ → ℕ
calls_ahead (call f xs k) = suc (calls_ahead (k M.nil))
calls_ahead (seq v k) = by_found (λ w. calls_ahead (k w)) (found v)
calls_ahead (go l xs k) = by_end (λ v. calls_ahead (k v)) (stage_round l xs)
calls_ahead (visit p) = 0
calls_ahead (ask c k) = 0
calls_ahead (make kind t k) = 0
calls_ahead (give v) = 0
calls_ahead (throw e) = 0

at_nil : (b : Bool) (v : M.Value ℕ) (p : Plan ℕ) (k : M.Value ℕ → Plan ℕ) → by_end (λ w. calls_ahead (k w)) (cond b (ends_with v) (visits p)) ≡ calls_ahead (then (plan_of (cond b (ends_with v) (visits p))) k)
at_nil true v p k = refl
at_nil false v p k = refl

of_round : (xs : List (M.Value ℕ)) (k : M.Value ℕ → Plan ℕ) → by_end (λ v. calls_ahead (k v)) (enter_round xs) ≡ calls_ahead (then (plan_of (enter_round xs)) k)
of_round (M.vector stages ∷ M.vector states ∷ s ∷ f ∷ answer ∷ []) k = at_nil (is_nil s) _ _ k
of_round (M.vector stages ∷ M.vector states ∷ s ∷ M.vector xs ∷ []) k = at_nil (is_nil s) _ _ k
of_round _ k = refl

of_loop : (l : Loop) (xs : List (M.Value ℕ)) (k : M.Value ℕ → Plan ℕ) → is_enter_loop l ≡ true → calls_ahead (go l xs k) ≡ calls_ahead (then (plan_of (stage_round l xs)) k)
of_loop enter_from xs k o = of_round xs k
of_loop _ xs k o = absurd cc

same_ahead : {p q : Plan ℕ} → StageSilent p q → calls_ahead p ≡ calls_ahead q
same_ahead arrives = refl
same_ahead (opens {l = l} {xs = xs} {k = k} o s) = of_loop l xs k o ∙ same_ahead s
same_ahead (finds {v = v} {w = w} {k = k} e s) = ap (by_found (λ u. calls_ahead (k u))) e ∙ same_ahead s

-- where nothing comes after
abbrev nothing_on : Onward ℕ
nothing_on states sink done = give M.nil

-- how many outputs the stages may give one after the other without a turn
abbrev pub outputs_ahead : Flowed → ℕ
outputs_ahead f = calls_ahead (flowed_node f (reduces M.nil M.nil) nothing_on)

pub fewer_ahead : (w : AtOut) (x : Proper) (f : Flowed) → Flows (at_rest w.flow) (left_out w false) f → outputs_ahead f < outputs_ahead (F.Out w x)
fewer_ahead w x f h =
    let e : calls_ahead (left_out w false (reduces M.nil M.nil) nothing_on) ≡ outputs_ahead f = same_ahead (h.goes (reduces M.nil M.nil) nothing_on) in
    let n : outputs_ahead (F.Out w x) ≡ suc (calls_ahead (left_out w false (reduces M.nil M.nil) nothing_on)) = refl in
    omega (arith, e, n)

pub fewer_out : (flow : Flowed) (w : AtOut) (x : Proper) (f : Flowed) → flow ≡ F.Out w x → Flows (at_rest w.flow) (left_out w false) f → outputs_ahead f < outputs_ahead flow
fewer_out flow w x f e h = subst (λ g. outputs_ahead f < outputs_ahead g) (sym e) (fewer_ahead w x f h)

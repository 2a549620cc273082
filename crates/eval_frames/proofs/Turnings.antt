-- The turns of rules, as what a work comes to.
use Rattle.std.proofs.Common.{◌≡◌, ℕ, ◌+◌, ◌-◌, true, List, Some, None, refl, ap, subst, arith}
use Rattle.seq_values.specs.Model as M
use Rattle.seq_values.specs.Model.{◌&◌}
use Rattle.seq_plan.specs.Plan.{Plan, Loop, visit, ask, call, then, done}
use Rattle.seq_plan.specs.Nodes.{asks_for, no_seq, found}
use Rattle.seq_turns.specs.Arguments.{part_in}
use Rattle.seq_turns.specs.Seen.{NotNow}
use Rattle.seq_turns.specs.Turning.{Silent}
use Rattle.seq_turns.proofs.Transport.{silent_in}
use Rattle.eval_frames.specs.Frames.{Ground, script_in, beneath, asking_plan}
use Rattle.eval_frames.specs.Leads.{Moves, Leads}
use Rattle.eval_frames.specs.Weights.{rest_weight}
use Rattle.eval_frames.specs.declared.state.Rest.{Rest}
use Rattle.eval_frames.specs.declared.state.Stepping.{Stepping}
use Rattle.eval_frames.specs.declared.state.Asking.{Asking}
use Rattle.eval_frames.specs.declared.state.Now.TheVariants as N
use Rattle.eval_frames.specs.declared.state.Ready.TheVariants as R
use Rattle.eval_frames.specs.declared.state.Event.{Event}
use Rattle.eval_frames.specs.declared.state.Event.TheVariants as E
use Rattle.eval_frames.proofs.Callings.{less_left, less_beneath, less_weight}
use Rattle.eval_frames.proofs.Going.{leads_same}
use Rattle.eval_frames.proofs.Moving.{stands, further, visit_moves, need_moves, passes}

pub part_found : (v : M.Value ℕ) (c : ℕ) → part_in v ≡ Some c → found v ≡ asks_for c
part_found (M.cell d) c e = let p : d ≡ c = cc in ap asks_for p
part_found M.nil c e = absurd cc
part_found (M.bool x) c e = absurd cc
part_found (M.int n) c e = absurd cc
part_found (M.keyword n) c e = absurd cc
part_found (M.text t) c e = absurd cc
part_found (M.vector xs) c e = absurd cc
part_found (M.function t xs) c e = absurd cc
part_found (M.reduced v) c e = absurd cc
part_found M.empty c e = absurd cc
part_found (M.cons xs r) c e = absurd cc
part_found (M.chunk xs r) c e = absurd cc
part_found (M.range from at end) c e = absurd cc
part_found (M.vec_seq xs at) c e = absurd cc

pub none_found : (v : M.Value ℕ) → part_in v ≡ None → NotNow v → found v ≡ no_seq
none_found (M.cell d) e h = absurd cc
none_found M.nil e h = absurd (h M.nil refl)
none_found (M.bool x) e h = refl
none_found (M.int n) e h = refl
none_found (M.keyword n) e h = refl
none_found (M.text t) e h = refl
none_found (M.vector M.no_values) e h = absurd (h M.nil refl)
none_found (M.vector (x & xs)) e h = absurd (h (M.vec_seq (x & xs) 0) refl)
none_found (M.function t xs) e h = refl
none_found (M.reduced v) e h = refl
none_found M.empty e h = absurd (h M.nil refl)
none_found (M.cons xs r) e h = absurd (h (M.cons xs r) refl)
none_found (M.chunk xs r) e h = absurd (h (M.chunk xs r) refl)
none_found (M.range from at end) e h = absurd (h (M.range from at end) refl)
none_found (M.vec_seq xs at) e h = absurd (h (M.vec_seq xs at) refl)

-- ## Own steps

module _ {S : Type 0} {b : _} (by : Ground S) (rest less : Rest S b) (pays : less.left ≡ rest.left - 1) (some : ¬ (rest.left ≡ 0)) (same : less.frames ≡ rest.frames) where
  pub visit_on : (rule : Stepping S b) → Leads by rest.left (visit (then (by.running.left rule.state done) (beneath by rest))) (rest_weight by.code rest) (E.Went (record { now = N.Turn (R.Done rule); rest = less }))
  visit_on rule = record {
    goes = further (script_in by) (visit_moves (script_in by) rest.left less.left _ (less_left by rest less pays some same)) (stands (script_in by) refl (ap (then (by.running.left rule.state done)) (less_beneath by rest less pays some same)));
    took = less_left by rest less pays some same;
    light = let w = less_weight by rest less pays some same in omega (arith, w);
  }

  pub ask_on : (cell : _) (asking : Asking S b) → Leads by rest.left (ask cell (asking_plan by asking (beneath by rest))) (rest_weight by.code rest) (E.Asks (record { cell = cell; asking = asking; rest = less }))
  ask_on cell asking = record {
    goes = further (script_in by) (need_moves (script_in by) rest.left less.left _ (less_left by rest less pays some same)) (stands (script_in by) refl (ap (λ k. ask cell (asking_plan by asking k)) (less_beneath by rest less pays some same)));
    took = less_left by rest less pays some same;
    light = let w = less_weight by rest less pays some same in omega (arith, w);
  }

-- a call above one more frame
module _ {S : Type 0} {b : _} (by : Ground S) where
  pub call_above : (rest more : Rest S b) (f : M.Value ℕ) (xs : List (M.Value ℕ)) (k : M.Value ℕ → Plan ℕ) (e : Event S b) → more.left ≡ rest.left → beneath by more ≡ k → rest_weight by.code more ≡ rest_weight by.code rest + 2 → Leads by more.left (call f xs (beneath by more)) (rest_weight by.code more - 2) e → Leads by rest.left (call f xs k) (rest_weight by.code rest) e
  call_above rest more f xs k e l p w h = subst (λ n. Leads by n (call f xs k) (rest_weight by.code rest) e) l (leads_same by (ap (call f xs) p) (omega (arith, w)) h)

module _ {S : Type 0} (by : Ground S) where
  -- what a rule passes over, a work passes over
  pub rule_moves : ((l : Loop) (xs : List (M.Value ℕ)) → by.running.own l ≡ true → (script_in by).rules.on_loop l xs ≡ by.running.rounds l xs) → (n : ℕ) (p q : Plan ℕ) (k : M.Value ℕ → Plan ℕ) → Silent by.running.own by.running.rounds p q → Moves (script_in by) n (then p k) n (then q k)
  rule_moves same n p q k s = passes (script_in by) n k (silent_in by.running.own by.running.rounds (script_in by).rules.on_loop same s)

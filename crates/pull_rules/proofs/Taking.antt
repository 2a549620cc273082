-- How a turn of this crate's rules takes a node of each plan that may be passed on to it.
use Rattle.std.specs.declared.result.Result.{Result}
use Rattle.std.proofs.Common.{◌≡◌, ℕ, true, IfOk, List, refl, ap, ◌∙◌}
use Rattle.seq_values.specs.Model as M
use Rattle.seq_values.specs.Plain.{plain, plains}
use Rattle.seq_values.specs.declared.value.Value.{Value}
use Rattle.seq_plan.specs.Plan.{Plan, Loop, enter_from, seq, call, go, then, plan_of}
use Rattle.seq_plan.specs.Nodes.{found, now}
use Rattle.seq_turns.specs.Turning.{Silent, arrives, opens, finds}
use Rattle.seq_turns.specs.declared.next.Next.{Next}
use Rattle.seq_turns.proofs.Taking as G
use Rattle.stage_rows.specs.Table.{stage_round}
use Rattle.xf_stages.specs.Left.{is_enter_loop, StageSilent}
use Rattle.pull_rules.specs.Left.{is_stage_loop, pulling, Takes}
use Rattle.pull_rules.specs.declared.state.State.{State}

pub takes_from : {p q : Plan ℕ} {r : Next State} → Silent is_stage_loop stage_round p q → Takes q r → Takes p r
takes_from s h = G.takes_from pulling s h

pub takes_same : {p q : Plan ℕ} {r : Next State} → p ≡ q → Takes p r → Takes q r
takes_same e h = G.takes_same pulling e h

-- a loop after which more comes
pub takes_loop : (l : Loop) (xs : List (M.Value ℕ)) (k : M.Value ℕ → Plan ℕ) {r : Next State} → is_stage_loop l ≡ true → Takes (then (plan_of (stage_round l xs)) k) r → Takes (go l xs k) r
takes_loop l xs k o h = G.takes_loop pulling l xs k o h

-- what a callee took
pub in_ok : {E : Type 0} (r : Result (Next State) E) {p q : Plan ℕ} → ((n : Next State) → Takes q n → Takes p n) → IfOk r (λ n. Takes q n) → IfOk r (λ n. Takes p n)
in_ok r f h = G.in_ok pulling r f h

pub ok_same : {E : Type 0} (r : Result (Next State) E) {p q : Plan ℕ} → q ≡ p → IfOk r (λ n. Takes q n) → IfOk r (λ n. Takes p n)
ok_same r e h = in_ok r (λ n t. takes_same e t) h

-- a `seq` of what is there
pub now_goes : {v w x : M.Value ℕ} (k : M.Value ℕ → Plan ℕ) {r : Next State} → v ≡ x → found v ≡ now w → Takes (k w) r → Takes (seq x k) r
now_goes k e f h = takes_same (ap (λ s. seq s k) e) (takes_from (finds f arrives) h)

pub now_ok : {E : Type 0} {v w x : M.Value ℕ} (k : M.Value ℕ → Plan ℕ) (r : Result (Next State) E) → v ≡ x → found v ≡ now w → IfOk r (λ n. Takes (k w) n) → IfOk r (λ n. Takes (seq x k) n)
now_ok k r e f h = in_ok r (λ n t. now_goes k e f t) h

-- a `seq` that is asked
pub asks_goes : {v w x : M.Value ℕ} (k : M.Value ℕ → Plan ℕ) {r : Next State} → v ≡ x → w ≡ v → Takes (seq w k) r → Takes (seq x k) r
asks_goes k e f h = takes_same (ap (λ s. seq s k) (f ∙ e)) h

-- what goes on after a call
pub calls_same : (f g : Value) (xs : List Value) (ys : List (M.Value ℕ)) (k : M.Value ℕ → Plan ℕ) {r : Next State} → g ≡ f → plains xs ≡ ys → Takes (call (plain g) (plains xs) k) r → Takes (call (plain f) ys k) r
calls_same f g xs ys k e q h = takes_same (λ i. call (plain (e i)) (q i) k) h

is_one : (l : Loop) → is_enter_loop l ≡ true → is_stage_loop l ≡ true
is_one enter_from o = refl
is_one _ o = absurd cc

-- what stages pass over
pub silent_stages : {p q : Plan ℕ} → StageSilent p q → Silent is_stage_loop stage_round p q
silent_stages arrives = arrives
silent_stages (opens {l = l} o s) = opens (is_one l o) (silent_stages s)
silent_stages (finds e s) = finds e (silent_stages s)

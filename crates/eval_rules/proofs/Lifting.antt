-- A turn of a rule of one crate is a turn of a rule of the language.
use Rattle.std.proofs.Common.{◌≡◌, ℕ, Bool, true, false, List, refl, sym, subst, ◌∙◌}
use Rattle.seq_values.specs.Model as M
use Rattle.seq_values.specs.declared.term.Turn.{Turn}
use Rattle.seq_plan.specs.Plan.{Loop, Plan, Round, then, plan_of, nth_from, last_from, count_from, gather_from, doall_from, every_from, some_from, equal_from, reduce_from, enter_from, drop_from, drop_while_from, parts_from, pull_from, ahead_from, print_value, print_rest}
use Rattle.seq_plan.specs.Turns.{node}
use Rattle.seq_turns.specs.Turning.{Silent, arrives, opens, finds, Running, TakesTurn}
use Rattle.seq_table.specs.Table.{on_loop}
use Rattle.core_rules.specs.Left as core
use Rattle.core_rules.specs.declared.state.RuleState as core_rule
use Rattle.walk_rules.specs.Left as walk
use Rattle.walk_rules.specs.declared.state.RuleState as walk_rule
use Rattle.lazy_rules.specs.Left as lazy
use Rattle.lazy_rules.specs.declared.state.RuleState as lazy_rule
use Rattle.pull_rules.specs.Left as stage
use Rattle.pull_rules.specs.declared.state.RuleState as stage_rule
use Rattle.ahead_rules.specs.Left as ahead
use Rattle.ahead_rules.specs.declared.state.RuleState as ahead_rule
use Rattle.fold_rules.specs.Left as fold
use Rattle.fold_rules.specs.declared.state.RuleState as fold_rule
use Rattle.print_rules.specs.Left as print
use Rattle.print_rules.specs.declared.state.RuleState as print_rule
use Rattle.eval_rules.specs.Left.{language_runs, left, wait_of}
use Rattle.eval_rules.specs.declared.state.State.{State}
use Rattle.eval_rules.specs.declared.state.State.TheVariants as S

-- the table has the loops of a crate as the crate has them
abbrev Agrees : (Loop → Bool) → (Loop → List (M.Value ℕ) → Round ℕ) → Type 0
Agrees own rounds = (l : Loop) (xs : List (M.Value ℕ)) → own l ≡ true → on_loop l xs ≡ rounds l xs

module _ (own : Loop → Bool) (rounds : Loop → List (M.Value ℕ) → Round ℕ) (same : Agrees own rounds) where
  widened : {p q : Plan ℕ} → Silent own rounds p q → Silent (λ l. true) on_loop p q
  widened arrives = arrives
  widened (opens {l = l} {xs = xs} {k = k} {q = q} o s) = opens refl (subst (λ r. Silent (λ l. true) on_loop (then (plan_of r) k) q) (sym (same l xs o)) (widened s))
  widened (finds e s) = finds e (widened s)

lifted : {X : Type 0} (rule : Running X) → Agrees rule.own rule.rounds → (s : State) (x : X) → left s ≡ rule.left x → wait_of s ≡ rule.wait_of x → (p : Plan ℕ) (t : Turn) → TakesTurn rule p x t → TakesTurn language_runs p (record { state = s }) t
lifted rule same s x el ew p t h = record {
  goes = subst (λ f. Silent (λ l. true) on_loop p (node t f)) (sym el) (widened rule.own rule.rounds same h.goes);
  step = h.step;
  waits = ew ∙ h.waits;
  well = h.well;
}

-- ## The loops of each crate

walk_same : Agrees walk.is_walk walk.walking.rounds
walk_same nth_from xs o = refl
walk_same last_from xs o = refl
walk_same count_from xs o = refl
walk_same gather_from xs o = refl
walk_same doall_from xs o = refl
walk_same every_from xs o = refl
walk_same some_from xs o = refl
walk_same equal_from xs o = refl
walk_same reduce_from xs o = refl
walk_same _ xs o = absurd cc

lazy_same : Agrees lazy.is_lazy_loop lazy.lazily_run.rounds
lazy_same drop_from xs o = refl
lazy_same drop_while_from xs o = refl
lazy_same parts_from xs o = refl
lazy_same _ xs o = absurd cc

stage_same : Agrees stage.is_stage_loop stage.pulling.rounds
stage_same enter_from xs o = refl
stage_same pull_from xs o = refl
stage_same _ xs o = absurd cc

ahead_same : Agrees ahead.is_ahead ahead.running.rounds
ahead_same ahead_from xs o = refl
ahead_same _ xs o = absurd cc

fold_same : Agrees fold.running.own fold.running.rounds
fold_same enter_from xs o = refl
fold_same _ xs o = absurd cc

print_same : Agrees print.is_print print.prints.rounds
print_same print_value xs o = refl
print_same print_rest xs o = refl
print_same _ xs o = absurd cc

-- ## The turns of each crate

pub core_takes : (p : Plan ℕ) (r : core_rule.RuleState) (t : Turn) → TakesTurn core.core_runs p r.state t → TakesTurn language_runs p (record { state = S.Core r }) t
core_takes p r t h = lifted core.core_runs (λ l xs o. absurd cc) (S.Core r) r.state refl refl p t h

pub walk_takes : (p : Plan ℕ) (r : walk_rule.RuleState) (t : Turn) → TakesTurn walk.walking p r.state t → TakesTurn language_runs p (record { state = S.Walk r }) t
walk_takes p r t h = lifted walk.walking walk_same (S.Walk r) r.state refl refl p t h

pub lazy_takes : (p : Plan ℕ) (r : lazy_rule.RuleState) (t : Turn) → TakesTurn lazy.lazily_run p r.state t → TakesTurn language_runs p (record { state = S.Lazy r }) t
lazy_takes p r t h = lifted lazy.lazily_run lazy_same (S.Lazy r) r.state refl refl p t h

pub stage_takes : (p : Plan ℕ) (r : stage_rule.RuleState) (t : Turn) → TakesTurn stage.pulling p r.state t → TakesTurn language_runs p (record { state = S.Stage r }) t
stage_takes p r t h = lifted stage.pulling stage_same (S.Stage r) r.state refl refl p t h

pub ahead_takes : (p : Plan ℕ) (r : ahead_rule.RuleState) (t : Turn) → TakesTurn ahead.running p r.state t → TakesTurn language_runs p (record { state = S.Ahead r }) t
ahead_takes p r t h = lifted ahead.running ahead_same (S.Ahead r) r.state refl refl p t h

pub fold_takes : (p : Plan ℕ) (r : fold_rule.RuleState) (t : Turn) → TakesTurn fold.running p r.state t → TakesTurn language_runs p (record { state = S.Fold r }) t
fold_takes p r t h = lifted fold.running fold_same (S.Fold r) r.state refl refl p t h

pub print_takes : (p : Plan ℕ) (r : print_rule.RuleState) (t : Turn) → TakesTurn print.prints p r.state t → TakesTurn language_runs p (record { state = S.Print r }) t
print_takes p r t h = lifted print.prints print_same (S.Print r) r.state refl refl p t h

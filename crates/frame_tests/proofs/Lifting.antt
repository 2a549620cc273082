-- A turn of a rule of the words is a turn of the small language.
use Rattle.std.proofs.Common.{ℕ, true, false, List}
use Rattle.seq_values.specs.Model as M
use Rattle.seq_values.specs.declared.term.Turn.{Turn}
use Rattle.seq_plan.specs.Plan.{Loop, Plan, Round}
use Rattle.seq_turns.specs.Turning.{Silent, arrives, opens, finds, TakesTurn}
use Rattle.core_rules.specs.Left.{core_runs}
use Rattle.core_rules.specs.declared.state.RuleState.{RuleState}
use Rattle.frame_tests.specs.Small.{small_runs}
use Rattle.frame_tests.specs.declared.small_rules.SmallRule.TheVariants as S

lifted : (r s : Loop → List (M.Value ℕ) → Round ℕ) {p q : Plan ℕ} → Silent (λ l. false) r p q → Silent (λ l. true) s p q
lifted r s arrives = arrives
lifted r s (opens o t) = absurd cc
lifted r s (finds e t) = finds e (lifted r s t)

pub core_takes : (p : Plan ℕ) (r : RuleState) (t : Turn) → TakesTurn core_runs p r.state t → TakesTurn small_runs p (S.Core r) t
core_takes p r t h = record { goes = lifted core_runs.rounds small_runs.rounds h.goes; step = h.step; waits = h.waits; well = h.well }

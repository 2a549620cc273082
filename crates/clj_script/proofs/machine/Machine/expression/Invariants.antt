use Rattle.clj_script.specs.Names.{defined}
use Rattle.clj_script.specs.Machines.{todos, total}
use Rattle.clj_script.proofs.ExpressionLemmas.{IsUnderWay}
use Rattle.clj_script.proofs.machine.Machine.expression.Given as goal

abbrev pub invariant-loop-task : goal.invariant-loop-task
invariant-loop-task l = IsUnderWay (defined l.definitions.entries) l.fn.sources.items l.fn.self l.sources.items l.self l.form

abbrev pub decreases-loop-task : goal.decreases-loop-task
decreases-loop-task l = total (todos l.sources.items l.self.tasks.items)

use Rattle.std.proofs.Common.{ℕ, IfOk, List, sym, subst}
use Rattle.seq_values.specs.Model as M
use Rattle.seq_values.specs.Plain.{plain}
use Rattle.seq_plan.specs.Stages.{reduces}
use Rattle.xf_stages.specs.Left.{Course}
use Rattle.pull_rules.specs.Reducing.{Flows, Runs}
use Rattle.pull_rules.proofs.Reductions.{runs_throw, runs_rest}
use Rattle.pull_rules.proofs.reduction.settled.Goals as goal

pub returns-in-Asks : goal.returns-in-Asks
returns-in-Asks c = λ stages course h. c.asks.ensures stages course (subst (λ f. Flows stages course f) c.in-Asks.is h)

pub returns-in-Out : goal.returns-in-Out
returns-in-Out c = subst (λ f. IfOk c.output.result (λ r. (stages : List (M.Value ℕ)) (course : Course) → Flows stages course f → Runs stages (plain c.args.function.value) (λ k. course (reduces (plain c.args.function.value) (plain c.args.answer.value)) k) r)) (sym c.in-Out.is) c.output.ensures

pub returns-in-Throw : goal.returns-in-Throw
returns-in-Throw c = λ stages course h. subst (λ t. Runs stages (plain c.args.function.value) (λ k. course (reduces (plain c.args.function.value) (plain c.args.answer.value)) k) t) (sym c.stopped.ensures) (runs_throw stages course c.args.function c.args.answer c.in-Throw.why (subst (λ f. Flows stages course f) c.in-Throw.is h))

pub returns-in-Rest : goal.returns-in-Rest
returns-in-Rest c = λ stages course h. runs_rest stages course c.args.function c.args.answer c.in-Rest.stages (subst (λ f. Flows stages course f) c.in-Rest.is h)

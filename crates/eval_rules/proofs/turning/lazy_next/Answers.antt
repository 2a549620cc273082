use Rattle.std.proofs.Common.{sym, subst}
use Rattle.lazy_rules.specs.Left as rule
use Rattle.eval_rules.specs.Left.{language_runs}
use Rattle.eval_rules.proofs.Lifting.{lazy_takes}
use Rattle.seq_plan.specs.Turns.{told}
use Rattle.seq_turns.specs.Turning.{Takes}
use Rattle.eval_rules.proofs.turning.lazy_next.Goals as goal

pub returns : goal.returns
returns c = subst (Takes language_runs (rule.left c.args.rule.state (told c.args.answer))) (sym c.at.ensures) (lazy_takes _ c.in_ok-rule.rule c.in_ok-rule.turn c.in_ok-rule.ensures)

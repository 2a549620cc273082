use Rattle.std.proofs.Common.{◌∙◌}
use Rattle.seq_values.specs.Plain.{plains}
use Rattle.eval_rules.proofs.Terms.{other_term}
use Rattle.eval_rules.proofs.beginning.worked.Goals as goal

pub returns-in_default : goal.returns-in_default
returns-in_default c = record {
  left = c.begin-in_default.ensures.left ∙ other_term c.args.term.term.op (plains c.args.term.term.args) c.in_default.not-Pull c.in_default.not-Fold c.in_default.not-Rets c.in_default.not-Step c.in_default.not-Derefs c.in_default.not-Call c.in_default.not-Ahead c.in_default.not-AheadOf c.in_default.not-Near;
  waits = c.begin-in_default.ensures.waits;
}

use Rattle.std.proofs.Common.{arith}
use Rattle.seq_values.specs.Plain.{plain}
use Rattle.xf_stages.proofs.PassTurns.{enters_as, enters_lighter}
use Rattle.xf_stages.proofs.passing.enters.Goals as goal

pub returns-clause-leads : goal.returns-clause-leads
returns-clause-leads c = enters_as c.args.flow c.args.at (plain c.args.item.value) c.in_ok-effected.effected c.on_effect.result c.in_ok-effected.ensures c.on_effect.ensures.leads

pub returns-clause-lighter : goal.returns-clause-lighter
returns-clause-lighter c = enters_lighter c.args.flow c.args.at (plain c.args.item.value) c.in_ok-effected.effected c.on_effect.result (omega (arith, c.if-at-len.false, c.len.ensures)) c.in_ok-effected.ensures c.on_effect.ensures.lighter

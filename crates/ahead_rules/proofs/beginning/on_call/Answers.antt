use Rattle.std.proofs.Common.{sym, subst}
use Rattle.seq_turns.specs.Turning.{Takes}
use Rattle.ahead_rules.specs.Left.{running, left_begin}
use Rattle.ahead_rules.specs.declared.state.AtBegin.TheVariants as B
use Rattle.ahead_rules.proofs.beginning.on_call.Goals as goal

pub returns : goal.returns
returns c = subst (λ n. Takes running (left_begin (B.Call c.args.called)) n) (sym c.without.ensures) c.in_ok-next.ensures

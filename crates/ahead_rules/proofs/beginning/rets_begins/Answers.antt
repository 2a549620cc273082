use Rattle.seq_turns.proofs.Taking.{in_ok}
use Rattle.ahead_rules.specs.Left.{running}
use Rattle.std.proofs.Common.{refl}
use Rattle.ahead_rules.specs.Left.{left_seq}
use Rattle.ahead_rules.specs.declared.state.AtSeq.TheVariants as Q
use Rattle.seq_turns.specs.Seen.{seen}
use Rattle.ahead_rules.proofs.Moves.{seq_now, seq_ask}
use Rattle.ahead_rules.proofs.beginning.rets_begins.Goals as goal

pub returns-in-Now : goal.returns-in-Now
returns-in-Now c =
    let q = rw c.in-Now.is at c.seek-sought.ensures in
    in_ok running c.rets_at.result (λ n h. seq_now c.args.source.value c.args.source.value (seen c.in-Now.what) (left_seq (Q.Rets c.args.function (record { elements = c.args.chunk; some = c.requires }))) n refl q h) c.rets_at.ensures

pub returns-in-Ask : goal.returns-in-Ask
returns-in-Ask c =
    let q = rw c.in-Ask.is at c.seek-sought.ensures in
    seq_ask c.args.source.value c.args.source.value c.in-Ask.value.value (left_seq (Q.Rets c.args.function (record { elements = c.args.chunk; some = c.requires }))) c.seeks.result refl q.0 c.seeks.ensures

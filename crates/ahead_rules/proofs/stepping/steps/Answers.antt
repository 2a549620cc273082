use Rattle.seq_turns.proofs.Taking.{in_ok}
use Rattle.ahead_rules.specs.Left.{running}
use Rattle.ahead_rules.specs.Left.{left_seq}
use Rattle.ahead_rules.specs.declared.state.AtSeq.TheVariants as Q
use Rattle.seq_turns.specs.Seen.{seen}
use Rattle.ahead_rules.proofs.Moves.{seq_now, seq_ask}
use Rattle.ahead_rules.proofs.stepping.steps.Goals as goal

pub returns-in-Now : goal.returns-in-Now
returns-in-Now c =
    let q = rw c.in-Now.is at c.seek-sought.ensures in
    in_ok running c.first_at.result (λ n h. seq_now c.args.stepping.values.value c.in_ok-value.value.value (seen c.in-Now.what) (left_seq (Q.First c.args.stepping)) n c.in_ok-value.ensures q h) c.first_at.ensures

pub returns-in-Ask : goal.returns-in-Ask
returns-in-Ask c =
    let q = rw c.in-Ask.is at c.seek-sought.ensures in
    seq_ask c.args.stepping.values.value c.in_ok-value.value.value c.in-Ask.value.value (left_seq (Q.First c.args.stepping)) c.seeks.result c.in_ok-value.ensures q.0 c.seeks.ensures

use Rattle.seq_turns.proofs.Taking.{in_ok}
use Rattle.ahead_rules.specs.Left.{running}
use Rattle.seq_turns.specs.Seen.{seen, rested}
use Rattle.ahead_rules.proofs.Moves.{first_now, first_ask}
use Rattle.ahead_rules.proofs.stepping.first_place.Goals as goal

pub returns-in-Now : goal.returns-in-Now
returns-in-Now c =
    let q = rw c.in-Now.is at c.seek_rest-sought.ensures in
    in_ok running c.others_at.result (λ n h. first_now c.args.stepping c.in_ok-parts.parts.first c.args.place (rested c.in_ok-parts.parts.rest) (seen c.in-Now.what) n c.in_ok-parts.ensures.first c.in_ok-parts.ensures.rest q h) c.others_at.ensures

pub returns-in-Ask : goal.returns-in-Ask
returns-in-Ask c =
    let q = rw c.in-Ask.is at c.seek_rest-sought.ensures in
    first_ask c.args.stepping c.in_ok-parts.parts.first c.in-Ask.value c.args.place (rested c.in_ok-parts.parts.rest) c.seeks.result c.in_ok-parts.ensures.first c.in_ok-parts.ensures.rest q.0 c.seeks.ensures

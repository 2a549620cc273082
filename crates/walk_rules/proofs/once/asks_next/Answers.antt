use Rattle.std.proofs.Common.{ap, ◌∙◌}
use Rattle.seq_plan.specs.Plan.{seq, give}
use Rattle.seq_plan.specs.Cursors.{stands}
use Rattle.seq_plan.specs.Nodes.{rest_of}
use Rattle.seq_turns.specs.Seen.{seen, rested}
use Rattle.seq_turns.proofs.Taking.{in_ok}
use Rattle.walk_rules.specs.Left.{walking}
use Rattle.walk_rules.proofs.Taking.{found_same, same}
use Rattle.walk_rules.proofs.once.asks_next.Goals as goal

pub returns-in-Now : goal.returns-in-Now
returns-in-Now c = in_ok walking c.gives_seen.result (λ n h. found_same (rest_of (stands c.args.place)) (seen c.in-Now.what) (rested c.in_ok-rest.rest) give n c.in_ok-rest.ensures (rw c.in-Now.is at c.seek_rest.ensures) h) c.gives_seen.ensures

pub returns-in-Ask : goal.returns-in-Ask
returns-in-Ask c =
    let q = rw c.in-Ask.is at c.seek_rest.ensures in
    same (ap (λ v. seq v give) (q.0 ∙ c.in_ok-rest.ensures)) c.asks_seq.ensures

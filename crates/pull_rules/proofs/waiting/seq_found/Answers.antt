use Rattle.std.proofs.Common.{subst}
use Rattle.xf_stages.specs.Left.{at_rest, left_seq}
use Rattle.pull_rules.specs.Reducing.{Flows}
use Rattle.pull_rules.proofs.waiting.seq_found.Goals as goal

pub returns : goal.returns
returns c = subst (λ s. Flows (at_rest c.args.waiting.flow) (left_seq c.args.waiting s) c.flowed.result) c.seen_of-what.ensures (c.flowed.ensures _ _ c.in_ok-turn.ensures)

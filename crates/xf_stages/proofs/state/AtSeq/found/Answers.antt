use Rattle.seq_turns.specs.Seen.{seen}
use Rattle.xf_stages.specs.Left.{at_rest, left_seq}
use Rattle.xf_stages.proofs.state.AtSeq.found.Goals as goal

pub returns : goal.returns
returns c = c.run.ensures (at_rest c.args.self.flow) (left_seq c.args.self (seen c.args.what)) c.walk_found.ensures.leads

use Rattle.std.proofs.Common.{refl}
use Rattle.seq_turns.specs.Turning.{arrives}
use Rattle.xf_stages.specs.Left.{at_rest, left_out}
use Rattle.xf_stages.proofs.state.AtOut.passed.Goals as goal

pub returns : goal.returns
returns c = c.run.ensures (at_rest c.args.self.flow) (left_out c.args.self c.args.done) (record { goes = λ sink k. arrives; step = tt; rests = refl })

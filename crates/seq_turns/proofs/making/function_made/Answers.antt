use Rattle.std.proofs.Common.{refl}
use Rattle.seq_turns.proofs.Limits.{function_goes}
use Rattle.seq_turns.proofs.making.function_made.Goals as goal

pub returns : goal.returns
returns c = function_goes c.args.target _ c.args.bound.items c.of.result _ c.of.ensures.same refl

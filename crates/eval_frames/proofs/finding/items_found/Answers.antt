use Rattle.std.proofs.Common.{refl}
use Rattle.seq_turns.proofs.Seeing.{found_items}
use Rattle.eval_frames.proofs.finding.items_found.Goals as goal

pub returns : goal.returns
returns c = found_items c.args.depth c.args.items _ c.requires.some refl

use Rattle.std.proofs.Common.{subst}
use Rattle.eval_frames.specs.Frames.{ground}
use Rattle.eval_works.specs.Asked.{IsKnownRefusal}
use Rattle.eval_works.proofs.Leading.{empty_told}
use Rattle.eval_works.proofs.parts.not_opened.Goals as goal

pub unreachable-requires : goal.unreachable-requires
unreachable-requires g c = (subst IsKnownRefusal c.in-Seen.is c.requires).0 (empty_told (ground g.R.Rule.running g.R.Rules.table c.args.code.now) c.args.asker _ c.in-Seen.look c.in-Ok-Empty.field-0 c.in-Ok-Empty.ensures.told c.in-Ok-Empty.field-0-is)

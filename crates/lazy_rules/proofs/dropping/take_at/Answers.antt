use Rattle.std.proofs.Common.{w64}
use Rattle.std.proofs.lemmas.Int.{to_z-of_z}
use Rattle.seq_plan.specs.Cursors.{stands}
use Rattle.lazy_rules.proofs.DropTurns.{take_left}
use Rattle.lazy_rules.proofs.dropping.take_at.Goals as goal

pub returns-in-At : goal.returns-in-At
returns-in-At c = rw c.in-At.is (take_left c.args.left _ (stands c.in-At.place) c.take_place.result (to_z-of_z w64 c.args.left c.ranges.left) c.take_place.ensures)

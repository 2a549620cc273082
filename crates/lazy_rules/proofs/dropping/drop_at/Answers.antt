use Rattle.std.proofs.Common.{w64}
use Rattle.std.proofs.lemmas.Int.{to_z-of_z}
use Rattle.seq_plan.specs.Cursors.{stands}
use Rattle.lazy_rules.proofs.DropTurns.{drop_nil, drop_counted}
use Rattle.lazy_rules.proofs.dropping.drop_at.Goals as goal

pub returns-in-Nil : goal.returns-in-Nil
returns-in-Nil c = rw c.in-Nil.is (drop_nil c.args.count c.gives_nil.result c.gives_nil.ensures)

pub returns-in-At : goal.returns-in-At
returns-in-At c = rw c.in-At.is (drop_counted c.args.count _ (stands c.in-At.place) c.drop_place.result (to_z-of_z w64 c.args.count c.ranges.count) c.drop_place.ensures)

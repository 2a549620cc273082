use Rattle.std.proofs.Common.{ap, sym, arith, w64}
use Rattle.std.proofs.lemmas.Int.{to_z-of_z}
use Rattle.seq_values.specs.Plain.{plain}
use Rattle.seq_plan.specs.Cursors.{stands}
use Rattle.seq_turns.specs.Seen.{rested}
use Rattle.lazy_rules.proofs.GroupTurns.{goes_on, goes_on_ok}
use Rattle.std.proofs.lemmas.Int.{ints}
use Rattle.std.proofs.Common.{to_z, of_z}
use Rattle.lazy_rules.proofs.grouping.group_goes.Goals as goal

pub returns-in-Within : goal.returns-in-Within
returns-in-Within c = goes_on c.args.size c.args.left (to_z w64 (of_z w64 c.args.size)) (to_z w64 (of_z w64 c.args.left)) c.args.taken.items.items (rested c.args.rest) (stands c.in-Within.place) c.group_within.result (to_z-of_z w64 c.args.size c.ranges.size) (to_z-of_z w64 c.args.left c.ranges.left) (sym (ap rested c.in-Within.is)) (grind (arith, ints, c.if-left-le0.false)) c.group_within.ensures

pub returns-in-Beyond : goal.returns-in-Beyond
returns-in-Beyond c = goes_on_ok c.args.size c.args.left (to_z w64 (of_z w64 c.args.size)) (to_z w64 (of_z w64 c.args.left)) c.args.taken.items.items (rested c.args.rest) (plain c.in-Beyond.value.value) c.group_beyond.result (to_z-of_z w64 c.args.size c.ranges.size) (to_z-of_z w64 c.args.left c.ranges.left) (sym (ap rested c.in-Beyond.is)) (grind (arith, ints, c.if-left-le0.false)) c.group_beyond.ensures

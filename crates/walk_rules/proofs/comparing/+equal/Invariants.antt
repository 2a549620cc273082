use Rattle.std.proofs.Common.{◌+◌, ◌*◌, length}
use Rattle.walk_rules.proofs.comparing.+equal.Given as goal

abbrev pub decreases-resolve : goal.decreases-resolve
decreases-resolve l = 4 * length l.pending.rests.items

abbrev pub decreases-equal_at : goal.decreases-equal_at
decreases-equal_at l = 4 * length l.pending.rests.items + 2

abbrev pub decreases-equal_right : goal.decreases-equal_right
decreases-equal_right l = 4 * length l.pending.rests.items + 3

abbrev pub decreases-left_nil : goal.decreases-left_nil
decreases-left_nil l = 4 * length l.pending.rests.items + 1

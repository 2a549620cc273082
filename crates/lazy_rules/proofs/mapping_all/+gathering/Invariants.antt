use Rattle.std.proofs.Common.{◌+◌, ◌-◌, ◌*◌, length}
use Rattle.lazy_rules.proofs.mapping_all.+gathering.Given as goal

abbrev pub decreases-gather : goal.decreases-gather
decreases-gather l = 2 * (length l.args.items - l.at)

abbrev pub decreases-gathered : goal.decreases-gathered
decreases-gathered l = 2 * (length l.gathering.args.items - l.gathering.at) + 1

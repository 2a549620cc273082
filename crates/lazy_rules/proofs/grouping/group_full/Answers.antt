use Rattle.std.proofs.Common.{w64}
use Rattle.std.proofs.lemmas.Int.{to_z-of_z}
use Rattle.seq_values.specs.Plain.{plain, plains}
use Rattle.lazy_rules.proofs.GroupTurns.{full_makes}
use Rattle.lazy_rules.proofs.grouping.group_full.Goals as goal

pub returns : goal.returns
returns c = full_makes c.args.size _ (plains c.args.taken.items.items) (plain c.args.rest.value) c.in_ok-term.term.term c.makes.result (to_z-of_z w64 c.args.size c.ranges.size) c.in_ok-term.ensures c.makes.ensures

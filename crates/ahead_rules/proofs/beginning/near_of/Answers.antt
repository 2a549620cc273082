use Rattle.seq_values.specs.Plain.{plain}
use Rattle.ahead_rules.proofs.Fits.{near_part}
use Rattle.ahead_rules.proofs.Moves.{near_part_takes}
use Rattle.ahead_rules.proofs.beginning.near_of.Goals as goal

pub known_part-id-requires : goal.known_part-id-requires
known_part-id-requires c = λ e. near_part (plain c.args.source.value) (plain c.args.ahead.value) c.requires e

pub returns : goal.returns
returns c = λ size. near_part_takes size (plain c.args.source.value) (plain c.args.ahead.value) c.known_part-id.result c.in_ok-next.next c.known_part-id.ensures c.in_ok-next.ensures

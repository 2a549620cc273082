use Rattle.seq_table.proofs.WorkedInPlace.{in_place_holds}
use Rattle.seq_table.proofs.worked_in_place.Goals as goal

pub returns : goal.returns
returns c = in_place_holds

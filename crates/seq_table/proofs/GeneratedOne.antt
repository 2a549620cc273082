-- The script that is made from 1, by computation.
use Rattle.std.proofs.Common.{refl}
use Rattle.std.specs.Fmt.{digits}
use Rattle.seq_table.specs.Generated.{OneGenerated}

pub one_generated : OneGenerated
unfolding digits
one_generated = refl

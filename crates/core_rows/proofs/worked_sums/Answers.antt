use Rattle.std.proofs.Common.{refl}
use Rattle.core_rows.proofs.worked_sums.Goals as goal

pub returns : goal.returns
returns c = (refl, refl, refl, refl, refl, refl, refl, refl, refl, refl, refl, refl, refl, refl)

use Rattle.std.proofs.Common.{refl}
use Rattle.stage_rows.proofs.worked_kept.Goals as goal

pub returns : goal.returns
returns c = (λ a. refl, λ a. refl)

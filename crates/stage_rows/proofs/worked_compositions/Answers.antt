use Rattle.std.proofs.Common.{refl}
use Rattle.stage_rows.proofs.worked_compositions.Goals as goal

pub returns : goal.returns
returns c = (λ a. refl, refl, refl, refl, λ a. refl)

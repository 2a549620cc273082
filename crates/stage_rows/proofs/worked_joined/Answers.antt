use Rattle.std.proofs.Common.{refl}
use Rattle.stage_rows.proofs.worked_joined.Goals as goal

pub returns : goal.returns
returns c = (λ a b z d. refl, λ a b. refl)

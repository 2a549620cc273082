use Rattle.std.proofs.Common.{refl}
use Rattle.stage_rows.proofs.worked_passed.Goals as goal

pub returns : goal.returns
returns c = (λ a b z d e f. refl, λ a b z. refl, λ a b z. refl)

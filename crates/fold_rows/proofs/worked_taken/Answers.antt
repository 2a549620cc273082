use Rattle.std.proofs.Common.{refl}
use Rattle.fold_rows.proofs.worked_taken.Goals as goal

pub returns : goal.returns
returns c = (λ a b. refl, λ a b. refl)

use Rattle.std.proofs.Common.{refl}
use Rattle.core_rows.proofs.worked_functions.Goals as goal

pub returns : goal.returns
returns c = (λ g x. refl, λ f x. refl, refl, refl, refl, refl)

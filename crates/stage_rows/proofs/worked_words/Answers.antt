use Rattle.std.proofs.Common.{refl}
use Rattle.stage_rows.proofs.worked_words.Goals as goal

pub returns : goal.returns
returns c = (λ a b. refl, λ a. refl, λ a. refl, λ a b. refl, refl)

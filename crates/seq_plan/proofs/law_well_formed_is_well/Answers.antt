use Rattle.seq_plan.proofs.WellValues.{well_formed, formed_kept, formed_well}
use Rattle.seq_plan.proofs.law_well_formed_is_well.Goals as goal

pub returns : goal.returns
returns c = λ v. (λ e. (formed_kept v e, well_formed v e), formed_well v)

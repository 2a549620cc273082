use Rattle.seq_plan.proofs.WellValues.{term_formed, term_kept, formed_term}
use Rattle.seq_plan.proofs.law_terms_are_well.Goals as goal

pub returns : goal.returns
returns c = λ t. (λ e. (term_kept t e, term_formed t e), formed_term t)

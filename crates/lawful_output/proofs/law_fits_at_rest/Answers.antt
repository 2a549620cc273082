use Rattle.lawful_output.proofs.Written.{fits_at_rest}
use Rattle.lawful_output.proofs.law_fits_at_rest.Goals as goal

pub returns : goal.returns
returns c = λ rules program limit cells a k r. fits_at_rest rules program limit cells a k r

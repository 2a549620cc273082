use Rattle.stage_rows.proofs.KeptStates.{goes_on}
use Rattle.stage_rows.proofs.law_pull_goes_on.Goals as goal

pub returns : goal.returns
returns c = λ news states h. goes_on h

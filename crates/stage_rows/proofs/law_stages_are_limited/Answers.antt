use Rattle.stage_rows.proofs.Limited.{limited}
use Rattle.stage_rows.proofs.law_stages_are_limited.Goals as goal

pub returns : goal.returns
returns c = limited

use Rattle.clj_script.proofs.ClosedTopLemmas.{closed_behind_more}
use Rattle.clj_script.proofs.laws.closed_later.Goals as goal

pub returns : goal.returns
returns c = closed_behind_more

use Rattle.clj_script.proofs.ClosedTopLemmas as closed
use Rattle.clj_script.proofs.laws.meaning_is_closed.Goals as goal

pub returns : goal.returns
returns c = closed.means_closed

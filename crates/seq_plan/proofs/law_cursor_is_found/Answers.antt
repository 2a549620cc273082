use Rattle.seq_plan.proofs.CursorLemmas.{cursor_found}
use Rattle.seq_plan.proofs.law_cursor_is_found.Goals as goal

pub returns : goal.returns
returns c = cursor_found

use Rattle.seq_ledger.proofs.Lines.{one_text}
use Rattle.seq_ledger.proofs.laws.law_one_text.Goals as goal

pub returns : goal.returns
returns c = one_text

use Rattle.seq_ledger.proofs.Lines.{reads_alike}
use Rattle.seq_ledger.proofs.laws.law_reads_alike.Goals as goal

pub returns : goal.returns
returns c = reads_alike

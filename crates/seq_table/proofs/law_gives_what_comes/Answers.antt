use Rattle.seq_table.specs.Table.{language}
use Rattle.seq_table.proofs.Replay.{comes_of}
use Rattle.seq_table.proofs.law_gives_what_comes.Goals as goal

pub returns : goal.returns
returns c = λ processors program limit e defs t v of g. comes_of (language processors) program limit e defs t v g of

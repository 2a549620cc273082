use Rattle.std.proofs.Common.{ℕ, ◌<◌, arith}
use Rattle.seq_meaning.proofs.Referring.{as_many}
use Rattle.seq_table.specs.Table.{language}
use Rattle.seq_lawful.specs.Sites.{own_name}
use Rattle.seq_lawful.proofs.Befores.{all_befores}
use Rattle.seq_lawful.proofs.Counted.{made_size, realised_size, failed_size}
use Rattle.seq_lawful.proofs.RestAnswers.{names, cell_gives}
use Rattle.lawful_ledger.proofs.Names.{ledger_line}
use Rattle.lawful_ledger.proofs.law_ledger_line.Goals as goal

pub returns : goal.returns
returns c = λ processors program limit a law rest outcomes long before top text l.
    let b = all_befores (language processors) program limit a law own_name outcomes (omega (arith, long)) before in
    ledger_line (λ rules program limit a law rest. names rules program limit a law rest) (λ rules program limit a law rest. (made_size rules program limit a law rest, realised_size rules program limit a law rest, failed_size rules program limit a law rest)) (λ rules program limit a law. cell_gives rules program limit a law)
    (language processors) program limit a law rest outcomes long b.0 b.1 (as_many (language processors) program limit b.1) b.2 top text l

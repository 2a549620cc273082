use Rattle.std.proofs.Common.{ℕ, ◌<◌, ◌≤◌, arith}
use Rattle.seq_meaning.proofs.WellRuns.{well_given, well_part}
use Rattle.seq_table.specs.Coming.{RunsAreWell}
use Rattle.seq_table.specs.Table.{chunk_size, language}
use Rattle.seq_table.proofs.WellWhole.{keeps-rules_of}
use Rattle.seq_lawful.proofs.RestAnswers.{named, cell_gives}
use Rattle.seq_lawful.proofs.Sizes.{no_longer}
use Rattle.lawful_ledger.proofs.Ends.{ends}
use Rattle.lawful_ledger.proofs.Shallow.{shallow}
use Rattle.lawful_ledger.proofs.law_walks_end.Goals as goal

runs_are_well : RunsAreWell
runs_are_well = λ processors program limit. (well_given (language processors) program limit (keeps-rules_of processors chunk_size), well_part (language processors) program limit (keeps-rules_of processors chunk_size))

pub returns : goal.returns
returns c = λ processors program limit a law rest small v deep.
    ends program.tops a (shallow runs_are_well (λ rules program limit a law rest. named rules program limit a law rest) (λ rules program limit a law. cell_gives rules program limit a law) processors program limit a law rest) law.acyclic (λ vs d h. no_longer d h) v deep (let w = law.within in omega (arith, w, small))

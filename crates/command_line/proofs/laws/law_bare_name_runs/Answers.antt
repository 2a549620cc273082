use Rattle.command_line.proofs.Spelling.{bare_name_runs}
use Rattle.command_line.proofs.laws.law_bare_name_runs.Goals as goal

pub returns : goal.returns
returns c = bare_name_runs

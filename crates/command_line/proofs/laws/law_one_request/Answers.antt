use Rattle.command_line.proofs.Spelling.{one_request}
use Rattle.command_line.proofs.laws.law_one_request.Goals as goal

pub returns : goal.returns
returns c = one_request

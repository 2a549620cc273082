use Rattle.lawful_output.proofs.Ended.{def_throws_where}
use Rattle.lawful_output.proofs.law_def_throws_where.Goals as goal

pub returns : goal.returns
returns c = λ rules program limit a law k name e why top h. def_throws_where rules program limit a law k name e why top h

use Rattle.lawful_output.proofs.Ended.{thrown_is_done}
use Rattle.lawful_output.proofs.law_thrown_is_done.Goals as goal

pub returns : goal.returns
returns c = λ program a k t why top none h. thrown_is_done program a k t why top none h

use Rattle.lawful_output.proofs.Written.{next_may_begin}
use Rattle.lawful_output.proofs.law_next_may_begin.Goals as goal

pub returns : goal.returns
returns c = λ numeric rules program limit cells a k written t r top. next_may_begin rules program limit cells numeric a k written t r top

use Rattle.std.proofs.Common.{arith, ap, length}
use Rattle.clj_script.proofs.ExpressionLemmas.{no_length}
use Rattle.clj_script.proofs.TopLemmas.{fewer_locals}
use Rattle.clj_script.proofs.top.unbind.Goals as goal

pub loop-preserved : goal.loop-preserved
loop-preserved c = omega (arith, ap length c.unbind.ensures, fewer_locals c.loop.locals)

pub returns : goal.returns
returns c = no_length _ (omega arith)

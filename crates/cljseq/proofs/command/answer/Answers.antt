use Rattle.std.proofs.Common.{subst, sym}
use Rattle.cljseq.proofs.Answering.{made_known}
use Rattle.cljseq.proofs.command.answer.Goals as goal

pub returns-in-Generate-clause-part : goal.returns-in-Generate-clause-part
returns-in-Generate-clause-part g c = λ either. made_known c.args.options.request c.in-Generate.number _ _ c.in-Generate.is c.answer_made.ensures.part

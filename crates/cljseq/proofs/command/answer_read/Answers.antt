use Rattle.std.proofs.Common.{Err, ap, subst, ◌∙◌}
use Rattle.cljseq.specs.Answers.{Printed, PrintedPart}
use Rattle.cljseq.proofs.Answering.{known_text, too_long_known, refused_printed, refused_part, whole_text}
use Rattle.cljseq.proofs.command.answer_read.Goals as goal

pub returns-in-Err-TooLong-clause-answered : goal.returns-in-Err-TooLong-clause-answered
returns-in-Err-TooLong-clause-answered g c = λ either. known_text c.args.options.request _ _ c.requires
    (too_long_known _ _ _ (c.in-Err-TooLong.ensures.long (ap Err c.in-Err-TooLong.field-0-is)) (λ text was. refused_printed c.args.options text 6 _ _ _ _ c.requires was c.refuse.ensures.either c.refuse.ensures.refused either))

pub returns-in-Err-TooLong-clause-part : goal.returns-in-Err-TooLong-clause-part
returns-in-Err-TooLong-clause-part g c = λ either. known_text c.args.options.request _ _ c.requires
    (too_long_known _ _ _ (c.in-Err-TooLong.ensures.long (ap Err c.in-Err-TooLong.field-0-is)) (λ text was. refused_part c.args.options text 6 _ _ _ c.requires was c.refuse.ensures.part))

pub returns-in-Ok-clause-part : goal.returns-in-Ok-clause-part
returns-in-Ok-clause-part g c = λ either. known_text c.args.options.request _ _ c.requires
    (whole_text _ _ c.in-Ok.text.items _ c.in-Ok.ensures.bytes c.in-Ok.ensures.end (subst (λ t. PrintedPart c.args.options t (g.O.Sink.written c.args.out.now) (g.O.Sink.written c.answer_text.new.out)) c.deref.ensures.value c.answer_text.ensures.part))

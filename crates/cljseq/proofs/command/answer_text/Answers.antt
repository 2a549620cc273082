use Rattle.std.proofs.Common.{◌≡◌, ap, subst, Err}
use Rattle.seq_run.specs.Lines.{refusal_line, AppendsPart}
use Rattle.seq_run.specs.declared.script.Refusal.{Refusal}
use Rattle.seq_run.specs.declared.status.Status.TheVariants.{ScriptRefused}
use Rattle.std.specs.Io.KnownBytes.{Appends}
use Rattle.cljseq.proofs.Answering.{refused_printed, refused_part}
use Rattle.cljseq.proofs.command.answer_text.Goals as goal

pub returns-in-Ok-clause-part : goal.returns-in-Ok-clause-part
returns-in-Ok-clause-part g c = c.answer_program.ensures.part c.args.text.now c.in-Ok.ensures.program

pub returns-in-Err-Refused-clause-answered : goal.returns-in-Err-Refused-clause-answered
returns-in-Err-Refused-clause-answered g c =
    refused_printed c.args.options c.args.text.now c.in-Err-Refused.refusal.number c.in-Err-Refused.refusal.place _ _ _ c.requires (c.in-Err-Refused.ensures.refused c.in-Err-Refused.refusal (ap Err c.in-Err-Refused.field-0-is)) c.refuse.ensures.either
    (subst (λ (r : Refusal). c.refuse.result ≡ ScriptRefused → Appends (g.O.Sink.written c.args.out.now) (g.O.Sink.written c.refuse.new.out) (refusal_line r.number r.place)) c.in-Err-Refused.refusal-is c.refuse.ensures.refused)

pub returns-in-Err-Refused-clause-part : goal.returns-in-Err-Refused-clause-part
returns-in-Err-Refused-clause-part g c =
    refused_part c.args.options c.args.text.now c.in-Err-Refused.refusal.number c.in-Err-Refused.refusal.place _ _ c.requires (c.in-Err-Refused.ensures.refused c.in-Err-Refused.refusal (ap Err c.in-Err-Refused.field-0-is))
    (subst (λ (r : Refusal). AppendsPart (g.O.Sink.written c.args.out.now) (g.O.Sink.written c.refuse.new.out) (refusal_line r.number r.place)) c.in-Err-Refused.refusal-is c.refuse.ensures.part)

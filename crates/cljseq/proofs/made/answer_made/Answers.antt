use Rattle.std.proofs.Common.{subst}
use Rattle.std.specs.Prelude.{OnOk, ℕ, List}
use Rattle.std.specs.Io.KnownBytes.{Appends}
use Rattle.seq_run.specs.Lines.{AppendsPart}
use Rattle.cljseq.proofs.Answering.{made_printed, made_part}
use Rattle.cljseq.proofs.made.answer_made.Goals as goal

pub returns-in-Ok-clause-answered : goal.returns-in-Ok-clause-answered
returns-in-Ok-clause-answered g c = λ text either.
    made_printed c.args.options c.args.number text c.in-Ok.made.summary.items c.in-Ok.made.status _ c.write_whole.result _ _ c.requires c.in-Ok.ensures c.ended.ensures.done c.ended.ensures.failed c.ended.ensures.memory
    (subst (λ (bytes : List ℕ). OnOk c.write_whole.result (Appends (g.O.Sink.written c.args.out.now) (g.O.Sink.written c.write_whole.new.out) bytes)) c.deref.ensures.value c.write_whole.ensures.ok) either

pub returns-in-Ok-clause-part : goal.returns-in-Ok-clause-part
returns-in-Ok-clause-part g c = λ text.
    made_part c.args.options c.args.number text c.in-Ok.made.summary.items c.in-Ok.made.status _ _ c.requires c.in-Ok.ensures
    (subst (λ (bytes : List ℕ). AppendsPart (g.O.Sink.written c.args.out.now) (g.O.Sink.written c.write_whole.new.out) bytes) c.deref.ensures.value (c.write_whole.ensures.prefix.0, c.write_whole.ensures.prefix.2))

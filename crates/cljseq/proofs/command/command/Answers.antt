use Rattle.std.proofs.Common.{subst}
use Rattle.std.specs.Io.KnownBytes.{IsAtEnd, Keeps}
use Rattle.command_line.specs.Asking.{IsFaulty}
use Rattle.command_line.specs.Settings.{texts}
use Rattle.command_line.specs.declared.given.Options.{Options}
use Rattle.command_line.proofs.Spelling.{one_request}
use Rattle.cljseq.specs.Answers.{IfKnown, IsBook, Printed, PrintedPart, Reads}
use Rattle.cljseq.proofs.Answering.{faulty_words}
use Rattle.cljseq.proofs.command.command.Goals as goal

pub returns-in-Ok-clause-asked : goal.returns-in-Ok-clause-asked
returns-in-Ok-clause-asked g c = λ n m. record { options = c.in-Ok.options; asks = c.in-Ok.ensures }

pub returns-in-Ok-clause-unasked : goal.returns-in-Ok-clause-unasked
returns-in-Ok-clause-unasked g c = λ options asks.
    subst (λ (o : Options). (Reads o.request → ⊥) → Keeps (g.I.Source.left c.args.input.now) (g.I.Source.left c.answer.new.input))
    (one_request (texts c.args.words.now) c.in-Ok.options options c.in-Ok.ensures asks) c.answer.ensures.unasked

pub returns-in-Ok-clause-answered : goal.returns-in-Ok-clause-answered
returns-in-Ok-clause-answered g c = λ options asks either.
    subst (λ (o : Options). IfKnown o.request (g.I.Source.left c.args.input.now) (λ text. Printed o text c.answer.result.status (g.O.Sink.written c.args.out.now) (g.O.Sink.written c.answer.new.out)))
    (one_request (texts c.args.words.now) c.in-Ok.options options c.in-Ok.ensures asks) (c.answer.ensures.answered either)

pub returns-in-Ok-clause-whole : goal.returns-in-Ok-clause-whole
returns-in-Ok-clause-whole g c = λ options asks reads end.
    c.answer.ensures.whole (subst (λ (o : Options). Reads o.request) (one_request (texts c.args.words.now) options c.in-Ok.options asks c.in-Ok.ensures) reads) end

pub returns-in-Ok-clause-book : goal.returns-in-Ok-clause-book
returns-in-Ok-clause-book g c = λ options asks.
    subst (λ (o : Options). IfKnown o.request (g.I.Source.left c.args.input.now) (λ text. IsBook o text c.answer.result.status c.answer.result.book))
    (one_request (texts c.args.words.now) c.in-Ok.options options c.in-Ok.ensures asks) c.answer.ensures.book

pub returns-in-Ok-clause-part : goal.returns-in-Ok-clause-part
returns-in-Ok-clause-part g c = λ options asks either.
    subst (λ (o : Options). IfKnown o.request (g.I.Source.left c.args.input.now) (λ text. PrintedPart o text (g.O.Sink.written c.args.out.now) (g.O.Sink.written c.answer.new.out)))
    (one_request (texts c.args.words.now) c.in-Ok.options options c.in-Ok.ensures asks) (c.answer.ensures.part either)

pub returns-in-Err-clause-usage : goal.returns-in-Err-clause-usage
returns-in-Err-clause-usage g c = faulty_words c.in-Err.status (IsFaulty (texts c.args.words.now)) c.in-Err.ensures

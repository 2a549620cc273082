use Rattle.std.proofs.Common.{Err, ap}
use Rattle.clj_script.specs.Seen.{seen}
use Rattle.lone_run.proofs.Running.{at_line, may_begin, no_part, spent_ends}
use Rattle.lone_run.proofs.run.run_form.Goals as goal

pub force_form-requires-clause-next : goal.force_form-requires-clause-next
force_form-requires-clause-next g c =
    let r = c.requires.at in
    may_begin (seen c.args.program.now) c.args.limits c.args.book.now c.args.before r.0 c.args.defined.now c.requires.within r.1

pub end_form-requires-clause-ready : goal.end_form-requires-clause-ready
end_form-requires-clause-ready g c =
    let r = c.requires.at in
    (c.args.limits, r.0, at_line (seen c.args.program.now) c.args.limits c.args.book.now c.args.before c.force_form.new.book r.0 c.in-Ok.given c.args.defined.now r.1 c.in-Ok.ensures.ok)

pub returns-in-Ok-clause-on : goal.returns-in-Ok-clause-on
returns-in-Ok-clause-on g c = λ written r. c.end_form.ensures.on c.args.limits written (at_line (seen c.args.program.now) c.args.limits c.args.book.now c.args.before c.force_form.new.book written c.in-Ok.given c.args.defined.now r c.in-Ok.ensures.ok)

pub returns-in-Ok-clause-ended : goal.returns-in-Ok-clause-ended
returns-in-Ok-clause-ended g c = λ written r. c.end_form.ensures.ended c.args.limits written (at_line (seen c.args.program.now) c.args.limits c.args.book.now c.args.before c.force_form.new.book written c.in-Ok.given c.args.defined.now r c.in-Ok.ensures.ok)

pub returns-in-Ok-clause-part : goal.returns-in-Ok-clause-part
returns-in-Ok-clause-part g c = λ written r. c.end_form.ensures.part c.args.limits written (at_line (seen c.args.program.now) c.args.limits c.args.book.now c.args.before c.force_form.new.book written c.in-Ok.given c.args.defined.now r c.in-Ok.ensures.ok)

pub returns-in-Err-Spent-clause-ended : goal.returns-in-Err-Spent-clause-ended
returns-in-Err-Spent-clause-ended g c = λ written r. spent_ends (seen c.args.program.now) c.args.limits c.args.book.now c.args.before c.force_form.new.book written c.args.defined.now (g.O.Sink.written c.args.out.now) r (c.in-Err-Spent.ensures.spent (ap Err c.in-Err-Spent.field-0-is))

pub returns-in-Err-Spent-clause-part : goal.returns-in-Err-Spent-clause-part
returns-in-Err-Spent-clause-part g c = λ written r. no_part (seen c.args.program.now) c.args.limits c.args.book.now c.args.before written (g.O.Sink.written c.args.out.now) r.reached

pub returns-in-Err-Memory-clause-part : goal.returns-in-Err-Memory-clause-part
returns-in-Err-Memory-clause-part g c = λ written r. no_part (seen c.args.program.now) c.args.limits c.args.book.now c.args.before written (g.O.Sink.written c.args.out.now) r.reached

use Rattle.std.proofs.Common.{arith}
use Rattle.clj_script.specs.Seen.{seen}
use Rattle.cell_book.proofs.Lists.{get_within}
use Rattle.lone_run.specs.Writing.{bytes_of}
use Rattle.lone_run.proofs.Running.{ended_result, no_part, on_result, part_result}
use Rattle.lone_run.proofs.run.end_form.Goals as goal

pub line_of-requires-clause-ready : goal.line_of-requires-clause-ready
line_of-requires-clause-ready g c = let r = c.requires.ready in (r.0, r.2.line)

pub keep-requires-clause-room : goal.keep-requires-clause-room
keep-requires-clause-room g c = let r = c.requires.ready in let few = r.2.line.defines.few in let small = c.requires.small in omega (arith, few, small)

pub returns-in_default-clause-part : goal.returns-in_default-clause-part
returns-in_default-clause-part g c = λ limits written s. no_part (seen c.args.program.now) limits s.start c.args.before written (g.O.Sink.written c.args.out.now) s.reached

pub returns-in_err-write_line-clause-part : goal.returns-in_err-write_line-clause-part
returns-in_err-write_line-clause-part g c = λ limits written s.
    part_result (seen c.args.program.now) limits c.args.before c.args.book.now written c.args.given c.args.defined.now s (bytes_of c.in-Ok.line) (c.in-Ok.ensures.line limits s.line) (g.O.Sink.written c.args.out.now) (g.O.Sink.written c.write_line.new.out) c.write_line.ensures.prefix.0 c.write_line.ensures.prefix.1

pub returns-clause-on : goal.returns-clause-on
returns-clause-on g c = λ limits written s.
    let t = get_within (seen c.args.program.now).tops c.args.before c.requires.within in
    on_result (seen c.args.program.now) limits c.args.before c.args.book.now written c.args.given c.args.defined.now s (bytes_of c.in-Ok.line) (c.in-Ok.ensures.line limits s.line) c.line_of.new.book c.line_of.ensures.same t.0 t.1 (g.O.Sink.written c.args.out.now) (g.O.Sink.written c.write_line.new.out) c.in_ok-write_line.ensures.ok c.keep.result c.keep.new.defined (c.keep.ensures.ok t.0 t.1)

pub returns-clause-ended : goal.returns-clause-ended
returns-clause-ended g c = λ limits written s.
    let t = get_within (seen c.args.program.now).tops c.args.before c.requires.within in
    ended_result (seen c.args.program.now) limits c.args.before c.args.book.now written c.args.given c.args.defined.now s (bytes_of c.in-Ok.line) (c.in-Ok.ensures.line limits s.line) t.0 t.1 (g.O.Sink.written c.args.out.now) (g.O.Sink.written c.write_line.new.out) c.in_ok-write_line.ensures.ok c.keep.result (c.keep.ensures.ended t.0 t.1)

pub returns-clause-part : goal.returns-clause-part
returns-clause-part g c = λ limits written s.
    part_result (seen c.args.program.now) limits c.args.before c.args.book.now written c.args.given c.args.defined.now s (bytes_of c.in-Ok.line) (c.in-Ok.ensures.line limits s.line) (g.O.Sink.written c.args.out.now) (g.O.Sink.written c.write_line.new.out) c.write_line.ensures.prefix.0 c.write_line.ensures.prefix.1

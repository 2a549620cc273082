use Rattle.std.proofs.Common.{arith}
use Rattle.clj_script.specs.Seen.{seen}
use Rattle.lone_run.proofs.Running.{begins, ends_run, further, part_run, part_so_far, rose_later, run_book, through_run, undone}
use Rattle.lone_run.proofs.run.run_forms.Goals as goal

pub loop-before-init : goal.loop-before-init
loop-before-init g c = record {
  going = begins (seen c.args.program.now) c.args.limits c.args.book.now c.new-defined.result (g.O.Sink.written c.args.out.now) (omega arith) c.requires.new c.new-defined.ensures;
  later = omega arith;
}

pub run_form-requires-clause-at : goal.run_form-requires-clause-at
run_form-requires-clause-at g c = let o = c.loop-before.invariant.going in (o.written, o.at)

pub loop-before-preserved : goal.loop-before-preserved
loop-before-preserved g c =
    let i = c.loop-before.invariant in
    let o = i.going in
    record {
      going = further (seen c.args.program.now) c.args.limits c.loop-before.before c.loop-before.book c.loop-before.defined (g.O.Sink.written c.args.out.now) (g.O.Sink.written c.loop-before.out) o c.run_form.new.book c.run_form.new.defined (g.O.Sink.written c.run_form.new.out) (c.in-Ok.ensures.on o.written o.at);
      later = omega (arith, i.later, c.run_form.ensures.later);
    }

pub returns-in-Err-clause-ended : goal.returns-in-Err-clause-ended
returns-in-Err-clause-ended g c =
    let o = c.loop-before.invariant.going in
    ends_run (seen c.args.program.now) c.args.limits c.loop-before.before c.loop-before.book c.loop-before.defined (g.O.Sink.written c.args.out.now) (g.O.Sink.written c.loop-before.out) o c.in-Err.end (g.O.Sink.written c.run_form.new.out) (c.in-Err.ensures.ended o.written o.at)

pub returns-in-Err-clause-part : goal.returns-in-Err-clause-part
returns-in-Err-clause-part g c =
    let o = c.loop-before.invariant.going in
    part_run (seen c.args.program.now) c.args.limits c.loop-before.before c.loop-before.book c.loop-before.defined (g.O.Sink.written c.args.out.now) (g.O.Sink.written c.loop-before.out) o (g.O.Sink.written c.run_form.new.out) (c.run_form.ensures.part o.written o.at)

pub returns-in-Err-clause-later : goal.returns-in-Err-clause-later
returns-in-Err-clause-later g c = let i = c.loop-before.invariant in omega (arith, i.later, c.run_form.ensures.later)

pub returns-in-Err-clause-write : goal.returns-in-Err-clause-write
returns-in-Err-clause-write g c = λ e. rose_later (g.O.Sink.faults c.args.out.now) (g.O.Sink.faults c.loop-before.out) (g.O.Sink.faults c.run_form.new.out) c.loop-before.invariant.later (c.in-Err.ensures.write e)

pub returns-clause-ok : goal.returns-clause-ok
returns-clause-ok g c = through_run (seen c.args.program.now) c.args.limits c.loop-before.before c.loop-before.book c.loop-before.defined (g.O.Sink.written c.args.out.now) (g.O.Sink.written c.loop-before.out) c.loop-before.invariant.going (let t = c.tops-before-end.ensures in let f = c.loop-before-test.false in let i = c.loop-before.auto.before-end in omega (arith, t, f, i))

pub returns-clause-part : goal.returns-clause-part
returns-clause-part g c = part_so_far (seen c.args.program.now) c.args.limits c.loop-before.before c.loop-before.book c.loop-before.defined (g.O.Sink.written c.args.out.now) (g.O.Sink.written c.loop-before.out) c.loop-before.invariant.going

pub returns-clause-book : goal.returns-clause-book
returns-clause-book g c = run_book (seen c.args.program.now) c.args.limits c.loop-before.before c.loop-before.book c.loop-before.defined (g.O.Sink.written c.args.out.now) (g.O.Sink.written c.loop-before.out) c.loop-before.invariant.going (let t = c.tops-before-end.ensures in let f = c.loop-before-test.false in let i = c.loop-before.auto.before-end in omega (arith, t, f, i))

pub returns-in-Err-clause-undone : goal.returns-in-Err-clause-undone
returns-in-Err-clause-undone g c =
    let o = c.loop-before.invariant.going in
    undone (seen c.args.program.now) c.args.limits c.in-Err.end o.written (g.O.Sink.written c.loop-before.out) (g.O.Sink.written c.run_form.new.out) (c.in-Err.ensures.ended o.written o.at)

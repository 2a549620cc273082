use Rattle.std.proofs.Common.{◌≤◌}
use Rattle.clj_script.specs.Seen.{seen}
use Rattle.lone_run.specs.Writing.{Ongoing}
use Rattle.lone_run.proofs.run.run_forms.Given as goal

abbrev pub invariant-loop-before : goal.invariant-loop-before
invariant-loop-before g l = record {
  going : Ongoing (seen l.program) l.limits l.before l.book l.defined (g.O.Sink.written l.initial.out) (g.O.Sink.written l.out);
  later : g.O.Sink.faults l.initial.out ≤ g.O.Sink.faults l.out;
}

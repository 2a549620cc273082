use Rattle.clj_script.specs.Seen.{seen}
use Rattle.lone_run.specs.Stages.{WentOn}
use Rattle.lone_run.proofs.force.settle.Given as goal

abbrev pub invariant-loop : goal.invariant-loop
invariant-loop g l = WentOn (seen l.program) l.limits l.initial.book l.book

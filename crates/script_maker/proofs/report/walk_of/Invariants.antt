use Rattle.script_maker.specs.Walks.{IsAt}
use Rattle.script_maker.proofs.report.walk_of.Given as goal

abbrev pub invariant-loop-at : goal.invariant-loop-at
invariant-loop-at l = IsAt l.text l.at l.walk

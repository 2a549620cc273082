use Rattle.std.specs.String.{string_bytes}
use Rattle.script_maker.proofs.Steps.{SoFar}
use Rattle.script_maker.proofs.script.write_steps.Given as goal

abbrev pub invariant-loop-before : goal.invariant-loop-before
invariant-loop-before l = SoFar l.steps l.before l.numbers (string_bytes l.initial.text) (string_bytes l.text)

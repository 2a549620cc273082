use Rattle.seq_turns.specs.Turning.{Fits}
use Rattle.print_rules.specs.Left.{wait_of}
use Rattle.print_tests.proofs.driving.printed.Given as goal

abbrev pub invariant-loop : goal.invariant-loop
invariant-loop l = Fits (wait_of l.going.state.state) l.going.answer

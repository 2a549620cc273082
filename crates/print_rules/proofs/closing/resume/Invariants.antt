use Rattle.std.proofs.Common.{length}
use Rattle.seq_turns.specs.Turning.{Silent}
use Rattle.print_rules.specs.Left.{is_print, print_round, resumes}
use Rattle.print_rules.proofs.closing.resume.Given as goal

abbrev pub invariant-loop-resumed : goal.invariant-loop-resumed
invariant-loop-resumed l = Silent is_print print_round (resumes l.fn.printing) (resumes l.printing)

abbrev pub decreases-loop-resumed : goal.decreases-loop-resumed
decreases-loop-resumed l = length l.printing.around.items

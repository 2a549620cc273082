use Rattle.pull_rules.proofs.WordTurns.{sequence_arity, sequence_two}
use Rattle.pull_rules.proofs.words.sequence_call.Goals as goal

pub returns-in-None : goal.returns-in-None
returns-in-None c = sequence_arity c.args.args.now.items c.throws.result (rw c.in-None.is at c.in_ok-pair.ensures) c.throws.ensures

pub returns-in_ok-next-in-Some : goal.returns-in_ok-next-in-Some
returns-in_ok-next-in-Some c = sequence_two c.args.args.now.items c.in-Some.both.0.value c.in-Some.both.1.value c.in_ok-next-in-Some.next (rw c.in-Some.is at c.in_ok-pair.ensures) c.in_ok-next-in-Some.ensures

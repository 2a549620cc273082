use Rattle.seq_values.specs.Plain.{plain}
use Rattle.fold_rules.proofs.WordTurns.{whole_goes}
use Rattle.fold_rules.proofs.words.folds_in.Goals as goal

pub returns-in_ok-next-in-None : goal.returns-in_ok-next-in-None
returns-in_ok-next-in-None c = whole_goes c.args.size (plain c.args.combine.value) (plain c.args.function.value) (plain c.args.source.value) c.in_ok-next-in-None.next (rw c.in-None.is at c.in_ok-found.ensures) c.in_ok-next-in-None.ensures

pub folds_split-requires-clause-found : goal.folds_split-requires-clause-found
folds_split-requires-clause-found c = rw c.in-Some.is at c.in_ok-found.ensures

use Rattle.fold_rules.proofs.WordTurns.{fold_two}
use Rattle.fold_rules.proofs.words.fold_alone.Goals as goal

pub returns : goal.returns
returns c = fold_two c.args.args.now.items c.in_ok-all.all.first.value c.in_ok-combine.combine.value c.in_ok-all.all.second.value c.in_ok-next.next c.in_ok-all.ensures c.in_ok-combine.ensures c.in_ok-next.ensures

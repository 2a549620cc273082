use Rattle.fold_rules.proofs.WordTurns.{fold_four}
use Rattle.fold_rules.proofs.words.fold_sized.Goals as goal

pub returns : goal.returns
returns c = fold_four c.args.args.now.items c.in_ok-all.all.first.value c.in_ok-all.all.second.value c.in_ok-all.all.third.value c.in_ok-all.all.fourth.value c.in_ok-next.next c.in_ok-all.ensures c.in_ok-next.ensures

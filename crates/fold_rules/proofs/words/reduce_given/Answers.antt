use Rattle.fold_rules.proofs.WordTurns.{reduce_three}
use Rattle.fold_rules.proofs.words.reduce_given.Goals as goal

pub returns : goal.returns
returns c = reduce_three c.args.args.now.items c.in_ok-all.all.first.value c.in_ok-all.all.second.value c.in_ok-all.all.third.value c.in_ok-next.next c.in_ok-all.ensures c.in_ok-next.ensures

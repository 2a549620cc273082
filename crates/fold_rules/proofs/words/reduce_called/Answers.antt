use Rattle.fold_rules.proofs.WordTurns.{reduce_two}
use Rattle.fold_rules.proofs.words.reduce_called.Goals as goal

pub returns : goal.returns
returns c = reduce_two c.args.args.now.items c.in_ok-all.all.first.value c.in_ok-called.called.value c.in_ok-all.all.second.value c.in_ok-next.next c.in_ok-all.ensures c.in_ok-called.ensures c.in_ok-next.ensures

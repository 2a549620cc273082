use Rattle.pull_rules.proofs.WordTurns.{transduce_four}
use Rattle.pull_rules.proofs.words.transduce_with.Goals as goal

pub returns : goal.returns
returns c = transduce_four c.args.args.now.items c.in_ok-all.all.first.value c.in_ok-all.all.second.value c.in_ok-all.all.third.value c.in_ok-all.all.fourth.value c.in_ok-next.next c.in_ok-all.ensures c.in_ok-next.ensures

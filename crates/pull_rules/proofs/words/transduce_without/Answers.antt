use Rattle.pull_rules.proofs.WordTurns.{transduce_three}
use Rattle.pull_rules.proofs.words.transduce_without.Goals as goal

pub returns : goal.returns
returns c = transduce_three c.args.args.now.items c.in_ok-all.all.first.value c.in_ok-all.all.second.value c.in_ok-all.all.third.value c.in_ok-next.next c.in_ok-all.ensures c.in_ok-next.ensures

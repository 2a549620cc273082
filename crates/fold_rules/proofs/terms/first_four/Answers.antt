use Rattle.std.proofs.Common.{refl, drop}
use Rattle.fold_rules.proofs.FoldTerms.{args_are}
use Rattle.fold_rules.proofs.terms.first_four.Goals as goal

pub returns : goal.returns
returns c = args_are c.args.args.now.items c.in_ok-first.first.value c.in_ok-second.second.value c.in_ok-third.third.value c.in_ok-fourth.fourth.value (drop 4 c.args.args.now.items) c.in_ok-first.ensures c.in_ok-second.ensures c.in_ok-third.ensures c.in_ok-fourth.ensures refl

use Rattle.seq_values.specs.Plain.{plain, plains}
use Rattle.lazy_rules.proofs.SiftTurns.{kept_element}
use Rattle.lazy_rules.proofs.choosing.more_kept.Goals as goal

pub returns-in_ok-all-in-Element-clause-stands : goal.returns-in_ok-all-in-Element-clause-stands
returns-in_ok-all-in-Element-clause-stands c = kept_element c.args.keeps c.choose.result (plains c.args.kept.items.items) (plains c.in_ok-all-in-Element.all.items.items) c.args.items.now.items c.args.at (plain c.args.answer.value) c.requires.within.1 c.choose.ensures c.in-Element.is c.in_ok-all-in-Element.ensures.stands

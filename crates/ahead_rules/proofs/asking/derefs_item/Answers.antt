use Rattle.ahead_rules.proofs.Sequences.{some_left}
use Rattle.std.proofs.Common.{sym, ◌∙◌, ◌∷◌, [], ◌+◌, drop}
use Rattle.seq_values.specs.Plain.{plain, plains}
use Rattle.seq_plan.specs.Lists.{items_and}
use Rattle.seq_values.specs.declared.words.Op.TheVariants as O
use Rattle.ahead_rules.proofs.Moves.{each_part, each_none}
use Rattle.ahead_rules.proofs.asking.derefs_item.Goals as goal

pub returns-in-None : goal.returns-in-None
returns-in-None c = each_none c.args.first.value (drop (c.args.at + 1) c.args.items.items) (drop c.args.at c.args.items.items) (plains c.args.answers.items.items) (λ ys. items_and ys O.Derefs (plain c.args.rest.value ∷ [])) c.no_part_among.result c.requires.first (sym c.as_part-part.ensures ∙ c.in-None.is) c.no_part_among.ensures

pub returns-in-Some : goal.returns-in-Some
returns-in-Some c = each_part c.args.first.value (drop (c.args.at + 1) c.args.items.items) (drop c.args.at c.args.items.items) c.in-Some.id (plains c.args.answers.items.items) (λ ys. items_and ys O.Derefs (plain c.args.rest.value ∷ [])) c.derefs_asks.result c.requires.first (sym c.as_part-part.ensures ∙ c.in-Some.is) c.derefs_asks.ensures

pub derefs_asks-requires : goal.derefs_asks-requires
derefs_asks-requires c = record { within = c.requires.within; some = some_left c.args.items.items c.args.at c.args.first.value _ c.requires.first }

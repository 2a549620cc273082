use Rattle.ahead_rules.proofs.Moves.{derefs_ask}
use Rattle.ahead_rules.proofs.asking.derefs_asks.Goals as goal

pub returns : goal.returns
returns c = derefs_ask c.args.rest c.args.answers.items.items c.args.items.items c.args.at c.args.id c.taken-chunk.result c.needs.result c.taken-chunk.ensures.answers c.taken-chunk.ensures.items c.taken-chunk.ensures.at c.needs.ensures

use Rattle.lazy_rules.proofs.WordTurns.{counted_takes}
use Rattle.lazy_rules.proofs.words.count_cell.Goals as goal

pub makes_cell-requires : goal.makes_cell-requires
makes_cell-requires c = counted_takes c.args.op c.args.args.items c.in-Some._number c.requires.two (rw c.in-Some.is at c.first_number-found.ensures.sight) (c.requires.takes c.in-Some._number)

use Rattle.std.proofs.Common.{arith}
use Rattle.lazy_rules.proofs.WordTurns.{size_takes}
use Rattle.std.proofs.lemmas.Int.{ints}
use Rattle.lazy_rules.proofs.words.partition_cell.Goals as goal

pub makes_cell-requires : goal.makes_cell-requires
makes_cell-requires c = size_takes c.args.args.items c.args.size c.requires.two (grind (arith, ints, c.if-size-lt1.false)) c.requires.sight

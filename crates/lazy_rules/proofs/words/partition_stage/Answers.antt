use Rattle.std.proofs.Common.{arith}
use Rattle.lazy_rules.proofs.WordTurns.{size_binds}
use Rattle.std.proofs.lemmas.Int.{ints}
use Rattle.lazy_rules.proofs.words.partition_stage.Goals as goal

pub gives_stage-requires : goal.gives_stage-requires
gives_stage-requires c = size_binds c.args.args.items c.args.size c.requires.one (grind (arith, ints, c.if-size-lt1.false)) c.requires.sight

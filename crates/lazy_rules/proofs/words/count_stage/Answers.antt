use Rattle.lazy_rules.proofs.WordTurns.{counted_binds}
use Rattle.lazy_rules.proofs.words.count_stage.Goals as goal

pub gives_stage-requires : goal.gives_stage-requires
gives_stage-requires c = counted_binds c.args.kind c.args.args.items c.in-Some._number c.requires.one (rw c.in-Some.is at c.first_number-found.ensures.sight) (c.requires.binds c.in-Some._number)

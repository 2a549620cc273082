use Rattle.std.proofs.Common.{◌≡◌, None, Some, ◌∙◌}
use Rattle.cell_book.proofs.Lists.{get_within}
use Rattle.eval_works.proofs.beginning.shared_at.Goals as goal

pub unreachable-requires : goal.unreachable-requires
unreachable-requires c = let w = get_within c.args.outcomes.now c.args.at c.requires.within in let z : None ≡ Some w.0 = c.in-None.ensures ∙ w.1 in absurd cc

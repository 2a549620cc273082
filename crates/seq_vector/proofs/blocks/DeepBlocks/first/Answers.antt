use Rattle.std.proofs.Common.{◌≡◌, rules, arith}
use Rattle.seq_vector.proofs.BlockLemmas.{deep_take, right_take, full_take}
use Rattle.seq_vector.proofs.DeepLemmas.{deep_of, count_first, few_taken, few_of_run, right_bound}
use Rattle.seq_vector.proofs.blocks.DeepBlocks.first.Goals as goal

pub part-requires-else-place-inside : goal.part-requires-else-place-inside
part-requires-else-place-inside g c = omega (arith, right_bound c.args.self.now.left (g.U.Blocks.blocks c.args.self.now.upper) c.args.self.now.right c.len-before.result c.inside-inside.result c.args.count c.requires.good.full c.len-before.ensures.same c.inside-inside.ensures.same c.requires.bound.1)

pub returns-in_ok-right-clause-same : goal.returns-in_ok-right-clause-same
returns-in_ok-right-clause-same g c = rw (c.in_ok-left-2.ensures, c.in_ok-upper.ensures.same, c.in_ok-right.ensures)
    (deep_take c.args.self.now.left (g.U.Blocks.blocks c.args.self.now.upper) c.args.self.now.right c.requires.good.full c.len-before.result c.len-before.ensures.same c.args.count (omega (arith, c.if-count-before.false)) _ c.run_at.ensures.same)

pub returns-in_ok-right-clause-good : goal.returns-in_ok-right-clause-good
returns-in_ok-right-clause-good g c = deep_of _ _ _ _ _ _ c.in_ok-upper.ensures.good (rw c.in_ok-upper.ensures.same (full_take _ _ c.requires.good.full))
    (rw c.in_ok-right.ensures (few_of_run _ _ c.run_at.ensures.full))
    (count_first _ _ _ (rw (c.in_ok-left-2.ensures, c.in_ok-upper.ensures.same, c.in_ok-right.ensures)
    (deep_take c.args.self.now.left (g.U.Blocks.blocks c.args.self.now.upper) c.args.self.now.right c.requires.good.full c.len-before.result c.len-before.ensures.same c.args.count (omega (arith, c.if-count-before.false)) _ c.run_at.ensures.same)) c.requires.bound.1)

pub returns-in_ok-right-2-clause-same : goal.returns-in_ok-right-2-clause-same
returns-in_ok-right-2-clause-same g c = rw (c.in_ok-left-2.ensures, c.in_ok-upper-2.ensures, c.in_ok-right-2.ensures)
    (right_take c.args.self.now.left (g.U.Blocks.blocks c.args.self.now.upper) c.args.self.now.right c.requires.good.full c.len-before.result c.len-before.ensures.same c.args.count c.inside-inside.result (omega (arith, c.if-count-before.false)) c.inside-inside.ensures.same c.if-place-inside.false)

pub returns-in_ok-right-2-clause-good : goal.returns-in_ok-right-2-clause-good
returns-in_ok-right-2-clause-good g c = deep_of _ _ _ _ _ _ (rw c.in_ok-upper-2.ensures c.requires.good.upper) (rw c.in_ok-upper-2.ensures c.requires.good.full)
    (rw c.in_ok-right-2.ensures (few_taken _ _ c.requires.good.few))
    (count_first _ _ _ (rw (c.in_ok-left-2.ensures, c.in_ok-upper-2.ensures, c.in_ok-right-2.ensures)
    (right_take c.args.self.now.left (g.U.Blocks.blocks c.args.self.now.upper) c.args.self.now.right c.requires.good.full c.len-before.result c.len-before.ensures.same c.args.count c.inside-inside.result (omega (arith, c.if-count-before.false)) c.inside-inside.ensures.same c.if-place-inside.false)) c.requires.bound.1)

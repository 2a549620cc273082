use Rattle.std.proofs.Common.{◌≡◌, rules, arith}
use Rattle.seq_vector.specs.Blocks.{deep_items}
use Rattle.seq_vector.proofs.BlockLemmas.{full_drop}
use Rattle.seq_vector.proofs.DeepLemmas.{deep_of, count_after, after_inside, after_right, after_bound}
use Rattle.seq_vector.proofs.blocks.DeepBlocks.after.Goals as goal

pub part-requires-else-place-inside : goal.part-requires-else-place-inside
part-requires-else-place-inside g c = after_bound c.args.self.now.left (g.U.Blocks.blocks c.args.self.now.upper) c.args.self.now.right c.requires.good.full c.len-before.result c.len-before.ensures.same c.args.count (omega (arith, c.if-count-before.false)) c.inside-inside.result _ c.inside-inside.ensures.same c.if-place-inside.false c.requires.good.most c.requires.good.least c.requires.bound.1

pub returns-in_ok-left-2-clause-same : goal.returns-in_ok-left-2-clause-same
returns-in_ok-left-2-clause-same g c = rw (c.in_ok-left-2.ensures, c.in_ok-upper-2.ensures.same, c.in_ok-right-2.ensures)
    (after_inside c.args.self.now.left (g.U.Blocks.blocks c.args.self.now.upper) c.args.self.now.right c.requires.good.full c.len-before.result c.len-before.ensures.same c.args.count (omega (arith, c.if-count-before.false)) _ c.run_at.ensures.same c.run_at.ensures.full)

pub returns-in_ok-left-2-clause-good : goal.returns-in_ok-left-2-clause-good
returns-in_ok-left-2-clause-good g c = deep_of _ _ _ _ _ _ c.in_ok-upper-2.ensures.good (rw c.in_ok-upper-2.ensures.same (full_drop _ _ c.requires.good.full))
    (rw c.in_ok-right-2.ensures c.requires.good.few)
    (count_after _ (deep_items g.U.Blocks.blocks c.args.self.now) _ _ (rw (c.in_ok-left-2.ensures, c.in_ok-upper-2.ensures.same, c.in_ok-right-2.ensures)
    (after_inside c.args.self.now.left (g.U.Blocks.blocks c.args.self.now.upper) c.args.self.now.right c.requires.good.full c.len-before.result c.len-before.ensures.same c.args.count (omega (arith, c.if-count-before.false)) _ c.run_at.ensures.same c.run_at.ensures.full)) c.requires.good.most c.requires.good.least)

pub returns-in_ok-left-3-clause-same : goal.returns-in_ok-left-3-clause-same
returns-in_ok-left-3-clause-same g c = rw (c.in_ok-left-3.ensures, c.none.ensures.empty, c.new.ensures)
    (after_right c.args.self.now.left (g.U.Blocks.blocks c.args.self.now.upper) c.args.self.now.right c.requires.good.full c.len-before.result c.len-before.ensures.same c.args.count (omega (arith, c.if-count-before.false)) c.inside-inside.result _ c.inside-inside.ensures.same c.if-place-inside.false c.requires.good.most c.requires.good.least)

pub returns-in_ok-left-3-clause-good : goal.returns-in_ok-left-3-clause-good
returns-in_ok-left-3-clause-good g c = deep_of _ _ _ _ _ _ c.none.ensures.good (rw c.none.ensures.empty tt)
    (rw c.new.ensures (search rules))
    (count_after _ (deep_items g.U.Blocks.blocks c.args.self.now) _ _ (rw (c.in_ok-left-3.ensures, c.none.ensures.empty, c.new.ensures)
    (after_right c.args.self.now.left (g.U.Blocks.blocks c.args.self.now.upper) c.args.self.now.right c.requires.good.full c.len-before.result c.len-before.ensures.same c.args.count (omega (arith, c.if-count-before.false)) c.inside-inside.result _ c.inside-inside.ensures.same c.if-place-inside.false c.requires.good.most c.requires.good.least)) c.requires.good.most c.requires.good.least)

use Rattle.std.proofs.Common.{◌≡◌, arith, rules, length, length-append, ◌+◌, ◌*◌, ◌≤◌}
use Rattle.std.proofs.lemmas.Nat.{div-add-mod'}
use Rattle.seq_vector.specs.Forms.{second_items}
use Rattle.seq_vector.proofs.VectorLemmas.{leaf_full, leaf_joined, length_more}
use Rattle.seq_vector.proofs.pvec.leaves.Goals as goal

pub loop-number-preserved : goal.loop-number-preserved
loop-number-preserved g c =
    let up = second_items g.row.T.Denot c.loop-number.upper in
    let inside : c.loop-number.number * 32 + 32 ≤ length c.args.items.now = omega (arith, c.loop-number-test.true, div-add-mod' (length c.args.items.now) 32) in (
      c.in_ok-upper.ensures.good,
      rw c.in_ok-upper.ensures.same (leaf_full up c.in_ok-leaf.leaf c.args.items.now c.loop-number.number c.loop-number.invariant.1 c.in_ok-leaf.ensures inside),
      rw c.in_ok-upper.ensures.same (leaf_joined up c.in_ok-leaf.leaf c.args.items.now c.loop-number.number c.loop-number.invariant.2 c.in_ok-leaf.ensures),
      rw c.in_ok-upper.ensures.same (length_more up c.in_ok-leaf.leaf c.loop-number.number c.loop-number.invariant.3),
    )

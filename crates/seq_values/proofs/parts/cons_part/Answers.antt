use Rattle.std.proofs.Common.{ap, arith}
use Rattle.seq_values.specs.Depth.{depth_of_all}
use Rattle.seq_values.proofs.PartLemmas.{cons_part_small, cons_part_within}
use Rattle.seq_values.proofs.parts.cons_part.Goals as goal

pub overflow_sub-depth : goal.overflow_sub-depth
overflow_sub-depth c = omega (arith, (cons_part_small c.args.heads.now c.args.rest.now c.args.depth c.args.left c.requires.node).1)

pub deepest_before-depth-requires-clause-bound : goal.deepest_before-depth-requires-clause-bound
deepest_before-depth-requires-clause-bound c =
    let within = cons_part_within c.args.heads.now c.args.rest.now c.args.depth c.args.left c.requires.node in
    (omega (arith, within.0, ap depth_of_all c.in_ok-heads.ensures), rw (c.depth_of.ensures, c.get.ensures) within.1)

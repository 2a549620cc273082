use Rattle.std.proofs.Common.{arith}
use Rattle.seq_values.specs.Plain.{plain, plains}
use Rattle.fold_rules.specs.Left.{after}
use Rattle.fold_rules.proofs.Foldings.{goes_group, goes_halves}
use Rattle.fold_rules.proofs.folding.folds.Goals as goal

pub returns-in_ok-next-in-None : goal.returns-in_ok-next-in-None
returns-in_ok-next-in-None c = goes_group (plain c.args.fold.combine.value) (plain c.args.fold.function.value) (plains c.args.fold.stages.items) c.args.items.items (after c.args.pending) c.args.fold.size c.in_ok-next-in-None.next c.args.fold.some (rw c.in-None.is at c.half_of-half.ensures) c.in_ok-next-in-None.ensures

pub returns-in_ok-next-in-Some : goal.returns-in_ok-next-in-Some
returns-in_ok-next-in-Some c =
    let h = rw c.in-Some.is at c.half_of-half.ensures in
    goes_halves (plain c.args.fold.combine.value) (plain c.args.fold.function.value) (plains c.args.fold.stages.items) c.args.items.items (after c.args.pending) c.args.fold.size c.in-Some.half c.in_ok-next-in-Some.next c.args.fold.some h.0 h.1 c.in_ok-next-in-Some.ensures

pub halves-requires : goal.halves-requires
halves-requires c =
    let h = rw c.in-Some.is at c.half_of-half.ensures in
    omega (arith, h.1)

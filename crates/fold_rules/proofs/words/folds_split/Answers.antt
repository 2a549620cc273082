use Rattle.std.proofs.Common.{ap, arith, w64}
use Rattle.std.proofs.lemmas.Int.{to_z-of_z}
use Rattle.seq_values.specs.Plain.{plain, plains}
use Rattle.fold_rows.specs.Table.{fold_items}
use Rattle.fold_rules.specs.Left.{after}
use Rattle.fold_rules.proofs.Taking.{takes_same}
use Rattle.fold_rules.proofs.WordTurns.{foldable_fits, split_goes}
use Rattle.fold_rules.proofs.words.folds_split.Goals as goal

pub invariant_of-fold-clause-fit : goal.invariant_of-fold-clause-fit
invariant_of-fold-clause-fit c = foldable_fits (plain c.args.source.value) c.args.foldable c.requires.found

pub invariant_of-fold-clause-few : goal.invariant_of-fold-clause-few
invariant_of-fold-clause-few c = omega (arith, c.requires.found.few)

pub returns : goal.returns
returns c = split_goes c.args.size (plain c.args.combine.value) (plain c.args.function.value) (plain c.args.source.value) c.args.foldable c.none-none.result.halves.items c.in_ok-next.next c.requires.found c.none-none.ensures (takes_same (ap (λ n. fold_items n (plain c.args.combine.value) (plain c.args.function.value) (plains c.args.foldable.stages.items) (plains c.args.foldable.items.items) (after c.none-none.result)) (to_z-of_z w64 c.args.size c.ranges.size)) c.in_ok-next.ensures)

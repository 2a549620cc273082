use Rattle.stage_tests.proofs.Folding.{fit_from}
use Rattle.stage_tests.proofs.reducers.fold_walked.Goals as goal

pub of_fold-requires : goal.of_fold-requires
of_fold-requires c = fit_from c.args.at c.args.foldable.stages.items c.args.foldable.stages.well c.args.foldable.fit

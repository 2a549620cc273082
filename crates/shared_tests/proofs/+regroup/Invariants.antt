use Rattle.shared_tests.proofs.+regroup.Given as goal

abbrev pub decreases-regroup : goal.decreases-regroup
decreases-regroup l = l.count

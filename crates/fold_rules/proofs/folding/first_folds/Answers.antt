use Rattle.fold_rules.proofs.Pendings.{first_goes}
use Rattle.fold_rules.proofs.folding.first_folds.Goals as goal

pub returns : goal.returns
returns c = first_goes c.args.fold c.args.items.items (record { cell = c.args.cell; combine = c.in_ok-combine.combine }) c.args.pending c.in_ok-pending.pending c.in_ok-next.next c.in_ok-pending.ensures c.in_ok-combine.ensures c.in_ok-next.ensures

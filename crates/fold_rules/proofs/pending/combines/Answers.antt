use Rattle.fold_rules.proofs.Pendings.{both_called}
use Rattle.fold_rules.proofs.pending.combines.Goals as goal

pub returns : goal.returns
returns c = both_called c.args.left.value c.args.combine.value c.args.right.value c.in_ok-args.args.items c.args.pending c.calls.result c.in_ok-args.ensures.stands c.calls.ensures

use Rattle.std.proofs.Common.{sym, subst, ◌∙◌, arith}
use Rattle.eval_frames.specs.Frames.{ground, beneath}
use Rattle.eval_frames.specs.Parts.{Splits, to_come}
use Rattle.seq_values.specs.Plain.{plain, plains}
use Rattle.eval_frames.proofs.Going.{stands_same}
use Rattle.eval_frames.proofs.Splitting.{until_part, until_true_value, split_weight}
use Rattle.eval_frames.proofs.deciding.until_any.Goals as goal

pub returns-then-holds : goal.returns-then-holds
returns-then-holds g c =
    let by = ground g.R.Rule.running g.R.Rules.table c.args.code.now in
    stands_same by (until_true_value _ _ _ _ (to_come c.args.code.now c.args.members) (sym c.is_truthy-holds.ensures ∙ c.if-holds.true)) (omega arith) c.decided.ensures

pub returns-in_ok-runner-in-Part : goal.returns-in_ok-runner-in-Part
returns-in_ok-runner-in-Part g c =
    let by = ground g.R.Rule.running g.R.Rules.table c.args.code.now in
    let s = subst (Splits c.args.code.now c.args.members) c.in-Part.is c.in_ok-split.ensures in
    let w = split_weight c.args.code.now c.args.members c.in-Part.number c.in-Part.locals c.in-Part.later s in
    stands_same by (until_part c.args.code.now c.args.members c.in-Part.number c.in-Part.locals c.in-Part.later s (plains c.args.code.now.values.items) (plain c.args.value.value) (beneath by c.args.rest) (sym c.is_truthy-holds.ensures ∙ c.if-holds.false)) (omega (arith, w)) c.in_ok-runner-in-Part.ensures

use Rattle.std.proofs.Common.{ap, subst, ◌∙◌, arith}
use Rattle.eval_frames.specs.Frames.{ground, beneath, gathered}
use Rattle.seq_values.specs.Plain.{plains}
use Rattle.eval_frames.proofs.Going.{comes_on, comes_same}
use Rattle.eval_frames.specs.Parts.{Splits, to_come}
use Rattle.eval_frames.proofs.Splitting.{evals_none, evals_part, split_weight}
use Rattle.eval_frames.proofs.gathering.gather.Goals as goal

pub returns-in_ok-values-in-Over : goal.returns-in_ok-values-in-Over
returns-in_ok-values-in-Over g c =
    let by = ground g.R.Rule.running g.R.Rules.table c.args.code.now in
    let s = subst (Splits c.args.code.now c.args.members) c.in-Over.is c.in_ok-split.ensures in
    comes_same by (ap (λ xs. gathered c.args.purpose (beneath by c.args.rest) (plains xs)) c.in_ok-values-in-Over.ensures ∙ evals_none (plains c.args.code.now.values.items) (plains c.args.members.locals.items) (plains c.args.values.items.items) (gathered c.args.purpose (beneath by c.args.rest)) (to_come c.args.code.now c.args.members) s) (omega arith) c.finished.ensures

pub returns-in_ok-runner-in-Part : goal.returns-in_ok-runner-in-Part
returns-in_ok-runner-in-Part g c =
    let by = ground g.R.Rule.running g.R.Rules.table c.args.code.now in
    let s = subst (Splits c.args.code.now c.args.members) c.in-Part.is c.in_ok-split.ensures in
    let w = split_weight c.args.code.now c.args.members c.in-Part.number c.in-Part.locals c.in-Part.later s in
    comes_on by (evals_part c.args.code.now c.args.members c.in-Part.number c.in-Part.locals c.in-Part.later s (plains c.args.code.now.values.items) (plains c.args.values.items.items) (gathered c.args.purpose (beneath by c.args.rest))) (omega (arith, w)) c.in_ok-runner-in-Part.ensures

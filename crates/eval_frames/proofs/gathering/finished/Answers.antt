use Rattle.std.proofs.Common.{sym, ap, arith}
use Rattle.eval_frames.specs.Frames.{ground, beneath, gathered}
use Rattle.seq_values.specs.Plain.{plains}
use Rattle.eval_frames.proofs.Going.{comes_same, comes_event}
use Rattle.eval_frames.proofs.gathering.finished.Goals as goal

pub returns-in-Call : goal.returns-in-Call
returns-in-Call g c =
    let by = ground g.R.Rule.running g.R.Rules.table c.args.code.now in
    comes_event by (ap (λ p. gathered p (beneath by c.args.rest) (plains c.args.values.items)) (sym c.in-Call.is)) (omega arith) c.calls.ensures

pub returns-in-Vector : goal.returns-in-Vector
returns-in-Vector g c =
    let by = ground g.R.Rule.running g.R.Rules.table c.args.code.now in
    comes_same by (ap (λ p. gathered p (beneath by c.args.rest) (plains c.args.values.items)) (sym c.in-Vector.is)) (omega arith) c.vector_told.ensures

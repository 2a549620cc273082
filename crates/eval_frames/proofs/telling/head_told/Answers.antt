use Rattle.std.proofs.Common.{ap, arith}
use Rattle.eval_frames.specs.Frames.{ground, beneath, gathered}
use Rattle.seq_values.specs.Plain.{plains}
use Rattle.eval_frames.proofs.Going.{comes_same}
use Rattle.eval_frames.specs.Parts.{to_come}
use Rattle.seq_meaning.specs.Evaluates.{evals}
use Rattle.eval_frames.specs.declared.state.Purpose.TheVariants as P
use Rattle.eval_frames.proofs.telling.head_told.Goals as goal

pub returns : goal.returns
returns g c =
    let by = ground g.R.Rule.running g.R.Rules.table c.args.code.now in
    comes_same by (ap (λ xs. evals (plains c.args.code.now.values.items) (to_come c.args.code.now c.args.members) (plains c.args.members.locals.items) (plains xs) (gathered (P.Call c.args.value) (beneath by c.args.rest))) c.none-none.ensures) (omega arith) c.in_ok-all.ensures

use Rattle.std.proofs.Common.{sym, ap, arith}
use Rattle.eval_frames.specs.Frames.{ground, beneath, asking_plan}
use Rattle.seq_values.specs.Plain.{plain}
use Rattle.eval_frames.proofs.Going.{comes_same}
use Rattle.eval_frames.proofs.answering.part_told.Goals as goal

pub returns-in-Seq : goal.returns-in-Seq
returns-in-Seq g c =
    let by = ground g.R.Rule.running g.R.Rules.table c.args.code.now in
    comes_same by (ap (λ a. asking_plan by a (beneath by c.args.rest) (plain c.args.value.value)) (sym c.in-Seq.is)) (omega arith) c.seq_told.ensures

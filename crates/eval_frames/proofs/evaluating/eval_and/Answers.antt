use Rattle.std.proofs.Common.{ap, arith}
use Rattle.eval_frames.specs.Frames.{ground, beneath}
use Rattle.seq_values.specs.Plain.{plains}
use Rattle.eval_frames.proofs.Going.{comes_on}
use Rattle.seq_meaning.specs.Evaluates.{while_true}
use Rattle.eval_frames.specs.Weights.{weights}
use Rattle.eval_frames.proofs.Splitting.{first_come, first_locals}
use Rattle.eval_frames.proofs.evaluating.eval_and.Goals as goal

pub returns : goal.returns
returns g c =
    let by = ground g.R.Rule.running g.R.Rules.table c.args.code.now in
    let come = first_come c.args.code.now c.args.number c.args.locals _ c.parts_of.ensures in
    let scope = first_locals c.args.number c.args.locals _ c.parts_of.ensures in
    let w = ap weights come in
    let defs = plains c.args.code.now.values.items in
    let k = beneath by c.args.rest in
    let told = c.of_truth.ensures.stands in
    comes_on by (λ i. while_true defs (come i) (scope i) (told i) k) (omega (arith, w)) c.in_ok-runner.ensures

use Rattle.std.proofs.Common.{ap, arith}
use Rattle.eval_frames.specs.Frames.{ground, beneath, waits}
use Rattle.seq_values.specs.Plain.{plains}
use Rattle.eval_frames.proofs.Going.{comes_on}
use Rattle.eval_frames.specs.Parts.{tree}
use Rattle.seq_meaning.specs.Evaluates.{eval}
use Rattle.eval_frames.specs.declared.state.Frame.TheVariants as F
use Rattle.eval_frames.proofs.evaluating.eval_let.Goals as goal

pub returns : goal.returns
returns g c =
    let by = ground g.R.Rule.running g.R.Rules.table c.args.code.now in
    let defs = plains c.args.code.now.values.items in
    let k = beneath by c.args.rest in
    let shared = ap plains c.in_ok-shared.ensures in
    comes_on by (ap (λ env. eval defs (tree c.args.code.now c.args.value) env (waits {b = g.R.Rule} by (F.Let c.args.body c.args.locals) k)) shared) (omega arith) c.in_ok-runner.ensures

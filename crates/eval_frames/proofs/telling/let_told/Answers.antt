use Rattle.std.proofs.Common.{refl, ap, arith}
use Rattle.eval_frames.specs.Frames.{ground, beneath}
use Rattle.seq_values.specs.Plain.{plains}
use Rattle.eval_frames.specs.Parts.{tree}
use Rattle.seq_meaning.specs.Evaluates.{eval}
use Rattle.eval_frames.proofs.telling.let_told.Goals as goal

pub returns : goal.returns
returns g c =
    let by = ground g.R.Rule.running g.R.Rules.table c.args.code.now in
    record { left = refl; plan = ap (λ env. eval (plains c.args.code.now.values.items) (tree c.args.code.now c.args.body) env (beneath by c.args.rest)) c.in_ok-locals.ensures; light = omega arith }

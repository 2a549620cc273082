use Rattle.std.proofs.Common.{◌*◌, ap, ◌∙◌, arith}
use Rattle.eval_frames.specs.Frames.{ground, evaluated}
use Rattle.eval_frames.specs.Weights.{step_weight}
use Rattle.seq_values.specs.Plain.{plains}
use Rattle.eval_frames.proofs.Beginnings.{some_body_begins, some_body_weight, fresh_beneath, fresh_weight}
use Rattle.eval_frames.proofs.beginning.begin_body.Goals as goal

pub returns-in-Some : goal.returns-in-Some
returns-in-Some g c =
    let by = ground g.R.Rule.running g.R.Rules.table c.args.code.now in
    let w = fresh_weight by c.fresh.result c.fresh.ensures.frames in
    let l = ap (λ n. n * step_weight c.args.code.now) c.fresh.ensures.left in
    let b = some_body_weight by c.args.term.term c.args.number _ c.requires c.lazy_body.ensures.tree c.in-Some.expr c.in-Some.is in
    record {
      left = c.fresh.ensures.left;
      plan = ap (evaluated c.args.code.now c.in-Some.expr (plains c.args.term.term.args)) (fresh_beneath by c.fresh.result c.fresh.ensures.frames) ∙ some_body_begins by c.args.term.term c.args.number _ c.requires c.lazy_body.ensures.tree c.in-Some.expr c.in-Some.is;
      light = omega (arith, w, l, b);
    }

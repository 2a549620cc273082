use Rattle.std.proofs.Common.{◌*◌, ap, ◌∙◌, arith}
use Rattle.eval_frames.specs.Frames.{ground, script_in, evaluated}
use Rattle.eval_frames.specs.Weights.{step_weight}
use Rattle.seq_plan.specs.Plan.{then}
use Rattle.seq_values.specs.Plain.{plains}
use Rattle.eval_frames.proofs.Beginnings.{prints, fresh_beneath, fresh_weight}
use Rattle.eval_frames.proofs.beginning.begin_print.Goals as goal

pub returns : goal.returns
returns g c =
    let by = ground g.R.Rule.running g.R.Rules.table c.args.code.now in
    let w = fresh_weight by c.fresh.result c.fresh.ensures.frames in
    let l = ap (λ n. n * step_weight c.args.code.now) c.fresh.ensures.left in
    let above = c.in_ok-rest.ensures.plan ∙ ap (λ k v. then ((script_in by).rules.on_print v) k) (fresh_beneath by c.fresh.result c.fresh.ensures.frames) in
    record {
      left = c.in_ok-rest.ensures.left ∙ c.fresh.ensures.left;
      plan = (λ i. evaluated c.args.code.now c.args.expr (plains (c.none.ensures i)) (above i)) ∙ prints by c.args.expr;
      light = let r = c.in_ok-rest.ensures.light in omega (arith, w, l, r);
    }

use Rattle.std.proofs.Common.{◌*◌, ap, ◌∙◌, arith}
use Rattle.eval_frames.specs.Frames.{ground}
use Rattle.eval_frames.specs.Weights.{step_weight}
use Rattle.seq_plan.specs.Plan.{then, begun}
use Rattle.eval_frames.proofs.Beginnings.{rule_begins, fresh_beneath, fresh_weight}
use Rattle.eval_frames.proofs.beginning.begin_rule.Goals as goal

pub returns : goal.returns
returns g c =
    let by = ground g.R.Rule.running g.R.Rules.table c.args.code.now in
    let w = fresh_weight by c.fresh.result c.fresh.ensures.frames in
    let l = ap (λ n. n * step_weight c.args.code.now) c.fresh.ensures.left in
    record {
      left = c.fresh.ensures.left;
      plan = ap (then (g.R.Rule.running.left c.begin_term-state.result begun)) (fresh_beneath by c.fresh.result c.fresh.ensures.frames) ∙ rule_begins by c.args.term.term _ c.requires c.begin_term-state.ensures.left;
      light = omega (arith, w, l);
    }

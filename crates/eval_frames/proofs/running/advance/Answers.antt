use Rattle.std.proofs.Common.{◌+◌, refl, sym, subst, arith, IfOk}
use Rattle.eval_frames.specs.Frames.{ground, beneath}
use Rattle.eval_frames.specs.Frames.{now_plan}
use Rattle.eval_frames.specs.Leads.{Comes}
use Rattle.eval_frames.specs.Weights.{rest_weight, now_weight}
use Rattle.eval_frames.proofs.Going.{ok_comes}
use Rattle.eval_frames.proofs.running.advance.Goals as goal

pub returns-in-Eval : goal.returns-in-Eval
returns-in-Eval g c =
    let by = ground g.R.Rule.running g.R.Rules.table c.args.code.now in
    subst (λ m. IfOk c.eval.result (λ a. Comes by c.args.runner.rest.left (now_plan by m (beneath by c.args.runner.rest)) (rest_weight c.args.code.now c.args.runner.rest + now_weight c.args.code.now m) a)) (sym c.in-Eval.is) c.eval.ensures

pub returns-in-Tell : goal.returns-in-Tell
returns-in-Tell g c =
    let by = ground g.R.Rule.running g.R.Rules.table c.args.code.now in
    subst (λ m. IfOk c.tell.result (λ a. Comes by c.args.runner.rest.left (now_plan by m (beneath by c.args.runner.rest)) (rest_weight c.args.code.now c.args.runner.rest + now_weight c.args.code.now m) a)) (sym c.in-Tell.is) (ok_comes by _ c.tell.result refl (omega arith) c.tell.ensures)

pub returns-in-Turn : goal.returns-in-Turn
returns-in-Turn g c =
    let by = ground g.R.Rule.running g.R.Rules.table c.args.code.now in
    subst (λ m. IfOk c.take_turn.result (λ a. Comes by c.args.runner.rest.left (now_plan by m (beneath by c.args.runner.rest)) (rest_weight c.args.code.now c.args.runner.rest + now_weight c.args.code.now m) a)) (sym c.in-Turn.is) c.take_turn.ensures

use Rattle.std.proofs.Common.{refl, arith}
use Rattle.eval_frames.specs.Frames.{ground, beneath}
use Rattle.eval_frames.proofs.Callings.{own_none, own_some, own_weight, enters_throws}
use Rattle.eval_frames.proofs.calls.enter_own.Goals as goal

pub returns-in-None : goal.returns-in-None
returns-in-None g c =
    let by = ground g.R.Rule.running g.R.Rules.table c.args.code.now in
    enters_throws by _ _ c.refused.ensures (own_none by c.args.function c.args.args.items (beneath by c.args.rest) _ _ _ c.in-None.is c.requires c.len-count.ensures.same c.body.ensures.tree)

pub returns-in-Some : goal.returns-in-Some
returns-in-Some g c =
    let by = ground g.R.Rule.running g.R.Rules.table c.args.code.now in
    let w = own_weight by c.args.function c.args.args.items (beneath by c.args.rest) _ _ _ _ c.in-Some.is c.requires c.len-count.ensures.same c.body.ensures.tree in
    record { left = refl; plan = own_some by c.args.function c.args.args.items (beneath by c.args.rest) _ _ _ _ c.in-Some.is c.requires c.len-count.ensures.same c.body.ensures.tree; light = omega (arith, w) }

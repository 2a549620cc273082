use Rattle.core_fns.proofs.Made.{function_made}
use Rattle.core_fns.proofs.making.function_of.Goals as goal

pub returns : goal.returns
returns c = function_made c.args.target c.args.args.now c.in_ok-values.values.items c.in_ok-bound.bound c.of.result c.in_ok-values.ensures.same c.in_ok-bound.ensures.same c.in_ok-bound.ensures.few c.in_ok-bound.ensures.flat c.of.ensures.same c.of.ensures.well

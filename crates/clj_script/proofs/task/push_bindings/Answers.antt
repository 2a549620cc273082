use Rattle.std.proofs.lemmas.Iterator.Adapters.{YieldsList-from_rev_slice}
use Rattle.std.proofs.lemmas.Iterator.Consumers.{YieldsList-end}
use Rattle.clj_script.proofs.TaskLemmas.{pushes_none, bindings_more, bindings_all}
use Rattle.clj_script.proofs.task.push_bindings.Goals as goal

pub loop-name-init : goal.loop-name-init
loop-name-init c = pushes_none _

pub loop-name-preserved : goal.loop-name-preserved
loop-name-preserved c = bindings_more c.loop-name.yielded c.in-Some.field-0 c.loop-name.invariant c.in_ok-push.ensures.items c.in_ok-push-2.ensures.items

pub returns : goal.returns
returns c =
    let t = YieldsList-end (YieldsList-from_rev_slice c.args.pairs.now cc) c.loop-name.yielded _ c.loop-name.yielded_by _ _ c.in-None.is c.next.ensures.steps in
    bindings_all c.loop-name.yielded c.args.pairs.now c.loop-name.invariant t.0

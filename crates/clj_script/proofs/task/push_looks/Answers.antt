use Rattle.std.proofs.lemmas.Iterator.Adapters.{YieldsList-from_rev_slice}
use Rattle.std.proofs.lemmas.Iterator.Consumers.{YieldsList-end}
use Rattle.clj_script.proofs.TaskLemmas.{pushes_none, looks_more, looks_all}
use Rattle.clj_script.proofs.task.push_looks.Goals as goal

pub loop-item-init : goal.loop-item-init
loop-item-init c = pushes_none _

pub loop-item-preserved : goal.loop-item-preserved
loop-item-preserved c = looks_more c.loop-item.yielded c.in-Some.item c.loop-item.invariant c.in_ok-push.ensures.items

pub returns : goal.returns
returns c =
    let t = YieldsList-end (YieldsList-from_rev_slice c.args.items.now cc) c.loop-item.yielded _ c.loop-item.yielded_by _ _ c.in-None.is c.next.ensures.steps in
    looks_all c.loop-item.yielded c.args.items.now c.loop-item.invariant t.0

use Rattle.std.proofs.Common.{◌≡◌, drop, reverse, ◌++◌, ◌∷◌, [], ◌∙◌, append-nil, arith}
use Rattle.std.proofs.lemmas.List.{length_push}
use Rattle.seq_values.specs.Plain.{plains}
use Rattle.xf_stages.proofs.RestoreTurns.{restoring_none, next_of, restoring_next, restoring_end, fewer_left}
use Rattle.xf_stages.proofs.restoring.restored_all.Goals as goal

pub loop-done-init : goal.loop-done-init
loop-done-init c = record { restoring = restoring_none c.args.stages.items c.no_stages-done.result.items (plains (drop c.args.at c.args.args.now.items)) c.no_stages-done.ensures c.requires }

pub returns-in-None : goal.returns-in-None
returns-in-None c = restoring_end (reverse c.args.stages.items) (plains (drop c.args.at c.args.args.now.items)) c.loop-done.done.items c.loop-done.todo.items (plains (drop c.loop-done.here c.args.args.now.items)) ((rw c.in-None.is at c.without_last-rest.ensures.stages) ∙ append-nil c.without_last-rest.result.stages.items ∙ (rw c.in-None.is at c.without_last-rest.ensures.none)) c.loop-done.invariant.restoring

pub restored-requires : goal.restored-requires
restored-requires c = next_of (reverse c.args.stages.items) (plains (drop c.args.at c.args.args.now.items)) c.loop-done.done.items c.loop-done.todo.items c.without_last-rest.result.stages.items c.in-Some.stage (plains (drop c.loop-done.here c.args.args.now.items)) (rw c.in-Some.is at c.without_last-rest.ensures.stages) c.loop-done.invariant.restoring

pub loop-done-preserved : goal.loop-done-preserved
loop-done-preserved c = record { restoring = restoring_next (reverse c.args.stages.items) (plains (drop c.args.at c.args.args.now.items)) c.loop-done.done.items c.in_ok-more-in-Some.more.items c.loop-done.todo.items c.without_last-rest.result.stages.items c.in-Some.stage c.in_ok-next-in-Some.next.stage (plains (drop c.loop-done.here c.args.args.now.items)) (plains (drop c.in_ok-next-in-Some.next.at c.args.args.now.items)) (rw c.in-Some.is at c.without_last-rest.ensures.stages) c.in_ok-more-in-Some.ensures c.in_ok-next-in-Some.ensures c.loop-done.invariant.restoring }

pub loop-done-smaller : goal.loop-done-smaller
loop-done-smaller c = fewer_left c.loop-done.todo.items c.without_last-rest.result.stages.items c.in-Some.stage (rw c.in-Some.is at c.without_last-rest.ensures.stages)

use Rattle.clj_script.specs.Seen.{seen}
use Rattle.lone_run.proofs.Forcing.{found_calm, found_future, found_over, found_then, none_left, went_same}
use Rattle.lone_run.proofs.force.settle.Goals as goal

pub loop-init : goal.loop-init
loop-init g c = went_same (seen c.args.program.now) c.args.limits c.args.book.now c.requires.calm

pub returns-in-None-clause-ok : goal.returns-in-None-clause-ok
returns-in-None-clause-ok g c = none_left (seen c.args.program.now) c.args.limits c.args.book.now c.loop.book c.open_future.new.self c.loop.invariant c.in-None.ensures

pub evaluate_future-requires-clause-calm : goal.evaluate_future-requires-clause-calm
evaluate_future-requires-clause-calm g c = found_calm (seen c.args.program.now) c.args.limits c.args.book.now c.loop.book c.open_future.new.self c.in-Some.id c.loop.invariant c.in-Some.ensures

pub evaluate_future-requires-clause-future : goal.evaluate_future-requires-clause-future
evaluate_future-requires-clause-future g c = found_future (seen c.args.program.now) c.args.limits c.loop.book c.open_future.new.self c.in-Some.id c.in-Some.ensures

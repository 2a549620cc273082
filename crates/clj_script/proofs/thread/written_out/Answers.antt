use Rattle.std.proofs.Common.{◌<◌, ◌≤◌, length, arith, slice_index_or}
use Rattle.clj_script.proofs.EntryLemmas.{number_got}
use Rattle.clj_script.proofs.ThreadLemmas.{below_at, grown-length, one_put}
use Rattle.clj_script.proofs.thread.written_out.Goals as goal

pub put-requires-clause-step_below : goal.put-requires-clause-step_below
put-requires-clause-step_below c =
    let h : slice_index_or c.args.steps.now c.loop-step.step-index 0 < length c.args.sources.now.items = below_at _ c.args.steps.now c.loop-step.step-index _ c.requires.steps_below (number_got c.args.steps.now c.loop-step.step-index c.loop-step-test.true) in
    let k : length c.args.sources.now.items ≤ length c.loop-step.sources.items = grown-length _ _ _ c.loop-step.invariant.added.grown in
    omega (arith, h, k)

pub loop-step-preserved : goal.loop-step-preserved
loop-step-preserved c =
    one_put _ _ _ _ _ _ _ _ _ _ _ _ c.args.steps.now c.loop-step.invariant c.requires.steps_below (number_got c.args.steps.now c.loop-step.step-index c.loop-step-test.true) c.in_ok-standing.ensures.added c.in_ok-standing.ensures.refused

use Rattle.std.proofs.Common.{◌≡◌, ◌++◌, ◌∷◌, []}
use Rattle.xf_stages.proofs.OpenTurns.{begun, reaches_next, refused_next, reaches_end, smaller}
use Rattle.xf_stages.proofs.opening.open_all.Goals as goal

pub loop-rest-init : goal.loop-rest-init
loop-rest-init c = record { reaches = begun c.args.work }

pub returns-in-None : goal.returns-in-None
returns-in-None c = reaches_end c.args.work c.loop-rest.here c.without_frame-rest.result.work (rw c.in-None.is at c.without_frame-rest.ensures.frames) (rw c.in-None.is at c.without_frame-rest.ensures.none) c.without_frame-rest.ensures.stages c.loop-rest.invariant.reaches

pub returns-in-None-next : goal.returns-in-None-next
returns-in-None-next c = refused_next c.loop-rest.here c.without_frame-rest.result.work c.in-Some.frame (rw c.in-Some.is at c.without_frame-rest.ensures.frames) c.without_frame-rest.ensures.stages c.args.work c.loop-rest.invariant.reaches (rw c.in-None-next.is at c.in_ok-next-in-Some.ensures)

pub loop-rest-smaller : goal.loop-rest-smaller
loop-rest-smaller c = smaller c.loop-rest.here c.without_frame-rest.result.work c.in-Some.frame (rw c.in-Some.is at c.without_frame-rest.ensures.frames) c.without_frame-rest.ensures.stages c.in-Some-next.more (rw c.in-Some-next.is at c.in_ok-next-in-Some.ensures)

pub loop-rest-preserved : goal.loop-rest-preserved
loop-rest-preserved c = record { reaches = reaches_next c.loop-rest.here c.without_frame-rest.result.work c.in-Some.frame (rw c.in-Some.is at c.without_frame-rest.ensures.frames) c.without_frame-rest.ensures.stages c.args.work c.in-Some-next.more c.loop-rest.invariant.reaches (rw c.in-Some-next.is at c.in_ok-next-in-Some.ensures) }

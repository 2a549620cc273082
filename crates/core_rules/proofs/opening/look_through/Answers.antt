use Rattle.std.proofs.Common.{sym, ◌∙◌}
use Rattle.core_rules.proofs.Openings.{next_same, next_refused, next_smaller, none_left}
use Rattle.core_rules.proofs.opening.look_through.Goals as goal

pub returns-in-None : goal.returns-in-None
returns-in-None c = none_left c.loop-rest.here c.without_frame-rest.result.search (rw c.in-None.is at c.without_frame-rest.ensures.frames) (rw c.in-None.is at c.without_frame-rest.ensures.none) c.without_frame-rest.ensures.found ∙ c.loop-rest.invariant

pub returns-in-None-next : goal.returns-in-None-next
returns-in-None-next c = sym (sym c.loop-rest.invariant ∙ next_refused c.loop-rest.here c.without_frame-rest.result.search c.in-Some.frame (rw c.in-Some.is at c.without_frame-rest.ensures.frames) c.without_frame-rest.ensures.found (rw c.in-None-next.is at c.in_ok-next-in-Some.ensures))

pub loop-rest-smaller : goal.loop-rest-smaller
loop-rest-smaller c = next_smaller c.loop-rest.here c.without_frame-rest.result.search c.in-Some.frame (rw c.in-Some.is at c.without_frame-rest.ensures.frames) c.without_frame-rest.ensures.found c.in-Some-next.more (rw c.in-Some-next.is at c.in_ok-next-in-Some.ensures)

pub loop-rest-preserved : goal.loop-rest-preserved
loop-rest-preserved c = next_same c.loop-rest.here c.without_frame-rest.result.search c.in-Some.frame (rw c.in-Some.is at c.without_frame-rest.ensures.frames) c.without_frame-rest.ensures.found c.in-Some-next.more (rw c.in-Some-next.is at c.in_ok-next-in-Some.ensures) ∙ c.loop-rest.invariant

use Rattle.std.proofs.Common.{◌≡◌, arith, ap, sym, ◌∙◌, drop}
use Rattle.xf_stages.specs.Flowing.{first_has_group}
use Rattle.xf_stages.proofs.CompleteTurns.{completes_here, completes_next, completes_end}
use Rattle.xf_stages.proofs.completing.find_group.Goals as goal

pub loop-here-init : goal.loop-here-init
loop-here-init c = record { behind = omega arith; passed = completes_here c.args.flow.now c.args.from }

pub returns-then-group_at : goal.returns-then-group_at
returns-then-group_at c = record { behind = c.loop-here.invariant.behind; within = omega (arith, c.loop-here-test.true, c.len.ensures); group = sym (c.group_at.ensures ∙ ap (λ l. first_has_group (drop c.loop-here.here l)) c.deref.ensures.value) ∙ c.if-group_at.true; completes = c.loop-here.invariant.passed }

pub loop-here-preserved : goal.loop-here-preserved
loop-here-preserved c = record { behind = omega (arith, c.loop-here.invariant.behind); passed = completes_next c.args.flow.now c.args.from c.loop-here.here c.group_at.result (omega (arith, c.loop-here-test.true, c.len.ensures)) (c.group_at.ensures ∙ ap (λ l. first_has_group (drop c.loop-here.here l)) c.deref.ensures.value) c.if-group_at.false c.loop-here.invariant.passed }

pub returns : goal.returns
returns c = completes_end c.args.flow.now c.args.from c.loop-here.here (omega (arith, c.loop-here-test.false, c.len.ensures)) c.loop-here.invariant.passed

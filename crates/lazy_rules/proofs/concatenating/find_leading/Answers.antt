use Rattle.std.proofs.Common.{arith}
use Rattle.lazy_rules.proofs.ConcatTurns.{passes_nil, passes_node, asked_is, none_is}
use Rattle.seq_turns.specs.Turning.{arrives}
use Rattle.seq_turns.proofs.Taking.{joins}
use Rattle.lazy_rules.proofs.concatenating.find_leading.Goals as goal

pub returns-then-at-count-clause-plan : goal.returns-then-at-count-clause-plan
returns-then-at-count-clause-plan c = λ size. none_is size c.args.args.now.items c.args.at (omega (arith, c.len-count.ensures, c.if-at-count.true))

pub loop-here-init : goal.loop-here-init
loop-here-init c = record { within = omega (arith, c.len-count.ensures, c.if-at-count.false); passed = λ size. arrives }

pub returns-in-Now-At-clause-plan : goal.returns-in-Now-At-clause-plan
returns-in-Now-At-clause-plan c = λ size. joins (c.loop-here.invariant.passed size) (passes_node size c.args.args.now.items c.loop-here.here c.in_ok-value.value.value c.in-Now-At.place c.in_ok-value.ensures (omega (arith, c.loop-here-test.true, c.len-count.ensures)) (rw c.in-Now-At.field-0-is at c.in-Now-At.ensures))

pub returns-in-Ask-clause-plan : goal.returns-in-Ask-clause-plan
returns-in-Ask-clause-plan c = λ size. joins (c.loop-here.invariant.passed size) (asked_is size c.args.args.now.items c.loop-here.here c.in_ok-value.value.value c.in-Ask.value.value c.in_ok-value.ensures (omega (arith, c.loop-here-test.true, c.len-count.ensures)) c.in-Ask.ensures.0)

pub loop-here-preserved : goal.loop-here-preserved
loop-here-preserved c = record { within = omega (arith, c.loop-here-test.true, c.len-count.ensures); passed = λ size. joins (c.loop-here.invariant.passed size) (passes_nil size c.args.args.now.items c.loop-here.here c.in_ok-value.value.value c.in_ok-value.ensures (omega (arith, c.loop-here-test.true, c.len-count.ensures)) (rw c.in-Now-Nil.field-0-is at c.in-Now-Nil.ensures)) }

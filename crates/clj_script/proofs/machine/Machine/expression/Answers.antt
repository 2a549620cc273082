use Rattle.std.proofs.Common.{◌≡◌, [], length, arith}
use Rattle.clj_script.proofs.ExpressionLemmas.{begun, gone_on, less_to_do, one_value, next_within, next_enough, sound_still, no_length, compiled}
use Rattle.clj_script.proofs.machine.Machine.expression.Goals as goal

pub loop-task-init : goal.loop-task-init
loop-task-init c = begun _ _ c.args.self.now c.push.new.self c.args.form c.requires.sound c.requires.idle c.requires.lower c.requires.below c.in_ok-push.ensures.items

pub carry_out-requires-clause-sound : goal.carry_out-requires-clause-sound
carry_out-requires-clause-sound c = sound_still c.loop-task.self c.pop.new.self c.loop-task.invariant.sound

pub carry_out-requires-clause-lower : goal.carry_out-requires-clause-lower
carry_out-requires-clause-lower c = c.loop-task.invariant.lower

pub carry_out-requires-clause-within : goal.carry_out-requires-clause-within
carry_out-requires-clause-within c = (next_within _ _ _ _ _ _ c.loop-task.invariant c.pop.new.self c.in-Some.task c.in-Some.ensures.items).0

pub carry_out-requires-clause-below : goal.carry_out-requires-clause-below
carry_out-requires-clause-below c = (next_within _ _ _ _ _ _ c.loop-task.invariant c.pop.new.self c.in-Some.task c.in-Some.ensures.items).1

pub carry_out-requires-clause-enough : goal.carry_out-requires-clause-enough
carry_out-requires-clause-enough c = next_enough _ _ _ _ _ _ c.loop-task.invariant c.pop.new.self c.in-Some.task c.in-Some.ensures.items

pub loop-task-smaller : goal.loop-task-smaller
loop-task-smaller c = less_to_do _ _ _ _ _ _ c.loop-task.invariant c.pop.new.self c.in-Some.task c.in-Some.ensures.items _ _ c.in_ok-carry_out.ensures

pub loop-task-preserved : goal.loop-task-preserved
loop-task-preserved c = gone_on _ _ _ _ _ _ c.loop-task.invariant c.pop.new.self c.in-Some.task c.in-Some.ensures.items _ _ c.in_ok-carry_out.ensures

pub unreachable-requires : goal.unreachable-requires
unreachable-requires c =
    let none : c.loop-task.self.tasks.items ≡ [] = no_length c.loop-task.self.tasks.items (omega (arith, c.loop-task.self.tasks.ok.0, c.in_default.ensures.cases.0)) in
    let one : length c.loop-task.self.values.items ≡ 1 = one_value _ _ _ _ _ _ c.loop-task.invariant c.requires.idle none in
    omega (arith, one, c.loop-task.self.values.ok.0, c.in-None.ensures.cases.0)

pub returns : goal.returns
returns c =
    let none : c.loop-task.self.tasks.items ≡ [] = no_length c.loop-task.self.tasks.items (omega (arith, c.loop-task.self.tasks.ok.0, c.in_default.ensures.cases.0)) in
    let left : c.pop.new.self.items ≡ [] = no_length c.pop.new.self.items (omega (arith, c.pop.new.self.ok.0, c.in_default.ensures.cases.1)) in
    compiled _ _ _ _ _ _ c.loop-task.invariant c.requires.idle none c.pop-2.new.self c.pop.new.self _ c.in-Some-pop.ensures.items left

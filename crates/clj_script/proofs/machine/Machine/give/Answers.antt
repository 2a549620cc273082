use Rattle.std.proofs.Common.{refl, arith}
use Rattle.clj_script.proofs.BuildLemmas.{gave}
use Rattle.clj_script.proofs.machine.Machine.give.Goals as goal

pub returns : goal.returns
returns c = gave c.args.self.now _ c.args.expr c.in_ok-number.number c.requires.sound c.requires.below c.requires.written (omega arith) c.in_ok-push.ensures.items c.in_ok-push-2.ensures.items refl refl refl refl

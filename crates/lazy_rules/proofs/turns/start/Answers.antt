use Rattle.std.proofs.Common.{refl}
use Rattle.lazy_rules.proofs.Taking.{now_ok, asks_goes}
use Rattle.lazy_rules.specs.Left.{left_seq}
use Rattle.lazy_rules.proofs.turns.start.Goals as goal

pub returns-in-Now : goal.returns-in-Now
returns-in-Now c = now_ok (λ s. left_seq c.args.next s) c.on_seq.result refl (rw c.in-Now.is at c.seek.ensures) c.on_seq.ensures

pub returns-in-Ask : goal.returns-in-Ask
returns-in-Ask c = let q = rw c.in-Ask.is at c.seek.ensures in asks_goes (λ s. left_seq c.args.next s) refl q.0 c.seeks.ensures

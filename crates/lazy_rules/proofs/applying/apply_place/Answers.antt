use Rattle.seq_values.specs.Plain.{plain}
use Rattle.lazy_rules.proofs.Taking.{in_ok}
use Rattle.lazy_rules.proofs.ApplyTurns.{applied_take_while, applied_mapcat, applied_drop_while, applied_sift}
use Rattle.lazy_rules.proofs.applying.apply_place.Goals as goal

pub returns-in-Sift : goal.returns-in-Sift
returns-in-Sift c = rw c.in-Sift.is (in_ok c.sift_place.result (λ n h. applied_sift c.in-Sift.keeps c.args.applying.chunk (plain c.args.applying.function.value) c.args.place n h) c.sift_place.ensures)

pub returns-in-TakeWhile : goal.returns-in-TakeWhile
returns-in-TakeWhile c = rw c.in-TakeWhile.is (in_ok c.call_first.result (λ n h. applied_take_while c.args.applying.chunk (plain c.args.applying.function.value) c.args.place n h) c.call_first.ensures)

pub returns-in-DropWhile : goal.returns-in-DropWhile
returns-in-DropWhile c = rw c.in-DropWhile.is (in_ok c.call_first-in-DropWhile.result (λ n h. applied_drop_while c.args.applying.chunk (plain c.args.applying.function.value) c.args.place n h) c.call_first-in-DropWhile.ensures)

pub returns-in-Mapcat : goal.returns-in-Mapcat
returns-in-Mapcat c = rw c.in-Mapcat.is (in_ok c.call_first-in-Mapcat.result (λ n h. applied_mapcat c.args.applying.chunk (plain c.args.applying.function.value) c.args.place n h) c.call_first-in-Mapcat.ensures)

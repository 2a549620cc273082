use Rattle.std.proofs.Common.{ap, ◌∙◌, arith, w64, pos, ◌-ℤ◌, rules, ◌≡◌}
use Rattle.std.proofs.lemmas.Int.{to_z-of_z}
use Rattle.seq_values.specs.Plain.{plain}
use Rattle.seq_turns.specs.Seen.{rested}
use Rattle.std.proofs.Common.{SFits}
use Rattle.std.proofs.lemmas.Int.{ints}
use Rattle.std.proofs.Common.{to_z, of_z}
use Rattle.lazy_rules.proofs.StepTurns.{step_takes}
use Rattle.lazy_rules.proofs.grouping.parts_step.Goals as goal

pub returns-in_ok-next-in-All : goal.returns-in_ok-next-in-All
returns-in_ok-next-in-All c = let f : SFits w64 c.args.group.size = search rules in let l : SFits w64 c.args.group.left = search rules in let d : to_z w64 (of_z w64 (c.args.group.left -ℤ pos 1)) ≡ c.args.group.left -ℤ pos 1 = omega (arith, ints, l, c.args.group.more) in let e : to_z w64 (of_z w64 (to_z w64 (of_z w64 c.args.group.left) -ℤ pos 1)) ≡ c.args.group.left -ℤ pos 1 = ap (λ z. to_z w64 (of_z w64 (z -ℤ pos 1))) (to_z-of_z w64 c.args.group.left l) ∙ d in step_takes c.args.group c.args.place (plain c.in_ok-split.split.first.value) (rested c.in_ok-split.split.rest) c.in-All.taken (to_z w64 (of_z w64 c.args.group.size)) (to_z w64 (of_z w64 (to_z w64 (of_z w64 c.args.group.left) -ℤ pos 1))) c.in_ok-next-in-All.next c.in_ok-next-in-All.ensures c.in_ok-split.ensures.first c.in_ok-split.ensures.rest (rw c.in-All.is at c.in_ok-grown.ensures) (to_z-of_z w64 c.args.group.size f) e

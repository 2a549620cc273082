use Rattle.std.proofs.Common.{◌≡◌, ap, ◌∙◌, pos, ◌+ℤ◌, true, int_le, SFits, w64, to_z, of_z, to_z-of_z, rules, arith}
use Rattle.std.proofs.lemmas.Int.{ints}
use Rattle.lazy_rows.specs.Walks.{greatest}
use Rattle.walk_rules.proofs.Counts.{count_passes}
use Rattle.walk_rules.proofs.counting.count_step.Goals as goal

pub returns : goal.returns
returns c =
    let fits : SFits w64 (c.args.count +ℤ pos 1) = search (rules, arith) in
    let e : to_z w64 (of_z w64 (c.args.count +ℤ pos 1)) ≡ c.args.count +ℤ pos 1 = to_z-of_z fits in
    let within : SFits w64 c.args.count = search rules in
    let k : to_z w64 (of_z w64 c.args.count) ≡ c.args.count = to_z-of_z within in
    let t : int_le (c.args.count +ℤ pos 1) greatest ≡ true = grind (arith, ints) in
    count_passes c.args.count _ c.args.place c.in_ok-rest.rest c.in_ok-resume.field-0 c.in_ok-rest.ensures c.in_ok-resume.ensures (ap (λ z. to_z w64 (of_z w64 (z +ℤ pos 1))) k ∙ e) t

use Rattle.std.proofs.Common.{◌≡◌, SFits, w64, to_z, of_z, to_z-of_z, rules}
use Rattle.walk_rules.proofs.Places.{nth_passes}
use Rattle.walk_rules.proofs.placing.nth_step.Goals as goal

pub returns : goal.returns
returns c =
    let fits : SFits w64 c.args.left = search rules in
    let e : to_z w64 (of_z w64 c.args.left) ≡ c.args.left = to_z-of_z fits in
    nth_passes c.args.left _ c.args.default c.args.place c.in_ok-rest.rest c.in_ok-resume.field-0 c.in_ok-rest.ensures c.in_ok-resume.ensures e

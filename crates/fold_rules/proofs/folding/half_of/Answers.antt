use Rattle.std.proofs.Common.{◌/◌, ◌∙◌, ap, arith, length, rules, SFits, w64, to_z, of_z}
use Rattle.std.proofs.lemmas.Int.{to_z-of_z}
use Rattle.fold_rules.proofs.Foldings.{le_same, lt_same}
use Rattle.fold_rules.proofs.folding.half_of.Goals as goal

pub returns-in-None : goal.returns-in-None
returns-in-None c =
    let n = c.args.fold.now.size in
    let f : SFits w64 c.args.fold.now.size = search rules in
    let h = rw c.in-None.is at c.split-half.ensures in
    le_same (to_z w64 (of_z w64 n)) n (length c.args.items.now.items) (to_z-of_z w64 n f) (c.group_size.ensures.within (length c.args.items.now.items) (omega (arith, h, c.len.ensures.same)))

pub returns-in-Some : goal.returns-in-Some
returns-in-Some c =
    let n = c.args.fold.now.size in
    let f : SFits w64 c.args.fold.now.size = search rules in
    let h = rw c.in-Some.is at c.split-half.ensures in
    (lt_same (to_z w64 (of_z w64 n)) n (length c.args.items.now.items) (to_z-of_z w64 n f) (c.group_size.ensures.above (length c.args.items.now.items) (omega (arith, c.len.ensures.same, c.len.ensures.bound)) (omega (arith, h.0, c.len.ensures.same))), h.1 ∙ ap (λ k. k / 2) c.len.ensures.same)

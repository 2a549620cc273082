use Rattle.std.proofs.Common.{◌<◌, length, SFits, w64, to_z, of_z, to_z-of_z, ◌∙◌, rules}
use Rattle.core_rows.specs.Arithmetic.{minus}
use Rattle.seq_values.specs.Plain.{plains}
use Rattle.core_fns.proofs.Walking.{first_of_some, minus_many, tells_same}
use Rattle.core_fns.proofs.arithmetic.minus.Goals as goal

pub returns : goal.returns
returns c =
    let n = c.in_ok-first.first in
    let others = c.in_ok-first.others.now in
    let fits : SFits w64 n = search rules in
    let some : 0 < length others = search (rules, c.is_empty.ensures, c.if-is_empty.false) in
    tells_same c.from_left.result _ _ (first_of_some minus (plains c.args.args.now) n (plains others) c.in_ok-first.ensures.some ∙ minus_many n (to_z w64 (of_z w64 n)) others (to_z-of_z fits) some) c.from_left.ensures

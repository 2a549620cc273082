use Rattle.std.proofs.Common.{◌≤◌, length, arith}
use Rattle.walk_rules.proofs.Gathers.{apply_gathers}
use Rattle.walk_rules.proofs.gathering.begin_apply.Goals as goal

pub returns : goal.returns
returns c =
    let some : 2 ≤ length c.args.args.items = omega (arith, c.len.ensures, c.if-len-lt2.false) in
    apply_gathers c.args.args.items c.in_ok-function.function c.in_ok-whole.whole c.in_ok-kept.kept c.in_ok-start.field-0 some c.in_ok-function.ensures (rw c.len-2.ensures at c.in_ok-whole.ensures) c.in_ok-kept.ensures c.in_ok-start.ensures

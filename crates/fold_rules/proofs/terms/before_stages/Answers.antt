use Rattle.std.proofs.Common.{arith, ap, length}
use Rattle.fold_rules.proofs.FoldTerms.{four_gathered, one_more}
use Rattle.fold_rules.proofs.terms.before_stages.Goals as goal

pub and-requires : goal.and-requires
and-requires c = omega (arith, ap length c.none.ensures)

pub and-requires-2 : goal.and-requires-2
and-requires-2 c = omega (arith, one_more _ _ _ 0 c.in_ok-one.ensures.same (ap length c.none.ensures))

pub and-requires-3 : goal.and-requires-3
and-requires-3 c = omega (arith, one_more _ _ _ 1 c.in_ok-two.ensures.same (one_more _ _ _ 0 c.in_ok-one.ensures.same (ap length c.none.ensures)))

pub and-requires-4 : goal.and-requires-4
and-requires-4 c = omega (arith, one_more _ _ _ 2 c.in_ok-three.ensures.same (one_more _ _ _ 1 c.in_ok-two.ensures.same (one_more _ _ _ 0 c.in_ok-one.ensures.same (ap length c.none.ensures))))

pub returns : goal.returns
returns c = four_gathered c.args.items.value c.args.size.value c.args.combine.value c.args.function.value c.none.result.items.items c.in_ok-one.one.items.items c.in_ok-two.two.items.items c.in_ok-three.three.items.items c.in_ok-four.four.items.items c.none.ensures c.in_ok-one.ensures.same c.in_ok-two.ensures.same c.in_ok-three.ensures.same c.in_ok-four.ensures.same

use Rattle.std.proofs.Common.{ap, length, ◌∷◌, [], ◌++◌, ◌∙◌, arith}
use Rattle.seq_values.specs.Plain.{plain, plains}
use Rattle.ahead_rules.proofs.handing.four.Goals as goal

pub and_two-requires : goal.and_two-requires
and_two-requires c = omega (arith, ap length c.none-none.ensures)

pub and_two-requires-2 : goal.and_two-requires-2
and_two-requires-2 c = omega (arith, ap length c.none-none.ensures, c.in_ok-half.ensures.long)

pub returns : goal.returns
returns c = ap plains c.in_ok-list.ensures ∙ c.in_ok-all.ensures.stands ∙ ap (λ l. l ++ plain c.args.third.value ∷ plain c.args.fourth.value ∷ []) (c.in_ok-half.ensures.stands ∙ ap (λ l. l ++ plain c.args.first.value ∷ plain c.args.second.value ∷ []) (ap plains c.none-none.ensures))

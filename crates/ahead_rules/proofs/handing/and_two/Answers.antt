use Rattle.std.proofs.Common.{ap, ◌∙◌, ◌∷◌, [], ◌++◌, arith}
use Rattle.std.proofs.lemmas.List.{append_assoc}
use Rattle.seq_values.specs.Plain.{plain, plains}
use Rattle.ahead_rules.proofs.Sequences.{longer}
use Rattle.ahead_rules.proofs.handing.and_two.Goals as goal

pub and-requires : goal.and-requires
and-requires c = omega (arith, c.requires)

pub and-requires-2 : goal.and-requires-2
and-requires-2 c = omega (arith, c.requires, longer _ _ _ c.in_ok-one.ensures.same)

pub returns-clause-stands : goal.returns-clause-stands
returns-clause-stands c = c.in_ok-all.ensures.stands ∙ ap (λ l. l ++ plain c.args.second.value ∷ []) c.in_ok-one.ensures.stands ∙ append_assoc (plains c.args.before.items.items) (plain c.args.first.value ∷ []) (plain c.args.second.value ∷ [])

pub returns-clause-long : goal.returns-clause-long
returns-clause-long c = omega (arith, longer _ _ _ c.in_ok-one.ensures.same, longer _ _ _ c.in_ok-all.ensures.same)

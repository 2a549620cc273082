use Rattle.std.proofs.Common.{◌∷◌, []}
use Rattle.seq_values.specs.Plain.{plain, plains}
use Rattle.seq_plan.specs.Lists.{items_and}
use Rattle.seq_values.specs.declared.words.Op.TheVariants as O
use Rattle.ahead_rows.specs.Table.{start_each}
use Rattle.ahead_rules.proofs.Moves.{each_begun}
use Rattle.ahead_rules.proofs.calling.rets_chunk.Goals as goal

pub returns : goal.returns
returns c = each_begun (λ zs. start_each (plain c.args.function.value) zs (plains c.args.items.items) (λ ys. items_and ys O.Rets (plain c.args.function.value ∷ plain c.args.rest.value ∷ []))) c.none-none.result.items.items c.in_ok-next.next c.none-none.ensures c.in_ok-next.ensures

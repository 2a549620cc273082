use Rattle.std.proofs.Common.{ap}
use Rattle.seq_values.specs.Model as M
use Rattle.seq_values.specs.WellFormedTerms.{takes}
use Rattle.seq_values.specs.declared.words.Op.TheVariants as O
use Rattle.seq_plan.specs.WellFormed.{sights}
use Rattle.ahead_rules.proofs.Sequences.{some_left}
use Rattle.ahead_rules.proofs.Moves.{rets_call}
use Rattle.ahead_rules.proofs.calling.rets_calls.Goals as goal

pub returns : goal.returns
returns c = rets_call c.args.function c.args.rest c.args.answers.items.items c.args.items.items c.args.at c.taken-chunk.result c.in_ok-called.called.value c.args.first.value c.in_ok-args.args.items c.makes_part.result c.requires.first c.taken-chunk.ensures.answers c.taken-chunk.ensures.items c.taken-chunk.ensures.at c.in_ok-called.ensures c.in_ok-args.ensures.stands c.makes_part.ensures

pub taken-chunk-requires : goal.taken-chunk-requires
taken-chunk-requires c = record { within = c.requires.within; some = some_left c.args.items.items c.args.at c.args.first.value _ c.requires.first }

pub makes_part-requires : goal.makes_part-requires
makes_part-requires c = ap (λ xs. takes O.Call (sights (M.values xs))) c.in_ok-args.ensures.stands

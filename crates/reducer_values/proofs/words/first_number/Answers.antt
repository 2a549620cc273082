use Rattle.std.proofs.Common.{ap, sym, ◌∙◌}
use Rattle.std.specs.Option.{option_copied}
use Rattle.reducer_values.proofs.Reducing.{got_first}
use Rattle.reducer_values.proofs.words.first_number.Goals as goal

pub returns-in-Some-clause-same : goal.returns-in-Some-clause-same
returns-in-Some-clause-same c = c.number_of.ensures.same ∙ got_first c.args.args.now.items c.in-Some.value.now (sym c.get.ensures ∙ ap option_copied c.in-Some.is)

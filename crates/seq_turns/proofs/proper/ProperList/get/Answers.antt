use Rattle.std.proofs.Common.{sym, ap, ◌∙◌}
use Rattle.std.specs.Option.{option_copied}
use Rattle.seq_turns.proofs.Listing.{drop_shared}
use Rattle.seq_turns.proofs.proper.ProperList.get.Goals as goal

pub returns-in_ok-value-in-Some : goal.returns-in_ok-value-in-Some
returns-in_ok-value-in-Some c = drop_shared c.args.self.now.items c.args.at c.in-Some.value.now c.in_ok-value-in-Some.value (sym c.get.ensures ∙ ap option_copied c.in-Some.is) c.in_ok-value-in-Some.ensures

use Rattle.std.proofs.Common.{drop, take}
use Rattle.seq_values.specs.Plain.{plain_term}
use Rattle.fold_rules.proofs.Foldings.{halves_made}
use Rattle.fold_rules.proofs.folding.halves.Goals as goal

pub returns : goal.returns
returns c = halves_made c.args.fold c.in_ok-parts.parts.first.items c.in_ok-parts.parts.second.items (take c.args.half c.args.items.items) (drop c.args.half c.args.items.items) c.args.pending (plain_term c.in_ok-term.term) c.makes.result c.in_ok-parts.ensures.first c.in_ok-parts.ensures.second c.in_ok-term.ensures.stands c.makes.ensures

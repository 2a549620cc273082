use Rattle.seq_values.specs.Plain.{plain}
use Rattle.lazy_rules.proofs.SiftTurns.{items_make}
use Rattle.lazy_rules.proofs.sifting.chunk_done.Goals as goal

pub returns : goal.returns
returns c = items_make c.args.sieve.keeps (plain c.args.sieve.function.value) (plain c.args.sieve.rest.value) c.args.kept.items.items c.in_ok-items.items.items c.in_ok-term.term.term c.op.result c.makes.result c.in_ok-items.ensures c.op.ensures c.in_ok-term.ensures c.makes.ensures

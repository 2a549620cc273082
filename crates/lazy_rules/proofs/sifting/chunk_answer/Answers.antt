use Rattle.seq_values.specs.Plain.{plain, plains}
use Rattle.lazy_rules.proofs.Taking.{ok_same}
use Rattle.lazy_rules.proofs.SiftTurns.{answered}
use Rattle.lazy_rules.proofs.sifting.chunk_answer.Goals as goal

pub returns : goal.returns
returns c = ok_same c.sift_chunk.result (answered c.args.sifting.sieve.keeps (plain c.args.sifting.sieve.function.value) (plains c.args.sifting.kept.items.items) (plains c.in_ok-kept.kept.items.items) c.args.sifting.items.items c.args.sifting.at (plain c.args.sifting.sieve.rest.value) (plain c.args.answer.value) c.args.sifting.within.1 c.in_ok-kept.ensures.stands) c.sift_chunk.ensures

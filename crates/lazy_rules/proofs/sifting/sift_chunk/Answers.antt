use Rattle.std.proofs.Common.{drop}
use Rattle.seq_values.specs.Plain.{plain, plains}
use Rattle.lazy_rules.proofs.Taking.{in_ok}
use Rattle.lazy_rules.proofs.SiftTurns.{chunk_ends}
use Rattle.lazy_rules.proofs.sifting.sift_chunk.Goals as goal

pub returns-in-None : goal.returns-in-None
returns-in-None c = in_ok c.chunk_done.result (λ n h. chunk_ends c.args.sieve.keeps (plain c.args.sieve.function.value) (plains c.args.kept.items.items) (drop c.args.at c.args.items.items) (plain c.args.sieve.rest.value) n (rw c.in-None.is at c.in_ok-element.ensures) h) c.chunk_done.ensures

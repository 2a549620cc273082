use Rattle.clj_script.specs.Arena.{AllBelow}
use Rattle.clj_script.specs.Reads.{numbers_of_pairs}
use Rattle.clj_script.proofs.ReadingLemmas.{there, second_below}
use Rattle.clj_script.proofs.reading.let_reading.Goals as goal

pub returns-in-Some-2-clause-below : goal.returns-in-Some-2-clause-below
returns-in-Some-2-clause-below c = (
  second_below _ c.args.args.now c.requires.below c.in-len2.len_at_least,
  there c.in_ok-pairs.field-0 c.in-Some-2.pairs (λ pairs. AllBelow _ (numbers_of_pairs pairs.items)) c.in-Some-2.is (c.in_ok-pairs.ensures.below _ c.in-Some.ensures.1),
)

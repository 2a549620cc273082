use Rattle.seq_values.specs.Plain.{plain}
use Rattle.ledger_tests.proofs.Ending.{range_ends}
use Rattle.ledger_tests.proofs.tests.one_before_all_others.Goals as goal

pub is_written-requires : goal.is_written-requires
is_written-requires g c = range_ends c.in_ok-book.book (plain c.in_ok-value.value) _ _ _ c.in_ok-value.ensures

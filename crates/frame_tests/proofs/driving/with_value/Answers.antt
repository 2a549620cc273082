use Rattle.std.specs.Prelude.{IsTrue}
use Rattle.std.proofs.Common.{subst, sym}
use Rattle.seq_values.specs.WellFormed.{are_well_formed}
use Rattle.seq_turns.proofs.Listing.{more_well}
use Rattle.frame_tests.proofs.driving.with_value.Goals as goal

pub invariant_of-result : goal.invariant_of-result
invariant_of-result c = record { well = subst (λ xs. IsTrue (are_well_formed xs)) (sym c.in_ok-items.ensures) (more_well c.args.values.now.items c.args.last.value c.args.values.now.well c.args.last.well) }

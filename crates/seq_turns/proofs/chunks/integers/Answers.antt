use Rattle.std.proofs.Common.{sym, ap, ◌∙◌, [], ◌∷◌, ◌++◌}
use Rattle.seq_values.specs.Plain.{plain}
use Rattle.seq_turns.proofs.Listing.{one_longer}
use Rattle.seq_turns.proofs.Spans.{ints_more}
use Rattle.seq_turns.proofs.chunks.integers.Goals as goal

pub loop-done-preserved : goal.loop-done-preserved
loop-done-preserved c = record {
  long = one_longer _ _ _ _ c.loop-done.invariant.long c.in_ok-all-2.ensures.same;
  same = c.in_ok-all-2.ensures.stands ∙ ap (λ xs. xs ++ plain c.nth_integer-one.result.value ∷ []) c.loop-done.invariant.same ∙ sym (ints_more _ c.loop-done.done (plain c.nth_integer-one.result.value) c.nth_integer-one.ensures);
}

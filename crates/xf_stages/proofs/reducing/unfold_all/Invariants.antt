use Rattle.seq_values.specs.Plain.{plain}
use Rattle.xf_stages.specs.Parts.{extent}
use Rattle.xf_stages.proofs.ReduceTurns.{Unfolds}
use Rattle.xf_stages.proofs.reducing.unfold_all.Given as goal

abbrev pub invariant-loop-folded : goal.invariant-loop-folded
invariant-loop-folded l = record { found : Unfolds (plain l.fn.value.value) l.stages.items (plain l.here.value) }

abbrev pub decreases-loop-folded : goal.decreases-loop-folded
decreases-loop-folded l = extent (plain l.here.value)

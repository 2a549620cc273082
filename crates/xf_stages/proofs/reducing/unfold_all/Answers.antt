use Rattle.seq_values.specs.Plain.{plain}
use Rattle.xf_stages.proofs.ReduceTurns.{unfolds_none, unfolds_next, unfolds_end}
use Rattle.xf_stages.proofs.reducing.unfold_all.Goals as goal

pub loop-folded-init : goal.loop-folded-init
loop-folded-init c = record { found = unfolds_none (plain c.args.value.value) c.no_stages-stages.result.items c.no_stages-stages.ensures }

pub returns-in-Bottom : goal.returns-in-Bottom
returns-in-Bottom c = let p = rw c.in-Bottom.is at c.in_ok-folded.ensures in unfolds_end (plain c.args.value.value) (plain c.loop-folded.here.value) (plain c.in-Bottom.bottom.value) c.loop-folded.stages.items c.loop-folded.invariant.found p.0 p.1

pub loop-folded-preserved : goal.loop-folded-preserved
loop-folded-preserved c = record { found = unfolds_next (plain c.args.value.value) (plain c.loop-folded.here.value) (plain c.in-Reducer.collection.value) c.loop-folded.stages.items c.in_ok-more-in-Reducer.more.items c.in-Reducer.stage c.loop-folded.invariant.found (rw c.in-Reducer.is at c.in_ok-folded.ensures) c.in_ok-more-in-Reducer.ensures }

pub loop-folded-smaller : goal.loop-folded-smaller
loop-folded-smaller c = let p = rw c.in-Reducer.is at c.in_ok-folded.ensures in p.smaller

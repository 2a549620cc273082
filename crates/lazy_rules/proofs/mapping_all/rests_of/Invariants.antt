use Rattle.std.proofs.Common.{◌≡◌, ◌+◌, ◌++◌, map, reverse, length}
use Rattle.seq_plan.specs.Nodes.{rest_of}
use Rattle.seq_values.specs.Plain.{plains}
use Rattle.lazy_rules.specs.Left.{seens}
use Rattle.lazy_rules.proofs.mapping_all.rests_of.Given as goal

abbrev pub invariant-loop-what : goal.invariant-loop-what
invariant-loop-what l = record { few : length l.seqs.items + length l.rests.items.items ≡ length l.fn.seqs.items; joined : map rest_of (seens l.seqs.items) ++ reverse (plains l.rests.items.items) ≡ map rest_of (seens l.fn.seqs.items) }

abbrev pub decreases-loop-what : goal.decreases-loop-what
decreases-loop-what l = length l.seqs.items

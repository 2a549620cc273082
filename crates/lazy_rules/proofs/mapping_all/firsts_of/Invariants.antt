use Rattle.std.proofs.Common.{◌≡◌, ◌≤◌, ◌++◌, map, length, drop}
use Rattle.seq_plan.specs.Nodes.{first_of}
use Rattle.seq_values.specs.Plain.{plains}
use Rattle.lazy_rules.specs.Left.{seens}
use Rattle.lazy_rules.proofs.mapping_all.firsts_of.Given as goal

abbrev pub invariant-loop-what : goal.invariant-loop-what
invariant-loop-what l = record { few : length l.firsts.items.items ≤ l.what-index; joined : plains l.firsts.items.items ++ map first_of (seens (drop l.what-index l.seqs)) ≡ map first_of (seens l.seqs) }

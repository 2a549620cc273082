use Rattle.std.proofs.Common.{◌≡◌, drop}
use Rattle.lazy_rules.specs.Arguments.{is_any_nil}
use Rattle.lazy_rules.specs.Left.{seens}
use Rattle.lazy_rules.proofs.mapping_all.is_any_nil.Given as goal

abbrev pub invariant-loop-what : goal.invariant-loop-what
invariant-loop-what l = is_any_nil (seens (drop l.what-index l.seqs)) ≡ is_any_nil (seens l.seqs)

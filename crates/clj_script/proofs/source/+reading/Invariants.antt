use Rattle.std.proofs.Common.{take}
use Rattle.clj_script.specs.Entries.{AreAdded}
use Rattle.clj_script.specs.Sources.{sources_of}
use Rattle.clj_script.proofs.source.+reading.Given as goal

abbrev pub invariant-add_forms-loop-at : goal.invariant-add_forms-loop-at
invariant-add_forms-loop-at l = AreAdded l.fn.sources.items l.sources.items l.numbers.items (sources_of (take l.at l.forms))

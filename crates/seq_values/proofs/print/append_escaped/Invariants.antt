use Rattle.std.proofs.Common.{◌≡◌, ◌++◌, take, flat_map}
use Rattle.seq_values.specs.Text.{escaped}
use Rattle.seq_values.proofs.print.append_escaped.Given as goal

abbrev pub invariant-loop-byte : goal.invariant-loop-byte
invariant-loop-byte l = l.line ≡ l.initial.line ++ flat_map escaped (take l.byte-index l.bytes)

use Rattle.std.proofs.Common.{◌≡◌, ◌+◌, ◌≤◌, drop}
use Rattle.clj_reader.specs.Places.{start, behind_all}
use Rattle.clj_reader.proofs.read.place_behind.Given as goal

abbrev pub invariant-loop-byte : goal.invariant-loop-byte
invariant-loop-byte l = record {
  line : l.place.line ≤ l.byte-index + 1;
  column : l.place.column ≤ l.byte-index + 1;
  rest : behind_all (drop l.byte-index l.bytes) l.place ≡ behind_all l.bytes start;
}

use Rattle.std.proofs.Common.{◌≡◌, ◌≤◌, min, drop}
use Rattle.clj_reader.specs.Spellings.{decimal_from}
use Rattle.clj_reader.proofs.word.magnitude.Given as goal

abbrev pub invariant-loop-digit : goal.invariant-loop-digit
invariant-loop-digit l = record {
  capped : l.value ≤ 9223372036854775809;
  rest : min (decimal_from l.value (drop l.digit-index l.digits)) 9223372036854775809 ≡ min (decimal_from 0 l.digits) 9223372036854775809;
}

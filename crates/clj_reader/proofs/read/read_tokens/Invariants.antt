use Rattle.std.proofs.Common.{◌≡◌, ◌-◌, [], length, reverse}
use Rattle.clj_reader.specs.Tokens.{between, tokens_of}
use Rattle.clj_reader.specs.Cursors.{Fits, tokens_at}
use Rattle.clj_reader.specs.Nests.{assembled}
use Rattle.clj_reader.proofs.read.read_tokens.Given as goal

abbrev pub invariant-loop-nest : goal.invariant-loop-nest
invariant-loop-nest l = record {
  fits : Fits l.bytes l.cursor;
  rest : assembled (reverse l.nest.opened.items) l.nest.forms (tokens_at between l.bytes l.cursor) ≡ assembled [] [] (tokens_of l.bytes);
}

abbrev pub decreases-loop-nest : goal.decreases-loop-nest
decreases-loop-nest l = length l.bytes - l.cursor.at

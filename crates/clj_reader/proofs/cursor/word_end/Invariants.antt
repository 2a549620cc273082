use Rattle.std.proofs.Common.{◌≡◌, ◌≤◌, ◌-◌, length}
use Rattle.clj_reader.specs.Cursors.{Fits, in_word, tokens_at}
use Rattle.clj_reader.proofs.cursor.word_end.Given as goal

abbrev pub invariant-loop-cursor : goal.invariant-loop-cursor
invariant-loop-cursor l = record {
  fits : Fits l.bytes l.cursor;
  later : l.fn.from.at ≤ l.cursor.at;
  same : tokens_at (in_word l.bytes l.fn.start l.fn.from) l.bytes l.fn.from ≡ tokens_at (in_word l.bytes l.fn.start l.cursor) l.bytes l.cursor;
}

abbrev pub decreases-loop-cursor : goal.decreases-loop-cursor
decreases-loop-cursor l = length l.bytes - l.cursor.at

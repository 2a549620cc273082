use Rattle.std.proofs.Common.{◌≡◌, ◌≤◌, ◌-◌, length, []}
use Rattle.clj_reader.specs.Tokens.{text}
use Rattle.clj_reader.specs.Cursors.{Fits, tokens_at}
use Rattle.clj_reader.proofs.scan.content.Given as goal

abbrev pub invariant-loop-cursor : goal.invariant-loop-cursor
invariant-loop-cursor l = record {
  fits : Fits l.bytes l.cursor;
  later : l.fn.from.at ≤ l.cursor.at;
  same : tokens_at (text l.fn.start.place []) l.bytes l.fn.from ≡ tokens_at (text l.fn.start.place l.content.items) l.bytes l.cursor;
}

abbrev pub decreases-loop-cursor : goal.decreases-loop-cursor
decreases-loop-cursor l = length l.bytes - l.cursor.at

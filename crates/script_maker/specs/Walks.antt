-- Where a walk over the lines of a text stands.
use Rattle.std.specs.Prelude.{◌≡◌, ℕ, ◌+◌, ◌≤◌, List, ◌∷◌, length, drop, slice_range}
use Rattle.seq_table.specs.Answers.{last_of, lines_after, lines_of}
use Rattle.script_maker.specs.declared.report.Walk.{Walk}

-- A walk that has passed the first `at` bytes of a text: its lines and those of the rest are the lines of the text, and where no more line ends, its last line is the text's last one.
pub record IsAt (text : List ℕ) (at : ℕ) (walk : Walk) : Type 0 where
  pub few : walk.count ≤ at
  pub ordered : walk.start ≤ walk.end
  pub within : walk.end ≤ at
  pub last : last_of (slice_range text walk.start walk.end ∷ lines_after (slice_range text walk.end at) (drop at text)) ≡ last_of (lines_of text)
  pub counted : walk.count + length (lines_after (slice_range text walk.end at) (drop at text)) ≡ length (lines_of text)

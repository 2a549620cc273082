-- Which bytes are a script, with which forms, and what all others are refused for.
use Rattle.std.specs.Prelude.{◌≡◌, ℕ, ◌<◌, ◌≤◌, List, [], length, take, Some, Result, Ok, Err}
use Rattle.std.specs.Str.{IsUtf8}
use Rattle.std.specs.Str.Lossy.{utf8_valid_len}
use Rattle.clj_reader.specs.declared.form.Form.{Form}
use Rattle.clj_reader.specs.declared.refusal.ReadRefusal.{ReadRefusal}
use Rattle.clj_reader.specs.declared.refusal.ReadFormsStop.{ReadFormsStop}
use Rattle.clj_reader.specs.declared.refusal.ReadFormsStop.TheVariants.{Refused, Memory}
use Rattle.clj_reader.specs.Places.{start, behind_all}
use Rattle.clj_reader.specs.Pieces.{Piece, Spells, pieces_tokens}
use Rattle.clj_reader.specs.Refusals.{refusal, first_refusal}
use Rattle.clj_reader.specs.Marks.{marks, marks_of_tokens}
use Rattle.clj_reader.specs.Nesting.{nesting}

-- Bytes are the script of forms: they are UTF-8, and pieces end to end whose tokens are those that the forms are
-- written as. They are 1,048,576 at most, and no bracket is nested deeper than 200.
pub record IsScript (bytes : List ℕ) (forms : List Form) : Type 0 where
  pub short : length bytes ≤ 1048576
  pub utf8 : IsUtf8 bytes
  pub pieces : List Piece
  pub spelled : Spells pieces bytes
  pub written : marks_of_tokens (pieces_tokens start pieces) ≡ marks forms
  pub shallow : nesting forms ≤ 200

-- Bytes are refused: too many of them at the start; else those that aren't UTF-8 behind their longest front that is;
-- else by the first refusal among the tokens of their pieces.
pub data IsRefused (bytes : List ℕ) (r : ReadRefusal) : Type 0 where
  too_long : 1048576 < length bytes → r ≡ refusal 6 start → IsRefused bytes r
  not_utf8 : length bytes ≤ 1048576 → ¬ (IsUtf8 bytes) → r ≡ refusal 1 (behind_all (take (utf8_valid_len bytes) bytes) start) → IsRefused bytes r
  at_token : length bytes ≤ 1048576 → IsUtf8 bytes → (pieces : List Piece) → Spells pieces bytes → first_refusal [] (pieces_tokens start pieces) ≡ Some r → IsRefused bytes r

-- an answer to bytes, where want of memory is free
abbrev pub IsAnswer : List ℕ → Result (List Form) ReadFormsStop → Type 0
IsAnswer bytes (Ok forms) = IsScript bytes forms
IsAnswer bytes (Err (Refused r)) = IsRefused bytes r
IsAnswer bytes (Err Memory) = Unit {0}

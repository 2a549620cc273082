-- The line of a refused script, and what of a line was written.
use Rattle.std.specs.Prelude.{ℕ, List, ◌++◌, codes, take}
use Rattle.std.specs.declared.option.Option.{Option}
use Rattle.std.specs.Fmt.{decimal}
use Rattle.std.specs.Io.KnownBytes.{Appends}
use Rattle.clj_reader.specs.declared.place.Place.{Place}

-- the line of a refusal: its number, and the line and column of its place
abbrev pub refusal_line : ℕ → Place → List ℕ
refusal_line number place = codes "refused " ++ decimal number ++ codes " " ++ decimal place.line ++ codes ":" ++ decimal place.column ++ codes "\n"

-- a prefix of the bytes was appended, which may be nothing
abbrev pub AppendsPart : Option (List ℕ) → Option (List ℕ) → List ℕ → Type 0
AppendsPart old new bytes = (count : ℕ) × Appends old new (take count bytes)

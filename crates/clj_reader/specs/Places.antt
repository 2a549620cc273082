-- Lines and columns of a text. Both count from 1, and columns count characters.
use Rattle.std.specs.Prelude.{ℕ, ◌+◌, ◌==◌, Bool, ◌&&◌, nat_le, nat_lt, List, [], ◌∷◌, if◌then◌else◌}
use Rattle.clj_reader.specs.declared.place.Place.{Place}

-- where a text begins
abbrev pub start : Place
start = record { line = 1; column = 1 }

-- a byte of UTF-8 that goes on with a character, and begins none
abbrev pub continues : ℕ → Bool
continues b = nat_le 128 b && nat_lt b 192

-- the place behind a byte: a newline ends its line, and every other character takes a column
unfoldable pub behind : ℕ → Place → Place
behind b p = if b == 10 then record { line = p.line + 1; column = 1 }
    else (if continues b then p else record { line = p.line; column = p.column + 1 })

-- the place behind bytes that begin at a place
abbrev pub behind_all : List ℕ → Place → Place
behind_all [] p = p
behind_all (b ∷ bs) p = behind_all bs (behind b p)

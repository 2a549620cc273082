-- Where a work stands.
use Rattle.std.specs.Prelude.{◌≡◌, ℕ}
use Rattle.seq_values.specs.declared.term.Term.{Term}
use Rattle.seq_values.specs.declared.words.Kind.{Kind}
use Rattle.cell_book.specs.declared.work.Place.{Place}
use Rattle.cell_book.specs.declared.work.Place.TheVariants as P

-- a work is on the part with this number
abbrev pub IsOn : ℕ → Place → Type 0
IsOn id x = (kind : Kind) × (term : Term) × (x ≡ P.Part id kind term)

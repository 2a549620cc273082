-- A law: each value in the book is 7.
use Rattle.std.specs.Prelude.{◌≡◌, ℕ, Option, Some, pos}
use Rattle.seq_values.specs.declared.value.Value.{Value}
use Rattle.seq_values.specs.declared.value.Value.TheVariants.{Int}
use Rattle.cell_book.specs.declared.cell.State.TheVariants.{Empty, Done}
use Rattle.cell_book.specs.declared.cell.Cell.{Cell}
use Rattle.seq_values.specs.declared.term.Term.{Term}
use Rattle.seq_values.specs.declared.words.Kind.{Kind}
use Rattle.seq_values.specs.declared.words.Kind.TheVariants.{Future}
use Rattle.cell_book.specs.declared.work.Place.{Place}
use Rattle.cell_book.specs.declared.work.Place.TheVariants as P
use Rattle.cell_book.specs.Account.{Account, Duty, numbered}

abbrev pub IsSevens : Account → Type 0
IsSevens a = (id : ℕ) (p : Cell) (v : Value) → numbered a.cells id ≡ Some p → p.state ≡ Done v → v ≡ Int (pos 7)

-- a work is on the part with this number
abbrev pub IsOn : ℕ → Place → Type 0
IsOn id x = (kind : Kind) × (term : Term) × (x ≡ P.Part id kind term)

-- it is an empty part of this kind, made by the work
abbrev pub IsNew : Duty → Kind → Option Cell → Type 0
IsNew by kind seen = (p : Cell) × (seen ≡ Some p) × (p.kind ≡ kind) × (p.maker ≡ by.claim) × (p.state ≡ Empty)

-- it is an empty future
abbrev pub IsWaiting : Option Cell → Type 0
IsWaiting seen = (p : Cell) × (seen ≡ Some p) × (p.kind ≡ Future) × (p.state ≡ Empty)

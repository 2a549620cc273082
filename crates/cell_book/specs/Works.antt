-- What the readers of a work answer.
use Rattle.std.specs.Prelude.{ℕ, Option, Some, None}
use Rattle.seq_values.specs.declared.term.Term.{Term}
use Rattle.seq_values.specs.declared.words.Kind.{Kind}
use Rattle.cell_book.specs.declared.work.Place.{Place}
use Rattle.cell_book.specs.declared.work.Place.TheVariants as P

-- the number of the part that a work is on
abbrev pub cell_of : Place → Option ℕ
cell_of (P.Form number at) = None
cell_of (P.Part id kind term) = Some id

abbrev pub kind_of : Place → Option Kind
kind_of (P.Form number at) = None
kind_of (P.Part id kind term) = Some kind

abbrev pub term_of : Place → Option Term
term_of (P.Form number at) = None
term_of (P.Part id kind term) = Some term

-- the number of the form that a work is on
abbrev pub form_of : Place → Option ℕ
form_of (P.Form number at) = Some number
form_of (P.Part id kind term) = None

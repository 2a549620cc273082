-- What the tests rest on: a work stays open until it is ended.
use Rattle.std.proofs.Common.{◌≡◌, [], Ok, ℕ}
use Rattle.seq_values.specs.declared.term.Term.{Term}
use Rattle.seq_values.specs.declared.words.Kind.{Kind}
use Rattle.cell_book.specs.Account.{Account, Duty}
use Rattle.cell_book.specs.Steps.{Begins, Makes, MakeAnswer, IsOpenIn}
use Rattle.cell_book.specs.Glimpses.{glimpse}
use Rattle.cell_book.proofs.Stepping.{begun_open}
use Rattle.cell_book.proofs.Moves.{makes_holds}
use Rattle.cell_book.proofs.Onwards.{open_onward}
use Rattle.cell_client.specs.Sevens.{IsSevens}
use Rattle.cell_client.proofs.Keeping.{sevens_new}

pub begun_is_open : (a b : Account) (number : ℕ) (w : Duty) → Begins a number (Ok w) b → IsOpenIn b w
begun_is_open a b number w h = begun_open a b number w h

pub made_is_open : (a b : Account) (by : Duty) (t : Term) (k : Kind) (answer : MakeAnswer) → IsOpenIn a by → Makes a by t k answer b → IsOpenIn b by
made_is_open a b by t k answer o h = open_onward by (glimpse a) (glimpse b) (makes_holds a b by t k answer by.claim h) o

-- a book without cells meets the law of the client
pub sevens_at_first : (a : Account) → a.cells ≡ [] → IsSevens a
sevens_at_first a e = sevens_new a e

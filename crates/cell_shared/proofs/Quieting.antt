-- What a look at the whole book finds, from what each of the book's readers tells.
use Rattle.std.proofs.Common.{◌≡◌, ℕ, Some, None, ap, ◌∙◌}
use Rattle.cell_book.specs.declared.answers.Totals.{Totals}
use Rattle.cell_book.specs.Account.{Account}
use Rattle.cell_book.specs.Counts.{totals_of}
use Rattle.cell_book.specs.Readers.{IsLowestOpen}
use Rattle.cell_book.specs.Steps.{FindsFuture}
use Rattle.cell_shared.specs.Quieting.{Finds, IsUnnoted}
use Rattle.cell_shared.specs.declared.quiet.Quiet.TheVariants as Q

pub finds_claim : (a : Account) (c : ℕ) → IsUnnoted a → IsLowestOpen a (Some c) → Finds a (Q.Claimed c)
finds_claim a c u l = (u, l.0, l.1)

pub finds_future : (a b : Account) (id : ℕ) → IsUnnoted a → IsLowestOpen a None → FindsFuture a (Some id) b → Finds a (Q.OpenFuture id)
finds_future a b id u idle f = (u, idle, f.1, f.2)

pub finds_totals : (a b : Account) (t : Totals) → IsUnnoted a → IsLowestOpen a None → FindsFuture a None b → t ≡ totals_of b.cells → Finds a (Q.Totals t)
finds_totals a b t u idle f e = (u, record { idle = idle; futures = f.1 }, e ∙ ap (λ (x : Account). totals_of x.cells) f.0)

use Rattle.std.proofs.Common.{subst}
use Rattle.cell_book.specs.Account.{Account}
use Rattle.cell_book.specs.Steps.{FindsFuture}
use Rattle.cell_book.proofs.Counting.{finds}
use Rattle.cell_book.proofs.book.Book.open_future.Goals as goal

pub returns : goal.returns
returns c =
    let a : Account = record { limit = c.self.inside.limit; cells = c.self.inside.cells.items; forms = c.self.inside.forms.items; spent = c.self.inside.spent; gave_up = c.self.inside.gave_up } in
    subst (λ (z : Account). FindsFuture z c.id_at.result a) c.self.view_is (finds a c.future_from-at.result c.id_at.result c.future_from-at.ensures.past c.future_from-at.ensures.found c.id_at.ensures.there c.id_at.ensures.past)

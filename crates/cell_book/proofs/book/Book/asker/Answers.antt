use Rattle.std.proofs.Common.{None, sym, subst, ◌∙◌}
use Rattle.cell_book.specs.Account.{Account}
use Rattle.cell_book.specs.Readers.{IsAskerOf}
use Rattle.cell_book.proofs.Finding.{none_asks}
use Rattle.cell_book.proofs.book.Book.asker.Goals as goal

pub returns-in-None : goal.returns-in-None
returns-in-None c =
    let a : Account = record { limit = c.self.inside.limit; cells = c.self.inside.cells.items; forms = c.self.inside.forms.items; spent = c.self.inside.spent; gave_up = c.self.inside.gave_up } in
    subst (λ (z : Account). IsAskerOf z c.args.claim None) c.self.view_is (none_asks a c.self.inside.claims c.args.claim c.self.invariant.kept.fresh (sym c.spot.ensures ∙ c.in-None.is))

use Rattle.std.proofs.Common.{subst}
use Rattle.std.specs.Prelude.{option_copied}
use Rattle.cell_book.specs.Account.{Account}
use Rattle.cell_book.specs.Readers.{IsFormValue}
use Rattle.cell_book.proofs.Finding.{value_found}
use Rattle.cell_book.proofs.book.Book.form_value.Goals as goal

pub returns : goal.returns
returns c =
    let a : Account = record { limit = c.self.inside.limit; cells = c.self.inside.cells.items; forms = c.self.inside.forms.items; spent = c.self.inside.spent; gave_up = c.self.inside.gave_up } in
    subst (λ (z : Account). IsFormValue z c.args.form (option_copied c.value_of.result)) c.self.view_is (value_found a c.args.form (option_copied c.find_form.result) (option_copied c.value_of.result) c.find_form.ensures c.value_of.ensures)

use Rattle.cell_book.proofs.Stepping.{begins_new}
use Rattle.cell_book.proofs.plain.PlainCellsCells.begin_form.Goals as goal

pub returns-clause-fresh : goal.returns-clause-fresh
returns-clause-fresh c = begins_new c.args.self.now.book.now c.begin_form.new.self c.args.form c.begin_form.result c.begin_form.ensures

use Rattle.cell_book.proofs.Wholes.{noted_whole}
use Rattle.cell_book.proofs.book.Book.give_up.Goals as goal

pub invariant_of-self : goal.invariant_of-self
invariant_of-self c = noted_whole _ _ _ _ _ _ _ _ _ _ c.self.invariant

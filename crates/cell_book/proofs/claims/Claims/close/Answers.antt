use Rattle.std.proofs.Common.{List, sym, ◌∙◌, subst}
use Rattle.cell_book.specs.declared.claims.Entry.{Entry}
use Rattle.cell_book.specs.Registers.{EndedBefore}
use Rattle.cell_book.proofs.Registering.{closed_before}
use Rattle.cell_book.proofs.claims.Claims.close.Goals as goal

pub first_open-self-inside-requires-clause-before : goal.first_open-self-inside-requires-clause-before
first_open-self-inside-requires-clause-before c =
    subst (λ (l : List Entry). EndedBefore l c.self.inside.lowest) (sym (c.as_slice.ensures.value ∙ c.end_entry.ensures)) (closed_before c.args.claim c.self.inside.entries.items c.self.inside.lowest c.self.invariant)

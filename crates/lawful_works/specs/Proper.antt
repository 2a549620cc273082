-- What a book holds is well formed: the terms of its parts, the values of forms that they keep, and what was given.
use Rattle.std.specs.Prelude.{◌≡◌, ℕ, Some, slice_get, IsTrue}
use Rattle.seq_values.specs.declared.value.Value.{Value}
use Rattle.seq_values.specs.WellFormed.{is_well_formed, are_well_formed}
use Rattle.seq_values.specs.WellFormedTerms.{is_well_formed_term}
use Rattle.cell_book.specs.declared.cell.State.TheVariants as S
use Rattle.cell_book.specs.declared.cell.Cell.{Cell}
use Rattle.cell_book.specs.declared.cell.Form.{Form}
use Rattle.cell_book.specs.Account.{Account, cell_at}

pub record IsProper (a : Account) : Type 0 where
  pub terms : (id : ℕ) (p : Cell) → cell_at a id ≡ Some p → IsTrue (is_well_formed_term p.term)
  pub kept : (id : ℕ) (p : Cell) → cell_at a id ≡ Some p → IsTrue (are_well_formed p.outcomes)
  pub done : (id : ℕ) (p : Cell) (v : Value) → cell_at a id ≡ Some p → p.state ≡ S.Done v → IsTrue (is_well_formed v)
  pub given : (k : ℕ) (f : Form) (v : Value) → slice_get a.forms k ≡ Some f → f.value ≡ Some v → IsTrue (is_well_formed v)

use Rattle.std.proofs.Common.{◌≡◌, ◌≢◌, ◌<◌, ◌≤◌, ◌-◌, ℕ, Some, length}
use Rattle.std.specs.Prelude.{slice_get}
use Rattle.cell_book.specs.declared.cell.Form.{Form}
use Rattle.cell_book.proofs.readers.first_numbered.Given as goal

abbrev pub invariant-loop-at : goal.invariant-loop-at
invariant-loop-at l = (l.at ≤ length l.forms.items) × ((k : ℕ) (f : Form) → k < l.at → slice_get l.forms.items k ≡ Some f → f.number ≢ l.number)

abbrev pub decreases-loop-at : goal.decreases-loop-at
decreases-loop-at l = length l.forms.items - l.at

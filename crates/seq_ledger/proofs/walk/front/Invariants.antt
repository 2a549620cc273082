use Rattle.std.proofs.Common.{◌≡◌, ℕ, ◌+◌, ◌*◌, ◌≤◌, ◌<◌, ◌^◌, Bool, true}
use Rattle.seq_values.specs.Plain.{plain}
use Rattle.cell_book.specs.Account.{Account}
use Rattle.seq_ledger.specs.Walks.{FrontIn, steps}
use Rattle.seq_ledger.proofs.walk.front.Given as goal

-- So many elements were passed, the rest of the walk is short enough, and its front is what is left of the value's front.
abbrev pub invariant-loop-taken : goal.invariant-loop-taken
invariant-loop-taken g l =
    let C = g.C.Cells in
    record {
      ready : C.ready l.cells;
      leads : C.leads l.cells ≡ true;
      noted : (a : Account) → C.noted l.initial.cells a → C.noted l.cells a;
      held : (c : ℕ) → C.held l.cells c ≡ C.held l.initial.cells c;
      same : C.same l.initial.cells l.cells;
      within : l.count ≤ l._taken * 2 ^ 32;
      passed : (a : Account) → C.noted l.initial.cells a → (n : ℕ) (ended : Bool) → FrontIn a (plain l.at) n ended → FrontIn a (plain l.value) (l.count + n) ended;
      left : (a : Account) × C.noted l.initial.cells a × (n : ℕ) × (ended : Bool) × (walk : FrontIn a (plain l.at) n ended) × (steps walk + l._taken < 2 ^ 64);
    }

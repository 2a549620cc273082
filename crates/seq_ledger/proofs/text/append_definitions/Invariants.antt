use Rattle.std.proofs.Common.{◌≡◌, ℕ, ◌≤◌, true}
use Rattle.cell_book.specs.Account.{Account}
use Rattle.clj_script.specs.Seen.{seen}
use Rattle.seq_values.specs.Plain.{plains}
use Rattle.seq_ledger.proofs.Lines.{SoFar}
use Rattle.seq_ledger.proofs.text.append_definitions.Given as goal

abbrev pub invariant-loop-before : goal.invariant-loop-before
invariant-loop-before g l =
    let C = g.C.Cells in
    record {
      ready : C.ready l.cells;
      leads : C.leads l.cells ≡ true;
      noted : (a : Account) → C.noted l.initial.cells a → C.noted l.cells a;
      held : (c : ℕ) → C.held l.cells c ≡ C.held l.initial.cells c;
      same : C.same l.initial.cells l.cells;
      few : l.done ≤ l.before;
      lines : (a : Account) → C.noted l.initial.cells a → SoFar a (seen l.program).names (seen l.program).tops (plains l.defined) l.initial.line l.line l.before l.done;
    }

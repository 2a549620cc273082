use Rattle.cell_book.specs.Glimpses.{Owns, LawIs}
use Rattle.cell_client.specs.Sevens.{IsSevens}
use Rattle.cell_client.proofs.fill.Given as goal

abbrev pub invariant-loop : goal.invariant-loop
invariant-loop g l =
    let C = g.C.Cells in record { ready : C.ready l.cells; own : Owns (C.held l.cells) (C.seen l.cells) l.by; law : LawIs (C.alone l.cells) (C.law l.cells) (C.noted l.cells) IsSevens; same : C.same l.initial.cells l.cells }

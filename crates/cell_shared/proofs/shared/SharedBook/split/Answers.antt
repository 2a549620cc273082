use Rattle.std.proofs.Common.{arith, sym, ap, ◌∙◌}
use Rattle.cell_shared.specs.Known.{Known, Ruled}
use Rattle.cell_shared.proofs.Turning.{splits_turn}
use Rattle.cell_shared.proofs.shared.SharedBook.split.Goals as goal

pub split_seat-chair-requires : goal.split_seat-chair-requires
split_seat-chair-requires g c =
    let p = c.pass.inside.chair in (
      ap (λ (x : Known). x.table) c.pass.view_is ∙ c.requires.table ∙ sym (ap (λ (x : Ruled g.row.L.Denot). x.table) c.self.view_is),
      (let w = c.self.invariant in omega arith),
      splits_turn (g.L.CellLaw.keeps c.self.inside.table.shared.key.law) p.id p.me.0 c.pass.invariant.2,
    )

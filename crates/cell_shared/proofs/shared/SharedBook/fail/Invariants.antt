use Rattle.cell_shared.specs.Known.{after}
use Rattle.cell_shared.proofs.shared.SharedBook.fail.Given as goal

abbrev pub ghosts-take : goal.ghosts-take
ghosts-take g a = record { meets = g.L.CellLaw.keeps a.desk.now.key.law }

abbrev pub ghosts-release : goal.ghosts-release
ghosts-release g a = record { claims = after a.change a.chair.now.me.0.claims }

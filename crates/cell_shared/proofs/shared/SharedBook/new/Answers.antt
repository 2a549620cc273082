use Rattle.std.proofs.Common.{◌≡◌, [], ◌∷◌, List, Option, Some, true, sym, ap, ◌∙◌, subst}
use Rattle.atomic_table.specs.Table.{opening}
use Rattle.cell_book.specs.Account.{Account}
use Rattle.cell_shared.specs.Growing.{fresh}
use Rattle.cell_shared.specs.Turning.{Kept, resting}
use Rattle.cell_shared.proofs.Turning.{starts}
use Rattle.cell_shared.proofs.shared.SharedBook.new.Goals as goal

pub new-requires-2 : goal.new-requires-2
new-requires-2 g c =
    let first : Account = fresh c.args.cells in
    let e : c.in-Ok.slots.items ≡ Some first ∷ [] = c.in-Ok.ensures ∙ ap (λ (b : Account). Some b ∷ []) c.in_ok-book.ensures in
    subst (λ (l : List (Option Account)). Kept (g.L.CellLaw.keeps c.args.law) (opening (0 ∷ []) l (resting true first [] 0))) (sym e) (starts (g.L.CellLaw.keeps c.args.law) c.args.cells c.requires.law)

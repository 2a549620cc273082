use Rattle.std.proofs.Common.{◌≡◌, ℕ, [], ◌∷◌, List, Option, Some, refl, sym, ap, ◌∙◌, subst, arith}
use Rattle.atomic_table.specs.Table.{rest, Allows, step}
use mathlib.Core.Option.{none}
use Rattle.cell_book.specs.Account.{Account}
use Rattle.cell_shared.specs.Growing.{counted, Turns}
use Rattle.cell_shared.specs.Turning.{Sat, Kept, releases}
use Rattle.cell_shared.proofs.Turning.{releases_turn}
use Rattle.cell_shared.proofs.desk.release.Goals as goal

pub store-requires : goal.store-requires
store-requires g c =
    let law : Account → Type 0 = g.L.CellLaw.keeps c.args.desk.now.key.law in
    let t = c.requires.turn in
    let me : Sat = (c.args.chair.now.me.0, (0, Some c.args.book) ∷ []) in
    let e : c.exchange.new.seat.me ≡ me = c.exchange.ensures.3 ∙ ap (λ (l : List (ℕ × Option Account)). let m : Sat = (c.args.chair.now.me.0, (0, Some c.args.book) ∷ rest l) in m) t.3 in (
      c.exchange.ensures.0 ∙ c.requires.table.0,
      (let w = c.requires.table.1 in omega arith),
      subst (λ (m : Sat). Allows (Kept law) c.args.desk.now.table_id.slots c.exchange.new.seat.id m 0 (λ _. 0) (λ _. releases g.E.Leaves.claims (step c.args.desk.now.table_id.slots 0 0 0 none) m 0)) (sym e)
          (releases_turn law g.E.Leaves.claims c.args.desk.now.table_id.slots c.exchange.new.seat.id me t.0 c.args.book t.1 t.2 refl t.4 (subst (λ (l : List ℕ). Turns c.args.chair.now.me.0.leads (counted c.args.chair.now.me.0.claims) t.0 c.args.book (counted l)) (sym c.requires.leaves) t.5)),
    )

use Rattle.std.proofs.Common.{◌≡◌, ℕ, ◌∷◌, List, Option, Some, sym, ap, ◌∙◌, arith}
use Rattle.atomic_table.specs.Table.{rest}
use Rattle.cell_book.specs.Account.{Account}
use Rattle.cell_shared.specs.Turning.{Sat}
use Rattle.cell_shared.proofs.Turning.{takes_turn}
use Rattle.cell_shared.proofs.desk.take.Goals as goal

pub compare_exchange-requires : goal.compare_exchange-requires
compare_exchange-requires g c = (
  c.loop.invariant.0 ∙ c.requires.table.0,
  (let w = c.requires.table.1 in omega arith),
  takes_turn (g.L.CellLaw.keeps c.args.desk.now.key.law) g.M.Meets.meets c.requires.law c.args.desk.now.table_id.slots c.loop.chair.id c.loop.chair.me (ap (λ (m : Sat). m.0.gone) c.loop.invariant.2 ∙ c.requires.rest.1),
)

pub exchange-slot-requires : goal.exchange-slot-requires
exchange-slot-requires g c =
    let h = c.compare_exchange.ensures.2.0 c.if-compare_exchange-eq0.true in
    let e : c.compare_exchange.new.seat.me.1 ≡ (0, Some h.0) ∷ c.loop.chair.me.1 = ap (λ (m : Sat). m.1) h.1 in (
      c.compare_exchange.ensures.0 ∙ c.loop.invariant.0 ∙ c.requires.table.0,
      (Some h.0, e ∙ ap (λ (l : List (ℕ × Option Account)). (0, Some h.0) ∷ l) (sym (ap rest e))),
    )

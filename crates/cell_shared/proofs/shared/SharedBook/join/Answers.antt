use Rattle.std.proofs.Common.{◌≡◌, ℕ, ◌<◌, ◌⊎◌, arith, sym, ap, ◌∙◌, subst}
use Rattle.cell_book.specs.Account.{Account}
use Rattle.cell_book.specs.Glimpses.{glimpse, Onward}
use Rattle.cell_shared.specs.Growing.{times, counted, Grows}
use Rattle.cell_shared.specs.Known.{Known, Ruled}
use Rattle.cell_shared.specs.Turning.{Sat, both}
use Rattle.cell_shared.proofs.Turning.{joins_turn, settles_turn, longer}
use Rattle.cell_shared.proofs.shared.SharedBook.join.Goals as goal

pub join_seat-requires : goal.join_seat-requires
join_seat-requires g c =
    let p = c.pass.inside.chair in
    let q = c.other.inside.chair in
    let t = sym (ap (λ (x : Ruled g.row.L.Denot). x.table) c.self.view_is) in (
      ap (λ (x : Known). x.table) c.pass.view_is ∙ c.requires.table.0 ∙ t,
      ap (λ (x : Known). x.table) c.other.view_is ∙ c.requires.table.1 ∙ t,
      c.other.invariant.0,
      (let w = c.self.invariant in omega arith),
      joins_turn (g.L.CellLaw.keeps c.self.inside.table.shared.key.law) p.id p.me.0 q.id q.me.0 c.pass.invariant.1 c.other.invariant.1 c.pass.invariant.2 c.other.invariant.2,
    )

pub load-requires : goal.load-requires
load-requires g c =
    let p = c.pass.inside.chair in
    let q = c.other.inside.chair in
    let e = c.join_seat.ensures.2 in
    let n = c.join_seat.new.seat in (
      c.join_seat.ensures.0 ∙ ap (λ (x : Known). x.table) c.pass.view_is ∙ c.requires.table.0 ∙ sym (ap (λ (x : Ruled g.row.L.Denot). x.table) c.self.view_is),
      (let w = c.self.invariant in omega arith),
      settles_turn (g.L.CellLaw.keeps c.self.inside.table.shared.key.law) c.self.inside.table.shared.table_id.slots n.id n.me (ap (λ (m : Sat). m.0.noted) e ∙ c.pass.invariant.1) (ap (λ (m : Sat). m.0.gone) e ∙ c.pass.invariant.2),
    )

pub returns-clause-seen : goal.returns-clause-seen
returns-clause-seen g c =
    let v = c.pass.inside.chair.me.0 in
    let w = c.other.inside.chair.me.0 in
    let e = c.join_seat.ensures.2 in
    let told = subst (λ (m : Sat). Grows m.0.other m.0.seen × ((c : ℕ) → 0 < times c m.0.other_claims → Onward c (glimpse m.0.other) (glimpse m.0.seen))) e (c.load.ensures.2.0, c.load.ensures.2.1) in
    let l = longer v w told in
    let last : c.load.new.seat.me.0.seen ≡ (both v w).seen = ap (λ (m : Sat). m.0.seen) c.load.ensures.2.2 ∙ ap (λ (m : Sat). m.0.seen) e in
    subst (λ (x : Known × Known × Account). (x.2 ≡ x.0.seen) ⊎ (x.2 ≡ x.1.seen)) (λ i. (c.pass.view_is i, c.other.view_is i, sym last i)) l.one

pub returns-clause-grown : goal.returns-clause-grown
returns-clause-grown g c =
    let v = c.pass.inside.chair.me.0 in
    let w = c.other.inside.chair.me.0 in
    let e = c.join_seat.ensures.2 in
    let told = subst (λ (m : Sat). Grows m.0.other m.0.seen × ((c : ℕ) → 0 < times c m.0.other_claims → Onward c (glimpse m.0.other) (glimpse m.0.seen))) e (c.load.ensures.2.0, c.load.ensures.2.1) in
    let l = longer v w told in
    let last : c.load.new.seat.me.0.seen ≡ (both v w).seen = ap (λ (m : Sat). m.0.seen) c.load.ensures.2.2 ∙ ap (λ (m : Sat). m.0.seen) e in
    subst (λ (x : Known × Known × Account). Grows x.0.seen x.2 × Grows x.1.seen x.2) (λ i. (c.pass.view_is i, c.other.view_is i, sym last i)) (l.first, l.second)

pub returns-clause-own : goal.returns-clause-own
returns-clause-own g c =
    let v = c.pass.inside.chair.me.0 in
    let w = c.other.inside.chair.me.0 in
    let e = c.join_seat.ensures.2 in
    let told = subst (λ (m : Sat). Grows m.0.other m.0.seen × ((c : ℕ) → 0 < times c m.0.other_claims → Onward c (glimpse m.0.other) (glimpse m.0.seen))) e (c.load.ensures.2.0, c.load.ensures.2.1) in
    let l = longer v w told in
    let last : c.load.new.seat.me.0.seen ≡ (both v w).seen = ap (λ (m : Sat). m.0.seen) c.load.ensures.2.2 ∙ ap (λ (m : Sat). m.0.seen) e in
    subst (λ (x : Known × Known × Account). (c : ℕ) → 0 < counted x.0.claims c → Onward c (glimpse x.0.seen) (glimpse x.2)) (λ i. (c.pass.view_is i, c.other.view_is i, sym last i)) l.own

pub returns-clause-others : goal.returns-clause-others
returns-clause-others g c =
    let v = c.pass.inside.chair.me.0 in
    let w = c.other.inside.chair.me.0 in
    let e = c.join_seat.ensures.2 in
    let told = subst (λ (m : Sat). Grows m.0.other m.0.seen × ((c : ℕ) → 0 < times c m.0.other_claims → Onward c (glimpse m.0.other) (glimpse m.0.seen))) e (c.load.ensures.2.0, c.load.ensures.2.1) in
    let l = longer v w told in
    let last : c.load.new.seat.me.0.seen ≡ (both v w).seen = ap (λ (m : Sat). m.0.seen) c.load.ensures.2.2 ∙ ap (λ (m : Sat). m.0.seen) e in
    subst (λ (x : Known × Known × Account). (c : ℕ) → 0 < counted x.1.claims c → Onward c (glimpse x.1.seen) (glimpse x.2)) (λ i. (c.pass.view_is i, c.other.view_is i, sym last i)) l.others

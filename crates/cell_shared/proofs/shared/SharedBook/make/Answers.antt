use Rattle.std.proofs.Common.{◌≡◌, ℕ, List, sym, ap, subst}
use Rattle.cell_book.specs.Glimpses.{glimpse, Owns}
use Rattle.cell_shared.specs.Growing.{counted}
use Rattle.cell_shared.specs.Known.{Known}
use Rattle.cell_shared.specs.Turning.{Sat}
use Rattle.cell_shared.proofs.Growing.{turns_as}
use Rattle.cell_shared.proofs.Stepping.{makes_turns}
use Rattle.cell_shared.proofs.Turning.{has_turn, keeps_law}
use Rattle.cell_shared.proofs.Viewing.{open_in}
use Rattle.cell_shared.proofs.shared.SharedBook.make.Goals as goal

pub make-answer-requires : goal.make-answer-requires
make-answer-requires g c =
    let v = c.pass.inside.chair.me.0 in
    let own = subst (λ (p : Known). Owns (counted p.claims) (glimpse p.seen) c.args.by.now) (sym c.pass.view_is) c.requires.own.1 in
    record { «open» = open_in v.leads _ v.seen (counted v.claims) c.take-book.result c.args.by.now c.take-book.ensures.knows own }

pub release-requires-clause-turn : goal.release-requires-clause-turn
release-requires-clause-turn g c =
    let v = c.pass.inside.chair.me.0 in
    let a = c.take-book.result in
    let b = c.make-answer.new.self in
    let k = c.take-book.ensures.knows in
    let mine : ℕ → ℕ = counted v.claims in
    let answer = c.make-answer.result in
    let own = subst (λ (p : Known). Owns (counted p.claims) (glimpse p.seen) c.args.by.now) (sym c.pass.view_is) c.requires.own.1 in
    let kept : c.take-book.new.chair.me.0.claims ≡ v.claims = ap (λ (m : Sat). m.0.claims) c.take-book.ensures.took in
    has_turn (g.L.CellLaw.keeps c.self.inside.table.shared.key.law) v _ a b (c.take-book.new.chair.me.0.claims) c.take-book.ensures.took c.pass.invariant.2
    (λ _. keeps_law g.L.CellLaw.keeps _ _ _ _ a b c.pass.view_is c.self.view_is k (λ q. c.requires.keeps a b answer q c.make-answer.ensures))
    (turns_as v.leads mine mine (counted c.take-book.new.chair.me.0.claims) a b (λ x. ap (λ (l : List ℕ). counted l x) (sym kept))
    (makes_turns v.leads mine a b c.args.by.now c.args.term c.args.kind answer k.sound k.opened own.0 k.asks c.make-answer.ensures))

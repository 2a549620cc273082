use Rattle.std.proofs.Common.{◌≡◌, ℕ, ◌-◌, List, sym, ap, ◌∙◌, subst}
use Rattle.cell_book.specs.Glimpses.{glimpse, Owns, after_end, at_claim}
use Rattle.cell_shared.specs.Growing.{counted}
use Rattle.cell_shared.specs.Known.{Known, after}
use Rattle.cell_shared.specs.Turning.{Sat}
use Rattle.cell_shared.proofs.Growing.{turns_as}
use Rattle.cell_shared.proofs.Stepping.{gives_up_turns}
use Rattle.cell_shared.proofs.Turning.{has_turn, keeps_law}
use Rattle.cell_shared.proofs.Viewing.{open_in}
use Rattle.cell_shared.proofs.shared.SharedBook.give_up.Goals as goal

pub give_up-requires : goal.give_up-requires
give_up-requires g c =
    let v = c.pass.inside.chair.me.0 in
    let own = subst (λ (p : Known). Owns (counted p.claims) (glimpse p.seen) c.args.work) (sym c.pass.view_is) c.requires.own.1 in
    record { «open» = open_in v.leads _ v.seen (counted v.claims) c.take-book.result c.args.work c.take-book.ensures.knows own }

pub release-requires-clause-turn : goal.release-requires-clause-turn
release-requires-clause-turn g c =
    let v = c.pass.inside.chair.me.0 in
    let a = c.take-book.result in
    let b = c.give_up.new.self in
    let k = c.take-book.ensures.knows in
    let mine : ℕ → ℕ = counted v.claims in
    let ch = c.closing-change.result in
    let own = subst (λ (p : Known). Owns (counted p.claims) (glimpse p.seen) c.args.work) (sym c.pass.view_is) c.requires.own.1 in
    let kept : c.take-book.new.chair.me.0.claims ≡ v.claims = ap (λ (m : Sat). m.0.claims) c.take-book.ensures.took in
    has_turn (g.L.CellLaw.keeps c.self.inside.table.shared.key.law) v _ a b (after ch c.take-book.new.chair.me.0.claims) c.take-book.ensures.took c.pass.invariant.2
    (λ _. keeps_law g.L.CellLaw.keeps _ _ _ _ a b c.pass.view_is c.self.view_is k (λ q. c.requires.keeps a b q c.give_up.ensures))
    (turns_as v.leads mine (after_end mine c.args.work) (counted (after ch c.take-book.new.chair.me.0.claims)) a b (λ x. sym (c.closing-change.ensures v.claims x own.0) ∙ ap (λ (l : List ℕ). counted (after ch l) x) (sym kept))
    (gives_up_turns v.leads mine a b c.args.work k.sound k.opened own.0 k.asks c.give_up.ensures))

pub returns-clause-held : goal.returns-clause-held
returns-clause-held g c = λ x.
    let v = c.pass.inside.chair.me.0 in
    let ch = c.closing-change.result in
    let own = subst (λ (p : Known). Owns (counted p.claims) (glimpse p.seen) c.args.work) (sym c.pass.view_is) c.requires.own.1 in
    let kept : c.take-book.new.chair.me.0.claims ≡ v.claims = ap (λ (m : Sat). m.0.claims) c.take-book.ensures.took in
    ap (λ (m : Sat). counted m.0.claims x) c.release.ensures.rests.1 ∙ ap (λ (l : List ℕ). counted (after ch l) x) kept ∙ c.closing-change.ensures v.claims x own.0
    ∙ ap (λ (p : Known). counted p.claims x - at_claim c.args.work.claim x) c.pass.view_is

use Rattle.std.proofs.Common.{◌≡◌, ℕ, List, sym, ap, ◌∙◌, subst}
use Rattle.std.specs.Prelude.{option_copied}
use Rattle.cell_book.specs.Glimpses.{glimpse, MayAsk, after_open}
use Rattle.cell_shared.specs.Growing.{counted}
use Rattle.cell_shared.specs.Known.{Known, after}
use Rattle.cell_shared.specs.Turning.{Sat}
use Rattle.cell_shared.proofs.Growing.{turns_as}
use Rattle.cell_shared.proofs.Stepping.{claims_turns}
use Rattle.cell_shared.proofs.Turning.{has_turn, keeps_law}
use Rattle.cell_shared.proofs.Viewing.{open_asker}
use Rattle.cell_shared.proofs.shared.SharedBook.claim.Goals as goal

pub claim-answer-requires : goal.claim-answer-requires
claim-answer-requires g c =
    let v = c.pass.inside.chair.me.0 in
    let may = subst (λ (p : Known). MayAsk (counted p.claims) (glimpse p.seen) c.args.id (option_copied c.args.by)) (sym c.pass.view_is) c.requires.own.1 in
    record { asker = open_asker v.leads _ v.seen (counted v.claims) c.take-book.result c.args.id (option_copied c.args.by) c.take-book.ensures.knows may }

pub release-requires-clause-turn : goal.release-requires-clause-turn
release-requires-clause-turn g c =
    let v = c.pass.inside.chair.me.0 in
    let a = c.take-book.result in
    let b = c.claim-answer.new.self in
    let k = c.take-book.ensures.knows in
    let mine : ℕ → ℕ = counted v.claims in
    let answer = c.claim-answer.result in
    let ch = c.change_of-change.result in
    let may = subst (λ (p : Known). MayAsk (counted p.claims) (glimpse p.seen) c.args.id (option_copied c.args.by)) (sym c.pass.view_is) c.requires.own.1 in
    let kept : c.take-book.new.chair.me.0.claims ≡ v.claims = ap (λ (m : Sat). m.0.claims) c.take-book.ensures.took in
    has_turn (g.L.CellLaw.keeps c.self.inside.table.shared.key.law) v _ a b (after ch c.take-book.new.chair.me.0.claims) c.take-book.ensures.took c.pass.invariant.2
    (λ _. keeps_law g.L.CellLaw.keeps _ _ _ _ a b c.pass.view_is c.self.view_is k (λ q. c.requires.keeps a b answer q c.claim-answer.ensures))
    (turns_as v.leads mine (after_open mine answer) (counted (after ch c.take-book.new.chair.me.0.claims)) a b (λ x. sym (c.change_of-change.ensures v.claims x) ∙ ap (λ (l : List ℕ). counted (after ch l) x) (sym kept))
    (claims_turns v.leads mine (glimpse v.seen) a b c.args.id (option_copied c.args.by) answer k.sound k.grown.reaches k.opened k.asks may c.claim-answer.ensures))

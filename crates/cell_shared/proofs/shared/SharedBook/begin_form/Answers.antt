use Rattle.std.proofs.Common.{◌≡◌, ℕ, Bool, true, List, sym, ap, ◌∙◌, subst}
use Rattle.cell_book.specs.Glimpses.{after_open}
use Rattle.cell_shared.specs.Growing.{counted, Turns}
use Rattle.cell_shared.specs.Known.{Known, after}
use Rattle.cell_shared.specs.Turning.{Sat}
use Rattle.cell_shared.proofs.Growing.{turns_as}
use Rattle.cell_shared.proofs.Stepping.{begins_turns}
use Rattle.cell_shared.proofs.Turning.{has_turn, keeps_law}
use Rattle.cell_shared.proofs.shared.SharedBook.begin_form.Goals as goal

pub release-requires-clause-turn : goal.release-requires-clause-turn
release-requires-clause-turn g c =
    let v = c.pass.inside.chair.me.0 in
    let a = c.take-book.result in
    let b = c.begin_form-answer.new.self in
    let k = c.take-book.ensures.knows in
    let mine : ℕ → ℕ = counted v.claims in
    let answer = c.begin_form-answer.result in
    let ch = c.change_of-change.result in
    let lead : v.leads ≡ true = ap (λ (p : Known). p.leads) c.pass.view_is ∙ c.requires.own.1 in
    let kept : c.take-book.new.chair.me.0.claims ≡ v.claims = ap (λ (m : Sat). m.0.claims) c.take-book.ensures.took in
    has_turn (g.L.CellLaw.keeps c.self.inside.table.shared.key.law) v _ a b (after ch c.take-book.new.chair.me.0.claims) c.take-book.ensures.took c.pass.invariant.2
    (λ _. keeps_law g.L.CellLaw.keeps _ _ _ _ a b c.pass.view_is c.self.view_is k (λ q. c.requires.keeps a b answer q c.begin_form-answer.ensures))
    (turns_as v.leads mine (after_open mine answer) (counted (after ch c.take-book.new.chair.me.0.claims)) a b (λ x. sym (c.change_of-change.ensures v.claims x) ∙ ap (λ (l : List ℕ). counted (after ch l) x) (sym kept))
    (subst (λ (z : Bool). Turns z mine a b (after_open mine answer)) (sym lead) (begins_turns mine a b c.args.form answer k.sound k.asks c.begin_form-answer.ensures)))

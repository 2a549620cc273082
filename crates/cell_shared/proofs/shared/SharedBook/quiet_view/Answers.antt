use Rattle.std.proofs.Common.{◌≡◌, ℕ, List, sym, ap, subst, ◌∙◌}
use Rattle.cell_book.specs.Account.{Account}
use Rattle.cell_shared.specs.Growing.{counted}
use Rattle.cell_shared.specs.Quieting.{Finds}
use Rattle.cell_shared.specs.Turning.{Sat}
use Rattle.cell_shared.proofs.Growing.{turns_as}
use Rattle.cell_shared.proofs.Stepping.{still_turns}
use Rattle.cell_shared.proofs.Turning.{has_turn}
use Rattle.cell_shared.proofs.shared.SharedBook.quiet_view.Goals as goal

pub release-requires-clause-turn : goal.release-requires-clause-turn
release-requires-clause-turn g c =
    let v = c.pass.inside.chair.me.0 in
    let a = c.take-book.result in
    let b = c.found-answer.new.book in
    let k = c.take-book.ensures.knows in
    let mine : ℕ → ℕ = counted v.claims in
    let law : Account → Type 0 = g.L.CellLaw.keeps c.self.inside.table.shared.key.law in
    let kept : c.take-book.new.chair.me.0.claims ≡ v.claims = ap (λ (m : Sat). m.0.claims) c.take-book.ensures.took in
    let same : b ≡ a = c.found-answer.ensures.same in
    has_turn law v _ a b c.take-book.new.chair.me.0.claims c.take-book.ensures.took c.pass.invariant.2 (λ l. subst law (sym same) l)
    (turns_as v.leads mine mine (counted c.take-book.new.chair.me.0.claims) a b (λ x. ap (λ (l : List ℕ). counted l x) (sym kept)) (still_turns v.leads mine a b k.sound k.asks same))

pub returns-clause-found : goal.returns-clause-found
returns-clause-found g c =
    let e : c.release.new.chair.me.0.seen ≡ c.found-answer.new.book = ap (λ (m : Sat). m.0.seen) c.release.ensures.rests.1 in
    subst (λ (z : Account). Finds z c.found-answer.result) (sym (e ∙ c.found-answer.ensures.same)) c.found-answer.ensures.found

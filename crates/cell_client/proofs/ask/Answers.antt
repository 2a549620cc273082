use Rattle.std.proofs.Common.{sym, subst, ◌<◌, ℕ, Some}
use Rattle.cell_book.proofs.Laws.{meets_law, keeps_law, still_lawful, still_owns, open_held, apart_if}
use Rattle.cell_book.proofs.Moves.{claims_holds}
use Rattle.cell_client.specs.Sevens.{IsSevens}
use Rattle.cell_client.proofs.Keeping.{new_claims, sevens_claims}
use Rattle.cell_client.proofs.ask.Goals as goal

pub claim-requires-clause-keeps : goal.claim-requires-clause-keeps
claim-requires-clause-keeps g c =
    let C = g.C.Cells in
    let s = c.args.cells.now in
    λ a b answer f h. keeps_law (C.alone s) (C.leads s) (C.law s) (C.noted s) (C.seen s) (C.held s) IsSevens a b (λ is. g.met.C.Cells.alone_free s is b) c.requires.law (λ p. sevens_claims a b c.args.id (Some c.args.by.now.claim) answer p h) f

pub returns-clause-law : goal.returns-clause-law
returns-clause-law g c =
    let C = g.C.Cells in
    let s = c.args.cells.now in
    let t = c.claim.new.self in
    let st = c.claim.ensures.step in
    let same = c.claim.ensures.same in
    still_lawful (C.alone s) (C.alone t) (C.law s) (C.law t) (C.noted s) (C.noted t) IsSevens st.1 (g.met.C.Cells.same_alone s t same) (g.met.C.Cells.same_law s t same) (λ d e. g.met.C.Cells.noted_one t d e) st.4.1
    (sevens_claims st.0 st.1 c.args.id (Some c.args.by.now.claim) c.claim.result (meets_law (C.alone s) (C.leads s) (C.law s) (C.noted s) (C.seen s) (C.held s) IsSevens st.0 c.requires.law st.2) st.3) c.requires.law

pub returns-clause-own : goal.returns-clause-own
returns-clause-own g c =
    let C = g.C.Cells in
    let s = c.args.cells.now in
    let t = c.claim.new.self in
    let st = c.claim.ensures.step in
    let w = c.args.by.now in
    let h = c.claim.ensures.held w.claim in
    still_owns (C.alone s) (C.leads s) (C.law s) (C.noted s) (C.seen s) (C.seen t) (C.held s) (C.held t) st.0 st.1 w c.requires.own st.2 (claims_holds st.0 st.1 c.args.id (Some w.claim) c.claim.result w.claim st.3 (apart_if (C.held s) c.claim.result w.claim c.claim.ensures.fresh c.requires.own.0)) st.4.0 (subst (λ (n : ℕ). 0 < n) (sym h) (open_held (C.held s) c.claim.result w.claim c.requires.own.0))

pub returns-clause-others : goal.returns-clause-others
returns-clause-others g c = λ w o. (
    let C = g.C.Cells in
    let s = c.args.cells.now in
    let t = c.claim.new.self in
    let st = c.claim.ensures.step in
    let h = c.claim.ensures.held w.claim in
    still_owns (C.alone s) (C.leads s) (C.law s) (C.noted s) (C.seen s) (C.seen t) (C.held s) (C.held t) st.0 st.1 w o st.2 (claims_holds st.0 st.1 c.args.id (Some c.args.by.now.claim) c.claim.result w.claim st.3 (apart_if (C.held s) c.claim.result w.claim c.claim.ensures.fresh o.0)) st.4.0 (subst (λ (n : ℕ). 0 < n) (sym h) (open_held (C.held s) c.claim.result w.claim o.0)))

pub returns-clause-apart : goal.returns-clause-apart
returns-clause-apart g c = new_claims (g.C.Cells.held c.args.cells.now) (g.C.Cells.seen c.args.cells.now) c.claim.result c.claim.ensures.fresh

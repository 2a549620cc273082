use Rattle.std.proofs.Common.{true≢false, refl, sym}
use Rattle.std.specs.Prelude.{option_copied}
use Rattle.cell_book.specs.Steps.{asker_of}
use Rattle.cell_book.specs.Glimpses.{glimpse}
use Rattle.cell_book.proofs.Stepping.{sees_whole, claims_open_if, claims_new, sees_gave_up}
use Rattle.cell_shared.specs.Growing.{counted}
use Rattle.cell_shared.proofs.Viewing.{foresees, if_fresh}
use Rattle.cell_shared.proofs.viewed.ViewedCells.claim.Goals as goal

pub claim-requires-clause-keeps : goal.claim-requires-clause-keeps
claim-requires-clause-keeps g c =
    let p = c.args.self.now.pass.now in
    λ a b answer k h. c.requires.keeps a b answer (foresees p.leads (g.L.CellLaw.keeps c.args.self.now.book.now.law) p.seen (counted p.claims) a k) h

pub returns-clause-step : goal.returns-clause-step
returns-clause-step g c =
    let p = c.args.self.now.pass.now in
    let st = c.claim.ensures.step in
    let b = c.claim.new.pass.seen in
    (st.0, b, foresees p.leads (g.L.CellLaw.keeps c.args.self.now.book.now.law) p.seen (counted p.claims) st.0 st.1, st.2, (sees_whole p.leads (counted c.claim.new.pass.claims) (glimpse p.seen) b, λ is. absurd (true≢false (sym is))), refl)

pub returns-clause-open : goal.returns-clause-open
returns-clause-open g c = let st = c.claim.ensures.step in claims_open_if st.0 c.claim.new.pass.seen c.args.id (asker_of (option_copied c.args.by)) c.claim.result st.2

pub returns-clause-fresh : goal.returns-clause-fresh
returns-clause-fresh g c = let st = c.claim.ensures.step in if_fresh (counted c.args.self.now.pass.now.claims) st.0 c.claim.result st.1.opened (claims_new st.0 c.claim.new.pass.seen c.args.id (asker_of (option_copied c.args.by)) c.claim.result st.2)

pub returns-clause-gave_up : goal.returns-clause-gave_up
returns-clause-gave_up g c = let st = c.claim.ensures.step in sees_gave_up st.0 c.claim.new.pass.seen c.args.id (asker_of (option_copied c.args.by)) c.claim.result st.2

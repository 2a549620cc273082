use Rattle.std.proofs.Common.{None}
use Rattle.cell_book.proofs.Laws.{meets_law, keeps_law, still_lawful}
use Rattle.cell_client.specs.Sevens.{IsSevens}
use Rattle.cell_client.proofs.Keeping.{sevens_claims}
use Rattle.shared_tests.proofs.ask_future.Goals as goal

pub claim-requires-clause-keeps : goal.claim-requires-clause-keeps
claim-requires-clause-keeps g c =
    let C = g.C.Cells in
    let s = c.args.cells.now in
    λ a b answer f h. keeps_law (C.alone s) (C.leads s) (C.law s) (C.noted s) (C.seen s) (C.held s) IsSevens a b (λ is. g.met.C.Cells.alone_free s is b) c.requires.law (λ p. sevens_claims a b c.args.id None answer p h) f

pub returns-clause-law : goal.returns-clause-law
returns-clause-law g c =
    let C = g.C.Cells in
    let s = c.args.cells.now in
    let t = c.claim.new.self in
    let st = c.claim.ensures.step in
    let same = c.claim.ensures.same in
    still_lawful (C.alone s) (C.alone t) (C.law s) (C.law t) (C.noted s) (C.noted t) IsSevens st.1 (g.met.C.Cells.same_alone s t same) (g.met.C.Cells.same_law s t same) (λ d e. g.met.C.Cells.noted_one t d e) st.4.1
    (sevens_claims st.0 st.1 c.args.id None c.claim.result (meets_law (C.alone s) (C.leads s) (C.law s) (C.noted s) (C.seen s) (C.held s) IsSevens st.0 c.requires.law st.2) st.3) c.requires.law

use Rattle.cell_book.proofs.Laws.{meets_law, keeps_law, still_lawful}
use Rattle.cell_client.specs.Sevens.{IsSevens}
use Rattle.cell_client.proofs.Keeping.{sevens_gives_up}
use Rattle.shared_tests.proofs.abandon.Goals as goal

pub give_up-requires-clause-keeps : goal.give_up-requires-clause-keeps
give_up-requires-clause-keeps g c =
    let C = g.C.Cells in
    let s = c.args.cells.now in
    λ a b f h. keeps_law (C.alone s) (C.leads s) (C.law s) (C.noted s) (C.seen s) (C.held s) IsSevens a b (λ is. g.met.C.Cells.alone_free s is b) c.requires.law (λ p. sevens_gives_up a b c.args.work p h) f

pub returns-clause-law : goal.returns-clause-law
returns-clause-law g c =
    let C = g.C.Cells in
    let s = c.args.cells.now in
    let t = c.give_up.new.self in
    let st = c.give_up.ensures.step in
    let same = c.give_up.ensures.same in
    still_lawful (C.alone s) (C.alone t) (C.law s) (C.law t) (C.noted s) (C.noted t) IsSevens st.1 (g.met.C.Cells.same_alone s t same) (g.met.C.Cells.same_law s t same) (λ d e. g.met.C.Cells.noted_one t d e) st.4.1
    (sevens_gives_up st.0 st.1 c.args.work (meets_law (C.alone s) (C.leads s) (C.law s) (C.noted s) (C.seen s) (C.held s) IsSevens st.0 c.requires.law st.2) st.3) c.requires.law

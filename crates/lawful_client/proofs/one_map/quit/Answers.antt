use Rattle.lawful_client.specs.OneMap.{one_map, steps, table, IsGood}
use Rattle.seq_lawful.proofs.Discharge.{keeps_give_up}
use Rattle.lawful_client.proofs.Steps.{kept, quits_law, quits_owns}
use Rattle.lawful_client.proofs.one_map.quit.Goals as goal

pub give_up-requires-clause-keeps : goal.give_up-requires-clause-keeps
give_up-requires-clause-keeps g c =
    let C = g.C.Cells in
    let s = c.args.cells.now in
    let o = c.requires.own in
    keeps_give_up (C.law s) (C.noted s) IsGood table one_map steps kept (C.alone s) (C.leads s) (C.seen s) (C.held s) c.requires.law c.args.work o.0 (λ b is. g.met.C.Cells.alone_free s is b) o.1

pub returns-clause-law : goal.returns-clause-law
returns-clause-law g c =
    let C = g.C.Cells in
    let s = c.args.cells.now in
    let t = c.give_up.new.self in
    let st = c.give_up.ensures.step in
    quits_law (C.alone s) (C.alone t) (C.leads s) (C.law s) (C.law t) (C.noted s) (C.noted t) (C.seen s) (C.seen t) (C.held s) (C.held t) (g.met.C.Cells.same_alone s t c.give_up.ensures.same) (g.met.C.Cells.same_law s t c.give_up.ensures.same) (λ d e. g.met.C.Cells.noted_one t d e) st.0 st.1 st.2 st.4.0 st.4.1 c.requires.law c.args.work c.requires.own st.3

pub returns-clause-others : goal.returns-clause-others
returns-clause-others g c =
    let C = g.C.Cells in
    let s = c.args.cells.now in
    let t = c.give_up.new.self in
    let st = c.give_up.ensures.step in
    quits_owns (C.alone s) (C.leads s) (C.law s) (C.noted s) (C.seen s) (C.seen t) (C.held s) (C.held t) st.0 st.1 st.2 st.4.0 c.args.work c.give_up.ensures.held st.3

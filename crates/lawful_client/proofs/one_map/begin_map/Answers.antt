use Rattle.lawful_client.specs.OneMap.{one_map, steps, table, IsGood}
use Rattle.seq_lawful.proofs.Discharge.{keeps_begin}
use Rattle.lawful_client.proofs.Walks.{may_begin, none_in}
use Rattle.lawful_client.proofs.Steps.{kept, begins_law, begins_run}
use Rattle.lawful_client.proofs.one_map.begin_map.Goals as goal

pub begin_form-requires-clause-keeps : goal.begin_form-requires-clause-keeps
begin_form-requires-clause-keeps g c =
    let C = g.C.Cells in
    let s = c.args.cells.now in
    let n = c.requires.new in
    keeps_begin (C.law s) (C.noted s) IsGood table one_map steps kept (C.alone s) (C.leads s) (C.seen s) (C.held s) c.requires.law (λ b is. g.met.C.Cells.alone_free s is b) (λ x y. g.met.C.Cells.noted_one s x y) c.requires.leads 1 n.book n.known (may_begin n.book n.no_forms n.unspent)

pub returns-clause-law : goal.returns-clause-law
returns-clause-law g c =
    let C = g.C.Cells in
    let s = c.args.cells.now in
    let t = c.begin_form.new.self in
    let st = c.begin_form.ensures.step in
    begins_law (C.alone s) (C.alone t) (C.leads s) (C.law s) (C.law t) (C.noted s) (C.noted t) (C.seen s) (C.seen t) (C.held s) (C.held t) (g.met.C.Cells.same_alone s t c.begin_form.ensures.same) (g.met.C.Cells.same_law s t c.begin_form.ensures.same) (λ d e. g.met.C.Cells.noted_one t d e) st.0 st.1 st.2 st.4.0 st.4.1 c.requires.law (λ x y. g.met.C.Cells.noted_one s x y) c.requires.leads c.requires.new c.begin_form.result st.3

pub returns-clause-run : goal.returns-clause-run
returns-clause-run g c =
    let C = g.C.Cells in
    let s = c.args.cells.now in
    let t = c.begin_form.new.self in
    let st = c.begin_form.ensures.step in
    begins_run (C.alone s) (C.leads s) (C.law s) (C.noted s) (C.seen s) (C.seen t) (C.held s) (C.held t) st.0 st.1 st.2 st.4.0 c.requires.leads c.requires.new.none_seen c.begin_form.result st.3 c.begin_form.ensures.held st.5

pub begin_form-requires-clause-unbegun : goal.begin_form-requires-clause-unbegun
begin_form-requires-clause-unbegun g c = none_in (g.C.Cells.seen c.args.cells.now).begun 1 c.requires.new.none_seen

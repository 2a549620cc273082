use Rattle.std.proofs.Common.{Some}
use Rattle.seq_plan.specs.Plan.{seq}
use Rattle.lawful_client.specs.OneMap.{form_waits, one_map, steps, table, IsGood, prints_first}
use Rattle.seq_lawful.proofs.Discharge.{keeps_claim}
use Rattle.lawful_client.proofs.Steps.{kept, owns_run, claims_owns, claims_law, claims_runs}
use Rattle.lawful_client.proofs.one_map.claim_whole.Goals as goal

pub claim-requires-clause-keeps : goal.claim-requires-clause-keeps
claim-requires-clause-keeps g c =
    let C = g.C.Cells in
    let s = c.args.cells.now in
    let r = c.requires.run in
    keeps_claim (C.law s) (C.noted s) IsGood table one_map steps kept (C.alone s) (C.leads s) (C.seen s) (C.held s) c.requires.law c.args.form.now r.0 (λ b is. g.met.C.Cells.alone_free s is b) 4 c.args.id (λ v. seq v prints_first) r.1

pub returns-clause-law : goal.returns-clause-law
returns-clause-law g c =
    let C = g.C.Cells in
    let s = c.args.cells.now in
    let t = c.claim.new.self in
    let st = c.claim.ensures.step in
    claims_law (C.alone s) (C.alone t) (C.leads s) (C.law s) (C.law t) (C.noted s) (C.noted t) (C.seen s) (C.seen t) (C.held s) (C.held t) (g.met.C.Cells.same_alone s t c.claim.ensures.same) (g.met.C.Cells.same_law s t c.claim.ensures.same) (λ d e. g.met.C.Cells.noted_one t d e) st.0 st.1 st.2 st.4.0 st.4.1 c.requires.law c.args.form.now c.args.id c.claim.result c.requires.run st.3

pub returns-clause-form : goal.returns-clause-form
returns-clause-form g c =
    let C = g.C.Cells in
    let s = c.args.cells.now in
    let t = c.claim.new.self in
    let st = c.claim.ensures.step in
    (claims_runs (C.alone s) (C.leads s) (C.law s) (C.noted s) (C.seen s) (C.seen t) (C.held s) (C.held t) st.0 st.1 st.2 st.4.0 c.args.form.now c.args.id c.claim.result c.requires.run c.requires.part c.claim.ensures.held st.3 st.5 c.claim.ensures.fresh).0

pub returns-clause-run : goal.returns-clause-run
returns-clause-run g c =
    let C = g.C.Cells in
    let s = c.args.cells.now in
    let t = c.claim.new.self in
    let st = c.claim.ensures.step in
    (claims_runs (C.alone s) (C.leads s) (C.law s) (C.noted s) (C.seen s) (C.seen t) (C.held s) (C.held t) st.0 st.1 st.2 st.4.0 c.args.form.now c.args.id c.claim.result c.requires.run c.requires.part c.claim.ensures.held st.3 st.5 c.claim.ensures.fresh).1

pub returns-clause-asked : goal.returns-clause-asked
returns-clause-asked g c =
    let C = g.C.Cells in
    let s = c.args.cells.now in
    let t = c.claim.new.self in
    let st = c.claim.ensures.step in
    (claims_runs (C.alone s) (C.leads s) (C.law s) (C.noted s) (C.seen s) (C.seen t) (C.held s) (C.held t) st.0 st.1 st.2 st.4.0 c.args.form.now c.args.id c.claim.result c.requires.run c.requires.part c.claim.ensures.held st.3 st.5 c.claim.ensures.fresh).2

pub claim-requires-clause-own : goal.claim-requires-clause-own
claim-requires-clause-own g c =
    let C = g.C.Cells in
    let s = c.args.cells.now in
    owns_run (C.held s) (C.seen s) c.args.form.now 5 (form_waits c.args.id) c.requires.run

pub returns-clause-kept : goal.returns-clause-kept
returns-clause-kept g c =
    let C = g.C.Cells in
    let s = c.args.cells.now in
    let t = c.claim.new.self in
    let st = c.claim.ensures.step in
    claims_owns (C.alone s) (C.leads s) (C.law s) (C.noted s) (C.seen s) (C.seen t) (C.held s) (C.held t) st.0 st.1 st.2 st.4.0 c.args.id (Some c.args.form.now.claim) c.claim.result c.args.form.now c.claim.ensures.held st.3 (owns_run (C.held s) (C.seen s) c.args.form.now 5 (form_waits c.args.id) c.requires.run)

use Rattle.std.proofs.Common.{subst, sym}
use Rattle.seq_plan.specs.Plan.{give}
use Rattle.seq_lawful.specs.Runs.{OnRun}
use Rattle.lawful_client.specs.OneMap.{part_gives, one_map, steps, table, IsGood}
use Rattle.seq_lawful.proofs.Discharge.{keeps_finish}
use Rattle.lawful_client.proofs.Steps.{kept, owns_run, finishes_law, finishes_run}
use Rattle.lawful_client.proofs.one_map.finish_whole.Goals as goal

pub finish-requires-clause-keeps : goal.finish-requires-clause-keeps
finish-requires-clause-keeps g c =
    let C = g.C.Cells in
    let s = c.args.cells.now in
    let r = c.requires.run in
    keeps_finish (C.law s) (C.noted s) IsGood table one_map steps kept (C.alone s) (C.leads s) (C.seen s) (C.held s) c.requires.law c.args.work r.0 (λ b is. g.met.C.Cells.alone_free s is b) 7 c.args.value (subst (λ x. OnRun table one_map steps (C.seen s) c.args.work 7 (give x)) (sym c.requires.value) r.1)

pub returns-clause-law : goal.returns-clause-law
returns-clause-law g c =
    let C = g.C.Cells in
    let s = c.args.cells.now in
    let t = c.finish.new.self in
    let st = c.finish.ensures.step in
    finishes_law (C.alone s) (C.alone t) (C.leads s) (C.law s) (C.law t) (C.noted s) (C.noted t) (C.seen s) (C.seen t) (C.held s) (C.held t) (g.met.C.Cells.same_alone s t c.finish.ensures.same) (g.met.C.Cells.same_law s t c.finish.ensures.same) (λ d e. g.met.C.Cells.noted_one t d e) st.0 st.1 st.2 st.4.0 st.4.1 c.requires.law c.args.work 7 c.args.value (c.requires.run.0, subst (λ x. OnRun table one_map steps (C.seen s) c.args.work 7 (give x)) (sym c.requires.value) c.requires.run.1) st.3

pub returns-clause-form : goal.returns-clause-form
returns-clause-form g c =
    let C = g.C.Cells in
    let s = c.args.cells.now in
    let t = c.finish.new.self in
    let st = c.finish.ensures.step in
    λ form id r by. finishes_run (C.alone s) (C.leads s) (C.law s) (C.noted s) (C.seen s) (C.seen t) (C.held s) (C.held t) st.0 st.1 st.2 st.4.0 form c.args.work id c.args.rest c.args.value r by c.requires.run.0 c.requires.value c.finish.ensures.held st.3 st.5

pub finish-requires-clause-own : goal.finish-requires-clause-own
finish-requires-clause-own g c =
    let C = g.C.Cells in
    let s = c.args.cells.now in
    owns_run (C.held s) (C.seen s) c.args.work 7 (part_gives c.args.rest) c.requires.run

use Rattle.seq_values.specs.declared.words.Kind.TheVariants.{Lazy}
use Rattle.lawful_client.specs.OneMap.{part_makes, one_map, steps, table, IsGood, part_gives}
use Rattle.seq_lawful.proofs.Discharge.{keeps_make}
use Rattle.lawful_client.proofs.Walks.{make_so}
use Rattle.lawful_client.proofs.Steps.{kept, owns_run, makes_owns, makes_law, makes_rest, waits_on}
use Rattle.lawful_client.proofs.one_map.make_rest.Goals as goal

pub make-requires-clause-keeps : goal.make-requires-clause-keeps
make-requires-clause-keeps g c =
    let C = g.C.Cells in
    let s = c.args.cells.now in
    let r = c.requires.run in
    keeps_make (C.law s) (C.noted s) IsGood table one_map steps kept (C.alone s) (C.leads s) (C.seen s) (C.held s) c.requires.law c.args.work.now r.0 (λ b is. g.met.C.Cells.alone_free s is b) 7 Lazy c.args.term part_gives (make_so table one_map steps (C.seen s) c.args.work.now 7 part_gives c.args.term c.requires.term r.1)

pub returns-clause-law : goal.returns-clause-law
returns-clause-law g c =
    let C = g.C.Cells in
    let s = c.args.cells.now in
    let t = c.make.new.self in
    let st = c.make.ensures.step in
    makes_law (C.alone s) (C.alone t) (C.leads s) (C.law s) (C.law t) (C.noted s) (C.noted t) (C.seen s) (C.seen t) (C.held s) (C.held t) (g.met.C.Cells.same_alone s t c.make.ensures.same) (g.met.C.Cells.same_law s t c.make.ensures.same) (λ d e. g.met.C.Cells.noted_one t d e) st.0 st.1 st.2 st.4.0 st.4.1 c.requires.law c.args.work.now 7 Lazy c.args.term part_gives c.make.result (c.requires.run.0, make_so table one_map steps (C.seen s) c.args.work.now 7 part_gives c.args.term c.requires.term c.requires.run.1) st.3

pub returns-clause-run : goal.returns-clause-run
returns-clause-run g c =
    let C = g.C.Cells in
    let s = c.args.cells.now in
    let t = c.make.new.self in
    let st = c.make.ensures.step in
    makes_rest (C.alone s) (C.leads s) (C.law s) (C.noted s) (C.seen s) (C.seen t) (C.held s) (C.held t) st.0 st.1 st.2 st.4.0 c.args.work.now Lazy c.args.term c.make.result (c.requires.run.0, make_so table one_map steps (C.seen s) c.args.work.now 7 part_gives c.args.term c.requires.term c.requires.run.1) c.make.ensures.held st.3 st.5

pub returns-clause-form : goal.returns-clause-form
returns-clause-form g c =
    let C = g.C.Cells in
    let s = c.args.cells.now in
    let t = c.make.new.self in
    let st = c.make.ensures.step in
    λ form id r by. waits_on (C.alone s) (C.leads s) (C.law s) (C.noted s) (C.seen s) (C.seen t) (C.held s) (C.held t) st.0 st.1 st.2 st.4.0 c.args.work.now form id Lazy c.args.term c.make.result r by c.requires.run.0 c.make.ensures.held st.3

pub make-requires-clause-own : goal.make-requires-clause-own
make-requires-clause-own g c =
    let C = g.C.Cells in
    let s = c.args.cells.now in
    owns_run (C.held s) (C.seen s) c.args.work.now 7 part_makes c.requires.run

pub returns-clause-kept : goal.returns-clause-kept
returns-clause-kept g c =
    let C = g.C.Cells in
    let s = c.args.cells.now in
    let t = c.make.new.self in
    let st = c.make.ensures.step in
    makes_owns (C.alone s) (C.leads s) (C.law s) (C.noted s) (C.seen s) (C.seen t) (C.held s) (C.held t) st.0 st.1 st.2 st.4.0 c.args.work.now Lazy c.args.term c.make.result c.make.ensures.held st.3

use Rattle.seq_values.specs.Plain.{plain_term}
use Rattle.seq_plan.specs.Plan.{make}
use Rattle.seq_lawful.proofs.OnRuns.{on_open}
use Rattle.lawful_works.proofs.Keeping.{after_make, demand, governs_on, good_on, governed}
use Rattle.lawful_works.proofs.Making.{makes_on, makes_not, others_make, holds_make}
use Rattle.lawful_works.specs.Alone.{MakesQuietly}
use Rattle.lawful_works.proofs.Noting.{becomes, makes_quietly}
use Rattle.lawful_works.proofs.asks.add.Goals as goal

pub make-requires-clause-own : goal.make-requires-clause-own
make-requires-clause-own g c =
    let C = g.C.Cells in
    let s = c.args.cells.now in
    let r = c.requires.run in
    (c.requires.own, on_open r.basis.rules r.basis.program r.basis.limit (C.seen s) c.args.by.now r.left (make c.args.kind (plain_term c.args.term) r.after) r.run)

pub make-requires-clause-keeps : goal.make-requires-clause-keeps
make-requires-clause-keeps g c =
    let C = g.C.Cells in
    let s = c.args.cells.now in
    let r = c.requires.run in
    λ a b answer f k. demand (C.alone s) (C.leads s) (C.law s) (C.noted s) (C.seen s) (C.held s) r.basis r.governs a b f (λ b is. g.met.C.Cells.alone_free s is b) (after_make (C.alone s) (C.leads s) (C.law s) (C.noted s) (C.seen s) (C.held s) r.basis r.governs a b f c.args.by.now r.left c.args.kind c.args.term r.after answer c.requires.own r.run c.requires.well k)

pub returns-clause-run : goal.returns-clause-run
returns-clause-run g c =
    let C = g.C.Cells in
    let s = c.args.cells.now in
    let t = c.make.new.self in
    let st = c.make.ensures.step in
    makes_on (C.alone s) (C.leads s) (C.law s) (C.noted s) (C.seen s) (C.seen t) (C.held s) (C.held t) st.0 st.1 st.2 st.4.0 c.args.by.now c.args.kind c.args.term c.make.result c.requires.own c.make.ensures.held st.3 st.5

pub returns-clause-refused : goal.returns-clause-refused
returns-clause-refused g c =
    let C = g.C.Cells in
    let s = c.args.cells.now in
    let t = c.make.new.self in
    let st = c.make.ensures.step in
    makes_not (C.alone s) (C.leads s) (C.law s) (C.noted s) (C.seen s) (C.seen t) (C.held s) (C.held t) st.0 st.1 st.2 st.4.0 c.args.by.now c.args.kind c.args.term c.make.result c.requires.own c.make.ensures.held st.3

pub returns-clause-others : goal.returns-clause-others
returns-clause-others g c =
    let C = g.C.Cells in
    let s = c.args.cells.now in
    let t = c.make.new.self in
    let st = c.make.ensures.step in
    others_make (C.alone s) (C.leads s) (C.law s) (C.noted s) (C.seen s) (C.seen t) (C.held s) (C.held t) st.0 st.1 st.2 st.4.0 c.args.by.now c.args.kind c.args.term c.make.result c.make.ensures.held st.3

pub returns-clause-holds : goal.returns-clause-holds
returns-clause-holds g c =
    let C = g.C.Cells in
    let s = c.args.cells.now in
    let t = c.make.new.self in
    let st = c.make.ensures.step in
    holds_make (C.alone s) (C.leads s) (C.law s) (C.noted s) (C.seen s) (C.seen t) (C.held s) (C.held t) st.0 st.1 st.2 st.4.0 c.args.by.now c.args.kind c.args.term c.make.result c.make.ensures.held st.3

pub returns-clause-law : goal.returns-clause-law
returns-clause-law g c =
    let C = g.C.Cells in
    let s = c.args.cells.now in
    let t = c.make.new.self in
    let st = c.make.ensures.step in
    λ y left k o r. governs_on (C.alone s) (C.leads s) (C.law s) (C.noted s) (C.seen s) (C.held s) y o st.0 st.1 st.2 (C.alone t) (C.law t) (C.noted t) (g.met.C.Cells.same_alone s t c.make.ensures.same) (g.met.C.Cells.same_law s t c.make.ensures.same) (λ d e. g.met.C.Cells.noted_one t d e) st.4.1 (after_make (C.alone s) (C.leads s) (C.law s) (C.noted s) (C.seen s) (C.held s) y o st.0 st.1 st.2 c.args.by.now left c.args.kind c.args.term k c.make.result c.requires.own r c.requires.well st.3)

pub returns-clause-quiet : goal.returns-clause-quiet
returns-clause-quiet g c =
    let C = g.C.Cells in
    let s = c.args.cells.now in
    let t = c.make.new.self in
    let st = c.make.ensures.step in
    becomes (C.alone s) (C.leads s) (C.law s) (C.noted s) (C.noted t) (C.seen s) (C.held s) (MakesQuietly c.make.result) st.0 st.1 st.2 (λ d e. g.met.C.Cells.noted_one s d e) st.4.1 (makes_quietly st.0 st.1 c.args.by.now c.args.term c.args.kind c.make.result st.3)

pub returns-clause-names : goal.returns-clause-names
returns-clause-names g c =
    let C = g.C.Cells in
    let s = c.args.cells.now in
    let t = c.make.new.self in
    let st = c.make.ensures.step in
    λ y left k r names alike is. (let o = governed (C.alone s) (C.law s) (C.noted s) y names alike is in (good_on (C.alone s) (C.leads s) (C.law s) (C.noted s) (C.seen s) (C.held s) y o st.0 st.1 st.2 (C.alone t) (C.law t) (C.noted t) (g.met.C.Cells.same_alone s t c.make.ensures.same) (g.met.C.Cells.same_law s t c.make.ensures.same) (λ d e. g.met.C.Cells.noted_one t d e) st.4.1 (after_make (C.alone s) (C.leads s) (C.law s) (C.noted s) (C.seen s) (C.held s) y o st.0 st.1 st.2 c.args.by.now left c.args.kind c.args.term k c.make.result c.requires.own r c.requires.well st.3)))

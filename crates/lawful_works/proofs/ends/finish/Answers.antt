use Rattle.seq_values.specs.Plain.{plain}
use Rattle.seq_plan.specs.Plan.{give}
use Rattle.cell_book.proofs.Laws.{ended_held}
use Rattle.cell_book.proofs.Moves.{finishes_holds}
use Rattle.seq_lawful.proofs.OnRuns.{on_open}
use Rattle.lawful_works.proofs.Keeping.{good_now, open_now, after_finish, demand, governs_on, good_on, governed}
use Rattle.lawful_works.proofs.Asking.{holds_over}
use Rattle.lawful_works.proofs.Ending.{asked_or, stays_finished}
use Rattle.lawful_works.proofs.Making.{has_value}
use Rattle.lawful_works.specs.Alone.{Quiets}
use Rattle.lawful_works.proofs.Noting.{becomes, finishes_quietly}
use Rattle.lawful_works.proofs.ends.finish.Goals as goal

pub finish-requires-clause-own : goal.finish-requires-clause-own
finish-requires-clause-own g c =
    let C = g.C.Cells in
    let s = c.args.cells.now in
    let r = c.requires.run in
    (c.requires.own, on_open r.basis.rules r.basis.program r.basis.limit (C.seen s) c.args.work r.left (give (plain c.args.value)) r.run)

pub finish-requires-clause-keeps : goal.finish-requires-clause-keeps
finish-requires-clause-keeps g c =
    let C = g.C.Cells in
    let s = c.args.cells.now in
    let r = c.requires.run in
    λ a b f k. demand (C.alone s) (C.leads s) (C.law s) (C.noted s) (C.seen s) (C.held s) r.basis r.governs a b f (λ b is. g.met.C.Cells.alone_free s is b) (after_finish (C.alone s) (C.leads s) (C.law s) (C.noted s) (C.seen s) (C.held s) r.basis r.governs a b f c.args.work r.left c.args.value c.requires.own r.run c.requires.well k)

pub returns-clause-value : goal.returns-clause-value
returns-clause-value g c =
    let C = g.C.Cells in
    let s = c.args.cells.now in
    let t = c.finish.new.self in
    let st = c.finish.ensures.step in
    has_value st.0 st.1 (C.seen t) c.args.work c.args.value st.3 st.5

pub returns-clause-others : goal.returns-clause-others
returns-clause-others g c =
    let C = g.C.Cells in
    let s = c.args.cells.now in
    let t = c.finish.new.self in
    let st = c.finish.ensures.step in
    let r = c.requires.run in
    let o = on_open r.basis.rules r.basis.program r.basis.limit (C.seen s) c.args.work r.left (give (plain c.args.value)) r.run in
    let at = open_now (C.alone s) (C.leads s) (C.law s) (C.noted s) (C.seen s) (C.held s) r.basis r.governs st.0 st.1 st.2 c.args.work c.requires.own o in
    λ u own n. stays_finished (C.alone s) (C.leads s) (C.law s) (C.noted s) (C.seen s) (C.seen t) (C.held s) (C.held t) st.0 st.1 st.2 st.4.0 c.args.work u own (ended_held (C.held s) (C.held t) c.args.work u.claim (c.finish.ensures.held u.claim) n own) c.args.value n (asked_or r.governs.names r.basis.program r.basis.limit st.0 (good_now (C.alone s) (C.leads s) (C.law s) (C.noted s) (C.seen s) (C.held s) r.basis r.governs st.0 st.1 st.2).0 c.args.work at u.claim) st.3

pub returns-clause-holds : goal.returns-clause-holds
returns-clause-holds g c =
    let C = g.C.Cells in
    let s = c.args.cells.now in
    let t = c.finish.new.self in
    let st = c.finish.ensures.step in
    λ d own n. holds_over (C.alone s) (C.leads s) (C.law s) (C.noted s) (C.seen s) (C.seen t) (C.held s) (C.held t) st.0 st.1 st.2 st.4.0 d own (ended_held (C.held s) (C.held t) c.args.work d (c.finish.ensures.held d) n own) (finishes_holds st.0 st.1 c.args.work c.args.value d st.3 n)

pub returns-clause-law : goal.returns-clause-law
returns-clause-law g c =
    let C = g.C.Cells in
    let s = c.args.cells.now in
    let t = c.finish.new.self in
    let st = c.finish.ensures.step in
    λ y left o r. governs_on (C.alone s) (C.leads s) (C.law s) (C.noted s) (C.seen s) (C.held s) y o st.0 st.1 st.2 (C.alone t) (C.law t) (C.noted t) (g.met.C.Cells.same_alone s t c.finish.ensures.same) (g.met.C.Cells.same_law s t c.finish.ensures.same) (λ d e. g.met.C.Cells.noted_one t d e) st.4.1 (after_finish (C.alone s) (C.leads s) (C.law s) (C.noted s) (C.seen s) (C.held s) y o st.0 st.1 st.2 c.args.work left c.args.value c.requires.own r c.requires.well st.3)

pub returns-clause-quiet : goal.returns-clause-quiet
returns-clause-quiet g c =
    let C = g.C.Cells in
    let s = c.args.cells.now in
    let t = c.finish.new.self in
    let st = c.finish.ensures.step in
    becomes (C.alone s) (C.leads s) (C.law s) (C.noted s) (C.noted t) (C.seen s) (C.held s) Quiets st.0 st.1 st.2 (λ d e. g.met.C.Cells.noted_one s d e) st.4.1 (finishes_quietly st.0 st.1 c.args.work c.args.value st.3)

pub returns-clause-names : goal.returns-clause-names
returns-clause-names g c =
    let C = g.C.Cells in
    let s = c.args.cells.now in
    let t = c.finish.new.self in
    let st = c.finish.ensures.step in
    λ y left r names alike is. (let o = governed (C.alone s) (C.law s) (C.noted s) y names alike is in (good_on (C.alone s) (C.leads s) (C.law s) (C.noted s) (C.seen s) (C.held s) y o st.0 st.1 st.2 (C.alone t) (C.law t) (C.noted t) (g.met.C.Cells.same_alone s t c.finish.ensures.same) (g.met.C.Cells.same_law s t c.finish.ensures.same) (λ d e. g.met.C.Cells.noted_one t d e) st.4.1 (after_finish (C.alone s) (C.leads s) (C.law s) (C.noted s) (C.seen s) (C.held s) y o st.0 st.1 st.2 c.args.work left c.args.value c.requires.own r c.requires.well st.3)))

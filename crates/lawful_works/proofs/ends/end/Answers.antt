use Rattle.seq_plan.specs.Plan.{throw}
use Rattle.cell_book.proofs.Laws.{ended_held}
use Rattle.cell_book.proofs.Moves.{fails_holds}
use Rattle.seq_lawful.proofs.OnRuns.{on_open}
use Rattle.lawful_works.proofs.Keeping.{good_now, after_fail, demand, governs_on, good_on, governed}
use Rattle.lawful_works.proofs.Asking.{holds_over}
use Rattle.lawful_works.proofs.Ending.{stays_failed, throws_failed}
use Rattle.lawful_works.specs.Alone.{Quiets}
use Rattle.lawful_works.proofs.Noting.{becomes, fails_quietly, has_error}
use Rattle.lawful_works.proofs.ends.end.Goals as goal

pub fail-requires-clause-own : goal.fail-requires-clause-own
fail-requires-clause-own g c =
    let C = g.C.Cells in
    let s = c.args.cells.now in
    let r = c.requires.run in
    (c.requires.own, on_open r.basis.rules r.basis.program r.basis.limit (C.seen s) c.args.work r.left (throw c.args.why) r.run)

pub fail-requires-clause-keeps : goal.fail-requires-clause-keeps
fail-requires-clause-keeps g c =
    let C = g.C.Cells in
    let s = c.args.cells.now in
    let r = c.requires.run in
    λ a b f k. demand (C.alone s) (C.leads s) (C.law s) (C.noted s) (C.seen s) (C.held s) r.basis r.governs a b f (λ b is. g.met.C.Cells.alone_free s is b) (after_fail (C.alone s) (C.leads s) (C.law s) (C.noted s) (C.seen s) (C.held s) r.basis r.governs a b f c.args.work r.left c.args.why c.requires.own r.run k)

pub returns-clause-asker : goal.returns-clause-asker
returns-clause-asker g c =
    let C = g.C.Cells in
    let s = c.args.cells.now in
    let t = c.fail.new.self in
    let st = c.fail.ensures.step in
    let r = c.requires.run in
    λ u d own n on. throws_failed (C.alone s) (C.leads s) (C.law s) (C.noted s) (C.seen s) (C.seen t) (C.held s) (C.held t) st.0 st.1 st.2 st.4.0 c.args.work u own (ended_held (C.held s) (C.held t) c.args.work u.claim (c.fail.ensures.held u.claim) n own) r.governs.names r.basis.program r.basis.limit (good_now (C.alone s) (C.leads s) (C.law s) (C.noted s) (C.seen s) (C.held s) r.basis r.governs st.0 st.1 st.2).0 c.requires.own c.args.why d n on st.3 st.5

pub returns-clause-others : goal.returns-clause-others
returns-clause-others g c =
    let C = g.C.Cells in
    let s = c.args.cells.now in
    let t = c.fail.new.self in
    let st = c.fail.ensures.step in
    let r = c.requires.run in
    λ u asker own n for other. stays_failed (C.alone s) (C.leads s) (C.law s) (C.noted s) (C.seen s) (C.seen t) (C.held s) (C.held t) st.0 st.1 st.2 st.4.0 c.args.work u own (ended_held (C.held s) (C.held t) c.args.work u.claim (c.fail.ensures.held u.claim) n own) r.governs.names r.basis.program r.basis.limit (good_now (C.alone s) (C.leads s) (C.law s) (C.noted s) (C.seen s) (C.held s) r.basis r.governs st.0 st.1 st.2).0 c.requires.own c.args.why asker n for other st.3

pub returns-clause-holds : goal.returns-clause-holds
returns-clause-holds g c =
    let C = g.C.Cells in
    let s = c.args.cells.now in
    let t = c.fail.new.self in
    let st = c.fail.ensures.step in
    λ d own n. holds_over (C.alone s) (C.leads s) (C.law s) (C.noted s) (C.seen s) (C.seen t) (C.held s) (C.held t) st.0 st.1 st.2 st.4.0 d own (ended_held (C.held s) (C.held t) c.args.work d (c.fail.ensures.held d) n own) (fails_holds st.0 st.1 c.args.work c.args.why d st.3 n)

pub returns-clause-law : goal.returns-clause-law
returns-clause-law g c =
    let C = g.C.Cells in
    let s = c.args.cells.now in
    let t = c.fail.new.self in
    let st = c.fail.ensures.step in
    λ y left o r. governs_on (C.alone s) (C.leads s) (C.law s) (C.noted s) (C.seen s) (C.held s) y o st.0 st.1 st.2 (C.alone t) (C.law t) (C.noted t) (g.met.C.Cells.same_alone s t c.fail.ensures.same) (g.met.C.Cells.same_law s t c.fail.ensures.same) (λ d e. g.met.C.Cells.noted_one t d e) st.4.1 (after_fail (C.alone s) (C.leads s) (C.law s) (C.noted s) (C.seen s) (C.held s) y o st.0 st.1 st.2 c.args.work left c.args.why c.requires.own r st.3)

pub returns-clause-quiet : goal.returns-clause-quiet
returns-clause-quiet g c =
    let C = g.C.Cells in
    let s = c.args.cells.now in
    let t = c.fail.new.self in
    let st = c.fail.ensures.step in
    becomes (C.alone s) (C.leads s) (C.law s) (C.noted s) (C.noted t) (C.seen s) (C.held s) Quiets st.0 st.1 st.2 (λ d e. g.met.C.Cells.noted_one s d e) st.4.1 (fails_quietly st.0 st.1 c.args.work c.args.why st.3)

pub returns-clause-error : goal.returns-clause-error
returns-clause-error g c =
    let C = g.C.Cells in
    let t = c.fail.new.self in
    let st = c.fail.ensures.step in
    has_error st.0 st.1 (C.seen t) c.args.work c.args.why st.3 st.5

pub returns-clause-names : goal.returns-clause-names
returns-clause-names g c =
    let C = g.C.Cells in
    let s = c.args.cells.now in
    let t = c.fail.new.self in
    let st = c.fail.ensures.step in
    λ y left r names alike is. (let o = governed (C.alone s) (C.law s) (C.noted s) y names alike is in (good_on (C.alone s) (C.leads s) (C.law s) (C.noted s) (C.seen s) (C.held s) y o st.0 st.1 st.2 (C.alone t) (C.law t) (C.noted t) (g.met.C.Cells.same_alone s t c.fail.ensures.same) (g.met.C.Cells.same_law s t c.fail.ensures.same) (λ d e. g.met.C.Cells.noted_one t d e) st.4.1 (after_fail (C.alone s) (C.leads s) (C.law s) (C.noted s) (C.seen s) (C.held s) y o st.0 st.1 st.2 c.args.work left c.args.why c.requires.own r st.3)))

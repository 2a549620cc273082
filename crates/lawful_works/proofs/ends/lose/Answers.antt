use Rattle.cell_book.proofs.Laws.{ended_held}
use Rattle.cell_book.proofs.Moves.{gives_up_holds}
use Rattle.lawful_works.proofs.Keeping.{good_now, open_now, after_give_up, demand, governs_on, good_on, governed}
use Rattle.lawful_works.proofs.Asking.{holds_over}
use Rattle.lawful_works.proofs.Ending.{asked_or, stays_given_up}
use Rattle.lawful_works.specs.Alone.{Grows}
use Rattle.lawful_works.proofs.Noting.{becomes, gives_up_growing}
use Rattle.lawful_works.proofs.ends.lose.Goals as goal

pub give_up-requires-clause-own : goal.give_up-requires-clause-own
give_up-requires-clause-own g c =
    (c.requires.own, c.requires.open)

pub give_up-requires-clause-keeps : goal.give_up-requires-clause-keeps
give_up-requires-clause-keeps g c =
    let C = g.C.Cells in
    let s = c.args.cells.now in
    let r = c.requires.law in
    λ a b f k. demand (C.alone s) (C.leads s) (C.law s) (C.noted s) (C.seen s) (C.held s) r.basis r.governs a b f (λ b is. g.met.C.Cells.alone_free s is b) (after_give_up (C.alone s) (C.leads s) (C.law s) (C.noted s) (C.seen s) (C.held s) r.basis r.governs a b f c.args.work c.requires.own c.requires.open k)

pub returns-clause-others : goal.returns-clause-others
returns-clause-others g c =
    let C = g.C.Cells in
    let s = c.args.cells.now in
    let t = c.give_up.new.self in
    let st = c.give_up.ensures.step in
    let r = c.requires.law in
    let at = open_now (C.alone s) (C.leads s) (C.law s) (C.noted s) (C.seen s) (C.held s) r.basis r.governs st.0 st.1 st.2 c.args.work c.requires.own c.requires.open in
    λ u own n. stays_given_up (C.alone s) (C.leads s) (C.law s) (C.noted s) (C.seen s) (C.seen t) (C.held s) (C.held t) st.0 st.1 st.2 st.4.0 c.args.work u own (ended_held (C.held s) (C.held t) c.args.work u.claim (c.give_up.ensures.held u.claim) n own) n (asked_or r.governs.names r.basis.program r.basis.limit st.0 (good_now (C.alone s) (C.leads s) (C.law s) (C.noted s) (C.seen s) (C.held s) r.basis r.governs st.0 st.1 st.2).0 c.args.work at u.claim) st.3

pub returns-clause-holds : goal.returns-clause-holds
returns-clause-holds g c =
    let C = g.C.Cells in
    let s = c.args.cells.now in
    let t = c.give_up.new.self in
    let st = c.give_up.ensures.step in
    λ d own n. holds_over (C.alone s) (C.leads s) (C.law s) (C.noted s) (C.seen s) (C.seen t) (C.held s) (C.held t) st.0 st.1 st.2 st.4.0 d own (ended_held (C.held s) (C.held t) c.args.work d (c.give_up.ensures.held d) n own) (gives_up_holds st.0 st.1 c.args.work d st.3 n)

pub returns-clause-law : goal.returns-clause-law
returns-clause-law g c =
    let C = g.C.Cells in
    let s = c.args.cells.now in
    let t = c.give_up.new.self in
    let st = c.give_up.ensures.step in
    λ y o. governs_on (C.alone s) (C.leads s) (C.law s) (C.noted s) (C.seen s) (C.held s) y o st.0 st.1 st.2 (C.alone t) (C.law t) (C.noted t) (g.met.C.Cells.same_alone s t c.give_up.ensures.same) (g.met.C.Cells.same_law s t c.give_up.ensures.same) (λ d e. g.met.C.Cells.noted_one t d e) st.4.1 (after_give_up (C.alone s) (C.leads s) (C.law s) (C.noted s) (C.seen s) (C.held s) y o st.0 st.1 st.2 c.args.work c.requires.own c.requires.open st.3)

pub returns-clause-quiet : goal.returns-clause-quiet
returns-clause-quiet g c =
    let C = g.C.Cells in
    let s = c.args.cells.now in
    let t = c.give_up.new.self in
    let st = c.give_up.ensures.step in
    becomes (C.alone s) (C.leads s) (C.law s) (C.noted s) (C.noted t) (C.seen s) (C.held s) Grows st.0 st.1 st.2 (λ d e. g.met.C.Cells.noted_one s d e) st.4.1 (gives_up_growing st.0 st.1 c.args.work st.3)

pub returns-clause-names : goal.returns-clause-names
returns-clause-names g c =
    let C = g.C.Cells in
    let s = c.args.cells.now in
    let t = c.give_up.new.self in
    let st = c.give_up.ensures.step in
    λ y names alike is. (let o = governed (C.alone s) (C.law s) (C.noted s) y names alike is in (good_on (C.alone s) (C.leads s) (C.law s) (C.noted s) (C.seen s) (C.held s) y o st.0 st.1 st.2 (C.alone t) (C.law t) (C.noted t) (g.met.C.Cells.same_alone s t c.give_up.ensures.same) (g.met.C.Cells.same_law s t c.give_up.ensures.same) (λ d e. g.met.C.Cells.noted_one t d e) st.4.1 (after_give_up (C.alone s) (C.leads s) (C.law s) (C.noted s) (C.seen s) (C.held s) y o st.0 st.1 st.2 c.args.work c.requires.own c.requires.open st.3)))

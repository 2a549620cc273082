use Rattle.cell_book.proofs.Moves.{looks_onward}
use Rattle.lawful_works.proofs.Keeping.{after_same, governs_on, good_on, governed}
use Rattle.lawful_works.proofs.Asking.{holds_over, stays_over, looked_at}
use Rattle.lawful_works.proofs.Making.{still_same}
use Rattle.lawful_works.specs.Alone.{Quiets}
use Rattle.lawful_works.proofs.Noting.{becomes, looks_quietly}
use Rattle.lawful_works.proofs.asks.see.Goals as goal

pub returns-clause-run : goal.returns-clause-run
returns-clause-run g c =
    let C = g.C.Cells in
    let s = c.args.cells.now in
    let t = c.look.new.self in
    let st = c.look.ensures.step in
    looked_at (C.alone s) (C.leads s) (C.law s) (C.noted s) (C.seen s) (C.seen t) (C.held s) (C.held t) st.0 st.1 st.2 st.4.0 c.args.by.now c.args.id c.look.result c.requires.own (still_same (C.held s) (C.held t) c.args.by.now.claim c.look.ensures.held c.requires.own) c.requires.run st.3 st.5

pub returns-clause-others : goal.returns-clause-others
returns-clause-others g c =
    let C = g.C.Cells in
    let s = c.args.cells.now in
    let t = c.look.new.self in
    let st = c.look.ensures.step in
    λ u own. stays_over (C.alone s) (C.leads s) (C.law s) (C.noted s) (C.seen s) (C.seen t) (C.held s) (C.held t) st.0 st.1 st.2 st.4.0 u own (still_same (C.held s) (C.held t) u.claim c.look.ensures.held own) (looks_onward st.0 st.1 c.args.id c.look.result u.claim st.3)

pub returns-clause-holds : goal.returns-clause-holds
returns-clause-holds g c =
    let C = g.C.Cells in
    let s = c.args.cells.now in
    let t = c.look.new.self in
    let st = c.look.ensures.step in
    λ d own. holds_over (C.alone s) (C.leads s) (C.law s) (C.noted s) (C.seen s) (C.seen t) (C.held s) (C.held t) st.0 st.1 st.2 st.4.0 d own (still_same (C.held s) (C.held t) d c.look.ensures.held own) (looks_onward st.0 st.1 c.args.id c.look.result d st.3).holds

pub returns-clause-law : goal.returns-clause-law
returns-clause-law g c =
    let C = g.C.Cells in
    let s = c.args.cells.now in
    let t = c.look.new.self in
    let st = c.look.ensures.step in
    λ y o. governs_on (C.alone s) (C.leads s) (C.law s) (C.noted s) (C.seen s) (C.held s) y o st.0 st.1 st.2 (C.alone t) (C.law t) (C.noted t) (g.met.C.Cells.same_alone s t c.look.ensures.same) (g.met.C.Cells.same_law s t c.look.ensures.same) (λ d e. g.met.C.Cells.noted_one t d e) st.4.1 (after_same (C.alone s) (C.leads s) (C.law s) (C.noted s) (C.seen s) (C.held s) y o st.0 st.1 st.2 st.3.0)

pub returns-clause-quiet : goal.returns-clause-quiet
returns-clause-quiet g c =
    let C = g.C.Cells in
    let s = c.args.cells.now in
    let t = c.look.new.self in
    let st = c.look.ensures.step in
    becomes (C.alone s) (C.leads s) (C.law s) (C.noted s) (C.noted t) (C.seen s) (C.held s) Quiets st.0 st.1 st.2 (λ d e. g.met.C.Cells.noted_one s d e) st.4.1 (looks_quietly st.0 st.1 c.args.id c.look.result st.3)

pub returns-clause-names : goal.returns-clause-names
returns-clause-names g c =
    let C = g.C.Cells in
    let s = c.args.cells.now in
    let t = c.look.new.self in
    let st = c.look.ensures.step in
    λ y names alike is. (let o = governed (C.alone s) (C.law s) (C.noted s) y names alike is in (good_on (C.alone s) (C.leads s) (C.law s) (C.noted s) (C.seen s) (C.held s) y o st.0 st.1 st.2 (C.alone t) (C.law t) (C.noted t) (g.met.C.Cells.same_alone s t c.look.ensures.same) (g.met.C.Cells.same_law s t c.look.ensures.same) (λ d e. g.met.C.Cells.noted_one t d e) st.4.1 (after_same (C.alone s) (C.leads s) (C.law s) (C.noted s) (C.seen s) (C.held s) y o st.0 st.1 st.2 st.3.0)))

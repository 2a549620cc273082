use Rattle.lawful_works.proofs.Keeping.{good_now, after_begin, demand, governs_on, good_on, governed}
use Rattle.lawful_works.proofs.Making.{opens_form, others_begin}
use Rattle.lawful_works.specs.Alone.{BeginsQuietly}
use Rattle.lawful_works.proofs.Noting.{becomes, begins_quietly}
use Rattle.lawful_works.proofs.ends.begin.Goals as goal

pub begin_form-requires-clause-keeps : goal.begin_form-requires-clause-keeps
begin_form-requires-clause-keeps g c =
    let C = g.C.Cells in
    let s = c.args.cells.now in
    let r = c.requires.next in
    λ a b answer f k. demand (C.alone s) (C.leads s) (C.law s) (C.noted s) (C.seen s) (C.held s) r.basis r.governs a b f (λ b is. g.met.C.Cells.alone_free s is b) (after_begin (C.alone s) (C.leads s) (C.law s) (C.noted s) (C.seen s) (C.held s) r.basis r.governs a b f (λ d e. g.met.C.Cells.noted_one s d e) c.requires.leads c.args.form r.book r.known r.may answer k)

pub returns-clause-opened : goal.returns-clause-opened
returns-clause-opened g c =
    let C = g.C.Cells in
    let s = c.args.cells.now in
    let t = c.begin_form.new.self in
    let st = c.begin_form.ensures.step in
    let r = c.requires.next in
    opens_form (C.alone s) (C.leads s) (C.law s) (C.noted s) (C.seen s) (C.seen t) (C.held s) (C.held t) st.0 st.1 st.2 st.4.0 c.args.form c.begin_form.result (good_now (C.alone s) (C.leads s) (C.law s) (C.noted s) (C.seen s) (C.held s) r.basis r.governs st.0 st.1 st.2).1 c.requires.leads c.begin_form.ensures.held st.3 st.5

pub returns-clause-others : goal.returns-clause-others
returns-clause-others g c =
    let C = g.C.Cells in
    let s = c.args.cells.now in
    let t = c.begin_form.new.self in
    let st = c.begin_form.ensures.step in
    others_begin (C.alone s) (C.leads s) (C.law s) (C.noted s) (C.seen s) (C.seen t) (C.held s) (C.held t) st.0 st.1 st.2 st.4.0 c.args.form c.begin_form.result c.begin_form.ensures.fresh c.begin_form.ensures.held st.3

pub returns-clause-law : goal.returns-clause-law
returns-clause-law g c =
    let C = g.C.Cells in
    let s = c.args.cells.now in
    let t = c.begin_form.new.self in
    let st = c.begin_form.ensures.step in
    let r = c.requires.next in
    record { basis = r.basis; governs = governs_on (C.alone s) (C.leads s) (C.law s) (C.noted s) (C.seen s) (C.held s) r.basis r.governs st.0 st.1 st.2 (C.alone t) (C.law t) (C.noted t) (g.met.C.Cells.same_alone s t c.begin_form.ensures.same) (g.met.C.Cells.same_law s t c.begin_form.ensures.same) (λ d e. g.met.C.Cells.noted_one t d e) st.4.1 (after_begin (C.alone s) (C.leads s) (C.law s) (C.noted s) (C.seen s) (C.held s) r.basis r.governs st.0 st.1 st.2 (λ d e. g.met.C.Cells.noted_one s d e) c.requires.leads c.args.form r.book r.known r.may c.begin_form.result st.3) }

pub returns-clause-quiet : goal.returns-clause-quiet
returns-clause-quiet g c =
    let C = g.C.Cells in
    let s = c.args.cells.now in
    let t = c.begin_form.new.self in
    let st = c.begin_form.ensures.step in
    becomes (C.alone s) (C.leads s) (C.law s) (C.noted s) (C.noted t) (C.seen s) (C.held s) (BeginsQuietly c.args.form c.begin_form.result) st.0 st.1 st.2 (λ d e. g.met.C.Cells.noted_one s d e) st.4.1 (begins_quietly st.0 st.1 c.args.form c.begin_form.result st.3)

pub returns-clause-names : goal.returns-clause-names
returns-clause-names g c =
    let C = g.C.Cells in
    let s = c.args.cells.now in
    let t = c.begin_form.new.self in
    let st = c.begin_form.ensures.step in
    λ y m n may names alike is. (let o = governed (C.alone s) (C.law s) (C.noted s) y names alike is in (good_on (C.alone s) (C.leads s) (C.law s) (C.noted s) (C.seen s) (C.held s) y o st.0 st.1 st.2 (C.alone t) (C.law t) (C.noted t) (g.met.C.Cells.same_alone s t c.begin_form.ensures.same) (g.met.C.Cells.same_law s t c.begin_form.ensures.same) (λ d e. g.met.C.Cells.noted_one t d e) st.4.1 (after_begin (C.alone s) (C.leads s) (C.law s) (C.noted s) (C.seen s) (C.held s) y o st.0 st.1 st.2 (λ d e. g.met.C.Cells.noted_one s d e) c.requires.leads c.args.form m n may c.begin_form.result st.3)))

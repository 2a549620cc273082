use Rattle.std.proofs.Common.{None}
use Rattle.lawful_works.proofs.Keeping.{good_now, after_claim_future, demand, governs_on, good_on, governed}
use Rattle.lawful_works.proofs.Asking.{opens_work, others_claim, holds_claim, no_asker, none_other}
use Rattle.lawful_works.specs.Alone.{ClaimsQuietly}
use Rattle.lawful_works.proofs.Noting.{becomes, claims_quietly}
use Rattle.lawful_works.proofs.asks.start.Goals as goal

pub claim-requires-clause-own : goal.claim-requires-clause-own
claim-requires-clause-own g c =
    let C = g.C.Cells in
    let s = c.args.cells.now in
    let r = c.requires.future in
    (r.cell, r.at, r.future)

pub claim-requires-clause-keeps : goal.claim-requires-clause-keeps
claim-requires-clause-keeps g c =
    let C = g.C.Cells in
    let s = c.args.cells.now in
    let r = c.requires.future in
    λ a b answer f k. demand (C.alone s) (C.leads s) (C.law s) (C.noted s) (C.seen s) (C.held s) r.basis r.governs a b f (λ b is. g.met.C.Cells.alone_free s is b) (after_claim_future (C.alone s) (C.leads s) (C.law s) (C.noted s) (C.seen s) (C.held s) r.basis r.governs a b f c.args.id r.cell None answer r.at r.future k)

pub returns-clause-opened : goal.returns-clause-opened
returns-clause-opened g c =
    let C = g.C.Cells in
    let s = c.args.cells.now in
    let t = c.claim.new.self in
    let st = c.claim.ensures.step in
    let r = c.requires.future in
    opens_work (C.alone s) (C.leads s) (C.law s) (C.noted s) (C.seen s) (C.seen t) (C.held s) (C.held t) st.0 st.1 st.2 st.4.0 None c.args.id c.claim.result (good_now (C.alone s) (C.leads s) (C.law s) (C.noted s) (C.seen s) (C.held s) r.basis r.governs st.0 st.1 st.2).1 (no_asker c.claim.result) c.claim.ensures.held st.3 st.5

pub returns-clause-others : goal.returns-clause-others
returns-clause-others g c =
    let C = g.C.Cells in
    let s = c.args.cells.now in
    let t = c.claim.new.self in
    let st = c.claim.ensures.step in
    λ u own. others_claim (C.alone s) (C.leads s) (C.law s) (C.noted s) (C.seen s) (C.seen t) (C.held s) (C.held t) st.0 st.1 st.2 st.4.0 None c.args.id c.claim.result u c.claim.ensures.fresh c.claim.ensures.held st.3 own (none_other u.claim)

pub returns-clause-holds : goal.returns-clause-holds
returns-clause-holds g c =
    let C = g.C.Cells in
    let s = c.args.cells.now in
    let t = c.claim.new.self in
    let st = c.claim.ensures.step in
    λ d own. holds_claim (C.alone s) (C.leads s) (C.law s) (C.noted s) (C.seen s) (C.seen t) (C.held s) (C.held t) st.0 st.1 st.2 st.4.0 None c.args.id c.claim.result d c.claim.ensures.fresh c.claim.ensures.held st.3 own

pub returns-clause-law : goal.returns-clause-law
returns-clause-law g c =
    let C = g.C.Cells in
    let s = c.args.cells.now in
    let t = c.claim.new.self in
    let st = c.claim.ensures.step in
    let r = c.requires.future in
    λ y o. governs_on (C.alone s) (C.leads s) (C.law s) (C.noted s) (C.seen s) (C.held s) y o st.0 st.1 st.2 (C.alone t) (C.law t) (C.noted t) (g.met.C.Cells.same_alone s t c.claim.ensures.same) (g.met.C.Cells.same_law s t c.claim.ensures.same) (λ d e. g.met.C.Cells.noted_one t d e) st.4.1 (after_claim_future (C.alone s) (C.leads s) (C.law s) (C.noted s) (C.seen s) (C.held s) y o st.0 st.1 st.2 c.args.id r.cell None c.claim.result r.at r.future st.3)

pub returns-clause-quiet : goal.returns-clause-quiet
returns-clause-quiet g c =
    let C = g.C.Cells in
    let s = c.args.cells.now in
    let t = c.claim.new.self in
    let st = c.claim.ensures.step in
    becomes (C.alone s) (C.leads s) (C.law s) (C.noted s) (C.noted t) (C.seen s) (C.held s) (ClaimsQuietly c.claim.result) st.0 st.1 st.2 (λ d e. g.met.C.Cells.noted_one s d e) st.4.1 (claims_quietly st.0 st.1 c.args.id None c.claim.result st.3)

pub returns-clause-names : goal.returns-clause-names
returns-clause-names g c =
    let C = g.C.Cells in
    let s = c.args.cells.now in
    let t = c.claim.new.self in
    let st = c.claim.ensures.step in
    let r = c.requires.future in
    λ y names alike is. (let o = governed (C.alone s) (C.law s) (C.noted s) y names alike is in (good_on (C.alone s) (C.leads s) (C.law s) (C.noted s) (C.seen s) (C.held s) y o st.0 st.1 st.2 (C.alone t) (C.law t) (C.noted t) (g.met.C.Cells.same_alone s t c.claim.ensures.same) (g.met.C.Cells.same_law s t c.claim.ensures.same) (λ d e. g.met.C.Cells.noted_one t d e) st.4.1 (after_claim_future (C.alone s) (C.leads s) (C.law s) (C.noted s) (C.seen s) (C.held s) y o st.0 st.1 st.2 c.args.id r.cell None c.claim.result r.at r.future st.3)))

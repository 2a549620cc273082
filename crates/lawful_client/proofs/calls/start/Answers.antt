use Rattle.lawful_client.proofs.Starting.{claims_starts, no_asker}
use Rattle.seq_lawful.specs.Lawful.{Lawful}
use Rattle.seq_lawful.proofs.Keeps.{kept}
use Rattle.seq_lawful.proofs.Discharge.{keeps_claim_future}
use Rattle.std.proofs.Common.{None}
use Rattle.lawful_client.proofs.calls.start.Goals as goal

pub claim-requires-clause-keeps : goal.claim-requires-clause-keeps
claim-requires-clause-keeps g c =
    let C = g.C.Cells in
    let s = c.args.cells.now in
    let r = c.requires.run in
    let u = r.ruled in
    keeps_claim_future (C.law s) (C.noted s) (Lawful u.rules u.program u.limit) u.numeric u.program u.limit (kept u.numeric u.rules u.program u.limit u.alike) (C.alone s) (C.leads s) (C.seen s) (C.held s) u.is (λ b is. g.met.C.Cells.alone_free s is b) c.args.id r.cell None r.at r.future

pub returns : goal.returns
returns g c =
    let C = g.C.Cells in
    let s = c.args.cells.now in
    let t = c.claim.new.self in
    let st = c.claim.ensures.step in
    record { starts = claims_starts (C.leads s) st.0 st.1 c.args.id None c.claim.result (C.seen s) (C.seen t) (C.held s) (C.held t) st.3 st.4.0 c.claim.ensures.held st.5 (no_asker c.claim.result) }

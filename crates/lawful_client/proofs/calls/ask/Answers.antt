use Rattle.lawful_client.proofs.Starting.{claims_starts, asker_apart}
use Rattle.std.proofs.Common.{Some}
use Rattle.seq_lawful.specs.Lawful.{Lawful}
use Rattle.seq_lawful.proofs.Keeps.{kept}
use Rattle.seq_lawful.proofs.Discharge.{keeps_claim}
use Rattle.lawful_client.proofs.calls.ask.Goals as goal

pub claim-requires-clause-keeps : goal.claim-requires-clause-keeps
claim-requires-clause-keeps g c =
    let C = g.C.Cells in
    let s = c.args.cells.now in
    let r = c.requires.run in
    let u = r.ruled in
    keeps_claim (C.law s) (C.noted s) (Lawful u.rules u.program u.limit) u.numeric u.program u.limit (kept u.numeric u.rules u.program u.limit u.alike) (C.alone s) (C.leads s) (C.seen s) (C.held s) u.is c.args.by.now c.requires.own.0 (λ b is. g.met.C.Cells.alone_free s is b) r.left c.args.id r.then r.run

pub returns : goal.returns
returns g c =
    let C = g.C.Cells in
    let s = c.args.cells.now in
    let t = c.claim.new.self in
    let st = c.claim.ensures.step in
    record { starts = claims_starts (C.leads s) st.0 st.1 c.args.id (Some c.args.by.now.claim) c.claim.result (C.seen s) (C.seen t) (C.held s) (C.held t) st.3 st.4.0 c.claim.ensures.held st.5 (asker_apart (C.held s) c.args.by.now c.claim.result c.requires.own.0 c.claim.ensures.fresh) }

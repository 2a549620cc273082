use Rattle.seq_lawful.specs.Lawful.{Lawful}
use Rattle.seq_lawful.proofs.Keeps.{kept}
use Rattle.seq_lawful.proofs.Discharge.{keeps_fail}
use Rattle.lawful_client.proofs.calls.end.Goals as goal

pub fail-requires-clause-keeps : goal.fail-requires-clause-keeps
fail-requires-clause-keeps g c =
    let C = g.C.Cells in
    let s = c.args.cells.now in
    let r = c.requires.run in
    let u = r.ruled in
    keeps_fail (C.law s) (C.noted s) (Lawful u.rules u.program u.limit) u.numeric u.program u.limit (kept u.numeric u.rules u.program u.limit u.alike) (C.alone s) (C.leads s) (C.seen s) (C.held s) u.is c.args.work c.requires.own.0 (λ b is. g.met.C.Cells.alone_free s is b) r.left c.args.why r.run

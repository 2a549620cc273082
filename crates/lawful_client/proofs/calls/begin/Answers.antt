use Rattle.lawful_client.proofs.Starting.{begins_starts}
use Rattle.seq_lawful.specs.Lawful.{Lawful}
use Rattle.seq_lawful.proofs.Keeps.{kept}
use Rattle.seq_lawful.proofs.Discharge.{keeps_begin}
use Rattle.lawful_client.proofs.calls.begin.Goals as goal

pub begin_form-requires-clause-keeps : goal.begin_form-requires-clause-keeps
begin_form-requires-clause-keeps g c =
    let C = g.C.Cells in
    let s = c.args.cells.now in
    let r = c.requires.run in
    let u = r.ruled in
    keeps_begin (C.law s) (C.noted s) (Lawful u.rules u.program u.limit) u.numeric u.program u.limit (kept u.numeric u.rules u.program u.limit u.alike) (C.alone s) (C.leads s) (C.seen s) (C.held s) u.is (λ b is. g.met.C.Cells.alone_free s is b) (λ x y. g.met.C.Cells.noted_one s x y) c.requires.leads c.args.form r.book r.known r.may

pub returns : goal.returns
returns g c =
    let C = g.C.Cells in
    let s = c.args.cells.now in
    let t = c.begin_form.new.self in
    let st = c.begin_form.ensures.step in
    record { starts = begins_starts (C.alone s) (C.leads s) (C.law s) (C.noted s) st.0 st.1 c.args.form c.begin_form.result (C.seen s) (C.seen t) (C.held s) (C.held t) c.requires.leads st.2 st.3 st.4.0 c.begin_form.ensures.held st.5 }

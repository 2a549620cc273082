use Rattle.eval_frames.specs.Frames.{ground}
use Rattle.eval_works.proofs.Leading.{told_ok}
use Rattle.lawful_works.specs.Alone.{Grows, Quiets}
use Rattle.eval_works.specs.Meanwhile.{HaltNotes, Meanwhile}
use Rattle.eval_works.proofs.Meanwhile.{becomes_also, halted, quiet_meanwhile}
use Rattle.eval_works.proofs.parts.look.Goals as goal

pub returns-in-Ok-clause-run : goal.returns-in-Ok-clause-run
returns-in-Ok-clause-run g c =
    let C = g.C.Cells in
    told_ok (ground g.R.Rule.running g.R.Rules.table c.args.code.now) c.args.limit (C.seen c.args.cells.now) (C.seen c.see.new.cells) c.args.work.now c.requires.goes c.args.asker (c.see.ensures.others c.args.work.now c.requires.own) c.requires.run c.in-Ok.look c.told.result c.told.ensures.told c.in-Ok.ensures.run

pub returns-in-Ok-clause-quiet : goal.returns-in-Ok-clause-quiet
returns-in-Ok-clause-quiet g c = becomes_also (g.C.Cells.alone c.args.cells.now) (g.C.Cells.noted c.args.cells.now) (g.C.Cells.noted c.see.new.cells) Quiets (Meanwhile c.told.result) (quiet_meanwhile c.told.result c.told.ensures.halts) c.see.ensures.quiet

pub returns-in-Err-clause-quiet : goal.returns-in-Err-clause-quiet
returns-in-Err-clause-quiet g c = becomes_also (g.C.Cells.alone c.args.cells.now) (g.C.Cells.noted c.args.cells.now) (g.C.Cells.noted c.see.new.cells) Quiets (λ a b. Grows a b × HaltNotes c.forgotten.result a b) (halted c.forgotten.result c.forgotten.ensures) c.see.ensures.quiet

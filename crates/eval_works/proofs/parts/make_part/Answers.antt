use Rattle.eval_frames.specs.Frames.{ground, beneath, maker_plan}
use Rattle.eval_works.specs.Standing.{basis}
use Rattle.eval_works.proofs.Leading.{led_ok}
use Rattle.lawful_works.specs.Alone.{Grows, MakesQuietly}
use Rattle.eval_works.specs.Meanwhile.{HaltNotes, Meanwhile}
use Rattle.eval_works.proofs.Meanwhile.{becomes_also, made_meanwhile, unmade_meanwhile}
use Rattle.eval_works.proofs.parts.make_part.Goals as goal

pub returns-in-Ok-clause-run : goal.returns-in-Ok-clause-run
returns-in-Ok-clause-run g c =
    let by = (ground g.R.Rule.running g.R.Rules.table c.args.code.now) in
    let k = maker_plan by c.args.maker (beneath by c.args.rest) in
    led_ok by c.args.limit (g.C.Cells.seen c.add.new.cells) c.args.work.now c.requires.goes c.args.rest.left (k c.in-Ok.id) c.after_make.result c.after_make.ensures.goes (c.in-Ok.ensures.run (basis by c.args.limit) c.args.rest.left k c.requires.run)

pub returns-in-Ok-clause-law : goal.returns-in-Ok-clause-law
returns-in-Ok-clause-law g c =
    let by = (ground g.R.Rule.running g.R.Rules.table c.args.code.now) in
    c.add.ensures.law (basis by c.args.limit) c.args.rest.left (maker_plan by c.args.maker (beneath by c.args.rest)) c.requires.law c.requires.run

pub returns-in-Err-clause-law : goal.returns-in-Err-clause-law
returns-in-Err-clause-law g c =
    let by = (ground g.R.Rule.running g.R.Rules.table c.args.code.now) in
    c.add.ensures.law (basis by c.args.limit) c.args.rest.left (maker_plan by c.args.maker (beneath by c.args.rest)) c.requires.law c.requires.run

pub returns-in-Ok-clause-names : goal.returns-in-Ok-clause-names
returns-in-Ok-clause-names g c =
    let by = (ground g.R.Rule.running g.R.Rules.table c.args.code.now) in
    c.add.ensures.names (basis by c.args.limit) c.args.rest.left (maker_plan by c.args.maker (beneath by c.args.rest)) c.requires.run

pub returns-in-Err-clause-names : goal.returns-in-Err-clause-names
returns-in-Err-clause-names g c =
    let by = (ground g.R.Rule.running g.R.Rules.table c.args.code.now) in
    c.add.ensures.names (basis by c.args.limit) c.args.rest.left (maker_plan by c.args.maker (beneath by c.args.rest)) c.requires.run

pub returns-in-Ok-clause-quiet : goal.returns-in-Ok-clause-quiet
returns-in-Ok-clause-quiet g c = becomes_also (g.C.Cells.alone c.args.cells.now) (g.C.Cells.noted c.args.cells.now) (g.C.Cells.noted c.add.new.cells) (MakesQuietly c.add.result) (Meanwhile c.after_make.result) (made_meanwhile c.add.result c.in-Ok.id c.in-Ok.is c.after_make.result c.after_make.ensures.halts) c.add.ensures.quiet

pub returns-in-Err-clause-quiet : goal.returns-in-Err-clause-quiet
returns-in-Err-clause-quiet g c = becomes_also (g.C.Cells.alone c.args.cells.now) (g.C.Cells.noted c.args.cells.now) (g.C.Cells.noted c.add.new.cells) (MakesQuietly c.add.result) (λ a b. Grows a b × HaltNotes c.unmade.result a b) (unmade_meanwhile c.add.result c.in-Err.why c.in-Err.is c.unmade.result c.unmade.ensures) c.add.ensures.quiet

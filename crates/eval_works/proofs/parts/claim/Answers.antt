use Rattle.std.proofs.Common.{suc}
use Rattle.eval_frames.specs.Frames.{ground, beneath, asking_plan, asker_plan}
use Rattle.eval_works.specs.Standing.{basis}
use Rattle.eval_works.proofs.Leading.{not_opened_on}
use Rattle.lawful_works.specs.Alone.{Quiets, ClaimsQuietly}
use Rattle.eval_works.specs.Meanwhile.{Meanwhile}
use Rattle.eval_works.proofs.Meanwhile.{becomes_also, opened_meanwhile, unopened_meanwhile}
use Rattle.eval_works.proofs.parts.claim.Goals as goal

pub returns-in-Ok-clause-run : goal.returns-in-Ok-clause-run
returns-in-Ok-clause-run g c =
    let by = (ground g.R.Rule.running g.R.Rules.table c.args.code.now) in
    (c.ask.ensures.own (basis by c.args.limit) (suc c.args.asker.rest.left) (asker_plan by c.args.asker) c.requires.run, c.in-Ok.ensures.opened)

pub returns-in-Ok-clause-law : goal.returns-in-Ok-clause-law
returns-in-Ok-clause-law g c =
    let by = (ground g.R.Rule.running g.R.Rules.table c.args.code.now) in
    c.ask.ensures.law (basis by c.args.limit) c.args.asker.rest.left (asking_plan by c.args.asker.asking (beneath by c.args.asker.rest)) c.requires.law c.requires.run

pub returns-in-Err-clause-run : goal.returns-in-Err-clause-run
returns-in-Err-clause-run g c =
    let C = g.C.Cells in
    not_opened_on (ground g.R.Rule.running g.R.Rules.table c.args.code.now) c.args.limit (C.seen c.args.cells.now) (C.seen c.ask.new.cells) c.args.work.now c.requires.goes c.args.asker c.ask.ensures.own c.requires.run c.in-Err.why c.not_opened.result c.not_opened.ensures c.in-Err.ensures.refused

pub returns-in-Err-clause-law : goal.returns-in-Err-clause-law
returns-in-Err-clause-law g c =
    let by = (ground g.R.Rule.running g.R.Rules.table c.args.code.now) in
    c.ask.ensures.law (basis by c.args.limit) c.args.asker.rest.left (asking_plan by c.args.asker.asking (beneath by c.args.asker.rest)) c.requires.law c.requires.run

pub returns-in-Ok-clause-names : goal.returns-in-Ok-clause-names
returns-in-Ok-clause-names g c =
    let by = (ground g.R.Rule.running g.R.Rules.table c.args.code.now) in
    c.ask.ensures.names (basis by c.args.limit) c.args.asker.rest.left (asking_plan by c.args.asker.asking (beneath by c.args.asker.rest)) c.requires.run

pub returns-in-Err-clause-names : goal.returns-in-Err-clause-names
returns-in-Err-clause-names g c =
    let by = (ground g.R.Rule.running g.R.Rules.table c.args.code.now) in
    c.ask.ensures.names (basis by c.args.limit) c.args.asker.rest.left (asking_plan by c.args.asker.asking (beneath by c.args.asker.rest)) c.requires.run

pub returns-in-Ok-clause-quiet : goal.returns-in-Ok-clause-quiet
returns-in-Ok-clause-quiet g c = becomes_also (g.C.Cells.alone c.args.cells.now) (g.C.Cells.noted c.args.cells.now) (g.C.Cells.noted c.ask.new.cells) (ClaimsQuietly c.ask.result) Quiets (opened_meanwhile c.ask.result c.in-Ok.opened c.in-Ok.is) c.ask.ensures.quiet

pub returns-in-Err-clause-quiet : goal.returns-in-Err-clause-quiet
returns-in-Err-clause-quiet g c = becomes_also (g.C.Cells.alone c.args.cells.now) (g.C.Cells.noted c.args.cells.now) (g.C.Cells.noted c.ask.new.cells) (ClaimsQuietly c.ask.result) (Meanwhile c.not_opened.result) (unopened_meanwhile (ground g.R.Rule.running g.R.Rules.table c.args.code.now) c.args.asker c.ask.result c.in-Err.why c.in-Err.is c.not_opened.result c.not_opened.ensures) c.ask.ensures.quiet

use Rattle.eval_stack.proofs.Claims.{held_top}
use Rattle.std.proofs.Common.{◌+◌, ap}
use Rattle.eval_frames.specs.Frames.{ground, makes_plan}
use Rattle.eval_stack.specs.Stack.{all_claims}
use Rattle.eval_stack.proofs.Standing.{law_in, law_out, names_out, run_open, over_stays, over_open, make_halted}
use Rattle.eval_stack.proofs.stepping.makes.Goals as goal

pub make_part-requires-clause-law : goal.make_part-requires-clause-law
make_part-requires-clause-law g c =
    let C = g.C.Cells in
    let s = c.args.cells.now in
    law_in g.R.Rule.running g.R.Rules.table c.args.setting.now (C.alone s) (C.law s) (C.noted s) c.args.code c.args.work c.requires.code c.requires.law

pub returns-in-Ok-clause-stands : goal.returns-in-Ok-clause-stands
returns-in-Ok-clause-stands g c =
    let C = g.C.Cells in
    let s = c.args.cells.now in
    let t = c.make_part.new.cells in
    record { over = over_stays g.R.Rule.running g.R.Rules.table c.args.setting.now (C.seen s) (C.seen t) (C.held s) (C.held t) c.args.below.items c.args.work c.requires.over c.make_part.ensures.others c.make_part.ensures.holds c.make_part.ensures.held; top = record { code = c.requires.code; runs = c.in-Ok.ensures.run } }

pub returns-in-Ok-clause-held : goal.returns-in-Ok-clause-held
returns-in-Ok-clause-held g c = λ d. ap (λ n. n + all_claims c.args.below.items c.args.work d) (c.make_part.ensures.held d)

pub returns-in-Ok-clause-law : goal.returns-in-Ok-clause-law
returns-in-Ok-clause-law g c =
    let C = g.C.Cells in
    let s = c.args.cells.now in
    let t = c.make_part.new.cells in
    law_out g.R.Rule.running g.R.Rules.table c.args.setting.now (C.alone t) (C.law t) (C.noted t) c.args.code c.args.work c.requires.code c.make_part.ensures.law

pub returns-in-Ok-clause-names : goal.returns-in-Ok-clause-names
returns-in-Ok-clause-names g c =
    let C = g.C.Cells in
    let s = c.args.cells.now in
    let t = c.make_part.new.cells in
    names_out g.R.Rule.running g.R.Rules.table c.args.setting.now (C.alone s) (C.alone t) (C.law s) (C.law t) (C.noted s) (C.noted t) c.args.code c.args.work c.requires.code c.make_part.ensures.names

pub returns-in-Ok-clause-quiet : goal.returns-in-Ok-clause-quiet
returns-in-Ok-clause-quiet g c = c.in-Ok.ensures.quiet

pub returns-in-Err-clause-stands : goal.returns-in-Err-clause-stands
returns-in-Err-clause-stands g c =
    let C = g.C.Cells in
    let s = c.args.cells.now in
    let t = c.make_part.new.cells in
    (over_open g.R.Rule.running g.R.Rules.table c.args.setting.now (C.seen s) (C.seen t) (C.held s) (C.held t) c.args.below.items c.args.work c.requires.over (run_open g.R.Rule.running g.R.Rules.table c.args.setting.now c.args.code (C.seen s) c.args.work c.args.rest.left (makes_plan (ground g.R.Rule.running g.R.Rules.table c.args.code) c.args.kind c.args.term c.args.maker c.args.rest) c.requires.run) c.make_part.ensures.holds c.make_part.ensures.held, make_halted (C.seen t) c.in-Err.why c.in-Err.ensures.halts)

pub returns-in-Err-clause-held : goal.returns-in-Err-clause-held
returns-in-Err-clause-held g c = λ d. ap (λ n. n + all_claims c.args.below.items c.args.work d) (c.make_part.ensures.held d)

pub returns-in-Err-clause-law : goal.returns-in-Err-clause-law
returns-in-Err-clause-law g c =
    let C = g.C.Cells in
    let s = c.args.cells.now in
    let t = c.make_part.new.cells in
    law_out g.R.Rule.running g.R.Rules.table c.args.setting.now (C.alone t) (C.law t) (C.noted t) c.args.code c.args.work c.requires.code c.make_part.ensures.law

pub returns-in-Err-clause-names : goal.returns-in-Err-clause-names
returns-in-Err-clause-names g c =
    let C = g.C.Cells in
    let s = c.args.cells.now in
    let t = c.make_part.new.cells in
    names_out g.R.Rule.running g.R.Rules.table c.args.setting.now (C.alone s) (C.alone t) (C.law s) (C.law t) (C.noted s) (C.noted t) c.args.code c.args.work c.requires.code c.make_part.ensures.names

pub returns-in-Err-clause-quiet : goal.returns-in-Err-clause-quiet
returns-in-Err-clause-quiet g c = c.in-Err.ensures.quiet

pub make_part-requires-clause-own : goal.make_part-requires-clause-own
make_part-requires-clause-own g c =
    let C = g.C.Cells in
    let s = c.args.cells.now in
    held_top (C.held s) c.args.below.items c.args.work c.requires.over.own

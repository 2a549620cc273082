use Rattle.eval_stack.proofs.Claims.{held_top, last_held}
use Rattle.eval_stack.proofs.Standing.{law_in, law_out, names_out}
use Rattle.eval_stack.proofs.ending.last_error.Goals as goal

pub end_throw-requires-clause-law : goal.end_throw-requires-clause-law
end_throw-requires-clause-law g c =
    let C = g.C.Cells in
    let s = c.args.cells.now in
    law_in g.R.Rule.running g.R.Rules.table c.args.setting.now (C.alone s) (C.law s) (C.noted s) c.args.code c.args.work c.requires.code c.requires.law

pub end_throw-requires-clause-own : goal.end_throw-requires-clause-own
end_throw-requires-clause-own g c =
    let C = g.C.Cells in
    let s = c.args.cells.now in
    held_top (C.held s) c.args.below.items c.args.work c.requires.over.own

pub returns-clause-ends : goal.returns-clause-ends
returns-clause-ends g c = c.end_throw.ensures.error

pub returns-clause-held : goal.returns-clause-held
returns-clause-held g c =
    let C = g.C.Cells in
    let s = c.args.cells.now in
    let t = c.end_throw.new.cells in
    λ d. last_held (C.held s) (C.held t) c.args.below.items c.args.work d c.requires.over.own (c.end_throw.ensures.held d)

pub returns-clause-law : goal.returns-clause-law
returns-clause-law g c =
    let C = g.C.Cells in
    let s = c.args.cells.now in
    let t = c.end_throw.new.cells in
    law_out g.R.Rule.running g.R.Rules.table c.args.setting.now (C.alone t) (C.law t) (C.noted t) c.args.code c.args.work c.requires.code c.end_throw.ensures.law

pub returns-clause-names : goal.returns-clause-names
returns-clause-names g c =
    let C = g.C.Cells in
    let s = c.args.cells.now in
    let t = c.end_throw.new.cells in
    names_out g.R.Rule.running g.R.Rules.table c.args.setting.now (C.alone s) (C.alone t) (C.law s) (C.law t) (C.noted s) (C.noted t) c.args.code c.args.work c.requires.code c.end_throw.ensures.names

pub returns-clause-quiet : goal.returns-clause-quiet
returns-clause-quiet g c = c.end_throw.ensures.quiet

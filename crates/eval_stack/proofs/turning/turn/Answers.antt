use Rattle.eval_stack.specs.Stack.{lowest}
use Rattle.eval_works.specs.Standing.{EventOn}
use Rattle.eval_frames.specs.Frames.{ground}
use Rattle.std.proofs.Common.{subst}
use Rattle.eval_stack.proofs.turning.turn.Goals as goal

pub returns-in-Went-clause-quiet : goal.returns-in-Went-clause-quiet
returns-in-Went-clause-quiet g c =
    let C = g.C.Cells in
    let s = c.args.cells.now in
    λ is a n. (a, n, c.went.ensures.notes a)

pub returns-in-Went-clause-stands : goal.returns-in-Went-clause-stands
returns-in-Went-clause-stands g c =
    let C = g.C.Cells in
    let s = c.args.cells.now in
    c.went.ensures.stands (C.seen s) (C.held s) c.requires.stack.over c.requires.stack.top.code (subst (λ x. EventOn (ground g.R.Rule.running g.R.Rules.table c.args.stack.top.code) c.args.setting.now.limit (C.seen s) c.args.stack.top.work x) c.in-Went.is c.requires.stack.top.runs)

pub asks-requires-clause-run : goal.asks-requires-clause-run
asks-requires-clause-run g c =
    let C = g.C.Cells in
    let s = c.args.cells.now in
    subst (λ x. EventOn (ground g.R.Rule.running g.R.Rules.table c.args.stack.top.code) c.args.setting.now.limit (C.seen s) c.args.stack.top.work x) c.in-Asks.is c.requires.stack.top.runs

pub makes-requires-clause-run : goal.makes-requires-clause-run
makes-requires-clause-run g c =
    let C = g.C.Cells in
    let s = c.args.cells.now in
    subst (λ x. EventOn (ground g.R.Rule.running g.R.Rules.table c.args.stack.top.code) c.args.setting.now.limit (C.seen s) c.args.stack.top.work x) c.in-Makes.is c.requires.stack.top.runs

pub returns-in-Went-clause-ends : goal.returns-in-Went-clause-ends
returns-in-Went-clause-ends g c =
    let C = g.C.Cells in
    let s = c.args.cells.now in
    c.went.ensures.ends (C.seen s) (lowest c.args.stack.below.items c.args.stack.top.work)

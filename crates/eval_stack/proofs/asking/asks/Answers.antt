use Rattle.eval_stack.proofs.Notes.{quiets_same, halt_memory}
use Rattle.eval_stack.proofs.Standing.{run_open, over_open_now}
use Rattle.eval_stack.specs.Turned.{TurnedOn, TurnNotes}
use Rattle.eval_stack.specs.Stack.{IsOpenOver}
use Rattle.eval_stack.specs.declared.state.Waiting.{Waiting}
use Rattle.eval_frames.specs.Frames.{ground, asker_plan}
use Rattle.std.proofs.Common.{List, suc, sym, subst}
use Rattle.eval_stack.proofs.asking.asks.Goals as goal

pub returns-in-Err-clause-stands : goal.returns-in-Err-clause-stands
returns-in-Err-clause-stands g c =
    let C = g.C.Cells in
    let s = c.args.cells.now in
    subst (λ r. TurnedOn g.R.Rule.running g.R.Rules.table c.args.setting.now (C.seen s) (C.held s) r) (sym c.no_room.ensures) (subst (λ (l : List (Waiting _ _)). IsOpenOver (C.seen s) (C.held s) l c.args.work) (sym c.reserve.ensures.items) (over_open_now g.R.Rule.running g.R.Rules.table c.args.setting.now (C.seen s) (C.held s) c.args.below.items c.args.work c.requires.over (run_open g.R.Rule.running g.R.Rules.table c.args.setting.now c.args.code (C.seen s) c.args.work (suc c.args.asker.rest.left) (asker_plan (ground g.R.Rule.running g.R.Rules.table c.args.code) c.args.asker) c.requires.run)), tt)

pub returns-in-Err-clause-quiet : goal.returns-in-Err-clause-quiet
returns-in-Err-clause-quiet g c =
    let C = g.C.Cells in
    let s = c.args.cells.now in
    λ is a n. (a, n, subst (λ r. TurnNotes r a a) (sym c.no_room.ensures) (halt_memory a a (quiets_same a)))

pub returns-in-Err-clause-same : goal.returns-in-Err-clause-same
returns-in-Err-clause-same g c =
    let C = g.C.Cells in
    let s = c.args.cells.now in
    g.met.C.Cells.same_self s

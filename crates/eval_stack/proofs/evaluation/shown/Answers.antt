use Rattle.std.proofs.Common.{subst}
use Rattle.eval_stack.specs.declared.state.Turned.{Turned}
use Rattle.eval_stack.specs.declared.state.Turned.TheVariants as T
use Rattle.eval_stack.specs.declared.state.Progress.TheVariants as G
use Rattle.eval_stack.specs.Stack.{basis_of}
use Rattle.eval_stack.specs.Turned.{Ends, TurnNotes}
use Rattle.eval_stack.specs.Came.{Concludes}
use Rattle.eval_stack.specs.Evaluating.{NotesAfter}
use Rattle.eval_stack.proofs.Notes.{becomes_as, concluded_as}
use Rattle.eval_stack.proofs.evaluation.shown.Goals as goal

pub returns-in-Over-clause-shows : goal.returns-in-Over-clause-shows
returns-in-Over-clause-shows g c =
    let C = g.C.Cells in
    let s = c.args.cells.now in
    λ w h. c.concluded-ended.ensures.ends w (subst (λ (t : Turned g.row.R.Denot g.R.Rule). Ends (C.seen s) w t) c.in-Over.is h)

pub returns-in-Over-clause-quiet : goal.returns-in-Over-clause-quiet
returns-in-Over-clause-quiet g c =
    let C = g.C.Cells in
    let s = c.args.cells.now in
    let f = c.concluded-ended.ensures in
    let t : Turned g.row.R.Denot g.R.Rule = T.Over c.in-Over.answer in
    becomes_as (C.alone s) (C.noted s) (C.noted c.concluded-ended.new.cells) (Concludes t) (NotesAfter c.args.turned (G.Ended c.concluded-ended.result)) f.quiet (λ d e q a n. concluded_as t c.concluded-ended.result f.comes a d e (subst (λ (r : Turned g.row.R.Denot g.R.Rule). TurnNotes r a d) c.in-Over.is n) q)

pub returns-in-Halts-clause-law : goal.returns-in-Halts-clause-law
returns-in-Halts-clause-law g c = c.concluded-ended-in-Halts.ensures.law (basis_of g.R.Rules.table c.args.setting.now) c.requires.law

pub returns-in-Halts-clause-quiet : goal.returns-in-Halts-clause-quiet
returns-in-Halts-clause-quiet g c =
    let C = g.C.Cells in
    let s = c.args.cells.now in
    let f = c.concluded-ended-in-Halts.ensures in
    let t : Turned g.row.R.Denot g.R.Rule = T.Halts c.in-Halts.below c.in-Halts.work c.in-Halts.why in
    becomes_as (C.alone s) (C.noted s) (C.noted c.concluded-ended-in-Halts.new.cells) (Concludes t) (NotesAfter c.args.turned (G.Ended c.concluded-ended-in-Halts.result)) f.quiet (λ d e q a n. concluded_as t c.concluded-ended-in-Halts.result f.comes a d e (subst (λ (r : Turned g.row.R.Denot g.R.Rule). TurnNotes r a d) c.in-Halts.is n) q)

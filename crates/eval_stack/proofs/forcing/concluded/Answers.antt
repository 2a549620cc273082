use Rattle.std.proofs.Common.{sym, subst}
use Rattle.lawful_works.specs.Alone.{Grows}
use Rattle.eval_stack.specs.declared.state.Turned.{Turned}
use Rattle.eval_stack.specs.Came.{Concludes}
use Rattle.eval_stack.proofs.Notes.{quiets_same, becomes_as}
use Rattle.eval_stack.proofs.forcing.concluded.Goals as goal

pub returns-in-Over-Ok-clause-quiet : goal.returns-in-Over-Ok-clause-quiet
returns-in-Over-Ok-clause-quiet g c = λ is a n. (a, n, subst (λ (t : Turned g.row.R.Denot g.R.Rule). Concludes t a a) (sym c.in-Over-Ok.is) (quiets_same a))

pub returns-in-Over-Err-clause-quiet : goal.returns-in-Over-Err-clause-quiet
returns-in-Over-Err-clause-quiet g c = λ is a n. (a, n, subst (λ (t : Turned g.row.R.Denot g.R.Rule). Concludes t a a) (sym c.in-Over-Err.is) (quiets_same a))

pub returns-in-Halts-clause-quiet : goal.returns-in-Halts-clause-quiet
returns-in-Halts-clause-quiet g c =
    let C = g.C.Cells in
    let s = c.args.cells.now in
    let t = c.lose_all.new.cells in
    becomes_as (C.alone s) (C.noted s) (C.noted t) Grows (Concludes c.args.turned) c.lose_all.ensures.quiet (λ a b q. subst (λ (r : Turned g.row.R.Denot g.R.Rule). Concludes r a b) (sym c.in-Halts.is) q)

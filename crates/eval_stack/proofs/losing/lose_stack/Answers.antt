use Rattle.std.proofs.Common.{sym, subst}
use Rattle.cell_book.specs.Account.{Duty}
use Rattle.eval_stack.specs.Stack.{IsOpenOver}
use Rattle.eval_stack.proofs.Standing.{stack_open}
use Rattle.eval_stack.proofs.losing.lose_stack.Goals as goal

pub lose_all-requires-clause-open : goal.lose_all-requires-clause-open
lose_all-requires-clause-open g c =
    let C = g.C.Cells in
    let s = c.args.cells.now in
    subst (λ (w : Duty). IsOpenOver (C.seen s) (C.held s) c.args.stack.below.items w) (sym c.top_work-work.ensures) (stack_open g.R.Rule.running g.R.Rules.table c.args.setting.now (C.seen s) (C.held s) c.args.stack c.requires.stack)

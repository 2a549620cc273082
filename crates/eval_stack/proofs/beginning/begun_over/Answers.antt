use Rattle.eval_stack.specs.Stack.{basis_of}
use Rattle.eval_stack.proofs.Standing.{is_code, over_open_now}
use Rattle.eval_stack.proofs.Starting.{begins_on, begun_open}
use Rattle.eval_stack.proofs.Notes.{quiets_same, halt_memory}
use Rattle.eval_stack.proofs.beginning.begun_over.Goals as goal

pub returns-in-Ok-clause-stands : goal.returns-in-Ok-clause-stands
returns-in-Ok-clause-stands g c =
    let s = c.args.setting.now in
    let e = c.in-Ok.ensures in
    let k = is_code s c.in-Ok.begun.code c.args.work e.program e.processors e.goes in
    λ seen mine over begun. record { over = over; top = record { code = k; runs = begins_on g.R.Rule.running g.R.Rules.table s c.in-Ok.begun.code seen c.args.work c.in-Ok.begun.event k begun e.starts } }

pub returns-in-Ok-clause-notes : goal.returns-in-Ok-clause-notes
returns-in-Ok-clause-notes g c = λ a. quiets_same a

pub returns-in-Err-clause-stands : goal.returns-in-Err-clause-stands
returns-in-Err-clause-stands g c = λ seen mine over begun. (over_open_now g.R.Rule.running g.R.Rules.table c.args.setting.now seen mine c.args.below.items c.args.work over (begun_open (basis_of g.R.Rules.table c.args.setting.now) seen c.args.work begun), tt)

pub returns-in-Err-clause-notes : goal.returns-in-Err-clause-notes
returns-in-Err-clause-notes g c = λ a. halt_memory a a (quiets_same a)

use Rattle.eval_frames.specs.Frames.{ground, runner_plan}
use Rattle.eval_works.proofs.Leading.{led}
use Rattle.eval_stack.proofs.Standing.{run_open, over_open_now}
use Rattle.eval_stack.proofs.Notes.{quiets_same, halt_memory}
use Rattle.eval_stack.proofs.stepping.went.Goals as goal

pub returns-in-Ok-clause-stands : goal.returns-in-Ok-clause-stands
returns-in-Ok-clause-stands g c =
    let by = (ground g.R.Rule.running g.R.Rules.table c.args.code) in
    λ seen mine over code run. record { over = over; top = record { code = code; runs = led by c.args.setting.now.limit seen c.args.work code.goes c.args.runner.rest.left (runner_plan by c.args.runner) c.in-Ok.event c.in-Ok.ensures.goes run } }

pub returns-in-Ok-clause-notes : goal.returns-in-Ok-clause-notes
returns-in-Ok-clause-notes g c = λ a. quiets_same a

pub returns-in-Err-clause-stands : goal.returns-in-Err-clause-stands
returns-in-Err-clause-stands g c = λ seen mine over code run. (over_open_now g.R.Rule.running g.R.Rules.table c.args.setting.now seen mine c.args.below.items c.args.work over (run_open g.R.Rule.running g.R.Rules.table c.args.setting.now c.args.code seen c.args.work c.args.runner.rest.left (runner_plan (ground g.R.Rule.running g.R.Rules.table c.args.code) c.args.runner) run), tt)

pub returns-in-Err-clause-notes : goal.returns-in-Err-clause-notes
returns-in-Err-clause-notes g c = λ a. halt_memory a a (quiets_same a)

use Rattle.std.proofs.Common.{sym, subst}
use Rattle.lawful_works.specs.Basis.{Basis}
use Rattle.lawful_works.specs.Evaluated.{IsBegun}
use Rattle.eval_stack.specs.declared.state.Setting.{Setting}
use Rattle.eval_stack.proofs.Standing.{is_code}
use Rattle.eval_stack.proofs.Starting.{begins_on}
use Rattle.eval_stack.proofs.Forced.{basis_at, over_new}
use Rattle.eval_stack.proofs.evaluation.Evaluation.of.Goals as goal

pub returns-in-Ok-begin_work-clause-works : goal.returns-in-Ok-begin_work-clause-works
returns-in-Ok-begin_work-clause-works g c =
    let running = g.R.Rule.running in
    let table = g.R.Rules.table in
    let s : Setting = record { program = c.in-Ok.program; processors = c.args.processors; limit = c.args.limit } in
    let b = c.in-Ok-begin_work.begun in
    let e = c.in-Ok-begin_work.ensures in
    let k = is_code s b.code c.args.work e.program e.processors e.goes in
    λ seen mine own begun. record {
      over = over_new running table s seen c.new-below.result.items c.new-below.ensures.items mine c.args.work own;
      top = record { code = k; runs = begins_on running table s b.code seen c.args.work b.event k (subst (λ (y : Basis). IsBegun y seen c.args.work) (basis_at table c.args.program.now c.in-Ok.program c.args.processors c.args.limit (sym c.in-Ok.ensures)) begun) e.starts };
    }

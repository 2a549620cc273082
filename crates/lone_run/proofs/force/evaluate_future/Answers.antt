use Rattle.std.proofs.Common.{rules, subst}
use Rattle.std.specs.Prelude.{OnOk}
use Rattle.clj_script.specs.Seen.{seen}
use Rattle.lone_run.specs.Stages.{WentOn}
use Rattle.lone_run.proofs.Forcing.{claimed_alone, claimed_good, claimed_kept, claimed_work, future_result, future_result_over}
use Rattle.lone_run.proofs.force.evaluate_future.Goals as goal

pub evaluate-requires-clause-good : goal.evaluate-requires-clause-good
evaluate-requires-clause-good g c = claimed_good (seen c.args.program.now) c.args.limits c.args.book.now c.claim_future.new.book c.args.id c.in_ok-work.work c.requires.calm c.requires.future c.in_ok-work.ensures.ok

pub evaluate-requires-clause-kept : goal.evaluate-requires-clause-kept
evaluate-requires-clause-kept g c = claimed_kept (seen c.args.program.now) c.args.limits c.args.book.now c.claim_future.new.book c.args.id c.in_ok-work.work c.requires.calm c.requires.future c.in_ok-work.ensures.ok

pub evaluate-requires-clause-begun : goal.evaluate-requires-clause-begun
evaluate-requires-clause-begun g c = claimed_work (seen c.args.program.now) c.args.limits c.args.book.now c.claim_future.new.book c.args.id c.in_ok-work.work c.requires.calm c.requires.future c.in_ok-work.ensures.ok

pub evaluate-requires-clause-only : goal.evaluate-requires-clause-only
evaluate-requires-clause-only g c = claimed_alone (seen c.args.program.now) c.args.limits c.args.book.now c.claim_future.new.book c.args.id c.in_ok-work.work c.requires.calm c.requires.future c.in_ok-work.ensures.ok

pub returns-clause-ok : goal.returns-clause-ok
returns-clause-ok g c = subst (λ r. OnOk r (WentOn (seen c.args.program.now) c.args.limits c.args.book.now c.evaluate.new.book)) c.in_ok-evaluate.was (future_result (seen c.args.program.now) c.args.limits c.args.book.now c.claim_future.new.book c.evaluate.new.book c.args.id c.in_ok-work.work c.requires.calm c.requires.future c.in_ok-work.ensures.ok c.evaluate.result c.evaluate.ensures)

pub returns-in_err-evaluate-clause-spent : goal.returns-in_err-evaluate-clause-spent
returns-in_err-evaluate-clause-spent g c = λ e. future_result_over (seen c.args.program.now) c.args.limits c.args.book.now c.claim_future.new.book c.evaluate.new.book c.args.id c.in_ok-work.work c.requires.calm c.requires.future c.in_ok-work.ensures.ok c.evaluate.result c.evaluate.ensures (search (rules, e, c.in_err-evaluate.was, c.from_residual-in_err-evaluate.ensures))

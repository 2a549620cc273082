use Rattle.clj_script.specs.Seen.{seen}
use Rattle.lone_run.proofs.Forcing.{begun_alone, begun_good, begun_kept, begun_work, form_result, form_result_over}
use Rattle.lone_run.proofs.force.evaluate_form.Goals as goal

pub evaluate-requires-clause-good : goal.evaluate-requires-clause-good
evaluate-requires-clause-good g c = begun_good (seen c.args.program.now) c.args.limits c.args.book.now c.begin_form.new.self _ c.in-Ok.work c.requires.calm c.requires.next c.in-Ok.ensures

pub evaluate-requires-clause-kept : goal.evaluate-requires-clause-kept
evaluate-requires-clause-kept g c = begun_kept (seen c.args.program.now) c.args.limits c.args.book.now c.begin_form.new.self _ c.in-Ok.work c.requires.calm c.requires.next c.in-Ok.ensures

pub evaluate-requires-clause-begun : goal.evaluate-requires-clause-begun
evaluate-requires-clause-begun g c = begun_work (seen c.args.program.now) c.args.limits c.args.book.now c.begin_form.new.self _ c.in-Ok.work c.requires.calm c.requires.next c.in-Ok.ensures

pub evaluate-requires-clause-only : goal.evaluate-requires-clause-only
evaluate-requires-clause-only g c = begun_alone (seen c.args.program.now) c.args.limits c.args.book.now c.begin_form.new.self _ c.in-Ok.work c.requires.calm c.requires.next c.in-Ok.ensures

pub returns-in-Ok-clause-ok : goal.returns-in-Ok-clause-ok
returns-in-Ok-clause-ok g c = form_result (seen c.args.program.now) c.args.limits c.args.book.now c.begin_form.new.self c.evaluate.new.book _ c.in-Ok.work c.requires.calm c.in-Ok.ensures c.args.before c.requires.so_many c.evaluate.result c.evaluate.ensures

pub returns-in-Ok-clause-spent : goal.returns-in-Ok-clause-spent
returns-in-Ok-clause-spent g c = form_result_over (seen c.args.program.now) c.args.limits c.args.book.now c.begin_form.new.self c.evaluate.new.book _ c.in-Ok.work c.requires.calm c.in-Ok.ensures c.args.before c.requires.so_many c.evaluate.result c.evaluate.ensures

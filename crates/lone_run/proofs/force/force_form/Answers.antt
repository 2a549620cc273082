use Rattle.std.proofs.Common.{rules}
use Rattle.clj_script.specs.Seen.{seen}
use Rattle.lone_run.proofs.Forcing.{form_forced, forced_over}
use Rattle.lone_run.proofs.force.force_form.Goals as goal

pub settle-requires : goal.settle-requires
settle-requires g c = record { calm = c.in_ok-given.ensures.ok.calm }

pub returns-clause-ok : goal.returns-clause-ok
returns-clause-ok g c = form_forced (seen c.args.program.now) c.args.limits c.args.book.now c.args.before c.evaluate_form.new.book c.settle.new.book c.in_ok-given.given c.in_ok-given.ensures.ok c.in_ok-settle.ensures.ok

pub returns-in_err-settle-clause-spent : goal.returns-in_err-settle-clause-spent
returns-in_err-settle-clause-spent g c = λ e. forced_over (seen c.args.program.now) c.args.limits c.args.book.now c.args.before c.evaluate_form.new.book c.settle.new.book c.in_ok-given.given c.in_ok-given.ensures.ok (c.in_err-settle.ensures.spent (search (rules, e, c.from_residual-in_err-settle.ensures)))

use Rattle.std.proofs.Common.{Ok, rules, sym, subst}
use Rattle.clj_script.specs.Seen.{seen}
use Rattle.cell_book.specs.Account.{Account}
use Rattle.cell_book.specs.Glimpses.{glimpse}
use Rattle.lawful_works.specs.declared.stop.Stop.TheVariants as S
use Rattle.lawful_works.specs.Basis.{IsGood}
use Rattle.lawful_works.specs.Evaluated.{IsBegun}
use Rattle.lone_run.specs.Running.{names_of, basis_of}
use Rattle.lone_run.proofs.Forcing.{lent, lent_err}
use Rattle.lone_run.proofs.force.evaluate.Goals as goal

pub evaluate-requires-clause-good : goal.evaluate-requires-clause-good
evaluate-requires-clause-good g c = subst (λ (x : Account). IsGood (names_of c.args.limits) (basis_of (seen c.args.program.now) c.args.limits) x) (sym c.over-cells.ensures.1) c.requires.good

pub evaluate-requires-clause-begun : goal.evaluate-requires-clause-begun
evaluate-requires-clause-begun g c = subst (λ (x : Account). IsBegun (basis_of (seen c.args.program.now) c.args.limits) (glimpse x) c.args.work) (sym c.over-cells.ensures.1) c.requires.begun

pub returns-in-Ok : goal.returns-in-Ok
returns-in-Ok g c = lent (names_of c.args.limits) (basis_of (seen c.args.program.now) c.args.limits) c.args.book.now c.over-cells.result.book.now c.evaluate.new.cells.book.now _ c.args.work (Ok c.in-Ok.value) c.over-cells.ensures.1 (search rules) c.in-Ok.ensures.came

pub returns-in-Err-Thrown : goal.returns-in-Err-Thrown
returns-in-Err-Thrown g c = lent_err (names_of c.args.limits) (basis_of (seen c.args.program.now) c.args.limits) c.args.book.now c.over-cells.result.book.now c.evaluate.new.cells.book.now _ c.args.work c.in-Err-Thrown.field-0 (S.Thrown c.in-Err-Thrown.why) c.over-cells.ensures.1 (search rules) c.in-Err-Thrown.field-0-is c.in-Err-Thrown.ensures.came

pub returns-in-Err-Spent : goal.returns-in-Err-Spent
returns-in-Err-Spent g c = lent_err (names_of c.args.limits) (basis_of (seen c.args.program.now) c.args.limits) c.args.book.now c.over-cells.result.book.now c.evaluate.new.cells.book.now _ c.args.work c.in-Err-Spent.field-0 S.Spent c.over-cells.ensures.1 (search rules) c.in-Err-Spent.field-0-is c.in-Err-Spent.ensures.came

pub returns-in-Err-Memory : goal.returns-in-Err-Memory
returns-in-Err-Memory g c = lent_err (names_of c.args.limits) (basis_of (seen c.args.program.now) c.args.limits) c.args.book.now c.over-cells.result.book.now c.evaluate.new.cells.book.now _ c.args.work c.in-Err-Memory.field-0 S.Memory c.over-cells.ensures.1 (search rules) c.in-Err-Memory.field-0-is c.in-Err-Memory.ensures.came

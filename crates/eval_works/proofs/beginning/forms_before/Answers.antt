use Rattle.std.proofs.Common.{inr, arith}
use Rattle.clj_script.specs.Seen.{seen}
use Rattle.eval_works.proofs.Before.{none_left}
use Rattle.eval_works.proofs.beginning.forms_before.Goals as goal

pub returns-then-count-forms-clause-all : goal.returns-then-count-forms-clause-all
returns-then-count-forms-clause-all c = let e = c.len-count.ensures.same in none_left (seen c.args.program.now).tops c.args.outcomes.now _ (inr (omega arith))

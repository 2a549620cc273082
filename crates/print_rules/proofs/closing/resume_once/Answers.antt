use Rattle.std.proofs.Common.{◌≡◌, [], ◌∷◌, ◌++◌, ap, ◌∙◌, rules}
use Rattle.seq_plan.specs.Plan.{give}
use Rattle.seq_values.specs.Model as M
use Rattle.print_rules.specs.Left.{resolved_by}
use Rattle.print_rules.proofs.PrintTurns.{ok_from, silent_same, push}
use Rattle.print_rules.proofs.closing.resume_once.Goals as goal

pub returns-in-None-clause-goes : goal.returns-in-None-clause-goes
returns-in-None-clause-goes c =
    let e : c.args.printing.around.items ≡ [] = search rules in
    ok_from c.finish.result (silent_same (ap (λ others. resolved_by give others (M.text c.args.printing.text)) e)) c.finish.ensures.goes

pub returns-in-Some-clause-goes : goal.returns-in-Some-clause-goes
returns-in-Some-clause-goes c =
    let e : c.args.printing.around.items ≡ c.pop.new.self.items ++ c.in-Some.innermost ∷ [] = search rules in
    ok_from c.after_one.result (silent_same (ap (λ others. resolved_by give others (M.text c.args.printing.text)) e ∙ push give c.pop.new.self.items c.in-Some.innermost (M.text c.args.printing.text))) c.after_one.ensures.goes

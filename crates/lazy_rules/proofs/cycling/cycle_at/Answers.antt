use Rattle.lazy_rules.proofs.Taking.{in_ok}
use Rattle.lazy_rules.proofs.CycleTurns.{cycle_goes}
use Rattle.lazy_rules.proofs.cycling.cycle_at.Goals as goal

pub returns-in-At : goal.returns-in-At
returns-in-At c = rw c.in-At.is (in_ok c.first_and_rest.result (λ n h. cycle_goes c.args.whole c.in-At.place n h) c.first_and_rest.ensures)

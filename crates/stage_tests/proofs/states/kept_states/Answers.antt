use Rattle.std.proofs.Common.{subst, sym, true, ◌≡◌, drop}
use Rattle.seq_values.specs.Model as M
use Rattle.seq_values.specs.Plain.{plains}
use Rattle.seq_values.specs.WellFormedTerms.{are_states}
use Rattle.seq_plan.specs.WellFormed.{sights}
use Rattle.xf_stages.specs.Opening.{kept_in}
use Rattle.stage_tests.proofs.Kept.{states_fit}
use Rattle.stage_tests.proofs.states.kept_states.Goals as goal

pub returns-in_ok-states-in-All : goal.returns-in_ok-states-in-All
returns-in_ok-states-in-All c =
    subst (λ l. are_states (kept_in c.args.stages) (sights (M.values (plains (drop 1 l)))) ≡ true) (sym c.in_ok-states-in-All.ensures)
    (states_fit (kept_in c.args.stages) c.in_ok-nil.nil.items.items c.in-All.all.items.items c.in_ok-nil.ensures (rw c.in-All.is at c.in_ok-grown.ensures.states))

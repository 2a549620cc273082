use Rattle.std.proofs.Common.{refl, None}
use Rattle.seq_values.specs.Model as M
use Rattle.seq_plan.specs.Plan.{give}
use Rattle.ahead_rules.proofs.Moves.{steps_on}
use Rattle.ahead_rules.proofs.stepping.pmap_drop_made.Goals as goal

pub returns : goal.returns
returns c = steps_on (record { values = c.of_part-values.result; further = c.of_part-further.result; before = None }) (M.cell c.args.rets) (M.cell c.args.id) (λ k. give (M.cell k)) c.in_ok-next.next c.of_part-values.ensures c.of_part-further.ensures refl c.in_ok-next.ensures

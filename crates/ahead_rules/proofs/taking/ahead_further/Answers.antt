use Rattle.std.proofs.Common.{◌∷◌, []}
use Rattle.seq_values.specs.Model as M
use Rattle.seq_plan.specs.Plan.{seq, go, give, ahead_from}
use Rattle.std.proofs.Common.{w64}
use Rattle.std.proofs.lemmas.Int.{to_z-of_z}
use Rattle.seq_plan.specs.Cursors.{stands}
use Rattle.seq_values.specs.Plain.{plain}
use Rattle.ahead_rules.proofs.Moves.{handed, handed_ok}
use Rattle.ahead_rules.proofs.taking.ahead_further.Goals as goal

pub returns-in-Within : goal.returns-in-Within
returns-in-Within c = rw c.in-Within.is (handed (λ n. seq (stands c.in-Within.place) (λ s. go ahead_from (M.int n ∷ stands c.in-Within.place ∷ s ∷ []) give)) c.args.count _ c.ahead_within.result (to_z-of_z w64 c.args.count c.ranges.count) c.ahead_within.ensures)

pub returns-in-Beyond : goal.returns-in-Beyond
returns-in-Beyond c = rw c.in-Beyond.is (handed_ok (λ n. seq (plain c.in-Beyond.left.value) (λ s. go ahead_from (M.int n ∷ plain c.in-Beyond.left.value ∷ s ∷ []) give)) c.args.count _ c.ahead_on.result (to_z-of_z w64 c.args.count c.ranges.count) c.ahead_on.ensures)

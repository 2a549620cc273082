use Rattle.seq_turns.proofs.Taking.{in_ok}
use Rattle.ahead_rules.specs.Left.{running}
use Rattle.seq_values.specs.Plain.{plain}
use Rattle.std.proofs.Common.{rules, arith, w64, ◌∷◌, []}
use Rattle.std.proofs.lemmas.Int.{to_z-of_z}
use Rattle.seq_values.specs.Model as M
use Rattle.seq_plan.specs.Plan.{seq, go, give, ahead_from}
use Rattle.ahead_rules.proofs.Moves.{ahead_none, ahead_some, handed_ok}
use Rattle.ahead_rules.proofs.taking.ahead_begins.Goals as goal

pub returns-then-count-le0 : goal.returns-then-count-le0
returns-then-count-le0 c = ahead_none c.args.count c.args.left c.gives.result (search (rules, arith)) c.gives.ensures

pub returns : goal.returns
returns c = in_ok running c.ahead_on.result (λ n h. ahead_some c.args.count c.args.left n (search (rules, arith)) h) (handed_ok (λ n. seq (plain c.args.left.value) (λ s. go ahead_from (M.int n ∷ plain c.args.left.value ∷ s ∷ []) give)) c.args.count _ c.ahead_on.result (to_z-of_z w64 c.args.count c.ranges.count) c.ahead_on.ensures)

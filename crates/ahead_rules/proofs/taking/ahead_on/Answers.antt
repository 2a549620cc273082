use Rattle.std.proofs.Common.{◌∷◌, []}
use Rattle.seq_values.specs.Model as M
use Rattle.seq_plan.specs.Plan.{seq, go, give, ahead_from}
use Rattle.std.proofs.Common.{w64}
use Rattle.std.proofs.lemmas.Int.{to_z-of_z}
use Rattle.seq_values.specs.Plain.{plain}
use Rattle.seq_turns.specs.Seen.{seen}
use Rattle.ahead_rules.proofs.Moves.{seq_now, seq_ask, handed}
use Rattle.ahead_rules.proofs.taking.ahead_on.Goals as goal

pub returns-in-Now : goal.returns-in-Now
returns-in-Now c =
    let q = rw c.in-Now.is at c.seek-sought.ensures in
    seq_now c.args.left.value c.in_ok-value.value.value (seen c.in-Now.what) (λ s. go ahead_from (M.int c.args.count ∷ plain c.args.left.value ∷ s ∷ []) give) c.ahead_at.result c.in_ok-value.ensures q (handed (λ n. go ahead_from (M.int n ∷ plain c.args.left.value ∷ seen c.in-Now.what ∷ []) give) c.args.count _ c.ahead_at.result (to_z-of_z w64 c.args.count c.ranges.count) c.ahead_at.ensures)

pub returns-in-Ask : goal.returns-in-Ask
returns-in-Ask c =
    let q = rw c.in-Ask.is at c.seek-sought.ensures in
    seq_ask c.args.left.value c.in_ok-value.value.value c.in-Ask.value.value (λ s. go ahead_from (M.int c.args.count ∷ plain c.args.left.value ∷ s ∷ []) give) c.seeks.result c.in_ok-value.ensures q.0 (handed (λ n. seq (plain c.in-Ask.value.value) (λ s. go ahead_from (M.int n ∷ plain c.args.left.value ∷ s ∷ []) give)) c.args.count _ c.seeks.result (to_z-of_z w64 c.args.count c.ranges.count) c.seeks.ensures)

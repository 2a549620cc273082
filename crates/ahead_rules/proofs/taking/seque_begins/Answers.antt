use Rattle.seq_turns.proofs.Taking.{in_ok}
use Rattle.ahead_rules.specs.Left.{running}
use Rattle.seq_values.specs.Plain.{plain}
use Rattle.std.proofs.Common.{rules, arith, w64}
use Rattle.std.proofs.lemmas.Int.{to_z-of_z}
use Rattle.ahead_rows.specs.Table.{seque_rule}
use Rattle.ahead_rules.proofs.Moves.{counted, uncounted, handed_ok}
use Rattle.ahead_rules.proofs.taking.seque_begins.Goals as goal

pub returns-then-count-lt1 : goal.returns-then-count-lt1
returns-then-count-lt1 c = uncounted c.args.count (seque_rule c.args.count (plain c.args.source.value)) c.no_count.result (search (rules, arith)) c.no_count.ensures

pub returns : goal.returns
returns c = in_ok running c.seque_ahead.result (λ n h. counted c.args.count (seque_rule c.args.count (plain c.args.source.value)) n (search (rules, arith)) h) (handed_ok (λ n. seque_rule n (plain c.args.source.value)) c.args.count _ c.seque_ahead.result (to_z-of_z w64 c.args.count c.ranges.count) c.seque_ahead.ensures)

use Rattle.std.proofs.Common.{ℕ, ◌+◌, ◌-◌, ◌≤◌, length, drop}
use Rattle.seq_values.specs.Plain.{plains}
use Rattle.lazy_rows.specs.Terms.{concat_rule}
use Rattle.lazy_rules.proofs.ConcatTurns.{Passes}
use Rattle.lazy_rules.proofs.concatenating.find_leading.Given as goal

abbrev pub invariant-loop-here : goal.invariant-loop-here
invariant-loop-here l = record { within : l.here + 1 ≤ length l.args.items; passed : (size : ℕ) → Passes (concat_rule size (plains (drop l.at l.args.items))) (concat_rule size (plains (drop l.here l.args.items))) }

abbrev pub decreases-loop-here : goal.decreases-loop-here
decreases-loop-here l = length l.args.items - l.here

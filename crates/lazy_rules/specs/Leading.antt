-- What collections begin with, once those without elements are left out.
use Rattle.std.specs.Prelude.{◌<◌, ◌≤◌, ℕ, List, length, drop}
use Rattle.seq_values.specs.Plain.{plain, plains}
use Rattle.seq_values.specs.declared.value.Value.{Value}
use Rattle.seq_plan.specs.Cursors.{stands}
use Rattle.seq_plan.specs.Nodes.{if_nil, chunk_of}
use Rattle.seq_plan.specs.Plan.{Plan, seq, give}
use Rattle.seq_values.specs.Model as M
use Rattle.seq_turns.specs.Seen.{NotNow}
use Rattle.seq_turns.specs.Turning.{Silent}
use Rattle.lazy_rows.specs.Table.{walk_round}
use Rattle.lazy_rows.specs.Terms.{concat_rule, concat_on}
use Rattle.lazy_rules.specs.Left.{is_lazy_loop}
use Rattle.lazy_rules.specs.declared.concatenating.Leading.{Leading}
use Rattle.lazy_rules.specs.declared.concatenating.Leading.TheVariants as L

-- what is left of the rule, by what the collections begin with
abbrev pub leading_plan : ℕ → List Value → Leading → Plan ℕ
leading_plan size args L.Nothing = give M.nil
leading_plan size args (L.Last v) = give (plain v.value)
leading_plan size args (L.Node c at) = concat_on (stands c) (plains (drop at args)) (chunk_of size (stands c))
leading_plan size args (L.Asked v at) = seq (plain v.value) (λ s. if_nil s (concat_rule size (plains (drop at args))) (concat_on s (plains (drop at args)) (chunk_of size s)))

-- the others begin behind the first argument, and only what isn't there yet is asked
abbrev pub IsLeading : List Value → Leading → Type 0
IsLeading args (L.Node c at) = (0 < at) × (at ≤ length args)
IsLeading args (L.Asked v at) = (0 < at) × (at ≤ length args) × NotNow (plain v.value)
IsLeading args _ = Unit {0}

-- the rule of the collections from a place on may be passed on to that
abbrev pub leads : ℕ → List Value → ℕ → Leading → Type 0
leads size args at l = Silent is_lazy_loop walk_round (concat_rule size (plains (drop at args))) (leading_plan size args l)

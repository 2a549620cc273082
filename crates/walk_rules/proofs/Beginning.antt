-- Words of one argument.
use Rattle.std.proofs.Common.{◌≡◌, ◌≢◌, ℕ, List, [], ◌∷◌, length, refl, sym, ap}
use Rattle.seq_base.specs.declared.thrown.Thrown.TheVariants.{Arity}
use Rattle.seq_values.specs.Model as M
use Rattle.seq_values.specs.Plain.{plain, plains}
use Rattle.seq_values.specs.declared.value.Value.{Value}
use Rattle.seq_plan.specs.Plan.{Plan, throw}
use Rattle.seq_plan.specs.Arguments.{of_value}
use Rattle.seq_turns.specs.declared.next.Next.{Next}
use Rattle.seq_turns.specs.declared.proper.Proper.{Proper}
use Rattle.walk_rules.specs.Left.{Takes}
use Rattle.walk_rules.specs.declared.state.State.{State}
use Rattle.walk_rules.proofs.Taking.{same}

pub of_only : (k : M.Value ℕ → Plan ℕ) (args : List Value) (x : Proper) (r : Next State) → plains args ≡ plain x.value ∷ [] → Takes (k (plain x.value)) r → Takes (of_value k (plains args)) r
of_only k args x r e h = same (ap (of_value k) (sym e)) h

pub of_others : (k : M.Value ℕ → Plan ℕ) (args : List Value) (r : Next State) → length args ≢ 1 → Takes (throw Arity) r → Takes (of_value k (plains args)) r
of_others k [] r n h = h
of_others k (x ∷ []) r n h = absurd (n refl)
of_others k (x ∷ y ∷ ys) r n h = h

-- Which stages a value has, and the states that stages keep between two inputs.
use Rattle.std.specs.Prelude.{◌≡◌, ℕ, List, [], ◌∷◌, ◌++◌, ◌≤◌, ◌<◌, length, Option, Some, None, true}
use Rattle.seq_base.specs.declared.thrown.Thrown.TheVariants.{Overflow}
use Rattle.seq_values.specs.Model as M
use Rattle.seq_values.specs.Sight.{Sight, a_function, Kept}
use Rattle.seq_values.specs.WellFormedTerms.{are_states}
use Rattle.seq_values.specs.declared.value.Value.{Value}
use Rattle.seq_plan.specs.Plan.{Plan, throw}
use Rattle.seq_plan.specs.Nodes.{longest}
use Rattle.seq_plan.specs.Keeping.{kept_of}
use Rattle.seq_plan.specs.Stages.{fresh}
use Rattle.seq_plan.specs.WellFormed.{sights}
use Rattle.seq_turns.specs.declared.made.Grown.{Grown}
use Rattle.seq_turns.specs.declared.made.Grown.TheVariants as G
use Rattle.xf_stages.specs.Left.{stages_in, states_in}
use Rattle.xf_stages.specs.declared.state.Stage.{Stage}
use Rattle.xf_stages.specs.declared.state.Stages.{Stages}
use Rattle.xf_stages.specs.declared.state.Opened.{Opened}
use Rattle.xf_stages.specs.declared.state.Opened.TheVariants as O

-- goes on with the stages, or throws
abbrev pub opened : Opened → (List (M.Value ℕ) → Plan ℕ) → Plan ℕ
opened (O.Stages s) k = k (stages_in s)
opened (O.Thrown why) k = throw why

-- whatever comes after it, the plan goes on with the stages
pub record Opens (plan : (List (M.Value ℕ) → Plan ℕ) → Plan ℕ) (o : Opened) : Type 0 where
  pub goes : (k : List (M.Value ℕ) → Plan ℕ) → plan k ≡ opened o k

-- each stage has the state with which it begins
abbrev pub AreFresh : Stages → Type 0
AreFresh s = states_in s ≡ fresh (stages_in s)

abbrev pub IfStages : Opened → (Stages → Type 0) → Type 0
IfStages (O.Stages s) p = p s
IfStages (O.Thrown why) p = Unit {0}

-- what stages keep between two inputs, in their order
abbrev pub all_kept : List (M.Value ℕ) → List Kept
all_kept [] = []
all_kept (stage ∷ stages) = kept_of stage ++ all_kept stages

abbrev pub kept_in : Stages → List Kept
kept_in s = all_kept (stages_in s)

-- what is seen of a transducer: what its stages keep
abbrev pub seen_kept : Sight → Option (List Kept)
seen_kept (a_function target kept) = kept
seen_kept _ = None

-- values and then the states that the stages keep, as a part that pulls takes them
pub record AddsStates (kept : List Kept) (before after : List (M.Value ℕ)) : Type 0 where
  pub states : List (M.Value ℕ)
  pub all : after ≡ before ++ states
  pub fit : are_states kept (sights (M.values states)) ≡ true

abbrev pub IfGrown : Grown → (List Value → Type 0) → Type 0
IfGrown (G.All all) p = p all.items.items
IfGrown G.TooMany p = Unit {0}

-- these stages, unless they are more than a list may have
abbrev pub LimitedTo : List Stage → Opened → Type 0
LimitedTo ss (O.Stages s) = (s.stages.items ≡ ss) × (length ss ≤ longest)
LimitedTo ss (O.Thrown why) = (why ≡ Overflow) × (longest < length ss)

-- What a stage does with an input and with an answer, as the code holds it.
use Rattle.std.specs.Prelude.{◌≡◌, ℕ, ℤ, pos, int_le, Bool, true, false, cond, List, [], ◌∷◌, length}
use Rattle.seq_values.specs.Model as M
use Rattle.seq_values.specs.Plain.{plain, plains}
use Rattle.seq_plan.specs.Plan.{Plan, call, throw}
use Rattle.seq_plan.specs.Stages.{Effect, passes, passes_last, passes_each, passes_nothing, is_done, stage_on}
use Rattle.xf_stages.specs.Left.{stage_value, state_value, answered}
use Rattle.xf_stages.specs.declared.state.Effect as D
use Rattle.xf_stages.specs.declared.state.Effect.TheVariants as E
use Rattle.xf_stages.specs.declared.state.Purpose.{Purpose}
use Rattle.xf_stages.specs.declared.state.Reacted.{Reacted}
use Rattle.xf_stages.specs.declared.state.Stage.{Stage}
use Rattle.xf_stages.specs.declared.state.Stage.TheVariants as S
use Rattle.seq_turns.specs.declared.proper.Proper.{Proper}

-- what goes on after a stage
abbrev pub OnEffect : Type 0
OnEffect = M.Value ℕ → Effect ℕ → Plan ℕ

abbrev pub effect_plan : Stage → D.Effect → OnEffect → Plan ℕ
effect_plan s (E.Calls f xs x) k = call (plain f.value) (plains xs.items) (λ y. answered s (plain x.value) y k)
effect_plan s (E.Passes y) k = k (state_value s) (passes (plain y.value))
effect_plan s (E.PassesLast y) k = k (state_value s) (passes_last (plain y.value))
effect_plan s (E.PassesEach c) k = k (state_value s) (passes_each (plain c.value))
effect_plan s E.PassesNothing k = k (state_value s) passes_nothing
effect_plan s E.Done k = k (state_value s) is_done
effect_plan s (E.Throws why) k = throw why

-- the stage is the same but for its state, and whatever comes after it, the plan goes on by its effect
pub record Comes (value : M.Value ℕ) (plan : OnEffect → Plan ℕ) (r : Reacted) : Type 0 where
  pub same : stage_value r.stage ≡ value
  pub goes : (k : OnEffect) → plan k ≡ effect_plan r.stage r.effect k

-- a stage took an input
abbrev pub Reacts : Stage → M.Value ℕ → Reacted → Type 0
Reacts s x r = Comes (stage_value s) (stage_on (stage_value s) (state_value s) x) r

-- a stage's function answered
abbrev pub Answers : Stage → M.Value ℕ → M.Value ℕ → Reacted → Type 0
Answers s x y r = Comes (stage_value s) (answered s x y) r

-- the effect of a stage without a state, once its function has answered
abbrev pub Chooses : Purpose → M.Value ℕ → M.Value ℕ → D.Effect → Type 0
Chooses u x y e = (f : Proper) (k : OnEffect) → answered (S.Applies u f) x y k ≡ effect_plan (S.Applies u f) e k

-- the function is called with the input
abbrev pub IsCall : M.Value ℕ → M.Value ℕ → M.Value ℕ → D.Effect → Type 0
IsCall f kept x e = (s : Stage) (k : OnEffect) → call f (x ∷ []) (λ y. answered s kept y k) ≡ effect_plan s e k

-- the members of a vector
abbrev pub members : M.Value ℕ → List (M.Value ℕ)
members (M.vector xs) = M.list xs
members _ = []

abbrev pub is_vector : M.Value ℕ → Bool
is_vector (M.vector xs) = true
is_vector _ = false

-- a group with its newest element: it is passed on where it is full
abbrev pub group_full : ℤ → M.Value ℕ → OnEffect → Plan ℕ
group_full n v k = cond (int_le n (pos (length (members v)))) (k (M.vector M.no_values) (passes v)) (k v passes_nothing)

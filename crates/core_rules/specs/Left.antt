-- The plan that a rule has left, by where it stands and what it is told.
use Rattle.std.specs.Prelude.{ℕ, zero, suc, false, not, List, [], ◌∷◌}
use Rattle.seq_base.specs.declared.thrown.Thrown.TheVariants.{BadType}
use Rattle.seq_values.specs.Model as M
use Rattle.seq_values.specs.Plain.{plains}
use Rattle.seq_values.specs.declared.value.Value.{Value}
use Rattle.seq_plan.specs.Plan.{Plan, call, give, throw, fails, Told, begun, got}
use Rattle.seq_plan.specs.Nodes.{is_truthy, value_at}
use Rattle.seq_turns.specs.Turning.{Wait, to_begin, a_value, nothing, Running, Takes as TakesBy}
use Rattle.seq_turns.specs.declared.next.Next.{Next}
use Rattle.core_rows.specs.Arithmetic.{give_bool}
use Rattle.core_rows.specs.Table.{core_call, core_function}
use Rattle.core_rules.specs.declared.state.AtBegin.{AtBegin}
use Rattle.core_rules.specs.declared.state.AtBegin.TheVariants as B
use Rattle.core_rules.specs.declared.state.AtValue.{AtValue}
use Rattle.core_rules.specs.declared.state.AtValue.TheVariants as V
use Rattle.core_rules.specs.declared.state.State.{State}
use Rattle.core_rules.specs.declared.state.State.TheVariants as S

-- the first so many functions, the last of which is called first: each is called with the answer of the one after it
abbrev pub called_back : List (M.Value ℕ) → ℕ → M.Value ℕ → Plan ℕ
called_back fs zero y = give y
called_back fs (suc n) y = call (value_at fs n) (y ∷ []) (called_back fs n)

abbrev pub left_begin : AtBegin → Plan ℕ
left_begin (B.Word word args) = core_call word (plains args.items)
left_begin (B.Function target bound args) = core_function target (plains bound.items) (plains args.items)

abbrev pub left_value : AtValue → M.Value ℕ → Plan ℕ
left_value V.Answer y = give y
left_value V.Not y = give_bool (not (is_truthy y))
left_value (V.Compose e) y = called_back (plains e.functions.items) e.left y

abbrev pub left : State → Told ℕ → Plan ℕ
left (S.Begin b) begun = left_begin b
left (S.Value v) (got y) = left_value v y
left _ _ = throw BadType

-- what the rule waits for
abbrev pub wait_of : State → Wait
wait_of (S.Begin b) = to_begin
wait_of (S.Value v) = a_value
wait_of S.Over = nothing

-- how these rules run: they have no loop
abbrev pub core_runs : Running State
core_runs = record { left = left; wait_of = wait_of; own = λ l. false; rounds = λ l xs. fails BadType }

abbrev pub Takes : Plan ℕ → Next State → Type 0
Takes plan next = TakesBy core_runs plan next

-- no values, or two
abbrev pub IsNoneOrTwo : List Value → Type 0
IsNoneOrTwo [] = Unit {0}
IsNoneOrTwo (x ∷ y ∷ []) = Unit {0}
IsNoneOrTwo _ = ⊥

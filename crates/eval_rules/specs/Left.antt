-- The plan that a rule of the language has left, by the crate that has it.
use Rattle.std.specs.Prelude.{◌≡◌, ℕ, Bool, true, false, List, [], ◌∷◌}
use Rattle.seq_base.specs.declared.thrown.Thrown.TheVariants.{BadType}
use Rattle.seq_values.specs.Model as M
use Rattle.seq_values.specs.declared.words.Builtin.{Builtin}
use Rattle.seq_values.specs.declared.words.Builtin.TheVariants as B
use Rattle.seq_values.specs.Plain.{plains}
use Rattle.seq_plan.specs.Plan.{Plan, throw, Told, begun}
use Rattle.seq_turns.specs.Turning.{Wait, to_begin, nothing, Running}
use Rattle.fold_rows.specs.Table.{fold_call, is_reducer}
use Rattle.seq_table.specs.Table.{on_loop}
use Rattle.core_rules.specs.Left as core
use Rattle.walk_rules.specs.Left as walk
use Rattle.lazy_rules.specs.Left as lazy
use Rattle.pull_rules.specs.Left as stage
use Rattle.ahead_rules.specs.Left as ahead
use Rattle.fold_rules.specs.Left as fold
use Rattle.print_rules.specs.Left as print
use Rattle.eval_rules.specs.declared.state.Reducer.{Reducer}
use Rattle.eval_rules.specs.declared.state.State.{State}
use Rattle.eval_rules.specs.declared.state.State.TheVariants as S
use Rattle.eval_rules.specs.declared.state.LanguageRule.{LanguageRule}

abbrev pub reducer_left : Reducer → Told ℕ → Plan ℕ
reducer_left r begun = fold_call r.word (plains r.args.items)
reducer_left r _ = throw BadType

abbrev pub left : State → Told ℕ → Plan ℕ
left (S.Core r) = core.left r.state
left (S.Walk r) = walk.left r.state
left (S.Lazy r) = lazy.left r.state
left (S.Stage r) = stage.left r.state
left (S.Ahead r) = ahead.left r.state
left (S.Fold r) = fold.left r.state
left (S.Print r) = print.left r.state
left (S.Reducer r) = reducer_left r
left S.Over = λ a. throw BadType

-- what the rule waits for
abbrev pub wait_of : State → Wait
wait_of (S.Core r) = core.wait_of r.state
wait_of (S.Walk r) = walk.wait_of r.state
wait_of (S.Lazy r) = lazy.wait_of r.state
wait_of (S.Stage r) = stage.wait_of r.state
wait_of (S.Ahead r) = ahead.wait_of r.state
wait_of (S.Fold r) = fold.wait_of r.state
wait_of (S.Print r) = print.wait_of r.state
wait_of (S.Reducer r) = to_begin
wait_of S.Over = nothing

-- how the rules of the language run: each loop of the table is one of theirs
abbrev pub language_runs : Running LanguageRule
language_runs = record { left = λ r. left r.state; wait_of = λ r. wait_of r.state; own = λ l. true; rounds = on_loop }

-- whether the last of the values is a reducer value
abbrev pub ends_in_reducer : List (M.Value ℕ) → Bool
ends_in_reducer [] = false
ends_in_reducer (x ∷ []) = is_reducer x
ends_in_reducer (x ∷ y ∷ ys) = ends_in_reducer (y ∷ ys)

-- a word whose rule stands in one crate alone, and not ahead of what is asked
abbrev pub IsPlain : Builtin → Type 0
IsPlain word = (¬ (word ≡ B.Reduce)) × (¬ (word ≡ B.Into)) × (¬ (word ≡ B.Fold)) × (¬ (word ≡ B.Pmap)) × (¬ (word ≡ B.Seque))

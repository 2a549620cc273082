-- The plan that a rule has left, by where it stands and what it is told. Each clause is a piece of the row's own text.
-- Sources: clojure.core.reducers' `fold` and `foldvec`, https://clojure.org/reference/reducers
use Rattle.std.specs.Prelude.{ℕ, List, [], ◌∷◌}
use Rattle.seq_base.specs.declared.thrown.Thrown.TheVariants.{BadType}
use Rattle.seq_values.specs.Model as M
use Rattle.seq_values.specs.Plain.{plain, plains}
use Rattle.seq_values.specs.declared.value.Value.{Value}
use Rattle.seq_plan.specs.Plan.{Plan, ask, call, give, throw, Told, begun, got, told_made}
use Rattle.seq_plan.specs.Stages.{Onward, reduces, answer_of, enter_each}
use Rattle.seq_turns.specs.Turning.{Wait, to_begin, a_value, a_part, nothing, Running}
use Rattle.stage_rows.specs.Table.{stage_round}
use Rattle.fold_rows.specs.Table.{fold_items, fold_call, fold_term}
use Rattle.xf_stages.specs.Left.{stages_in, states_in, is_enter_loop}
use Rattle.pull_rules.specs.Reducing.{left_reduction, reduction_waits}
use Rattle.fold_rules.specs.declared.state.State.{State}
use Rattle.fold_rules.specs.declared.state.State.TheVariants as S
use Rattle.fold_rules.specs.declared.state.AtBegin.{AtBegin}
use Rattle.fold_rules.specs.declared.state.AtBegin.TheVariants as B
use Rattle.fold_rules.specs.declared.state.AtValue.{AtValue}
use Rattle.fold_rules.specs.declared.state.AtValue.TheVariants as V
use Rattle.fold_rules.specs.declared.state.AtPart.{AtPart}
use Rattle.fold_rules.specs.declared.state.AtPart.TheVariants as P
use Rattle.fold_rules.specs.declared.state.Fold.{Fold}
use Rattle.fold_rules.specs.declared.state.Half.{Half}
use Rattle.fold_rules.specs.declared.state.Pending.{Pending}

-- ## What goes on with the answer of a fold

-- the first half is folded: the future of the second is asked, and both answers are combined
abbrev pub combined : ℕ → M.Value ℕ → (M.Value ℕ → Plan ℕ) → M.Value ℕ → Plan ℕ
combined m combine k = λ left. ask m (λ right. call combine (left ∷ right ∷ []) k)

-- the halves that wait go on, the innermost one first, which is the last
abbrev pub pended : List Half → (M.Value ℕ → Plan ℕ) → M.Value ℕ → Plan ℕ
pended [] k = k
pended (h ∷ hs) k = pended hs (combined h.cell (plain h.combine.value) k)

-- until none waits, and the answer is given
abbrev pub after : Pending → M.Value ℕ → Plan ℕ
after p = pended p.halves.items give

-- after a reduction, done or not
abbrev pub reduced_to : Pending → Onward ℕ
reduced_to p = λ states sink done. after p (answer_of sink)

-- ## By what the rule waits for

-- items are folded
abbrev pub folding : Fold → List Value → (M.Value ℕ → Plan ℕ) → Plan ℕ
folding f items k = fold_items f.size (plain f.combine.value) (plain f.function.value) (plains f.stages.items) (plains items) k

-- the arguments of the future of a second half
abbrev pub second_half : Fold → List Value → List (M.Value ℕ)
second_half f items = M.vector (M.values (plains items)) ∷ M.int f.size ∷ plain f.combine.value ∷ plain f.function.value ∷ plains f.stages.items

-- the future of the second half is made: the first half is folded here
abbrev pub halved : Fold → List Value → Pending → ℕ → Plan ℕ
halved f items p m = folding f items (combined m (plain f.combine.value) (after p))

abbrev pub left_begin : AtBegin → Plan ℕ
left_begin (B.Work w) = fold_term (plains w.term.args)
left_begin (B.Call c) = fold_call c.word (plains c.args)

abbrev pub left_value : AtValue → M.Value ℕ → Plan ℕ
left_value (V.First s f c p) y = enter_each (stages_in s) (states_in s) (reduces (plain f.value) y) (plain c.value) (reduced_to p)
left_value (V.Answer p) y = after p y
left_value (V.Right left combine p) y = call (plain combine.value) (plain left.value ∷ y ∷ []) (after p)

abbrev pub left_part : AtPart → ℕ → Plan ℕ
left_part (P.Second f items p) m = halved f items.items p m

abbrev pub left : State → Told ℕ → Plan ℕ
left (S.Begin q) begun = left_begin q
left (S.Value q) (got y) = left_value q y
left (S.Reduction r p) t = left_reduction r t (reduced_to p)
left (S.Part q) (told_made m) = left_part q m
left _ _ = throw BadType

abbrev pub wait_of : State → Wait
wait_of (S.Begin q) = to_begin
wait_of (S.Value q) = a_value
wait_of (S.Reduction r p) = reduction_waits r
wait_of (S.Part q) = a_part
wait_of S.Over = nothing

-- how a rule of this crate runs: the loop through a collection is its only one
abbrev pub running : Running State
running = record { left = left; wait_of = wait_of; own = is_enter_loop; rounds = stage_round }

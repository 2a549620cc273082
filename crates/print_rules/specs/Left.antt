-- The plan that printing has left, by where it stands and what it is told.
use Rattle.std.specs.Prelude.{ℕ, Bool, true, false, List, [], ◌∷◌, drop}
use Rattle.seq_base.specs.declared.thrown.Thrown.TheVariants.{BadType}
use Rattle.seq_values.specs.Model as M
use Rattle.seq_values.specs.Plain.{plain, plains}
use Rattle.seq_plan.specs.Plan.{Plan, seq, go, give, throw, then, Loop, print_value, print_rest, Round, fails, Told, begun, done, got}
use Rattle.seq_turns.specs.Seen.{rested}
use Rattle.seq_turns.specs.Turning.{Wait, to_begin, a_step, a_seq, nothing, Running, Takes as TakesBy}
use Rattle.seq_turns.specs.declared.next.Next.{Next}
use Rattle.seq_meaning.specs.Prints.{print_items, print_on, print_rule, value_round, rest_round}
use Rattle.print_rules.specs.declared.state.Around.{Around}
use Rattle.print_rules.specs.declared.state.Around.TheVariants as A
use Rattle.print_rules.specs.declared.state.Printing.{Printing}
use Rattle.print_rules.specs.declared.state.State.{State}
use Rattle.print_rules.specs.declared.state.State.TheVariants as S

-- ## What waits for a text

-- the loop over the elements of a node, with the text so far, whether an element stands in it, and the seq
abbrev pub elements_from : M.Value ℕ → Bool → M.Value ℕ → (M.Value ℕ → Plan ℕ) → Plan ℕ
elements_from so_far after s h = go print_rest (so_far ∷ M.bool after ∷ s ∷ []) h

-- the loop over the items of a vector, of which there is one, with the text before it
abbrev pub items_from : List ℕ → List (M.Value ℕ) → (M.Value ℕ → Plan ℕ) → Plan ℕ
items_from so_far [] h = throw BadType
items_from so_far (x ∷ xs) h = go print_value (M.text so_far ∷ x ∷ []) (λ t. then (print_items xs t) h)

-- what comes after a value in what it is printed within, by the text up to there
abbrev pub after_value : Around → M.Value ℕ → Plan ℕ
after_value (A.Items items at) t = print_items (plains (drop at items.items)) t
after_value (A.Elements rest) t = seq (rested rest) (λ u. elements_from t true u give)

-- the last one comes first
abbrev pub resolved_by : (M.Value ℕ → Plan ℕ) → List Around → M.Value ℕ → Plan ℕ
resolved_by h [] = h
resolved_by h (a ∷ more) = resolved_by (λ t. then (after_value a t) h) more

abbrev pub resolved : Printing → M.Value ℕ → Plan ℕ
resolved p = resolved_by give p.around.items

-- what is left once the text of the value at hand is complete
abbrev pub resumes : Printing → Plan ℕ
resumes p = resolved p (M.text p.text)

-- ## What is left at each state

abbrev pub left : State → Told ℕ → Plan ℕ
left (S.Begin v) begun = print_rule (plain v.value)
left (S.Seq after p) (got s) = elements_from (M.text p.text) after s (resolved p)
left (S.Step v p) done = then (print_on p.text (plain v.value)) (resolved p)
left _ _ = throw BadType

-- what the rule waits for
abbrev pub wait_of : State → Wait
wait_of (S.Begin v) = to_begin
wait_of (S.Seq after p) = a_seq
wait_of (S.Step v p) = a_step
wait_of S.Over = nothing

-- the loops of printing
abbrev pub is_print : Loop → Bool
is_print print_value = true
is_print print_rest = true
is_print _ = false

-- their rounds
abbrev pub print_round : Loop → List (M.Value ℕ) → Round ℕ
print_round print_value xs = value_round xs
print_round print_rest xs = rest_round xs
print_round _ xs = fails BadType

-- how printing runs
abbrev pub prints : Running State
prints = record { left = left; wait_of = wait_of; own = is_print; rounds = print_round }

abbrev pub Takes : Plan ℕ → Next State → Type 0
Takes plan next = TakesBy prints plan next

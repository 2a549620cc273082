-- The plan that a rule has left, by where it stands and what it is told.
use Rattle.std.specs.Prelude.{ℕ, ◌++◌, pos, ◌+ℤ◌, int_lt, Bool, true, false, not, cond, List, [], ◌∷◌, reverse, drop, Option, Some, None}
use Rattle.seq_base.specs.declared.thrown.Thrown.TheVariants.{BadType}
use Rattle.seq_values.specs.Model as M
use Rattle.seq_values.specs.Plain.{plain, plains}
use Rattle.seq_plan.specs.Plan.{Plan, visit, seq, call, go, give, throw, then, plan_of, Told, begun, done, got, Loop, nth_from, last_from, count_from, gather_from, doall_from, every_from, some_from, equal_from, reduce_from}
use Rattle.seq_plan.specs.Nodes.{first_of, rest_of, is_nil, is_truthy, if_nil, if_true, give_value, with_members}
use Rattle.seq_plan.specs.Lists.{list_of}
use Rattle.seq_plan.specs.Cursors.{stands}
use Rattle.seq_turns.specs.Seen.{seen, rested}
use Rattle.seq_turns.specs.Turning.{Wait, to_begin, a_step, a_seq, a_value, nothing, Running, Takes as TakesBy}
use Rattle.seq_turns.specs.declared.next.Next.{Next}
use Rattle.seq_turns.specs.declared.proper.Proper.{Proper}
use Rattle.lazy_rows.specs.Table.{walk_call, walk_round}
use Rattle.lazy_rows.specs.Walks.{first_rule, failing, members, count_goes_on, conj_each, every_call, some_call, unless_reduced}
use Rattle.lazy_rows.specs.Equal.{pair_on, equal_each, equal_call, unequal_call}
use Rattle.walk_rules.specs.declared.state.Once.{Once}
use Rattle.walk_rules.specs.declared.state.Once.TheVariants as O
use Rattle.walk_rules.specs.declared.state.Purpose.{Purpose}
use Rattle.walk_rules.specs.declared.state.Purpose.TheVariants as P
use Rattle.walk_rules.specs.declared.state.Quest.{Quest}
use Rattle.walk_rules.specs.declared.state.Quest.TheVariants as A
use Rattle.walk_rules.specs.declared.state.Rests.{Rests}
use Rattle.walk_rules.specs.declared.state.Pending.{Pending}
use Rattle.walk_rules.specs.declared.state.AtSeq.{AtSeq}
use Rattle.walk_rules.specs.declared.state.AtSeq.TheVariants as Q
use Rattle.walk_rules.specs.declared.state.AtStep.{AtStep}
use Rattle.walk_rules.specs.declared.state.AtStep.TheVariants as T
use Rattle.walk_rules.specs.declared.state.AtValue.{AtValue}
use Rattle.walk_rules.specs.declared.state.AtValue.TheVariants as V
use Rattle.walk_rules.specs.declared.state.State.{State}
use Rattle.walk_rules.specs.declared.state.State.TheVariants as S

-- ## What is left of each walk

-- the default of `nth`, if there is one
abbrev pub default_of : Option Proper → List (M.Value ℕ)
default_of None = []
default_of (Some d) = plain d.value ∷ []

-- what is made of all elements
abbrev pub made_of : Purpose → List (M.Value ℕ) → Plan ℕ
made_of P.Vector xs = give_value (M.vector (M.values xs))
made_of P.Reversed xs = give_value (list_of (reverse xs))
made_of (P.Arguments f) xs = call (plain f.value) xs give

-- the loop that gathers, with the elements so far and the seq
abbrev pub gathers : Purpose → List (M.Value ℕ) → M.Value ℕ → Plan ℕ
gathers p xs s = go gather_from (M.vector (M.values xs) ∷ s ∷ []) (λ v. made_of p (members v))

-- the loop that asks a test of each element
abbrev pub searches : Quest → M.Value ℕ → M.Value ℕ → Plan ℕ
searches A.Every p s = go every_from (p ∷ s ∷ []) give
searches A.Any p s = go some_from (p ∷ s ∷ []) give

-- what the word gives where no element decided
abbrev pub searched : Quest → Plan ℕ
searched A.Every = give (M.bool true)
searched A.Any = give M.nil

-- the row of the word
abbrev pub search_call : Quest → List (M.Value ℕ) → Plan ℕ
search_call A.Every xs = every_call xs
search_call A.Any xs = some_call xs

-- what the test answered of an element, and what comes after the element
abbrev pub decides : Quest → M.Value ℕ → M.Value ℕ → M.Value ℕ → Plan ℕ
decides A.Every p r y = if_true y (seq r (λ t. searches A.Every p t)) (give (M.bool false))
decides A.Any p r y = if_true y (give y) (seq r (λ t. searches A.Any p t))

-- the reduction with the answer so far
abbrev pub reduces : M.Value ℕ → M.Value ℕ → M.Value ℕ → Plan ℕ
reduces f acc s = go reduce_from (f ∷ acc ∷ s ∷ []) give

-- ## What waits for a comparison

-- the loop over two seqs
abbrev pub compares : M.Value ℕ → M.Value ℕ → (M.Value ℕ → Plan ℕ) → Plan ℕ
compares s t h = go equal_from (s ∷ t ∷ []) h

-- where a pair is equal, the rests are compared
abbrev pub goes_on : Rests → M.Value ℕ → Plan ℕ
goes_on r b = if_true b (seq (rested r.left) (λ u. seq (rested r.right) (λ v. compares u v give))) (give b)

-- `not=` turns the answer round
abbrev pub answers : Bool → M.Value ℕ → Plan ℕ
answers false b = give b
answers true b = give (M.bool (not (is_truthy b)))

-- the arguments from the right one of a pair on
abbrev pub args_left : Bool → List (M.Value ℕ) → M.Value ℕ → Plan ℕ
args_left negated [] b = answers negated b
args_left negated (x ∷ ys) b = if_true b (equal_each x ys (answers negated)) (answers negated b)

-- the row of `=` or `not=`
abbrev pub equals : Bool → List (M.Value ℕ) → Plan ℕ
equals false xs = equal_call xs
equals true xs = unequal_call xs

-- the last rests come first
abbrev pub resolved_by : (M.Value ℕ → Plan ℕ) → List Rests → M.Value ℕ → Plan ℕ
resolved_by h [] = h
resolved_by h (r ∷ rs) = resolved_by (λ b. then (goes_on r b) h) rs

abbrev pub resolved : Pending → M.Value ℕ → Plan ℕ
resolved p = resolved_by (args_left p.negated (plains (drop p.at p.args.items))) p.rests.items

-- ## What is left at each state

-- the words that take one seq
abbrev pub left_once : Once → M.Value ℕ → Plan ℕ
left_once O.Seq s = give s
left_once O.First s = if_nil s (give M.nil) (give (first_of s))
left_once O.Second s = if_nil s (give M.nil) (first_rule (rest_of s))
left_once O.Rest s = if_nil s (give M.empty) (give (rest_of s))
left_once O.Next s = if_nil s (give M.nil) (seq (rest_of s) give)
left_once O.IsEmpty s = give (M.bool (is_nil s))

abbrev pub left_seq : AtSeq → M.Value ℕ → Plan ℕ
left_seq (Q.Once once) s = left_once once s
left_seq (Q.Place i d) s = cond (int_lt i (pos 0)) (plan_of (failing (default_of d))) (go nth_from (M.int i ∷ s ∷ default_of d) give)
left_seq (Q.Nth n d) s = go nth_from (M.int n ∷ s ∷ default_of d) give
left_seq (Q.Last x) s = go last_from (plain x.value ∷ s ∷ []) give
left_seq (Q.Count n) s = go count_from (M.int n ∷ s ∷ []) give
left_seq (Q.Conj args) s = conj_each s (plains (drop 1 args.items))
left_seq (Q.Gather kept p) s = gathers p (plains kept.items.items) s
left_seq (Q.Doall c) s = go doall_from (plain c.value ∷ s ∷ []) give
left_seq (Q.Search quest p) s = searches quest (plain p.value) s
left_seq (Q.ReduceFirst f) s = if_nil s (call (plain f.value) [] give) (visit (seq (rest_of s) (λ t. reduces (plain f.value) (first_of s) t)))
left_seq (Q.Reduce f acc) s = reduces (plain f.value) (plain acc.value) s
left_seq (Q.EqualLeft right p) s = seq (rested right) (λ t. compares s t (resolved p))
left_seq (Q.EqualRight left p) t = compares (seen left) t (resolved p)

abbrev pub left_step : AtStep → Plan ℕ
left_step (T.Nth n d c) = seq (rest_of (stands c)) (λ t. go nth_from (M.int n ∷ t ∷ default_of d) give)
left_step (T.Last c) = seq (rest_of (stands c)) (λ t. go last_from (first_of (stands c) ∷ t ∷ []) give)
left_step (T.Count n c) = count_goes_on (n +ℤ pos 1) (stands c)
left_step (T.Gather kept p c) = with_members (plains kept.items.items ++ first_of (stands c) ∷ []) (λ ys. seq (rest_of (stands c)) (λ t. gathers p ys t))
left_step (T.Doall w c) = seq (rest_of (stands c)) (λ t. go doall_from (plain w.value ∷ t ∷ []) give)
left_step (T.Search quest p c) = call (plain p.value) (first_of (stands c) ∷ []) (λ y. decides quest (plain p.value) (rest_of (stands c)) y)
left_step (T.ReduceFirst f c) = seq (rest_of (stands c)) (λ t. reduces (plain f.value) (first_of (stands c)) t)
left_step (T.Reduce f acc c) = call (plain f.value) (plain acc.value ∷ first_of (stands c) ∷ []) (λ y. unless_reduced y (seq (rest_of (stands c)) (λ t. reduces (plain f.value) y t)))
left_step (T.Pair x y p) = then (pair_on (plain x.value) (plain y.value)) (resolved p)

abbrev pub left_value : AtValue → M.Value ℕ → Plan ℕ
left_value V.Answer y = give y
left_value (V.Search quest p rest) y = decides quest (plain p.value) (rested rest) y
left_value (V.Reduce f rest) y = unless_reduced y (seq (rested rest) (λ t. reduces (plain f.value) y t))

abbrev pub left : State → Told ℕ → Plan ℕ
left (S.Begin c) begun = walk_call c.word (plains c.args.items)
left (S.Seq q) (got s) = left_seq q s
left (S.Step q) done = left_step q
left (S.Value q) (got y) = left_value q y
left _ _ = throw BadType

-- what a rule waits for
abbrev pub wait_of : State → Wait
wait_of (S.Begin c) = to_begin
wait_of (S.Seq q) = a_seq
wait_of (S.Step q) = a_step
wait_of (S.Value q) = a_value
wait_of S.Over = nothing

-- the loops of these words
abbrev pub is_walk : Loop → Bool
is_walk nth_from = true
is_walk last_from = true
is_walk count_from = true
is_walk gather_from = true
is_walk doall_from = true
is_walk every_from = true
is_walk some_from = true
is_walk equal_from = true
is_walk reduce_from = true
is_walk _ = false

-- how these words run
abbrev pub walking : Running State
walking = record { left = left; wait_of = wait_of; own = is_walk; rounds = walk_round }

abbrev pub Takes : Plan ℕ → Next State → Type 0
Takes plan next = TakesBy walking plan next

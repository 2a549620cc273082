-- What a rule that runs by turns owes at each turn.
use Rattle.std.specs.Prelude.{◌≡◌, ℕ, Bool, true, List, IsTrue}
use Rattle.seq_values.specs.Model as M
use Rattle.seq_values.specs.Plain.{plain}
use Rattle.seq_values.specs.WellFormed.{is_well_formed}
use Rattle.seq_values.specs.WellFormedTerms.{is_well_formed_turn}
use Rattle.seq_values.specs.declared.term.Turn.{Turn}
use Rattle.seq_values.specs.declared.term.Turn.TheVariants as T
use Rattle.seq_values.specs.declared.term.Answer.{Answer}
use Rattle.seq_values.specs.declared.term.Answer.TheVariants as A
use Rattle.seq_plan.specs.Plan.{Loop, Plan, seq, go, then, plan_of, Round, Told}
use Rattle.seq_plan.specs.Nodes.{now, found}
use Rattle.seq_plan.specs.Turns.{node}
use Rattle.seq_turns.specs.Seen.{NotNow}
use Rattle.seq_turns.specs.declared.next.Next.{Next}

-- What a rule may pass over between two turns, by the loops that are its own: a loop is written out, and a `seq` of what is there already goes on at once.
pub data Silent {C : Type 0} (own : Loop → Bool) (rounds : Loop → List (M.Value C) → Round C) : Plan C → Plan C → Type 0 where
  arrives : {p : Plan C} → Silent own rounds p p
  opens : {l : Loop} {xs : List (M.Value C)} {k : M.Value C → Plan C} {q : Plan C} → own l ≡ true → Silent own rounds (then (plan_of (rounds l xs)) k) q → Silent own rounds (go l xs k) q
  finds : {v w : M.Value C} {k : M.Value C → Plan C} {q : Plan C} → found v ≡ now w → Silent own rounds (k w) q → Silent own rounds (seq v k) q

-- what a rule waits for
pub data Wait : Type 0 where
  to_begin a_step a_seq a_value a_part nothing : Wait

-- what a turn is answered by
abbrev pub awaited : Turn → Wait
awaited (T.Need c) = a_value
awaited (T.Seq v) = a_seq
awaited T.Visit = a_step
awaited (T.Apply f xs) = a_value
awaited (T.Make kind t) = a_part
awaited (T.Give v) = nothing
awaited (T.Throw e) = nothing

-- A `seq` is answered by what `seq` finds at once: nil, or a node with an element.
abbrev pub IsSeq : M.Value ℕ → Type 0
IsSeq v = found v ≡ now v

-- Which answers fit. A value that is told is well formed.
abbrev pub Fits : Wait → Answer → Type 0
Fits to_begin A.Begin = Unit {0}
Fits a_step A.Done = Unit {0}
Fits a_seq (A.Got v) = IsSeq (plain v) × IsTrue (is_well_formed v)
Fits a_value (A.Got v) = IsTrue (is_well_formed v)
Fits a_part (A.Made c) = Unit {0}
Fits _ _ = ⊥

-- A `seq` that is asked for is never of what is there already. So each turn is an own step, a make, or the rule's end.
abbrev pub IsStep : Turn → Type 0
IsStep (T.Seq v) = NotNow (plain v)
IsStep _ = Unit {0}

-- How a rule runs by the states of a type: what is left of its plan by where it stands and what it is told, what it waits for, the loops that are its own, and their rounds.
pub record Running (S : Type 0) : Type 0 where
  pub left : S → Told ℕ → Plan ℕ
  pub wait_of : S → Wait
  pub own : Loop → Bool
  pub rounds : Loop → List (M.Value ℕ) → Round ℕ

-- A turn takes the next node of a plan, all that it hands out is well formed, and the rule waits for what the turn asks for.
pub record TakesTurn {S : Type 0} (rule : Running S) (plan : Plan ℕ) (state : S) (turn : Turn) : Type 0 where
  pub goes : Silent rule.own rule.rounds plan (node turn (rule.left state))
  pub step : IsStep turn
  pub waits : rule.wait_of state ≡ awaited turn
  pub well : IsTrue (is_well_formed_turn turn)

abbrev pub Takes : {S : Type 0} → Running S → Plan ℕ → Next S → Type 0
Takes rule plan next = TakesTurn rule plan next.state next.turn

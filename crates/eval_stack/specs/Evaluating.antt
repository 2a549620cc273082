-- An evaluation that is carried on step by step.
use Rattle.std.specs.Prelude.{◌≡◌, ℕ, Option, Some, None}
use Rattle.seq_plan.specs.Plan.{Rules}
use Rattle.seq_turns.specs.Turning.{Running}
use Rattle.cell_book.specs.declared.answers.Look.TheVariants as L
use Rattle.cell_book.specs.Account.{Account, Duty}
use Rattle.cell_book.specs.Steps.{shown}
use Rattle.cell_book.specs.Glimpses.{Glimpse}
use Rattle.lawful_works.specs.Alone.{Quiets}
use Rattle.eval_stack.specs.declared.state.Setting.{Setting}
use Rattle.eval_stack.specs.declared.state.Stack.{Stack}
use Rattle.eval_stack.specs.declared.state.Turned.{Turned}
use Rattle.eval_stack.specs.declared.state.Progress.{Progress}
use Rattle.eval_stack.specs.declared.state.Progress.TheVariants as G
use Rattle.eval_stack.specs.Stack.{stack_claims, lowest, StackOn}
use Rattle.eval_stack.specs.Turned.{TurnNotes}
use Rattle.eval_stack.specs.Came.{Answered, EvaluationNotes}

module _ {S : Type 0} {b : _} where
  -- how often each claim is one of its open works
  abbrev pub open_claims : Option (Stack S b) → ℕ → ℕ
  open_claims None c = 0
  open_claims (Some k) c = stack_claims k c

  -- it evaluates this work, if it isn't over
  abbrev pub IsOf : Duty → Option (Stack S b) → Type 0
  IsOf w None = Unit {0}
  IsOf w (Some k) = lowest k.below.items k.top.work ≡ w

  -- it isn't over
  abbrev pub GoesOn : Option (Stack S b) → Type 0
  GoesOn None = ⊥
  GoesOn (Some k) = Unit {0}

  -- it is over exactly where a step says so
  abbrev pub GoesOnAfter : Progress → Option (Stack S b) → Type 0
  GoesOnAfter G.Running k = GoesOn k
  GoesOnAfter (G.Waiting cell claim) k = GoesOn k
  GoesOnAfter (G.Ended r) k = k ≡ None

-- Each of its open works is on its run, and waits for the one above it.
abbrev pub WorksOn : {S : Type 0} {b : _} → Running S → (ℕ → Rules ℕ) → Setting → Glimpse → (ℕ → ℕ) → Option (Stack S b) → Type 0
WorksOn running table s g mine None = Unit {0}
WorksOn running table s g mine (Some k) = StackOn running table s g mine k

-- What a step shows: the claim that evaluates the part, or the value or the error of the work, which the book has.
abbrev pub Shows : Glimpse → Duty → Progress → Type 0
Shows g w G.Running = Unit {0}
Shows g w (G.Waiting cell claim) = shown (g.cells cell) ≡ L.Forcing claim
Shows g w (G.Ended r) = Answered g w r

-- what is noted in a book that nobody shares
abbrev pub StepNotes : Progress → Account → Account → Type 0
StepNotes G.Running a c = Quiets a c
StepNotes (G.Waiting cell claim) a c = Quiets a c
StepNotes (G.Ended r) a c = EvaluationNotes r a c

-- the same, after a turn
abbrev pub NotesAfter : {S : Type 0} {b : _} → Turned S b → Progress → Account → Account → Type 0
NotesAfter t p d c = (a : Account) → TurnNotes t a d → StepNotes p a c

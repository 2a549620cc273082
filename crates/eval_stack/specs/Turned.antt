-- What a turn of a stack comes to.
use Rattle.std.specs.Prelude.{◌≡◌, ℕ, Ok, Err, true}
use Rattle.seq_plan.specs.Plan.{Rules}
use Rattle.seq_turns.specs.Turning.{Running}
use Rattle.cell_book.specs.declared.answers.Look.TheVariants as L
use Rattle.cell_book.specs.Account.{Account, Duty}
use Rattle.cell_book.specs.Steps.{shown}
use Rattle.cell_book.specs.Glimpses.{Glimpse}
use Rattle.lawful_works.specs.Calls.{HasValue}
use Rattle.lawful_works.specs.Evaluated.{HasError}
use Rattle.lawful_works.specs.Alone.{Grows, Quiets}
use Rattle.eval_works.specs.Meanwhile.{HaltNotes}
use Rattle.eval_works.specs.declared.state.Halt.{Halt}
use Rattle.eval_works.specs.declared.state.Halt.TheVariants as H
use Rattle.eval_stack.specs.declared.state.Setting.{Setting}
use Rattle.eval_stack.specs.declared.state.Turned.{Turned}
use Rattle.eval_stack.specs.declared.state.Turned.TheVariants as T
use Rattle.eval_stack.specs.Stack.{all_claims, stack_claims, lowest, IsOpenOver, StackOn}

-- why the works go on no more, by what was seen
abbrev pub HaltSeen : Glimpse → Halt → Type 0
HaltSeen g H.Spent = g.spent ≡ true
HaltSeen g H.GaveUp = g.gave_up ≡ true
HaltSeen g H.Memory = Unit {0}

module _ {S : Type 0} {b : _} where
  -- the claims that are open afterwards
  abbrev pub claims_left : Turned S b → ℕ → ℕ
  claims_left (T.On k) c = stack_claims k c
  claims_left (T.Waits k cell claim) c = stack_claims k c
  claims_left (T.Over r) c = 0
  claims_left (T.Halts below w why) c = all_claims below.items w c

  -- the lowest work stays the same
  abbrev pub StaysLowest : Duty → Turned S b → Type 0
  StaysLowest w (T.On k) = lowest k.below.items k.top.work ≡ w
  StaysLowest w (T.Waits k cell claim) = lowest k.below.items k.top.work ≡ w
  StaysLowest w (T.Over r) = Unit {0}
  StaysLowest w (T.Halts below v why) = Unit {0}

  -- where it is over, the book has what the lowest work ended with
  abbrev pub Ends : Glimpse → Duty → Turned S b → Type 0
  Ends g w (T.On k) = Unit {0}
  Ends g w (T.Waits k cell claim) = Unit {0}
  Ends g w (T.Over (Ok v)) = HasValue g w v
  Ends g w (T.Over (Err why)) = HasError g w why
  Ends g w (T.Halts below v why) = Unit {0}

  -- what is noted in a book that nobody shares
  abbrev pub TurnNotes : Turned S b → Account → Account → Type 0
  TurnNotes (T.On k) a c = Quiets a c
  TurnNotes (T.Waits k cell claim) a c = Quiets a c
  TurnNotes (T.Over r) a c = Quiets a c
  TurnNotes (T.Halts below w why) a c = Grows a c × HaltNotes why a c

module _ {S : Type 0} {b : _} (running : Running S) (table : ℕ → Rules ℕ) (s : Setting) (g : Glimpse) (mine : ℕ → ℕ) where
  -- The works stand as before, or are open.
  abbrev pub TurnedOn : Turned S b → Type 0
  TurnedOn (T.On k) = StackOn running table s g mine k
  TurnedOn (T.Waits k cell claim) = StackOn running table s g mine k × (shown (g.cells cell) ≡ L.Forcing claim)
  TurnedOn (T.Over r) = Unit {0}
  TurnedOn (T.Halts below w why) = IsOpenOver g mine below.items w × HaltSeen g why

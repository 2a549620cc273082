-- A stack of open works, each of which waits for the one above it.
use Rattle.std.specs.Prelude.{◌≡◌, ℕ, ◌+◌, ◌≤◌, List, [], ◌∷◌, Some}
use Rattle.clj_script.specs.Seen.{seen}
use Rattle.clj_script.specs.declared.program.Program.{Program}
use Rattle.seq_plan.specs.Plan.{Rules}
use Rattle.seq_turns.specs.Turning.{Running}
use Rattle.cell_book.specs.Account.{Duty}
use Rattle.cell_book.specs.Glimpses.{Glimpse, IsOpen, at_claim}
use Rattle.eval_frames.specs.Frames.{ground}
use Rattle.eval_frames.specs.declared.state.Code.{Code}
use Rattle.lawful_works.specs.Basis.{Basis}
use Rattle.lawful_works.specs.Calls.{OnCell}
use Rattle.eval_works.specs.Standing.{GoesBy, AskerOn, EventOn}
use Rattle.eval_stack.specs.declared.state.Setting.{Setting}
use Rattle.eval_stack.specs.declared.state.Waiting.{Waiting}
use Rattle.eval_stack.specs.declared.state.Top.{Top}
use Rattle.eval_stack.specs.declared.state.Stack.{Stack}

-- what all works of a program go by
abbrev pub basis_in : (ℕ → Rules ℕ) → Program → ℕ → ℕ → Basis
basis_in table program processors limit = record { rules = table processors; program = seen program; limit = limit }

abbrev pub basis_of : (ℕ → Rules ℕ) → Setting → Basis
basis_of table s = basis_in table s.program s.processors s.limit

-- the code is that of the setting, for this work
pub record IsCode (s : Setting) (code : Code) (w : Duty) : Type 0 where
  pub program : code.program ≡ s.program
  pub processors : code.processors ≡ s.processors
  pub goes : GoesBy code w

module _ {S : Type 0} {b : _} where
  -- how often each claim is one of the works that wait
  abbrev pub claims : List (Waiting S b) → ℕ → ℕ
  claims [] c = 0
  claims (x ∷ xs) c = at_claim x.work.claim c + claims xs c

  -- and with that of the top work
  abbrev pub all_claims : List (Waiting S b) → Duty → ℕ → ℕ
  all_claims xs w c = at_claim w.claim c + claims xs c

  abbrev pub stack_claims : Stack S b → ℕ → ℕ
  stack_claims s c = all_claims s.below.items s.top.work c

  -- the lowest work, where this one is the top
  abbrev pub lowest : List (Waiting S b) → Duty → Duty
  lowest [] w = w
  lowest (x ∷ xs) w = x.work

  -- each claim is open, and once in the stack
  pub record AreOwn (mine : ℕ → ℕ) (xs : List (Waiting S b)) (w : Duty) : Type 0 where
    pub own : (c : ℕ) → all_claims xs w c ≤ mine c
    pub once : (c : ℕ) → all_claims xs w c ≤ 1

  module _ (g : Glimpse) where
    -- the work is on the part that the other asks for, and was opened for it
    abbrev pub IsLinked : Waiting S b → Duty → Type 0
    IsLinked x w = OnCell g w (Some x.work.claim) x.asker.cell

    abbrev pub AreLinked : List (Waiting S b) → Duty → Type 0
    AreLinked [] w = Unit {0}
    AreLinked (x ∷ xs) w = IsLinked x (lowest xs w) × AreLinked xs w

    -- the works that wait are open
    abbrev pub AreOpen : List (Waiting S b) → Type 0
    AreOpen [] = Unit {0}
    AreOpen (x ∷ xs) = IsOpen g x.work × AreOpen xs

    -- open works, wherever their runs are
    pub record IsOpenOver (mine : ℕ → ℕ) (xs : List (Waiting S b)) (w : Duty) : Type 0 where
      pub top : IsOpen g w
      pub rest : AreOpen xs
      pub own : AreOwn mine xs w

module _ {S : Type 0} {b : _} (running : Running S) (table : ℕ → Rules ℕ) (s : Setting) (g : Glimpse) where
  -- the run of the work has come to an ask
  pub record IsWaiting (x : Waiting S b) : Type 0 where
    pub code : IsCode s x.code x.work
    pub asks : AskerOn (ground running table x.code) s.limit g x.work x.asker

  abbrev pub AreWaiting : List (Waiting S b) → Type 0
  AreWaiting [] = Unit {0}
  AreWaiting (x ∷ xs) = IsWaiting x × AreWaiting xs

  -- the works that wait below this one
  pub record StandsOver (mine : ℕ → ℕ) (xs : List (Waiting S b)) (w : Duty) : Type 0 where
    pub waiting : AreWaiting xs
    pub linked : AreLinked g xs w
    pub own : AreOwn mine xs w

  -- the run of the top work has come to its event
  pub record IsTop (t : Top S b) : Type 0 where
    pub code : IsCode s t.code t.work
    pub runs : EventOn (ground running table t.code) s.limit g t.work t.event

  -- Each work is open and on its run, and waits for the one above it.
  pub record StackOn (mine : ℕ → ℕ) (k : Stack S b) : Type 0 where
    pub over : StandsOver mine k.below.items k.top.work
    pub top : IsTop k.top

-- What the book of a run is between two evaluations, after a form, and where a make was refused.
use Rattle.std.specs.Prelude.{◌≡◌, ℕ, suc, ◌<◌, ◌^◌, true, false, List, length, Option, Some, None, Result, Ok, Err, slice_get, IsTrue}
use Rattle.seq_base.specs.declared.thrown.Thrown.{Thrown}
use Rattle.seq_base.specs.declared.limits.Limits.{Limits}
use Rattle.seq_values.specs.declared.value.Value.{Value as Coded}
use Rattle.seq_values.specs.Plain.{plains}
use Rattle.seq_values.specs.WellFormed.{is_well_formed}
use Rattle.clj_script.specs.Trees.{Program}
use Rattle.cell_book.specs.Account.{Account, opens}
use Rattle.cell_book.specs.Steps.{IsOpenFuture}
use Rattle.cell_book.specs.Glimpses.{glimpse, Reaches}
use Rattle.seq_lawful.specs.Lawful.{Lawful}
use Rattle.seq_lawful.specs.Runs.{IsBefore}
use Rattle.seq_ledger.specs.Ledgers.{of_defs}
use Rattle.lawful_works.specs.declared.stop.Stop.{Stop}
use Rattle.lawful_works.specs.declared.stop.Stop.TheVariants as S
use Rattle.lawful_works.specs.Basis.{IsGood}
use Rattle.lawful_output.specs.Progress.{HasGiven, HasThrown, Rested, Reached}
use Rattle.lone_run.specs.declared.given.Given.{Given}
use Rattle.lone_run.specs.declared.given.Given.TheVariants as G
use Rattle.lone_run.specs.declared.given.Halt.{Halt}
use Rattle.lone_run.specs.declared.given.Halt.TheVariants as H
use Rattle.lone_run.specs.Running.{names_of, basis_of}

-- what the evaluation of a work came to, as the evaluator says it
abbrev pub as_came : Result Given Halt → Result Coded Stop
as_came (Ok (G.Gave v)) = Ok v
as_came (Ok (G.Threw why)) = Err (S.Thrown why)
as_came (Err H.Spent) = Err S.Spent
as_came (Err H.Memory) = Err S.Memory

-- the form at a place ended so
abbrev pub HasEnded : Account → ℕ → Given → Type 0
HasEnded a k (G.Gave v) = HasGiven a k v
HasEnded a k (G.Threw why) = HasThrown a k why

-- The values of the `def` forms among the first k, in order, each of them well formed.
pub record Defines (program : Program) (a : Account) (k : ℕ) (defined : List Coded) : Type 0 where
  pub outcomes : List Coded
  pub so_many : length outcomes ≡ k
  pub before : (i : ℕ) → i < length outcomes → IsBefore (glimpse a) outcomes i
  pub are : plains defined ≡ of_defs program.tops (plains outcomes)
  pub few : length defined < suc k
  pub well : (i : ℕ) (v : Coded) → slice_get defined i ≡ Some v → IsTrue (is_well_formed v)

module _ (program : Program) (limits : Limits) where
  -- Between two evaluations: the book is good, no claim of it is open, and nothing was noted.
  pub record IsCalm (a : Account) : Type 0 where
    pub good : IsGood (names_of limits) (basis_of program limits) a
    pub closed : (c : ℕ) → opens c a ≡ 0
    pub limit_is : a.limit ≡ limits.cells
    pub small : a.limit < 2 ^ 32
    pub unspent : a.spent ≡ false
    pub kept : a.gave_up ≡ false

  -- with so many forms begun a make was refused for the limit
  pub record IsOver (a : Account) (k : ℕ) : Type 0 where
    pub lawful : Lawful (names_of limits) program limits.steps a
    pub limit_is : a.limit ≡ limits.cells
    pub so_many : length a.forms ≡ k
    pub spent : a.spent ≡ true

  -- the book went on, with the same forms begun
  pub record WentOn (a b : Account) : Type 0 where
    pub calm : IsCalm b
    pub reaches : Reaches (glimpse a) (glimpse b)
    pub so_many : length b.forms ≡ length a.forms

  -- and no future is empty any more
  pub record Settled (a b : Account) : Type 0 where
    pub went : WentOn a b
    pub none : (id : ℕ) → ¬ (IsOpenFuture b id)

  -- the next form was begun and evaluated
  pub record Evaluated (a : Account) (k : ℕ) (b : Account) (given : Given) : Type 0 where
    pub calm : IsCalm b
    pub reaches : Reaches (glimpse a) (glimpse b)
    pub so_many : length b.forms ≡ suc k
    pub ended : HasEnded b k given

  -- and every future too
  pub record Forced (a : Account) (k : ℕ) (b : Account) (given : Given) : Type 0 where
    pub calm : IsCalm b
    pub reaches : Reaches (glimpse a) (glimpse b)
    pub rested : Rested (names_of limits) program limits.steps limits.cells b (suc k)
    pub ended : HasEnded b k given

  -- the form's line is to be written, and these are the values of the `def` forms before
  pub record HasLine (k : ℕ) (b : Account) (given : Given) (defined : List Coded) : Type 0 where
    pub calm : IsCalm b
    pub rested : Rested (names_of limits) program limits.steps limits.cells b (suc k)
    pub ended : HasEnded b k given
    pub defines : Defines program b k defined

  -- the same, where the output of the forms before is this
  pub record AtLine (k : ℕ) (b : Account) (written : List ℕ) (given : Given) (defined : List Coded) : Type 0 where
    pub start : Account
    pub reached : Reached (names_of limits) program limits.steps limits.cells start k written
    pub line : HasLine k b given defined

  -- The run has come past the first k forms: their output is this, and the values of the `def` forms among them are these.
  pub record RunAt (a : Account) (k : ℕ) (written : List ℕ) (defined : List Coded) : Type 0 where
    pub reached : Reached (names_of limits) program limits.steps limits.cells a k written
    pub calm : IsCalm a
    pub defines : Defines program a k defined

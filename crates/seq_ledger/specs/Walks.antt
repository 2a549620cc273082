-- How far a value goes in a book: its elements that are there already, through parts that have a value.
use Rattle.std.specs.Prelude.{◌≡◌, ℕ, suc, ◌+◌, ◌-◌, ◌<◌, ◌≤◌, ◌^◌, unsigned_abs, ◌-ℤ◌, Bool, false, length, Some}
use Rattle.seq_values.specs.declared.value.Value.{Value}
use Rattle.seq_values.specs.Model as M
use Rattle.seq_values.specs.Model.{list}
use Rattle.seq_values.specs.Plain.{plain}
use Rattle.cell_book.specs.Account.{Account, cell_at}
use Rattle.cell_book.specs.Readers.{value_in}
use Rattle.seq_table.specs.Fronts.{Front, front_nil, front_empty, front_vector, front_range, front_vec_seq, front_cons, front_chunk, front_behind, front_unrealised, front_no_list}
use Rattle.seq_ledger.specs.declared.state.Onward.{Onward}
use Rattle.seq_ledger.specs.declared.state.Onward.TheVariants as On
use Rattle.seq_ledger.specs.declared.state.Step.{Step}
use Rattle.seq_ledger.specs.declared.state.Met.{Met}
use Rattle.seq_ledger.specs.declared.state.Met.TheVariants as Met

-- the part has a value in the book
abbrev pub IsDone : Account → ℕ → Type 0
IsDone a c = (u : Value) × (value_in (cell_at a c) ≡ Some u)

-- and this one
abbrev pub Shows : Account → ℕ → M.Value ℕ → Type 0
Shows a c v = (u : Value) × (value_in (cell_at a c) ≡ Some u) × (v ≡ plain u)

-- how many elements of a value are there in the book, and whether its end is
abbrev pub FrontIn : Account → M.Value ℕ → ℕ → Bool → Type 0
FrontIn a = Front (IsDone a) (Shows a)

-- how many nodes and parts the walk meets
abbrev pub steps : {C : Type 0} {IsRealised : C → Type 0} {Shown : C → M.Value C → Type 0} {v : M.Value C} {n : ℕ} {ended : Bool} → Front IsRealised Shown v n ended → ℕ
steps (front_cons walk) = suc (steps walk)
steps (front_chunk walk) = suc (steps walk)
steps (front_behind realised shown walk) = suc (steps walk)
steps _ = 1

-- The walk comes to an end, within so many steps: in a book where no part leads back to itself.
pub record ComesToEnd (a : Account) (v : M.Value ℕ) : Type 0 where
  pub count : ℕ
  pub ended : Bool
  pub walk : FrontIn a v count ended
  pub few : steps walk < 2 ^ 64

-- ## One step

-- what a walk meets at a value
pub data Next : Type 0 where
  -- so many elements, with the end behind them
  last : ℕ → Next
  -- so many elements, and the rest
  more : ℕ → M.Value ℕ → Next
  part : ℕ → Next
  -- neither elements nor an end
  nothing : Next

abbrev pub next_of : M.Value ℕ → Next
next_of M.nil = last 0
next_of M.empty = last 0
next_of (M.vector xs) = last (length (list xs))
next_of (M.range from at end) = last (unsigned_abs (end -ℤ at))
next_of (M.vec_seq xs at) = last (length (list xs) - at)
next_of (M.cons xs r) = more (length (list xs)) r
next_of (M.chunk xs r) = more (length (list xs)) r
next_of (M.cell c) = part c
next_of _ = nothing

abbrev pub met_as : Met → Next
met_as (Met.Last n) = last n
met_as (Met.More n rest) = more n (plain rest)
met_as (Met.Part id) = part id
met_as Met.Nothing = nothing

-- what stands behind a part: its value, or nothing where it has none
abbrev pub IsBehind : Account → ℕ → Onward → Type 0
IsBehind a id (On.At u) = value_in (cell_at a id) ≡ Some u
IsBehind a id (On.Over ended) = (¬ IsDone a id) × (ended ≡ false)

-- so many elements stand behind a step, reached in fewer steps than this
abbrev pub IsLeft : Account → Onward → ℕ → Bool → ℕ → Type 0
IsLeft a (On.At u) n ended bound = (walk : FrontIn a (plain u) n ended) × (steps walk < bound)
IsLeft a (On.Over e) n ended bound = (n ≡ 0) × (ended ≡ e)

-- the front of a value, from what stands behind a step
abbrev pub Passes : Account → M.Value ℕ → ℕ → Onward → Type 0
Passes a v count (On.At u) = (n : ℕ) (ended : Bool) → FrontIn a (plain u) n ended → FrontIn a v (count + n) ended
Passes a v count (On.Over e) = FrontIn a v count e

-- it is the first step of the walk from the value
pub record IsStep (a : Account) (v : M.Value ℕ) (s : Step) : Type 0 where
  pub passes : Passes a v s.count s.then
  pub left : (n : ℕ) (ended : Bool) (walk : FrontIn a v n ended) → (m : ℕ) × (n ≡ s.count + m) × IsLeft a s.then m ended (steps walk)

-- a step that isn't the last one passes a node's items at most
abbrev pub IsShort : Step → Type 0
IsShort s = Within s.then
  where
    Within : Onward → Type 0
    Within (On.At u) = s.count < 2 ^ 32
    Within (On.Over e) = s.count < 2 ^ 64

-- The evaluations that the forms demand, and the parts that these make, realise and fail.
use Rattle.std.specs.Prelude.{◌≡◌, ℕ, ◌<◌, ◌≤◌, suc, List, [], ◌∷◌, length, Some, slice_get}
use Rattle.seq_base.specs.declared.thrown.Thrown.{Thrown}
use Rattle.seq_values.specs.declared.words.Kind.TheVariants.{Lazy, Future}
use Rattle.seq_values.specs.Model.{Value, Term, Outcome, gave, threw}
use Rattle.clj_script.specs.Trees.{Program}
use Rattle.seq_plan.specs.Plan.{Rules}
use Rattle.seq_meaning.specs.Walk.{Made, made, needs, makes_of}
use Rattle.seq_meaning.specs.Names.{Name, form, part, retry}
use Rattle.seq_meaning.specs.Gives.{Work, run, Of, Part, True, Gives}

module _ (rules : Rules Name) (program : Program) (limit k : ℕ) where
  -- a lazy part that gives an error
  pub data FailsLazily : Name → Type 0 where
    fails_lazily : {n : Name} {w : Work} {x : Thrown} → Part rules program limit n Lazy w → Gives rules program limit n (threw x) → FailsLazily n

  -- the evaluations that the first k forms demand
  pub data Demand : Name → Type 0 where
    demands_form : {i : ℕ} → i < k → Demand (form (suc i))
    -- what is asked, under its own name where it is a future or gives a value
    demands_need : {e n : Name} {w : Work} {a : List (Outcome Name)} {ms : List (Made Name)} → Demand e → Of rules program limit e w → True rules program limit e a → run rules program limit e w a ≡ needs n ms → ¬ (FailsLazily n) → Demand n
    -- what is asked of a lazy part that gives an error, as an attempt of the asker's own
    demands_retry : {e n : Name} {w : Work} {a : List (Outcome Name)} {ms : List (Made Name)} → Demand e → Of rules program limit e w → True rules program limit e a → run rules program limit e w a ≡ needs n ms → FailsLazily n → Demand (retry e)
    -- every future that is made
    demands_future : {e : Name} {j : ℕ} {w : Work} {a : List (Outcome Name)} {t : Term Name} → Demand e → Of rules program limit e w → True rules program limit e a → slice_get (makes_of (run rules program limit e w a)) j ≡ Some (made Future t) → Demand (part e (suc j))

  -- the parts that are made by what is demanded
  pub data MadeBy : Name → Type 0 where
    made_by : {e : Name} {j : ℕ} {w : Work} {a : List (Outcome Name)} {m : Made Name} → Demand e → Of rules program limit e w → True rules program limit e a → slice_get (makes_of (run rules program limit e w a)) j ≡ Some m → MadeBy (part e (suc j))

  -- the parts whose evaluation is demanded and gives a value
  pub data Realised : Name → Type 0 where
    realised : {e : Name} {j : ℕ} {v : Value Name} → Demand (part e j) → Gives rules program limit (part e j) (gave v) → Realised (part e j)

  -- the evaluations, other than forms, that are demanded and give an error
  pub data Failed : Name → Type 0 where
    failed_part : {e : Name} {j : ℕ} {x : Thrown} → Demand (part e j) → Gives rules program limit (part e j) (threw x) → Failed (part e j)
    failed_retry : {e : Name} {x : Thrown} → Demand (retry e) → Gives rules program limit (retry e) (threw x) → Failed (retry e)

-- a member of a list
pub data IsIn {A : Type 0} (x : A) : List A → Type 0 where
  here : {xs : List A} → IsIn x (x ∷ xs)
  there : {y : A} {xs : List A} → IsIn x xs → IsIn x (y ∷ xs)

-- a list without repeats
pub data Distinct {A : Type 0} : List A → Type 0 where
  none_twice : Distinct []
  once_more : {x : A} {xs : List A} → ¬ (IsIn x xs) → Distinct xs → Distinct (x ∷ xs)

-- the set has so many members: they are those of a list without repeats
pub data HasSize {A : Type 0} (P : A → Type 0) (size : ℕ) : Type 0 where
  has_size : (l : List A) → Distinct l → ((x : A) → IsIn x l → P x) → ((x : A) → P x → IsIn x l) → length l ≡ size → HasSize P size

-- the set has at most so many members: no list without repeats of its members is longer
abbrev pub HasAtMost : {A : Type 0} → (A → Type 0) → ℕ → Type 0
HasAtMost {A} P size = (l : List A) → Distinct l → ((x : A) → IsIn x l → P x) → length l ≤ size

-- the parts made by the first k forms stay within the cell limit
abbrev pub FormsFit : Rules Name → Program → ℕ → ℕ → ℕ → Type 0
FormsFit rules program limit cells k = HasAtMost (MadeBy rules program limit k) cells

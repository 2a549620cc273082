-- Plans that keep to well-formed values: they call with such values, make parts of well-formed terms, and give such a value, wherever each answer that they are told is well formed.
-- What a loop has for variables is no value of a script: a list of them may be too deep, and a stage of the reducers' `take` binds its count alone. What a loop's variables and its answer are is said for each loop.
use Rattle.std.specs.Prelude.{◌≡◌, ℤ, pos, int_lt, Bool, true, false, List, [], ◌∷◌}
use Rattle.seq_base.specs.declared.thrown.Thrown.{Thrown}
use Rattle.seq_values.specs.Sight.{Kept, left, Sight, a_nil, kept_by}
use Rattle.seq_values.specs.WellFormedTerms.{is_seq, is_state, takes}
use Rattle.seq_values.specs.declared.words.Kind.{Kind}
use Rattle.seq_values.specs.declared.words.Op.{Op}
use Rattle.seq_values.specs.declared.words.Target.{Target}
use Rattle.seq_values.specs.declared.words.Target.TheVariants as T
use Rattle.seq_values.specs.declared.words.XfKind.{XfKind}
use Rattle.seq_values.specs.declared.words.FolderKind.TheVariants as F
use Rattle.seq_values.specs.Model.{Value, bool, int, vector, function, Values, no_values, ◌&◌, list, values, Term}
use Rattle.seq_plan.specs.Plan.{Loop, gather_from, enter_from, parts_from, pull_from, Plan, visit, ask, seq, call, go, make, give, throw, Round, ends_with, fails, visits, calls_for, Rules}
use Rattle.seq_plan.specs.Stages.{Sink, reduces, gathers, sink_values, standing}
use Rattle.seq_plan.specs.WellFormed.{sight, sights, Well, WellAll, WellList, WellTerm}

-- a stage of a transducer, or that of the reducers' `take`
pub data Stage {C : Type 0} : Value C → Type 0 where
  of_transducer : {kind : XfKind} {xs : Values C} → Well (function (T.Xf kind) xs) → Stage (function (T.Xf kind) xs)
  of_take : {n : ℤ} → Stage (function (T.Folder F.Take) (int n & no_values))

-- what a stage keeps between two inputs
abbrev pub kept_of : {C : Type 0} → Value C → List Kept
kept_of (function (T.Xf kind) xs) = kept_by kind (sights xs)
kept_of (function (T.Folder F.Take) xs) = left ∷ []
kept_of _ = []

-- nil is the state of a stage that keeps nothing
abbrev pub is_kept : List Kept → Sight → Bool
is_kept [] a_nil = true
is_kept (kept ∷ []) state = is_state kept state
is_kept _ _ = false

-- stages, each with a state that it may have
pub data Staged {C : Type 0} : List (Value C) → List (Value C) → Type 0 where
  no_stage : Staged [] []
  stage_then : {stage state : Value C} {stages states : List (Value C)} → Stage stage → Well state → is_kept (kept_of stage) (sight state) ≡ true → Staged stages states → Staged (stage ∷ stages) (state ∷ states)

-- what a sink is for: outputs are reduced, or collected
pub data Way : Type 0 where
  reducing collecting : Way

-- Outputs that are collected are well formed, each by itself.
pub data WellSink {C : Type 0} : Way → Sink C → Type 0 where
  well_reduces : {f answer : Value C} → Well f → Well answer → WellSink reducing (reduces f answer)
  well_gathers : {xs : List (Value C)} → WellList xs → WellSink collecting (gathers xs)

-- the elements so far, and the seq
pub data Gathering {C : Type 0} : List (Value C) → Type 0 where
  gathering : {xs : Values C} {s : Value C} → WellAll xs → Well s → Gathering (vector xs ∷ s ∷ [])

-- the size of a group, how many are left, those taken, and the seq
pub data Grouping {C : Type 0} : List (Value C) → Type 0 where
  grouping : {n left : ℤ} {xs : Values C} {s : Value C} → int_lt (pos 0) n ≡ true → WellAll xs → Well s → Grouping (int n ∷ int left ∷ vector xs ∷ s ∷ [])

-- the stages, their states, the seq and the sink
pub data Entering {C : Type 0} : List (Value C) → Type 0 where
  entering : {stages states : Values C} {s : Value C} {way : Way} {sink : Sink C} → Staged (list stages) (list states) → Well s → WellSink way sink → Entering (vector stages ∷ vector states ∷ s ∷ sink_values sink)

-- how many outputs are enough, the stages, their states, the outputs and the seq
pub data Pulling {C : Type 0} : List (Value C) → Type 0 where
  pulling : {n : ℤ} {stages states outputs : Values C} {s : Value C} → Staged (list stages) (list states) → WellAll outputs → Well s → Pulling (int n ∷ vector stages ∷ vector states ∷ vector outputs ∷ s ∷ [])

pub data Gathered {C : Type 0} : Value C → Type 0 where
  gathered : {xs : Values C} → WellAll xs → Gathered (vector xs)

-- how stages stand after inputs: their states, the sink, and whether all is done
pub data Entered {C : Type 0} (stages : List (Value C)) (way : Way) : Value C → Type 0 where
  has_entered : {states : List (Value C)} {sink : Sink C} {done : Bool} → Staged stages states → WellSink way sink → Entered stages way (standing states sink done)

-- whether the collection came to its end, the states, the outputs, and what is left of the collection
pub data Pulled {C : Type 0} (stages : List (Value C)) : Value C → Type 0 where
  has_pulled : {states outputs : Values C} {c : Value C} {ended : Bool} → Staged stages (list states) → WellAll outputs → Well c → Pulled stages (vector (bool ended & vector states & vector outputs & c & no_values))

module _ {C : Type 0} where
  -- what a loop may have for variables: well-formed values, where nothing else is said
  abbrev pub Variables : Loop → List (Value C) → Type 0
  Variables gather_from xs = Gathering xs
  Variables parts_from xs = Grouping xs
  Variables enter_from xs = Entering xs
  Variables pull_from xs = Pulling xs
  Variables _ xs = WellList xs

  -- what a loop gives, by its variables
  abbrev pub Given : Loop → List (Value C) → Value C → Type 0
  Given gather_from xs v = Gathered v
  Given enter_from (vector stages ∷ states ∷ s ∷ f ∷ answer ∷ []) v = Entered (list stages) reducing v
  Given enter_from (vector stages ∷ states ∷ s ∷ outputs ∷ []) v = Entered (list stages) collecting v
  Given pull_from (size ∷ vector stages ∷ states ∷ outputs ∷ s ∷ []) v = Pulled (list stages) v
  Given _ xs v = Well v

-- a plan that keeps to well-formed values, and gives what is asked of it
pub data Keeps {C : Type 0} (Asked : Value C → Type 0) : Plan C → Type 0 where
  keeps_visit : {p : Plan C} → Keeps Asked p → Keeps Asked (visit p)
  keeps_ask : {c : C} {k : Value C → Plan C} → ((v : Value C) → Well v → Keeps Asked (k v)) → Keeps Asked (ask c k)
  keeps_seq : {x : Value C} {k : Value C → Plan C} → Well x → ((v : Value C) → Well v → is_seq (sight v) ≡ true → Keeps Asked (k v)) → Keeps Asked (seq x k)
  keeps_call : {f : Value C} {xs : List (Value C)} {k : Value C → Plan C} → Well f → WellList xs → ((v : Value C) → Well v → Keeps Asked (k v)) → Keeps Asked (call f xs k)
  keeps_go : {l : Loop} {xs : List (Value C)} {k : Value C → Plan C} → Variables l xs → ((v : Value C) → Given l xs v → Keeps Asked (k v)) → Keeps Asked (go l xs k)
  keeps_make : {kind : Kind} {t : Term C} {k : C → Plan C} → WellTerm t → ((c : C) → Keeps Asked (k c)) → Keeps Asked (make kind t k)
  keeps_give : {v : Value C} → Asked v → Keeps Asked (give v)
  keeps_throw : {e : Thrown} → Keeps Asked (throw e)

pub data KeepsRound {C : Type 0} (Asked : Value C → Type 0) : Round C → Type 0 where
  keeps_end : {v : Value C} → Asked v → KeepsRound Asked (ends_with v)
  keeps_fail : {e : Thrown} → KeepsRound Asked (fails e)
  keeps_visits : {p : Plan C} → Keeps Asked p → KeepsRound Asked (visits p)
  keeps_calls_for : {f : Value C} {xs : List (Value C)} {k : Value C → Plan C} → Well f → WellList xs → ((v : Value C) → Well v → Keeps Asked (k v)) → KeepsRound Asked (calls_for f xs k)

-- rules all of whose plans keep to well-formed values, given such values and such terms
pub record KeepsRules {C : Type 0} (rules : Rules C) : Type 0 where
  pub calls : (t : Target) (bs xs : List (Value C)) → WellList bs → WellList xs → Keeps Well (rules.on_call t bs xs)
  pub terms : (op : Op) (xs : List (Value C)) → WellList xs → takes op (sights (values xs)) ≡ true → Keeps Well (rules.on_term op xs)
  pub loops : (l : Loop) (xs : List (Value C)) → Variables l xs → KeepsRound (Given l xs) (rules.on_loop l xs)
  pub prints : (v : Value C) → Well v → Keeps Well (rules.on_print v)

-- How a walk goes, node by node: the own steps left, the plan left, the asks with their answers and the parts made with what they are called, in order.
use Rattle.std.specs.Prelude.{◌≡◌, ℕ, suc, List, [], ◌∷◌, ◌++◌, map, Some, slice_get}
use Rattle.seq_base.specs.declared.thrown.Thrown.{Thrown}
use Rattle.seq_base.specs.declared.thrown.Thrown.TheVariants.{BadType, Steps}
use Rattle.seq_values.specs.declared.words.Kind.{Kind}
use Rattle.seq_values.specs.Model.{Value, Outcome, gave, threw, Term}
use Rattle.seq_plan.specs.Plan.{Plan, visit, ask, seq, call, make, throw, then, opened}
use Rattle.seq_plan.specs.Nodes.{now, asks_for, no_seq, found}
use Rattle.seq_meaning.specs.Evaluates.{Script, called}
use Rattle.seq_meaning.specs.Walk.{Made, made}

-- a node that takes an own step
pub data IsDue {C : Type 0} : Plan C → Type 0 where
  due_visit : {p : Plan C} → IsDue (visit p)
  due_ask : {c : C} {k : Value C → Plan C} → IsDue (ask c k)
  due_call : {f : Value C} {xs : List (Value C)} {k : Value C → Plan C} → IsDue (call f xs k)

pub data Trail {C : Type 0} (script : Script C) (limit : ℕ) (whole : Plan C) : ℕ → Plan C → List (C × Outcome C) → List (C × Made C) → Type 0 where
  starts : Trail script limit whole limit whole [] []
  -- a loop is written out
  looped : {n : ℕ} {p : Plan C} {asked : List (C × Outcome C)} {mades : List (C × Made C)} → Trail script limit whole n p asked mades → Trail script limit whole n (opened script.rules.on_loop p) asked mades
  visited : {n : ℕ} {p : Plan C} {asked : List (C × Outcome C)} {mades : List (C × Made C)} → Trail script limit whole (suc n) (visit p) asked mades → Trail script limit whole n p asked mades
  entered : {n : ℕ} {f : Value C} {xs : List (Value C)} {k : Value C → Plan C} {asked : List (C × Outcome C)} {mades : List (C × Made C)} → Trail script limit whole (suc n) (call f xs k) asked mades → Trail script limit whole n (then (called script f xs) k) asked mades
  at_once : {n : ℕ} {v w : Value C} {k : Value C → Plan C} {asked : List (C × Outcome C)} {mades : List (C × Made C)} → Trail script limit whole n (seq v k) asked mades → found v ≡ now w → Trail script limit whole n (k w) asked mades
  sought : {n : ℕ} {v : Value C} {c : C} {k : Value C → Plan C} {asked : List (C × Outcome C)} {mades : List (C × Made C)} → Trail script limit whole n (seq v k) asked mades → found v ≡ asks_for c → Trail script limit whole n (ask c (λ w. seq w k)) asked mades
  missed : {n : ℕ} {v : Value C} {k : Value C → Plan C} {asked : List (C × Outcome C)} {mades : List (C × Made C)} → Trail script limit whole n (seq v k) asked mades → found v ≡ no_seq → Trail script limit whole n (throw BadType) asked mades
  -- a step is due, and none is left
  tired : {p : Plan C} {asked : List (C × Outcome C)} {mades : List (C × Made C)} → Trail script limit whole 0 p asked mades → IsDue p → Trail script limit whole 0 (throw Steps) asked mades
  answered : {n : ℕ} {c : C} {k : Value C → Plan C} {asked : List (C × Outcome C)} {mades : List (C × Made C)} → Trail script limit whole (suc n) (ask c k) asked mades → (v : Value C) → Trail script limit whole n (k v) (asked ++ (c, gave v) ∷ []) mades
  refused : {n : ℕ} {c : C} {k : Value C → Plan C} {asked : List (C × Outcome C)} {mades : List (C × Made C)} → Trail script limit whole (suc n) (ask c k) asked mades → (e : Thrown) → Trail script limit whole n (throw e) (asked ++ (c, threw e) ∷ []) mades
  made_part : {n : ℕ} {kind : Kind} {t : Term C} {k : C → Plan C} {asked : List (C × Outcome C)} {mades : List (C × Made C)} → Trail script limit whole n (make kind t k) asked mades → (c : C) → Trail script limit whole n (k c) asked (mades ++ (c, made kind t) ∷ [])

abbrev pub answers_of : {C : Type 0} → List (C × Outcome C) → List (Outcome C)
answers_of asked = map (λ x. x.1) asked

abbrev pub mades_of : {C : Type 0} → List (C × Made C) → List (Made C)
mades_of mades = map (λ x. x.1) mades

-- the j-th make is called so, for those that were made
abbrev pub Calls : {C : Type 0} → (ℕ → C) → List (C × Made C) → Type 0
Calls {C = C} cell_of mades = (i : ℕ) (x : C × Made C) → slice_get mades i ≡ Some x → cell_of (suc i) ≡ x.0

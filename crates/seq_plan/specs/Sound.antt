-- Sound values: each node in them has an element, and behind its elements comes what the rules put there. Sound plans keep to such values.
use Rattle.std.specs.Prelude.{◌≡◌, ℕ, nat_lt, ℤ, int_lt, int_le, Bool, true, false, ◌&&◌, List, [], ◌∷◌, length}
use Rattle.seq_base.specs.declared.thrown.Thrown.{Thrown}
use Rattle.seq_values.specs.declared.words.Kind.{Kind}
use Rattle.seq_values.specs.declared.words.Op.{Op}
use Rattle.seq_values.specs.declared.words.Target.{Target}
use Rattle.seq_values.specs.Model.{Value, nil, bool, int, keyword, text, vector, function, reduced, cell, empty, cons, chunk, range, vec_seq, Values, no_values, ◌&◌, list, Term}
use Rattle.seq_plan.specs.Plan.{Loop, Plan, visit, ask, seq, call, go, make, give, throw, Round, ends_with, fails, visits, calls_for, Rules}

module _ {C : Type 0} where
  abbrev pub are_some : Values C → Bool
  are_some no_values = false
  are_some (x & xs) = true

  -- the rest of a Cons: nil, `()`, a cell or what is chunked, and never another Cons
  abbrev pub ends_cons : Value C → Bool
  ends_cons nil = true
  ends_cons empty = true
  ends_cons (cell c) = true
  ends_cons (chunk xs r) = true
  ends_cons (range from at end) = true
  ends_cons (vec_seq xs at) = true
  ends_cons _ = false

  -- the rest of a chunk: a cell or `()`
  abbrev pub ends_chunk : Value C → Bool
  ends_chunk empty = true
  ends_chunk (cell c) = true
  ends_chunk _ = false

  -- A node that has an element and a rest of such a kind. What it holds isn't looked into, and any other value is fit.
  abbrev pub is_fit : Value C → Bool
  is_fit (cons xs r) = are_some xs && ends_cons r
  is_fit (chunk xs r) = are_some xs && ends_chunk r
  is_fit (range from at end) = int_le from at && int_lt at end
  is_fit (vec_seq xs at) = nat_lt at (length (list xs))
  is_fit _ = true

mutual
  -- a value of which all nodes are fit
  pub data Sound {C : Type 0} : Value C → Type 0 where
    sound_nil : Sound nil
    sound_bool : {b : Bool} → Sound (bool b)
    sound_int : {n : ℤ} → Sound (int n)
    sound_keyword : {name : List ℕ} → Sound (keyword name)
    sound_text : {bytes : List ℕ} → Sound (text bytes)
    sound_vector : {xs : Values C} → SoundAll xs → Sound (vector xs)
    sound_function : {t : Target} {xs : Values C} → SoundAll xs → Sound (function t xs)
    sound_reduced : {v : Value C} → Sound v → Sound (reduced v)
    sound_cell : {c : C} → Sound (cell c)
    sound_empty : Sound empty
    sound_cons : {xs : Values C} {r : Value C} → is_fit (cons xs r) ≡ true → SoundAll xs → Sound r → Sound (cons xs r)
    sound_chunk : {xs : Values C} {r : Value C} → is_fit (chunk xs r) ≡ true → SoundAll xs → Sound r → Sound (chunk xs r)
    sound_range : {from at end : ℤ} → is_fit {C = C} (range from at end) ≡ true → Sound (range from at end)
    sound_vec_seq : {xs : Values C} {at : ℕ} → is_fit (vec_seq xs at) ≡ true → SoundAll xs → Sound (vec_seq xs at)

  pub data SoundAll {C : Type 0} : Values C → Type 0 where
    sound_none : SoundAll no_values
    sound_more : {x : Value C} {xs : Values C} → Sound x → SoundAll xs → SoundAll (x & xs)

pub data SoundList {C : Type 0} : List (Value C) → Type 0 where
  sound_end : SoundList []
  sound_item : {x : Value C} {xs : List (Value C)} → Sound x → SoundList xs → SoundList (x ∷ xs)

-- a plan that calls, makes and gives sound values alone, where each answer that it is told is sound
pub data SoundPlan {C : Type 0} : Plan C → Type 0 where
  sound_visit : {p : Plan C} → SoundPlan p → SoundPlan (visit p)
  sound_ask : {c : C} {k : Value C → Plan C} → ((v : Value C) → Sound v → SoundPlan (k v)) → SoundPlan (ask c k)
  sound_seq : {x : Value C} {k : Value C → Plan C} → Sound x → ((v : Value C) → Sound v → SoundPlan (k v)) → SoundPlan (seq x k)
  sound_call : {f : Value C} {xs : List (Value C)} {k : Value C → Plan C} → Sound f → SoundList xs → ((v : Value C) → Sound v → SoundPlan (k v)) → SoundPlan (call f xs k)
  sound_go : {l : Loop} {xs : List (Value C)} {k : Value C → Plan C} → SoundList xs → ((v : Value C) → Sound v → SoundPlan (k v)) → SoundPlan (go l xs k)
  sound_make : {kind : Kind} {t : Term C} {k : C → Plan C} → SoundList t.args → ((c : C) → SoundPlan (k c)) → SoundPlan (make kind t k)
  sound_give : {v : Value C} → Sound v → SoundPlan (give v)
  sound_throw : {e : Thrown} → SoundPlan (throw e)

pub data SoundRound {C : Type 0} : Round C → Type 0 where
  sound_ends_with : {v : Value C} → Sound v → SoundRound (ends_with v)
  sound_fails : {e : Thrown} → SoundRound (fails e)
  sound_visits : {p : Plan C} → SoundPlan p → SoundRound (visits p)
  sound_calls_for : {f : Value C} {xs : List (Value C)} {k : Value C → Plan C} → Sound f → SoundList xs → ((v : Value C) → Sound v → SoundPlan (k v)) → SoundRound (calls_for f xs k)

-- rules that make no other nodes: of sound values they have sound plans
pub record SoundRules {C : Type 0} (rules : Rules C) : Type 0 where
  pub calls : (t : Target) (bs xs : List (Value C)) → SoundList bs → SoundList xs → SoundPlan (rules.on_call t bs xs)
  pub terms : (op : Op) (xs : List (Value C)) → SoundList xs → SoundPlan (rules.on_term op xs)
  pub loops : (l : Loop) (xs : List (Value C)) → SoundList xs → SoundRound (rules.on_loop l xs)
  pub prints : (v : Value C) → Sound v → SoundPlan (rules.on_print v)

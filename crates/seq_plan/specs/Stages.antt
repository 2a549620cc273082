-- The stages of transducers and of reducer values: what each does with an input, and how inputs pass through a list of them. A stage is a function value that binds what its word was given before the collection; beside it stands its state, nil where it keeps none.
-- https://clojure.org/reference/transducers, https://clojure.org/reference/reducers
use Rattle.std.specs.Prelude.{ℤ, pos, ◌-ℤ◌, int_le, Bool, true, false, cond, ◌&&◌, List, [], ◌∷◌, ◌++◌, map, length}
use Rattle.seq_base.specs.declared.thrown.Thrown.TheVariants.{BadType}
use Rattle.seq_values.specs.declared.words.Builtin.TheVariants as B
use Rattle.seq_values.specs.declared.words.Target.{Target}
use Rattle.seq_values.specs.declared.words.Target.TheVariants as T
use Rattle.seq_values.specs.declared.words.XfKind.TheVariants as X
use Rattle.seq_values.specs.declared.words.FolderKind.TheVariants as F
use Rattle.seq_values.specs.Model.{Value, nil, bool, int, vector, function, reduced, Values, no_values, ◌&◌, list, values}
use Rattle.seq_plan.specs.Plan.{Plan, seq, call, go, give, throw, enter_from, Round, ends_with, fails, visits}
use Rattle.seq_plan.specs.Nodes.{first_of, rest_of, if_nil, if_true, round_at, with_value, with_members}

-- What a stage does with an input, once its calls are answered.
pub data Effect (C : Type 0) : Type 0 where
  passes : Value C → Effect C
  -- and then all is done
  passes_last : Value C → Effect C
  -- each element of a collection
  passes_each : Value C → Effect C
  passes_nothing : Effect C
  -- passes nothing, and all is done
  is_done : Effect C

-- Where the outputs of the last stage go.
pub data Sink (C : Type 0) : Type 0 where
  -- to a function, with the answer so far
  reduces : Value C → Value C → Sink C
  -- to a list, after the outputs so far
  gathers : List (Value C) → Sink C

-- what goes on after an input: with the states, the sink, and whether all is done
abbrev pub Onward : Type 0 → Type 0
Onward C = List (Value C) → Sink C → Bool → Plan C

module _ {C : Type 0} where
  -- ## The stages of a transducer

  abbrev mutual
    -- A transducer is a word of the lazy operations with one argument fewer, `cat`, a composition of transducers, or `identity`.
    pub is_transducer : Value C → Bool
    is_transducer (function (T.Xf kind) bound) = true
    is_transducer (function (T.Builtin B.Cat) bound) = true
    is_transducer (function (T.Builtin B.Identity) bound) = true
    is_transducer (function T.Comp fs) = are_transducers fs
    is_transducer _ = false

    pub are_transducers : Values C → Bool
    are_transducers no_values = true
    are_transducers (f & fs) = is_transducer f && are_transducers fs

  abbrev mutual
    -- its stages, in the order in which `comp` names them; `identity` has none
    pub stages_of : Value C → List (Value C)
    stages_of (function (T.Xf kind) bound) = function (T.Xf kind) bound ∷ []
    stages_of (function (T.Builtin B.Cat) bound) = function (T.Xf X.Cat) no_values ∷ []
    stages_of (function T.Comp fs) = stages_of_all fs
    stages_of _ = []

    pub stages_of_all : Values C → List (Value C)
    stages_of_all no_values = []
    stages_of_all (f & fs) = stages_of f ++ stages_of_all fs

  abbrev pub is_some_stage : List (Value C) → Bool
  is_some_stage [] = false
  is_some_stage (stage ∷ stages) = true

  -- a transducer with at least one stage, which no program may call
  abbrev pub has_stages : Value C → Bool
  has_stages xf = is_transducer xf && is_some_stage (stages_of xf)

  -- goes on with the stages of a transducer: a value that is none throws, and so do more stages than a list may have
  abbrev pub with_stages : Value C → (List (Value C) → Plan C) → Plan C
  with_stages xf k = cond (is_transducer xf) (with_members (stages_of xf) k) (throw BadType)

  -- ## What a stage does

  -- The state with which a stage begins: `take` and `drop` have how many are left, `drop-while` has whether it still drops, `partition-all` has the group so far.
  abbrev pub begins_with : Value C → Value C
  begins_with (function (T.Xf X.Take) (n & no_values)) = n
  begins_with (function (T.Xf X.Drop) (n & no_values)) = n
  begins_with (function (T.Xf X.DropWhile) (p & no_values)) = bool true
  begins_with (function (T.Xf X.PartitionAll) (n & no_values)) = vector no_values
  begins_with (function (T.Folder F.Take) (n & no_values)) = n
  begins_with _ = nil

  abbrev pub fresh : List (Value C) → List (Value C)
  fresh stages = map begins_with stages

  -- `take` with some left: one less is left, and with the last of them all is done
  abbrev pub take_one : ℤ → Value C → (Value C → Effect C → Plan C) → Plan C
  take_one left x k = cond (int_le left (pos 0)) (k (int left) (passes_last x)) (k (int left) (passes x))

  -- `partition-all`: the group with the input in it, whose length is looked at before its depth, is passed on where it is full
  abbrev pub group_one : ℤ → List (Value C) → (Value C → Effect C → Plan C) → Plan C
  group_one n group k = with_members group (λ xs. with_value (vector (values xs)) (λ v.
      cond (int_le n (pos (length xs))) (k (vector no_values) (passes v)) (k v passes_nothing)))

  -- What a stage does with an input: its target, what it binds, its state and the input. Sources: the transducer arities of clojure.core's `map`, `filter`, `remove`, `keep`, `take`, `take-while`, `drop`, `drop-while`, `mapcat`, `cat` and `partition-all`, and clojure.core.reducers' `take`.
  abbrev pub on_input : Target → List (Value C) → Value C → Value C → (Value C → Effect C → Plan C) → Plan C
  on_input (T.Xf X.Map) (f ∷ []) state x k = call f (x ∷ []) (λ y. k state (passes y))
  on_input (T.Xf X.Filter) (p ∷ []) state x k = call p (x ∷ []) (λ y. if_true y (k state (passes x)) (k state passes_nothing))
  on_input (T.Xf X.Remove) (p ∷ []) state x k = call p (x ∷ []) (λ y. if_true y (k state passes_nothing) (k state (passes x)))
  on_input (T.Xf X.Keep) (f ∷ []) state x k = call f (x ∷ []) (λ y. if_nil y (k state passes_nothing) (k state (passes y)))
  on_input (T.Xf X.Take) (n ∷ []) (int left) x k = cond (int_le left (pos 0)) (k (int left) is_done) (take_one (left -ℤ pos 1) x k)
  on_input (T.Xf X.TakeWhile) (p ∷ []) state x k = call p (x ∷ []) (λ y. if_true y (k state (passes x)) (k state is_done))
  on_input (T.Xf X.Drop) (n ∷ []) (int left) x k = cond (int_le left (pos 0)) (k (int left) (passes x)) (k (int (left -ℤ pos 1)) passes_nothing)
  on_input (T.Xf X.DropWhile) (p ∷ []) (bool true) x k = call p (x ∷ []) (λ y. if_true y (k (bool true) passes_nothing) (k (bool false) (passes x)))
  on_input (T.Xf X.DropWhile) (p ∷ []) (bool false) x k = k (bool false) (passes x)
  on_input (T.Xf X.Mapcat) (f ∷ []) state x k = call f (x ∷ []) (λ y. k state (passes_each y))
  on_input (T.Xf X.Cat) [] state x k = k state (passes_each x)
  on_input (T.Xf X.PartitionAll) (int n ∷ []) (vector group) x k = group_one n (list group ++ x ∷ []) k
  -- The `take` of the reducers is done at the input after its last one.
  on_input (T.Folder F.Take) (n ∷ []) (int left) x k = cond (int_le left (pos 0)) (k (int left) is_done) (k (int (left -ℤ pos 1)) (passes x))
  on_input _ _ _ _ _ = throw BadType

  abbrev pub stage_on : Value C → Value C → Value C → (Value C → Effect C → Plan C) → Plan C
  stage_on (function t bound) state x k = on_input t (list bound) state x k
  stage_on _ _ _ _ = throw BadType

  -- ## Through all stages

  abbrev pub is_reduced : Value C → Bool
  is_reduced (reduced v) = true
  is_reduced _ = false

  -- the value in a reduced one
  abbrev pub unwrapped : Value C → Value C
  unwrapped (reduced v) = v
  unwrapped v = v

  -- An output is reduced into the answer so far by a call, and a reduced answer is unwrapped and makes all done; or it is gathered, with no call.
  abbrev pub output : Sink C → Value C → (Sink C → Bool → Plan C) → Plan C
  output (reduces f answer) x k = call f (answer ∷ x ∷ []) (λ y. k (reduces f (unwrapped y)) (is_reduced y))
  output (gathers xs) x k = k (gathers (xs ++ x ∷ [])) false

  -- a sink among the variables of a loop
  abbrev pub sink_values : Sink C → List (Value C)
  sink_values (reduces f answer) = f ∷ answer ∷ []
  sink_values (gathers xs) = vector (values xs) ∷ []

  -- the answer of a reduction
  abbrev pub answer_of : Sink C → Value C
  answer_of (reduces f answer) = answer
  answer_of (gathers xs) = vector (values xs)

  -- the outputs gathered
  abbrev pub outputs_of : Sink C → List (Value C)
  outputs_of (reduces f answer) = answer ∷ []
  outputs_of (gathers xs) = xs

  -- What the loop through a collection gives: whether all is done, the states, and the sink. Its variables and what it gives are no values of a program, so no limit is looked at.
  abbrev pub standing : List (Value C) → Sink C → Bool → Value C
  standing states sink done = vector (bool done & vector (values states) & values (sink_values sink))

  -- goes on with what the loop gives
  abbrev pub entered : Onward C → Value C → Plan C
  entered k (vector (bool done & vector states & f & answer & no_values)) = k (list states) (reduces f answer) done
  entered k (vector (bool done & vector states & vector xs & no_values)) = k (list states) (gathers (list xs)) done
  entered k _ = throw BadType

  -- the loop over a seq, each of whose elements enters the stages
  abbrev pub each_from : List (Value C) → List (Value C) → Sink C → Value C → (Value C → Plan C) → Plan C
  each_from stages states sink s k = go enter_from (vector (values stages) ∷ vector (values states) ∷ s ∷ sink_values sink) k

  -- walks a collection, and passes each element to the stages; ends where all is done, and then asks nothing more
  abbrev pub enter_each : List (Value C) → List (Value C) → Sink C → Value C → Onward C → Plan C
  enter_each stages states sink c k = seq c (λ s. each_from stages states sink s (entered k))

  -- the stage's new state stands before those of the later stages
  abbrev pub with_state : Value C → Onward C → Onward C
  with_state state k = λ states sink done. k (state ∷ states) sink done

  abbrev pub with_last : Value C → Onward C → Onward C
  with_last state k = λ states sink done. k (state ∷ states) sink true

  abbrev pub by_effect : {X : Type 0} → (Value C → X) → (Value C → X) → (Value C → X) → X → X → Effect C → X
  by_effect one last each nothing ends (passes x) = one x
  by_effect one last each nothing ends (passes_last x) = last x
  by_effect one last each nothing ends (passes_each c) = each c
  by_effect one last each nothing ends passes_nothing = nothing
  by_effect one last each nothing ends is_done = ends

  -- An input enters the first of the stages, with a state each; what passes the last one is an output. All is done where a stage that was entered, or the function, is done.
  abbrev pub enter : List (Value C) → List (Value C) → Sink C → Value C → Onward C → Plan C
  enter [] states sink x k = output sink x (λ after done. k [] after done)
  enter (stage ∷ later) (state ∷ states) sink x k = stage_on stage state x (λ new. by_effect
      (λ y. enter later states sink y (with_state new k))
      (λ y. enter later states sink y (with_last new k))
      (λ c. enter_each later states sink c (with_state new k))
      (k (new ∷ states) sink false)
      (k (new ∷ states) sink true))
  enter (stage ∷ later) [] sink x k = throw BadType

  -- A round of the loop over a seq: a visit, and its first element enters the stages.
  abbrev pub each_round : List (Value C) → List (Value C) → Sink C → Value C → Round C
  each_round stages states sink s =
      round_at s
      (ends_with (standing states sink false))
      (visits (enter stages states sink (first_of s) (λ new after done.
      cond done (give (standing new after true)) (seq (rest_of s) (λ t. each_from stages new after t give)))))

  -- its variables: the stages, their states, the seq and the sink
  abbrev pub enter_round : List (Value C) → Round C
  enter_round (vector stages ∷ vector states ∷ s ∷ f ∷ answer ∷ []) = each_round (list stages) (list states) (reduces f answer) s
  enter_round (vector stages ∷ vector states ∷ s ∷ vector xs ∷ []) = each_round (list stages) (list states) (gathers (list xs)) s
  enter_round _ = fails BadType

  -- The completion, from the first stage to the last: a `partition-all` whose group isn't empty passes it to the stages after it.
  abbrev pub complete : List (Value C) → List (Value C) → Sink C → (Sink C → Plan C) → Plan C
  complete [] states sink k = k sink
  complete (function (T.Xf X.PartitionAll) bound ∷ later) (vector (x & xs) ∷ states) sink k =
      enter later states sink (vector (x & xs)) (λ new after done. complete later new after k)
  complete (stage ∷ later) (state ∷ states) sink k = complete later states sink k
  complete (stage ∷ later) [] sink k = throw BadType

-- `pmap` and `seque` of clojure.core, which begin work ahead of what is asked. What runs ahead are parts of the kind future; the moments of the asks and makes are said here, after Clojure's sources.
use Rattle.std.specs.Prelude.{ℕ, ◌+◌, ℤ, pos, ◌-ℤ◌, int_le, cond, List, [], ◌∷◌, ◌++◌, Option, Some, None}
use Rattle.seq_base.specs.declared.thrown.Thrown.TheVariants.{Arity, BadType}
use Rattle.seq_values.specs.declared.words.Builtin.{Builtin}
use Rattle.seq_values.specs.declared.words.Builtin.TheVariants as B
use Rattle.seq_values.specs.declared.words.Kind.TheVariants.{Lazy, Future}
use Rattle.seq_values.specs.declared.words.Op.{Op}
use Rattle.seq_values.specs.declared.words.Op.TheVariants as O
use Rattle.seq_values.specs.Model.{Value, nil, int, cell, cons, no_values, ◌&◌}
use Rattle.seq_plan.specs.Plan.{Plan, ask, seq, call, go, give, throw, Loop, ahead_from, Round, ends_with, fails, visits}
use Rattle.seq_plan.specs.Nodes.{first_of, rest_of, chunk_of, if_nil, round_at, give_value, make_term, ask_each}
use Rattle.seq_plan.specs.Lists.{lazily, first_and, items_and, with_seq}
use Rattle.seq_plan.specs.Arguments.{at_least_one}

module _ {C : Type 0} where
  -- the value of a part
  abbrev pub ask_of : Value C → (Value C → Plan C) → Plan C
  ask_of (cell c) k = ask c k
  ask_of _ k = throw BadType

  -- ## pmap

  -- Goes on to the next answer: `vs` are the parts that are called ahead and `fs` the same, so many further on. The seq of the rest of `vs` is taken here, which starts the calls of its first elements; `fs` isn't asked.
  abbrev pub step : Value C → Value C → (C → Plan C) → Plan C
  step vs fs k =
      seq vs (λ s. if_nil s
      (make_term Lazy O.Step (nil ∷ nil ∷ vs ∷ fs ∷ []) k)
      (seq (rest_of s) (λ xs. make_term Lazy O.Step (first_of s ∷ xs ∷ vs ∷ fs ∷ []) k)))

  -- The calls run two more than the processors ahead.
  abbrev pub pmap_rule : ℕ → Value C → Value C → Plan C
  pmap_rule processors f c =
      make_term Lazy O.Rets (f ∷ c ∷ []) (λ r.
      make_term Lazy O.Drop (int (pos (2 + processors)) ∷ cell r ∷ []) (λ d.
      step (cell r) (cell d) (λ k. give (cell k))))

  abbrev pub pmap_call : ℕ → List (Value C) → Plan C
  pmap_call processors (f ∷ c ∷ []) = pmap_rule processors f c
  pmap_call processors _ = throw Arity

  -- makes a future for f of each element, in order, and goes on with their cells; those so far come first
  abbrev pub start_each : Value C → List (Value C) → List (Value C) → (List (Value C) → Plan C) → Plan C
  start_each f ys [] k = k ys
  start_each f ys (x ∷ xs) k = make_term Future O.Call (f ∷ x ∷ []) (λ c. start_each f (ys ++ cell c ∷ []) xs k)

  -- Rets, as `map` with a future in place of each answer
  abbrev pub rets_on : Value C → Value C → Option (List (Value C) × Value C) → Plan C
  rets_on f s (Some p) = start_each f [] p.0 (λ ys. items_and ys O.Rets (f ∷ p.1 ∷ []))
  rets_on f s None = make_term Future O.Call (f ∷ first_of s ∷ []) (λ c. first_and (cell c) O.Rets (f ∷ rest_of s ∷ []))

  abbrev pub rets_rule : ℕ → Value C → Value C → Plan C
  rets_rule size f c = with_seq c (λ s. rets_on f s (chunk_of size s))

  -- Step: x is the part of the first answer and `xs` what follows it. Taking the seq of `fs` starts a further call. Where there are no more to start, the answers that are left are asked as they are wanted.
  abbrev pub step_rule : Value C → Value C → Value C → Value C → Plan C
  step_rule x xs vs fs =
      seq fs (λ s. if_nil s
      (lazily O.Derefs (vs ∷ []))
      (ask_of x (λ y. step xs (rest_of s) (λ k. give_value (cons (y & no_values) (cell k))))))

  -- Derefs, as `map` with the value of the part that an element is in place of each answer
  abbrev pub derefs_on : Value C → Option (List (Value C) × Value C) → Plan C
  derefs_on s (Some p) = ask_each [] p.0 (λ ys. items_and ys O.Derefs (p.1 ∷ []))
  derefs_on s None = ask_of (first_of s) (λ y. first_and y O.Derefs (rest_of s ∷ []))

  abbrev pub derefs_rule : ℕ → Value C → Plan C
  derefs_rule size c = with_seq c (λ s. derefs_on s (chunk_of size s))

  -- Call, of a future
  abbrev pub call_rule : Value C → Value C → Plan C
  call_rule f x = call f (x ∷ []) give

  -- ## seque

  -- The work ahead takes n elements, and the sequence itself begins at the first one.
  abbrev pub seque_rule : ℤ → Value C → Plan C
  seque_rule n c = make_term Future O.Ahead (int n ∷ c ∷ []) (λ a. lazily O.Near (c ∷ cell a ∷ []))

  abbrev pub seque_call : List (Value C) → Plan C
  seque_call (int n ∷ c ∷ []) = at_least_one n (seque_rule n c)
  seque_call (_ ∷ c ∷ []) = throw BadType
  seque_call _ = throw Arity

  -- Ahead, of a future: so many elements are taken, and what is left of the collection is given, unasked
  abbrev pub ahead_rule : ℤ → Value C → Plan C
  ahead_rule n c = cond (int_le n (pos 0)) (give c) (seq c (λ s. go ahead_from (int n ∷ c ∷ s ∷ []) give))

  -- how many elements are to be taken, at least one, the collection that is left, and its seq; at its end that collection is given
  abbrev pub ahead_one_round : List (Value C) → Round C
  ahead_one_round (int n ∷ c ∷ s ∷ []) =
      round_at s
      (ends_with c)
      (visits (cond (int_le n (pos 1))
      (give (rest_of s))
      (seq (rest_of s) (λ t. go ahead_from (int (n -ℤ pos 1) ∷ rest_of s ∷ t ∷ []) give))))
  ahead_one_round _ = fails BadType

  -- AheadOf, of a future: one further element than the future before
  abbrev pub ahead_of_rule : Value C → Plan C
  ahead_of_rule a = ask_of a (ahead_rule (pos 1))

  -- Near: each element that is asked starts one more future
  abbrev pub near_rule : Value C → Value C → Plan C
  near_rule c a = with_seq c (λ s. make_term Future O.AheadOf (a ∷ []) (λ b. first_and (first_of s) O.Near (rest_of s ∷ cell b ∷ [])))

  -- ## Gathered

  -- What a call of a word does after its own step, by the number of processors.
  abbrev pub ahead_call : ℕ → Builtin → List (Value C) → Plan C
  ahead_call processors B.Pmap xs = pmap_call processors xs
  ahead_call processors B.Seque xs = seque_call xs
  ahead_call processors _ xs = throw Arity

  -- The work of a term, by the number of elements in a chunk of a range or of a vector's seq.
  abbrev pub ahead_term : ℕ → Op → List (Value C) → Plan C
  ahead_term size O.Rets (f ∷ c ∷ []) = rets_rule size f c
  ahead_term size O.Step (x ∷ xs ∷ vs ∷ fs ∷ []) = step_rule x xs vs fs
  ahead_term size O.Derefs (c ∷ []) = derefs_rule size c
  ahead_term size O.Call (f ∷ x ∷ []) = call_rule f x
  ahead_term size O.Ahead (int n ∷ c ∷ []) = ahead_rule n c
  ahead_term size O.AheadOf (a ∷ []) = ahead_of_rule a
  ahead_term size O.Near (c ∷ a ∷ []) = near_rule c a
  ahead_term size _ _ = throw BadType

  abbrev pub ahead_round : Loop → List (Value C) → Round C
  ahead_round ahead_from xs = ahead_one_round xs
  ahead_round _ xs = fails BadType

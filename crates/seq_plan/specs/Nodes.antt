-- What the rules say of nodes, and the small plans that many rules share.
use Rattle.std.specs.Prelude.{ℕ, zero, suc, ◌+◌, ◌-◌, ◌*◌, ◌/◌, max, min, nat_le, nat_lt, ℤ, pos, ◌+ℤ◌, ◌-ℤ◌, ◌*ℤ◌, int_lt, int_div, unsigned_abs, Bool, true, false, cond, List, [], ◌∷◌, ◌++◌, length, take, drop, Option, Some, None}
use Rattle.seq_base.specs.declared.thrown.Thrown.TheVariants.{Overflow, BadType, Depth}
use Rattle.seq_values.specs.declared.words.Kind.{Kind}
use Rattle.seq_values.specs.declared.words.Op.{Op}
use Rattle.seq_values.specs.Model.{Value, nil, bool, int, keyword, text, vector, function, reduced, cell, empty, cons, chunk, range, vec_seq, Values, no_values, ◌&◌, list}
use Rattle.seq_plan.specs.Plan.{Plan, ask, call, make, give, throw, Round}

-- no value is deeper
abbrev pub deepest : ℕ
deepest = 256

-- no vector, chunk, list of heads or list of arguments has more members
abbrev pub longest : ℕ
longest = 4294967295

-- Where the chunk of a range ends that begins at `at`: at the next `from` + size * k above it, or at the end.
abbrev pub range_stop : ℕ → ℤ → ℤ → ℤ → ℤ
range_stop size from at end =
    let next = from +ℤ (pos size *ℤ (int_div (at -ℤ from) (pos size) +ℤ pos 1)) in
    cond (int_lt next end) next end

-- How many integers the chunk of a range has that begins at `at`: none, where that is the range's end.
abbrev pub range_count : ℕ → ℤ → ℤ → ℤ → ℕ
range_count size from at end = cond (int_lt at end) (unsigned_abs (range_stop size from at end -ℤ at)) 0

-- Where the chunk of a vector's seq ends that begins at the place `at`: at the next multiple of the size above it, or at the vector's end.
abbrev pub vector_stop : ℕ → ℕ → ℕ → ℕ
vector_stop size at end = min (size * ((at / size) + 1)) end

-- the integers from `at` on, so many
abbrev pub ints_from : {C : Type 0} → ℤ → ℕ → List (Value C)
ints_from at zero = []
ints_from at (suc n) = int at ∷ ints_from (at +ℤ pos 1) n

module _ {C : Type 0} where
  -- Atoms, `()`, cells and ranges have depth 0; all else is one deeper than the deepest of what it holds. A vector's seq is as deep as the vector.
  abbrev mutual
    pub depth : Value C → ℕ
    depth nil = 0
    depth (bool b) = 0
    depth (int n) = 0
    depth (keyword name) = 0
    depth (text bytes) = 0
    depth (vector xs) = suc (depths xs)
    depth (function t xs) = suc (depths xs)
    depth (reduced v) = suc (depth v)
    depth (cell c) = 0
    depth empty = 0
    depth (cons xs r) = suc (max (depths xs) (depth r))
    depth (chunk xs r) = suc (max (depths xs) (depth r))
    depth (range from at end) = 0
    depth (vec_seq xs at) = suc (depths xs)

    -- the greatest depth among them
    pub depths : Values C → ℕ
    depths no_values = 0
    depths (x & xs) = max (depth x) (depths xs)

  abbrev pub last_or : Value C → Values C → Value C
  last_or x no_values = x
  last_or x (y & ys) = last_or y ys

  abbrev pub all_but_last : Value C → Values C → Values C
  all_but_last x no_values = no_values
  all_but_last x (y & ys) = x & all_but_last y ys

  -- the value at a place, or nil
  abbrev pub value_at : List (Value C) → ℕ → Value C
  value_at [] i = nil
  value_at (x ∷ xs) zero = x
  value_at (x ∷ xs) (suc i) = value_at xs i

  -- `()` in place of nil
  abbrev pub or_empty : Value C → Value C
  or_empty nil = empty
  or_empty v = v

  -- `first s`
  abbrev pub first_of : Value C → Value C
  first_of (cons (x & xs) r) = last_or x xs
  first_of (chunk (x & xs) r) = x
  first_of (range from at end) = int at
  first_of (vec_seq xs at) = value_at (list xs) at
  first_of _ = nil

  abbrev pub with_heads : Values C → Value C → Value C
  with_heads no_values r = or_empty r
  with_heads (x & xs) r = cons (x & xs) r

  abbrev pub with_items : Values C → Value C → Value C
  with_items no_values r = r
  with_items (x & xs) r = chunk (x & xs) r

  abbrev pub range_at : ℤ → ℤ → ℤ → Value C
  range_at from at end = cond (int_lt at end) (range from at end) empty

  abbrev pub vector_at : Values C → ℕ → Value C
  vector_at xs at = cond (nat_lt at (length (list xs))) (vec_seq xs at) empty

  -- `rest s`: a Cons or a Chunk without its first element, or its rest where that was the last one; a range or a vector's seq at the next place.
  abbrev pub rest_of : Value C → Value C
  rest_of (cons (x & xs) r) = with_heads (all_but_last x xs) r
  rest_of (chunk (x & xs) r) = with_items xs r
  rest_of (range from at end) = range_at from (at +ℤ pos 1) end
  rest_of (vec_seq xs at) = vector_at xs (suc at)
  rest_of _ = empty

  -- `rest s`, so many times
  abbrev pub rests_of : ℕ → Value C → Value C
  rests_of zero s = s
  rests_of (suc n) s = rests_of n (rest_of s)

  -- `chunk-first s` and `chunk-rest s` of a chunked node, by the chunk size
  abbrev pub chunk_of : ℕ → Value C → Option (List (Value C) × Value C)
  chunk_of size (chunk xs r) = Some (list xs, r)
  chunk_of size (range from at end) = Some (ints_from at (range_count size from at end), range_at from (range_stop size from at end) end)
  chunk_of size (vec_seq xs at) =
      let stop = vector_stop size at (length (list xs)) in
      Some (take (stop - at) (drop at (list xs)), vector_at xs stop)
  chunk_of size _ = None

  -- nil and false are false; all else is true
  abbrev pub is_truthy : Value C → Bool
  is_truthy nil = false
  is_truthy (bool b) = b
  is_truthy _ = true

  abbrev pub is_nil : Value C → Bool
  is_nil nil = true
  is_nil _ = false

  -- the first where the value is true
  abbrev pub if_true : Value C → Plan C → Plan C → Plan C
  if_true v p q = cond (is_truthy v) p q

  -- the first where the value is nil
  abbrev pub if_nil : Value C → Plan C → Plan C → Plan C
  if_nil v p q = cond (is_nil v) p q

  abbrev pub round_at : Value C → Round C → Round C → Round C
  round_at v p q = cond (is_nil v) p q

  -- goes on with a value that may be made: one too deep throws
  abbrev pub with_value : Value C → (Value C → Plan C) → Plan C
  with_value v k = cond (nat_le (depth v) deepest) (k v) (throw Depth)

  abbrev pub give_value : Value C → Plan C
  give_value v = with_value v give

  -- goes on with a list that may be made: one too long throws
  abbrev pub with_members : List (Value C) → (List (Value C) → Plan C) → Plan C
  with_members xs k = cond (nat_le (length xs) longest) (k xs) (throw Overflow)

  abbrev pub make_term : Kind → Op → List (Value C) → (C → Plan C) → Plan C
  make_term kind op args k = make kind (record { op = op; args = args }) k

  -- calls f on each of the elements in order; the answers so far come first
  abbrev pub call_each : Value C → List (Value C) → List (Value C) → (List (Value C) → Plan C) → Plan C
  call_each f ys [] k = k ys
  call_each f ys (x ∷ xs) k = call f (x ∷ []) (λ y. call_each f (ys ++ y ∷ []) xs k)

  -- asks each of the cells in order; the answers so far come first
  abbrev pub ask_each : List (Value C) → List (Value C) → (List (Value C) → Plan C) → Plan C
  ask_each ys [] k = k ys
  ask_each ys (cell c ∷ xs) k = ask c (λ y. ask_each (ys ++ y ∷ []) xs k)
  ask_each ys (_ ∷ xs) k = throw BadType

-- what `seq` finds at once: nil or a node, a part to ask, or no sequence
pub data Found (C : Type 0) : Type 0 where
  now : Value C → Found C
  asks_for : C → Found C
  no_seq : Found C

-- nil and `()` give nil; an empty vector gives nil, another its seq from the first place; another node gives itself; a lazy part is asked; all else has no seq
abbrev pub found : {C : Type 0} → Value C → Found C
found nil = now nil
found empty = now nil
found (vector no_values) = now nil
found (vector (x & xs)) = now (vec_seq (x & xs) 0)
found (cons xs r) = now (cons xs r)
found (chunk xs r) = now (chunk xs r)
found (range from at end) = now (range from at end)
found (vec_seq xs at) = now (vec_seq xs at)
found (cell c) = asks_for c
found _ = no_seq

-- The work of the parts that lazy operations make. Each rule does what the realisation of one step of that sequence does in clojure.core; the moments of its asks and calls are said here.
-- A chunked sequence is taken a chunk at a time, another element by element. Where the seq is nil, the rule gives nil unless something else is said.
use Rattle.std.specs.Prelude.{ℕ, ℤ, pos, ◌-ℤ◌, int_le, cond, List, [], ◌∷◌, ◌++◌, map, Option, Some, None}
use Rattle.seq_base.specs.declared.thrown.Thrown.TheVariants.{BadType}
use Rattle.seq_values.specs.declared.words.Kind.TheVariants.{Lazy}
use Rattle.seq_values.specs.declared.words.Op.{Op}
use Rattle.seq_values.specs.declared.words.Op.TheVariants as O
use Rattle.seq_values.specs.Model.{Value, nil, int, vector, cell, no_values, list, values}
use Rattle.seq_plan.specs.Plan.{Plan, seq, call, go, give, drop_from, drop_while_from, parts_from, Round, ends_with, fails, visits, calls_for}
use Rattle.seq_plan.specs.Nodes.{first_of, rest_of, chunk_of, is_truthy, is_nil, if_true, if_nil, round_at, with_members, make_term, call_each}
use Rattle.seq_plan.specs.Lists.{list_of, lazily, first_and, items_and, with_seq}

module _ {C : Type 0} where
  -- ## Map, MapN

  -- f of each element of a chunk, in order; else of the first one
  abbrev pub map_on : Value C → Value C → Option (List (Value C) × Value C) → Plan C
  map_on f s (Some p) = call_each f [] p.0 (λ ys. items_and ys O.Map (f ∷ p.1 ∷ []))
  map_on f s None = call f (first_of s ∷ []) (λ y. first_and y O.Map (f ∷ rest_of s ∷ []))

  abbrev pub map_rule : ℕ → Value C → Value C → Plan C
  map_rule size f c = with_seq c (λ s. map_on f s (chunk_of size s))

  -- the seq of each from left to right; those so far come first
  abbrev pub seq_each : List (Value C) → List (Value C) → (List (Value C) → Plan C) → Plan C
  seq_each ss [] k = k ss
  seq_each ss (c ∷ cs) k = seq c (λ s. seq_each (ss ++ s ∷ []) cs k)

  -- nil where one of them is nil
  abbrev pub unless_nil_among : List (Value C) → Plan C → Plan C
  unless_nil_among [] p = p
  unless_nil_among (s ∷ ss) p = if_nil s (give nil) (unless_nil_among ss p)

  -- f of the first elements; nil where any has none, which is seen when all were asked
  abbrev pub map_all_rule : Value C → List (Value C) → Plan C
  map_all_rule f cs = seq_each [] cs (λ ss. unless_nil_among ss (call f (map first_of ss) (λ y. first_and y O.MapN (f ∷ map rest_of ss))))

  -- ## Filter, Keep

  -- of an element and what f gives of it: the element where that is true
  abbrev pub where_true : Value C → Value C → List (Value C)
  where_true x y = cond (is_truthy y) (x ∷ []) []

  -- the answer where it isn't nil
  abbrev pub where_some : Value C → Value C → List (Value C)
  where_some x y = cond (is_nil y) [] (y ∷ [])

  -- calls f on each of the elements in order, and goes on with those that are kept; those so far come first
  abbrev pub sift : Value C → (Value C → Value C → List (Value C)) → List (Value C) → List (Value C) → (List (Value C) → Plan C) → Plan C
  sift f keeps ys [] k = k ys
  sift f keeps ys (x ∷ xs) k = call f (x ∷ []) (λ y. sift f keeps (ys ++ keeps x y) xs k)

  -- of the element that is kept, if it is: that before the part for the rest, or the cell of that part itself
  abbrev pub one_or_cell : List (Value C) → Op → List (Value C) → Plan C
  one_or_cell [] op xs = lazily op xs
  one_or_cell (x ∷ ys) op xs = first_and x op xs

  -- f of each element of a chunk, in order, and a chunk of those that are kept; else of the first one. Where none is kept the rule goes on to no further chunk: it gives the cell of the part for the rest.
  abbrev pub sift_on : Op → (Value C → Value C → List (Value C)) → Value C → Value C → Option (List (Value C) × Value C) → Plan C
  sift_on op keeps f s (Some p) = sift f keeps [] p.0 (λ ys. items_and ys op (f ∷ p.1 ∷ []))
  sift_on op keeps f s None = call f (first_of s ∷ []) (λ y. one_or_cell (keeps (first_of s) y) op (f ∷ rest_of s ∷ []))

  abbrev pub filter_rule : ℕ → Value C → Value C → Plan C
  filter_rule size p c = with_seq c (λ s. sift_on O.Filter where_true p s (chunk_of size s))

  abbrev pub keep_rule : ℕ → Value C → Value C → Plan C
  keep_rule size f c = with_seq c (λ s. sift_on O.Keep where_some f s (chunk_of size s))

  -- ## Take, TakeWhile, Drop, DropWhile

  -- the collection isn't touched where nothing is to be taken
  abbrev pub take_rule : ℤ → Value C → Plan C
  take_rule n c = cond (int_le n (pos 0)) (give nil) (with_seq c (λ s. first_and (first_of s) O.Take (int (n -ℤ pos 1) ∷ rest_of s ∷ [])))

  -- the elements up to the first of which it isn't so
  abbrev pub take_while_rule : Value C → Value C → Plan C
  take_while_rule p c = with_seq c (λ s. call p (first_of s ∷ []) (λ y. if_true y (first_and (first_of s) O.TakeWhile (p ∷ rest_of s ∷ [])) (give nil)))

  -- the node that is left is given, and no part is made
  abbrev pub drop_rule : ℤ → Value C → Plan C
  drop_rule n c = seq c (λ s. go drop_from (int n ∷ s ∷ []) give)

  -- how many are still to be dropped, and the seq
  abbrev pub drop_round : List (Value C) → Round C
  drop_round (int n ∷ s ∷ []) =
      round_at s
      (ends_with nil)
      (cond (int_le n (pos 0))
      (ends_with s)
      (visits (seq (rest_of s) (λ t. go drop_from (int (n -ℤ pos 1) ∷ t ∷ []) give))))
  drop_round _ = fails BadType

  -- the elements from the first on of which it isn't so
  abbrev pub drop_while_rule : Value C → Value C → Plan C
  drop_while_rule p c = seq c (λ s. go drop_while_from (p ∷ s ∷ []) give)

  -- the function and the seq; the own step of a round is that of the call
  abbrev pub drop_while_round : List (Value C) → Round C
  drop_while_round (p ∷ s ∷ []) =
      round_at s
      (ends_with nil)
      (calls_for p (first_of s ∷ []) (λ y. if_true y (seq (rest_of s) (λ t. go drop_while_from (p ∷ t ∷ []) give)) (give s)))
  drop_while_round _ = fails BadType

  -- ## Concat, Mapcat

  -- the elements of the first that has some, a chunk or one, before those of the others
  abbrev pub concat_on : Value C → List (Value C) → Option (List (Value C) × Value C) → Plan C
  concat_on s others (Some p) = items_and p.0 O.Concat (p.1 ∷ others)
  concat_on s others None = first_and (first_of s) O.Concat (rest_of s ∷ others)

  -- those without elements are dropped; the last one that is left is given as it is, and isn't asked
  abbrev pub concat_rule : ℕ → List (Value C) → Plan C
  concat_rule size [] = give nil
  concat_rule size (c ∷ []) = give c
  concat_rule size (c ∷ d ∷ cs) = seq c (λ s. if_nil s (concat_rule size (d ∷ cs)) (concat_on s (d ∷ cs) (chunk_of size s)))

  -- f of the first element, before a part for those of the rest
  abbrev pub mapcat_rule : Value C → Value C → Plan C
  mapcat_rule f c =
      with_seq c (λ s.
      call f (first_of s ∷ []) (λ y.
      make_term Lazy O.Mapcat (f ∷ rest_of s ∷ []) (λ m.
      lazily O.Concat (y ∷ cell m ∷ []))))

  -- ## Next, Repeat, Cycle

  -- of `iterate`: f of the element before
  abbrev pub next_one_rule : Value C → Value C → Plan C
  next_one_rule f x = call f (x ∷ []) (λ y. first_and y O.Next (f ∷ y ∷ []))

  -- x without end
  abbrev pub repeat_rule : Value C → Plan C
  repeat_rule x = first_and x O.Repeat (x ∷ [])

  abbrev pub cycle_on : Value C → Value C → Plan C
  cycle_on whole s = first_and (first_of s) O.Cycle (whole ∷ rest_of s ∷ [])

  -- where this round is at its end, the next one begins
  abbrev pub cycle_rule : Value C → Value C → Plan C
  cycle_rule whole c = seq c (λ s. if_nil s (with_seq whole (cycle_on whole)) (cycle_on whole s))

  -- ## Parts

  -- the list of the group, and the part for what comes after its last element
  abbrev pub parts_end : ℤ → List (Value C) → Value C → Plan C
  parts_end n xs s = first_and (list_of xs) O.Parts (int n ∷ rest_of s ∷ [])

  -- after an element was taken: the group is full, or the seq of the rest tells whether it goes on
  abbrev pub parts_on : ℤ → ℤ → List (Value C) → Value C → Plan C
  parts_on n left xs s =
      cond (int_le left (pos 0))
      (parts_end n xs s)
      (seq (rest_of s) (λ t. if_nil t (parts_end n xs s) (go parts_from (int n ∷ int left ∷ vector (values xs) ∷ t ∷ []) give)))

  -- the size of a group, how many of it are left to take, those taken, and the seq, which isn't nil
  abbrev pub parts_round : List (Value C) → Round C
  parts_round (int n ∷ int left ∷ vector xs ∷ s ∷ []) = visits (with_members (list xs ++ first_of s ∷ []) (λ ys. parts_on n (left -ℤ pos 1) ys s))
  parts_round _ = fails BadType

  abbrev pub parts_rule : ℤ → Value C → Plan C
  parts_rule n c = with_seq c (λ s. go parts_from (int n ∷ int n ∷ vector no_values ∷ s ∷ []) give)

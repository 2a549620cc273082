-- How deep a vector or a node is after an item is added, or some are left out.
use Rattle.std.proofs.Common.{◌≡◌, ap, ℕ, zero, suc, ◌+◌, ◌-◌, ◌≤◌, ◌<◌, max, List, [], ◌∷◌, ◌++◌, length, take, drop, arith}
use Rattle.std.specs.Prelude.{IsTrue}
use Rattle.std.proofs.lemmas.List.{length-append, length-take, length-drop, take_rest}
use Rattle.std.proofs.Math.Seq.{take-nil, drop-nil}
use Rattle.std.proofs.Math.Nat.{le-max_left, le-max_right}
use Rattle.seq_values.specs.declared.value.Value.TheVariants as V
use Rattle.seq_values.specs.declared.value.Node.TheVariants as N
use Rattle.seq_values.specs.Layers.{Value}
use Rattle.seq_values.specs.Depth.{depth, depth_of_all, keep_depth}
use Rattle.seq_values.specs.WellFormed.{is_well_formed, is_well_formed_node, are_well_formed}
use Rattle.seq_values.proofs.WellFormedLemmas.{list_keeps, well_joined, well_front, well_back, one_well, vector_well, vector_items, vector_kept, cons_made, cons_holds, cons_kept, chunk_made, chunk_holds, chunk_kept}

pub deepest_joined : (front back : List Value) → depth_of_all (front ++ back) ≡ max (depth_of_all front) (depth_of_all back)
deepest_joined [] back = omega arith
deepest_joined (v ∷ vs) back = omega (arith, deepest_joined vs back)

pub front_within : (count : ℕ) (values : List Value) → depth_of_all (take count values) ≤ depth_of_all values
front_within count [] = omega (arith, ap depth_of_all (take-nil {A = Value} count))
front_within zero (v ∷ vs) = omega arith
front_within (suc count) (v ∷ vs) = omega (arith, front_within count vs)

pub back_within : (count : ℕ) (values : List Value) → depth_of_all (drop count values) ≤ depth_of_all values
back_within count [] = omega (arith, ap depth_of_all (drop-nil {A = Value} count))
back_within zero (v ∷ vs) = omega arith
back_within (suc count) (v ∷ vs) = omega (arith, back_within count vs)

-- ## An item more

and_one : (items : List Value) (last : Value) → depth_of_all (items ++ last ∷ []) ≡ max (depth_of_all items) (depth last)
and_one items last = omega (arith, deepest_joined items (last ∷ []))

pub and_kept : (items : List Value) (last : Value) (kept : ℕ) → kept ≡ depth_of_all items + 1 → max kept (depth last + 1) ≡ depth_of_all (items ++ last ∷ []) + 1
and_kept items last kept e = omega (arith, and_one items last, e)

-- a vector of that depth, and one more item
module _ (items : List Value) (kept : ℕ) (last : Value) (h : IsTrue (is_well_formed (V.Vector kept items))) (w : IsTrue (is_well_formed last)) (d : depth last ≤ 255) where
  pub vector_and_same : V.Vector (max kept (depth last + 1)) (items ++ last ∷ []) ≡ V.Vector (depth_of_all (items ++ last ∷ []) + 1) (items ++ last ∷ [])
  vector_and_same = ap (λ k. V.Vector k (items ++ last ∷ [])) (and_kept items last kept (vector_kept items kept h).0)

  pub vector_and_well : IsTrue (is_well_formed (V.Vector (max kept (depth last + 1)) (items ++ last ∷ [])))
  vector_and_well =
      let k = vector_kept items kept h in
      vector_well (items ++ last ∷ []) _ (well_joined items (last ∷ []) (vector_items items kept h) (one_well last w)) (omega (arith, and_one items last, k.1, d)) (and_kept items last kept k.0)

-- a Cons of that depth, and one more element
module _ (heads : List Value) (rest : Value) (kept : ℕ) (first : Value) (h : IsTrue (is_well_formed_node (N.Cons kept heads rest))) (w : IsTrue (is_well_formed first)) (d : depth first ≤ 255) where
  more_kept : max kept (depth first + 1) ≡ max (depth_of_all (heads ++ first ∷ [])) (depth rest) + 1
  more_kept = omega (arith, and_one heads first, (cons_kept heads rest kept h).0)

  pub cons_and_same : N.Cons (max kept (depth first + 1)) (heads ++ first ∷ []) rest ≡ N.Cons (max (depth_of_all (heads ++ first ∷ [])) (depth rest) + 1) (heads ++ first ∷ []) rest
  cons_and_same = ap (λ k. N.Cons k (heads ++ first ∷ []) rest) more_kept

  pub cons_and_well : IsTrue (is_well_formed_node (N.Cons (max kept (depth first + 1)) (heads ++ first ∷ []) rest))
  cons_and_well =
      let p = cons_holds heads rest kept h in
      cons_made (heads ++ first ∷ []) rest _
      (record { some = omega (arith, length-append heads (first ∷ []), p.0.some); each = well_joined heads (first ∷ []) p.0.each (one_well first w); last = p.0.last })
      p.1 (omega (arith, and_one heads first, (cons_kept heads rest kept h).1, d)) more_kept

-- ## Items left out

pub window_within : (from count : ℕ) (values : List Value) → depth_of_all (take count (drop from values)) ≤ depth_of_all values
window_within from count values = omega (arith, front_within count (drop from values), back_within from values)

-- a part of a vector of that depth
module _ (items : List Value) (kept from count : ℕ) (h : IsTrue (is_well_formed (V.Vector kept items))) where
  abbrev part : List Value
  part = take count (drop from items)

  part_formed : IsTrue (are_well_formed part)
  part_formed = well_front (drop from items) count (well_back items from (vector_items items kept h))

  pub vector_part_keeps : IsTrue (keep_depth part)
  vector_part_keeps = list_keeps part part_formed

  pub vector_part_within : depth_of_all part ≤ kept - 1
  vector_part_within = omega (arith, window_within from count items, (vector_kept items kept h).0)

  pub vector_part_small : (depth_of_all part ≤ 255) × (0 < kept)
  vector_part_small = (omega (arith, window_within from count items, (vector_kept items kept h).1), omega (arith, (vector_kept items kept h).0))

  pub vector_part_well : (k : ℕ) → k ≡ depth_of_all part + 1 → IsTrue (is_well_formed (V.Vector k part))
  vector_part_well k e = vector_well part k part_formed (omega (arith, window_within from count items, (vector_kept items kept h).1)) e

pub all_behind : (items : List Value) (done : ℕ) → take (length items - done) (drop done items) ≡ drop done items
all_behind items done = take_rest items done

-- what is left of a Cons of that depth
module _ (heads : List Value) (rest : Value) (kept left : ℕ) (h : IsTrue (is_well_formed_node (N.Cons kept heads rest))) where
  abbrev front : List Value
  front = take left heads

  pub cons_rest_well : IsTrue (is_well_formed rest)
  cons_rest_well = (cons_holds heads rest kept h).0.last

  pub cons_part_keeps : IsTrue (keep_depth front)
  cons_part_keeps = list_keeps front (well_front heads left (cons_holds heads rest kept h).0.each)

  pub cons_part_within : (depth_of_all front ≤ kept - 1) × (depth rest ≤ kept - 1)
  cons_part_within = let k = (cons_kept heads rest kept h).0 in
      (omega (arith, front_within left heads, le-max_left (depth_of_all heads) (depth rest), k), omega (arith, le-max_right (depth_of_all heads) (depth rest), k))

  pub cons_part_small : (max (depth_of_all front) (depth rest) ≤ 255) × (0 < kept)
  cons_part_small = (omega (arith, front_within left heads, (cons_kept heads rest kept h).1), omega (arith, (cons_kept heads rest kept h).0))

  pub cons_part_well : (k : ℕ) → 0 < left → left ≤ length heads → k ≡ max (depth_of_all front) (depth rest) + 1 → IsTrue (is_well_formed_node (N.Cons k front rest))
  cons_part_well k some in_heads e =
      let p = cons_holds heads rest kept h in
      let le : max (depth_of_all front) (depth rest) ≤ 255 = omega (arith, front_within left heads, (cons_kept heads rest kept h).1) in
      cons_made front rest k (record { some = omega (arith, length-take left heads, some, in_heads); each = well_front heads left p.0.each; last = p.0.last }) p.1 le e

-- what is left of a chunk of that depth
module _ (items : List Value) (rest : Value) (kept done : ℕ) (h : IsTrue (is_well_formed_node (N.Chunk kept items rest))) where
  abbrev back : List Value
  back = drop done items

  pub chunk_rest_well : IsTrue (is_well_formed rest)
  chunk_rest_well = (chunk_holds items rest kept h).0.last

  pub chunk_part_keeps : IsTrue (keep_depth back)
  chunk_part_keeps = list_keeps back (well_back items done (chunk_holds items rest kept h).0.each)

  pub chunk_part_within : depth_of_all back ≤ kept - 1
  chunk_part_within = omega (arith, back_within done items, le-max_left (depth_of_all items) (depth rest), (chunk_kept items rest kept h).0)

  pub chunk_part_small : (max (depth_of_all back) (depth rest) ≤ 255) × (0 < kept)
  chunk_part_small = (omega (arith, back_within done items, (chunk_kept items rest kept h).1), omega (arith, (chunk_kept items rest kept h).0))

  pub chunk_part_well : (k : ℕ) → done < length items → k ≡ max (depth_of_all back) (depth rest) + 1 → IsTrue (is_well_formed_node (N.Chunk k back rest))
  chunk_part_well k in_items e =
      let p = chunk_holds items rest kept h in
      let le : max (depth_of_all back) (depth rest) ≤ 255 = omega (arith, back_within done items, (chunk_kept items rest kept h).1) in
      chunk_made back rest k (record { some = omega (arith, length-drop done items, in_items); each = well_back items done p.0.each; last = p.0.last }) p.1 le e

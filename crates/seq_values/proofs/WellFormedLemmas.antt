-- What a well-formed value holds is well formed, and what is made of well-formed values is.
use Rattle.std.proofs.Common.{◌≡◌, refl, sym, ap, ◌∙◌, subst, ℕ, zero, suc, ◌+◌, ◌≤◌, ◌<◌, max, List, [], ◌∷◌, ◌++◌, map, length, take, drop, Bool, true, ◌&&◌, nat_lt, nat_le, nat_eq, ℤ, pos, ◌+ℤ◌, ◌<ℤ◌, int_le, int_lt, IfSome, Some, None, slice_get, Bor, arith}
use Rattle.std.specs.Prelude.{IsTrue}
use Rattle.std.specs.declared.option.Option.{Option}
use Rattle.std.specs.Option.{option_copied}
use Rattle.std.proofs.lemmas.Bool.{leb-true, le-leb, ltb-true, lt-ltb, eqb-true, eq-eqb}
use Rattle.std.proofs.lemmas.Int.{ints}
use Rattle.std.proofs.Math.Seq.{take-nil, drop-nil}
use Rattle.std.proofs.lemmas.List.{length-map}
use Rattle.std.proofs.Math.Nat.{le-max_left, le-max_right, max-le}
use Rattle.seq_values.specs.declared.value.Value.TheVariants as V
use Rattle.seq_values.specs.declared.value.Node.TheVariants as N
use Rattle.seq_values.specs.Layers.{Value, Node, FnValue}
use Rattle.seq_values.specs.Depth.{Grade, holding, graded, graded_node, graded_function, depth, depth_of_node, depth_of_function, depth_of_all, keeps_depth, keep_depth}
use Rattle.seq_values.specs.WellFormedTerms.{takes, is_well_formed_term}
use Rattle.seq_values.specs.declared.term.Term.{Term}
use Rattle.seq_values.specs.WellFormed.{Seen, sights, all_stand, ends_cons, ends_chunk, not_empty, seen, seen_node, seen_function, sight_of, binds, is_measured, is_well_formed, is_well_formed_node, is_well_formed_function, are_well_formed}
use Rattle.seq_values.proofs.DepthLemmas.{and_parts, both}
use Rattle.seq_values.proofs.Rolls.{seen_vector, graded_vector, seen_reduced, graded_reduced, seen_as_node, graded_as_node, seen_as_function, graded_as_function, seen_fn, graded_fn, seen_cons, graded_cons, seen_chunk, graded_chunk, seen_vec_seq, graded_vec_seq, seen_range, graded_range}

-- ## What is known of a well-formed value

-- it stands, its numbers are right, and it is at most 256 deep
module _ (s : Seen) (g : Grade) (h : (s.stands && is_measured g) ≡ true) where
  stands_in : s.stands ≡ true
  stands_in = (and_parts s.stands (is_measured g) h).0

  right_in : g.right ≡ true
  right_in = (and_parts g.right (nat_le g.depth 256) (and_parts s.stands (is_measured g) h).1).0

  within_in : g.depth ≤ 256
  within_in = leb-true g.depth 256 (and_parts g.right (nat_le g.depth 256) (and_parts s.stands (is_measured g) h).1).1

formed : (s : Seen) (g : Grade) → s.stands ≡ true → g.right ≡ true → g.depth ≤ 256 → (s.stands && is_measured g) ≡ true
formed s g a b c = both _ _ a (both _ _ b (le-leb g.depth 256 c))

pub value_keeps : (v : Value) → IsTrue (is_well_formed v) → IsTrue (keeps_depth v)
value_keeps v h = right_in (seen v) (graded v) h

pub within : (v : Value) → IsTrue (is_well_formed v) → depth v ≤ 256
within v h = within_in (seen v) (graded v) h

pub within_node : (n : Node) → IsTrue (is_well_formed_node n) → depth_of_node n ≤ 256
within_node n h = within_in (seen_node n) (graded_node n) h

pub within_function : (f : FnValue) → IsTrue (is_well_formed_function f) → depth_of_function f ≤ 256
within_function f h = within_in (seen_function f) (graded_function f) h

-- ## Lists of values

pub all_stands : (values : List Value) → IsTrue (are_well_formed values) → all_stand (map seen values) ≡ true
all_stands [] h = refl
all_stands (v ∷ vs) h =
    let parts = and_parts (is_well_formed v) (are_well_formed vs) h in
    both _ _ (stands_in (seen v) (graded v) parts.0) (all_stands vs parts.1)

pub list_keeps : (values : List Value) → IsTrue (are_well_formed values) → IsTrue (keep_depth values)
list_keeps [] h = refl
list_keeps (v ∷ vs) h =
    let parts = and_parts (is_well_formed v) (are_well_formed vs) h in
    both _ _ (right_in (seen v) (graded v) parts.0) (list_keeps vs parts.1)

pub all_within : (values : List Value) → IsTrue (are_well_formed values) → depth_of_all values ≤ 256
all_within [] h = omega arith
all_within (v ∷ vs) h =
    let parts = and_parts (is_well_formed v) (are_well_formed vs) h in
    max-le (within_in (seen v) (graded v) parts.0) (all_within vs parts.1)

pub all_well_formed : (values : List Value) → all_stand (map seen values) ≡ true → IsTrue (keep_depth values) → depth_of_all values ≤ 256 → IsTrue (are_well_formed values)
all_well_formed [] h k d = refl
all_well_formed (v ∷ vs) h k d =
    let parts = and_parts ((seen v).stands) (all_stand (map seen vs)) h in
    let kept = and_parts (keeps_depth v) (keep_depth vs) k in
    let here : depth v ≤ 256 = omega (arith, le-max_left (depth v) (depth_of_all vs), d) in
    let there : depth_of_all vs ≤ 256 = omega (arith, le-max_right (depth v) (depth_of_all vs), d) in
    both _ _ (formed (seen v) (graded v) parts.0 kept.0 here) (all_well_formed vs parts.1 kept.1 there)

pub sights_seen : (values : List Value) → sights (map seen values) ≡ map sight_of values
sights_seen [] = refl
sights_seen (v ∷ vs) = ap (λ ss. sight_of v ∷ ss) (sights_seen vs)

-- what is true of each member is true of a part and of two parts
pub well_at : (values : List Value) (at : ℕ) → are_well_formed values ≡ true → IfSome (slice_get values at) (λ v. is_well_formed v ≡ true)
well_at [] at h = tt
well_at (v ∷ vs) zero h = (and_parts (is_well_formed v) (are_well_formed vs) h).0
well_at (v ∷ vs) (suc at) h = well_at vs at (and_parts (is_well_formed v) (are_well_formed vs) h).1

pub well_got : (r : Option (Bor Value)) (values : List Value) (at : ℕ) → option_copied r ≡ slice_get values at → are_well_formed values ≡ true → IfSome r (λ v. is_well_formed v.now ≡ true)
well_got None values at e h = tt
well_got (Some b) values at e h = subst (λ o. IfSome o (λ v. is_well_formed v ≡ true)) (sym e) (well_at values at h)

pub member_well : (values : List Value) (at : ℕ) (v : Value) → Some v ≡ slice_get values at → IsTrue (are_well_formed values) → IsTrue (is_well_formed v)
member_well values at v e h = subst (λ o. IfSome o (λ w. is_well_formed w ≡ true)) (sym e) (well_at values at h)

pub well_joined : (front back : List Value) → are_well_formed front ≡ true → are_well_formed back ≡ true → are_well_formed (front ++ back) ≡ true
well_joined [] back f b = b
well_joined (v ∷ vs) back f b =
    let parts = and_parts (is_well_formed v) (are_well_formed vs) f in
    both _ _ parts.0 (well_joined vs back parts.1 b)

pub well_front : (values : List Value) (count : ℕ) → are_well_formed values ≡ true → are_well_formed (take count values) ≡ true
well_front [] count h = ap are_well_formed (take-nil count)
well_front (v ∷ vs) zero h = refl
well_front (v ∷ vs) (suc count) h =
    let parts = and_parts (is_well_formed v) (are_well_formed vs) h in
    both _ _ parts.0 (well_front vs count parts.1)

pub well_back : (values : List Value) (count : ℕ) → are_well_formed values ≡ true → are_well_formed (drop count values) ≡ true
well_back [] count h = ap are_well_formed (drop-nil count)
well_back (v ∷ vs) zero h = h
well_back (v ∷ vs) (suc count) h = well_back vs count (and_parts (is_well_formed v) (are_well_formed vs) h).1

-- ## One layer

-- what is seen of it and how deep it is, known by an equation each
module _ (s t : Seen) (g : Grade) (inside : ℕ) (right : Bool) (kept : ℕ) (is_seen : s ≡ t) (is_graded : g ≡ holding inside right kept) where
  made : t.stands ≡ true → right ≡ true → kept ≡ inside + 1 → inside ≤ 255 → (s.stands && is_measured g) ≡ true
  made h r k le = formed s g (ap (λ x. x.stands) is_seen ∙ h) (ap (λ x. x.right) is_graded ∙ both _ _ r (eq-eqb kept (inside + 1) k)) (omega (arith, ap (λ x. x.depth) is_graded, le))

  taken : (s.stands && is_measured g) ≡ true → (t.stands ≡ true) × (right ≡ true) × (inside ≤ 255)
  taken h = (
    sym (ap (λ x. x.stands) is_seen) ∙ stands_in s g h,
    (and_parts right (nat_eq kept (inside + 1)) (sym (ap (λ x. x.right) is_graded) ∙ right_in s g h)).0,
    omega (arith, ap (λ x. x.depth) is_graded, within_in s g h),
  )

-- ## Vectors, reduced values, and nodes and functions as values

pub vector_well : (items : List Value) (kept : ℕ) → IsTrue (are_well_formed items) → depth_of_all items ≤ 255 → kept ≡ depth_of_all items + 1 → IsTrue (is_well_formed (V.Vector kept items))
vector_well items kept h le k = made _ _ _ _ _ _ (seen_vector items kept) (graded_vector items kept) (all_stands items h) (list_keeps items h) k le

pub vector_items : (items : List Value) (kept : ℕ) → IsTrue (is_well_formed (V.Vector kept items)) → IsTrue (are_well_formed items)
vector_items items kept h =
    let parts = taken _ _ _ _ _ _ (seen_vector items kept) (graded_vector items kept) h in
    all_well_formed items parts.0 parts.1 (omega (arith, parts.2))

pub reduced_well : (held : Value) (kept : ℕ) → IsTrue (is_well_formed held) → depth held ≤ 255 → kept ≡ depth held + 1 → IsTrue (is_well_formed (V.Reduced kept held))
reduced_well held kept h le k = made _ _ _ _ _ _ (seen_reduced held kept) (graded_reduced held kept) (stands_in (seen held) (graded held) h) (value_keeps held h) k le

pub reduced_held : (held : Value) (kept : ℕ) → IsTrue (is_well_formed (V.Reduced kept held)) → IsTrue (is_well_formed held)
reduced_held held kept h =
    let parts = taken _ _ _ _ _ _ (seen_reduced held kept) (graded_reduced held kept) h in
    formed (seen held) (graded held) parts.0 parts.1 (omega (arith, parts.2))

pub as_node : (n : Node) → is_well_formed (V.Node n) ≡ is_well_formed_node n
as_node n = λ i. (seen_as_node n i).stands && is_measured (graded_as_node n i)

pub as_function : (f : FnValue) → is_well_formed (V.Function f) ≡ is_well_formed_function f
as_function f = λ i. (seen_as_function f i).stands && is_measured (graded_as_function f i)

pub node_well : (n : Node) → IsTrue (is_well_formed_node n) → IsTrue (is_well_formed (V.Node n))
node_well n h = as_node n ∙ h

-- ## Functions

pub function_well : (f : FnValue) → IsTrue (are_well_formed f.bound) → depth_of_all f.bound ≤ 255 → f.depth ≡ depth_of_all f.bound + 1 → IsTrue (binds f.target (map sight_of f.bound)) → IsTrue (is_well_formed_function f)
function_well f h le k b =
    made _ _ _ _ _ _ (seen_fn f) (graded_fn f) (both _ _ (all_stands f.bound h) (ap (binds f.target) (sights_seen f.bound) ∙ b)) (list_keeps f.bound h) k le

pub function_bound : (f : FnValue) → IsTrue (is_well_formed_function f) → IsTrue (are_well_formed f.bound)
function_bound f h =
    let parts = taken _ _ _ _ _ _ (seen_fn f) (graded_fn f) h in
    all_well_formed f.bound (and_parts (all_stand (map seen f.bound)) _ parts.0).0 parts.1 (omega (arith, parts.2))

pub function_binds : (f : FnValue) → IsTrue (is_well_formed_function f) → IsTrue (binds f.target (map sight_of f.bound))
function_binds f h =
    let parts = taken _ _ _ _ _ _ (seen_fn f) (graded_fn f) h in
    sym (ap (binds f.target) (sights_seen f.bound)) ∙ (and_parts (all_stand (map seen f.bound)) _ parts.0).1

-- ## Nodes

-- some members, each well formed, and a well-formed rest
pub record Holds (values : List Value) (rest : Value) : Type 0 where
  pub some : 0 < length values
  pub each : IsTrue (are_well_formed values)
  pub last : IsTrue (is_well_formed rest)

length_seen : (values : List Value) → length (map seen values) ≡ length values
length_seen values = length-map values seen

-- of a node with leading elements and a rest, given what its rest has to be
module _ (ends : Bool) (values : List Value) (rest : Value) where
  stand : Holds values rest → ends ≡ true → (not_empty (map seen values) && (all_stand (map seen values) && ((seen rest).stands && ends))) ≡ true
  stand h e = both _ _ (ap (nat_lt 0) (length_seen values) ∙ lt-ltb 0 _ h.some) (both _ _ (all_stands values h.each) (both _ _ (stands_in (seen rest) (graded rest) h.last) e))

  kept_right : Holds values rest → (keep_depth values && keeps_depth rest) ≡ true
  kept_right h = both _ _ (list_keeps values h.each) (value_keeps rest h.last)

  held : (not_empty (map seen values) && (all_stand (map seen values) && ((seen rest).stands && ends))) ≡ true → (keep_depth values && keeps_depth rest) ≡ true → max (depth_of_all values) (depth rest) ≤ 255 → Holds values rest × (ends ≡ true)
  held h k le =
      let values_within : depth_of_all values ≤ 256 = omega (arith, le, le-max_left (depth_of_all values) (depth rest)) in
      let rest_within : depth rest ≤ 256 = omega (arith, le, le-max_right (depth_of_all values) (depth rest)) in
      let outer = and_parts _ _ h in
      let inner = and_parts _ _ outer.1 in
      let last = and_parts ((seen rest).stands) ends inner.1 in
      let kept = and_parts (keep_depth values) (keeps_depth rest) k in
      let some : 0 < length values = ltb-true 0 _ (sym (ap (nat_lt 0) (length_seen values)) ∙ outer.0) in
      (record { some = some; each = all_well_formed values inner.0 kept.0 values_within; last = formed (seen rest) (graded rest) last.0 kept.1 rest_within }, last.1)

pub cons_made : (heads : List Value) (rest : Value) (kept : ℕ) → Holds heads rest → IsTrue (ends_cons (sight_of rest)) → max (depth_of_all heads) (depth rest) ≤ 255 → kept ≡ max (depth_of_all heads) (depth rest) + 1 → IsTrue (is_well_formed_node (N.Cons kept heads rest))
cons_made heads rest kept h e le k = made _ _ _ _ _ _ (seen_cons heads rest kept) (graded_cons heads rest kept) (stand _ heads rest h e) (kept_right true heads rest h) k le

pub cons_well : (heads : List Value) (rest : Value) (kept : ℕ) → 0 < length heads → IsTrue (are_well_formed heads) → IsTrue (is_well_formed rest) → IsTrue (ends_cons (sight_of rest)) → depth_of_all heads ≤ 255 → depth rest ≤ 255
    → kept ≡ max (depth_of_all heads) (depth rest) + 1 → IsTrue (is_well_formed_node (N.Cons kept heads rest))
cons_well heads rest kept n h r e d le k = cons_made heads rest kept (record { some = n; each = h; last = r }) e (max-le d le) k

pub cons_holds : (heads : List Value) (rest : Value) (kept : ℕ) → IsTrue (is_well_formed_node (N.Cons kept heads rest)) → Holds heads rest × IsTrue (ends_cons (sight_of rest))
cons_holds heads rest kept h =
    let parts = taken _ _ _ _ _ _ (seen_cons heads rest kept) (graded_cons heads rest kept) h in
    held _ heads rest parts.0 parts.1 parts.2

pub chunk_made : (items : List Value) (rest : Value) (kept : ℕ) → Holds items rest → IsTrue (ends_chunk (sight_of rest)) → max (depth_of_all items) (depth rest) ≤ 255 → kept ≡ max (depth_of_all items) (depth rest) + 1 → IsTrue (is_well_formed_node (N.Chunk kept items rest))
chunk_made items rest kept h e le k = made _ _ _ _ _ _ (seen_chunk items rest kept) (graded_chunk items rest kept) (stand _ items rest h e) (kept_right true items rest h) k le

pub chunk_well : (items : List Value) (rest : Value) (kept : ℕ) → 0 < length items → IsTrue (are_well_formed items) → IsTrue (is_well_formed rest) → IsTrue (ends_chunk (sight_of rest)) → depth_of_all items ≤ 255 → depth rest ≤ 255
    → kept ≡ max (depth_of_all items) (depth rest) + 1 → IsTrue (is_well_formed_node (N.Chunk kept items rest))
chunk_well items rest kept n h r e d le k = chunk_made items rest kept (record { some = n; each = h; last = r }) e (max-le d le) k

pub chunk_holds : (items : List Value) (rest : Value) (kept : ℕ) → IsTrue (is_well_formed_node (N.Chunk kept items rest)) → Holds items rest × IsTrue (ends_chunk (sight_of rest))
chunk_holds items rest kept h =
    let parts = taken _ _ _ _ _ _ (seen_chunk items rest kept) (graded_chunk items rest kept) h in
    held _ items rest parts.0 parts.1 parts.2

pub vec_seq_well : (items : List Value) (at kept : ℕ) → at < length items → IsTrue (are_well_formed items) → depth_of_all items ≤ 255 → kept ≡ depth_of_all items + 1 → IsTrue (is_well_formed_node (N.VecSeq kept items at))
vec_seq_well items at kept lt h le k = made _ _ _ _ _ _ (seen_vec_seq items at kept) (graded_vec_seq items at kept) (both _ _ (ap (nat_lt at) (length_seen items) ∙ lt-ltb at _ lt) (all_stands items h)) (list_keeps items h) k le

pub vec_seq_holds : (items : List Value) (at kept : ℕ) → IsTrue (is_well_formed_node (N.VecSeq kept items at)) → (at < length items) × IsTrue (are_well_formed items)
vec_seq_holds items at kept h =
    let parts = taken _ _ _ _ _ _ (seen_vec_seq items at kept) (graded_vec_seq items at kept) h in
    let stands = and_parts _ _ parts.0 in
    (ltb-true at _ (sym (ap (nat_lt at) (length_seen items)) ∙ stands.0), all_well_formed items stands.1 parts.1 (omega (arith, parts.2)))

-- The number that is kept is one more than the depth of the deepest of what is held, which is at most 255.
module _ (s : Seen) (g : Grade) (inside : ℕ) (right : Bool) (kept : ℕ) (is_graded : g ≡ holding inside right kept) where
  kept_in : (s.stands && is_measured g) ≡ true → (kept ≡ inside + 1) × (inside ≤ 255)
  kept_in h = (
    eqb-true kept (inside + 1) (and_parts right (nat_eq kept (inside + 1)) (sym (ap (λ x. x.right) is_graded) ∙ right_in s g h)).1,
    omega (arith, ap (λ x. x.depth) is_graded, within_in s g h),
  )

pub vector_kept : (items : List Value) (kept : ℕ) → IsTrue (is_well_formed (V.Vector kept items)) → (kept ≡ depth_of_all items + 1) × (depth_of_all items ≤ 255)
vector_kept items kept h = kept_in (seen (V.Vector kept items)) _ _ _ kept (graded_vector items kept) h

pub cons_kept : (heads : List Value) (rest : Value) (kept : ℕ) → IsTrue (is_well_formed_node (N.Cons kept heads rest)) → (kept ≡ max (depth_of_all heads) (depth rest) + 1) × (max (depth_of_all heads) (depth rest) ≤ 255)
cons_kept heads rest kept h = kept_in (seen_node (N.Cons kept heads rest)) _ _ _ kept (graded_cons heads rest kept) h

pub chunk_kept : (items : List Value) (rest : Value) (kept : ℕ) → IsTrue (is_well_formed_node (N.Chunk kept items rest)) → (kept ≡ max (depth_of_all items) (depth rest) + 1) × (max (depth_of_all items) (depth rest) ≤ 255)
chunk_kept items rest kept h = kept_in (seen_node (N.Chunk kept items rest)) _ _ _ kept (graded_chunk items rest kept) h

pub vec_seq_kept : (items : List Value) (at kept : ℕ) → IsTrue (is_well_formed_node (N.VecSeq kept items at)) → (kept ≡ depth_of_all items + 1) × (depth_of_all items ≤ 255)
vec_seq_kept items at kept h = kept_in (seen_node (N.VecSeq kept items at)) _ _ _ kept (graded_vec_seq items at kept) h

-- ## The members and the rest of a node, and the arguments of a function

pub cons_each : (heads : List Value) (rest : Value) (kept : ℕ) → IsTrue (is_well_formed_node (N.Cons kept heads rest)) → IsTrue (are_well_formed heads)
cons_each heads rest kept h = (cons_holds heads rest kept h).0.each

pub cons_last : (heads : List Value) (rest : Value) (kept : ℕ) → IsTrue (is_well_formed_node (N.Cons kept heads rest)) → IsTrue (is_well_formed rest)
cons_last heads rest kept h = (cons_holds heads rest kept h).0.last

pub chunk_each : (items : List Value) (rest : Value) (kept : ℕ) → IsTrue (is_well_formed_node (N.Chunk kept items rest)) → IsTrue (are_well_formed items)
chunk_each items rest kept h = (chunk_holds items rest kept h).0.each

pub chunk_last : (items : List Value) (rest : Value) (kept : ℕ) → IsTrue (is_well_formed_node (N.Chunk kept items rest)) → IsTrue (is_well_formed rest)
chunk_last items rest kept h = (chunk_holds items rest kept h).0.last

pub vec_seq_each : (items : List Value) (at kept : ℕ) → IsTrue (is_well_formed_node (N.VecSeq kept items at)) → IsTrue (are_well_formed items)
vec_seq_each items at kept h = (vec_seq_holds items at kept h).1

-- at another place
pub vec_seq_at : (items : List Value) (at kept place : ℕ) → IsTrue (is_well_formed_node (N.VecSeq kept items at)) → place < length items → IsTrue (is_well_formed_node (N.VecSeq kept items place))
vec_seq_at items at kept place h lt = vec_seq_well items place kept lt (vec_seq_each items at kept h) (vec_seq_kept items at kept h).1 (vec_seq_kept items at kept h).0

-- ## Ranges

pub range_begun : (from at end : ℤ) → IsTrue (is_well_formed_node (N.Range from at end)) → int_le from at ≡ true
range_begun from at end h =
    (and_parts (int_le from at) (int_lt at end) (sym (ap (λ s. s.stands) (seen_range from at end)) ∙ stands_in (seen_node (N.Range from at end)) (graded_node (N.Range from at end)) h)).0

pub range_ends : (from at end : ℤ) → IsTrue (is_well_formed_node (N.Range from at end)) → int_lt at end ≡ true
range_ends from at end h =
    (and_parts (int_le from at) (int_lt at end) (sym (ap (λ s. s.stands) (seen_range from at end)) ∙ stands_in (seen_node (N.Range from at end)) (graded_node (N.Range from at end)) h)).1

pub range_well : (from at end : ℤ) → int_le from at ≡ true → at <ℤ end → IsTrue (is_well_formed_node (N.Range from at end))
range_well from at end b lt =
    let below : int_lt at end ≡ true = grind (arith, ints) in
    formed (seen_node (N.Range from at end)) (graded_node (N.Range from at end)) (ap (λ s. s.stands) (seen_range from at end) ∙ both (int_le from at) (int_lt at end) b below)
    (ap (λ g. g.right) (graded_range from at end)) (omega (arith, ap (λ g. g.depth) (graded_range from at end)))

-- a range that is one further still stands
pub range_on : (from at : ℤ) → int_le from at ≡ true → int_le from (at +ℤ pos 1) ≡ true
range_on from at h = grind (arith, ints)

-- ## A sequence over a vector

pub vector_seq_well : (items : List Value) (kept : ℕ) → IsTrue (is_well_formed (V.Vector kept items)) → 0 < length items → IsTrue (is_well_formed_node (N.VecSeq kept items 0))
vector_seq_well items kept h some = vec_seq_well items 0 kept some (vector_items items kept h) (vector_kept items kept h).1 (vector_kept items kept h).0

-- ## One value in a list

pub one_well : (v : Value) → IsTrue (is_well_formed v) → IsTrue (are_well_formed (v ∷ []))
one_well v h = both _ _ h refl

pub one_within : (v : Value) → depth v ≤ 255 → depth_of_all (v ∷ []) ≤ 255
one_within v h = omega (arith, h)

-- ## Terms

pub term_args : (t : Term) → is_well_formed_term t ≡ true → are_well_formed t.args ≡ true
term_args t h = (and_parts (are_well_formed t.args) (takes t.op (map sight_of t.args)) h).0

pub term_takes : (t : Term) → is_well_formed_term t ≡ true → takes t.op (map sight_of t.args) ≡ true
term_takes t h = (and_parts (are_well_formed t.args) (takes t.op (map sight_of t.args)) h).1

pub term_well : (t : Term) → are_well_formed t.args ≡ true → takes t.op (map sight_of t.args) ≡ true → is_well_formed_term t ≡ true
term_well t h k = both _ _ h k

-- ## What is matched out of a well-formed value, as a `match` of the code leaves it

pub vector_in : (v : Value) (items : List Value) (kept : ℕ) → v ≡ V.Vector kept items → is_well_formed v ≡ true → are_well_formed items ≡ true
vector_in v items kept e h = vector_items items kept (sym (ap is_well_formed e) ∙ h)

pub reduced_in : (v held : Value) (kept : ℕ) → v ≡ V.Reduced kept held → is_well_formed v ≡ true → is_well_formed held ≡ true
reduced_in v held kept e h = reduced_held held kept (sym (ap is_well_formed e) ∙ h)

pub node_in : (v : Value) (n : Node) → v ≡ V.Node n → is_well_formed v ≡ true → is_well_formed_node n ≡ true
node_in v n e h = sym (as_node n) ∙ sym (ap is_well_formed e) ∙ h

pub function_in : (v : Value) (f : FnValue) → v ≡ V.Function f → is_well_formed v ≡ true → is_well_formed_function f ≡ true
function_in v f e h = sym (as_function f) ∙ sym (ap is_well_formed e) ∙ h

pub cons_heads : (n : Node) (heads : List Value) (rest : Value) (kept : ℕ) → n ≡ N.Cons kept heads rest → is_well_formed_node n ≡ true → are_well_formed heads ≡ true
cons_heads n heads rest kept e h = (cons_holds heads rest kept (sym (ap is_well_formed_node e) ∙ h)).0.each

pub cons_rest : (n : Node) (heads : List Value) (rest : Value) (kept : ℕ) → n ≡ N.Cons kept heads rest → is_well_formed_node n ≡ true → is_well_formed rest ≡ true
cons_rest n heads rest kept e h = (cons_holds heads rest kept (sym (ap is_well_formed_node e) ∙ h)).0.last

pub chunk_items : (n : Node) (items : List Value) (rest : Value) (kept : ℕ) → n ≡ N.Chunk kept items rest → is_well_formed_node n ≡ true → are_well_formed items ≡ true
chunk_items n items rest kept e h = (chunk_holds items rest kept (sym (ap is_well_formed_node e) ∙ h)).0.each

pub chunk_rest : (n : Node) (items : List Value) (rest : Value) (kept : ℕ) → n ≡ N.Chunk kept items rest → is_well_formed_node n ≡ true → is_well_formed rest ≡ true
chunk_rest n items rest kept e h = (chunk_holds items rest kept (sym (ap is_well_formed_node e) ∙ h)).0.last

pub vec_seq_items : (n : Node) (items : List Value) (at kept : ℕ) → n ≡ N.VecSeq kept items at → is_well_formed_node n ≡ true → are_well_formed items ≡ true
vec_seq_items n items at kept e h = (vec_seq_holds items at kept (sym (ap is_well_formed_node e) ∙ h)).1

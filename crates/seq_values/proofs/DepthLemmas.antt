-- A number that is kept is the depth of what keeps it.
use Rattle.std.proofs.Common.{◌≡◌, refl, sym, ap, ◌∙◌, ℕ, zero, suc, ◌+◌, ◌-◌, ◌≤◌, ◌<◌, max, List, [], ◌∷◌, length, take, drop, Bool, true, false, ◌&&◌, nat_eq, Some, slice_get, arith}
use Rattle.std.specs.Prelude.{IsTrue}
use Rattle.std.proofs.lemmas.Bool.{eqb-true, eq-eqb}
use Rattle.std.proofs.Math.Seq.{take-nil, drop-nil}
use Rattle.seq_values.specs.declared.value.Value.TheVariants as V
use Rattle.seq_values.specs.declared.value.Node.TheVariants as N
use Rattle.seq_values.specs.Layers.{Value, Node, FnValue}
use Rattle.seq_values.specs.Depth.{Grade, holding, depth, depth_of_node, depth_of_all, keeps_depth, node_keeps_depth, keep_depth}
use Rattle.seq_values.proofs.Rolls.{graded_vector, graded_reduced, graded_as_node, graded_as_function, graded_fn, graded_cons, graded_chunk, graded_vec_seq}

pub and_parts : (a b : Bool) → (a && b) ≡ true → (a ≡ true) × (b ≡ true)
and_parts true b h = (refl, h)
and_parts false b h = absurd (cc h)

pub both : (a b : Bool) → a ≡ true → b ≡ true → (a && b) ≡ true
both true b p q = q
both false b p q = absurd (cc p)

pub is_kept : (g : Grade) (inside : ℕ) (right : Bool) (kept : ℕ) → g ≡ holding inside right kept → g.right ≡ true → kept ≡ g.depth
is_kept g inside right kept e h = eqb-true kept (inside + 1) (and_parts right (nat_eq kept (inside + 1)) (sym (ap (λ x. x.right) e) ∙ h)).1 ∙ sym (ap (λ x. x.depth) e)

-- ## One layer

pub vector_depth : (items : List Value) (kept : ℕ) → IsTrue (keeps_depth (V.Vector kept items)) → kept ≡ depth (V.Vector kept items)
vector_depth items kept h = is_kept _ _ _ kept (graded_vector items kept) h

pub reduced_depth : (held : Value) (kept : ℕ) → IsTrue (keeps_depth (V.Reduced kept held)) → kept ≡ depth (V.Reduced kept held)
reduced_depth held kept h = is_kept _ _ _ kept (graded_reduced held kept) h

pub node_keeps : (n : Node) → IsTrue (keeps_depth (V.Node n)) → IsTrue (node_keeps_depth n)
node_keeps n h = sym (ap (λ g. g.right) (graded_as_node n)) ∙ h

pub node_as_value : (n : Node) → depth_of_node n ≡ depth (V.Node n)
node_as_value n = sym (ap (λ g. g.depth) (graded_as_node n))

pub function_depth : (f : FnValue) → IsTrue (keeps_depth (V.Function f)) → f.depth ≡ depth (V.Function f)
function_depth f h = is_kept _ _ _ f.depth (graded_as_function f ∙ graded_fn f) h

pub cons_depth : (heads : List Value) (rest : Value) (kept : ℕ) → IsTrue (node_keeps_depth (N.Cons kept heads rest)) → kept ≡ depth_of_node (N.Cons kept heads rest)
cons_depth heads rest kept h = is_kept _ _ _ kept (graded_cons heads rest kept) h

pub chunk_depth : (items : List Value) (rest : Value) (kept : ℕ) → IsTrue (node_keeps_depth (N.Chunk kept items rest)) → kept ≡ depth_of_node (N.Chunk kept items rest)
chunk_depth items rest kept h = is_kept _ _ _ kept (graded_chunk items rest kept) h

pub vec_seq_depth : (items : List Value) (at kept : ℕ) → IsTrue (node_keeps_depth (N.VecSeq kept items at)) → kept ≡ depth_of_node (N.VecSeq kept items at)
vec_seq_depth items at kept h = is_kept _ _ _ kept (graded_vec_seq items at kept) h

-- ## How deep what holds others is, whatever it keeps

pub vector_is_deep : (items : List Value) (kept : ℕ) → depth (V.Vector kept items) ≡ depth_of_all items + 1
vector_is_deep items kept = ap (λ g. g.depth) (graded_vector items kept)

pub reduced_is_deep : (held : Value) (kept : ℕ) → depth (V.Reduced kept held) ≡ depth held + 1
reduced_is_deep held kept = ap (λ g. g.depth) (graded_reduced held kept)

pub reduced_keeps : (held : Value) (kept : ℕ) → IsTrue (keeps_depth held) → kept ≡ depth held + 1 → IsTrue (keeps_depth (V.Reduced kept held))
reduced_keeps held kept h e = ap (λ g. g.right) (graded_reduced held kept) ∙ both _ _ h (eq-eqb kept (depth held + 1) e)

-- ## Items, one after the other

some_is : (x y : Value) → Some x ≡ Some y → x ≡ y
some_is x y e = cc e

pub item_keeps : (items : List Value) (at : ℕ) (item : Value) → Some item ≡ slice_get items at → IsTrue (keep_depth items) → IsTrue (keeps_depth item)
item_keeps [] at item e h = absurd (cc e)
item_keeps (v ∷ vs) zero item e h = ap keeps_depth (some_is item v e) ∙ (and_parts (keeps_depth v) (keep_depth vs) h).0
item_keeps (v ∷ vs) (suc at) item e h = item_keeps vs at item e (and_parts (keeps_depth v) (keep_depth vs) h).1

more_seen : (items : List Value) (n at : ℕ) (item : Value) → n ≡ at + 1 → Some item ≡ slice_get items at → max (depth_of_all (take at items)) (depth item) ≡ depth_of_all (take n items)
more_seen [] n at item q e = absurd (cc e)
more_seen (v ∷ vs) zero at item q e = absurd (omega (arith, q))
more_seen (v ∷ vs) (suc n) zero item q e = let n_is : n ≡ 0 = omega (arith, q) in omega (arith, ap depth (some_is item v e), ap (λ k. depth_of_all (take k vs)) n_is)
more_seen (v ∷ vs) (suc n) (suc at) item q e = omega (arith, more_seen vs n at item (omega (arith, q)) e)

pub one_more_seen : (items : List Value) (at : ℕ) (item : Value) → Some item ≡ slice_get items at → max (depth_of_all (take at items)) (depth item) ≡ depth_of_all (take (at + 1) items)
one_more_seen items at item e = more_seen items (at + 1) at item refl e

pub seen_within : (items : List Value) (at : ℕ) → depth_of_all (take at items) ≤ depth_of_all items
seen_within [] at = omega (arith, ap depth_of_all (take-nil {A = Value} at))
seen_within (v ∷ vs) zero = omega arith
seen_within (v ∷ vs) (suc at) = omega (arith, seen_within vs at)

-- from the last on
more_behind : (items : List Value) (n at : ℕ) (item : Value) → n ≡ at + 1 → Some item ≡ slice_get items at → max (depth_of_all (drop n items)) (depth item) ≡ depth_of_all (drop at items)
more_behind [] n at item q e = absurd (cc e)
more_behind (v ∷ vs) zero at item q e = absurd (omega (arith, q))
more_behind (v ∷ vs) (suc n) zero item q e = let n_is : n ≡ 0 = omega (arith, q) in omega (arith, ap depth (some_is item v e), ap (λ k. depth_of_all (drop k vs)) n_is)
more_behind (v ∷ vs) (suc n) (suc at) item q e = more_behind vs n at item (omega (arith, q)) e

pub behind_within : (items : List Value) (at : ℕ) → depth_of_all (drop at items) ≤ depth_of_all items
behind_within [] at = omega (arith, ap depth_of_all (drop-nil {A = Value} at))
behind_within (v ∷ vs) zero = omega arith
behind_within (v ∷ vs) (suc at) = omega (arith, behind_within vs at)

pub last_more : (items : List Value) (count done found : ℕ) (item : Value) → count ≡ length items → done < count → Some item ≡ slice_get items (count - 1 - done)
    → found ≡ depth_of_all (drop (length items - done) items) → max found (depth item) ≡ depth_of_all (drop (length items - (done + 1)) items)
last_more items count done found item c lt e f =
    let before : length items - done ≡ count - 1 - done + 1 = omega (arith, c, lt) in
    let after : length items - (done + 1) ≡ count - 1 - done = omega (arith, c, lt) in
    ap (λ n. max n (depth item)) (f ∙ ap (λ k. depth_of_all (drop k items)) before) ∙ more_behind items (count - 1 - done + 1) (count - 1 - done) item refl e ∙ sym (ap (λ k. depth_of_all (drop k items)) after)

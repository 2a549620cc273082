-- What `seq` finds of a node and of a vector.
use Rattle.std.proofs.Common.{◌≡◌, ℕ, ◌<◌, ℤ, List, [], ◌∷◌, length, true, refl, ap, rules, arith}
use Rattle.std.specs.Prelude.{IsTrue, int_lt, cond}
use Rattle.seq_values.specs.Model as M
use Rattle.seq_values.specs.Model.{◌&◌}
use Rattle.seq_values.specs.Plain.{plain, plains}
use Rattle.seq_values.specs.WellFormed.{is_well_formed_node}
use Rattle.seq_values.specs.declared.value.Value.{Value}
use Rattle.seq_values.specs.declared.value.Value.TheVariants as V
use Rattle.seq_values.specs.declared.value.Node.TheVariants as N
use Rattle.seq_values.specs.declared.value.Node.TheFolds.{the_lemmas}
use Rattle.seq_values.proofs.WellFormedLemmas.{cons_holds, chunk_holds, vec_seq_holds, range_ends}
use Rattle.seq_plan.specs.Cursors.{own}
use Rattle.seq_plan.specs.Nodes.{now, found}
use Rattle.seq_plan.proofs.CursorLemmas.{own_cons, own_chunk, own_vec_seq, plain_cons, plain_chunk, plain_vec_seq}

-- ## A well-formed node has an element

pub cons_owns : (kept : ℕ) (hs : List Value) (r : Value) → IsTrue (is_well_formed_node (N.Cons kept hs r)) → 0 < own (plain (V.Node (N.Cons kept hs r)))
cons_owns kept hs r h = omega (arith, own_cons kept hs r, (cons_holds hs r kept h).0.some)

pub chunk_owns : (kept : ℕ) (xs : List Value) (r : Value) → IsTrue (is_well_formed_node (N.Chunk kept xs r)) → 0 < own (plain (V.Node (N.Chunk kept xs r)))
chunk_owns kept xs r h = omega (arith, own_chunk kept xs r, (chunk_holds xs r kept h).0.some)

pub plain_range : (from at end : ℤ) → plain (V.Node (N.Range from at end)) ≡ M.range from at end
plain_range from at end = search (rules, the_lemmas)

pub range_owns : (from at end : ℤ) → IsTrue (is_well_formed_node (N.Range from at end)) → 0 < own (plain (V.Node (N.Range from at end)))
range_owns from at end h =
    let e : int_lt at end ≡ true = range_ends from at end h in
    let p : own (plain (V.Node (N.Range from at end))) ≡ cond (int_lt at end) 1 0 = ap own (plain_range from at end) in
    let q : ◌≡◌ {A = ℕ} (cond (int_lt at end) 1 0) 1 = ap (λ b. cond {A = ℕ} b 1 0) e in
    omega (arith, p, q)

pub vec_seq_owns : (kept : ℕ) (xs : List Value) (at : ℕ) → IsTrue (is_well_formed_node (N.VecSeq kept xs at)) → 0 < own (plain (V.Node (N.VecSeq kept xs at)))
vec_seq_owns kept xs at h = omega (arith, own_vec_seq kept xs at, (vec_seq_holds xs at kept h).0)

-- ## A node other than `()` is found itself

pub found_cons : (kept : ℕ) (hs : List Value) (r : Value) (s : M.Value ℕ) → s ≡ plain (V.Node (N.Cons kept hs r)) → found (plain (V.Node (N.Cons kept hs r))) ≡ now s
found_cons kept hs r s e = rw (e, plain_cons kept hs r) refl

pub found_chunk : (kept : ℕ) (xs : List Value) (r : Value) (s : M.Value ℕ) → s ≡ plain (V.Node (N.Chunk kept xs r)) → found (plain (V.Node (N.Chunk kept xs r))) ≡ now s
found_chunk kept xs r s e = rw (e, plain_chunk kept xs r) refl

pub found_range : (from at end : ℤ) (s : M.Value ℕ) → s ≡ plain (V.Node (N.Range from at end)) → found (plain (V.Node (N.Range from at end))) ≡ now s
found_range from at end s e = rw (e, plain_range from at end) refl

pub found_vec_seq : (kept : ℕ) (xs : List Value) (at : ℕ) (s : M.Value ℕ) → s ≡ plain (V.Node (N.VecSeq kept xs at)) → found (plain (V.Node (N.VecSeq kept xs at))) ≡ now s
found_vec_seq kept xs at s e = rw (e, plain_vec_seq kept xs at) refl

-- ## A vector

pub plain_vector : (kept : ℕ) (xs : List Value) → plain (V.Vector kept xs) ≡ M.vector (M.values (plains xs))
plain_vector kept xs = search (rules, the_lemmas)

by_items : (xs : List Value) → 0 < length xs → found (M.vector (M.values (plains xs))) ≡ now (M.vec_seq (M.values (plains xs)) 0)
by_items [] b = absurd (omega arith)
by_items (x ∷ xs) b = refl

pub found_items : (kept : ℕ) (xs : List Value) (s : M.Value ℕ) → 0 < length xs → s ≡ plain (V.Node (N.VecSeq kept xs 0)) → found (plain (V.Vector kept xs)) ≡ now s
found_items kept xs s b e = rw (e, plain_vec_seq kept xs 0, plain_vector kept xs) (by_items xs b)

pub found_none : (kept : ℕ) (xs : List Value) → length xs ≡ 0 → found (plain (V.Vector kept xs)) ≡ now M.nil
found_none kept [] b = rw (plain_vector kept []) refl
found_none kept (x ∷ xs) b = absurd cc

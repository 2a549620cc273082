-- Where the first chunk of a node ends.
use Rattle.std.proofs.Common.{◌≡◌, ℕ, zero, suc, ◌+◌, ◌-◌, ◌*◌, ◌/◌, ◌%◌, ◌<◌, ◌≤◌, min, nat_lt, ℤ, pos, negsuc, ◌+ℤ◌, ◌-ℤ◌, ◌*ℤ◌, ◌<ℤ◌, ◌≤ℤ◌, int_lt, int_le, int_div, unsigned_abs, Bool, true, false, cond, List, [], ◌∷◌, ◌++◌, length, take, drop, Some, refl, ap, sym, subst, ◌∙◌, arith}
use Rattle.std.specs.Prelude.{IsTrue, IsSome}
use Rattle.std.proofs.lemmas.Bool.{lt-ltb, le-ltb}
use Rattle.std.proofs.lemmas.Int.{ints}
use Rattle.std.proofs.lemmas.List.{take-map, drop-map}
use Rattle.std.proofs.Math.Nat.{div-add-mod}
use Rattle.seq_values.specs.Model as M
use Rattle.seq_values.specs.Plain.{plain, plains}
use Rattle.seq_values.specs.WellFormed.{are_well_formed, is_well_formed_node}
use Rattle.seq_values.specs.declared.value.Value.{Value}
use Rattle.seq_values.specs.declared.value.Value.TheVariants as V
use Rattle.seq_values.specs.declared.value.Node.TheVariants as N
use Rattle.seq_values.proofs.WellFormedLemmas.{well_front, well_back, vec_seq_holds}
use Rattle.seq_plan.specs.Nodes.{chunk_of, range_at, range_count, range_stop, vector_at, vector_stop, ints_from}
use Rattle.seq_plan.proofs.CursorLemmas.{plain_cons, plain_chunk, plain_vec_seq, plain_empty, list_values, length_values}
use Rattle.seq_turns.proofs.Seeing.{plain_range}

-- ## Of which nodes

pub no_chunk_of_empty : (size : ℕ) → IsSome (chunk_of size (plain (V.Node N.Empty))) → ⊥
no_chunk_of_empty size h =
    let k : false ≡ true = subst (λ v. IsSome (chunk_of size v)) plain_empty h in
    absurd cc

pub no_chunk_of_cons : (size kept : ℕ) (hs : List Value) (r : Value) → IsSome (chunk_of size (plain (V.Node (N.Cons kept hs r)))) → ⊥
no_chunk_of_cons size kept hs r h =
    let k : false ≡ true = subst (λ v. IsSome (chunk_of size v)) (plain_cons kept hs r) h in
    absurd cc

-- of the same value
pub chunked_as : (size : ℕ) (v w : M.Value ℕ) → v ≡ w → IsSome (chunk_of size w) → IsSome (chunk_of size v)
chunked_as size v w e h = subst (λ x. IsSome (chunk_of size x)) (sym e) h

-- ## A chunk

pub of_chunk : (size kept : ℕ) (xs : List Value) (r : Value) (w : M.Value ℕ) → w ≡ plain r → Some (plains xs, w) ≡ chunk_of size (plain (V.Node (N.Chunk kept xs r)))
of_chunk size kept xs r w e = rw (plain_chunk kept xs r, e, list_values (plains xs)) refl

-- ## Ranges

-- a number that isn't below 0
not_below : (z : ℤ) → int_le (pos 0) z ≡ true → z ≡ pos (unsigned_abs z)
not_below (pos n) h = refl
not_below (negsuc n) h = absurd cc

-- what is between two
between : (a b : ℤ) → int_le a b ≡ true → b -ℤ a ≡ pos (unsigned_abs (b -ℤ a))
between a b h = not_below (b -ℤ a) (grind (arith, ints))

next_multiple : (size d : ℕ) → 0 < size → size * (d / size + 1) ≡ d + (size - d % size)
next_multiple size d b = omega (arith, div-add-mod d size)

-- the numbers from `from` to `at`, and from there to the end
module _ (size : ℕ) (from at end : ℤ) (some : 0 < size) (begun : int_le from at ≡ true) (within : at <ℤ end) where
  abbrev done : ℕ
  done = unsigned_abs (at -ℤ from)

  abbrev left : ℕ
  left = unsigned_abs (end -ℤ at)

  abbrev next : ℕ
  next = size - done % size

  next_from : from +ℤ (pos size *ℤ (int_div (at -ℤ from) (pos size) +ℤ pos 1)) ≡ at +ℤ pos next
  next_from =
      let d : at -ℤ from ≡ pos done = between from at begun in
      let m : pos (size * (done / size + 1)) ≡ pos (done + next) = ap pos (next_multiple size done some) in
      ap (λ z. from +ℤ (pos size *ℤ (int_div z (pos size) +ℤ pos 1))) d ∙ ap (λ z. from +ℤ z) m ∙ grind (arith, ints)

  stop_by : (b : Bool) → int_lt (at +ℤ pos next) end ≡ b → cond (int_lt (at +ℤ pos next) end) (at +ℤ pos next) end ≡ at +ℤ pos (min next left)
  stop_by true e =
      let l : end -ℤ at ≡ pos left = between at end (grind (arith, ints)) in
      let m : min next left ≡ next = grind (arith, ints) in
      rw (e, m) refl
  stop_by false e =
      let l : end -ℤ at ≡ pos left = between at end (grind (arith, ints)) in
      let m : min next left ≡ left = grind (arith, ints) in
      rw (e, m) (grind (arith, ints))

  stopped : range_stop size from at end ≡ at +ℤ pos (min next left)
  stopped = ap (λ z. cond (int_lt z end) z end) next_from ∙ stop_by (int_lt (at +ℤ pos next) end) refl

  counted : range_count size from at end ≡ min next left
  counted =
      let e : int_lt at end ≡ true = grind (arith, ints) in
      rw (e, stopped) (grind (arith, ints))

  bounded : (at +ℤ pos (min next left)) ≤ℤ end
  bounded =
      let l : end -ℤ at ≡ pos left = between at end (grind (arith, ints)) in
      grind (arith, ints)

  pub range_counted : (n : ℕ) → n ≡ min next left → n ≡ range_count size from at end
  range_counted n e = e ∙ sym counted

  pub range_stopped : (n : ℕ) → n ≡ min next left → at +ℤ pos n ≡ range_stop size from at end
  range_stopped n e = ap (λ k. at +ℤ pos k) e ∙ sym stopped

  pub range_within : (n : ℕ) → n ≡ min next left → (at +ℤ pos n) ≤ℤ end
  range_within n e = subst (λ k. (at +ℤ pos k) ≤ℤ end) (sym e) bounded

pub ints_more : (at : ℤ) (n : ℕ) (x : M.Value ℕ) → x ≡ M.int (at +ℤ pos n) → ints_from at (n + 1) ≡ ints_from at n ++ x ∷ []
ints_more at zero x e =
    let z : at +ℤ pos 0 ≡ at = grind (arith, ints) in
    ap (λ y. y ∷ []) (sym (e ∙ ap M.int z))
ints_more at (suc n) x e =
    let s : suc n + 1 ≡ suc (n + 1) = omega arith in
    let z : at +ℤ pos (suc n) ≡ (at +ℤ pos 1) +ℤ pos n = grind (arith, ints) in
    rw s (ap (λ ys. M.int at ∷ ys) (ints_more (at +ℤ pos 1) n x (e ∙ ap M.int z)))

pub range_goes_on : (from at end : ℤ) → at <ℤ end → plain (V.Node (N.Range from at end)) ≡ range_at from at end
range_goes_on from at end h =
    let e : int_lt at end ≡ true = grind (arith, ints) in
    rw (plain_range from at end, e) refl

pub range_is_over : (from at end : ℤ) (v : M.Value ℕ) → end ≤ℤ at → v ≡ M.empty → v ≡ range_at from at end
range_is_over from at end v h e =
    let f : int_lt at end ≡ false = grind (arith, ints) in
    rw f e

pub begun_on : (from at : ℤ) (n : ℕ) (stop : ℤ) → int_le from at ≡ true → stop ≡ at +ℤ pos n → int_le from stop ≡ true
begun_on from at n stop h e = grind (arith, ints)

pub of_range : (size count : ℕ) (from at end f a e : ℤ) (xs : List (M.Value ℕ)) (r : M.Value ℕ) → f ≡ from → a ≡ at → e ≡ end → count ≡ range_count size f a e → a +ℤ pos count ≡ range_stop size f a e → xs ≡ ints_from a count → r ≡ range_at f (a +ℤ pos count) e → Some (xs, r) ≡ chunk_of size (plain (V.Node (N.Range from at end)))
of_range size count from at end f a e xs r pf pa pe c s x h =
    let items : xs ≡ ints_from a (range_count size f a e) = x ∙ ap (λ n. ints_from {C = ℕ} a n) c in
    let rest : r ≡ range_at f (range_stop size f a e) e = h ∙ ap (λ z. range_at f z e) s in
    let here : Some (xs, r) ≡ chunk_of size (M.range f a e) = λ i. Some (items i, rest i) in
    here ∙ (λ i. chunk_of size (M.range (pf i) (pa i) (pe i))) ∙ ap (chunk_of size) (sym (plain_range from at end))

-- ## Vectors

pub vector_stopped : (size at end n : ℕ) → 0 < size → n ≡ min (at + (size - at % size)) end → n ≡ vector_stop size at end
vector_stopped size at end n b e = e ∙ ap (λ m. min m end) (sym (next_multiple size at b))

pub part_well : (xs : List Value) (from count : ℕ) (ys : List Value) → ys ≡ take count (drop from xs) → IsTrue (are_well_formed xs) → IsTrue (are_well_formed ys)
part_well xs from count ys e h = subst (λ zs. IsTrue (are_well_formed zs)) (sym e) (well_front (drop from xs) count (well_back xs from h))

pub vector_goes_on : (kept : ℕ) (xs : List Value) (at : ℕ) → at < length xs → plain (V.Node (N.VecSeq kept xs at)) ≡ vector_at (M.values (plains xs)) at
vector_goes_on kept xs at h =
    let l : nat_lt at (length (M.list (M.values (plains xs)))) ≡ true = lt-ltb _ _ (rw (length_values xs) h) in
    rw (plain_vec_seq kept xs at, l) refl

pub vector_is_over : (xs : List Value) (at : ℕ) (v : M.Value ℕ) → length xs ≤ at → v ≡ M.empty → v ≡ vector_at (M.values (plains xs)) at
vector_is_over xs at v h e =
    let l : nat_lt at (length (M.list (M.values (plains xs)))) ≡ false = le-ltb _ _ (rw (length_values xs) h) in
    rw l e

pub vector_stands : (kept : ℕ) (xs : List Value) (at : ℕ) → IsTrue (is_well_formed_node (N.VecSeq kept xs at)) → at < length xs
vector_stands kept xs at h = (vec_seq_holds xs at kept h).0

pub of_vector : (size kept : ℕ) (xs : List Value) (at stop : ℕ) (ys : List Value) (r : M.Value ℕ) → stop ≡ vector_stop size at (length xs) → ys ≡ take (stop - at) (drop at xs) → r ≡ vector_at (M.values (plains xs)) stop → Some (plains ys, r) ≡ chunk_of size (plain (V.Node (N.VecSeq kept xs at)))
of_vector size kept xs at stop ys r s e h =
    let l : plains xs ≡ M.list (M.values (plains xs)) = sym (list_values (plains xs)) in
    let n : stop ≡ vector_stop size at (length (M.list (M.values (plains xs)))) = s ∙ ap (vector_stop size at) (sym (length_values xs)) in
    let p : plains ys ≡ take (stop - at) (drop at (plains xs)) = ap plains e ∙ sym (take-map plain (stop - at) (drop at xs)) ∙ ap (take (stop - at)) (sym (drop-map plain at xs)) in
    rw (plain_vec_seq kept xs at) (λ i. Some ((p ∙ (λ j. take (n j - at) (drop at (l j)))) i, (h ∙ ap (vector_at (M.values (plains xs))) n) i))

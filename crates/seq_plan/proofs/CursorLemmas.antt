-- Firsts and rests of nodes of which some elements are done.
use Rattle.std.proofs.Common.{◌≡◌, ℕ, zero, suc, ◌+◌, ◌-◌, ◌<◌, ◌≤◌, ℤ, pos, ◌+ℤ◌, List, [], ◌∷◌, length, take, drop, Some, slice_get, nat_lt, true, false, refl, ap, sym, ◌∙◌, rules, arith}
use Rattle.std.proofs.lemmas.Bool.{lt-ltb, le-ltb}
use Rattle.std.proofs.lemmas.List.{length-map}
use Rattle.seq_values.specs.Model as M
use Rattle.seq_values.specs.Model.{◌&◌}
use Rattle.seq_values.specs.Plain.{plain, plains}
use Rattle.seq_values.specs.declared.value.Value.{Value}
use Rattle.seq_values.specs.declared.value.Value.TheVariants as V
use Rattle.seq_values.specs.declared.value.Node.TheVariants as N
use Rattle.seq_values.specs.declared.value.Node.TheFolds.{the_lemmas}
use Rattle.seq_plan.specs.Nodes.{last_or, all_but_last, value_at, or_empty, first_of, rest_of, range_at}
use Rattle.seq_plan.specs.declared.cursor.Cursor.{Cursor}
use Rattle.seq_plan.specs.declared.cursor.Cursor.TheVariants as C
use Rattle.seq_plan.specs.Cursors.{heads_stand, items_stand, range_stand, vector_stand, own, stands, IsFound}

-- ## What nodes stand for

pub plain_cons : (kept : ℕ) (hs : List Value) (r : Value) → plain (V.Node (N.Cons kept hs r)) ≡ M.cons (M.values (plains hs)) (plain r)
plain_cons kept hs r = search (rules, the_lemmas)

pub plain_chunk : (kept : ℕ) (xs : List Value) (r : Value) → plain (V.Node (N.Chunk kept xs r)) ≡ M.chunk (M.values (plains xs)) (plain r)
plain_chunk kept xs r = search (rules, the_lemmas)

pub plain_vec_seq : (kept : ℕ) (xs : List Value) (at : ℕ) → plain (V.Node (N.VecSeq kept xs at)) ≡ M.vec_seq (M.values (plains xs)) at
plain_vec_seq kept xs at = search (rules, the_lemmas)

pub list_values : {C : Type 0} (xs : List (M.Value C)) → M.list (M.values xs) ≡ xs
list_values [] = refl
list_values (x ∷ xs) = ap (λ l. x ∷ l) (list_values xs)

pub length_values : (xs : List Value) → length (M.list (M.values (plains xs))) ≡ length xs
length_values xs = ap length (list_values (plains xs)) ∙ length-map xs plain

pub own_cons : (kept : ℕ) (hs : List Value) (r : Value) → own (plain (V.Node (N.Cons kept hs r))) ≡ length hs
own_cons kept hs r = ap own (plain_cons kept hs r) ∙ length_values hs

pub own_chunk : (kept : ℕ) (xs : List Value) (r : Value) → own (plain (V.Node (N.Chunk kept xs r))) ≡ length xs
own_chunk kept xs r = ap own (plain_chunk kept xs r) ∙ length_values xs

pub own_vec_seq : (kept : ℕ) (xs : List Value) (at : ℕ) → own (plain (V.Node (N.VecSeq kept xs at))) ≡ length xs - at
own_vec_seq kept xs at = ap own (plain_vec_seq kept xs at) ∙ ap (λ n. n - at) (length_values xs)

-- ## Heads

last_take : (h : Value) (t : List Value) (l : ℕ) (x : Value) → slice_get (h ∷ t) l ≡ Some x → last_or (plain h) (M.values (plains (take l t))) ≡ plain x
last_take h t zero x p = ap plain (cc)
last_take h [] (suc l) x p = absurd cc
last_take h (y ∷ t) (suc l) x p = last_take y t l x p

pub first_heads : (hs : List Value) (left : ℕ) (r x : Value) → 0 < left → Some x ≡ slice_get hs (left - 1) → plain x ≡ first_of (heads_stand hs left r)
first_heads hs zero r x b p = absurd (omega arith)
first_heads [] (suc l) r x b p = absurd cc
first_heads (h ∷ t) (suc l) r x b p =
    let e : suc l - 1 ≡ l = omega arith in
    let q : slice_get (h ∷ t) l ≡ Some x = sym (p ∙ ap (slice_get (h ∷ t)) e) in
    sym (last_take h t l x q)

but_last_take : (h : Value) (t : List Value) (l : ℕ) → l ≤ length t → all_but_last (plain h) (M.values (plains (take l t))) ≡ M.values (plains (take l (h ∷ t)))
but_last_take h t zero b = refl
but_last_take h [] (suc l) b = absurd (omega arith)
but_last_take h (y ∷ t) (suc l) b = ap (λ ys. plain h & ys) (but_last_take y t l (omega arith))

pub rest_last_head : (hs : List Value) (r : Value) → 0 < length hs → rest_of (heads_stand hs 1 r) ≡ or_empty (plain r)
rest_last_head [] r b = absurd (omega arith)
rest_last_head (h ∷ t) r b = refl

pub rest_heads : (hs : List Value) (left : ℕ) (r : Value) → 1 < left → left ≤ length hs → rest_of (heads_stand hs left r) ≡ heads_stand hs (left - 1) r
rest_heads hs zero r b c = absurd (omega arith)
rest_heads hs (suc zero) r b c = absurd (omega arith)
rest_heads [] (suc (suc l)) r b c = absurd (omega arith)
rest_heads (h ∷ []) (suc (suc l)) r b c = absurd (omega arith)
rest_heads (h ∷ y ∷ t) (suc (suc l)) r b c =
    let e : suc (suc l) - 1 ≡ suc l = omega arith in
    rw (e, but_last_take h (y ∷ t) (suc l) (omega arith)) refl

-- ## Items

drop_at : (xs : List Value) (k : ℕ) (x : Value) → slice_get xs k ≡ Some x → drop k xs ≡ x ∷ drop (suc k) xs
drop_at [] k x p = absurd cc
drop_at (y ∷ xs) zero x p = ap (λ z. z ∷ xs) (cc)
drop_at (y ∷ xs) (suc k) x p = drop_at xs k x p

pub first_items : (xs : List Value) (k : ℕ) (r x : Value) → Some x ≡ slice_get xs k → plain x ≡ first_of (items_stand xs k r)
first_items xs k r x p = rw (drop_at xs k x (sym p)) refl

-- a member stands at each place below the length
member : (xs : List Value) (k : ℕ) → k < length xs → (x : Value) × (slice_get xs k ≡ Some x)
member [] k b = absurd (omega arith)
member (x ∷ xs) zero b = (x, refl)
member (x ∷ xs) (suc k) b = member xs k (omega arith)

drop_all : (xs : List Value) (k : ℕ) → length xs ≤ k → drop k xs ≡ []
drop_all [] zero b = refl
drop_all [] (suc k) b = refl
drop_all (x ∷ xs) zero b = absurd (omega arith)
drop_all (x ∷ xs) (suc k) b = drop_all xs k (omega arith)

pub rest_items : (xs : List Value) (k : ℕ) (r : Value) → k + 1 < length xs → rest_of (items_stand xs k r) ≡ items_stand xs (k + 1) r
rest_items xs k r b =
    let e : k + 1 ≡ suc k = omega arith in
    let x = member xs k (omega arith) in
    let y = member xs (suc k) (omega arith) in
    rw (e, drop_at xs k x.0 x.1, drop_at xs (suc k) y.0 y.1) refl

pub rest_last_item : (xs : List Value) (k : ℕ) (r : Value) → k < length xs → length xs ≤ k + 1 → rest_of (items_stand xs k r) ≡ plain r
rest_last_item xs k r b c =
    let x = member xs k b in
    rw (drop_at xs k x.0 x.1, drop_all xs (suc k) (omega arith)) refl

-- ## Vectors

value_plain : (xs : List Value) (k : ℕ) (x : Value) → slice_get xs k ≡ Some x → value_at (M.list (M.values (plains xs))) k ≡ plain x
value_plain [] k x p = absurd cc
value_plain (y ∷ xs) zero x p = ap plain (cc)
value_plain (y ∷ xs) (suc k) x p = value_plain xs k x p

pub first_vector : (xs : List Value) (k : ℕ) (x : Value) → Some x ≡ slice_get xs k → plain x ≡ first_of (vector_stand xs k)
first_vector xs k x p = sym (value_plain xs k x (sym p))

pub rest_vector : (xs : List Value) (k : ℕ) → k + 1 < length xs → rest_of (vector_stand xs k) ≡ vector_stand xs (k + 1)
rest_vector xs k b =
    let e : k + 1 ≡ suc k = omega arith in
    let h : nat_lt (suc k) (length (M.list (M.values (plains xs)))) ≡ true = lt-ltb _ _ (rw (length_values xs) (omega arith)) in
    rw (e, h) refl

pub rest_last_of_vector : (xs : List Value) (k : ℕ) → length xs ≤ k + 1 → rest_of (vector_stand xs k) ≡ M.empty
rest_last_of_vector xs k b =
    let h : nat_lt (suc k) (length (M.list (M.values (plains xs)))) ≡ false = le-ltb _ _ (rw (length_values xs) (omega arith)) in
    rw h refl

pub range_next : (from at end : ℤ) → rest_of (range_stand from at end) ≡ range_at from (at +ℤ pos 1) end
range_next from at end = refl

pub plain_empty : plain (V.Node N.Empty) ≡ M.empty
plain_empty = search (rules, the_lemmas)

pub cursor_found : (c : Cursor) → IsFound (stands c)
cursor_found (C.Heads h) = refl
cursor_found (C.Items i) = refl
cursor_found (C.Range r) = refl
cursor_found (C.Vector v) = found_vector v.items v.at
  where
    found_vector : (xs : List Value) (at : ℕ) → IsFound (vector_stand xs at)
    found_vector xs at = refl

-- What comes after an element, or after a chunk, may be the collection of a part; and terms of arguments that fit are well formed.
use Rattle.std.proofs.Common.{◌≡◌, ℕ, zero, suc, ◌+◌, ◌<◌, true, List, [], ◌∷◌, ◌++◌, length, drop, Option, Some, length-append, refl, ap, sym, subst, ◌∙◌, arith}
use Rattle.std.specs.Prelude.{IsTrue}
use Rattle.seq_values.specs.Model as M
use Rattle.seq_values.specs.Plain.{plains}
use Rattle.seq_values.specs.WellFormed.{is_well_formed, are_well_formed}
use Rattle.seq_values.specs.WellFormedTerms.{is_seq, is_sequence, takes, is_well_formed_term}
use Rattle.seq_values.specs.declared.term.Term.{Term}
use Rattle.seq_values.specs.declared.value.Value.{Value}
use Rattle.seq_values.proofs.WellFormedLemmas.{list_keeps}
use Rattle.seq_plan.specs.Nodes.{rest_of, chunk_of}
use Rattle.seq_plan.specs.Cursors.{stands}
use Rattle.seq_plan.specs.WellFormed.{sight, sights, WellList, well_end, well_item, well_term}
use Rattle.seq_plan.specs.declared.cursor.Cursor.{Cursor}
use Rattle.seq_plan.specs.declared.cursor.Cursor.TheVariants as C
use Rattle.seq_plan.proofs.FitLemmas.{first_of_both, second_of_both}
use Rattle.seq_plan.proofs.WellNodes.{WellChunk, well_unchunked, well_chunked, well-chunk_of, rest_is_sequence}
use Rattle.seq_plan.proofs.WellValues.{well_formed, formed_term}
use Rattle.seq_turns.specs.Seen.{seen}
use Rattle.seq_turns.specs.declared.places.Seen.{Seen}
use Rattle.seq_turns.specs.declared.places.Seen.TheVariants as S
use Rattle.seq_turns.proofs.Standing.{stands_well}

-- what comes after an element
pub rest_sequence : (c : Cursor) (v : M.Value ℕ) → v ≡ rest_of (stands c) → IsTrue (is_sequence (sight v))
rest_sequence c v e = subst (λ x. is_sequence (sight x) ≡ true) (sym e) (rest_is_sequence (stands_well c))

-- a part
pub part_sequence : (v : M.Value ℕ) (m : ℕ) → v ≡ M.cell m → IsTrue (is_sequence (sight v))
part_sequence v m e = rw e refl

-- what comes after a chunk
pub chunk_rest : (size : ℕ) (c : Cursor) (xs : List (M.Value ℕ)) (r : M.Value ℕ) → chunk_of size (stands c) ≡ Some (xs, r) → IsTrue (is_sequence (sight r))
chunk_rest size c xs r e = by (well-chunk_of size (stands_well c)) e
  where
    by : {o : Option (List (M.Value ℕ) × M.Value ℕ)} → WellChunk o → o ≡ Some (xs, r) → is_sequence (sight r) ≡ true
    by well_unchunked q = absurd cc
    by (well_chunked {xs = ys} {r = s} k l i) q = let p : ◌≡◌ {A = List (M.Value ℕ) × M.Value ℕ} (ys, s) (xs, r) = cc in subst (λ z. is_sequence (sight z) ≡ true) (ap (λ z. z.1) p) i

-- what `seq` gives
stands_seq : (c : Cursor) → is_seq (sight (stands c)) ≡ true
stands_seq (C.Heads h) = refl
stands_seq (C.Items i) = refl
stands_seq (C.Range r) = refl
stands_seq (C.Vector v) = refl

seen_seq : (s : Seen) → is_seq (sight (seen s)) ≡ true
seen_seq S.Nil = refl
seen_seq (S.At c) = stands_seq c

pub seen_is_seq : (s : Seen) (v : M.Value ℕ) → v ≡ seen s → IsTrue (is_seq (sight v))
seen_is_seq s v e = subst (λ x. is_seq (sight x) ≡ true) (sym e) (seen_seq s)

-- ## Lists

pub longer : (xs ys : List Value) (x : Value) → ys ≡ xs ++ x ∷ [] → length ys ≡ length xs + 1
longer xs ys x e = ap length e ∙ length-append xs (x ∷ [])

pub some_left : (xs : List Value) (k : ℕ) (x : Value) (ys : List Value) → drop k xs ≡ x ∷ ys → k < length xs
some_left [] zero x ys e = absurd cc
some_left [] (suc k) x ys e = absurd cc
some_left (z ∷ xs) zero x ys e = omega arith
some_left (z ∷ xs) (suc k) x ys e = let h = some_left xs k x ys e in omega (arith, h)

-- ## Terms

list_formed : (vs : List Value) → are_well_formed vs ≡ true → WellList (plains vs)
list_formed [] e = well_end
list_formed (v ∷ vs) e = well_item (well_formed v (first_of_both _ _ e)) (list_formed vs (second_of_both (is_well_formed v) _ e))

pub term_is_well : (t : Term) → IsTrue (are_well_formed t.args) → takes t.op (sights (M.values (plains t.args))) ≡ true → IsTrue (is_well_formed_term t)
term_is_well t w e = formed_term t (list_keeps t.args w) (well_term (list_formed t.args w) e)

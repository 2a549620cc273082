-- A program's run ends in one way, with one text.
use Rattle.std.proofs.Common.{◌≡◌, ℕ, zero, suc, ◌<◌, ◌≤◌, Bool, List, [], ◌∷◌, length, Some, slice_get, refl, ap, subst, arith}
use Rattle.seq_values.specs.Model.{Value, gave}
use Rattle.clj_script.specs.Trees.{Program}
use Rattle.seq_plan.specs.Plan.{Rules}
use Rattle.seq_meaning.specs.Names.{Name}
use Rattle.seq_meaning.specs.Gives.{Gives}
use Rattle.seq_meaning.specs.Counts.{FormsFit}
use Rattle.seq_meaning.proofs.Once.{one_gives, one_before}
use Rattle.seq_table.specs.Fronts.{Front, front_nil, front_empty, front_vector, front_range, front_vec_seq, front_cons, front_chunk, front_behind, front_unrealised, front_no_list}
use Rattle.seq_table.specs.Outputs.{Ending, definitions, FrontLines, no_lines, line_of, no_line_of, Ledger, ledger_of, Line, line_of_def, line_of_defn, line_of_prn, line_of_failed_def, line_of_failed_prn, line_of_ledger, Output, no_output, one_more_line, DefThrows, def_throws, IsReached, Ran, ran_out, threw_at, ran_through}
use Rattle.seq_table.proofs.Sizes.{one_size}

pub data Order (a b : ℕ) : Type 0 where
  below : a < b → Order a b
  level : a ≡ b → Order a b
  above : b < a → Order a b

pub order : (a b : ℕ) → Order a b
order zero zero = level refl
order zero (suc b) = below (omega arith)
order (suc a) zero = above (omega arith)
order (suc a) (suc b) = elim (order a b) [ below h ↦ below (omega (arith, h)) | level h ↦ level (ap suc h) | above h ↦ above (omega (arith, h)) ]

pub in_range : {A : Type 0} (l : List A) (i : ℕ) {x : A} → slice_get l i ≡ Some x → i < length l
in_range [] i q = absurd cc
in_range (y ∷ l) zero q = omega arith
in_range (y ∷ l) (suc i) q = let h = in_range l i q in omega arith

module _ {C : Type 0} {R : C → Type 0} {S : C → Value C → Type 0} (one : (c : C) (v u : Value C) → S c v → S c u → v ≡ u) where
  one_front : {v : Value C} {n m : ℕ} {a b : Bool} → Front R S v n a → Front R S v m b → (n ≡ m) × (a ≡ b)
  one_front front_nil front_nil = (refl, refl)
  one_front front_nil (front_no_list h) = elim h [ ]
  one_front front_empty front_empty = (refl, refl)
  one_front front_empty (front_no_list h) = elim h [ ]
  one_front front_vector front_vector = (refl, refl)
  one_front front_vector (front_no_list h) = elim h [ ]
  one_front front_range front_range = (refl, refl)
  one_front front_range (front_no_list h) = elim h [ ]
  one_front front_vec_seq front_vec_seq = (refl, refl)
  one_front front_vec_seq (front_no_list h) = elim h [ ]
  one_front (front_cons f) (front_cons g) = let h = one_front f g in (rw h.0, h.1)
  one_front (front_cons f) (front_no_list h) = elim h [ ]
  one_front (front_chunk f) (front_chunk g) = let h = one_front f g in (rw h.0, h.1)
  one_front (front_chunk f) (front_no_list h) = elim h [ ]
  one_front (front_behind {v = v} {n = n} {ended = a} r s f) (front_behind {v = u} {n = m} {ended = b} r' s' g) = one_front f (subst (λ x. Front R S x m b) (one _ u v s' s) g)
  one_front (front_behind r s f) (front_unrealised n) = absurd (n r)
  one_front (front_behind r s f) (front_no_list h) = elim h [ ]
  one_front (front_unrealised n) (front_behind r s f) = absurd (n r)
  one_front (front_unrealised n) (front_unrealised m) = (refl, refl)
  one_front (front_unrealised n) (front_no_list h) = elim h [ ]
  one_front (front_no_list h) (front_no_list k) = (refl, refl)
  one_front (front_no_list h) front_nil = elim h [ ]
  one_front (front_no_list h) front_empty = elim h [ ]
  one_front (front_no_list h) front_vector = elim h [ ]
  one_front (front_no_list h) front_range = elim h [ ]
  one_front (front_no_list h) front_vec_seq = elim h [ ]
  one_front (front_no_list h) (front_cons f) = elim h [ ]
  one_front (front_no_list h) (front_chunk f) = elim h [ ]
  one_front (front_no_list h) (front_behind r s f) = elim h [ ]
  one_front (front_no_list h) (front_unrealised n) = elim h [ ]

module _ (rules : Rules Name) (program : Program) (limit : ℕ) where
  one_shown : (c : Name) (v u : Value Name) → Gives rules program limit c (gave v) → Gives rules program limit c (gave u) → v ≡ u
  one_shown c v u g h = let s = one_gives rules program limit g h in cc

  one_lines : {k : ℕ} {ps : List (List ℕ × Value Name)} {xs ys : List ℕ} → FrontLines rules program limit k ps xs → FrontLines rules program limit k ps ys → xs ≡ ys
  one_lines no_lines no_lines = refl
  one_lines (line_of p f l) (line_of q g m) =
      let h = one_front one_shown f g in
      let e = one_lines l m in
      rw (h.0, h.1, e)
  one_lines (line_of p f l) (no_line_of q m) = absurd cc
  one_lines (no_line_of p l) (line_of q g m) = absurd cc
  one_lines (no_line_of p l) (no_line_of q m) = one_lines l m

  one_ledger : {k : ℕ} {xs ys : List ℕ} → Ledger rules program limit k xs → Ledger rules program limit k ys → xs ≡ ys
  one_ledger {k = k} (ledger_of {defs = ds} {lines = xs} b l m r f) (ledger_of {defs = es} {lines = ys} b' l' m' r' f') =
      let e : es ≡ ds = one_before rules program limit b' b in
      let s : xs ≡ ys = one_lines l (subst (λ d. FrontLines rules program limit k (definitions program.names program.tops d) ys) e l') in
      let x = one_size m m' in
      let y = one_size r r' in
      let z = one_size f f' in
      rw (s, x, y, z)

  one_line : {k : ℕ} {xs ys : List ℕ} → Line rules program limit k xs → Line rules program limit k ys → xs ≡ ys
  one_line (line_of_def p g) (line_of_def q h) = refl
  one_line (line_of_def p g) (line_of_defn q) = absurd cc
  one_line (line_of_def p g) (line_of_prn q h) = absurd cc
  one_line (line_of_def p g) (line_of_failed_def q h) = let s = one_gives rules program limit g h in absurd cc
  one_line (line_of_def p g) (line_of_failed_prn q h) = absurd cc
  one_line (line_of_def p g) (line_of_ledger q h) = absurd cc
  one_line (line_of_defn p) (line_of_def q h) = absurd cc
  one_line (line_of_defn p) (line_of_defn q) = refl
  one_line (line_of_defn p) (line_of_prn q h) = absurd cc
  one_line (line_of_defn p) (line_of_failed_def q h) = absurd cc
  one_line (line_of_defn p) (line_of_failed_prn q h) = absurd cc
  one_line (line_of_defn p) (line_of_ledger q h) = absurd cc
  one_line (line_of_prn p g) (line_of_def q h) = absurd cc
  one_line (line_of_prn p g) (line_of_defn q) = absurd cc
  one_line (line_of_prn {bytes = b} p g) (line_of_prn {bytes = c} q h) = let s = one_gives rules program limit g h in let e : b ≡ c = cc in rw e
  one_line (line_of_prn p g) (line_of_failed_def q h) = absurd cc
  one_line (line_of_prn p g) (line_of_failed_prn q h) = let s = one_gives rules program limit g h in absurd cc
  one_line (line_of_prn p g) (line_of_ledger q h) = absurd cc
  one_line (line_of_failed_def p g) (line_of_def q h) = let s = one_gives rules program limit g h in absurd cc
  one_line (line_of_failed_def p g) (line_of_defn q) = absurd cc
  one_line (line_of_failed_def p g) (line_of_prn q h) = absurd cc
  one_line (line_of_failed_def {x = x} p g) (line_of_failed_def {x = y} q h) = let s = one_gives rules program limit g h in let e : x ≡ y = cc in rw e
  one_line (line_of_failed_def p g) (line_of_failed_prn q h) = absurd cc
  one_line (line_of_failed_def p g) (line_of_ledger q h) = absurd cc
  one_line (line_of_failed_prn p g) (line_of_def q h) = absurd cc
  one_line (line_of_failed_prn p g) (line_of_defn q) = absurd cc
  one_line (line_of_failed_prn p g) (line_of_prn q h) = let s = one_gives rules program limit g h in absurd cc
  one_line (line_of_failed_prn p g) (line_of_failed_def q h) = absurd cc
  one_line (line_of_failed_prn {x = x} p g) (line_of_failed_prn {x = y} q h) = let s = one_gives rules program limit g h in let e : x ≡ y = cc in rw e
  one_line (line_of_failed_prn p g) (line_of_ledger q h) = absurd cc
  one_line (line_of_ledger p g) (line_of_def q h) = absurd cc
  one_line (line_of_ledger p g) (line_of_defn q) = absurd cc
  one_line (line_of_ledger p g) (line_of_prn q h) = absurd cc
  one_line (line_of_ledger p g) (line_of_failed_def q h) = absurd cc
  one_line (line_of_ledger p g) (line_of_failed_prn q h) = absurd cc
  one_line (line_of_ledger p g) (line_of_ledger q h) = one_ledger g h

  pub one_output : {k : ℕ} {xs ys : List ℕ} → Output rules program limit k xs → Output rules program limit k ys → xs ≡ ys
  one_output no_output no_output = refl
  one_output (one_more_line o l) (one_more_line p m) = let a = one_output o p in let b = one_line l m in rw (a, b)

  -- the first form that ends the run decides
  pub throws_after : {k : ℕ} → DefThrows rules program limit k → (0 < k) × (k ≤ length program.tops)
  throws_after (def_throws {i = i} p q g) = let h = in_range program.tops i q in (omega arith, omega arith)

  module _ (cells : ℕ) where
    abbrev Over : ℕ → Type 0
    Over k = ¬ (FormsFit rules program limit cells k)

    fits_before : {k i : ℕ} → IsReached rules program limit cells k → 0 < i → i < k → ¬ (Over i)
    fits_before r h q o = o (r _ h q).0

    one_place : {j k : ℕ} → IsReached rules program limit cells (suc j) → IsReached rules program limit cells (suc k) → Over (suc j) → Over (suc k) → j ≡ k
    one_place {j = j} {k = k} r s o p = elim (order j k) [
      | below h ↦ absurd (fits_before s (omega arith) (omega (arith, h)) o)
      | level h ↦ h
      | above h ↦ absurd (fits_before r (omega arith) (omega (arith, h)) p)
    ]

    one_throw : {j k : ℕ} → IsReached rules program limit cells j → IsReached rules program limit cells k → DefThrows rules program limit j → DefThrows rules program limit k → j ≡ k
    one_throw {j = j} {k = k} r s d e = elim (order j k) [
      | below h ↦ absurd ((s j (throws_after d).0 h).1 d)
      | level h ↦ h
      | above h ↦ absurd ((r k (throws_after e).0 h).1 e)
    ]

    out_or_throw : {j k : ℕ} → IsReached rules program limit cells (suc j) → Over (suc j) → IsReached rules program limit cells k → FormsFit rules program limit cells k → ¬ (DefThrows rules program limit k)
    out_or_throw {j = j} {k = k} r o s f d = go (order (suc j) k)
      where
        go : Order (suc j) k → ⊥
        go (below h) = fits_before s (omega arith) h o
        go (level h) = (subst (λ i. Over i) h o) f
        go (above h) = (r k (throws_after d).0 h).1 d

    pub one_run : {a b : Ending} {xs ys : List ℕ} → Ran rules program limit cells a xs → Ran rules program limit cells b ys → (a ≡ b) × (xs ≡ ys)
    one_run (ran_out {k = j} l r o p) (ran_out {k = k} {bytes = ys} l' r' o' p') = let e : k ≡ j = one_place r' r o' o in (refl, one_output p (subst (λ i. Output rules program limit i ys) e p'))
    one_run (ran_out l r o p) (threw_at r' f d p') = absurd (out_or_throw r o r' f d)
    one_run (ran_out l r o p) (ran_through r' p') = absurd (fits_before r' (omega arith) (omega (arith, l)) o)
    one_run (threw_at r f d p) (ran_out l' r' o' p') = absurd (out_or_throw r' o' r f d)
    one_run (threw_at {k = j} r f d p) (threw_at {k = k} {bytes = ys} r' f' d' p') = let e : k ≡ j = one_throw r' r d' d in (refl, one_output p (subst (λ i. Output rules program limit i ys) e p'))
    one_run (threw_at {k = k} r f d p) (ran_through r' p') = let h = throws_after d in absurd ((r' k h.0 (omega (arith, h.1))).1 d)
    one_run (ran_through r p) (ran_out l' r' o' p') = absurd (fits_before r (omega arith) (omega (arith, l')) o')
    one_run (ran_through r p) (threw_at {k = k} r' f' d' p') = let h = throws_after d' in absurd ((r k h.0 (omega (arith, h.1))).1 d')
    one_run (ran_through r p) (ran_through r' p') = (refl, one_output p p')

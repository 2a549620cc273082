-- What was written so far is a prefix of what any run writes.
use Rattle.std.proofs.Common.{◌≡◌, ℕ, zero, suc, ◌+◌, ◌-◌, ◌<◌, ◌≤◌, List, [], ◌++◌, length, ap, sym, subst, append_assoc, append-nil, ◌∙◌, arith}
use Rattle.clj_script.specs.Trees.{Program}
use Rattle.seq_plan.specs.Plan.{Rules}
use Rattle.seq_meaning.specs.Counts.{FormsFit}
use Rattle.seq_meaning.specs.Names.{Name}
use Rattle.seq_table.specs.Outputs.{Ending, Line, line_of_def, line_of_defn, line_of_prn, line_of_failed_def, line_of_failed_prn, line_of_ledger, Output, no_output, one_more_line, IsReached, Ran, ran_out, threw_at, ran_through, RanPart, ran_part}
use Rattle.seq_table.proofs.OneRun.{one_output, throws_after, in_range, Order, below, level, above, order}

module _ (rules : Rules Name) (program : Program) (limit : ℕ) where
  abbrev BeginsSo : List ℕ → List ℕ → Type 0
  BeginsSo xs ys = (rest : List ℕ) × (ys ≡ xs ++ rest)

  extended : (d : ℕ) {k j : ℕ} {xs ys : List ℕ} → j ≡ d + k → Output rules program limit k xs → Output rules program limit j ys → BeginsSo xs ys
  extended zero {k = k} {j = j} {xs = xs} {ys = ys} e o p =
      let f : k ≡ j = omega (arith, e) in
      ([], one_output rules program limit p (subst (λ i. Output rules program limit i xs) f o) ∙ sym (append-nil xs))
  extended (suc d) {k = k} {xs = xs} e o (one_more_line {k = j} {so_far = so} {line = l} p m) =
      let h = extended d (go e) o p in (h.0 ++ l, ap (λ z. z ++ l) h.1 ∙ append_assoc xs h.0 l)
    where
      go : suc j ≡ suc d + k → j ≡ d + k
      go q = omega (arith, q)
  extended (suc d) {k = k} e o no_output = absurd (omega (arith, e))

  has_line : {k : ℕ} {l : List ℕ} → Line rules program limit (suc k) l → k < length program.tops
  has_line (line_of_def q g) = in_range program.tops _ q
  has_line (line_of_defn q) = in_range program.tops _ q
  has_line (line_of_prn q g) = in_range program.tops _ q
  has_line (line_of_failed_def q g) = in_range program.tops _ q
  has_line (line_of_failed_prn q g) = in_range program.tops _ q
  has_line (line_of_ledger q g) = in_range program.tops _ q

  no_longer : {k : ℕ} {xs : List ℕ} → Output rules program limit k xs → k ≤ length program.tops
  no_longer no_output = omega arith
  no_longer (one_more_line o l) = let h = has_line l in omega (arith, h)

  further : {k j : ℕ} {xs ys : List ℕ} → k ≤ j → Output rules program limit k xs → Output rules program limit j ys → BeginsSo xs ys
  further {k = k} {j = j} h o p = extended (j - k) {k = k} {j = j} e o p
    where
      e : j ≡ (j - k) + k
      e = omega (arith, h)

  -- where form k is reached and fits, the output up to it is a prefix of what any run writes
  output_of_run : {cells k : ℕ} {a : Ending} {xs ys : List ℕ} → IsReached rules program limit cells k → (0 < k → FormsFit rules program limit cells k) → Output rules program limit k xs → Ran rules program limit cells a ys → BeginsSo xs ys
  output_of_run {cells = cells} {k = k} {xs = xs} {ys = ys} r f o (ran_out {k = j} l r' n p) = go (order (suc j) k)
    where
      go : Order (suc j) k → BeginsSo xs ys
      go (below h) = absurd (n (r (suc j) (omega arith) h).0)
      go (level h) = absurd (n (subst (λ i. FormsFit rules program limit cells i) (sym h) (f (omega (arith, h)))))
      go (above h) = further (omega (arith, h)) o p
  output_of_run {cells = cells} {k = k} {xs = xs} {ys = ys} r f o (threw_at {k = j} r' f' d p) = go (order k j)
    where
      go : Order k j → BeginsSo xs ys
      go (below h) = further (omega (arith, h)) o p
      go (level h) = further (omega (arith, h)) o p
      go (above h) = absurd ((r j (throws_after rules program limit d).0 h).1 d)
  output_of_run r f o (ran_through r' p) = further (no_longer o) o p

  -- a prefix of it is one too
  pub part_of_run : {cells : ℕ} {a : Ending} {bytes ys : List ℕ} → RanPart rules program limit cells bytes → Ran rules program limit cells a ys → BeginsSo bytes ys
  part_of_run {bytes = bytes} (ran_part rest r f o e) run = let h = output_of_run r f o run in (rest ++ h.0, h.1 ∙ (ap (λ z. z ++ h.0) e ∙ append_assoc bytes rest h.0))

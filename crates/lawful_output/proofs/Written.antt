-- How far a run has come, and how it ends.
use Rattle.std.proofs.Common.{◌≡◌, ◌≢◌, ◌⊎◌, inl, inr, ℕ, zero, suc, true, List, [], ◌++◌, length, Some, slice_get, refl, ap, sym, subst, ◌∙◌, arith}
use Rattle.seq_base.specs.declared.thrown.Thrown.{Thrown}
use Rattle.clj_script.specs.Trees.{Expr, Top, def, Program}
use Rattle.seq_plan.specs.Plan.{Rules}
use Rattle.cell_book.specs.declared.cell.Cell.{Cell}
use Rattle.cell_book.specs.declared.cell.Attempt.{Attempt}
use Rattle.cell_book.specs.Account.{Account, new_book, cell_at}
use Rattle.cell_book.specs.Glimpses.{glimpse}
use Rattle.cell_book.proofs.Lists.{get_within, same_or}
use Rattle.seq_meaning.specs.Names.{Name}
use Rattle.seq_meaning.specs.Counts.{FormsFit}
use Rattle.seq_table.specs.Outputs.{error_line, done, def_threw, spent, Line, no_output, one_more_line, DefThrows, IsReached, Ran, ran_out, threw_at, ran_through, RanPart, ran_part}
use Rattle.seq_table.proofs.OneRun.{in_range}
use Rattle.seq_lawful.specs.Sites.{Site, ClaimAt, on_form, on_cell, FormDone}
use Rattle.seq_lawful.specs.Lawful.{Lawful}
use Rattle.seq_lawful.specs.Rest.{AtRest}
use Rattle.seq_lawful.specs.Runs.{MayBegin}
use Rattle.seq_lawful.proofs.New.{new_lawful}
use Rattle.seq_lawful.proofs.NextForm.{next_begins}
use Rattle.seq_lawful.proofs.RestAnswers.{spent_is_over}
use Rattle.lawful_output.specs.Progress.{HasThrown, IsDoneAt, Rested, Reached}
use Rattle.lawful_output.proofs.Ended.{line_of_thrown_def, def_throws_where, no_def_throws}

no_cell : (cells : ℕ) (i : ℕ) (p : Cell) → cell_at (new_book cells) i ≡ Some p → ⊥
no_cell cells zero p e = absurd cc
no_cell cells (suc i) p e = absurd cc

no_claim : (cells : ℕ) {s : Site} {x : Attempt} → ClaimAt (new_book cells) s x → ⊥
no_claim cells (on_form p e) = absurd cc
no_claim cells (on_cell {id = i} {p = p} e h) = no_cell cells i p e

new_rests : (cells : ℕ) → AtRest (new_book cells)
new_rests cells = record { all_over = λ s x h. absurd (no_claim cells h); no_empty_future = λ id p e k. absurd (no_cell cells id p e); not_spent = refl }

module _ (rules : Rules Name) (program : Program) (limit cells : ℕ) where
  pub over_where_spent : (a : Account) (k : ℕ) → Lawful rules program limit a → a.limit ≡ cells → length a.forms ≡ k → a.spent ≡ true → ¬ (FormsFit rules program limit cells k)
  over_where_spent a k law is long s = subst (λ c. ¬ (FormsFit rules program limit c k)) is (subst (λ j. ¬ (FormsFit rules program limit a.limit j)) long (law.spent_over s))

  pub fits_at_rest : (a : Account) (k : ℕ) → Rested rules program limit cells a k → FormsFit rules program limit cells k
  fits_at_rest a k r = subst (λ c. FormsFit rules program limit c k) r.limit_is (subst (λ j. FormsFit rules program limit a.limit j) r.so_many ((spent_is_over rules program limit a r.lawful).1 r.rests))

  pub reached_new : Reached rules program limit cells (new_book cells) 0 []
  reached_new = record {
    rested = record { lawful = new_lawful rules program limit cells; rests = new_rests cells; limit_is = refl; so_many = refl };
    done = λ i f e. absurd cc;
    all_fit = λ i h q. absurd (omega (arith, h, q));
    output = no_output;
  }

  pub next_may_begin : (numeric : Rules ℕ) (a : Account) (k : ℕ) (written : List ℕ) (t : Top) → Reached rules program limit cells a k written → slice_get program.tops k ≡ Some t → MayBegin numeric program limit (glimpse a) (suc k)
  next_may_begin numeric a k written t r top =
      let many = r.rested.so_many in
      subst (λ n. MayBegin numeric program limit (glimpse a) (suc n)) many
      (next_begins numeric rules program limit a r.rested.lawful r.rested.rests.not_spent (λ i f e q. r.done i f e) t (ap (slice_get program.tops) many ∙ top))

  module _ (b : Account) (k : ℕ) (rested : Rested rules program limit cells b (suc k)) where
    all_done : IsDoneAt program b k → (i : ℕ) → IsDoneAt program b i
    all_done last i f e = at (same_or i k)
      where
        at : (i ≡ k) ⊎ (i ≢ k) → FormDone program i f
        at (inl q) = subst (λ j. IsDoneAt program b j) (sym q) last f e
        at (inr n) =
            let h = in_range b.forms i e in
            let m = rested.so_many in
            rested.lawful.forms_done i f e (omega (arith, h, m, n))

    all_reached : IsDoneAt program b k → IsReached rules program limit cells (suc k) → IsReached rules program limit cells (suc (suc k))
    all_reached last before i h q = at (same_or i (suc k))
      where
        at : (i ≡ suc k) ⊎ (i ≢ suc k) → FormsFit rules program limit cells i × (¬ (DefThrows rules program limit i))
        at (inl e) = subst (λ j. FormsFit rules program limit cells j × (¬ (DefThrows rules program limit j))) (sym e) (fits_at_rest b (suc k) rested, no_def_throws rules program limit b rested.lawful k (let m = rested.so_many in omega (arith, m)) last)
        at (inr n) = before i h (omega (arith, q, n))

    pub reached_on : (a : Account) (written line : List ℕ) → Reached rules program limit cells a k written → IsDoneAt program b k → Line rules program limit (suc k) line → Reached rules program limit cells b (suc k) (written ++ line)
    reached_on a written line r last l = record {
      rested = rested;
      done = all_done last;
      all_fit = all_reached last r.all_fit;
      output = one_more_line r.output l;
    }

    pub threw : (a : Account) (written : List ℕ) → Reached rules program limit cells a k written → (name : ℕ) (e : Expr) (why : Thrown) → slice_get program.tops k ≡ Some (def name e) → HasThrown b k why → Ran rules program limit cells def_threw (written ++ error_line why)
    threw a written r name e why top h =
        threw_at r.all_fit (fits_at_rest b (suc k) rested) (def_throws_where rules program limit b rested.lawful k name e why top h)
        (one_more_line r.output (line_of_thrown_def rules program limit b rested.lawful k name e why top h))

    pub part_of_next : (a : Account) (written line part rest : List ℕ) → Reached rules program limit cells a k written → Line rules program limit (suc k) line → written ++ line ≡ part ++ rest → RanPart rules program limit cells part
    part_of_next a written line part rest r l e = ran_part rest r.all_fit (λ h. fits_at_rest b (suc k) rested) (one_more_line r.output l) e

  pub through : (a : Account) (k : ℕ) (written : List ℕ) → Reached rules program limit cells a k written → k ≡ length program.tops → Ran rules program limit cells done written
  through a k written r e = go k e r
    where
      go : (j : ℕ) → j ≡ length program.tops → Reached rules program limit cells a j written → Ran rules program limit cells done written
      go j q s =
          let w = subst (λ n. Reached rules program limit cells a n written) q s in
          ran_through w.all_fit w.output

  pub out : (a b : Account) (k : ℕ) (written : List ℕ) → Reached rules program limit cells a k written → Lawful rules program limit b → b.limit ≡ cells → length b.forms ≡ suc k → b.spent ≡ true → Ran rules program limit cells spent written
  out a b k written r law is long s =
      let f = get_within b.forms k (omega (arith, long)) in
      let t = law.forms_are k f.0 f.1 in
      ran_out (in_range program.tops k t.2) r.all_fit (over_where_spent b (suc k) law is long s) r.output

  pub part_of : (a : Account) (k : ℕ) (written part rest : List ℕ) → Reached rules program limit cells a k written → written ≡ part ++ rest → RanPart rules program limit cells part
  part_of a k written part rest r e = ran_part rest (λ i h q. r.all_fit i h (omega (arith, q))) (λ h. fits_at_rest a k r.rested) r.output e

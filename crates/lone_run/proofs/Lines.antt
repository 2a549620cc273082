-- The line of a form, by what stands at the top and what the form came to.
use Rattle.std.proofs.Common.{◌≡◌, ℕ, suc, ◌+◌, ◌<◌, ◌≤◌, ◌^◌, List, [], ◌∷◌, ◌++◌, length, Option, Some, None, slice_get, Ok, Err, refl, ap, sym, subst, ◌∙◌, arith}
use Rattle.std.specs.Prelude.{IfOk, Result}
use Rattle.seq_base.specs.declared.limits.Limits.{Limits}
use Rattle.seq_values.specs.declared.value.Value.{Value as Coded}
use Rattle.seq_values.specs.declared.value.Value.TheVariants as V
use Rattle.seq_values.specs.Model.{Value}
use Rattle.seq_values.specs.Plain.{plain, plains}
use Rattle.seq_values.specs.WellFormed.{is_well_formed}
use Rattle.seq_values.proofs.WellFormedLemmas.{within}
use Rattle.clj_script.specs.Trees.{Expr, Top, def, defn, prn, ledger, Program}
use Rattle.seq_plan.specs.Nodes.{depth}
use Rattle.seq_plan.proofs.Depths.{depth_agrees}
use Rattle.cell_book.specs.Account.{Account}
use Rattle.cell_book.specs.Counts.{totals_of}
use Rattle.cell_book.specs.Glimpses.{glimpse}
use Rattle.seq_meaning.proofs.Referring.{as_many}
use Rattle.seq_meaning.proofs.WellRuns.{well_given, well_part}
use Rattle.seq_table.specs.Coming.{RunsAreWell}
use Rattle.seq_table.specs.Outputs.{newline, error_line, Line, line_of_defn}
use Rattle.seq_table.specs.Table.{chunk_size, language}
use Rattle.seq_table.proofs.WellWhole.{keeps-rules_of}
use Rattle.seq_lawful.specs.Lawful.{Lawful}
use Rattle.seq_lawful.specs.Rest.{AtRest}
use Rattle.seq_lawful.specs.Runs.{IsBefore}
use Rattle.seq_lawful.specs.Sites.{own_name}
use Rattle.seq_lawful.proofs.Befores.{all_befores}
use Rattle.seq_lawful.proofs.Counted.{made_size, realised_size, failed_size}
use Rattle.seq_lawful.proofs.RestAnswers.{names, named, cell_gives}
use Rattle.seq_lawful.proofs.Sizes.{no_longer}
use Rattle.seq_ledger.specs.Ledgers.{of_defs, LedgerIn}
use Rattle.seq_ledger.specs.Walks.{ComesToEnd}
use Rattle.lawful_ledger.proofs.Ends.{ends}
use Rattle.lawful_ledger.proofs.Names.{ledger_line}
use Rattle.lawful_ledger.proofs.Shallow.{shallow}
use Rattle.lawful_output.specs.Progress.{HasGiven}
use Rattle.lawful_output.proofs.Ended.{line_of_text, line_of_value, line_of_thrown_def, line_of_thrown_prn, prn_gives_text}
use Rattle.lone_run.specs.declared.given.Given.{Given}
use Rattle.lone_run.specs.declared.given.Given.TheVariants as G
use Rattle.lone_run.specs.Running.{names_of}
use Rattle.lone_run.specs.Stages.{HasEnded, HasLine}
use Rattle.lone_run.specs.Writing.{bytes_of, def_text, prn_text, IsText}

-- ## The walks and the text of the ledger

runs_are_well : RunsAreWell
runs_are_well = λ processors program limit. (well_given (language processors) program limit (keeps-rules_of processors chunk_size), well_part (language processors) program limit (keeps-rules_of processors chunk_size))

walk_ends : (processors : ℕ) (program : Program) (limit : ℕ) (a : Account) → Lawful (language processors) program limit a → AtRest a → a.limit < 2 ^ 32 → (v : Value ℕ) → depth v ≤ 256 → ComesToEnd a v
walk_ends processors program limit a law rest small v deep =
    ends program.tops a (shallow runs_are_well (λ rules program limit a law rest. named rules program limit a law rest) (λ rules program limit a law. cell_gives rules program limit a law) processors program limit a law rest) law.acyclic (λ vs d h. no_longer d h) v deep (let w = law.within in omega (arith, w, small))

line_of_ledger_text : (processors : ℕ) (program : Program) (limit : ℕ) (a : Account) → Lawful (language processors) program limit a → AtRest a → (outcomes : List Coded) → length a.forms ≡ suc (length outcomes) → ((i : ℕ) → i < length outcomes → IsBefore (glimpse a) outcomes i) → slice_get program.tops (length outcomes) ≡ Some ledger → (text : List ℕ) → LedgerIn a program (of_defs program.tops (plains outcomes)) (totals_of a.cells) text → Line (language processors) program limit (suc (length outcomes)) text
line_of_ledger_text processors program limit a law rest outcomes long before top text l =
    let b = all_befores (language processors) program limit a law own_name outcomes (omega (arith, long)) before in
    ledger_line (λ rules program limit a law rest. names rules program limit a law rest) (λ rules program limit a law rest. (made_size rules program limit a law rest, realised_size rules program limit a law rest, failed_size rules program limit a law rest)) (λ rules program limit a law. cell_gives rules program limit a law)
    (language processors) program limit a law rest outcomes long b.0 b.1 (as_many (language processors) program limit b.1) b.2 top text l

-- ## A form's line

-- a line with these bytes, if one was made
pub answers_line : {E : Type 0} (P : List ℕ → Type 0) (r : Result (Option (List ℕ)) E) (bytes : List ℕ) → IfOk r (λ line. bytes_of line ≡ bytes) → P bytes → IfOk r (λ line. P (bytes_of line))
answers_line P (Ok line) bytes e p = subst P (sym e) p
answers_line P (Err why) bytes e p = tt

module _ (program : Program) (limits : Limits) (k : ℕ) (b : Account) (given : Given) (defined : List Coded) (h : HasLine program limits k b given defined) where
  abbrev IsLine : List ℕ → Type 0
  IsLine bytes = Line (names_of limits) program limits.steps (suc k) bytes

  law : Lawful (names_of limits) program limits.steps b
  law = h.calm.good.0

  pub prn_is_text : (e : Expr) → slice_get program.tops k ≡ Some (prn e) → IsText given
  prn_is_text e top = go given h.ended
    where
      go : (g : Given) → HasEnded b k g → IsText g
      go (G.Gave v) s =
          let t = prn_gives_text limits.processors program limits.steps b law k e v top s in
          subst (λ x. IsText (G.Gave x)) (sym t.1) tt
      go (G.Threw why) s = tt

  pub prn_has_line : (e : Expr) → slice_get program.tops k ≡ Some (prn e) → IsLine (prn_text given)
  prn_has_line e top = go given h.ended
    where
      go : (g : Given) → HasEnded b k g → IsLine (prn_text g)
      go (G.Gave v) s =
          let t = prn_gives_text limits.processors program limits.steps b law k e v top s in
          subst (λ x. IsLine (prn_text (G.Gave x))) (sym t.1) (line_of_text (names_of limits) program limits.steps b law k e t.0 top (subst (λ x. HasGiven b k x) t.1 s))
      go (G.Threw why) s = line_of_thrown_prn (names_of limits) program limits.steps b law k e why top s

  pub def_has_line : (name : ℕ) (e : Expr) → slice_get program.tops k ≡ Some (def name e) → IsLine (def_text given)
  def_has_line name e top = go given h.ended
    where
      go : (g : Given) → HasEnded b k g → IsLine (def_text g)
      go (G.Gave v) s = line_of_value (names_of limits) program limits.steps b law k name e v top s
      go (G.Threw why) s = line_of_thrown_def (names_of limits) program limits.steps b law k name e why top s

  pub defn_has_line : slice_get program.tops k ≡ Some defn → IsLine []
  defn_has_line top = line_of_defn top

  pub walks_end : (i : ℕ) (v : Coded) → slice_get defined i ≡ Some v → ComesToEnd b (plain v)
  walks_end i v e = walk_ends limits.processors program limits.steps b law h.rested.rests h.calm.small (plain v) (let d = within v (h.defines.well i v e) in let a = depth_agrees v in omega (arith, d, a))

  pub ledger_has_line : slice_get program.tops k ≡ Some ledger → (text : List ℕ) → LedgerIn b program (plains defined) (totals_of b.cells) text → IsLine text
  ledger_has_line top text l =
      let d = h.defines in
      subst (λ n. Line (names_of limits) program limits.steps (suc n) text) d.so_many
      (line_of_ledger_text limits.processors program limits.steps b law h.rested.rests d.outcomes (h.rested.so_many ∙ ap suc (sym d.so_many)) d.before (ap (slice_get program.tops) d.so_many ∙ top) text (subst (λ vs. LedgerIn b program vs (totals_of b.cells) text) d.are l))

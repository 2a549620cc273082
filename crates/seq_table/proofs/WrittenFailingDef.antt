-- A `def` that throws is the last form of a run, by computation.
use Rattle.std.proofs.Common.{ℕ, zero, suc, ◌<◌, List, [], ◌∷◌, ◌≡◌, codes, refl, Some, slice_get, arith}
use Rattle.seq_base.specs.declared.thrown.Thrown.TheVariants.{BadType}
use Rattle.seq_values.specs.declared.words.Kind.TheVariants.{Future}
use Rattle.seq_values.specs.Model.{Term, threw}
use Rattle.seq_meaning.specs.Walk.{made, ends, walk}
use Rattle.seq_meaning.specs.Names.{Name, form, part}
use Rattle.seq_meaning.specs.Gives.{Work, work, of_form, run, Of, of_top, no_answer, Gives, gives, none_before}
use Rattle.seq_meaning.specs.Counts.{Demand, demands_form, IsIn, here}
use Rattle.seq_meaning.proofs.Closing.{none_leads}
use Rattle.seq_meaning.proofs.Worked.{past, from_past}
use Rattle.seq_table.specs.Table.{language}
use Rattle.seq_table.specs.Outputs.{def_threw, line_of_failed_def, no_output, one_more_line, def_throws, IsReached, Ran, threw_at}
use Rattle.seq_table.specs.Worked.{Totals, failing_def_1, failing_def}
use Rattle.seq_table.specs.Written.{FailingDefWritten}
use Rattle.seq_table.proofs.Rows.{Row, totals_of}
use Rattle.seq_table.proofs.Sizes.{fits_of}

abbrev work_1 : Work
work_1 = work [] (of_form failing_def_1)

abbrev among_1 : List Name
among_1 = form 1 ∷ []

-- With 1 step or more:
module _ (n : ℕ) where
  abbrev limit : ℕ
  limit = past 1 n

  of_1 : Of (language 4) failing_def limit (form 1) work_1
  of_1 = of_top none_before refl

  end_1 : run (language 4) failing_def limit (form 1) work_1 [] ≡ ends (threw BadType) []
  unfolding run walk
  end_1 = by n
    where
      by : (n : ℕ) → run (language 4) failing_def (past 1 n) (form 1) work_1 [] ≡ ends (threw BadType) []
      by zero = refl
      by (suc n) = refl

  gives_1 : Gives (language 4) failing_def limit (form 1) (threw BadType)
  gives_1 = gives of_1 (no_answer of_1) end_1

  demand_1 : Demand (language 4) failing_def limit 1 (form 1)
  demand_1 = demands_form {i = 0} (omega arith)

  futures_1 : (j : ℕ) (t : Term Name) → slice_get [] j ≡ Some (made Future t) → IsIn (part (form 1) (suc j)) among_1
  futures_1 j t p = absurd cc

  abbrev row_1 : Row (language 4) failing_def limit 1 among_1
  row_1 = record { name = form 1; followed = record { w = work_1; a = []; o = threw BadType; ms = []; of = of_1; answers = no_answer of_1; end = end_1; asks = none_leads; futures = futures_1 }; demand = demand_1 }

  forms_1 : (i : ℕ) → i < 1 → IsIn (form (suc i)) among_1
  forms_1 zero h = here
  forms_1 (suc i) h = absurd (omega arith)

  totals_1 : Totals failing_def limit 1 0 0 0
  totals_1 = totals_of (language 4) failing_def limit 1 among_1 (row_1 ∷ []) forms_1 refl refl refl refl refl refl refl

  reached : (cells : ℕ) → IsReached (language 4) failing_def limit cells 1
  reached cells i p q = absurd (omega (arith, p, q))

  ran : (cells : ℕ) → Ran (language 4) failing_def limit cells def_threw (codes "threw type\n")
  ran cells = threw_at (reached cells) (fits_of totals_1.0 cells (omega arith)) (def_throws refl refl gives_1) (one_more_line no_output (line_of_failed_def refl gives_1))

pub failing_def_is_written : FailingDefWritten
failing_def_is_written = λ limit cells h. from_past (λ limit. Ran (language 4) failing_def limit cells def_threw (codes "threw type\n")) 1 limit h (λ n. ran n cells)

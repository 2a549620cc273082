-- What `first_of_map` writes, by computation.
use Rattle.std.proofs.Common.{◌≡◌, ℕ, zero, suc, ◌<◌, ◌≤◌, pos, List, [], ◌∷◌, codes, refl, ap, Some, slice_get, arith}
use Rattle.std.specs.Fmt.{digits}
use Rattle.seq_values.specs.declared.words.Builtin.TheVariants as B
use Rattle.seq_values.specs.declared.words.Kind.TheVariants.{Lazy, Future}
use Rattle.seq_values.specs.declared.words.Op.TheVariants as O
use Rattle.seq_values.specs.declared.words.Target.TheVariants as T
use Rattle.seq_values.specs.Model.{nil, int, text, function, cell, empty, chunk, range, no_values, ◌&◌, Term, Outcome, gave}
use Rattle.seq_meaning.specs.Walk.{Made, made, needs, ends, makes_of, walk}
use Rattle.seq_meaning.specs.Names.{Name, form, part}
use Rattle.seq_meaning.specs.Gives.{Work, work, of_form, of_term, run, Of, of_top, of_part, Part, part_of, True, no_answer, one_more, Gives, gives, Before, none_before, def_before, other_before, prn_none, ledger_none}
use Rattle.seq_meaning.specs.Counts.{Demand, demands_form, demands_need, IsIn, here, there}
use Rattle.seq_meaning.proofs.Closing.{leads_on, none_leads, one_leads, no_failure}
use Rattle.seq_meaning.proofs.Worked.{past, from_past}
use Rattle.seq_table.specs.Table.{language}
use Rattle.clj_script.specs.Trees.{def}
use Rattle.seq_meaning.specs.Counts.{Realised, realised}
use Rattle.seq_meaning.proofs.Once.{one_gives}
use Rattle.seq_table.specs.Fronts.{front_chunk, front_behind, front_unrealised}
use Rattle.seq_table.specs.Outputs.{no_lines, line_of, ledger_of, Line, line_of_def, line_of_prn, line_of_ledger, Output, no_output, one_more_line, DefThrows, def_throws, IsReached, Ran, ran_out, ran_through, done, spent}
use Rattle.seq_table.specs.Worked.{Totals, first_of_map_1, first_of_map_2, first_of_map_3, first_of_map}
use Rattle.seq_table.specs.Written.{FirstOfMapWritten}
use Rattle.seq_table.proofs.Rows.{Row, given_in, only_given, totals_of}
use Rattle.seq_table.proofs.Sizes.{none_among, fits_of, too_many}

abbrev part_1_1 : Name
part_1_1 = part (form 1) 1

abbrev part_1_1_1 : Name
part_1_1_1 = part part_1_1 1

abbrev work_1 : Work
work_1 = work [] (of_form first_of_map_1)

abbrev makes_1_1 : List (Made Name)
makes_1_1 = made Lazy (record { op = O.Map; args = function (T.Builtin B.Inc) no_values ∷ range (pos 0) (pos 0) (pos 3) ∷ [] }) ∷ []

abbrev work_2 : Work
work_2 = work (cell part_1_1 ∷ []) (of_form first_of_map_2)

abbrev work_1_1 : Work
work_1_1 = work ([]) (of_term (record { op = O.Map; args = function (T.Builtin B.Inc) no_values ∷ range (pos 0) (pos 0) (pos 3) ∷ [] }))

abbrev makes_1_1_1 : List (Made Name)
makes_1_1_1 = made Lazy (record { op = O.Map; args = function (T.Builtin B.Inc) no_values ∷ empty ∷ [] }) ∷ []

abbrev answers_2_1 : List (Outcome Name)
answers_2_1 = gave (chunk (int (pos 1) & int (pos 2) & int (pos 3) & no_values) (cell part_1_1_1)) ∷ []

abbrev work_3 : Work
work_3 = work (cell part_1_1 ∷ nil ∷ []) (of_form first_of_map_3)

abbrev among_1 : List Name
among_1 = (form 1) ∷ []

abbrev among_2 : List Name
among_2 = (form 1) ∷ (form 2) ∷ part_1_1 ∷ []

abbrev among_3 : List Name
among_3 = (form 1) ∷ (form 2) ∷ (form 3) ∷ part_1_1 ∷ []

-- With 3 steps or more:
module _ (n : ℕ) where
  abbrev limit : ℕ
  limit = past 3 n

  abbrev OfHere : Name → Work → Type 0
  OfHere e w = Of (language 4) first_of_map limit e w

  abbrev GivesHere : Name → Outcome Name → Type 0
  GivesHere e o = Gives (language 4) first_of_map limit e o

  abbrev TrueHere : Name → List (Outcome Name) → Type 0
  TrueHere e a = True (language 4) first_of_map limit e a

  before_0 : Before (language 4) first_of_map limit 0 ([])
  before_0 = none_before

  of_1 : OfHere (form 1) work_1
  of_1 = of_top before_0 refl

  end_1 : run (language 4) first_of_map limit (form 1) work_1 [] ≡ ends (gave (cell part_1_1)) makes_1_1
  unfolding run walk digits
  end_1 = refl

  gives_1 : GivesHere (form 1) (gave (cell part_1_1))
  gives_1 = gives of_1 (no_answer of_1) end_1

  demand_1_at_1 : Demand (language 4) first_of_map limit 1 (form 1)
  demand_1_at_1 = demands_form {i = 0} (omega arith)

  futures_1_at_1 : (j : ℕ) (t : Term Name) → slice_get makes_1_1 j ≡ Some (made Future t) → IsIn (part (form 1) (suc j)) among_1
  futures_1_at_1 zero t p = absurd cc
  futures_1_at_1 (suc j) t p = absurd cc

  abbrev row_1_at_1 : Row (language 4) first_of_map limit 1 among_1
  row_1_at_1 = record { name = (form 1); followed = record { w = work_1; a = []; o = gave (cell part_1_1); ms = makes_1_1; of = of_1; answers = (no_answer of_1); end = end_1; asks = none_leads; futures = futures_1_at_1 }; demand = demand_1_at_1 }

  abbrev rows_at_1 : List (Row (language 4) first_of_map limit 1 among_1)
  rows_at_1 = row_1_at_1 ∷ []

  forms_at_1 : (i : ℕ) → i < 1 → IsIn (form (suc i)) among_1
  forms_at_1 zero h = here
  forms_at_1 (suc i) h = absurd (omega arith)

  totals_at_1 : Totals first_of_map limit 1 1 0 0
  totals_at_1 = totals_of (language 4) first_of_map limit 1 among_1 rows_at_1 forms_at_1 refl refl refl refl refl refl refl

  line_1 : Line (language 4) first_of_map limit 1 (codes "")
  unfolding digits
  line_1 = line_of_def refl gives_1

  output_1 : Output (language 4) first_of_map limit 1 (codes "")
  output_1 = one_more_line no_output line_1

  before_1 : Before (language 4) first_of_map limit 1 (cell part_1_1 ∷ [])
  before_1 = def_before before_0 refl gives_1 refl

  of_2 : OfHere (form 2) work_2
  of_2 = of_top before_1 refl

  needs_2_0 : run (language 4) first_of_map limit (form 2) work_2 [] ≡ needs part_1_1 []
  unfolding run walk digits
  needs_2_0 = refl

  is_1_1 : Part (language 4) first_of_map limit part_1_1 Lazy work_1_1
  is_1_1 = part_of {j = 0} of_1 (no_answer of_1) (ap (λ r. slice_get (makes_of r) 0) end_1)

  of_1_1 : OfHere part_1_1 work_1_1
  of_1_1 = of_part is_1_1

  end_1_1 : run (language 4) first_of_map limit part_1_1 work_1_1 [] ≡ ends (gave (chunk (int (pos 1) & int (pos 2) & int (pos 3) & no_values) (cell part_1_1_1))) makes_1_1_1
  unfolding run walk digits
  end_1_1 = by n
    where
      by : (n : ℕ) → run (language 4) first_of_map (past 3 n) part_1_1 work_1_1 [] ≡ ends (gave (chunk (int (pos 1) & int (pos 2) & int (pos 3) & no_values) (cell part_1_1_1))) makes_1_1_1
      by zero = refl
      by (suc n) = refl

  gives_1_1 : GivesHere part_1_1 (gave (chunk (int (pos 1) & int (pos 2) & int (pos 3) & no_values) (cell part_1_1_1)))
  gives_1_1 = gives of_1_1 (no_answer of_1_1) end_1_1

  abbrev true_2_1 : TrueHere (form 2) answers_2_1
  true_2_1 = one_more of_2 (no_answer of_2) needs_2_0 gives_1_1

  end_2 : run (language 4) first_of_map limit (form 2) work_2 answers_2_1 ≡ ends (gave (text (codes "1"))) []
  unfolding run walk digits
  end_2 = by n
    where
      by : (n : ℕ) → run (language 4) first_of_map (past 3 n) (form 2) work_2 answers_2_1 ≡ ends (gave (text (codes "1"))) []
      by zero = refl
      by (suc n) = refl

  gives_2 : GivesHere (form 2) (gave (text (codes "1")))
  gives_2 = gives of_2 true_2_1 end_2

  demand_1_at_2 : Demand (language 4) first_of_map limit 2 (form 1)
  demand_1_at_2 = demands_form {i = 0} (omega arith)

  demand_2_at_2 : Demand (language 4) first_of_map limit 2 (form 2)
  demand_2_at_2 = demands_form {i = 1} (omega arith)

  demand_1_1_at_2 : Demand (language 4) first_of_map limit 2 part_1_1
  demand_1_1_at_2 = demands_need demand_2_at_2 of_2 (no_answer of_2) needs_2_0 (no_failure (language 4) first_of_map limit 2 among_2 gives_1_1)

  futures_1_at_2 : (j : ℕ) (t : Term Name) → slice_get makes_1_1 j ≡ Some (made Future t) → IsIn (part (form 1) (suc j)) among_2
  futures_1_at_2 zero t p = absurd cc
  futures_1_at_2 (suc j) t p = absurd cc

  abbrev row_1_at_2 : Row (language 4) first_of_map limit 2 among_2
  row_1_at_2 = record { name = (form 1); followed = record { w = work_1; a = []; o = gave (cell part_1_1); ms = makes_1_1; of = of_1; answers = (no_answer of_1); end = end_1; asks = none_leads; futures = futures_1_at_2 }; demand = demand_1_at_2 }

  futures_2_at_2 : (j : ℕ) (t : Term Name) → slice_get [] j ≡ Some (made Future t) → IsIn (part (form 2) (suc j)) among_2
  futures_2_at_2 j t p = absurd cc

  abbrev row_2_at_2 : Row (language 4) first_of_map limit 2 among_2
  row_2_at_2 = record { name = (form 2); followed = record { w = work_2; a = answers_2_1; o = gave (text (codes "1")); ms = []; of = of_2; answers = true_2_1; end = end_2; asks = (one_leads (leads_on (no_failure (language 4) first_of_map limit 2 among_2 gives_1_1) (there (there here))) none_leads); futures = futures_2_at_2 }; demand = demand_2_at_2 }

  futures_1_1_at_2 : (j : ℕ) (t : Term Name) → slice_get makes_1_1_1 j ≡ Some (made Future t) → IsIn (part part_1_1 (suc j)) among_2
  futures_1_1_at_2 zero t p = absurd cc
  futures_1_1_at_2 (suc j) t p = absurd cc

  abbrev row_1_1_at_2 : Row (language 4) first_of_map limit 2 among_2
  row_1_1_at_2 = record { name = part_1_1; followed = record { w = work_1_1; a = []; o = gave (chunk (int (pos 1) & int (pos 2) & int (pos 3) & no_values) (cell part_1_1_1)); ms = makes_1_1_1; of = of_1_1; answers = (no_answer of_1_1); end = end_1_1; asks = none_leads; futures = futures_1_1_at_2 }; demand = demand_1_1_at_2 }

  abbrev rows_at_2 : List (Row (language 4) first_of_map limit 2 among_2)
  rows_at_2 = row_1_at_2 ∷ row_2_at_2 ∷ row_1_1_at_2 ∷ []

  forms_at_2 : (i : ℕ) → i < 2 → IsIn (form (suc i)) among_2
  forms_at_2 zero h = here
  forms_at_2 (suc zero) h = (there here)
  forms_at_2 (suc (suc i)) h = absurd (omega arith)

  totals_at_2 : Totals first_of_map limit 2 2 1 0
  totals_at_2 = totals_of (language 4) first_of_map limit 2 among_2 rows_at_2 forms_at_2 refl refl refl refl refl refl refl

  line_2 : Line (language 4) first_of_map limit 2 (codes "1\n")
  unfolding digits
  line_2 = line_of_prn refl gives_2

  output_2 : Output (language 4) first_of_map limit 2 (codes "1\n")
  output_2 = one_more_line output_1 line_2

  before_2 : Before (language 4) first_of_map limit 2 (cell part_1_1 ∷ nil ∷ [])
  before_2 = other_before before_1 refl prn_none refl

  of_3 : OfHere (form 3) work_3
  of_3 = of_top before_2 refl

  end_3 : run (language 4) first_of_map limit (form 3) work_3 [] ≡ ends (gave (nil)) []
  unfolding run walk digits
  end_3 = refl

  gives_3 : GivesHere (form 3) (gave (nil))
  gives_3 = gives of_3 (no_answer of_3) end_3

  demand_1_at_3 : Demand (language 4) first_of_map limit 3 (form 1)
  demand_1_at_3 = demands_form {i = 0} (omega arith)

  demand_2_at_3 : Demand (language 4) first_of_map limit 3 (form 2)
  demand_2_at_3 = demands_form {i = 1} (omega arith)

  demand_3_at_3 : Demand (language 4) first_of_map limit 3 (form 3)
  demand_3_at_3 = demands_form {i = 2} (omega arith)

  demand_1_1_at_3 : Demand (language 4) first_of_map limit 3 part_1_1
  demand_1_1_at_3 = demands_need demand_2_at_3 of_2 (no_answer of_2) needs_2_0 (no_failure (language 4) first_of_map limit 3 among_3 gives_1_1)

  futures_1_at_3 : (j : ℕ) (t : Term Name) → slice_get makes_1_1 j ≡ Some (made Future t) → IsIn (part (form 1) (suc j)) among_3
  futures_1_at_3 zero t p = absurd cc
  futures_1_at_3 (suc j) t p = absurd cc

  abbrev row_1_at_3 : Row (language 4) first_of_map limit 3 among_3
  row_1_at_3 = record { name = (form 1); followed = record { w = work_1; a = []; o = gave (cell part_1_1); ms = makes_1_1; of = of_1; answers = (no_answer of_1); end = end_1; asks = none_leads; futures = futures_1_at_3 }; demand = demand_1_at_3 }

  futures_2_at_3 : (j : ℕ) (t : Term Name) → slice_get [] j ≡ Some (made Future t) → IsIn (part (form 2) (suc j)) among_3
  futures_2_at_3 j t p = absurd cc

  abbrev row_2_at_3 : Row (language 4) first_of_map limit 3 among_3
  row_2_at_3 = record { name = (form 2); followed = record { w = work_2; a = answers_2_1; o = gave (text (codes "1")); ms = []; of = of_2; answers = true_2_1; end = end_2; asks = (one_leads (leads_on (no_failure (language 4) first_of_map limit 3 among_3 gives_1_1) (there (there (there here)))) none_leads); futures = futures_2_at_3 }; demand = demand_2_at_3 }

  futures_3_at_3 : (j : ℕ) (t : Term Name) → slice_get [] j ≡ Some (made Future t) → IsIn (part (form 3) (suc j)) among_3
  futures_3_at_3 j t p = absurd cc

  abbrev row_3_at_3 : Row (language 4) first_of_map limit 3 among_3
  row_3_at_3 = record { name = (form 3); followed = record { w = work_3; a = []; o = gave (nil); ms = []; of = of_3; answers = (no_answer of_3); end = end_3; asks = none_leads; futures = futures_3_at_3 }; demand = demand_3_at_3 }

  futures_1_1_at_3 : (j : ℕ) (t : Term Name) → slice_get makes_1_1_1 j ≡ Some (made Future t) → IsIn (part part_1_1 (suc j)) among_3
  futures_1_1_at_3 zero t p = absurd cc
  futures_1_1_at_3 (suc j) t p = absurd cc

  abbrev row_1_1_at_3 : Row (language 4) first_of_map limit 3 among_3
  row_1_1_at_3 = record { name = part_1_1; followed = record { w = work_1_1; a = []; o = gave (chunk (int (pos 1) & int (pos 2) & int (pos 3) & no_values) (cell part_1_1_1)); ms = makes_1_1_1; of = of_1_1; answers = (no_answer of_1_1); end = end_1_1; asks = none_leads; futures = futures_1_1_at_3 }; demand = demand_1_1_at_3 }

  abbrev rows_at_3 : List (Row (language 4) first_of_map limit 3 among_3)
  rows_at_3 = row_1_at_3 ∷ row_2_at_3 ∷ row_3_at_3 ∷ row_1_1_at_3 ∷ []

  forms_at_3 : (i : ℕ) → i < 3 → IsIn (form (suc i)) among_3
  forms_at_3 zero h = here
  forms_at_3 (suc zero) h = (there here)
  forms_at_3 (suc (suc zero)) h = (there (there here))
  forms_at_3 (suc (suc (suc i))) h = absurd (omega arith)

  totals_at_3 : Totals first_of_map limit 3 2 1 0
  totals_at_3 = totals_of (language 4) first_of_map limit 3 among_3 rows_at_3 forms_at_3 refl refl refl refl refl refl refl

  given_1_1_1_at_3 : ¬ (IsIn part_1_1_1 (given_in (language 4) first_of_map limit 3 among_3 rows_at_3))
  given_1_1_1_at_3 = none_among (given_in (language 4) first_of_map limit 3 among_3 rows_at_3) refl

  unrealised_1_1_1_at_3 : ¬ (Realised (language 4) first_of_map limit 3 part_1_1_1)
  unrealised_1_1_1_at_3 h = given_1_1_1_at_3 (only_given (language 4) first_of_map limit 3 among_3 rows_at_3 forms_at_3 refl _ h)

  before_3 : Before (language 4) first_of_map limit 3 (cell part_1_1 ∷ nil ∷ nil ∷ [])
  before_3 = other_before before_2 refl ledger_none refl

  line_3 : Line (language 4) first_of_map limit 3 (codes "xs 3\ncells 2 realised 1 failed 0\n")
  unfolding digits
  line_3 = line_of_ledger refl (ledger_of {makes = 2} {realises = 1} {fails = 0} before_3 (line_of refl (front_behind (realised demand_1_1_at_3 gives_1_1) gives_1_1 (front_chunk (front_unrealised unrealised_1_1_1_at_3))) no_lines) totals_at_3.0 totals_at_3.1 totals_at_3.2)

  output_3 : Output (language 4) first_of_map limit 3 (codes "1\nxs 3\ncells 2 realised 1 failed 0\n")
  output_3 = one_more_line output_2 line_3

  no_throw_1 : ¬ (DefThrows (language 4) first_of_map limit 1)
  no_throw_1 (def_throws {i = i} p q g) = let s = one_gives (language 4) first_of_map limit gives_1 g in absurd cc

  no_throw_2 : ¬ (DefThrows (language 4) first_of_map limit 2)
  no_throw_2 (def_throws {i = i} p q g) = let r : i ≡ 1 = cc in let t : slice_get first_of_map.tops 1 ≡ Some (def _ _) = rw r at q in absurd cc

  no_throw_3 : ¬ (DefThrows (language 4) first_of_map limit 3)
  no_throw_3 (def_throws {i = i} p q g) = let r : i ≡ 2 = cc in let t : slice_get first_of_map.tops 2 ≡ Some (def _ _) = rw r at q in absurd cc

  reached : (cells : ℕ) → 2 ≤ cells → IsReached (language 4) first_of_map limit cells 4
  reached cells h zero p q = absurd (omega arith)
  reached cells h (suc zero) p q = (fits_of totals_at_1.0 cells (omega arith), no_throw_1)
  reached cells h (suc (suc zero)) p q = (fits_of totals_at_2.0 cells (omega arith), no_throw_2)
  reached cells h (suc (suc (suc zero))) p q = (fits_of totals_at_3.0 cells (omega arith), no_throw_3)
  reached cells h (suc (suc (suc (suc i)))) p q = absurd (omega arith)

  ran : (cells : ℕ) → 2 ≤ cells → Ran (language 4) first_of_map limit cells done (codes "1\nxs 3\ncells 2 realised 1 failed 0\n")
  ran cells h = ran_through (reached cells h) output_3

  reached_below : IsReached (language 4) first_of_map limit 1 2
  reached_below zero p q = absurd (omega arith)
  reached_below (suc zero) p q = (fits_of totals_at_1.0 1 (omega arith), no_throw_1)
  reached_below (suc (suc i)) p q = absurd (omega arith)

  ran_below : Ran (language 4) first_of_map limit 1 spent (codes "")
  ran_below = ran_out {k = 1} (omega arith) reached_below (too_many totals_at_2.0 1 (omega arith)) output_1

pub first_of_map_is_written : FirstOfMapWritten
first_of_map_is_written = (λ limit cells h c. from_past (λ limit. Ran (language 4) first_of_map limit cells done (codes "1\nxs 3\ncells 2 realised 1 failed 0\n")) 3 limit h (λ n. ran n cells c), λ limit h. from_past (λ limit. Ran (language 4) first_of_map limit 1 spent (codes "")) 3 limit h ran_below)

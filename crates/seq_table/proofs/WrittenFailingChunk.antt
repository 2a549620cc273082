-- What `failing_chunk` writes, by computation.
use Rattle.std.proofs.Common.{◌≡◌, ℕ, zero, suc, ◌<◌, ◌≤◌, pos, List, [], ◌∷◌, codes, refl, ap, Some, slice_get, arith}
use Rattle.std.specs.Fmt.{digits}
use Rattle.seq_base.specs.declared.thrown.Thrown.TheVariants.{Divide}
use Rattle.seq_values.specs.declared.words.Kind.TheVariants.{Lazy, Future}
use Rattle.seq_values.specs.declared.words.Op.TheVariants as O
use Rattle.seq_values.specs.declared.words.Target.TheVariants as T
use Rattle.seq_values.specs.Model.{nil, function, cell, range, no_values, Term, Outcome, gave, threw}
use Rattle.seq_meaning.specs.Walk.{Made, made, needs, ends, makes_of, walk}
use Rattle.seq_meaning.specs.Names.{Name, form, part, retry}
use Rattle.seq_meaning.specs.Gives.{Work, work, of_form, of_term, run, Of, of_top, of_part, of_retry, Part, part_of, True, no_answer, one_more, Gives, gives, Before, none_before, def_before, other_before, defn_none, prn_none, ledger_none}
use Rattle.seq_meaning.specs.Counts.{FailsLazily, fails_lazily, Demand, demands_form, demands_retry, IsIn, here, there}
use Rattle.seq_meaning.proofs.Closing.{leads_back, none_leads, one_leads}
use Rattle.seq_meaning.proofs.Worked.{past, from_past}
use Rattle.seq_table.specs.Table.{language}
use Rattle.clj_script.specs.Trees.{def}
use Rattle.seq_meaning.specs.Counts.{Realised}
use Rattle.seq_meaning.proofs.Once.{one_gives}
use Rattle.seq_table.specs.Fronts.{front_unrealised}
use Rattle.seq_table.specs.Outputs.{no_lines, line_of, ledger_of, Line, line_of_def, line_of_defn, line_of_failed_prn, line_of_ledger, Output, no_output, one_more_line, DefThrows, def_throws, IsReached, Ran, ran_through, done}
use Rattle.seq_table.specs.Worked.{Totals, failing_chunk_1, failing_chunk_2, failing_chunk_3, failing_chunk_4, failing_chunk_5, failing_chunk}
use Rattle.seq_table.specs.Written.{FailingChunkWritten}
use Rattle.seq_table.proofs.Rows.{Row, given_in, only_given, totals_of}
use Rattle.seq_table.proofs.Sizes.{none_among, fits_of}

abbrev part_2_1 : Name
part_2_1 = part (form 2) 1

abbrev retry_3 : Name
retry_3 = retry (form 3)

abbrev retry_4 : Name
retry_4 = retry (form 4)

abbrev work_1 : Work
work_1 = work [] (of_form failing_chunk_1)

abbrev work_2 : Work
work_2 = work (nil ∷ []) (of_form failing_chunk_2)

abbrev makes_2_1 : List (Made Name)
makes_2_1 = made Lazy (record { op = O.Map; args = function (T.User 0) no_values ∷ range (pos 0) (pos 0) (pos 10) ∷ [] }) ∷ []

abbrev work_3 : Work
work_3 = work (nil ∷ cell part_2_1 ∷ []) (of_form failing_chunk_3)

abbrev work_2_1 : Work
work_2_1 = work (nil ∷ []) (of_term (record { op = O.Map; args = function (T.User 0) no_values ∷ range (pos 0) (pos 0) (pos 10) ∷ [] }))

abbrev answers_3_1 : List (Outcome Name)
answers_3_1 = threw Divide ∷ []

abbrev work_3_again : Work
work_3_again = work (nil ∷ []) (of_term (record { op = O.Map; args = function (T.User 0) no_values ∷ range (pos 0) (pos 0) (pos 10) ∷ [] }))

abbrev work_4 : Work
work_4 = work (nil ∷ cell part_2_1 ∷ nil ∷ []) (of_form failing_chunk_4)

abbrev answers_4_1 : List (Outcome Name)
answers_4_1 = threw Divide ∷ []

abbrev work_4_again : Work
work_4_again = work (nil ∷ []) (of_term (record { op = O.Map; args = function (T.User 0) no_values ∷ range (pos 0) (pos 0) (pos 10) ∷ [] }))

abbrev work_5 : Work
work_5 = work (nil ∷ cell part_2_1 ∷ nil ∷ nil ∷ []) (of_form failing_chunk_5)

abbrev among_1 : List Name
among_1 = (form 1) ∷ []

abbrev among_2 : List Name
among_2 = (form 1) ∷ (form 2) ∷ []

abbrev among_3 : List Name
among_3 = (form 1) ∷ (form 2) ∷ (form 3) ∷ retry_3 ∷ []

abbrev among_4 : List Name
among_4 = (form 1) ∷ (form 2) ∷ (form 3) ∷ (form 4) ∷ retry_3 ∷ retry_4 ∷ []

abbrev among_5 : List Name
among_5 = (form 1) ∷ (form 2) ∷ (form 3) ∷ (form 4) ∷ (form 5) ∷ retry_3 ∷ retry_4 ∷ []

-- With 18 steps or more:
module _ (n : ℕ) where
  abbrev limit : ℕ
  limit = past 18 n

  abbrev OfHere : Name → Work → Type 0
  OfHere e w = Of (language 4) failing_chunk limit e w

  abbrev GivesHere : Name → Outcome Name → Type 0
  GivesHere e o = Gives (language 4) failing_chunk limit e o

  abbrev TrueHere : Name → List (Outcome Name) → Type 0
  TrueHere e a = True (language 4) failing_chunk limit e a

  before_0 : Before (language 4) failing_chunk limit 0 ([])
  before_0 = none_before

  of_1 : OfHere (form 1) work_1
  of_1 = of_top before_0 refl

  end_1 : run (language 4) failing_chunk limit (form 1) work_1 [] ≡ ends (gave (nil)) []
  unfolding run walk digits
  end_1 = refl

  gives_1 : GivesHere (form 1) (gave (nil))
  gives_1 = gives of_1 (no_answer of_1) end_1

  demand_1_at_1 : Demand (language 4) failing_chunk limit 1 (form 1)
  demand_1_at_1 = demands_form {i = 0} (omega arith)

  futures_1_at_1 : (j : ℕ) (t : Term Name) → slice_get [] j ≡ Some (made Future t) → IsIn (part (form 1) (suc j)) among_1
  futures_1_at_1 j t p = absurd cc

  abbrev row_1_at_1 : Row (language 4) failing_chunk limit 1 among_1
  row_1_at_1 = record { name = (form 1); followed = record { w = work_1; a = []; o = gave (nil); ms = []; of = of_1; answers = (no_answer of_1); end = end_1; asks = none_leads; futures = futures_1_at_1 }; demand = demand_1_at_1 }

  abbrev rows_at_1 : List (Row (language 4) failing_chunk limit 1 among_1)
  rows_at_1 = row_1_at_1 ∷ []

  forms_at_1 : (i : ℕ) → i < 1 → IsIn (form (suc i)) among_1
  forms_at_1 zero h = here
  forms_at_1 (suc i) h = absurd (omega arith)

  totals_at_1 : Totals failing_chunk limit 1 0 0 0
  totals_at_1 = totals_of (language 4) failing_chunk limit 1 among_1 rows_at_1 forms_at_1 refl refl refl refl refl refl refl

  line_1 : Line (language 4) failing_chunk limit 1 (codes "")
  unfolding digits
  line_1 = line_of_defn refl

  output_1 : Output (language 4) failing_chunk limit 1 (codes "")
  output_1 = one_more_line no_output line_1

  before_1 : Before (language 4) failing_chunk limit 1 (nil ∷ [])
  before_1 = other_before before_0 refl defn_none refl

  of_2 : OfHere (form 2) work_2
  of_2 = of_top before_1 refl

  end_2 : run (language 4) failing_chunk limit (form 2) work_2 [] ≡ ends (gave (cell part_2_1)) makes_2_1
  unfolding run walk digits
  end_2 = refl

  gives_2 : GivesHere (form 2) (gave (cell part_2_1))
  gives_2 = gives of_2 (no_answer of_2) end_2

  demand_1_at_2 : Demand (language 4) failing_chunk limit 2 (form 1)
  demand_1_at_2 = demands_form {i = 0} (omega arith)

  demand_2_at_2 : Demand (language 4) failing_chunk limit 2 (form 2)
  demand_2_at_2 = demands_form {i = 1} (omega arith)

  futures_1_at_2 : (j : ℕ) (t : Term Name) → slice_get [] j ≡ Some (made Future t) → IsIn (part (form 1) (suc j)) among_2
  futures_1_at_2 j t p = absurd cc

  abbrev row_1_at_2 : Row (language 4) failing_chunk limit 2 among_2
  row_1_at_2 = record { name = (form 1); followed = record { w = work_1; a = []; o = gave (nil); ms = []; of = of_1; answers = (no_answer of_1); end = end_1; asks = none_leads; futures = futures_1_at_2 }; demand = demand_1_at_2 }

  futures_2_at_2 : (j : ℕ) (t : Term Name) → slice_get makes_2_1 j ≡ Some (made Future t) → IsIn (part (form 2) (suc j)) among_2
  futures_2_at_2 zero t p = absurd cc
  futures_2_at_2 (suc j) t p = absurd cc

  abbrev row_2_at_2 : Row (language 4) failing_chunk limit 2 among_2
  row_2_at_2 = record { name = (form 2); followed = record { w = work_2; a = []; o = gave (cell part_2_1); ms = makes_2_1; of = of_2; answers = (no_answer of_2); end = end_2; asks = none_leads; futures = futures_2_at_2 }; demand = demand_2_at_2 }

  abbrev rows_at_2 : List (Row (language 4) failing_chunk limit 2 among_2)
  rows_at_2 = row_1_at_2 ∷ row_2_at_2 ∷ []

  forms_at_2 : (i : ℕ) → i < 2 → IsIn (form (suc i)) among_2
  forms_at_2 zero h = here
  forms_at_2 (suc zero) h = (there here)
  forms_at_2 (suc (suc i)) h = absurd (omega arith)

  totals_at_2 : Totals failing_chunk limit 2 1 0 0
  totals_at_2 = totals_of (language 4) failing_chunk limit 2 among_2 rows_at_2 forms_at_2 refl refl refl refl refl refl refl

  line_2 : Line (language 4) failing_chunk limit 2 (codes "")
  unfolding digits
  line_2 = line_of_def refl gives_2

  output_2 : Output (language 4) failing_chunk limit 2 (codes "")
  output_2 = one_more_line output_1 line_2

  before_2 : Before (language 4) failing_chunk limit 2 (nil ∷ cell part_2_1 ∷ [])
  before_2 = def_before before_1 refl gives_2 refl

  of_3 : OfHere (form 3) work_3
  of_3 = of_top before_2 refl

  needs_3_0 : run (language 4) failing_chunk limit (form 3) work_3 [] ≡ needs part_2_1 []
  unfolding run walk digits
  needs_3_0 = refl

  is_2_1 : Part (language 4) failing_chunk limit part_2_1 Lazy work_2_1
  is_2_1 = part_of {j = 0} of_2 (no_answer of_2) (ap (λ r. slice_get (makes_of r) 0) end_2)

  of_2_1 : OfHere part_2_1 work_2_1
  of_2_1 = of_part is_2_1

  end_2_1 : run (language 4) failing_chunk limit part_2_1 work_2_1 [] ≡ ends (threw Divide) []
  unfolding run walk digits
  end_2_1 = by n
    where
      by : (n : ℕ) → run (language 4) failing_chunk (past 18 n) part_2_1 work_2_1 [] ≡ ends (threw Divide) []
      by zero = refl
      by (suc n) = refl

  gives_2_1 : GivesHere part_2_1 (threw Divide)
  gives_2_1 = gives of_2_1 (no_answer of_2_1) end_2_1

  abbrev true_3_1 : TrueHere (form 3) answers_3_1
  true_3_1 = one_more of_3 (no_answer of_3) needs_3_0 gives_2_1

  end_3 : run (language 4) failing_chunk limit (form 3) work_3 answers_3_1 ≡ ends (threw Divide) []
  unfolding run walk digits
  end_3 = refl

  gives_3 : GivesHere (form 3) (threw Divide)
  gives_3 = gives of_3 true_3_1 end_3

  of_3_again : OfHere retry_3 work_3_again
  of_3_again = of_retry of_3 (no_answer of_3) needs_3_0 is_2_1 gives_2_1

  end_3_again : run (language 4) failing_chunk limit retry_3 work_3_again [] ≡ ends (threw Divide) []
  unfolding run walk digits
  end_3_again = by n
    where
      by : (n : ℕ) → run (language 4) failing_chunk (past 18 n) retry_3 work_3_again [] ≡ ends (threw Divide) []
      by zero = refl
      by (suc n) = refl

  gives_3_again : GivesHere retry_3 (threw Divide)
  gives_3_again = gives of_3_again (no_answer of_3_again) end_3_again

  demand_1_at_3 : Demand (language 4) failing_chunk limit 3 (form 1)
  demand_1_at_3 = demands_form {i = 0} (omega arith)

  demand_2_at_3 : Demand (language 4) failing_chunk limit 3 (form 2)
  demand_2_at_3 = demands_form {i = 1} (omega arith)

  demand_3_at_3 : Demand (language 4) failing_chunk limit 3 (form 3)
  demand_3_at_3 = demands_form {i = 2} (omega arith)

  fails_2_1_at_3 : FailsLazily (language 4) failing_chunk limit 3 part_2_1
  fails_2_1_at_3 = fails_lazily is_2_1 gives_2_1

  demand_3_again_at_3 : Demand (language 4) failing_chunk limit 3 retry_3
  demand_3_again_at_3 = demands_retry demand_3_at_3 of_3 (no_answer of_3) needs_3_0 fails_2_1_at_3

  futures_1_at_3 : (j : ℕ) (t : Term Name) → slice_get [] j ≡ Some (made Future t) → IsIn (part (form 1) (suc j)) among_3
  futures_1_at_3 j t p = absurd cc

  abbrev row_1_at_3 : Row (language 4) failing_chunk limit 3 among_3
  row_1_at_3 = record { name = (form 1); followed = record { w = work_1; a = []; o = gave (nil); ms = []; of = of_1; answers = (no_answer of_1); end = end_1; asks = none_leads; futures = futures_1_at_3 }; demand = demand_1_at_3 }

  futures_2_at_3 : (j : ℕ) (t : Term Name) → slice_get makes_2_1 j ≡ Some (made Future t) → IsIn (part (form 2) (suc j)) among_3
  futures_2_at_3 zero t p = absurd cc
  futures_2_at_3 (suc j) t p = absurd cc

  abbrev row_2_at_3 : Row (language 4) failing_chunk limit 3 among_3
  row_2_at_3 = record { name = (form 2); followed = record { w = work_2; a = []; o = gave (cell part_2_1); ms = makes_2_1; of = of_2; answers = (no_answer of_2); end = end_2; asks = none_leads; futures = futures_2_at_3 }; demand = demand_2_at_3 }

  futures_3_at_3 : (j : ℕ) (t : Term Name) → slice_get [] j ≡ Some (made Future t) → IsIn (part (form 3) (suc j)) among_3
  futures_3_at_3 j t p = absurd cc

  abbrev row_3_at_3 : Row (language 4) failing_chunk limit 3 among_3
  row_3_at_3 = record { name = (form 3); followed = record { w = work_3; a = answers_3_1; o = threw Divide; ms = []; of = of_3; answers = true_3_1; end = end_3; asks = (one_leads (leads_back fails_2_1_at_3 (there (there (there here)))) none_leads); futures = futures_3_at_3 }; demand = demand_3_at_3 }

  futures_3_again_at_3 : (j : ℕ) (t : Term Name) → slice_get [] j ≡ Some (made Future t) → IsIn (part retry_3 (suc j)) among_3
  futures_3_again_at_3 j t p = absurd cc

  abbrev row_3_again_at_3 : Row (language 4) failing_chunk limit 3 among_3
  row_3_again_at_3 = record { name = retry_3; followed = record { w = work_3_again; a = []; o = threw Divide; ms = []; of = of_3_again; answers = (no_answer of_3_again); end = end_3_again; asks = none_leads; futures = futures_3_again_at_3 }; demand = demand_3_again_at_3 }

  abbrev rows_at_3 : List (Row (language 4) failing_chunk limit 3 among_3)
  rows_at_3 = row_1_at_3 ∷ row_2_at_3 ∷ row_3_at_3 ∷ row_3_again_at_3 ∷ []

  forms_at_3 : (i : ℕ) → i < 3 → IsIn (form (suc i)) among_3
  forms_at_3 zero h = here
  forms_at_3 (suc zero) h = (there here)
  forms_at_3 (suc (suc zero)) h = (there (there here))
  forms_at_3 (suc (suc (suc i))) h = absurd (omega arith)

  totals_at_3 : Totals failing_chunk limit 3 1 0 1
  totals_at_3 = totals_of (language 4) failing_chunk limit 3 among_3 rows_at_3 forms_at_3 refl refl refl refl refl refl refl

  line_3 : Line (language 4) failing_chunk limit 3 (codes "threw divide\n")
  unfolding digits
  line_3 = line_of_failed_prn refl gives_3

  output_3 : Output (language 4) failing_chunk limit 3 (codes "threw divide\n")
  output_3 = one_more_line output_2 line_3

  before_3 : Before (language 4) failing_chunk limit 3 (nil ∷ cell part_2_1 ∷ nil ∷ [])
  before_3 = other_before before_2 refl prn_none refl

  of_4 : OfHere (form 4) work_4
  of_4 = of_top before_3 refl

  needs_4_0 : run (language 4) failing_chunk limit (form 4) work_4 [] ≡ needs part_2_1 []
  unfolding run walk digits
  needs_4_0 = refl

  abbrev true_4_1 : TrueHere (form 4) answers_4_1
  true_4_1 = one_more of_4 (no_answer of_4) needs_4_0 gives_2_1

  end_4 : run (language 4) failing_chunk limit (form 4) work_4 answers_4_1 ≡ ends (threw Divide) []
  unfolding run walk digits
  end_4 = refl

  gives_4 : GivesHere (form 4) (threw Divide)
  gives_4 = gives of_4 true_4_1 end_4

  of_4_again : OfHere retry_4 work_4_again
  of_4_again = of_retry of_4 (no_answer of_4) needs_4_0 is_2_1 gives_2_1

  end_4_again : run (language 4) failing_chunk limit retry_4 work_4_again [] ≡ ends (threw Divide) []
  unfolding run walk digits
  end_4_again = by n
    where
      by : (n : ℕ) → run (language 4) failing_chunk (past 18 n) retry_4 work_4_again [] ≡ ends (threw Divide) []
      by zero = refl
      by (suc n) = refl

  gives_4_again : GivesHere retry_4 (threw Divide)
  gives_4_again = gives of_4_again (no_answer of_4_again) end_4_again

  demand_1_at_4 : Demand (language 4) failing_chunk limit 4 (form 1)
  demand_1_at_4 = demands_form {i = 0} (omega arith)

  demand_2_at_4 : Demand (language 4) failing_chunk limit 4 (form 2)
  demand_2_at_4 = demands_form {i = 1} (omega arith)

  demand_3_at_4 : Demand (language 4) failing_chunk limit 4 (form 3)
  demand_3_at_4 = demands_form {i = 2} (omega arith)

  demand_4_at_4 : Demand (language 4) failing_chunk limit 4 (form 4)
  demand_4_at_4 = demands_form {i = 3} (omega arith)

  fails_2_1_at_4 : FailsLazily (language 4) failing_chunk limit 4 part_2_1
  fails_2_1_at_4 = fails_lazily is_2_1 gives_2_1

  demand_3_again_at_4 : Demand (language 4) failing_chunk limit 4 retry_3
  demand_3_again_at_4 = demands_retry demand_3_at_4 of_3 (no_answer of_3) needs_3_0 fails_2_1_at_4

  demand_4_again_at_4 : Demand (language 4) failing_chunk limit 4 retry_4
  demand_4_again_at_4 = demands_retry demand_4_at_4 of_4 (no_answer of_4) needs_4_0 fails_2_1_at_4

  futures_1_at_4 : (j : ℕ) (t : Term Name) → slice_get [] j ≡ Some (made Future t) → IsIn (part (form 1) (suc j)) among_4
  futures_1_at_4 j t p = absurd cc

  abbrev row_1_at_4 : Row (language 4) failing_chunk limit 4 among_4
  row_1_at_4 = record { name = (form 1); followed = record { w = work_1; a = []; o = gave (nil); ms = []; of = of_1; answers = (no_answer of_1); end = end_1; asks = none_leads; futures = futures_1_at_4 }; demand = demand_1_at_4 }

  futures_2_at_4 : (j : ℕ) (t : Term Name) → slice_get makes_2_1 j ≡ Some (made Future t) → IsIn (part (form 2) (suc j)) among_4
  futures_2_at_4 zero t p = absurd cc
  futures_2_at_4 (suc j) t p = absurd cc

  abbrev row_2_at_4 : Row (language 4) failing_chunk limit 4 among_4
  row_2_at_4 = record { name = (form 2); followed = record { w = work_2; a = []; o = gave (cell part_2_1); ms = makes_2_1; of = of_2; answers = (no_answer of_2); end = end_2; asks = none_leads; futures = futures_2_at_4 }; demand = demand_2_at_4 }

  futures_3_at_4 : (j : ℕ) (t : Term Name) → slice_get [] j ≡ Some (made Future t) → IsIn (part (form 3) (suc j)) among_4
  futures_3_at_4 j t p = absurd cc

  abbrev row_3_at_4 : Row (language 4) failing_chunk limit 4 among_4
  row_3_at_4 = record { name = (form 3); followed = record { w = work_3; a = answers_3_1; o = threw Divide; ms = []; of = of_3; answers = true_3_1; end = end_3; asks = (one_leads (leads_back fails_2_1_at_4 (there (there (there (there here))))) none_leads); futures = futures_3_at_4 }; demand = demand_3_at_4 }

  futures_4_at_4 : (j : ℕ) (t : Term Name) → slice_get [] j ≡ Some (made Future t) → IsIn (part (form 4) (suc j)) among_4
  futures_4_at_4 j t p = absurd cc

  abbrev row_4_at_4 : Row (language 4) failing_chunk limit 4 among_4
  row_4_at_4 = record { name = (form 4); followed = record { w = work_4; a = answers_4_1; o = threw Divide; ms = []; of = of_4; answers = true_4_1; end = end_4; asks = (one_leads (leads_back fails_2_1_at_4 (there (there (there (there (there here)))))) none_leads); futures = futures_4_at_4 }; demand = demand_4_at_4 }

  futures_3_again_at_4 : (j : ℕ) (t : Term Name) → slice_get [] j ≡ Some (made Future t) → IsIn (part retry_3 (suc j)) among_4
  futures_3_again_at_4 j t p = absurd cc

  abbrev row_3_again_at_4 : Row (language 4) failing_chunk limit 4 among_4
  row_3_again_at_4 = record { name = retry_3; followed = record { w = work_3_again; a = []; o = threw Divide; ms = []; of = of_3_again; answers = (no_answer of_3_again); end = end_3_again; asks = none_leads; futures = futures_3_again_at_4 }; demand = demand_3_again_at_4 }

  futures_4_again_at_4 : (j : ℕ) (t : Term Name) → slice_get [] j ≡ Some (made Future t) → IsIn (part retry_4 (suc j)) among_4
  futures_4_again_at_4 j t p = absurd cc

  abbrev row_4_again_at_4 : Row (language 4) failing_chunk limit 4 among_4
  row_4_again_at_4 = record { name = retry_4; followed = record { w = work_4_again; a = []; o = threw Divide; ms = []; of = of_4_again; answers = (no_answer of_4_again); end = end_4_again; asks = none_leads; futures = futures_4_again_at_4 }; demand = demand_4_again_at_4 }

  abbrev rows_at_4 : List (Row (language 4) failing_chunk limit 4 among_4)
  rows_at_4 = row_1_at_4 ∷ row_2_at_4 ∷ row_3_at_4 ∷ row_4_at_4 ∷ row_3_again_at_4 ∷ row_4_again_at_4 ∷ []

  forms_at_4 : (i : ℕ) → i < 4 → IsIn (form (suc i)) among_4
  forms_at_4 zero h = here
  forms_at_4 (suc zero) h = (there here)
  forms_at_4 (suc (suc zero)) h = (there (there here))
  forms_at_4 (suc (suc (suc zero))) h = (there (there (there here)))
  forms_at_4 (suc (suc (suc (suc i)))) h = absurd (omega arith)

  totals_at_4 : Totals failing_chunk limit 4 1 0 2
  totals_at_4 = totals_of (language 4) failing_chunk limit 4 among_4 rows_at_4 forms_at_4 refl refl refl refl refl refl refl

  line_4 : Line (language 4) failing_chunk limit 4 (codes "threw divide\n")
  unfolding digits
  line_4 = line_of_failed_prn refl gives_4

  output_4 : Output (language 4) failing_chunk limit 4 (codes "threw divide\nthrew divide\n")
  output_4 = one_more_line output_3 line_4

  before_4 : Before (language 4) failing_chunk limit 4 (nil ∷ cell part_2_1 ∷ nil ∷ nil ∷ [])
  before_4 = other_before before_3 refl prn_none refl

  of_5 : OfHere (form 5) work_5
  of_5 = of_top before_4 refl

  end_5 : run (language 4) failing_chunk limit (form 5) work_5 [] ≡ ends (gave (nil)) []
  unfolding run walk digits
  end_5 = refl

  gives_5 : GivesHere (form 5) (gave (nil))
  gives_5 = gives of_5 (no_answer of_5) end_5

  demand_1_at_5 : Demand (language 4) failing_chunk limit 5 (form 1)
  demand_1_at_5 = demands_form {i = 0} (omega arith)

  demand_2_at_5 : Demand (language 4) failing_chunk limit 5 (form 2)
  demand_2_at_5 = demands_form {i = 1} (omega arith)

  demand_3_at_5 : Demand (language 4) failing_chunk limit 5 (form 3)
  demand_3_at_5 = demands_form {i = 2} (omega arith)

  demand_4_at_5 : Demand (language 4) failing_chunk limit 5 (form 4)
  demand_4_at_5 = demands_form {i = 3} (omega arith)

  demand_5_at_5 : Demand (language 4) failing_chunk limit 5 (form 5)
  demand_5_at_5 = demands_form {i = 4} (omega arith)

  fails_2_1_at_5 : FailsLazily (language 4) failing_chunk limit 5 part_2_1
  fails_2_1_at_5 = fails_lazily is_2_1 gives_2_1

  demand_3_again_at_5 : Demand (language 4) failing_chunk limit 5 retry_3
  demand_3_again_at_5 = demands_retry demand_3_at_5 of_3 (no_answer of_3) needs_3_0 fails_2_1_at_5

  demand_4_again_at_5 : Demand (language 4) failing_chunk limit 5 retry_4
  demand_4_again_at_5 = demands_retry demand_4_at_5 of_4 (no_answer of_4) needs_4_0 fails_2_1_at_5

  futures_1_at_5 : (j : ℕ) (t : Term Name) → slice_get [] j ≡ Some (made Future t) → IsIn (part (form 1) (suc j)) among_5
  futures_1_at_5 j t p = absurd cc

  abbrev row_1_at_5 : Row (language 4) failing_chunk limit 5 among_5
  row_1_at_5 = record { name = (form 1); followed = record { w = work_1; a = []; o = gave (nil); ms = []; of = of_1; answers = (no_answer of_1); end = end_1; asks = none_leads; futures = futures_1_at_5 }; demand = demand_1_at_5 }

  futures_2_at_5 : (j : ℕ) (t : Term Name) → slice_get makes_2_1 j ≡ Some (made Future t) → IsIn (part (form 2) (suc j)) among_5
  futures_2_at_5 zero t p = absurd cc
  futures_2_at_5 (suc j) t p = absurd cc

  abbrev row_2_at_5 : Row (language 4) failing_chunk limit 5 among_5
  row_2_at_5 = record { name = (form 2); followed = record { w = work_2; a = []; o = gave (cell part_2_1); ms = makes_2_1; of = of_2; answers = (no_answer of_2); end = end_2; asks = none_leads; futures = futures_2_at_5 }; demand = demand_2_at_5 }

  futures_3_at_5 : (j : ℕ) (t : Term Name) → slice_get [] j ≡ Some (made Future t) → IsIn (part (form 3) (suc j)) among_5
  futures_3_at_5 j t p = absurd cc

  abbrev row_3_at_5 : Row (language 4) failing_chunk limit 5 among_5
  row_3_at_5 = record { name = (form 3); followed = record { w = work_3; a = answers_3_1; o = threw Divide; ms = []; of = of_3; answers = true_3_1; end = end_3; asks = (one_leads (leads_back fails_2_1_at_5 (there (there (there (there (there here)))))) none_leads); futures = futures_3_at_5 }; demand = demand_3_at_5 }

  futures_4_at_5 : (j : ℕ) (t : Term Name) → slice_get [] j ≡ Some (made Future t) → IsIn (part (form 4) (suc j)) among_5
  futures_4_at_5 j t p = absurd cc

  abbrev row_4_at_5 : Row (language 4) failing_chunk limit 5 among_5
  row_4_at_5 = record { name = (form 4); followed = record { w = work_4; a = answers_4_1; o = threw Divide; ms = []; of = of_4; answers = true_4_1; end = end_4; asks = (one_leads (leads_back fails_2_1_at_5 (there (there (there (there (there (there here))))))) none_leads); futures = futures_4_at_5 }; demand = demand_4_at_5 }

  futures_5_at_5 : (j : ℕ) (t : Term Name) → slice_get [] j ≡ Some (made Future t) → IsIn (part (form 5) (suc j)) among_5
  futures_5_at_5 j t p = absurd cc

  abbrev row_5_at_5 : Row (language 4) failing_chunk limit 5 among_5
  row_5_at_5 = record { name = (form 5); followed = record { w = work_5; a = []; o = gave (nil); ms = []; of = of_5; answers = (no_answer of_5); end = end_5; asks = none_leads; futures = futures_5_at_5 }; demand = demand_5_at_5 }

  futures_3_again_at_5 : (j : ℕ) (t : Term Name) → slice_get [] j ≡ Some (made Future t) → IsIn (part retry_3 (suc j)) among_5
  futures_3_again_at_5 j t p = absurd cc

  abbrev row_3_again_at_5 : Row (language 4) failing_chunk limit 5 among_5
  row_3_again_at_5 = record { name = retry_3; followed = record { w = work_3_again; a = []; o = threw Divide; ms = []; of = of_3_again; answers = (no_answer of_3_again); end = end_3_again; asks = none_leads; futures = futures_3_again_at_5 }; demand = demand_3_again_at_5 }

  futures_4_again_at_5 : (j : ℕ) (t : Term Name) → slice_get [] j ≡ Some (made Future t) → IsIn (part retry_4 (suc j)) among_5
  futures_4_again_at_5 j t p = absurd cc

  abbrev row_4_again_at_5 : Row (language 4) failing_chunk limit 5 among_5
  row_4_again_at_5 = record { name = retry_4; followed = record { w = work_4_again; a = []; o = threw Divide; ms = []; of = of_4_again; answers = (no_answer of_4_again); end = end_4_again; asks = none_leads; futures = futures_4_again_at_5 }; demand = demand_4_again_at_5 }

  abbrev rows_at_5 : List (Row (language 4) failing_chunk limit 5 among_5)
  rows_at_5 = row_1_at_5 ∷ row_2_at_5 ∷ row_3_at_5 ∷ row_4_at_5 ∷ row_5_at_5 ∷ row_3_again_at_5 ∷ row_4_again_at_5 ∷ []

  forms_at_5 : (i : ℕ) → i < 5 → IsIn (form (suc i)) among_5
  forms_at_5 zero h = here
  forms_at_5 (suc zero) h = (there here)
  forms_at_5 (suc (suc zero)) h = (there (there here))
  forms_at_5 (suc (suc (suc zero))) h = (there (there (there here)))
  forms_at_5 (suc (suc (suc (suc zero)))) h = (there (there (there (there here))))
  forms_at_5 (suc (suc (suc (suc (suc i))))) h = absurd (omega arith)

  totals_at_5 : Totals failing_chunk limit 5 1 0 2
  totals_at_5 = totals_of (language 4) failing_chunk limit 5 among_5 rows_at_5 forms_at_5 refl refl refl refl refl refl refl

  given_2_1_at_5 : ¬ (IsIn part_2_1 (given_in (language 4) failing_chunk limit 5 among_5 rows_at_5))
  given_2_1_at_5 = none_among (given_in (language 4) failing_chunk limit 5 among_5 rows_at_5) refl

  unrealised_2_1_at_5 : ¬ (Realised (language 4) failing_chunk limit 5 part_2_1)
  unrealised_2_1_at_5 h = given_2_1_at_5 (only_given (language 4) failing_chunk limit 5 among_5 rows_at_5 forms_at_5 refl _ h)

  before_5 : Before (language 4) failing_chunk limit 5 (nil ∷ cell part_2_1 ∷ nil ∷ nil ∷ nil ∷ [])
  before_5 = other_before before_4 refl ledger_none refl

  line_5 : Line (language 4) failing_chunk limit 5 (codes "q 0\ncells 1 realised 0 failed 2\n")
  unfolding digits
  line_5 = line_of_ledger refl (ledger_of {makes = 1} {realises = 0} {fails = 2} before_5 (line_of refl (front_unrealised unrealised_2_1_at_5) no_lines) totals_at_5.0 totals_at_5.1 totals_at_5.2)

  output_5 : Output (language 4) failing_chunk limit 5 (codes "threw divide\nthrew divide\nq 0\ncells 1 realised 0 failed 2\n")
  output_5 = one_more_line output_4 line_5

  no_throw_1 : ¬ (DefThrows (language 4) failing_chunk limit 1)
  no_throw_1 (def_throws {i = i} p q g) = let r : i ≡ 0 = cc in let t : slice_get failing_chunk.tops 0 ≡ Some (def _ _) = rw r at q in absurd cc

  no_throw_2 : ¬ (DefThrows (language 4) failing_chunk limit 2)
  no_throw_2 (def_throws {i = i} p q g) = let s = one_gives (language 4) failing_chunk limit gives_2 g in absurd cc

  no_throw_3 : ¬ (DefThrows (language 4) failing_chunk limit 3)
  no_throw_3 (def_throws {i = i} p q g) = let r : i ≡ 2 = cc in let t : slice_get failing_chunk.tops 2 ≡ Some (def _ _) = rw r at q in absurd cc

  no_throw_4 : ¬ (DefThrows (language 4) failing_chunk limit 4)
  no_throw_4 (def_throws {i = i} p q g) = let r : i ≡ 3 = cc in let t : slice_get failing_chunk.tops 3 ≡ Some (def _ _) = rw r at q in absurd cc

  no_throw_5 : ¬ (DefThrows (language 4) failing_chunk limit 5)
  no_throw_5 (def_throws {i = i} p q g) = let r : i ≡ 4 = cc in let t : slice_get failing_chunk.tops 4 ≡ Some (def _ _) = rw r at q in absurd cc

  reached : (cells : ℕ) → 1 ≤ cells → IsReached (language 4) failing_chunk limit cells 6
  reached cells h zero p q = absurd (omega arith)
  reached cells h (suc zero) p q = (fits_of totals_at_1.0 cells (omega arith), no_throw_1)
  reached cells h (suc (suc zero)) p q = (fits_of totals_at_2.0 cells (omega arith), no_throw_2)
  reached cells h (suc (suc (suc zero))) p q = (fits_of totals_at_3.0 cells (omega arith), no_throw_3)
  reached cells h (suc (suc (suc (suc zero)))) p q = (fits_of totals_at_4.0 cells (omega arith), no_throw_4)
  reached cells h (suc (suc (suc (suc (suc zero))))) p q = (fits_of totals_at_5.0 cells (omega arith), no_throw_5)
  reached cells h (suc (suc (suc (suc (suc (suc i)))))) p q = absurd (omega arith)

  ran : (cells : ℕ) → 1 ≤ cells → Ran (language 4) failing_chunk limit cells done (codes "threw divide\nthrew divide\nq 0\ncells 1 realised 0 failed 2\n")
  ran cells h = ran_through (reached cells h) output_5

pub failing_chunk_is_written : FailingChunkWritten
failing_chunk_is_written = λ limit cells h c. from_past (λ limit. Ran (language 4) failing_chunk limit cells done (codes "threw divide\nthrew divide\nq 0\ncells 1 realised 0 failed 2\n")) 18 limit h (λ n. ran n cells c)

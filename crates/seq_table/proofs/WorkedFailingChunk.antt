-- A chunk of which one call throws: each form that asks it fails by an attempt of its own, by computation.
use Rattle.std.proofs.Common.{◌≡◌, ℕ, zero, suc, ◌<◌, pos, List, [], ◌∷◌, refl, ap, Some, slice_get, arith}
use Rattle.std.specs.Fmt.{digits}
use Rattle.seq_base.specs.declared.thrown.Thrown.TheVariants.{Steps, Divide}
use Rattle.seq_values.specs.declared.words.Kind.TheVariants.{Lazy, Future}
use Rattle.seq_values.specs.declared.words.Op.TheVariants as O
use Rattle.seq_values.specs.declared.words.Target.TheVariants as T
use Rattle.seq_values.specs.Model.{nil, function, cell, range, no_values, Term, Outcome, gave, threw}
use Rattle.seq_meaning.specs.Walk.{Made, made, needs, ends, makes_of, walk}
use Rattle.seq_meaning.specs.Names.{Name, form, part, retry}
use Rattle.seq_meaning.specs.Gives.{Work, work, of_form, of_term, run, Of, of_top, of_part, of_retry, Part, part_of, True, no_answer, one_more, Gives, gives, Before, none_before, def_before, other_before, defn_none, prn_none}
use Rattle.seq_meaning.specs.Counts.{FailsLazily, fails_lazily, Demand, demands_form, demands_retry, IsIn, here, there}
use Rattle.seq_meaning.proofs.Closing.{leads_back, none_leads, one_leads}
use Rattle.seq_meaning.proofs.Worked.{past, from_past}
use Rattle.seq_table.specs.Table.{language}
use Rattle.seq_table.specs.Worked.{Throws, Totals, failing_chunk_1, failing_chunk_2, failing_chunk_3, failing_chunk_4, failing_chunk_5, failing_chunk, FailingChunk}
use Rattle.seq_table.proofs.Rows.{Row, totals_of}

-- the parts, and the attempts at them
abbrev part_2_1 : Name
part_2_1 = part (form 2) 1

abbrev retry_3 : Name
retry_3 = retry (form 3)

abbrev retry_4 : Name
retry_4 = retry (form 4)

-- works, makes and answers
abbrev work_3 : Work
work_3 = work (nil ∷ cell part_2_1 ∷ []) (of_form failing_chunk_3)

abbrev work_2 : Work
work_2 = work (nil ∷ []) (of_form failing_chunk_2)

abbrev makes_2_1 : List (Made Name)
makes_2_1 = made Lazy (record { op = O.Map; args = function (T.User 0) no_values ∷ range (pos 0) (pos 0) (pos 10) ∷ [] }) ∷ []

abbrev work_2_1 : Work
work_2_1 = work (nil ∷ []) (of_term (record { op = O.Map; args = function (T.User 0) no_values ∷ range (pos 0) (pos 0) (pos 10) ∷ [] }))

abbrev answers_3_1 : List (Outcome Name)
answers_3_1 = threw Divide ∷ []

abbrev work_4 : Work
work_4 = work (nil ∷ cell part_2_1 ∷ nil ∷ []) (of_form failing_chunk_4)

abbrev answers_4_1 : List (Outcome Name)
answers_4_1 = threw Divide ∷ []

abbrev work_1 : Work
work_1 = work [] (of_form failing_chunk_1)

abbrev work_5 : Work
work_5 = work (nil ∷ cell part_2_1 ∷ nil ∷ nil ∷ []) (of_form failing_chunk_5)

abbrev work_3_again : Work
work_3_again = work (nil ∷ []) (of_term (record { op = O.Map; args = function (T.User 0) no_values ∷ range (pos 0) (pos 0) (pos 10) ∷ [] }))

abbrev work_4_again : Work
work_4_again = work (nil ∷ []) (of_term (record { op = O.Map; args = function (T.User 0) no_values ∷ range (pos 0) (pos 0) (pos 10) ∷ [] }))

abbrev among_5 : List Name
among_5 = (form 1) ∷ (form 2) ∷ (form 3) ∷ (form 4) ∷ (form 5) ∷ retry_3 ∷ retry_4 ∷ []

abbrev work_3_below : Work
work_3_below = work (nil ∷ cell part_2_1 ∷ []) (of_form failing_chunk_3)

abbrev work_2_below : Work
work_2_below = work (nil ∷ []) (of_form failing_chunk_2)

abbrev makes_2_1_below : List (Made Name)
makes_2_1_below = made Lazy (record { op = O.Map; args = function (T.User 0) no_values ∷ range (pos 0) (pos 0) (pos 10) ∷ [] }) ∷ []

abbrev work_2_1_below : Work
work_2_1_below = work (nil ∷ []) (of_term (record { op = O.Map; args = function (T.User 0) no_values ∷ range (pos 0) (pos 0) (pos 10) ∷ [] }))

abbrev answers_3_1_below : List (Outcome Name)
answers_3_1_below = threw Steps ∷ []

-- With 18 steps or more:
module _ (n : ℕ) where
  abbrev limit : ℕ
  limit = past 18 n

  abbrev OfHere : Name → Work → Type 0
  OfHere e w = Of (language 4) failing_chunk limit e w

  abbrev GivesHere : Name → Outcome Name → Type 0
  GivesHere e o = Gives (language 4) failing_chunk limit e o

  abbrev TrueHere : Name → List (Outcome Name) → Type 0
  TrueHere e a = True (language 4) failing_chunk limit e a

  before_0 : Before (language 4) failing_chunk limit 0 ([])
  before_0 = none_before

  before_1 : Before (language 4) failing_chunk limit 1 (nil ∷ [])
  before_1 = other_before before_0 refl defn_none refl

  of_2 : OfHere (form 2) work_2
  of_2 = of_top before_1 refl

  end_2 : run (language 4) failing_chunk limit (form 2) work_2 [] ≡ ends (gave (cell part_2_1)) makes_2_1
  unfolding run walk digits
  end_2 = refl

  gives_2 : GivesHere (form 2) (gave (cell part_2_1))
  gives_2 = gives of_2 (no_answer of_2) end_2

  before_2 : Before (language 4) failing_chunk limit 2 (nil ∷ cell part_2_1 ∷ [])
  before_2 = def_before before_1 refl gives_2 refl

  of_3 : OfHere (form 3) work_3
  of_3 = of_top before_2 refl

  needs_3_0 : run (language 4) failing_chunk limit (form 3) work_3 [] ≡ needs part_2_1 []
  unfolding run walk digits
  needs_3_0 = refl

  is_2_1 : Part (language 4) failing_chunk limit part_2_1 Lazy work_2_1
  is_2_1 = part_of {j = 0} of_2 (no_answer of_2) (ap (λ r. slice_get (makes_of r) 0) end_2)

  of_2_1 : OfHere part_2_1 work_2_1
  of_2_1 = of_part is_2_1

  end_2_1 : run (language 4) failing_chunk limit part_2_1 work_2_1 [] ≡ ends (threw Divide) []
  unfolding run walk digits
  end_2_1 = by n
    where
      by : (n : ℕ) → run (language 4) failing_chunk (past 18 n) part_2_1 work_2_1 [] ≡ ends (threw Divide) []
      by zero = refl
      by (suc n) = refl

  gives_2_1 : GivesHere part_2_1 (threw Divide)
  gives_2_1 = gives of_2_1 (no_answer of_2_1) end_2_1

  abbrev true_3_1 : TrueHere (form 3) answers_3_1
  true_3_1 = one_more of_3 (no_answer of_3) needs_3_0 gives_2_1

  end_3 : run (language 4) failing_chunk limit (form 3) work_3 answers_3_1 ≡ ends (threw Divide) []
  unfolding run walk digits
  end_3 = refl

  gives_3 : GivesHere (form 3) (threw Divide)
  gives_3 = gives of_3 true_3_1 end_3

  before_3 : Before (language 4) failing_chunk limit 3 (nil ∷ cell part_2_1 ∷ nil ∷ [])
  before_3 = other_before before_2 refl prn_none refl

  of_4 : OfHere (form 4) work_4
  of_4 = of_top before_3 refl

  needs_4_0 : run (language 4) failing_chunk limit (form 4) work_4 [] ≡ needs part_2_1 []
  unfolding run walk digits
  needs_4_0 = refl

  abbrev true_4_1 : TrueHere (form 4) answers_4_1
  true_4_1 = one_more of_4 (no_answer of_4) needs_4_0 gives_2_1

  end_4 : run (language 4) failing_chunk limit (form 4) work_4 answers_4_1 ≡ ends (threw Divide) []
  unfolding run walk digits
  end_4 = refl

  gives_4 : GivesHere (form 4) (threw Divide)
  gives_4 = gives of_4 true_4_1 end_4

  of_1 : OfHere (form 1) work_1
  of_1 = of_top before_0 refl

  end_1 : run (language 4) failing_chunk limit (form 1) work_1 [] ≡ ends (gave (nil)) []
  unfolding run walk digits
  end_1 = refl

  gives_1 : GivesHere (form 1) (gave (nil))
  gives_1 = gives of_1 (no_answer of_1) end_1

  before_4 : Before (language 4) failing_chunk limit 4 (nil ∷ cell part_2_1 ∷ nil ∷ nil ∷ [])
  before_4 = other_before before_3 refl prn_none refl

  of_5 : OfHere (form 5) work_5
  of_5 = of_top before_4 refl

  end_5 : run (language 4) failing_chunk limit (form 5) work_5 [] ≡ ends (gave (nil)) []
  unfolding run walk digits
  end_5 = refl

  gives_5 : GivesHere (form 5) (gave (nil))
  gives_5 = gives of_5 (no_answer of_5) end_5

  of_3_again : OfHere retry_3 work_3_again
  of_3_again = of_retry of_3 (no_answer of_3) needs_3_0 is_2_1 gives_2_1

  end_3_again : run (language 4) failing_chunk limit retry_3 work_3_again [] ≡ ends (threw Divide) []
  unfolding run walk digits
  end_3_again = by n
    where
      by : (n : ℕ) → run (language 4) failing_chunk (past 18 n) retry_3 work_3_again [] ≡ ends (threw Divide) []
      by zero = refl
      by (suc n) = refl

  gives_3_again : GivesHere retry_3 (threw Divide)
  gives_3_again = gives of_3_again (no_answer of_3_again) end_3_again

  of_4_again : OfHere retry_4 work_4_again
  of_4_again = of_retry of_4 (no_answer of_4) needs_4_0 is_2_1 gives_2_1

  end_4_again : run (language 4) failing_chunk limit retry_4 work_4_again [] ≡ ends (threw Divide) []
  unfolding run walk digits
  end_4_again = by n
    where
      by : (n : ℕ) → run (language 4) failing_chunk (past 18 n) retry_4 work_4_again [] ≡ ends (threw Divide) []
      by zero = refl
      by (suc n) = refl

  gives_4_again : GivesHere retry_4 (threw Divide)
  gives_4_again = gives of_4_again (no_answer of_4_again) end_4_again

  demand_1_at_5 : Demand (language 4) failing_chunk limit 5 (form 1)
  demand_1_at_5 = demands_form {i = 0} (omega arith)

  demand_2_at_5 : Demand (language 4) failing_chunk limit 5 (form 2)
  demand_2_at_5 = demands_form {i = 1} (omega arith)

  demand_3_at_5 : Demand (language 4) failing_chunk limit 5 (form 3)
  demand_3_at_5 = demands_form {i = 2} (omega arith)

  demand_4_at_5 : Demand (language 4) failing_chunk limit 5 (form 4)
  demand_4_at_5 = demands_form {i = 3} (omega arith)

  demand_5_at_5 : Demand (language 4) failing_chunk limit 5 (form 5)
  demand_5_at_5 = demands_form {i = 4} (omega arith)

  fails_2_1_at_5 : FailsLazily (language 4) failing_chunk limit 5 part_2_1
  fails_2_1_at_5 = fails_lazily is_2_1 gives_2_1

  demand_3_again_at_5 : Demand (language 4) failing_chunk limit 5 retry_3
  demand_3_again_at_5 = demands_retry demand_3_at_5 of_3 (no_answer of_3) needs_3_0 fails_2_1_at_5

  demand_4_again_at_5 : Demand (language 4) failing_chunk limit 5 retry_4
  demand_4_again_at_5 = demands_retry demand_4_at_5 of_4 (no_answer of_4) needs_4_0 fails_2_1_at_5

  futures_1_at_5 : (j : ℕ) (t : Term Name) → slice_get [] j ≡ Some (made Future t) → IsIn (part (form 1) (suc j)) among_5
  futures_1_at_5 j t p = absurd cc

  abbrev row_1_at_5 : Row (language 4) failing_chunk limit 5 among_5
  row_1_at_5 = record { name = (form 1); followed = record { w = work_1; a = []; o = gave (nil); ms = []; of = of_1; answers = (no_answer of_1); end = end_1; asks = none_leads; futures = futures_1_at_5 }; demand = demand_1_at_5 }

  futures_2_at_5 : (j : ℕ) (t : Term Name) → slice_get makes_2_1 j ≡ Some (made Future t) → IsIn (part (form 2) (suc j)) among_5
  futures_2_at_5 zero t p = absurd cc
  futures_2_at_5 (suc j) t p = absurd cc

  abbrev row_2_at_5 : Row (language 4) failing_chunk limit 5 among_5
  row_2_at_5 = record { name = (form 2); followed = record { w = work_2; a = []; o = gave (cell part_2_1); ms = makes_2_1; of = of_2; answers = (no_answer of_2); end = end_2; asks = none_leads; futures = futures_2_at_5 }; demand = demand_2_at_5 }

  futures_3_at_5 : (j : ℕ) (t : Term Name) → slice_get [] j ≡ Some (made Future t) → IsIn (part (form 3) (suc j)) among_5
  futures_3_at_5 j t p = absurd cc

  abbrev row_3_at_5 : Row (language 4) failing_chunk limit 5 among_5
  row_3_at_5 = record { name = (form 3); followed = record { w = work_3; a = answers_3_1; o = threw Divide; ms = []; of = of_3; answers = true_3_1; end = end_3; asks = (one_leads (leads_back fails_2_1_at_5 (there (there (there (there (there here)))))) none_leads); futures = futures_3_at_5 }; demand = demand_3_at_5 }

  futures_4_at_5 : (j : ℕ) (t : Term Name) → slice_get [] j ≡ Some (made Future t) → IsIn (part (form 4) (suc j)) among_5
  futures_4_at_5 j t p = absurd cc

  abbrev row_4_at_5 : Row (language 4) failing_chunk limit 5 among_5
  row_4_at_5 = record { name = (form 4); followed = record { w = work_4; a = answers_4_1; o = threw Divide; ms = []; of = of_4; answers = true_4_1; end = end_4; asks = (one_leads (leads_back fails_2_1_at_5 (there (there (there (there (there (there here))))))) none_leads); futures = futures_4_at_5 }; demand = demand_4_at_5 }

  futures_5_at_5 : (j : ℕ) (t : Term Name) → slice_get [] j ≡ Some (made Future t) → IsIn (part (form 5) (suc j)) among_5
  futures_5_at_5 j t p = absurd cc

  abbrev row_5_at_5 : Row (language 4) failing_chunk limit 5 among_5
  row_5_at_5 = record { name = (form 5); followed = record { w = work_5; a = []; o = gave (nil); ms = []; of = of_5; answers = (no_answer of_5); end = end_5; asks = none_leads; futures = futures_5_at_5 }; demand = demand_5_at_5 }

  futures_3_again_at_5 : (j : ℕ) (t : Term Name) → slice_get [] j ≡ Some (made Future t) → IsIn (part retry_3 (suc j)) among_5
  futures_3_again_at_5 j t p = absurd cc

  abbrev row_3_again_at_5 : Row (language 4) failing_chunk limit 5 among_5
  row_3_again_at_5 = record { name = retry_3; followed = record { w = work_3_again; a = []; o = threw Divide; ms = []; of = of_3_again; answers = (no_answer of_3_again); end = end_3_again; asks = none_leads; futures = futures_3_again_at_5 }; demand = demand_3_again_at_5 }

  futures_4_again_at_5 : (j : ℕ) (t : Term Name) → slice_get [] j ≡ Some (made Future t) → IsIn (part retry_4 (suc j)) among_5
  futures_4_again_at_5 j t p = absurd cc

  abbrev row_4_again_at_5 : Row (language 4) failing_chunk limit 5 among_5
  row_4_again_at_5 = record { name = retry_4; followed = record { w = work_4_again; a = []; o = threw Divide; ms = []; of = of_4_again; answers = (no_answer of_4_again); end = end_4_again; asks = none_leads; futures = futures_4_again_at_5 }; demand = demand_4_again_at_5 }

  abbrev rows_at_5 : List (Row (language 4) failing_chunk limit 5 among_5)
  rows_at_5 = row_1_at_5 ∷ row_2_at_5 ∷ row_3_at_5 ∷ row_4_at_5 ∷ row_5_at_5 ∷ row_3_again_at_5 ∷ row_4_again_at_5 ∷ []

  forms_at_5 : (i : ℕ) → i < 5 → IsIn (form (suc i)) among_5
  forms_at_5 zero h = here
  forms_at_5 (suc zero) h = (there here)
  forms_at_5 (suc (suc zero)) h = (there (there here))
  forms_at_5 (suc (suc (suc zero))) h = (there (there (there here)))
  forms_at_5 (suc (suc (suc (suc zero)))) h = (there (there (there (there here))))
  forms_at_5 (suc (suc (suc (suc (suc i))))) h = absurd (omega arith)

  totals_at_5 : Totals failing_chunk limit 5 1 0 2
  totals_at_5 = totals_of (language 4) failing_chunk limit 5 among_5 rows_at_5 forms_at_5 refl refl refl refl refl refl refl

-- With 17 steps:
abbrev limit_below : ℕ
limit_below = 17

abbrev OfHere_below : Name → Work → Type 0
OfHere_below e w = Of (language 4) failing_chunk limit_below e w

abbrev GivesHere_below : Name → Outcome Name → Type 0
GivesHere_below e o = Gives (language 4) failing_chunk limit_below e o

abbrev TrueHere_below : Name → List (Outcome Name) → Type 0
TrueHere_below e a = True (language 4) failing_chunk limit_below e a

before_0_below : Before (language 4) failing_chunk limit_below 0 ([])
before_0_below = none_before

before_1_below : Before (language 4) failing_chunk limit_below 1 (nil ∷ [])
before_1_below = other_before before_0_below refl defn_none refl

of_2_below : OfHere_below (form 2) work_2_below
of_2_below = of_top before_1_below refl

end_2_below : run (language 4) failing_chunk limit_below (form 2) work_2_below [] ≡ ends (gave (cell part_2_1)) makes_2_1_below
unfolding run walk digits
end_2_below = refl

gives_2_below : GivesHere_below (form 2) (gave (cell part_2_1))
gives_2_below = gives of_2_below (no_answer of_2_below) end_2_below

before_2_below : Before (language 4) failing_chunk limit_below 2 (nil ∷ cell part_2_1 ∷ [])
before_2_below = def_before before_1_below refl gives_2_below refl

of_3_below : OfHere_below (form 3) work_3_below
of_3_below = of_top before_2_below refl

needs_3_0_below : run (language 4) failing_chunk limit_below (form 3) work_3_below [] ≡ needs part_2_1 []
unfolding run walk digits
needs_3_0_below = refl

is_2_1_below : Part (language 4) failing_chunk limit_below part_2_1 Lazy work_2_1_below
is_2_1_below = part_of {j = 0} of_2_below (no_answer of_2_below) (ap (λ r. slice_get (makes_of r) 0) end_2_below)

of_2_1_below : OfHere_below part_2_1 work_2_1_below
of_2_1_below = of_part is_2_1_below

end_2_1_below : run (language 4) failing_chunk limit_below part_2_1 work_2_1_below [] ≡ ends (threw Steps) []
unfolding run walk digits
end_2_1_below = refl

gives_2_1_below : GivesHere_below part_2_1 (threw Steps)
gives_2_1_below = gives of_2_1_below (no_answer of_2_1_below) end_2_1_below

abbrev true_3_1_below : TrueHere_below (form 3) answers_3_1_below
true_3_1_below = one_more of_3_below (no_answer of_3_below) needs_3_0_below gives_2_1_below

end_3_below : run (language 4) failing_chunk limit_below (form 3) work_3_below answers_3_1_below ≡ ends (threw Steps) []
unfolding run walk digits
end_3_below = refl

gives_3_below : GivesHere_below (form 3) (threw Steps)
gives_3_below = gives of_3_below true_3_1_below end_3_below

pub failing_chunk_holds : FailingChunk
failing_chunk_holds = (λ limit h. from_past (λ limit. Throws failing_chunk limit 3 Divide × Throws failing_chunk limit 4 Divide × Totals failing_chunk limit 5 1 0 2) 18 limit h (λ n. (gives_3 n, gives_4 n, totals_at_5 n)), gives_3_below)

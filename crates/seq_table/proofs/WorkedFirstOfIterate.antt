-- Where the collection is not chunked, one element is mapped, by computation.
use Rattle.std.proofs.Common.{◌≡◌, ℕ, zero, suc, ◌<◌, pos, List, [], ◌∷◌, codes, refl, ap, Some, slice_get, arith}
use Rattle.std.specs.Fmt.{digits}
use Rattle.seq_base.specs.declared.thrown.Thrown.TheVariants.{Steps}
use Rattle.seq_values.specs.declared.words.Builtin.TheVariants as B
use Rattle.seq_values.specs.declared.words.Kind.TheVariants.{Lazy, Future}
use Rattle.seq_values.specs.declared.words.Op.TheVariants as O
use Rattle.seq_values.specs.declared.words.Target.TheVariants as T
use Rattle.seq_values.specs.Model.{nil, int, text, function, cell, cons, no_values, ◌&◌, Term, Outcome, gave, threw}
use Rattle.seq_meaning.specs.Walk.{Made, made, needs, ends, makes_of, walk}
use Rattle.seq_meaning.specs.Names.{Name, form, part}
use Rattle.seq_meaning.specs.Gives.{Work, work, of_form, of_term, run, Of, of_top, of_part, Part, part_of, True, no_answer, one_more, Gives, gives, Before, none_before, def_before, other_before, prn_none}
use Rattle.seq_meaning.specs.Counts.{Demand, demands_form, demands_need, IsIn, here, there}
use Rattle.seq_meaning.proofs.Closing.{leads_on, none_leads, one_leads, no_failure}
use Rattle.seq_meaning.proofs.Worked.{past, from_past}
use Rattle.seq_table.specs.Table.{language}
use Rattle.seq_table.specs.Worked.{Prints, Totals, first_of_iterate_1, first_of_iterate_2, first_of_iterate_3, first_of_iterate, FirstOfIterate}
use Rattle.seq_table.proofs.Rows.{Row, totals_of}

-- the parts, and the attempts at them
abbrev part_1_2 : Name
part_1_2 = part (form 1) 2

abbrev part_1_1 : Name
part_1_1 = part (form 1) 1

abbrev part_1_2_1 : Name
part_1_2_1 = part part_1_2 1

-- works, makes and answers
abbrev work_2 : Work
work_2 = work (cell part_1_2 ∷ []) (of_form first_of_iterate_2)

abbrev work_1 : Work
work_1 = work [] (of_form first_of_iterate_1)

abbrev makes_1_2 : List (Made Name)
makes_1_2 = made Lazy (record { op = O.Next; args = function (T.Builtin B.Inc) no_values ∷ int (pos 0) ∷ [] }) ∷ made Lazy (record { op = O.Map; args = function (T.Builtin B.Inc) no_values ∷ cons (int (pos 0) & no_values) (cell part_1_1) ∷ [] }) ∷ []

abbrev work_1_2 : Work
work_1_2 = work ([]) (of_term (record { op = O.Map; args = function (T.Builtin B.Inc) no_values ∷ cons (int (pos 0) & no_values) (cell part_1_1) ∷ [] }))

abbrev makes_1_2_1 : List (Made Name)
makes_1_2_1 = made Lazy (record { op = O.Map; args = function (T.Builtin B.Inc) no_values ∷ cell part_1_1 ∷ [] }) ∷ []

abbrev answers_2_1 : List (Outcome Name)
answers_2_1 = gave (cons (int (pos 1) & no_values) (cell part_1_2_1)) ∷ []

abbrev work_3 : Work
work_3 = work (cell part_1_2 ∷ nil ∷ []) (of_form first_of_iterate_3)

abbrev among_3 : List Name
among_3 = (form 1) ∷ (form 2) ∷ (form 3) ∷ part_1_2 ∷ []

abbrev work_2_below : Work
work_2_below = work (cell part_1_2 ∷ []) (of_form first_of_iterate_2)

abbrev work_1_below : Work
work_1_below = work [] (of_form first_of_iterate_1)

abbrev makes_1_2_below : List (Made Name)
makes_1_2_below = made Lazy (record { op = O.Next; args = function (T.Builtin B.Inc) no_values ∷ int (pos 0) ∷ [] }) ∷ made Lazy (record { op = O.Map; args = function (T.Builtin B.Inc) no_values ∷ cons (int (pos 0) & no_values) (cell part_1_1) ∷ [] }) ∷ []

abbrev work_1_2_below : Work
work_1_2_below = work ([]) (of_term (record { op = O.Map; args = function (T.Builtin B.Inc) no_values ∷ cons (int (pos 0) & no_values) (cell part_1_1) ∷ [] }))

abbrev makes_1_2_1_below : List (Made Name)
makes_1_2_1_below = made Lazy (record { op = O.Map; args = function (T.Builtin B.Inc) no_values ∷ cell part_1_1 ∷ [] }) ∷ []

abbrev answers_2_1_below : List (Outcome Name)
answers_2_1_below = gave (cons (int (pos 1) & no_values) (cell part_1_2_1)) ∷ []

-- With 3 steps or more:
module _ (n : ℕ) where
  abbrev limit : ℕ
  limit = past 3 n

  abbrev OfHere : Name → Work → Type 0
  OfHere e w = Of (language 4) first_of_iterate limit e w

  abbrev GivesHere : Name → Outcome Name → Type 0
  GivesHere e o = Gives (language 4) first_of_iterate limit e o

  abbrev TrueHere : Name → List (Outcome Name) → Type 0
  TrueHere e a = True (language 4) first_of_iterate limit e a

  before_0 : Before (language 4) first_of_iterate limit 0 ([])
  before_0 = none_before

  of_1 : OfHere (form 1) work_1
  of_1 = of_top before_0 refl

  end_1 : run (language 4) first_of_iterate limit (form 1) work_1 [] ≡ ends (gave (cell part_1_2)) makes_1_2
  unfolding run walk digits
  end_1 = refl

  gives_1 : GivesHere (form 1) (gave (cell part_1_2))
  gives_1 = gives of_1 (no_answer of_1) end_1

  before_1 : Before (language 4) first_of_iterate limit 1 (cell part_1_2 ∷ [])
  before_1 = def_before before_0 refl gives_1 refl

  of_2 : OfHere (form 2) work_2
  of_2 = of_top before_1 refl

  needs_2_0 : run (language 4) first_of_iterate limit (form 2) work_2 [] ≡ needs part_1_2 []
  unfolding run walk digits
  needs_2_0 = refl

  is_1_2 : Part (language 4) first_of_iterate limit part_1_2 Lazy work_1_2
  is_1_2 = part_of {j = 1} of_1 (no_answer of_1) (ap (λ r. slice_get (makes_of r) 1) end_1)

  of_1_2 : OfHere part_1_2 work_1_2
  of_1_2 = of_part is_1_2

  end_1_2 : run (language 4) first_of_iterate limit part_1_2 work_1_2 [] ≡ ends (gave (cons (int (pos 1) & no_values) (cell part_1_2_1))) makes_1_2_1
  unfolding run walk digits
  end_1_2 = refl

  gives_1_2 : GivesHere part_1_2 (gave (cons (int (pos 1) & no_values) (cell part_1_2_1)))
  gives_1_2 = gives of_1_2 (no_answer of_1_2) end_1_2

  abbrev true_2_1 : TrueHere (form 2) answers_2_1
  true_2_1 = one_more of_2 (no_answer of_2) needs_2_0 gives_1_2

  end_2 : run (language 4) first_of_iterate limit (form 2) work_2 answers_2_1 ≡ ends (gave (text (codes "1"))) []
  unfolding run walk digits
  end_2 = by n
    where
      by : (n : ℕ) → run (language 4) first_of_iterate (past 3 n) (form 2) work_2 answers_2_1 ≡ ends (gave (text (codes "1"))) []
      by zero = refl
      by (suc n) = refl

  gives_2 : GivesHere (form 2) (gave (text (codes "1")))
  gives_2 = gives of_2 true_2_1 end_2

  before_2 : Before (language 4) first_of_iterate limit 2 (cell part_1_2 ∷ nil ∷ [])
  before_2 = other_before before_1 refl prn_none refl

  of_3 : OfHere (form 3) work_3
  of_3 = of_top before_2 refl

  end_3 : run (language 4) first_of_iterate limit (form 3) work_3 [] ≡ ends (gave (nil)) []
  unfolding run walk digits
  end_3 = refl

  gives_3 : GivesHere (form 3) (gave (nil))
  gives_3 = gives of_3 (no_answer of_3) end_3

  demand_1_at_3 : Demand (language 4) first_of_iterate limit 3 (form 1)
  demand_1_at_3 = demands_form {i = 0} (omega arith)

  demand_2_at_3 : Demand (language 4) first_of_iterate limit 3 (form 2)
  demand_2_at_3 = demands_form {i = 1} (omega arith)

  demand_3_at_3 : Demand (language 4) first_of_iterate limit 3 (form 3)
  demand_3_at_3 = demands_form {i = 2} (omega arith)

  demand_1_2_at_3 : Demand (language 4) first_of_iterate limit 3 part_1_2
  demand_1_2_at_3 = demands_need demand_2_at_3 of_2 (no_answer of_2) needs_2_0 (no_failure (language 4) first_of_iterate limit 3 among_3 gives_1_2)

  futures_1_at_3 : (j : ℕ) (t : Term Name) → slice_get makes_1_2 j ≡ Some (made Future t) → IsIn (part (form 1) (suc j)) among_3
  futures_1_at_3 zero t p = absurd cc
  futures_1_at_3 (suc zero) t p = absurd cc
  futures_1_at_3 (suc (suc j)) t p = absurd cc

  abbrev row_1_at_3 : Row (language 4) first_of_iterate limit 3 among_3
  row_1_at_3 = record { name = (form 1); followed = record { w = work_1; a = []; o = gave (cell part_1_2); ms = makes_1_2; of = of_1; answers = (no_answer of_1); end = end_1; asks = none_leads; futures = futures_1_at_3 }; demand = demand_1_at_3 }

  futures_2_at_3 : (j : ℕ) (t : Term Name) → slice_get [] j ≡ Some (made Future t) → IsIn (part (form 2) (suc j)) among_3
  futures_2_at_3 j t p = absurd cc

  abbrev row_2_at_3 : Row (language 4) first_of_iterate limit 3 among_3
  row_2_at_3 = record { name = (form 2); followed = record { w = work_2; a = answers_2_1; o = gave (text (codes "1")); ms = []; of = of_2; answers = true_2_1; end = end_2; asks = (one_leads (leads_on (no_failure (language 4) first_of_iterate limit 3 among_3 gives_1_2) (there (there (there here)))) none_leads); futures = futures_2_at_3 }; demand = demand_2_at_3 }

  futures_3_at_3 : (j : ℕ) (t : Term Name) → slice_get [] j ≡ Some (made Future t) → IsIn (part (form 3) (suc j)) among_3
  futures_3_at_3 j t p = absurd cc

  abbrev row_3_at_3 : Row (language 4) first_of_iterate limit 3 among_3
  row_3_at_3 = record { name = (form 3); followed = record { w = work_3; a = []; o = gave (nil); ms = []; of = of_3; answers = (no_answer of_3); end = end_3; asks = none_leads; futures = futures_3_at_3 }; demand = demand_3_at_3 }

  futures_1_2_at_3 : (j : ℕ) (t : Term Name) → slice_get makes_1_2_1 j ≡ Some (made Future t) → IsIn (part part_1_2 (suc j)) among_3
  futures_1_2_at_3 zero t p = absurd cc
  futures_1_2_at_3 (suc j) t p = absurd cc

  abbrev row_1_2_at_3 : Row (language 4) first_of_iterate limit 3 among_3
  row_1_2_at_3 = record { name = part_1_2; followed = record { w = work_1_2; a = []; o = gave (cons (int (pos 1) & no_values) (cell part_1_2_1)); ms = makes_1_2_1; of = of_1_2; answers = (no_answer of_1_2); end = end_1_2; asks = none_leads; futures = futures_1_2_at_3 }; demand = demand_1_2_at_3 }

  abbrev rows_at_3 : List (Row (language 4) first_of_iterate limit 3 among_3)
  rows_at_3 = row_1_at_3 ∷ row_2_at_3 ∷ row_3_at_3 ∷ row_1_2_at_3 ∷ []

  forms_at_3 : (i : ℕ) → i < 3 → IsIn (form (suc i)) among_3
  forms_at_3 zero h = here
  forms_at_3 (suc zero) h = (there here)
  forms_at_3 (suc (suc zero)) h = (there (there here))
  forms_at_3 (suc (suc (suc i))) h = absurd (omega arith)

  totals_at_3 : Totals first_of_iterate limit 3 3 1 0
  totals_at_3 = totals_of (language 4) first_of_iterate limit 3 among_3 rows_at_3 forms_at_3 refl refl refl refl refl refl refl

-- With 2 steps:
abbrev limit_below : ℕ
limit_below = 2

abbrev OfHere_below : Name → Work → Type 0
OfHere_below e w = Of (language 4) first_of_iterate limit_below e w

abbrev GivesHere_below : Name → Outcome Name → Type 0
GivesHere_below e o = Gives (language 4) first_of_iterate limit_below e o

abbrev TrueHere_below : Name → List (Outcome Name) → Type 0
TrueHere_below e a = True (language 4) first_of_iterate limit_below e a

before_0_below : Before (language 4) first_of_iterate limit_below 0 ([])
before_0_below = none_before

of_1_below : OfHere_below (form 1) work_1_below
of_1_below = of_top before_0_below refl

end_1_below : run (language 4) first_of_iterate limit_below (form 1) work_1_below [] ≡ ends (gave (cell part_1_2)) makes_1_2_below
unfolding run walk digits
end_1_below = refl

gives_1_below : GivesHere_below (form 1) (gave (cell part_1_2))
gives_1_below = gives of_1_below (no_answer of_1_below) end_1_below

before_1_below : Before (language 4) first_of_iterate limit_below 1 (cell part_1_2 ∷ [])
before_1_below = def_before before_0_below refl gives_1_below refl

of_2_below : OfHere_below (form 2) work_2_below
of_2_below = of_top before_1_below refl

needs_2_0_below : run (language 4) first_of_iterate limit_below (form 2) work_2_below [] ≡ needs part_1_2 []
unfolding run walk digits
needs_2_0_below = refl

is_1_2_below : Part (language 4) first_of_iterate limit_below part_1_2 Lazy work_1_2_below
is_1_2_below = part_of {j = 1} of_1_below (no_answer of_1_below) (ap (λ r. slice_get (makes_of r) 1) end_1_below)

of_1_2_below : OfHere_below part_1_2 work_1_2_below
of_1_2_below = of_part is_1_2_below

end_1_2_below : run (language 4) first_of_iterate limit_below part_1_2 work_1_2_below [] ≡ ends (gave (cons (int (pos 1) & no_values) (cell part_1_2_1))) makes_1_2_1_below
unfolding run walk digits
end_1_2_below = refl

gives_1_2_below : GivesHere_below part_1_2 (gave (cons (int (pos 1) & no_values) (cell part_1_2_1)))
gives_1_2_below = gives of_1_2_below (no_answer of_1_2_below) end_1_2_below

abbrev true_2_1_below : TrueHere_below (form 2) answers_2_1_below
true_2_1_below = one_more of_2_below (no_answer of_2_below) needs_2_0_below gives_1_2_below

end_2_below : run (language 4) first_of_iterate limit_below (form 2) work_2_below answers_2_1_below ≡ ends (threw Steps) []
unfolding run walk digits
end_2_below = refl

gives_2_below : GivesHere_below (form 2) (threw Steps)
gives_2_below = gives of_2_below true_2_1_below end_2_below

pub first_of_iterate_holds : FirstOfIterate
first_of_iterate_holds = (λ limit h. from_past (λ limit. Prints first_of_iterate limit 2 (codes "1") × Totals first_of_iterate limit 3 3 1 0) 3 limit h (λ n. (gives_2 n, totals_at_3 n)), gives_2_below)

-- A lazy part and a vector are equal where their elements are, by computation.
use Rattle.std.proofs.Common.{◌≡◌, ℕ, zero, suc, ◌<◌, pos, List, [], ◌∷◌, codes, refl, ap, Some, slice_get, arith}
use Rattle.std.specs.Fmt.{digits}
use Rattle.seq_base.specs.declared.thrown.Thrown.TheVariants.{Steps}
use Rattle.seq_values.specs.declared.words.Builtin.TheVariants as B
use Rattle.seq_values.specs.declared.words.Kind.TheVariants.{Lazy, Future}
use Rattle.seq_values.specs.declared.words.Op.TheVariants as O
use Rattle.seq_values.specs.declared.words.Target.TheVariants as T
use Rattle.seq_values.specs.Model.{nil, int, text, vector, function, cell, empty, chunk, no_values, ◌&◌, Term, Outcome, gave, threw}
use Rattle.seq_meaning.specs.Walk.{Made, made, needs, ends, makes_of, walk}
use Rattle.seq_meaning.specs.Names.{Name, form, part}
use Rattle.seq_meaning.specs.Gives.{Work, work, of_form, of_term, run, Of, of_top, of_part, Part, part_of, True, no_answer, one_more, Gives, gives, Before, none_before}
use Rattle.seq_meaning.specs.Counts.{Demand, demands_form, demands_need, IsIn, here, there}
use Rattle.seq_meaning.proofs.Closing.{leads_on, none_leads, one_leads, no_failure}
use Rattle.seq_meaning.proofs.Worked.{past, from_past}
use Rattle.seq_table.specs.Table.{language}
use Rattle.seq_table.specs.Worked.{Prints, Totals, lazy_and_vector_1, lazy_and_vector, LazyAndVector}
use Rattle.seq_table.proofs.Rows.{Row, totals_of}

-- the parts, and the attempts at them
abbrev part_1_1 : Name
part_1_1 = part (form 1) 1

abbrev part_1_1_1 : Name
part_1_1_1 = part part_1_1 1

-- works, makes and answers
abbrev work_1 : Work
work_1 = work [] (of_form lazy_and_vector_1)

abbrev makes_1_1 : List (Made Name)
makes_1_1 = made Lazy (record { op = O.Map; args = function (T.Builtin B.Inc) no_values ∷ vector (int (pos 0) & int (pos 1) & no_values) ∷ [] }) ∷ []

abbrev work_1_1 : Work
work_1_1 = work ([]) (of_term (record { op = O.Map; args = function (T.Builtin B.Inc) no_values ∷ vector (int (pos 0) & int (pos 1) & no_values) ∷ [] }))

abbrev makes_1_1_1 : List (Made Name)
makes_1_1_1 = made Lazy (record { op = O.Map; args = function (T.Builtin B.Inc) no_values ∷ empty ∷ [] }) ∷ []

abbrev answers_1_1 : List (Outcome Name)
answers_1_1 = gave (chunk (int (pos 1) & int (pos 2) & no_values) (cell part_1_1_1)) ∷ []

abbrev work_1_1_1 : Work
work_1_1_1 = work ([]) (of_term (record { op = O.Map; args = function (T.Builtin B.Inc) no_values ∷ empty ∷ [] }))

abbrev answers_1_2 : List (Outcome Name)
answers_1_2 = gave (nil) ∷ answers_1_1

abbrev among_1 : List Name
among_1 = (form 1) ∷ part_1_1 ∷ part_1_1_1 ∷ []

abbrev work_1_below : Work
work_1_below = work [] (of_form lazy_and_vector_1)

abbrev makes_1_1_below : List (Made Name)
makes_1_1_below = made Lazy (record { op = O.Map; args = function (T.Builtin B.Inc) no_values ∷ vector (int (pos 0) & int (pos 1) & no_values) ∷ [] }) ∷ []

abbrev work_1_1_below : Work
work_1_1_below = work ([]) (of_term (record { op = O.Map; args = function (T.Builtin B.Inc) no_values ∷ vector (int (pos 0) & int (pos 1) & no_values) ∷ [] }))

abbrev makes_1_1_1_below : List (Made Name)
makes_1_1_1_below = made Lazy (record { op = O.Map; args = function (T.Builtin B.Inc) no_values ∷ empty ∷ [] }) ∷ []

abbrev answers_1_1_below : List (Outcome Name)
answers_1_1_below = gave (chunk (int (pos 1) & int (pos 2) & no_values) (cell part_1_1_1)) ∷ []

abbrev work_1_1_1_below : Work
work_1_1_1_below = work ([]) (of_term (record { op = O.Map; args = function (T.Builtin B.Inc) no_values ∷ empty ∷ [] }))

abbrev answers_1_2_below : List (Outcome Name)
answers_1_2_below = gave (nil) ∷ answers_1_1_below

-- With 8 steps or more:
module _ (n : ℕ) where
  abbrev limit : ℕ
  limit = past 8 n

  abbrev OfHere : Name → Work → Type 0
  OfHere e w = Of (language 4) lazy_and_vector limit e w

  abbrev GivesHere : Name → Outcome Name → Type 0
  GivesHere e o = Gives (language 4) lazy_and_vector limit e o

  abbrev TrueHere : Name → List (Outcome Name) → Type 0
  TrueHere e a = True (language 4) lazy_and_vector limit e a

  before_0 : Before (language 4) lazy_and_vector limit 0 ([])
  before_0 = none_before

  of_1 : OfHere (form 1) work_1
  of_1 = of_top before_0 refl

  needs_1_0 : run (language 4) lazy_and_vector limit (form 1) work_1 [] ≡ needs part_1_1 makes_1_1
  unfolding run walk digits
  needs_1_0 = refl

  is_1_1 : Part (language 4) lazy_and_vector limit part_1_1 Lazy work_1_1
  is_1_1 = part_of {j = 0} of_1 (no_answer of_1) (ap (λ r. slice_get (makes_of r) 0) needs_1_0)

  of_1_1 : OfHere part_1_1 work_1_1
  of_1_1 = of_part is_1_1

  end_1_1 : run (language 4) lazy_and_vector limit part_1_1 work_1_1 [] ≡ ends (gave (chunk (int (pos 1) & int (pos 2) & no_values) (cell part_1_1_1))) makes_1_1_1
  unfolding run walk digits
  end_1_1 = refl

  gives_1_1 : GivesHere part_1_1 (gave (chunk (int (pos 1) & int (pos 2) & no_values) (cell part_1_1_1)))
  gives_1_1 = gives of_1_1 (no_answer of_1_1) end_1_1

  abbrev true_1_1 : TrueHere (form 1) answers_1_1
  true_1_1 = one_more of_1 (no_answer of_1) needs_1_0 gives_1_1

  needs_1_1 : run (language 4) lazy_and_vector limit (form 1) work_1 answers_1_1 ≡ needs part_1_1_1 makes_1_1
  unfolding run walk digits
  needs_1_1 = refl

  is_1_1_1 : Part (language 4) lazy_and_vector limit part_1_1_1 Lazy work_1_1_1
  is_1_1_1 = part_of {j = 0} of_1_1 (no_answer of_1_1) (ap (λ r. slice_get (makes_of r) 0) end_1_1)

  of_1_1_1 : OfHere part_1_1_1 work_1_1_1
  of_1_1_1 = of_part is_1_1_1

  end_1_1_1 : run (language 4) lazy_and_vector limit part_1_1_1 work_1_1_1 [] ≡ ends (gave (nil)) []
  unfolding run walk digits
  end_1_1_1 = refl

  gives_1_1_1 : GivesHere part_1_1_1 (gave (nil))
  gives_1_1_1 = gives of_1_1_1 (no_answer of_1_1_1) end_1_1_1

  abbrev true_1_2 : TrueHere (form 1) answers_1_2
  true_1_2 = one_more of_1 true_1_1 needs_1_1 gives_1_1_1

  end_1 : run (language 4) lazy_and_vector limit (form 1) work_1 answers_1_2 ≡ ends (gave (text (codes "true"))) makes_1_1
  unfolding run walk digits
  end_1 = by n
    where
      by : (n : ℕ) → run (language 4) lazy_and_vector (past 8 n) (form 1) work_1 answers_1_2 ≡ ends (gave (text (codes "true"))) makes_1_1
      by zero = refl
      by (suc n) = refl

  gives_1 : GivesHere (form 1) (gave (text (codes "true")))
  gives_1 = gives of_1 true_1_2 end_1

  demand_1_at_1 : Demand (language 4) lazy_and_vector limit 1 (form 1)
  demand_1_at_1 = demands_form {i = 0} (omega arith)

  demand_1_1_at_1 : Demand (language 4) lazy_and_vector limit 1 part_1_1
  demand_1_1_at_1 = demands_need demand_1_at_1 of_1 (no_answer of_1) needs_1_0 (no_failure (language 4) lazy_and_vector limit 1 among_1 gives_1_1)

  demand_1_1_1_at_1 : Demand (language 4) lazy_and_vector limit 1 part_1_1_1
  demand_1_1_1_at_1 = demands_need demand_1_at_1 of_1 true_1_1 needs_1_1 (no_failure (language 4) lazy_and_vector limit 1 among_1 gives_1_1_1)

  futures_1_at_1 : (j : ℕ) (t : Term Name) → slice_get makes_1_1 j ≡ Some (made Future t) → IsIn (part (form 1) (suc j)) among_1
  futures_1_at_1 zero t p = absurd cc
  futures_1_at_1 (suc j) t p = absurd cc

  abbrev row_1_at_1 : Row (language 4) lazy_and_vector limit 1 among_1
  row_1_at_1 = record { name = (form 1); followed = record { w = work_1; a = answers_1_2; o = gave (text (codes "true")); ms = makes_1_1; of = of_1; answers = true_1_2; end = end_1; asks = (one_leads (leads_on (no_failure (language 4) lazy_and_vector limit 1 among_1 gives_1_1_1) (there (there here))) (one_leads (leads_on (no_failure (language 4) lazy_and_vector limit 1 among_1 gives_1_1) (there here)) none_leads)); futures = futures_1_at_1 }; demand = demand_1_at_1 }

  futures_1_1_at_1 : (j : ℕ) (t : Term Name) → slice_get makes_1_1_1 j ≡ Some (made Future t) → IsIn (part part_1_1 (suc j)) among_1
  futures_1_1_at_1 zero t p = absurd cc
  futures_1_1_at_1 (suc j) t p = absurd cc

  abbrev row_1_1_at_1 : Row (language 4) lazy_and_vector limit 1 among_1
  row_1_1_at_1 = record { name = part_1_1; followed = record { w = work_1_1; a = []; o = gave (chunk (int (pos 1) & int (pos 2) & no_values) (cell part_1_1_1)); ms = makes_1_1_1; of = of_1_1; answers = (no_answer of_1_1); end = end_1_1; asks = none_leads; futures = futures_1_1_at_1 }; demand = demand_1_1_at_1 }

  futures_1_1_1_at_1 : (j : ℕ) (t : Term Name) → slice_get [] j ≡ Some (made Future t) → IsIn (part part_1_1_1 (suc j)) among_1
  futures_1_1_1_at_1 j t p = absurd cc

  abbrev row_1_1_1_at_1 : Row (language 4) lazy_and_vector limit 1 among_1
  row_1_1_1_at_1 = record { name = part_1_1_1; followed = record { w = work_1_1_1; a = []; o = gave (nil); ms = []; of = of_1_1_1; answers = (no_answer of_1_1_1); end = end_1_1_1; asks = none_leads; futures = futures_1_1_1_at_1 }; demand = demand_1_1_1_at_1 }

  abbrev rows_at_1 : List (Row (language 4) lazy_and_vector limit 1 among_1)
  rows_at_1 = row_1_at_1 ∷ row_1_1_at_1 ∷ row_1_1_1_at_1 ∷ []

  forms_at_1 : (i : ℕ) → i < 1 → IsIn (form (suc i)) among_1
  forms_at_1 zero h = here
  forms_at_1 (suc i) h = absurd (omega arith)

  totals_at_1 : Totals lazy_and_vector limit 1 2 2 0
  totals_at_1 = totals_of (language 4) lazy_and_vector limit 1 among_1 rows_at_1 forms_at_1 refl refl refl refl refl refl refl

-- With 7 steps:
abbrev limit_below : ℕ
limit_below = 7

abbrev OfHere_below : Name → Work → Type 0
OfHere_below e w = Of (language 4) lazy_and_vector limit_below e w

abbrev GivesHere_below : Name → Outcome Name → Type 0
GivesHere_below e o = Gives (language 4) lazy_and_vector limit_below e o

abbrev TrueHere_below : Name → List (Outcome Name) → Type 0
TrueHere_below e a = True (language 4) lazy_and_vector limit_below e a

before_0_below : Before (language 4) lazy_and_vector limit_below 0 ([])
before_0_below = none_before

of_1_below : OfHere_below (form 1) work_1_below
of_1_below = of_top before_0_below refl

needs_1_0_below : run (language 4) lazy_and_vector limit_below (form 1) work_1_below [] ≡ needs part_1_1 makes_1_1_below
unfolding run walk digits
needs_1_0_below = refl

is_1_1_below : Part (language 4) lazy_and_vector limit_below part_1_1 Lazy work_1_1_below
is_1_1_below = part_of {j = 0} of_1_below (no_answer of_1_below) (ap (λ r. slice_get (makes_of r) 0) needs_1_0_below)

of_1_1_below : OfHere_below part_1_1 work_1_1_below
of_1_1_below = of_part is_1_1_below

end_1_1_below : run (language 4) lazy_and_vector limit_below part_1_1 work_1_1_below [] ≡ ends (gave (chunk (int (pos 1) & int (pos 2) & no_values) (cell part_1_1_1))) makes_1_1_1_below
unfolding run walk digits
end_1_1_below = refl

gives_1_1_below : GivesHere_below part_1_1 (gave (chunk (int (pos 1) & int (pos 2) & no_values) (cell part_1_1_1)))
gives_1_1_below = gives of_1_1_below (no_answer of_1_1_below) end_1_1_below

abbrev true_1_1_below : TrueHere_below (form 1) answers_1_1_below
true_1_1_below = one_more of_1_below (no_answer of_1_below) needs_1_0_below gives_1_1_below

needs_1_1_below : run (language 4) lazy_and_vector limit_below (form 1) work_1_below answers_1_1_below ≡ needs part_1_1_1 makes_1_1_below
unfolding run walk digits
needs_1_1_below = refl

is_1_1_1_below : Part (language 4) lazy_and_vector limit_below part_1_1_1 Lazy work_1_1_1_below
is_1_1_1_below = part_of {j = 0} of_1_1_below (no_answer of_1_1_below) (ap (λ r. slice_get (makes_of r) 0) end_1_1_below)

of_1_1_1_below : OfHere_below part_1_1_1 work_1_1_1_below
of_1_1_1_below = of_part is_1_1_1_below

end_1_1_1_below : run (language 4) lazy_and_vector limit_below part_1_1_1 work_1_1_1_below [] ≡ ends (gave (nil)) []
unfolding run walk digits
end_1_1_1_below = refl

gives_1_1_1_below : GivesHere_below part_1_1_1 (gave (nil))
gives_1_1_1_below = gives of_1_1_1_below (no_answer of_1_1_1_below) end_1_1_1_below

abbrev true_1_2_below : TrueHere_below (form 1) answers_1_2_below
true_1_2_below = one_more of_1_below true_1_1_below needs_1_1_below gives_1_1_1_below

end_1_below : run (language 4) lazy_and_vector limit_below (form 1) work_1_below answers_1_2_below ≡ ends (threw Steps) makes_1_1_below
unfolding run walk digits
end_1_below = refl

gives_1_below : GivesHere_below (form 1) (threw Steps)
gives_1_below = gives of_1_below true_1_2_below end_1_below

pub lazy_and_vector_holds : LazyAndVector
lazy_and_vector_holds = (λ limit h. from_past (λ limit. Prints lazy_and_vector limit 1 (codes "true") × Totals lazy_and_vector limit 1 2 2 0) 8 limit h (λ n. (gives_1 n, totals_at_1 n)), gives_1_below)

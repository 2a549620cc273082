-- A fold combines halves, where a reduction goes from the left, by computation.
use Rattle.std.proofs.Common.{◌≡◌, ℕ, zero, suc, ◌<◌, pos, negsuc, List, [], ◌∷◌, codes, refl, ap, Some, slice_get, arith}
use Rattle.std.specs.Fmt.{digits}
use Rattle.seq_base.specs.declared.thrown.Thrown.TheVariants.{Steps}
use Rattle.seq_values.specs.declared.words.Builtin.TheVariants as B
use Rattle.seq_values.specs.declared.words.Kind.TheVariants.{Future}
use Rattle.seq_values.specs.declared.words.Op.TheVariants as O
use Rattle.seq_values.specs.declared.words.Target.TheVariants as T
use Rattle.seq_values.specs.Model.{nil, int, text, vector, function, no_values, ◌&◌, Term, Outcome, gave, threw}
use Rattle.seq_meaning.specs.Walk.{Made, made, needs, ends, makes_of, walk}
use Rattle.seq_meaning.specs.Names.{Name, form, part}
use Rattle.seq_meaning.specs.Gives.{Work, work, of_form, of_term, run, Of, of_top, of_part, Part, part_of, True, no_answer, one_more, Gives, gives, Before, none_before, other_before, defn_none, prn_none}
use Rattle.seq_meaning.specs.Counts.{Demand, demands_form, demands_need, IsIn, here, there}
use Rattle.seq_meaning.proofs.Closing.{leads_on, none_leads, one_leads, no_failure}
use Rattle.seq_meaning.proofs.Worked.{past, from_past}
use Rattle.seq_table.specs.Table.{language}
use Rattle.seq_table.specs.Worked.{Prints, Totals, fold_as_tree_1, fold_as_tree_2, fold_as_tree_3, fold_as_tree, FoldAsTree}
use Rattle.seq_table.proofs.Rows.{Row, totals_of}

-- the parts, and the attempts at them
abbrev part_2_2 : Name
part_2_2 = part (form 2) 2

abbrev part_2_1 : Name
part_2_1 = part (form 2) 1

abbrev part_2_1_1 : Name
part_2_1_1 = part part_2_1 1

-- works, makes and answers
abbrev work_2 : Work
work_2 = work (nil ∷ []) (of_form fold_as_tree_2)

abbrev makes_2_2 : List (Made Name)
makes_2_2 = made Future (record { op = O.Fold; args = vector (int (pos 3) & int (pos 4) & no_values) ∷ int (pos 1) ∷ function T.Monoid (function (T.Builtin B.Minus) no_values & function (T.User 0) no_values & no_values) ∷ function (T.Builtin B.Minus) no_values ∷ [] }) ∷ made Future (record { op = O.Fold; args = vector (int (pos 2) & no_values) ∷ int (pos 1) ∷ function T.Monoid (function (T.Builtin B.Minus) no_values & function (T.User 0) no_values & no_values) ∷ function (T.Builtin B.Minus) no_values ∷ [] }) ∷ []

abbrev work_2_2 : Work
work_2_2 = work (nil ∷ []) (of_term (record { op = O.Fold; args = vector (int (pos 2) & no_values) ∷ int (pos 1) ∷ function T.Monoid (function (T.Builtin B.Minus) no_values & function (T.User 0) no_values & no_values) ∷ function (T.Builtin B.Minus) no_values ∷ [] }))

abbrev answers_2_1 : List (Outcome Name)
answers_2_1 = gave (int (negsuc 1)) ∷ []

abbrev work_2_1 : Work
work_2_1 = work (nil ∷ []) (of_term (record { op = O.Fold; args = vector (int (pos 3) & int (pos 4) & no_values) ∷ int (pos 1) ∷ function T.Monoid (function (T.Builtin B.Minus) no_values & function (T.User 0) no_values & no_values) ∷ function (T.Builtin B.Minus) no_values ∷ [] }))

abbrev makes_2_1_1 : List (Made Name)
makes_2_1_1 = made Future (record { op = O.Fold; args = vector (int (pos 4) & no_values) ∷ int (pos 1) ∷ function T.Monoid (function (T.Builtin B.Minus) no_values & function (T.User 0) no_values & no_values) ∷ function (T.Builtin B.Minus) no_values ∷ [] }) ∷ []

abbrev work_2_1_1 : Work
work_2_1_1 = work (nil ∷ []) (of_term (record { op = O.Fold; args = vector (int (pos 4) & no_values) ∷ int (pos 1) ∷ function T.Monoid (function (T.Builtin B.Minus) no_values & function (T.User 0) no_values & no_values) ∷ function (T.Builtin B.Minus) no_values ∷ [] }))

abbrev answers_2_1_1 : List (Outcome Name)
answers_2_1_1 = gave (int (negsuc 3)) ∷ []

abbrev answers_2_2 : List (Outcome Name)
answers_2_2 = gave (int (pos 1)) ∷ answers_2_1

abbrev work_3 : Work
work_3 = work (nil ∷ nil ∷ []) (of_form fold_as_tree_3)

abbrev work_1 : Work
work_1 = work [] (of_form fold_as_tree_1)

abbrev among_3 : List Name
among_3 = (form 1) ∷ (form 2) ∷ (form 3) ∷ part_2_2 ∷ part_2_1 ∷ part_2_1_1 ∷ []

abbrev work_2_below : Work
work_2_below = work (nil ∷ []) (of_form fold_as_tree_2)

abbrev makes_2_2_below : List (Made Name)
makes_2_2_below = made Future (record { op = O.Fold; args = vector (int (pos 3) & int (pos 4) & no_values) ∷ int (pos 1) ∷ function T.Monoid (function (T.Builtin B.Minus) no_values & function (T.User 0) no_values & no_values) ∷ function (T.Builtin B.Minus) no_values ∷ [] }) ∷ made Future (record { op = O.Fold; args = vector (int (pos 2) & no_values) ∷ int (pos 1) ∷ function T.Monoid (function (T.Builtin B.Minus) no_values & function (T.User 0) no_values & no_values) ∷ function (T.Builtin B.Minus) no_values ∷ [] }) ∷ []

abbrev work_2_2_below : Work
work_2_2_below = work (nil ∷ []) (of_term (record { op = O.Fold; args = vector (int (pos 2) & no_values) ∷ int (pos 1) ∷ function T.Monoid (function (T.Builtin B.Minus) no_values & function (T.User 0) no_values & no_values) ∷ function (T.Builtin B.Minus) no_values ∷ [] }))

abbrev answers_2_1_below : List (Outcome Name)
answers_2_1_below = gave (int (negsuc 1)) ∷ []

abbrev work_2_1_below : Work
work_2_1_below = work (nil ∷ []) (of_term (record { op = O.Fold; args = vector (int (pos 3) & int (pos 4) & no_values) ∷ int (pos 1) ∷ function T.Monoid (function (T.Builtin B.Minus) no_values & function (T.User 0) no_values & no_values) ∷ function (T.Builtin B.Minus) no_values ∷ [] }))

abbrev makes_2_1_1_below : List (Made Name)
makes_2_1_1_below = made Future (record { op = O.Fold; args = vector (int (pos 4) & no_values) ∷ int (pos 1) ∷ function T.Monoid (function (T.Builtin B.Minus) no_values & function (T.User 0) no_values & no_values) ∷ function (T.Builtin B.Minus) no_values ∷ [] }) ∷ []

abbrev work_2_1_1_below : Work
work_2_1_1_below = work (nil ∷ []) (of_term (record { op = O.Fold; args = vector (int (pos 4) & no_values) ∷ int (pos 1) ∷ function T.Monoid (function (T.Builtin B.Minus) no_values & function (T.User 0) no_values & no_values) ∷ function (T.Builtin B.Minus) no_values ∷ [] }))

abbrev answers_2_1_1_below : List (Outcome Name)
answers_2_1_1_below = gave (int (negsuc 3)) ∷ []

abbrev answers_2_2_below : List (Outcome Name)
answers_2_2_below = gave (int (pos 1)) ∷ answers_2_1_below

-- With 13 steps or more:
module _ (n : ℕ) where
  abbrev limit : ℕ
  limit = past 13 n

  abbrev OfHere : Name → Work → Type 0
  OfHere e w = Of (language 4) fold_as_tree limit e w

  abbrev GivesHere : Name → Outcome Name → Type 0
  GivesHere e o = Gives (language 4) fold_as_tree limit e o

  abbrev TrueHere : Name → List (Outcome Name) → Type 0
  TrueHere e a = True (language 4) fold_as_tree limit e a

  before_0 : Before (language 4) fold_as_tree limit 0 ([])
  before_0 = none_before

  before_1 : Before (language 4) fold_as_tree limit 1 (nil ∷ [])
  before_1 = other_before before_0 refl defn_none refl

  of_2 : OfHere (form 2) work_2
  of_2 = of_top before_1 refl

  needs_2_0 : run (language 4) fold_as_tree limit (form 2) work_2 [] ≡ needs part_2_2 makes_2_2
  unfolding run walk digits
  needs_2_0 = refl

  is_2_2 : Part (language 4) fold_as_tree limit part_2_2 Future work_2_2
  is_2_2 = part_of {j = 1} of_2 (no_answer of_2) (ap (λ r. slice_get (makes_of r) 1) needs_2_0)

  of_2_2 : OfHere part_2_2 work_2_2
  of_2_2 = of_part is_2_2

  end_2_2 : run (language 4) fold_as_tree limit part_2_2 work_2_2 [] ≡ ends (gave (int (negsuc 1))) []
  unfolding run walk digits
  end_2_2 = refl

  gives_2_2 : GivesHere part_2_2 (gave (int (negsuc 1)))
  gives_2_2 = gives of_2_2 (no_answer of_2_2) end_2_2

  abbrev true_2_1 : TrueHere (form 2) answers_2_1
  true_2_1 = one_more of_2 (no_answer of_2) needs_2_0 gives_2_2

  needs_2_1 : run (language 4) fold_as_tree limit (form 2) work_2 answers_2_1 ≡ needs part_2_1 makes_2_2
  unfolding run walk digits
  needs_2_1 = refl

  is_2_1 : Part (language 4) fold_as_tree limit part_2_1 Future work_2_1
  is_2_1 = part_of {j = 0} of_2 (no_answer of_2) (ap (λ r. slice_get (makes_of r) 0) needs_2_0)

  of_2_1 : OfHere part_2_1 work_2_1
  of_2_1 = of_part is_2_1

  needs_2_1_0 : run (language 4) fold_as_tree limit part_2_1 work_2_1 [] ≡ needs part_2_1_1 makes_2_1_1
  unfolding run walk digits
  needs_2_1_0 = refl

  is_2_1_1 : Part (language 4) fold_as_tree limit part_2_1_1 Future work_2_1_1
  is_2_1_1 = part_of {j = 0} of_2_1 (no_answer of_2_1) (ap (λ r. slice_get (makes_of r) 0) needs_2_1_0)

  of_2_1_1 : OfHere part_2_1_1 work_2_1_1
  of_2_1_1 = of_part is_2_1_1

  end_2_1_1 : run (language 4) fold_as_tree limit part_2_1_1 work_2_1_1 [] ≡ ends (gave (int (negsuc 3))) []
  unfolding run walk digits
  end_2_1_1 = refl

  gives_2_1_1 : GivesHere part_2_1_1 (gave (int (negsuc 3)))
  gives_2_1_1 = gives of_2_1_1 (no_answer of_2_1_1) end_2_1_1

  abbrev true_2_1_1 : TrueHere part_2_1 answers_2_1_1
  true_2_1_1 = one_more of_2_1 (no_answer of_2_1) needs_2_1_0 gives_2_1_1

  end_2_1 : run (language 4) fold_as_tree limit part_2_1 work_2_1 answers_2_1_1 ≡ ends (gave (int (pos 1))) makes_2_1_1
  unfolding run walk digits
  end_2_1 = refl

  gives_2_1 : GivesHere part_2_1 (gave (int (pos 1)))
  gives_2_1 = gives of_2_1 true_2_1_1 end_2_1

  abbrev true_2_2 : TrueHere (form 2) answers_2_2
  true_2_2 = one_more of_2 true_2_1 needs_2_1 gives_2_1

  end_2 : run (language 4) fold_as_tree limit (form 2) work_2 answers_2_2 ≡ ends (gave (text (codes "0"))) makes_2_2
  unfolding run walk digits
  end_2 = by n
    where
      by : (n : ℕ) → run (language 4) fold_as_tree (past 13 n) (form 2) work_2 answers_2_2 ≡ ends (gave (text (codes "0"))) makes_2_2
      by zero = refl
      by (suc n) = refl

  gives_2 : GivesHere (form 2) (gave (text (codes "0")))
  gives_2 = gives of_2 true_2_2 end_2

  before_2 : Before (language 4) fold_as_tree limit 2 (nil ∷ nil ∷ [])
  before_2 = other_before before_1 refl prn_none refl

  of_3 : OfHere (form 3) work_3
  of_3 = of_top before_2 refl

  end_3 : run (language 4) fold_as_tree limit (form 3) work_3 [] ≡ ends (gave (text (codes "-10"))) []
  unfolding run walk digits
  end_3 = refl

  gives_3 : GivesHere (form 3) (gave (text (codes "-10")))
  gives_3 = gives of_3 (no_answer of_3) end_3

  of_1 : OfHere (form 1) work_1
  of_1 = of_top before_0 refl

  end_1 : run (language 4) fold_as_tree limit (form 1) work_1 [] ≡ ends (gave (nil)) []
  unfolding run walk digits
  end_1 = refl

  gives_1 : GivesHere (form 1) (gave (nil))
  gives_1 = gives of_1 (no_answer of_1) end_1

  demand_1_at_3 : Demand (language 4) fold_as_tree limit 3 (form 1)
  demand_1_at_3 = demands_form {i = 0} (omega arith)

  demand_2_at_3 : Demand (language 4) fold_as_tree limit 3 (form 2)
  demand_2_at_3 = demands_form {i = 1} (omega arith)

  demand_3_at_3 : Demand (language 4) fold_as_tree limit 3 (form 3)
  demand_3_at_3 = demands_form {i = 2} (omega arith)

  demand_2_2_at_3 : Demand (language 4) fold_as_tree limit 3 part_2_2
  demand_2_2_at_3 = demands_need demand_2_at_3 of_2 (no_answer of_2) needs_2_0 (no_failure (language 4) fold_as_tree limit 3 among_3 gives_2_2)

  demand_2_1_at_3 : Demand (language 4) fold_as_tree limit 3 part_2_1
  demand_2_1_at_3 = demands_need demand_2_at_3 of_2 true_2_1 needs_2_1 (no_failure (language 4) fold_as_tree limit 3 among_3 gives_2_1)

  demand_2_1_1_at_3 : Demand (language 4) fold_as_tree limit 3 part_2_1_1
  demand_2_1_1_at_3 = demands_need demand_2_1_at_3 of_2_1 (no_answer of_2_1) needs_2_1_0 (no_failure (language 4) fold_as_tree limit 3 among_3 gives_2_1_1)

  futures_1_at_3 : (j : ℕ) (t : Term Name) → slice_get [] j ≡ Some (made Future t) → IsIn (part (form 1) (suc j)) among_3
  futures_1_at_3 j t p = absurd cc

  abbrev row_1_at_3 : Row (language 4) fold_as_tree limit 3 among_3
  row_1_at_3 = record { name = (form 1); followed = record { w = work_1; a = []; o = gave (nil); ms = []; of = of_1; answers = (no_answer of_1); end = end_1; asks = none_leads; futures = futures_1_at_3 }; demand = demand_1_at_3 }

  futures_2_at_3 : (j : ℕ) (t : Term Name) → slice_get makes_2_2 j ≡ Some (made Future t) → IsIn (part (form 2) (suc j)) among_3
  futures_2_at_3 zero t p = (there (there (there (there here))))
  futures_2_at_3 (suc zero) t p = (there (there (there here)))
  futures_2_at_3 (suc (suc j)) t p = absurd cc

  abbrev row_2_at_3 : Row (language 4) fold_as_tree limit 3 among_3
  row_2_at_3 = record { name = (form 2); followed = record { w = work_2; a = answers_2_2; o = gave (text (codes "0")); ms = makes_2_2; of = of_2; answers = true_2_2; end = end_2; asks = (one_leads (leads_on (no_failure (language 4) fold_as_tree limit 3 among_3 gives_2_1) (there (there (there (there here))))) (one_leads (leads_on (no_failure (language 4) fold_as_tree limit 3 among_3 gives_2_2) (there (there (there here)))) none_leads)); futures = futures_2_at_3 }; demand = demand_2_at_3 }

  futures_3_at_3 : (j : ℕ) (t : Term Name) → slice_get [] j ≡ Some (made Future t) → IsIn (part (form 3) (suc j)) among_3
  futures_3_at_3 j t p = absurd cc

  abbrev row_3_at_3 : Row (language 4) fold_as_tree limit 3 among_3
  row_3_at_3 = record { name = (form 3); followed = record { w = work_3; a = []; o = gave (text (codes "-10")); ms = []; of = of_3; answers = (no_answer of_3); end = end_3; asks = none_leads; futures = futures_3_at_3 }; demand = demand_3_at_3 }

  futures_2_2_at_3 : (j : ℕ) (t : Term Name) → slice_get [] j ≡ Some (made Future t) → IsIn (part part_2_2 (suc j)) among_3
  futures_2_2_at_3 j t p = absurd cc

  abbrev row_2_2_at_3 : Row (language 4) fold_as_tree limit 3 among_3
  row_2_2_at_3 = record { name = part_2_2; followed = record { w = work_2_2; a = []; o = gave (int (negsuc 1)); ms = []; of = of_2_2; answers = (no_answer of_2_2); end = end_2_2; asks = none_leads; futures = futures_2_2_at_3 }; demand = demand_2_2_at_3 }

  futures_2_1_at_3 : (j : ℕ) (t : Term Name) → slice_get makes_2_1_1 j ≡ Some (made Future t) → IsIn (part part_2_1 (suc j)) among_3
  futures_2_1_at_3 zero t p = (there (there (there (there (there here)))))
  futures_2_1_at_3 (suc j) t p = absurd cc

  abbrev row_2_1_at_3 : Row (language 4) fold_as_tree limit 3 among_3
  row_2_1_at_3 = record { name = part_2_1; followed = record { w = work_2_1; a = answers_2_1_1; o = gave (int (pos 1)); ms = makes_2_1_1; of = of_2_1; answers = true_2_1_1; end = end_2_1; asks = (one_leads (leads_on (no_failure (language 4) fold_as_tree limit 3 among_3 gives_2_1_1) (there (there (there (there (there here)))))) none_leads); futures = futures_2_1_at_3 }; demand = demand_2_1_at_3 }

  futures_2_1_1_at_3 : (j : ℕ) (t : Term Name) → slice_get [] j ≡ Some (made Future t) → IsIn (part part_2_1_1 (suc j)) among_3
  futures_2_1_1_at_3 j t p = absurd cc

  abbrev row_2_1_1_at_3 : Row (language 4) fold_as_tree limit 3 among_3
  row_2_1_1_at_3 = record { name = part_2_1_1; followed = record { w = work_2_1_1; a = []; o = gave (int (negsuc 3)); ms = []; of = of_2_1_1; answers = (no_answer of_2_1_1); end = end_2_1_1; asks = none_leads; futures = futures_2_1_1_at_3 }; demand = demand_2_1_1_at_3 }

  abbrev rows_at_3 : List (Row (language 4) fold_as_tree limit 3 among_3)
  rows_at_3 = row_1_at_3 ∷ row_2_at_3 ∷ row_3_at_3 ∷ row_2_2_at_3 ∷ row_2_1_at_3 ∷ row_2_1_1_at_3 ∷ []

  forms_at_3 : (i : ℕ) → i < 3 → IsIn (form (suc i)) among_3
  forms_at_3 zero h = here
  forms_at_3 (suc zero) h = (there here)
  forms_at_3 (suc (suc zero)) h = (there (there here))
  forms_at_3 (suc (suc (suc i))) h = absurd (omega arith)

  totals_at_3 : Totals fold_as_tree limit 3 3 3 0
  totals_at_3 = totals_of (language 4) fold_as_tree limit 3 among_3 rows_at_3 forms_at_3 refl refl refl refl refl refl refl

-- With 12 steps:
abbrev limit_below : ℕ
limit_below = 12

abbrev OfHere_below : Name → Work → Type 0
OfHere_below e w = Of (language 4) fold_as_tree limit_below e w

abbrev GivesHere_below : Name → Outcome Name → Type 0
GivesHere_below e o = Gives (language 4) fold_as_tree limit_below e o

abbrev TrueHere_below : Name → List (Outcome Name) → Type 0
TrueHere_below e a = True (language 4) fold_as_tree limit_below e a

before_0_below : Before (language 4) fold_as_tree limit_below 0 ([])
before_0_below = none_before

before_1_below : Before (language 4) fold_as_tree limit_below 1 (nil ∷ [])
before_1_below = other_before before_0_below refl defn_none refl

of_2_below : OfHere_below (form 2) work_2_below
of_2_below = of_top before_1_below refl

needs_2_0_below : run (language 4) fold_as_tree limit_below (form 2) work_2_below [] ≡ needs part_2_2 makes_2_2_below
unfolding run walk digits
needs_2_0_below = refl

is_2_2_below : Part (language 4) fold_as_tree limit_below part_2_2 Future work_2_2_below
is_2_2_below = part_of {j = 1} of_2_below (no_answer of_2_below) (ap (λ r. slice_get (makes_of r) 1) needs_2_0_below)

of_2_2_below : OfHere_below part_2_2 work_2_2_below
of_2_2_below = of_part is_2_2_below

end_2_2_below : run (language 4) fold_as_tree limit_below part_2_2 work_2_2_below [] ≡ ends (gave (int (negsuc 1))) []
unfolding run walk digits
end_2_2_below = refl

gives_2_2_below : GivesHere_below part_2_2 (gave (int (negsuc 1)))
gives_2_2_below = gives of_2_2_below (no_answer of_2_2_below) end_2_2_below

abbrev true_2_1_below : TrueHere_below (form 2) answers_2_1_below
true_2_1_below = one_more of_2_below (no_answer of_2_below) needs_2_0_below gives_2_2_below

needs_2_1_below : run (language 4) fold_as_tree limit_below (form 2) work_2_below answers_2_1_below ≡ needs part_2_1 makes_2_2_below
unfolding run walk digits
needs_2_1_below = refl

is_2_1_below : Part (language 4) fold_as_tree limit_below part_2_1 Future work_2_1_below
is_2_1_below = part_of {j = 0} of_2_below (no_answer of_2_below) (ap (λ r. slice_get (makes_of r) 0) needs_2_0_below)

of_2_1_below : OfHere_below part_2_1 work_2_1_below
of_2_1_below = of_part is_2_1_below

needs_2_1_0_below : run (language 4) fold_as_tree limit_below part_2_1 work_2_1_below [] ≡ needs part_2_1_1 makes_2_1_1_below
unfolding run walk digits
needs_2_1_0_below = refl

is_2_1_1_below : Part (language 4) fold_as_tree limit_below part_2_1_1 Future work_2_1_1_below
is_2_1_1_below = part_of {j = 0} of_2_1_below (no_answer of_2_1_below) (ap (λ r. slice_get (makes_of r) 0) needs_2_1_0_below)

of_2_1_1_below : OfHere_below part_2_1_1 work_2_1_1_below
of_2_1_1_below = of_part is_2_1_1_below

end_2_1_1_below : run (language 4) fold_as_tree limit_below part_2_1_1 work_2_1_1_below [] ≡ ends (gave (int (negsuc 3))) []
unfolding run walk digits
end_2_1_1_below = refl

gives_2_1_1_below : GivesHere_below part_2_1_1 (gave (int (negsuc 3)))
gives_2_1_1_below = gives of_2_1_1_below (no_answer of_2_1_1_below) end_2_1_1_below

abbrev true_2_1_1_below : TrueHere_below part_2_1 answers_2_1_1_below
true_2_1_1_below = one_more of_2_1_below (no_answer of_2_1_below) needs_2_1_0_below gives_2_1_1_below

end_2_1_below : run (language 4) fold_as_tree limit_below part_2_1 work_2_1_below answers_2_1_1_below ≡ ends (gave (int (pos 1))) makes_2_1_1_below
unfolding run walk digits
end_2_1_below = refl

gives_2_1_below : GivesHere_below part_2_1 (gave (int (pos 1)))
gives_2_1_below = gives of_2_1_below true_2_1_1_below end_2_1_below

abbrev true_2_2_below : TrueHere_below (form 2) answers_2_2_below
true_2_2_below = one_more of_2_below true_2_1_below needs_2_1_below gives_2_1_below

end_2_below : run (language 4) fold_as_tree limit_below (form 2) work_2_below answers_2_2_below ≡ ends (threw Steps) makes_2_2_below
unfolding run walk digits
end_2_below = refl

gives_2_below : GivesHere_below (form 2) (threw Steps)
gives_2_below = gives of_2_below true_2_2_below end_2_below

pub fold_as_tree_holds : FoldAsTree
fold_as_tree_holds = (λ limit h. from_past (λ limit. Prints fold_as_tree limit 2 (codes "0") × Prints fold_as_tree limit 3 (codes "-10") × Totals fold_as_tree limit 3 3 3 0) 13 limit h (λ n. (gives_2 n, gives_3 n, totals_at_3 n)), gives_2_below)

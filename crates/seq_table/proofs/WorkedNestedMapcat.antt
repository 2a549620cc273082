-- One `mapcat` over another, by computation.
use Rattle.std.proofs.Common.{◌≡◌, ℕ, zero, suc, ◌<◌, pos, List, [], ◌∷◌, codes, refl, ap, Some, slice_get, arith}
use Rattle.std.specs.Fmt.{digits}
use Rattle.seq_values.specs.declared.words.Builtin.TheVariants as B
use Rattle.seq_values.specs.declared.words.Kind.TheVariants.{Lazy, Future}
use Rattle.seq_values.specs.declared.words.Op.TheVariants as O
use Rattle.seq_values.specs.declared.words.Target.TheVariants as T
use Rattle.seq_values.specs.Model.{nil, int, text, vector, function, cell, empty, cons, vec_seq, no_values, ◌&◌, Term, Outcome, gave}
use Rattle.seq_meaning.specs.Walk.{Made, made, needs, ends, makes_of, walk}
use Rattle.seq_meaning.specs.Names.{Name, form, part}
use Rattle.seq_meaning.specs.Gives.{Work, work, of_form, of_term, run, Of, of_top, of_part, Part, part_of, True, no_answer, one_more, Gives, gives, Before, none_before}
use Rattle.seq_meaning.specs.Counts.{Demand, demands_form, demands_need, IsIn, here, there}
use Rattle.seq_meaning.proofs.Closing.{leads_on, none_leads, one_leads, no_failure}
use Rattle.seq_meaning.proofs.Worked.{past, from_past}
use Rattle.seq_table.specs.Table.{language}
use Rattle.seq_table.specs.Worked.{Prints, Totals, nested_mapcat_1, nested_mapcat, NestedMapcat}
use Rattle.seq_table.proofs.Rows.{Row, totals_of}
use Rattle.seq_table.proofs.WorkedNestedMapcatBelow.{part_1_1, part_1_2, part_1_1_1, part_1_1_2, part_1_2_1, part_1_2_2, part_1_1_2_1, part_1_2_2_1, part_1_1_1_1, part_1_1_1_2, part_1_2_1_1, part_1_2_1_2, part_1_1_1_2_1, part_1_2_1_2_1, gives_1_below}

-- works, makes and answers
abbrev work_1 : Work
work_1 = work [] (of_form nested_mapcat_1)

abbrev makes_1_2 : List (Made Name)
makes_1_2 = made Lazy (record { op = O.Mapcat; args = function (T.Builtin B.List) no_values ∷ vector (int (pos 1) & int (pos 2) & no_values) ∷ [] }) ∷ made Lazy (record { op = O.Mapcat; args = function (T.Builtin B.List) no_values ∷ cell part_1_1 ∷ [] }) ∷ []

abbrev work_1_2 : Work
work_1_2 = work ([]) (of_term (record { op = O.Mapcat; args = function (T.Builtin B.List) no_values ∷ cell part_1_1 ∷ [] }))

abbrev work_1_1 : Work
work_1_1 = work ([]) (of_term (record { op = O.Mapcat; args = function (T.Builtin B.List) no_values ∷ vector (int (pos 1) & int (pos 2) & no_values) ∷ [] }))

abbrev makes_1_1_2 : List (Made Name)
makes_1_1_2 = made Lazy (record { op = O.Mapcat; args = function (T.Builtin B.List) no_values ∷ vec_seq (int (pos 1) & int (pos 2) & no_values) 1 ∷ [] }) ∷ made Lazy (record { op = O.Concat; args = cons (int (pos 1) & no_values) nil ∷ cell part_1_1_1 ∷ [] }) ∷ []

abbrev answers_1_2_1 : List (Outcome Name)
answers_1_2_1 = gave (cell part_1_1_2) ∷ []

abbrev work_1_1_2 : Work
work_1_1_2 = work ([]) (of_term (record { op = O.Concat; args = cons (int (pos 1) & no_values) nil ∷ cell part_1_1_1 ∷ [] }))

abbrev makes_1_1_2_1 : List (Made Name)
makes_1_1_2_1 = made Lazy (record { op = O.Concat; args = empty ∷ cell part_1_1_1 ∷ [] }) ∷ []

abbrev answers_1_2_2 : List (Outcome Name)
answers_1_2_2 = gave (cons (int (pos 1) & no_values) (cell part_1_1_2_1)) ∷ answers_1_2_1

abbrev makes_1_2_2 : List (Made Name)
makes_1_2_2 = made Lazy (record { op = O.Mapcat; args = function (T.Builtin B.List) no_values ∷ cell part_1_1_2_1 ∷ [] }) ∷ made Lazy (record { op = O.Concat; args = cons (int (pos 1) & no_values) nil ∷ cell part_1_2_1 ∷ [] }) ∷ []

abbrev answers_1_1 : List (Outcome Name)
answers_1_1 = gave (cell part_1_2_2) ∷ []

abbrev work_1_2_2 : Work
work_1_2_2 = work ([]) (of_term (record { op = O.Concat; args = cons (int (pos 1) & no_values) nil ∷ cell part_1_2_1 ∷ [] }))

abbrev makes_1_2_2_1 : List (Made Name)
makes_1_2_2_1 = made Lazy (record { op = O.Concat; args = empty ∷ cell part_1_2_1 ∷ [] }) ∷ []

abbrev answers_1_2 : List (Outcome Name)
answers_1_2 = gave (cons (int (pos 1) & no_values) (cell part_1_2_2_1)) ∷ answers_1_1

abbrev work_1_2_2_1 : Work
work_1_2_2_1 = work ([]) (of_term (record { op = O.Concat; args = empty ∷ cell part_1_2_1 ∷ [] }))

abbrev answers_1_3 : List (Outcome Name)
answers_1_3 = gave (cell part_1_2_1) ∷ answers_1_2

abbrev work_1_2_1 : Work
work_1_2_1 = work ([]) (of_term (record { op = O.Mapcat; args = function (T.Builtin B.List) no_values ∷ cell part_1_1_2_1 ∷ [] }))

abbrev work_1_1_2_1 : Work
work_1_1_2_1 = work ([]) (of_term (record { op = O.Concat; args = empty ∷ cell part_1_1_1 ∷ [] }))

abbrev answers_1_2_1_1 : List (Outcome Name)
answers_1_2_1_1 = gave (cell part_1_1_1) ∷ []

abbrev work_1_1_1 : Work
work_1_1_1 = work ([]) (of_term (record { op = O.Mapcat; args = function (T.Builtin B.List) no_values ∷ vec_seq (int (pos 1) & int (pos 2) & no_values) 1 ∷ [] }))

abbrev makes_1_1_1_2 : List (Made Name)
makes_1_1_1_2 = made Lazy (record { op = O.Mapcat; args = function (T.Builtin B.List) no_values ∷ empty ∷ [] }) ∷ made Lazy (record { op = O.Concat; args = cons (int (pos 2) & no_values) nil ∷ cell part_1_1_1_1 ∷ [] }) ∷ []

abbrev answers_1_2_1_2 : List (Outcome Name)
answers_1_2_1_2 = gave (cell part_1_1_1_2) ∷ answers_1_2_1_1

abbrev work_1_1_1_2 : Work
work_1_1_1_2 = work ([]) (of_term (record { op = O.Concat; args = cons (int (pos 2) & no_values) nil ∷ cell part_1_1_1_1 ∷ [] }))

abbrev makes_1_1_1_2_1 : List (Made Name)
makes_1_1_1_2_1 = made Lazy (record { op = O.Concat; args = empty ∷ cell part_1_1_1_1 ∷ [] }) ∷ []

abbrev answers_1_2_1_3 : List (Outcome Name)
answers_1_2_1_3 = gave (cons (int (pos 2) & no_values) (cell part_1_1_1_2_1)) ∷ answers_1_2_1_2

abbrev makes_1_2_1_2 : List (Made Name)
makes_1_2_1_2 = made Lazy (record { op = O.Mapcat; args = function (T.Builtin B.List) no_values ∷ cell part_1_1_1_2_1 ∷ [] }) ∷ made Lazy (record { op = O.Concat; args = cons (int (pos 2) & no_values) nil ∷ cell part_1_2_1_1 ∷ [] }) ∷ []

abbrev answers_1_4 : List (Outcome Name)
answers_1_4 = gave (cell part_1_2_1_2) ∷ answers_1_3

abbrev work_1_2_1_2 : Work
work_1_2_1_2 = work ([]) (of_term (record { op = O.Concat; args = cons (int (pos 2) & no_values) nil ∷ cell part_1_2_1_1 ∷ [] }))

abbrev makes_1_2_1_2_1 : List (Made Name)
makes_1_2_1_2_1 = made Lazy (record { op = O.Concat; args = empty ∷ cell part_1_2_1_1 ∷ [] }) ∷ []

abbrev answers_1_5 : List (Outcome Name)
answers_1_5 = gave (cons (int (pos 2) & no_values) (cell part_1_2_1_2_1)) ∷ answers_1_4

abbrev work_1_2_1_2_1 : Work
work_1_2_1_2_1 = work ([]) (of_term (record { op = O.Concat; args = empty ∷ cell part_1_2_1_1 ∷ [] }))

abbrev answers_1_6 : List (Outcome Name)
answers_1_6 = gave (cell part_1_2_1_1) ∷ answers_1_5

abbrev work_1_2_1_1 : Work
work_1_2_1_1 = work ([]) (of_term (record { op = O.Mapcat; args = function (T.Builtin B.List) no_values ∷ cell part_1_1_1_2_1 ∷ [] }))

abbrev work_1_1_1_2_1 : Work
work_1_1_1_2_1 = work ([]) (of_term (record { op = O.Concat; args = empty ∷ cell part_1_1_1_1 ∷ [] }))

abbrev answers_1_2_1_1_1 : List (Outcome Name)
answers_1_2_1_1_1 = gave (cell part_1_1_1_1) ∷ []

abbrev work_1_1_1_1 : Work
work_1_1_1_1 = work ([]) (of_term (record { op = O.Mapcat; args = function (T.Builtin B.List) no_values ∷ empty ∷ [] }))

abbrev answers_1_2_1_1_2 : List (Outcome Name)
answers_1_2_1_1_2 = gave (nil) ∷ answers_1_2_1_1_1

abbrev answers_1_7 : List (Outcome Name)
answers_1_7 = gave (nil) ∷ answers_1_6

abbrev among_1 : List Name
among_1 = (form 1) ∷ part_1_2 ∷ part_1_2_2 ∷ part_1_2_2_1 ∷ part_1_2_1 ∷ part_1_2_1_2 ∷ part_1_2_1_2_1 ∷ part_1_2_1_1 ∷ part_1_1 ∷ part_1_1_2 ∷ part_1_1_2_1 ∷ part_1_1_1 ∷ part_1_1_1_2 ∷ part_1_1_1_2_1 ∷ part_1_1_1_1 ∷ []

-- With 12 steps or more:
module _ (n : ℕ) where
  abbrev limit : ℕ
  limit = past 12 n

  abbrev OfHere : Name → Work → Type 0
  OfHere e w = Of (language 4) nested_mapcat limit e w

  abbrev GivesHere : Name → Outcome Name → Type 0
  GivesHere e o = Gives (language 4) nested_mapcat limit e o

  abbrev TrueHere : Name → List (Outcome Name) → Type 0
  TrueHere e a = True (language 4) nested_mapcat limit e a

  before_0 : Before (language 4) nested_mapcat limit 0 ([])
  before_0 = none_before

  of_1 : OfHere (form 1) work_1
  of_1 = of_top before_0 refl

  needs_1_0 : run (language 4) nested_mapcat limit (form 1) work_1 [] ≡ needs part_1_2 makes_1_2
  unfolding run walk digits
  needs_1_0 = refl

  is_1_2 : Part (language 4) nested_mapcat limit part_1_2 Lazy work_1_2
  is_1_2 = part_of {j = 1} of_1 (no_answer of_1) (ap (λ r. slice_get (makes_of r) 1) needs_1_0)

  of_1_2 : OfHere part_1_2 work_1_2
  of_1_2 = of_part is_1_2

  needs_1_2_0 : run (language 4) nested_mapcat limit part_1_2 work_1_2 [] ≡ needs part_1_1 []
  unfolding run walk digits
  needs_1_2_0 = refl

  is_1_1 : Part (language 4) nested_mapcat limit part_1_1 Lazy work_1_1
  is_1_1 = part_of {j = 0} of_1 (no_answer of_1) (ap (λ r. slice_get (makes_of r) 0) needs_1_0)

  of_1_1 : OfHere part_1_1 work_1_1
  of_1_1 = of_part is_1_1

  end_1_1 : run (language 4) nested_mapcat limit part_1_1 work_1_1 [] ≡ ends (gave (cell part_1_1_2)) makes_1_1_2
  unfolding run walk digits
  end_1_1 = refl

  gives_1_1 : GivesHere part_1_1 (gave (cell part_1_1_2))
  gives_1_1 = gives of_1_1 (no_answer of_1_1) end_1_1

  abbrev true_1_2_1 : TrueHere part_1_2 answers_1_2_1
  true_1_2_1 = one_more of_1_2 (no_answer of_1_2) needs_1_2_0 gives_1_1

  needs_1_2_1 : run (language 4) nested_mapcat limit part_1_2 work_1_2 answers_1_2_1 ≡ needs part_1_1_2 []
  unfolding run walk digits
  needs_1_2_1 = refl

  is_1_1_2 : Part (language 4) nested_mapcat limit part_1_1_2 Lazy work_1_1_2
  is_1_1_2 = part_of {j = 1} of_1_1 (no_answer of_1_1) (ap (λ r. slice_get (makes_of r) 1) end_1_1)

  of_1_1_2 : OfHere part_1_1_2 work_1_1_2
  of_1_1_2 = of_part is_1_1_2

  end_1_1_2 : run (language 4) nested_mapcat limit part_1_1_2 work_1_1_2 [] ≡ ends (gave (cons (int (pos 1) & no_values) (cell part_1_1_2_1))) makes_1_1_2_1
  unfolding run walk digits
  end_1_1_2 = refl

  gives_1_1_2 : GivesHere part_1_1_2 (gave (cons (int (pos 1) & no_values) (cell part_1_1_2_1)))
  gives_1_1_2 = gives of_1_1_2 (no_answer of_1_1_2) end_1_1_2

  abbrev true_1_2_2 : TrueHere part_1_2 answers_1_2_2
  true_1_2_2 = one_more of_1_2 true_1_2_1 needs_1_2_1 gives_1_1_2

  end_1_2 : run (language 4) nested_mapcat limit part_1_2 work_1_2 answers_1_2_2 ≡ ends (gave (cell part_1_2_2)) makes_1_2_2
  unfolding run walk digits
  end_1_2 = refl

  gives_1_2 : GivesHere part_1_2 (gave (cell part_1_2_2))
  gives_1_2 = gives of_1_2 true_1_2_2 end_1_2

  abbrev true_1_1 : TrueHere (form 1) answers_1_1
  true_1_1 = one_more of_1 (no_answer of_1) needs_1_0 gives_1_2

  needs_1_1 : run (language 4) nested_mapcat limit (form 1) work_1 answers_1_1 ≡ needs part_1_2_2 makes_1_2
  unfolding run walk digits
  needs_1_1 = refl

  is_1_2_2 : Part (language 4) nested_mapcat limit part_1_2_2 Lazy work_1_2_2
  is_1_2_2 = part_of {j = 1} of_1_2 true_1_2_2 (ap (λ r. slice_get (makes_of r) 1) end_1_2)

  of_1_2_2 : OfHere part_1_2_2 work_1_2_2
  of_1_2_2 = of_part is_1_2_2

  end_1_2_2 : run (language 4) nested_mapcat limit part_1_2_2 work_1_2_2 [] ≡ ends (gave (cons (int (pos 1) & no_values) (cell part_1_2_2_1))) makes_1_2_2_1
  unfolding run walk digits
  end_1_2_2 = refl

  gives_1_2_2 : GivesHere part_1_2_2 (gave (cons (int (pos 1) & no_values) (cell part_1_2_2_1)))
  gives_1_2_2 = gives of_1_2_2 (no_answer of_1_2_2) end_1_2_2

  abbrev true_1_2 : TrueHere (form 1) answers_1_2
  true_1_2 = one_more of_1 true_1_1 needs_1_1 gives_1_2_2

  needs_1_2 : run (language 4) nested_mapcat limit (form 1) work_1 answers_1_2 ≡ needs part_1_2_2_1 makes_1_2
  unfolding run walk digits
  needs_1_2 = refl

  is_1_2_2_1 : Part (language 4) nested_mapcat limit part_1_2_2_1 Lazy work_1_2_2_1
  is_1_2_2_1 = part_of {j = 0} of_1_2_2 (no_answer of_1_2_2) (ap (λ r. slice_get (makes_of r) 0) end_1_2_2)

  of_1_2_2_1 : OfHere part_1_2_2_1 work_1_2_2_1
  of_1_2_2_1 = of_part is_1_2_2_1

  end_1_2_2_1 : run (language 4) nested_mapcat limit part_1_2_2_1 work_1_2_2_1 [] ≡ ends (gave (cell part_1_2_1)) []
  unfolding run walk digits
  end_1_2_2_1 = refl

  gives_1_2_2_1 : GivesHere part_1_2_2_1 (gave (cell part_1_2_1))
  gives_1_2_2_1 = gives of_1_2_2_1 (no_answer of_1_2_2_1) end_1_2_2_1

  abbrev true_1_3 : TrueHere (form 1) answers_1_3
  true_1_3 = one_more of_1 true_1_2 needs_1_2 gives_1_2_2_1

  needs_1_3 : run (language 4) nested_mapcat limit (form 1) work_1 answers_1_3 ≡ needs part_1_2_1 makes_1_2
  unfolding run walk digits
  needs_1_3 = refl

  is_1_2_1 : Part (language 4) nested_mapcat limit part_1_2_1 Lazy work_1_2_1
  is_1_2_1 = part_of {j = 0} of_1_2 true_1_2_2 (ap (λ r. slice_get (makes_of r) 0) end_1_2)

  of_1_2_1 : OfHere part_1_2_1 work_1_2_1
  of_1_2_1 = of_part is_1_2_1

  needs_1_2_1_0 : run (language 4) nested_mapcat limit part_1_2_1 work_1_2_1 [] ≡ needs part_1_1_2_1 []
  unfolding run walk digits
  needs_1_2_1_0 = refl

  is_1_1_2_1 : Part (language 4) nested_mapcat limit part_1_1_2_1 Lazy work_1_1_2_1
  is_1_1_2_1 = part_of {j = 0} of_1_1_2 (no_answer of_1_1_2) (ap (λ r. slice_get (makes_of r) 0) end_1_1_2)

  of_1_1_2_1 : OfHere part_1_1_2_1 work_1_1_2_1
  of_1_1_2_1 = of_part is_1_1_2_1

  end_1_1_2_1 : run (language 4) nested_mapcat limit part_1_1_2_1 work_1_1_2_1 [] ≡ ends (gave (cell part_1_1_1)) []
  unfolding run walk digits
  end_1_1_2_1 = refl

  gives_1_1_2_1 : GivesHere part_1_1_2_1 (gave (cell part_1_1_1))
  gives_1_1_2_1 = gives of_1_1_2_1 (no_answer of_1_1_2_1) end_1_1_2_1

  abbrev true_1_2_1_1 : TrueHere part_1_2_1 answers_1_2_1_1
  true_1_2_1_1 = one_more of_1_2_1 (no_answer of_1_2_1) needs_1_2_1_0 gives_1_1_2_1

  needs_1_2_1_1 : run (language 4) nested_mapcat limit part_1_2_1 work_1_2_1 answers_1_2_1_1 ≡ needs part_1_1_1 []
  unfolding run walk digits
  needs_1_2_1_1 = refl

  is_1_1_1 : Part (language 4) nested_mapcat limit part_1_1_1 Lazy work_1_1_1
  is_1_1_1 = part_of {j = 0} of_1_1 (no_answer of_1_1) (ap (λ r. slice_get (makes_of r) 0) end_1_1)

  of_1_1_1 : OfHere part_1_1_1 work_1_1_1
  of_1_1_1 = of_part is_1_1_1

  end_1_1_1 : run (language 4) nested_mapcat limit part_1_1_1 work_1_1_1 [] ≡ ends (gave (cell part_1_1_1_2)) makes_1_1_1_2
  unfolding run walk digits
  end_1_1_1 = refl

  gives_1_1_1 : GivesHere part_1_1_1 (gave (cell part_1_1_1_2))
  gives_1_1_1 = gives of_1_1_1 (no_answer of_1_1_1) end_1_1_1

  abbrev true_1_2_1_2 : TrueHere part_1_2_1 answers_1_2_1_2
  true_1_2_1_2 = one_more of_1_2_1 true_1_2_1_1 needs_1_2_1_1 gives_1_1_1

  needs_1_2_1_2 : run (language 4) nested_mapcat limit part_1_2_1 work_1_2_1 answers_1_2_1_2 ≡ needs part_1_1_1_2 []
  unfolding run walk digits
  needs_1_2_1_2 = refl

  is_1_1_1_2 : Part (language 4) nested_mapcat limit part_1_1_1_2 Lazy work_1_1_1_2
  is_1_1_1_2 = part_of {j = 1} of_1_1_1 (no_answer of_1_1_1) (ap (λ r. slice_get (makes_of r) 1) end_1_1_1)

  of_1_1_1_2 : OfHere part_1_1_1_2 work_1_1_1_2
  of_1_1_1_2 = of_part is_1_1_1_2

  end_1_1_1_2 : run (language 4) nested_mapcat limit part_1_1_1_2 work_1_1_1_2 [] ≡ ends (gave (cons (int (pos 2) & no_values) (cell part_1_1_1_2_1))) makes_1_1_1_2_1
  unfolding run walk digits
  end_1_1_1_2 = refl

  gives_1_1_1_2 : GivesHere part_1_1_1_2 (gave (cons (int (pos 2) & no_values) (cell part_1_1_1_2_1)))
  gives_1_1_1_2 = gives of_1_1_1_2 (no_answer of_1_1_1_2) end_1_1_1_2

  abbrev true_1_2_1_3 : TrueHere part_1_2_1 answers_1_2_1_3
  true_1_2_1_3 = one_more of_1_2_1 true_1_2_1_2 needs_1_2_1_2 gives_1_1_1_2

  end_1_2_1 : run (language 4) nested_mapcat limit part_1_2_1 work_1_2_1 answers_1_2_1_3 ≡ ends (gave (cell part_1_2_1_2)) makes_1_2_1_2
  unfolding run walk digits
  end_1_2_1 = refl

  gives_1_2_1 : GivesHere part_1_2_1 (gave (cell part_1_2_1_2))
  gives_1_2_1 = gives of_1_2_1 true_1_2_1_3 end_1_2_1

  abbrev true_1_4 : TrueHere (form 1) answers_1_4
  true_1_4 = one_more of_1 true_1_3 needs_1_3 gives_1_2_1

  needs_1_4 : run (language 4) nested_mapcat limit (form 1) work_1 answers_1_4 ≡ needs part_1_2_1_2 makes_1_2
  unfolding run walk digits
  needs_1_4 = refl

  is_1_2_1_2 : Part (language 4) nested_mapcat limit part_1_2_1_2 Lazy work_1_2_1_2
  is_1_2_1_2 = part_of {j = 1} of_1_2_1 true_1_2_1_3 (ap (λ r. slice_get (makes_of r) 1) end_1_2_1)

  of_1_2_1_2 : OfHere part_1_2_1_2 work_1_2_1_2
  of_1_2_1_2 = of_part is_1_2_1_2

  end_1_2_1_2 : run (language 4) nested_mapcat limit part_1_2_1_2 work_1_2_1_2 [] ≡ ends (gave (cons (int (pos 2) & no_values) (cell part_1_2_1_2_1))) makes_1_2_1_2_1
  unfolding run walk digits
  end_1_2_1_2 = refl

  gives_1_2_1_2 : GivesHere part_1_2_1_2 (gave (cons (int (pos 2) & no_values) (cell part_1_2_1_2_1)))
  gives_1_2_1_2 = gives of_1_2_1_2 (no_answer of_1_2_1_2) end_1_2_1_2

  abbrev true_1_5 : TrueHere (form 1) answers_1_5
  true_1_5 = one_more of_1 true_1_4 needs_1_4 gives_1_2_1_2

  needs_1_5 : run (language 4) nested_mapcat limit (form 1) work_1 answers_1_5 ≡ needs part_1_2_1_2_1 makes_1_2
  unfolding run walk digits
  needs_1_5 = refl

  is_1_2_1_2_1 : Part (language 4) nested_mapcat limit part_1_2_1_2_1 Lazy work_1_2_1_2_1
  is_1_2_1_2_1 = part_of {j = 0} of_1_2_1_2 (no_answer of_1_2_1_2) (ap (λ r. slice_get (makes_of r) 0) end_1_2_1_2)

  of_1_2_1_2_1 : OfHere part_1_2_1_2_1 work_1_2_1_2_1
  of_1_2_1_2_1 = of_part is_1_2_1_2_1

  end_1_2_1_2_1 : run (language 4) nested_mapcat limit part_1_2_1_2_1 work_1_2_1_2_1 [] ≡ ends (gave (cell part_1_2_1_1)) []
  unfolding run walk digits
  end_1_2_1_2_1 = refl

  gives_1_2_1_2_1 : GivesHere part_1_2_1_2_1 (gave (cell part_1_2_1_1))
  gives_1_2_1_2_1 = gives of_1_2_1_2_1 (no_answer of_1_2_1_2_1) end_1_2_1_2_1

  abbrev true_1_6 : TrueHere (form 1) answers_1_6
  true_1_6 = one_more of_1 true_1_5 needs_1_5 gives_1_2_1_2_1

  needs_1_6 : run (language 4) nested_mapcat limit (form 1) work_1 answers_1_6 ≡ needs part_1_2_1_1 makes_1_2
  unfolding run walk digits
  needs_1_6 = refl

  is_1_2_1_1 : Part (language 4) nested_mapcat limit part_1_2_1_1 Lazy work_1_2_1_1
  is_1_2_1_1 = part_of {j = 0} of_1_2_1 true_1_2_1_3 (ap (λ r. slice_get (makes_of r) 0) end_1_2_1)

  of_1_2_1_1 : OfHere part_1_2_1_1 work_1_2_1_1
  of_1_2_1_1 = of_part is_1_2_1_1

  needs_1_2_1_1_0 : run (language 4) nested_mapcat limit part_1_2_1_1 work_1_2_1_1 [] ≡ needs part_1_1_1_2_1 []
  unfolding run walk digits
  needs_1_2_1_1_0 = refl

  is_1_1_1_2_1 : Part (language 4) nested_mapcat limit part_1_1_1_2_1 Lazy work_1_1_1_2_1
  is_1_1_1_2_1 = part_of {j = 0} of_1_1_1_2 (no_answer of_1_1_1_2) (ap (λ r. slice_get (makes_of r) 0) end_1_1_1_2)

  of_1_1_1_2_1 : OfHere part_1_1_1_2_1 work_1_1_1_2_1
  of_1_1_1_2_1 = of_part is_1_1_1_2_1

  end_1_1_1_2_1 : run (language 4) nested_mapcat limit part_1_1_1_2_1 work_1_1_1_2_1 [] ≡ ends (gave (cell part_1_1_1_1)) []
  unfolding run walk digits
  end_1_1_1_2_1 = refl

  gives_1_1_1_2_1 : GivesHere part_1_1_1_2_1 (gave (cell part_1_1_1_1))
  gives_1_1_1_2_1 = gives of_1_1_1_2_1 (no_answer of_1_1_1_2_1) end_1_1_1_2_1

  abbrev true_1_2_1_1_1 : TrueHere part_1_2_1_1 answers_1_2_1_1_1
  true_1_2_1_1_1 = one_more of_1_2_1_1 (no_answer of_1_2_1_1) needs_1_2_1_1_0 gives_1_1_1_2_1

  needs_1_2_1_1_1 : run (language 4) nested_mapcat limit part_1_2_1_1 work_1_2_1_1 answers_1_2_1_1_1 ≡ needs part_1_1_1_1 []
  unfolding run walk digits
  needs_1_2_1_1_1 = refl

  is_1_1_1_1 : Part (language 4) nested_mapcat limit part_1_1_1_1 Lazy work_1_1_1_1
  is_1_1_1_1 = part_of {j = 0} of_1_1_1 (no_answer of_1_1_1) (ap (λ r. slice_get (makes_of r) 0) end_1_1_1)

  of_1_1_1_1 : OfHere part_1_1_1_1 work_1_1_1_1
  of_1_1_1_1 = of_part is_1_1_1_1

  end_1_1_1_1 : run (language 4) nested_mapcat limit part_1_1_1_1 work_1_1_1_1 [] ≡ ends (gave (nil)) []
  unfolding run walk digits
  end_1_1_1_1 = refl

  gives_1_1_1_1 : GivesHere part_1_1_1_1 (gave (nil))
  gives_1_1_1_1 = gives of_1_1_1_1 (no_answer of_1_1_1_1) end_1_1_1_1

  abbrev true_1_2_1_1_2 : TrueHere part_1_2_1_1 answers_1_2_1_1_2
  true_1_2_1_1_2 = one_more of_1_2_1_1 true_1_2_1_1_1 needs_1_2_1_1_1 gives_1_1_1_1

  end_1_2_1_1 : run (language 4) nested_mapcat limit part_1_2_1_1 work_1_2_1_1 answers_1_2_1_1_2 ≡ ends (gave (nil)) []
  unfolding run walk digits
  end_1_2_1_1 = refl

  gives_1_2_1_1 : GivesHere part_1_2_1_1 (gave (nil))
  gives_1_2_1_1 = gives of_1_2_1_1 true_1_2_1_1_2 end_1_2_1_1

  abbrev true_1_7 : TrueHere (form 1) answers_1_7
  true_1_7 = one_more of_1 true_1_6 needs_1_6 gives_1_2_1_1

  end_1 : run (language 4) nested_mapcat limit (form 1) work_1 answers_1_7 ≡ ends (gave (text (codes "(1 2)"))) makes_1_2
  unfolding run walk digits
  end_1 = by n
    where
      by : (n : ℕ) → run (language 4) nested_mapcat (past 12 n) (form 1) work_1 answers_1_7 ≡ ends (gave (text (codes "(1 2)"))) makes_1_2
      by zero = refl
      by (suc n) = refl

  gives_1 : GivesHere (form 1) (gave (text (codes "(1 2)")))
  gives_1 = gives of_1 true_1_7 end_1

  demand_1_at_1 : Demand (language 4) nested_mapcat limit 1 (form 1)
  demand_1_at_1 = demands_form {i = 0} (omega arith)

  demand_1_2_at_1 : Demand (language 4) nested_mapcat limit 1 part_1_2
  demand_1_2_at_1 = demands_need demand_1_at_1 of_1 (no_answer of_1) needs_1_0 (no_failure (language 4) nested_mapcat limit 1 among_1 gives_1_2)

  demand_1_2_2_at_1 : Demand (language 4) nested_mapcat limit 1 part_1_2_2
  demand_1_2_2_at_1 = demands_need demand_1_at_1 of_1 true_1_1 needs_1_1 (no_failure (language 4) nested_mapcat limit 1 among_1 gives_1_2_2)

  demand_1_2_2_1_at_1 : Demand (language 4) nested_mapcat limit 1 part_1_2_2_1
  demand_1_2_2_1_at_1 = demands_need demand_1_at_1 of_1 true_1_2 needs_1_2 (no_failure (language 4) nested_mapcat limit 1 among_1 gives_1_2_2_1)

  demand_1_2_1_at_1 : Demand (language 4) nested_mapcat limit 1 part_1_2_1
  demand_1_2_1_at_1 = demands_need demand_1_at_1 of_1 true_1_3 needs_1_3 (no_failure (language 4) nested_mapcat limit 1 among_1 gives_1_2_1)

  demand_1_2_1_2_at_1 : Demand (language 4) nested_mapcat limit 1 part_1_2_1_2
  demand_1_2_1_2_at_1 = demands_need demand_1_at_1 of_1 true_1_4 needs_1_4 (no_failure (language 4) nested_mapcat limit 1 among_1 gives_1_2_1_2)

  demand_1_2_1_2_1_at_1 : Demand (language 4) nested_mapcat limit 1 part_1_2_1_2_1
  demand_1_2_1_2_1_at_1 = demands_need demand_1_at_1 of_1 true_1_5 needs_1_5 (no_failure (language 4) nested_mapcat limit 1 among_1 gives_1_2_1_2_1)

  demand_1_2_1_1_at_1 : Demand (language 4) nested_mapcat limit 1 part_1_2_1_1
  demand_1_2_1_1_at_1 = demands_need demand_1_at_1 of_1 true_1_6 needs_1_6 (no_failure (language 4) nested_mapcat limit 1 among_1 gives_1_2_1_1)

  demand_1_1_at_1 : Demand (language 4) nested_mapcat limit 1 part_1_1
  demand_1_1_at_1 = demands_need demand_1_2_at_1 of_1_2 (no_answer of_1_2) needs_1_2_0 (no_failure (language 4) nested_mapcat limit 1 among_1 gives_1_1)

  demand_1_1_2_at_1 : Demand (language 4) nested_mapcat limit 1 part_1_1_2
  demand_1_1_2_at_1 = demands_need demand_1_2_at_1 of_1_2 true_1_2_1 needs_1_2_1 (no_failure (language 4) nested_mapcat limit 1 among_1 gives_1_1_2)

  demand_1_1_2_1_at_1 : Demand (language 4) nested_mapcat limit 1 part_1_1_2_1
  demand_1_1_2_1_at_1 = demands_need demand_1_2_1_at_1 of_1_2_1 (no_answer of_1_2_1) needs_1_2_1_0 (no_failure (language 4) nested_mapcat limit 1 among_1 gives_1_1_2_1)

  demand_1_1_1_at_1 : Demand (language 4) nested_mapcat limit 1 part_1_1_1
  demand_1_1_1_at_1 = demands_need demand_1_2_1_at_1 of_1_2_1 true_1_2_1_1 needs_1_2_1_1 (no_failure (language 4) nested_mapcat limit 1 among_1 gives_1_1_1)

  demand_1_1_1_2_at_1 : Demand (language 4) nested_mapcat limit 1 part_1_1_1_2
  demand_1_1_1_2_at_1 = demands_need demand_1_2_1_at_1 of_1_2_1 true_1_2_1_2 needs_1_2_1_2 (no_failure (language 4) nested_mapcat limit 1 among_1 gives_1_1_1_2)

  demand_1_1_1_2_1_at_1 : Demand (language 4) nested_mapcat limit 1 part_1_1_1_2_1
  demand_1_1_1_2_1_at_1 = demands_need demand_1_2_1_1_at_1 of_1_2_1_1 (no_answer of_1_2_1_1) needs_1_2_1_1_0 (no_failure (language 4) nested_mapcat limit 1 among_1 gives_1_1_1_2_1)

  demand_1_1_1_1_at_1 : Demand (language 4) nested_mapcat limit 1 part_1_1_1_1
  demand_1_1_1_1_at_1 = demands_need demand_1_2_1_1_at_1 of_1_2_1_1 true_1_2_1_1_1 needs_1_2_1_1_1 (no_failure (language 4) nested_mapcat limit 1 among_1 gives_1_1_1_1)

  futures_1_at_1 : (j : ℕ) (t : Term Name) → slice_get makes_1_2 j ≡ Some (made Future t) → IsIn (part (form 1) (suc j)) among_1
  futures_1_at_1 zero t p = absurd cc
  futures_1_at_1 (suc zero) t p = absurd cc
  futures_1_at_1 (suc (suc j)) t p = absurd cc

  abbrev row_1_at_1 : Row (language 4) nested_mapcat limit 1 among_1
  row_1_at_1 = record { name = (form 1); followed = record { w = work_1; a = answers_1_7; o = gave (text (codes "(1 2)")); ms = makes_1_2; of = of_1; answers = true_1_7; end = end_1; asks = (one_leads (leads_on (no_failure (language 4) nested_mapcat limit 1 among_1 gives_1_2_1_1) (there (there (there (there (there (there (there here)))))))) (one_leads (leads_on (no_failure (language 4) nested_mapcat limit 1 among_1 gives_1_2_1_2_1) (there (there (there (there (there (there here))))))) (one_leads (leads_on (no_failure (language 4) nested_mapcat limit 1 among_1 gives_1_2_1_2) (there (there (there (there (there here)))))) (one_leads (leads_on (no_failure (language 4) nested_mapcat limit 1 among_1 gives_1_2_1) (there (there (there (there here))))) (one_leads (leads_on (no_failure (language 4) nested_mapcat limit 1 among_1 gives_1_2_2_1) (there (there (there here)))) (one_leads (leads_on (no_failure (language 4) nested_mapcat limit 1 among_1 gives_1_2_2) (there (there here))) (one_leads (leads_on (no_failure (language 4) nested_mapcat limit 1 among_1 gives_1_2) (there here)) none_leads))))))); futures = futures_1_at_1 }; demand = demand_1_at_1 }

  futures_1_2_at_1 : (j : ℕ) (t : Term Name) → slice_get makes_1_2_2 j ≡ Some (made Future t) → IsIn (part part_1_2 (suc j)) among_1
  futures_1_2_at_1 zero t p = absurd cc
  futures_1_2_at_1 (suc zero) t p = absurd cc
  futures_1_2_at_1 (suc (suc j)) t p = absurd cc

  abbrev row_1_2_at_1 : Row (language 4) nested_mapcat limit 1 among_1
  row_1_2_at_1 = record { name = part_1_2; followed = record { w = work_1_2; a = answers_1_2_2; o = gave (cell part_1_2_2); ms = makes_1_2_2; of = of_1_2; answers = true_1_2_2; end = end_1_2; asks = (one_leads (leads_on (no_failure (language 4) nested_mapcat limit 1 among_1 gives_1_1_2) (there (there (there (there (there (there (there (there (there here)))))))))) (one_leads (leads_on (no_failure (language 4) nested_mapcat limit 1 among_1 gives_1_1) (there (there (there (there (there (there (there (there here))))))))) none_leads)); futures = futures_1_2_at_1 }; demand = demand_1_2_at_1 }

  futures_1_2_2_at_1 : (j : ℕ) (t : Term Name) → slice_get makes_1_2_2_1 j ≡ Some (made Future t) → IsIn (part part_1_2_2 (suc j)) among_1
  futures_1_2_2_at_1 zero t p = absurd cc
  futures_1_2_2_at_1 (suc j) t p = absurd cc

  abbrev row_1_2_2_at_1 : Row (language 4) nested_mapcat limit 1 among_1
  row_1_2_2_at_1 = record { name = part_1_2_2; followed = record { w = work_1_2_2; a = []; o = gave (cons (int (pos 1) & no_values) (cell part_1_2_2_1)); ms = makes_1_2_2_1; of = of_1_2_2; answers = (no_answer of_1_2_2); end = end_1_2_2; asks = none_leads; futures = futures_1_2_2_at_1 }; demand = demand_1_2_2_at_1 }

  futures_1_2_2_1_at_1 : (j : ℕ) (t : Term Name) → slice_get [] j ≡ Some (made Future t) → IsIn (part part_1_2_2_1 (suc j)) among_1
  futures_1_2_2_1_at_1 j t p = absurd cc

  abbrev row_1_2_2_1_at_1 : Row (language 4) nested_mapcat limit 1 among_1
  row_1_2_2_1_at_1 = record { name = part_1_2_2_1; followed = record { w = work_1_2_2_1; a = []; o = gave (cell part_1_2_1); ms = []; of = of_1_2_2_1; answers = (no_answer of_1_2_2_1); end = end_1_2_2_1; asks = none_leads; futures = futures_1_2_2_1_at_1 }; demand = demand_1_2_2_1_at_1 }

  futures_1_2_1_at_1 : (j : ℕ) (t : Term Name) → slice_get makes_1_2_1_2 j ≡ Some (made Future t) → IsIn (part part_1_2_1 (suc j)) among_1
  futures_1_2_1_at_1 zero t p = absurd cc
  futures_1_2_1_at_1 (suc zero) t p = absurd cc
  futures_1_2_1_at_1 (suc (suc j)) t p = absurd cc

  abbrev row_1_2_1_at_1 : Row (language 4) nested_mapcat limit 1 among_1
  row_1_2_1_at_1 = record { name = part_1_2_1; followed = record { w = work_1_2_1; a = answers_1_2_1_3; o = gave (cell part_1_2_1_2); ms = makes_1_2_1_2; of = of_1_2_1; answers = true_1_2_1_3; end = end_1_2_1; asks = (one_leads (leads_on (no_failure (language 4) nested_mapcat limit 1 among_1 gives_1_1_1_2) (there (there (there (there (there (there (there (there (there (there (there (there here))))))))))))) (one_leads (leads_on (no_failure (language 4) nested_mapcat limit 1 among_1 gives_1_1_1) (there (there (there (there (there (there (there (there (there (there (there here)))))))))))) (one_leads (leads_on (no_failure (language 4) nested_mapcat limit 1 among_1 gives_1_1_2_1) (there (there (there (there (there (there (there (there (there (there here))))))))))) none_leads))); futures = futures_1_2_1_at_1 }; demand = demand_1_2_1_at_1 }

  futures_1_2_1_2_at_1 : (j : ℕ) (t : Term Name) → slice_get makes_1_2_1_2_1 j ≡ Some (made Future t) → IsIn (part part_1_2_1_2 (suc j)) among_1
  futures_1_2_1_2_at_1 zero t p = absurd cc
  futures_1_2_1_2_at_1 (suc j) t p = absurd cc

  abbrev row_1_2_1_2_at_1 : Row (language 4) nested_mapcat limit 1 among_1
  row_1_2_1_2_at_1 = record { name = part_1_2_1_2; followed = record { w = work_1_2_1_2; a = []; o = gave (cons (int (pos 2) & no_values) (cell part_1_2_1_2_1)); ms = makes_1_2_1_2_1; of = of_1_2_1_2; answers = (no_answer of_1_2_1_2); end = end_1_2_1_2; asks = none_leads; futures = futures_1_2_1_2_at_1 }; demand = demand_1_2_1_2_at_1 }

  futures_1_2_1_2_1_at_1 : (j : ℕ) (t : Term Name) → slice_get [] j ≡ Some (made Future t) → IsIn (part part_1_2_1_2_1 (suc j)) among_1
  futures_1_2_1_2_1_at_1 j t p = absurd cc

  abbrev row_1_2_1_2_1_at_1 : Row (language 4) nested_mapcat limit 1 among_1
  row_1_2_1_2_1_at_1 = record { name = part_1_2_1_2_1; followed = record { w = work_1_2_1_2_1; a = []; o = gave (cell part_1_2_1_1); ms = []; of = of_1_2_1_2_1; answers = (no_answer of_1_2_1_2_1); end = end_1_2_1_2_1; asks = none_leads; futures = futures_1_2_1_2_1_at_1 }; demand = demand_1_2_1_2_1_at_1 }

  futures_1_2_1_1_at_1 : (j : ℕ) (t : Term Name) → slice_get [] j ≡ Some (made Future t) → IsIn (part part_1_2_1_1 (suc j)) among_1
  futures_1_2_1_1_at_1 j t p = absurd cc

  abbrev row_1_2_1_1_at_1 : Row (language 4) nested_mapcat limit 1 among_1
  row_1_2_1_1_at_1 = record { name = part_1_2_1_1; followed = record { w = work_1_2_1_1; a = answers_1_2_1_1_2; o = gave (nil); ms = []; of = of_1_2_1_1; answers = true_1_2_1_1_2; end = end_1_2_1_1; asks = (one_leads (leads_on (no_failure (language 4) nested_mapcat limit 1 among_1 gives_1_1_1_1) (there (there (there (there (there (there (there (there (there (there (there (there (there (there here))))))))))))))) (one_leads (leads_on (no_failure (language 4) nested_mapcat limit 1 among_1 gives_1_1_1_2_1) (there (there (there (there (there (there (there (there (there (there (there (there (there here)))))))))))))) none_leads)); futures = futures_1_2_1_1_at_1 }; demand = demand_1_2_1_1_at_1 }

  futures_1_1_at_1 : (j : ℕ) (t : Term Name) → slice_get makes_1_1_2 j ≡ Some (made Future t) → IsIn (part part_1_1 (suc j)) among_1
  futures_1_1_at_1 zero t p = absurd cc
  futures_1_1_at_1 (suc zero) t p = absurd cc
  futures_1_1_at_1 (suc (suc j)) t p = absurd cc

  abbrev row_1_1_at_1 : Row (language 4) nested_mapcat limit 1 among_1
  row_1_1_at_1 = record { name = part_1_1; followed = record { w = work_1_1; a = []; o = gave (cell part_1_1_2); ms = makes_1_1_2; of = of_1_1; answers = (no_answer of_1_1); end = end_1_1; asks = none_leads; futures = futures_1_1_at_1 }; demand = demand_1_1_at_1 }

  futures_1_1_2_at_1 : (j : ℕ) (t : Term Name) → slice_get makes_1_1_2_1 j ≡ Some (made Future t) → IsIn (part part_1_1_2 (suc j)) among_1
  futures_1_1_2_at_1 zero t p = absurd cc
  futures_1_1_2_at_1 (suc j) t p = absurd cc

  abbrev row_1_1_2_at_1 : Row (language 4) nested_mapcat limit 1 among_1
  row_1_1_2_at_1 = record { name = part_1_1_2; followed = record { w = work_1_1_2; a = []; o = gave (cons (int (pos 1) & no_values) (cell part_1_1_2_1)); ms = makes_1_1_2_1; of = of_1_1_2; answers = (no_answer of_1_1_2); end = end_1_1_2; asks = none_leads; futures = futures_1_1_2_at_1 }; demand = demand_1_1_2_at_1 }

  futures_1_1_2_1_at_1 : (j : ℕ) (t : Term Name) → slice_get [] j ≡ Some (made Future t) → IsIn (part part_1_1_2_1 (suc j)) among_1
  futures_1_1_2_1_at_1 j t p = absurd cc

  abbrev row_1_1_2_1_at_1 : Row (language 4) nested_mapcat limit 1 among_1
  row_1_1_2_1_at_1 = record { name = part_1_1_2_1; followed = record { w = work_1_1_2_1; a = []; o = gave (cell part_1_1_1); ms = []; of = of_1_1_2_1; answers = (no_answer of_1_1_2_1); end = end_1_1_2_1; asks = none_leads; futures = futures_1_1_2_1_at_1 }; demand = demand_1_1_2_1_at_1 }

  futures_1_1_1_at_1 : (j : ℕ) (t : Term Name) → slice_get makes_1_1_1_2 j ≡ Some (made Future t) → IsIn (part part_1_1_1 (suc j)) among_1
  futures_1_1_1_at_1 zero t p = absurd cc
  futures_1_1_1_at_1 (suc zero) t p = absurd cc
  futures_1_1_1_at_1 (suc (suc j)) t p = absurd cc

  abbrev row_1_1_1_at_1 : Row (language 4) nested_mapcat limit 1 among_1
  row_1_1_1_at_1 = record { name = part_1_1_1; followed = record { w = work_1_1_1; a = []; o = gave (cell part_1_1_1_2); ms = makes_1_1_1_2; of = of_1_1_1; answers = (no_answer of_1_1_1); end = end_1_1_1; asks = none_leads; futures = futures_1_1_1_at_1 }; demand = demand_1_1_1_at_1 }

  futures_1_1_1_2_at_1 : (j : ℕ) (t : Term Name) → slice_get makes_1_1_1_2_1 j ≡ Some (made Future t) → IsIn (part part_1_1_1_2 (suc j)) among_1
  futures_1_1_1_2_at_1 zero t p = absurd cc
  futures_1_1_1_2_at_1 (suc j) t p = absurd cc

  abbrev row_1_1_1_2_at_1 : Row (language 4) nested_mapcat limit 1 among_1
  row_1_1_1_2_at_1 = record { name = part_1_1_1_2; followed = record { w = work_1_1_1_2; a = []; o = gave (cons (int (pos 2) & no_values) (cell part_1_1_1_2_1)); ms = makes_1_1_1_2_1; of = of_1_1_1_2; answers = (no_answer of_1_1_1_2); end = end_1_1_1_2; asks = none_leads; futures = futures_1_1_1_2_at_1 }; demand = demand_1_1_1_2_at_1 }

  futures_1_1_1_2_1_at_1 : (j : ℕ) (t : Term Name) → slice_get [] j ≡ Some (made Future t) → IsIn (part part_1_1_1_2_1 (suc j)) among_1
  futures_1_1_1_2_1_at_1 j t p = absurd cc

  abbrev row_1_1_1_2_1_at_1 : Row (language 4) nested_mapcat limit 1 among_1
  row_1_1_1_2_1_at_1 = record { name = part_1_1_1_2_1; followed = record { w = work_1_1_1_2_1; a = []; o = gave (cell part_1_1_1_1); ms = []; of = of_1_1_1_2_1; answers = (no_answer of_1_1_1_2_1); end = end_1_1_1_2_1; asks = none_leads; futures = futures_1_1_1_2_1_at_1 }; demand = demand_1_1_1_2_1_at_1 }

  futures_1_1_1_1_at_1 : (j : ℕ) (t : Term Name) → slice_get [] j ≡ Some (made Future t) → IsIn (part part_1_1_1_1 (suc j)) among_1
  futures_1_1_1_1_at_1 j t p = absurd cc

  abbrev row_1_1_1_1_at_1 : Row (language 4) nested_mapcat limit 1 among_1
  row_1_1_1_1_at_1 = record { name = part_1_1_1_1; followed = record { w = work_1_1_1_1; a = []; o = gave (nil); ms = []; of = of_1_1_1_1; answers = (no_answer of_1_1_1_1); end = end_1_1_1_1; asks = none_leads; futures = futures_1_1_1_1_at_1 }; demand = demand_1_1_1_1_at_1 }

  abbrev rows_at_1 : List (Row (language 4) nested_mapcat limit 1 among_1)
  rows_at_1 = row_1_at_1 ∷ row_1_2_at_1 ∷ row_1_2_2_at_1 ∷ row_1_2_2_1_at_1 ∷ row_1_2_1_at_1 ∷ row_1_2_1_2_at_1 ∷ row_1_2_1_2_1_at_1 ∷ row_1_2_1_1_at_1 ∷ row_1_1_at_1 ∷ row_1_1_2_at_1 ∷ row_1_1_2_1_at_1 ∷ row_1_1_1_at_1 ∷ row_1_1_1_2_at_1 ∷ row_1_1_1_2_1_at_1 ∷ row_1_1_1_1_at_1 ∷ []

  forms_at_1 : (i : ℕ) → i < 1 → IsIn (form (suc i)) among_1
  forms_at_1 zero h = here
  forms_at_1 (suc i) h = absurd (omega arith)

  totals_at_1 : Totals nested_mapcat limit 1 14 14 0
  totals_at_1 = totals_of (language 4) nested_mapcat limit 1 among_1 rows_at_1 forms_at_1 refl refl refl refl refl refl refl

pub nested_mapcat_holds : NestedMapcat
nested_mapcat_holds = (λ limit h. from_past (λ limit. Prints nested_mapcat limit 1 (codes "(1 2)") × Totals nested_mapcat limit 1 14 14 0) 12 limit h (λ n. (gives_1 n, totals_at_1 n)), gives_1_below)

-- The script that is made from 1: ten calls run ahead, of which one is asked, by computation.
use Rattle.std.proofs.Common.{◌≡◌, ℕ, zero, suc, ◌<◌, pos, List, [], ◌∷◌, codes, refl, ap, Some, slice_get, arith}
use Rattle.std.specs.Fmt.{digits}
use Rattle.seq_base.specs.declared.thrown.Thrown.TheVariants.{Steps}
use Rattle.seq_values.specs.declared.words.Builtin.TheVariants as B
use Rattle.seq_values.specs.declared.words.Kind.TheVariants.{Lazy, Future}
use Rattle.seq_values.specs.declared.words.Op.TheVariants as O
use Rattle.seq_values.specs.declared.words.Target.TheVariants as T
use Rattle.seq_values.specs.Model.{nil, int, text, function, cell, empty, cons, chunk, range, no_values, ◌&◌, Term, Outcome, gave, threw}
use Rattle.seq_meaning.specs.Walk.{Made, made, needs, ends, makes_of, walk}
use Rattle.seq_meaning.specs.Names.{Name, form, part}
use Rattle.seq_meaning.specs.Gives.{Work, work, of_form, of_term, run, Of, of_top, of_part, Part, part_of, True, no_answer, one_more, Gives, gives, Before, none_before, def_before, other_before, prn_none}
use Rattle.seq_meaning.specs.Counts.{Demand, demands_form, demands_need, demands_future, IsIn, here, there}
use Rattle.seq_meaning.proofs.Closing.{leads_on, none_leads, one_leads, no_failure}
use Rattle.seq_meaning.proofs.Worked.{past, from_past}
use Rattle.seq_table.specs.Table.{language}
use Rattle.seq_table.specs.Worked.{Prints, Totals, made_script_1, made_script_2, made_script_3, made_script, MadeScript}
use Rattle.seq_table.proofs.Rows.{Row, totals_of}

-- the parts, and the attempts at them
abbrev part_1_3 : Name
part_1_3 = part (form 1) 3

abbrev part_1_1 : Name
part_1_1 = part (form 1) 1

abbrev part_1_2 : Name
part_1_2 = part (form 1) 2

abbrev part_1_1_1 : Name
part_1_1_1 = part part_1_1 1

abbrev part_1_1_2 : Name
part_1_1_2 = part part_1_1 2

abbrev part_1_1_3 : Name
part_1_1_3 = part part_1_1 3

abbrev part_1_1_4 : Name
part_1_1_4 = part part_1_1 4

abbrev part_1_1_5 : Name
part_1_1_5 = part part_1_1 5

abbrev part_1_1_6 : Name
part_1_1_6 = part part_1_1 6

abbrev part_1_1_7 : Name
part_1_1_7 = part part_1_1 7

abbrev part_1_1_8 : Name
part_1_1_8 = part part_1_1 8

abbrev part_1_1_9 : Name
part_1_1_9 = part part_1_1 9

abbrev part_1_1_10 : Name
part_1_1_10 = part part_1_1 10

abbrev part_1_1_11 : Name
part_1_1_11 = part part_1_1 11

abbrev part_1_3_1 : Name
part_1_3_1 = part part_1_3 1

-- works, makes and answers
abbrev work_2 : Work
work_2 = work (cell part_1_3 ∷ []) (of_form made_script_2)

abbrev work_1 : Work
work_1 = work [] (of_form made_script_1)

abbrev makes_1_2 : List (Made Name)
makes_1_2 = made Lazy (record { op = O.Rets; args = function (T.Builtin B.Inc) no_values ∷ range (pos 0) (pos 0) (pos 10) ∷ [] }) ∷ made Lazy (record { op = O.Drop; args = int (pos 6) ∷ cell part_1_1 ∷ [] }) ∷ []

abbrev work_1_1 : Work
work_1_1 = work ([]) (of_term (record { op = O.Rets; args = function (T.Builtin B.Inc) no_values ∷ range (pos 0) (pos 0) (pos 10) ∷ [] }))

abbrev makes_1_1_11 : List (Made Name)
makes_1_1_11 = made Future (record { op = O.Call; args = function (T.Builtin B.Inc) no_values ∷ int (pos 0) ∷ [] }) ∷ made Future (record { op = O.Call; args = function (T.Builtin B.Inc) no_values ∷ int (pos 1) ∷ [] }) ∷ made Future (record { op = O.Call; args = function (T.Builtin B.Inc) no_values ∷ int (pos 2) ∷ [] }) ∷ made Future (record { op = O.Call; args = function (T.Builtin B.Inc) no_values ∷ int (pos 3) ∷ [] }) ∷ made Future (record { op = O.Call; args = function (T.Builtin B.Inc) no_values ∷ int (pos 4) ∷ [] }) ∷ made Future (record { op = O.Call; args = function (T.Builtin B.Inc) no_values ∷ int (pos 5) ∷ [] }) ∷ made Future (record { op = O.Call; args = function (T.Builtin B.Inc) no_values ∷ int (pos 6) ∷ [] }) ∷ made Future (record { op = O.Call; args = function (T.Builtin B.Inc) no_values ∷ int (pos 7) ∷ [] }) ∷ made Future (record { op = O.Call; args = function (T.Builtin B.Inc) no_values ∷ int (pos 8) ∷ [] }) ∷ made Future (record { op = O.Call; args = function (T.Builtin B.Inc) no_values ∷ int (pos 9) ∷ [] }) ∷ made Lazy (record { op = O.Rets; args = function (T.Builtin B.Inc) no_values ∷ empty ∷ [] }) ∷ []

abbrev answers_1_1 : List (Outcome Name)
answers_1_1 = gave (chunk (cell part_1_1_1 & cell part_1_1_2 & cell part_1_1_3 & cell part_1_1_4 & cell part_1_1_5 & cell part_1_1_6 & cell part_1_1_7 & cell part_1_1_8 & cell part_1_1_9 & cell part_1_1_10 & no_values) (cell part_1_1_11)) ∷ []

abbrev makes_1_3 : List (Made Name)
makes_1_3 = made Lazy (record { op = O.Rets; args = function (T.Builtin B.Inc) no_values ∷ range (pos 0) (pos 0) (pos 10) ∷ [] }) ∷ made Lazy (record { op = O.Drop; args = int (pos 6) ∷ cell part_1_1 ∷ [] }) ∷ made Lazy (record { op = O.Step; args = cell part_1_1_1 ∷ chunk (cell part_1_1_2 & cell part_1_1_3 & cell part_1_1_4 & cell part_1_1_5 & cell part_1_1_6 & cell part_1_1_7 & cell part_1_1_8 & cell part_1_1_9 & cell part_1_1_10 & no_values) (cell part_1_1_11) ∷ cell part_1_1 ∷ cell part_1_2 ∷ [] }) ∷ []

abbrev work_1_3 : Work
work_1_3 = work ([]) (of_term (record { op = O.Step; args = cell part_1_1_1 ∷ chunk (cell part_1_1_2 & cell part_1_1_3 & cell part_1_1_4 & cell part_1_1_5 & cell part_1_1_6 & cell part_1_1_7 & cell part_1_1_8 & cell part_1_1_9 & cell part_1_1_10 & no_values) (cell part_1_1_11) ∷ cell part_1_1 ∷ cell part_1_2 ∷ [] }))

abbrev work_1_2 : Work
work_1_2 = work ([]) (of_term (record { op = O.Drop; args = int (pos 6) ∷ cell part_1_1 ∷ [] }))

abbrev answers_1_2_1 : List (Outcome Name)
answers_1_2_1 = gave (chunk (cell part_1_1_1 & cell part_1_1_2 & cell part_1_1_3 & cell part_1_1_4 & cell part_1_1_5 & cell part_1_1_6 & cell part_1_1_7 & cell part_1_1_8 & cell part_1_1_9 & cell part_1_1_10 & no_values) (cell part_1_1_11)) ∷ []

abbrev answers_1_3_1 : List (Outcome Name)
answers_1_3_1 = gave (chunk (cell part_1_1_7 & cell part_1_1_8 & cell part_1_1_9 & cell part_1_1_10 & no_values) (cell part_1_1_11)) ∷ []

abbrev work_1_1_1 : Work
work_1_1_1 = work ([]) (of_term (record { op = O.Call; args = function (T.Builtin B.Inc) no_values ∷ int (pos 0) ∷ [] }))

abbrev answers_1_3_2 : List (Outcome Name)
answers_1_3_2 = gave (int (pos 1)) ∷ answers_1_3_1

abbrev makes_1_3_1 : List (Made Name)
makes_1_3_1 = made Lazy (record { op = O.Step; args = cell part_1_1_2 ∷ chunk (cell part_1_1_3 & cell part_1_1_4 & cell part_1_1_5 & cell part_1_1_6 & cell part_1_1_7 & cell part_1_1_8 & cell part_1_1_9 & cell part_1_1_10 & no_values) (cell part_1_1_11) ∷ chunk (cell part_1_1_2 & cell part_1_1_3 & cell part_1_1_4 & cell part_1_1_5 & cell part_1_1_6 & cell part_1_1_7 & cell part_1_1_8 & cell part_1_1_9 & cell part_1_1_10 & no_values) (cell part_1_1_11) ∷ chunk (cell part_1_1_8 & cell part_1_1_9 & cell part_1_1_10 & no_values) (cell part_1_1_11) ∷ [] }) ∷ []

abbrev answers_2_1 : List (Outcome Name)
answers_2_1 = gave (cons (int (pos 1) & no_values) (cell part_1_3_1)) ∷ []

abbrev work_3 : Work
work_3 = work (cell part_1_3 ∷ nil ∷ []) (of_form made_script_3)

abbrev work_1_1_2 : Work
work_1_1_2 = work ([]) (of_term (record { op = O.Call; args = function (T.Builtin B.Inc) no_values ∷ int (pos 1) ∷ [] }))

abbrev work_1_1_3 : Work
work_1_1_3 = work ([]) (of_term (record { op = O.Call; args = function (T.Builtin B.Inc) no_values ∷ int (pos 2) ∷ [] }))

abbrev work_1_1_4 : Work
work_1_1_4 = work ([]) (of_term (record { op = O.Call; args = function (T.Builtin B.Inc) no_values ∷ int (pos 3) ∷ [] }))

abbrev work_1_1_5 : Work
work_1_1_5 = work ([]) (of_term (record { op = O.Call; args = function (T.Builtin B.Inc) no_values ∷ int (pos 4) ∷ [] }))

abbrev work_1_1_6 : Work
work_1_1_6 = work ([]) (of_term (record { op = O.Call; args = function (T.Builtin B.Inc) no_values ∷ int (pos 5) ∷ [] }))

abbrev work_1_1_7 : Work
work_1_1_7 = work ([]) (of_term (record { op = O.Call; args = function (T.Builtin B.Inc) no_values ∷ int (pos 6) ∷ [] }))

abbrev work_1_1_8 : Work
work_1_1_8 = work ([]) (of_term (record { op = O.Call; args = function (T.Builtin B.Inc) no_values ∷ int (pos 7) ∷ [] }))

abbrev work_1_1_9 : Work
work_1_1_9 = work ([]) (of_term (record { op = O.Call; args = function (T.Builtin B.Inc) no_values ∷ int (pos 8) ∷ [] }))

abbrev work_1_1_10 : Work
work_1_1_10 = work ([]) (of_term (record { op = O.Call; args = function (T.Builtin B.Inc) no_values ∷ int (pos 9) ∷ [] }))

abbrev among_3 : List Name
among_3 = (form 1) ∷ (form 2) ∷ (form 3) ∷ part_1_1 ∷ part_1_3 ∷ part_1_1_1 ∷ part_1_1_2 ∷ part_1_1_3 ∷ part_1_1_4 ∷ part_1_1_5 ∷ part_1_1_6 ∷ part_1_1_7 ∷ part_1_1_8 ∷ part_1_1_9 ∷ part_1_1_10 ∷ part_1_2 ∷ []

abbrev work_2_below : Work
work_2_below = work (cell part_1_3 ∷ []) (of_form made_script_2)

abbrev work_1_below : Work
work_1_below = work [] (of_form made_script_1)

abbrev makes_1_2_below : List (Made Name)
makes_1_2_below = made Lazy (record { op = O.Rets; args = function (T.Builtin B.Inc) no_values ∷ range (pos 0) (pos 0) (pos 10) ∷ [] }) ∷ made Lazy (record { op = O.Drop; args = int (pos 6) ∷ cell part_1_1 ∷ [] }) ∷ []

abbrev work_1_1_below : Work
work_1_1_below = work ([]) (of_term (record { op = O.Rets; args = function (T.Builtin B.Inc) no_values ∷ range (pos 0) (pos 0) (pos 10) ∷ [] }))

abbrev makes_1_1_11_below : List (Made Name)
makes_1_1_11_below = made Future (record { op = O.Call; args = function (T.Builtin B.Inc) no_values ∷ int (pos 0) ∷ [] }) ∷ made Future (record { op = O.Call; args = function (T.Builtin B.Inc) no_values ∷ int (pos 1) ∷ [] }) ∷ made Future (record { op = O.Call; args = function (T.Builtin B.Inc) no_values ∷ int (pos 2) ∷ [] }) ∷ made Future (record { op = O.Call; args = function (T.Builtin B.Inc) no_values ∷ int (pos 3) ∷ [] }) ∷ made Future (record { op = O.Call; args = function (T.Builtin B.Inc) no_values ∷ int (pos 4) ∷ [] }) ∷ made Future (record { op = O.Call; args = function (T.Builtin B.Inc) no_values ∷ int (pos 5) ∷ [] }) ∷ made Future (record { op = O.Call; args = function (T.Builtin B.Inc) no_values ∷ int (pos 6) ∷ [] }) ∷ made Future (record { op = O.Call; args = function (T.Builtin B.Inc) no_values ∷ int (pos 7) ∷ [] }) ∷ made Future (record { op = O.Call; args = function (T.Builtin B.Inc) no_values ∷ int (pos 8) ∷ [] }) ∷ made Future (record { op = O.Call; args = function (T.Builtin B.Inc) no_values ∷ int (pos 9) ∷ [] }) ∷ made Lazy (record { op = O.Rets; args = function (T.Builtin B.Inc) no_values ∷ empty ∷ [] }) ∷ []

abbrev answers_1_1_below : List (Outcome Name)
answers_1_1_below = gave (chunk (cell part_1_1_1 & cell part_1_1_2 & cell part_1_1_3 & cell part_1_1_4 & cell part_1_1_5 & cell part_1_1_6 & cell part_1_1_7 & cell part_1_1_8 & cell part_1_1_9 & cell part_1_1_10 & no_values) (cell part_1_1_11)) ∷ []

abbrev makes_1_3_below : List (Made Name)
makes_1_3_below = made Lazy (record { op = O.Rets; args = function (T.Builtin B.Inc) no_values ∷ range (pos 0) (pos 0) (pos 10) ∷ [] }) ∷ made Lazy (record { op = O.Drop; args = int (pos 6) ∷ cell part_1_1 ∷ [] }) ∷ made Lazy (record { op = O.Step; args = cell part_1_1_1 ∷ chunk (cell part_1_1_2 & cell part_1_1_3 & cell part_1_1_4 & cell part_1_1_5 & cell part_1_1_6 & cell part_1_1_7 & cell part_1_1_8 & cell part_1_1_9 & cell part_1_1_10 & no_values) (cell part_1_1_11) ∷ cell part_1_1 ∷ cell part_1_2 ∷ [] }) ∷ []

abbrev work_1_3_below : Work
work_1_3_below = work ([]) (of_term (record { op = O.Step; args = cell part_1_1_1 ∷ chunk (cell part_1_1_2 & cell part_1_1_3 & cell part_1_1_4 & cell part_1_1_5 & cell part_1_1_6 & cell part_1_1_7 & cell part_1_1_8 & cell part_1_1_9 & cell part_1_1_10 & no_values) (cell part_1_1_11) ∷ cell part_1_1 ∷ cell part_1_2 ∷ [] }))

abbrev work_1_2_below : Work
work_1_2_below = work ([]) (of_term (record { op = O.Drop; args = int (pos 6) ∷ cell part_1_1 ∷ [] }))

abbrev answers_1_2_1_below : List (Outcome Name)
answers_1_2_1_below = gave (chunk (cell part_1_1_1 & cell part_1_1_2 & cell part_1_1_3 & cell part_1_1_4 & cell part_1_1_5 & cell part_1_1_6 & cell part_1_1_7 & cell part_1_1_8 & cell part_1_1_9 & cell part_1_1_10 & no_values) (cell part_1_1_11)) ∷ []

abbrev answers_1_3_1_below : List (Outcome Name)
answers_1_3_1_below = threw Steps ∷ []

abbrev answers_2_1_below : List (Outcome Name)
answers_2_1_below = threw Steps ∷ []

-- With 7 steps or more:
module _ (n : ℕ) where
  abbrev limit : ℕ
  limit = past 7 n

  abbrev OfHere : Name → Work → Type 0
  OfHere e w = Of (language 4) made_script limit e w

  abbrev GivesHere : Name → Outcome Name → Type 0
  GivesHere e o = Gives (language 4) made_script limit e o

  abbrev TrueHere : Name → List (Outcome Name) → Type 0
  TrueHere e a = True (language 4) made_script limit e a

  before_0 : Before (language 4) made_script limit 0 ([])
  before_0 = none_before

  of_1 : OfHere (form 1) work_1
  of_1 = of_top before_0 refl

  needs_1_0 : run (language 4) made_script limit (form 1) work_1 [] ≡ needs part_1_1 makes_1_2
  unfolding run walk digits
  needs_1_0 = refl

  is_1_1 : Part (language 4) made_script limit part_1_1 Lazy work_1_1
  is_1_1 = part_of {j = 0} of_1 (no_answer of_1) (ap (λ r. slice_get (makes_of r) 0) needs_1_0)

  of_1_1 : OfHere part_1_1 work_1_1
  of_1_1 = of_part is_1_1

  end_1_1 : run (language 4) made_script limit part_1_1 work_1_1 [] ≡ ends (gave (chunk (cell part_1_1_1 & cell part_1_1_2 & cell part_1_1_3 & cell part_1_1_4 & cell part_1_1_5 & cell part_1_1_6 & cell part_1_1_7 & cell part_1_1_8 & cell part_1_1_9 & cell part_1_1_10 & no_values) (cell part_1_1_11))) makes_1_1_11
  unfolding run walk digits
  end_1_1 = refl

  gives_1_1 : GivesHere part_1_1 (gave (chunk (cell part_1_1_1 & cell part_1_1_2 & cell part_1_1_3 & cell part_1_1_4 & cell part_1_1_5 & cell part_1_1_6 & cell part_1_1_7 & cell part_1_1_8 & cell part_1_1_9 & cell part_1_1_10 & no_values) (cell part_1_1_11)))
  gives_1_1 = gives of_1_1 (no_answer of_1_1) end_1_1

  abbrev true_1_1 : TrueHere (form 1) answers_1_1
  true_1_1 = one_more of_1 (no_answer of_1) needs_1_0 gives_1_1

  end_1 : run (language 4) made_script limit (form 1) work_1 answers_1_1 ≡ ends (gave (cell part_1_3)) makes_1_3
  unfolding run walk digits
  end_1 = refl

  gives_1 : GivesHere (form 1) (gave (cell part_1_3))
  gives_1 = gives of_1 true_1_1 end_1

  before_1 : Before (language 4) made_script limit 1 (cell part_1_3 ∷ [])
  before_1 = def_before before_0 refl gives_1 refl

  of_2 : OfHere (form 2) work_2
  of_2 = of_top before_1 refl

  needs_2_0 : run (language 4) made_script limit (form 2) work_2 [] ≡ needs part_1_3 []
  unfolding run walk digits
  needs_2_0 = refl

  is_1_3 : Part (language 4) made_script limit part_1_3 Lazy work_1_3
  is_1_3 = part_of {j = 2} of_1 true_1_1 (ap (λ r. slice_get (makes_of r) 2) end_1)

  of_1_3 : OfHere part_1_3 work_1_3
  of_1_3 = of_part is_1_3

  needs_1_3_0 : run (language 4) made_script limit part_1_3 work_1_3 [] ≡ needs part_1_2 []
  unfolding run walk digits
  needs_1_3_0 = refl

  is_1_2 : Part (language 4) made_script limit part_1_2 Lazy work_1_2
  is_1_2 = part_of {j = 1} of_1 (no_answer of_1) (ap (λ r. slice_get (makes_of r) 1) needs_1_0)

  of_1_2 : OfHere part_1_2 work_1_2
  of_1_2 = of_part is_1_2

  needs_1_2_0 : run (language 4) made_script limit part_1_2 work_1_2 [] ≡ needs part_1_1 []
  unfolding run walk digits
  needs_1_2_0 = refl

  abbrev true_1_2_1 : TrueHere part_1_2 answers_1_2_1
  true_1_2_1 = one_more of_1_2 (no_answer of_1_2) needs_1_2_0 gives_1_1

  end_1_2 : run (language 4) made_script limit part_1_2 work_1_2 answers_1_2_1 ≡ ends (gave (chunk (cell part_1_1_7 & cell part_1_1_8 & cell part_1_1_9 & cell part_1_1_10 & no_values) (cell part_1_1_11))) []
  unfolding run walk digits
  end_1_2 = by n
    where
      by : (n : ℕ) → run (language 4) made_script (past 7 n) part_1_2 work_1_2 answers_1_2_1 ≡ ends (gave (chunk (cell part_1_1_7 & cell part_1_1_8 & cell part_1_1_9 & cell part_1_1_10 & no_values) (cell part_1_1_11))) []
      by zero = refl
      by (suc n) = refl

  gives_1_2 : GivesHere part_1_2 (gave (chunk (cell part_1_1_7 & cell part_1_1_8 & cell part_1_1_9 & cell part_1_1_10 & no_values) (cell part_1_1_11)))
  gives_1_2 = gives of_1_2 true_1_2_1 end_1_2

  abbrev true_1_3_1 : TrueHere part_1_3 answers_1_3_1
  true_1_3_1 = one_more of_1_3 (no_answer of_1_3) needs_1_3_0 gives_1_2

  needs_1_3_1 : run (language 4) made_script limit part_1_3 work_1_3 answers_1_3_1 ≡ needs part_1_1_1 []
  unfolding run walk digits
  needs_1_3_1 = refl

  is_1_1_1 : Part (language 4) made_script limit part_1_1_1 Future work_1_1_1
  is_1_1_1 = part_of {j = 0} of_1_1 (no_answer of_1_1) (ap (λ r. slice_get (makes_of r) 0) end_1_1)

  of_1_1_1 : OfHere part_1_1_1 work_1_1_1
  of_1_1_1 = of_part is_1_1_1

  end_1_1_1 : run (language 4) made_script limit part_1_1_1 work_1_1_1 [] ≡ ends (gave (int (pos 1))) []
  unfolding run walk digits
  end_1_1_1 = refl

  gives_1_1_1 : GivesHere part_1_1_1 (gave (int (pos 1)))
  gives_1_1_1 = gives of_1_1_1 (no_answer of_1_1_1) end_1_1_1

  abbrev true_1_3_2 : TrueHere part_1_3 answers_1_3_2
  true_1_3_2 = one_more of_1_3 true_1_3_1 needs_1_3_1 gives_1_1_1

  end_1_3 : run (language 4) made_script limit part_1_3 work_1_3 answers_1_3_2 ≡ ends (gave (cons (int (pos 1) & no_values) (cell part_1_3_1))) makes_1_3_1
  unfolding run walk digits
  end_1_3 = refl

  gives_1_3 : GivesHere part_1_3 (gave (cons (int (pos 1) & no_values) (cell part_1_3_1)))
  gives_1_3 = gives of_1_3 true_1_3_2 end_1_3

  abbrev true_2_1 : TrueHere (form 2) answers_2_1
  true_2_1 = one_more of_2 (no_answer of_2) needs_2_0 gives_1_3

  end_2 : run (language 4) made_script limit (form 2) work_2 answers_2_1 ≡ ends (gave (text (codes "1"))) []
  unfolding run walk digits
  end_2 = refl

  gives_2 : GivesHere (form 2) (gave (text (codes "1")))
  gives_2 = gives of_2 true_2_1 end_2

  before_2 : Before (language 4) made_script limit 2 (cell part_1_3 ∷ nil ∷ [])
  before_2 = other_before before_1 refl prn_none refl

  of_3 : OfHere (form 3) work_3
  of_3 = of_top before_2 refl

  end_3 : run (language 4) made_script limit (form 3) work_3 [] ≡ ends (gave (nil)) []
  unfolding run walk digits
  end_3 = refl

  gives_3 : GivesHere (form 3) (gave (nil))
  gives_3 = gives of_3 (no_answer of_3) end_3

  is_1_1_2 : Part (language 4) made_script limit part_1_1_2 Future work_1_1_2
  is_1_1_2 = part_of {j = 1} of_1_1 (no_answer of_1_1) (ap (λ r. slice_get (makes_of r) 1) end_1_1)

  of_1_1_2 : OfHere part_1_1_2 work_1_1_2
  of_1_1_2 = of_part is_1_1_2

  end_1_1_2 : run (language 4) made_script limit part_1_1_2 work_1_1_2 [] ≡ ends (gave (int (pos 2))) []
  unfolding run walk digits
  end_1_1_2 = refl

  gives_1_1_2 : GivesHere part_1_1_2 (gave (int (pos 2)))
  gives_1_1_2 = gives of_1_1_2 (no_answer of_1_1_2) end_1_1_2

  is_1_1_3 : Part (language 4) made_script limit part_1_1_3 Future work_1_1_3
  is_1_1_3 = part_of {j = 2} of_1_1 (no_answer of_1_1) (ap (λ r. slice_get (makes_of r) 2) end_1_1)

  of_1_1_3 : OfHere part_1_1_3 work_1_1_3
  of_1_1_3 = of_part is_1_1_3

  end_1_1_3 : run (language 4) made_script limit part_1_1_3 work_1_1_3 [] ≡ ends (gave (int (pos 3))) []
  unfolding run walk digits
  end_1_1_3 = refl

  gives_1_1_3 : GivesHere part_1_1_3 (gave (int (pos 3)))
  gives_1_1_3 = gives of_1_1_3 (no_answer of_1_1_3) end_1_1_3

  is_1_1_4 : Part (language 4) made_script limit part_1_1_4 Future work_1_1_4
  is_1_1_4 = part_of {j = 3} of_1_1 (no_answer of_1_1) (ap (λ r. slice_get (makes_of r) 3) end_1_1)

  of_1_1_4 : OfHere part_1_1_4 work_1_1_4
  of_1_1_4 = of_part is_1_1_4

  end_1_1_4 : run (language 4) made_script limit part_1_1_4 work_1_1_4 [] ≡ ends (gave (int (pos 4))) []
  unfolding run walk digits
  end_1_1_4 = refl

  gives_1_1_4 : GivesHere part_1_1_4 (gave (int (pos 4)))
  gives_1_1_4 = gives of_1_1_4 (no_answer of_1_1_4) end_1_1_4

  is_1_1_5 : Part (language 4) made_script limit part_1_1_5 Future work_1_1_5
  is_1_1_5 = part_of {j = 4} of_1_1 (no_answer of_1_1) (ap (λ r. slice_get (makes_of r) 4) end_1_1)

  of_1_1_5 : OfHere part_1_1_5 work_1_1_5
  of_1_1_5 = of_part is_1_1_5

  end_1_1_5 : run (language 4) made_script limit part_1_1_5 work_1_1_5 [] ≡ ends (gave (int (pos 5))) []
  unfolding run walk digits
  end_1_1_5 = refl

  gives_1_1_5 : GivesHere part_1_1_5 (gave (int (pos 5)))
  gives_1_1_5 = gives of_1_1_5 (no_answer of_1_1_5) end_1_1_5

  is_1_1_6 : Part (language 4) made_script limit part_1_1_6 Future work_1_1_6
  is_1_1_6 = part_of {j = 5} of_1_1 (no_answer of_1_1) (ap (λ r. slice_get (makes_of r) 5) end_1_1)

  of_1_1_6 : OfHere part_1_1_6 work_1_1_6
  of_1_1_6 = of_part is_1_1_6

  end_1_1_6 : run (language 4) made_script limit part_1_1_6 work_1_1_6 [] ≡ ends (gave (int (pos 6))) []
  unfolding run walk digits
  end_1_1_6 = refl

  gives_1_1_6 : GivesHere part_1_1_6 (gave (int (pos 6)))
  gives_1_1_6 = gives of_1_1_6 (no_answer of_1_1_6) end_1_1_6

  is_1_1_7 : Part (language 4) made_script limit part_1_1_7 Future work_1_1_7
  is_1_1_7 = part_of {j = 6} of_1_1 (no_answer of_1_1) (ap (λ r. slice_get (makes_of r) 6) end_1_1)

  of_1_1_7 : OfHere part_1_1_7 work_1_1_7
  of_1_1_7 = of_part is_1_1_7

  end_1_1_7 : run (language 4) made_script limit part_1_1_7 work_1_1_7 [] ≡ ends (gave (int (pos 7))) []
  unfolding run walk digits
  end_1_1_7 = refl

  gives_1_1_7 : GivesHere part_1_1_7 (gave (int (pos 7)))
  gives_1_1_7 = gives of_1_1_7 (no_answer of_1_1_7) end_1_1_7

  is_1_1_8 : Part (language 4) made_script limit part_1_1_8 Future work_1_1_8
  is_1_1_8 = part_of {j = 7} of_1_1 (no_answer of_1_1) (ap (λ r. slice_get (makes_of r) 7) end_1_1)

  of_1_1_8 : OfHere part_1_1_8 work_1_1_8
  of_1_1_8 = of_part is_1_1_8

  end_1_1_8 : run (language 4) made_script limit part_1_1_8 work_1_1_8 [] ≡ ends (gave (int (pos 8))) []
  unfolding run walk digits
  end_1_1_8 = refl

  gives_1_1_8 : GivesHere part_1_1_8 (gave (int (pos 8)))
  gives_1_1_8 = gives of_1_1_8 (no_answer of_1_1_8) end_1_1_8

  is_1_1_9 : Part (language 4) made_script limit part_1_1_9 Future work_1_1_9
  is_1_1_9 = part_of {j = 8} of_1_1 (no_answer of_1_1) (ap (λ r. slice_get (makes_of r) 8) end_1_1)

  of_1_1_9 : OfHere part_1_1_9 work_1_1_9
  of_1_1_9 = of_part is_1_1_9

  end_1_1_9 : run (language 4) made_script limit part_1_1_9 work_1_1_9 [] ≡ ends (gave (int (pos 9))) []
  unfolding run walk digits
  end_1_1_9 = refl

  gives_1_1_9 : GivesHere part_1_1_9 (gave (int (pos 9)))
  gives_1_1_9 = gives of_1_1_9 (no_answer of_1_1_9) end_1_1_9

  is_1_1_10 : Part (language 4) made_script limit part_1_1_10 Future work_1_1_10
  is_1_1_10 = part_of {j = 9} of_1_1 (no_answer of_1_1) (ap (λ r. slice_get (makes_of r) 9) end_1_1)

  of_1_1_10 : OfHere part_1_1_10 work_1_1_10
  of_1_1_10 = of_part is_1_1_10

  end_1_1_10 : run (language 4) made_script limit part_1_1_10 work_1_1_10 [] ≡ ends (gave (int (pos 10))) []
  unfolding run walk digits
  end_1_1_10 = refl

  gives_1_1_10 : GivesHere part_1_1_10 (gave (int (pos 10)))
  gives_1_1_10 = gives of_1_1_10 (no_answer of_1_1_10) end_1_1_10

  demand_1_at_3 : Demand (language 4) made_script limit 3 (form 1)
  demand_1_at_3 = demands_form {i = 0} (omega arith)

  demand_2_at_3 : Demand (language 4) made_script limit 3 (form 2)
  demand_2_at_3 = demands_form {i = 1} (omega arith)

  demand_3_at_3 : Demand (language 4) made_script limit 3 (form 3)
  demand_3_at_3 = demands_form {i = 2} (omega arith)

  demand_1_1_at_3 : Demand (language 4) made_script limit 3 part_1_1
  demand_1_1_at_3 = demands_need demand_1_at_3 of_1 (no_answer of_1) needs_1_0 (no_failure (language 4) made_script limit 3 among_3 gives_1_1)

  demand_1_3_at_3 : Demand (language 4) made_script limit 3 part_1_3
  demand_1_3_at_3 = demands_need demand_2_at_3 of_2 (no_answer of_2) needs_2_0 (no_failure (language 4) made_script limit 3 among_3 gives_1_3)

  demand_1_1_1_at_3 : Demand (language 4) made_script limit 3 part_1_1_1
  demand_1_1_1_at_3 = demands_future {j = 0} demand_1_1_at_3 of_1_1 (no_answer of_1_1) (ap (λ r. slice_get (makes_of r) 0) end_1_1)

  demand_1_1_2_at_3 : Demand (language 4) made_script limit 3 part_1_1_2
  demand_1_1_2_at_3 = demands_future {j = 1} demand_1_1_at_3 of_1_1 (no_answer of_1_1) (ap (λ r. slice_get (makes_of r) 1) end_1_1)

  demand_1_1_3_at_3 : Demand (language 4) made_script limit 3 part_1_1_3
  demand_1_1_3_at_3 = demands_future {j = 2} demand_1_1_at_3 of_1_1 (no_answer of_1_1) (ap (λ r. slice_get (makes_of r) 2) end_1_1)

  demand_1_1_4_at_3 : Demand (language 4) made_script limit 3 part_1_1_4
  demand_1_1_4_at_3 = demands_future {j = 3} demand_1_1_at_3 of_1_1 (no_answer of_1_1) (ap (λ r. slice_get (makes_of r) 3) end_1_1)

  demand_1_1_5_at_3 : Demand (language 4) made_script limit 3 part_1_1_5
  demand_1_1_5_at_3 = demands_future {j = 4} demand_1_1_at_3 of_1_1 (no_answer of_1_1) (ap (λ r. slice_get (makes_of r) 4) end_1_1)

  demand_1_1_6_at_3 : Demand (language 4) made_script limit 3 part_1_1_6
  demand_1_1_6_at_3 = demands_future {j = 5} demand_1_1_at_3 of_1_1 (no_answer of_1_1) (ap (λ r. slice_get (makes_of r) 5) end_1_1)

  demand_1_1_7_at_3 : Demand (language 4) made_script limit 3 part_1_1_7
  demand_1_1_7_at_3 = demands_future {j = 6} demand_1_1_at_3 of_1_1 (no_answer of_1_1) (ap (λ r. slice_get (makes_of r) 6) end_1_1)

  demand_1_1_8_at_3 : Demand (language 4) made_script limit 3 part_1_1_8
  demand_1_1_8_at_3 = demands_future {j = 7} demand_1_1_at_3 of_1_1 (no_answer of_1_1) (ap (λ r. slice_get (makes_of r) 7) end_1_1)

  demand_1_1_9_at_3 : Demand (language 4) made_script limit 3 part_1_1_9
  demand_1_1_9_at_3 = demands_future {j = 8} demand_1_1_at_3 of_1_1 (no_answer of_1_1) (ap (λ r. slice_get (makes_of r) 8) end_1_1)

  demand_1_1_10_at_3 : Demand (language 4) made_script limit 3 part_1_1_10
  demand_1_1_10_at_3 = demands_future {j = 9} demand_1_1_at_3 of_1_1 (no_answer of_1_1) (ap (λ r. slice_get (makes_of r) 9) end_1_1)

  demand_1_2_at_3 : Demand (language 4) made_script limit 3 part_1_2
  demand_1_2_at_3 = demands_need demand_1_3_at_3 of_1_3 (no_answer of_1_3) needs_1_3_0 (no_failure (language 4) made_script limit 3 among_3 gives_1_2)

  futures_1_at_3 : (j : ℕ) (t : Term Name) → slice_get makes_1_3 j ≡ Some (made Future t) → IsIn (part (form 1) (suc j)) among_3
  futures_1_at_3 zero t p = absurd cc
  futures_1_at_3 (suc zero) t p = absurd cc
  futures_1_at_3 (suc (suc zero)) t p = absurd cc
  futures_1_at_3 (suc (suc (suc j))) t p = absurd cc

  abbrev row_1_at_3 : Row (language 4) made_script limit 3 among_3
  row_1_at_3 = record { name = (form 1); followed = record { w = work_1; a = answers_1_1; o = gave (cell part_1_3); ms = makes_1_3; of = of_1; answers = true_1_1; end = end_1; asks = (one_leads (leads_on (no_failure (language 4) made_script limit 3 among_3 gives_1_1) (there (there (there here)))) none_leads); futures = futures_1_at_3 }; demand = demand_1_at_3 }

  futures_2_at_3 : (j : ℕ) (t : Term Name) → slice_get [] j ≡ Some (made Future t) → IsIn (part (form 2) (suc j)) among_3
  futures_2_at_3 j t p = absurd cc

  abbrev row_2_at_3 : Row (language 4) made_script limit 3 among_3
  row_2_at_3 = record { name = (form 2); followed = record { w = work_2; a = answers_2_1; o = gave (text (codes "1")); ms = []; of = of_2; answers = true_2_1; end = end_2; asks = (one_leads (leads_on (no_failure (language 4) made_script limit 3 among_3 gives_1_3) (there (there (there (there here))))) none_leads); futures = futures_2_at_3 }; demand = demand_2_at_3 }

  futures_3_at_3 : (j : ℕ) (t : Term Name) → slice_get [] j ≡ Some (made Future t) → IsIn (part (form 3) (suc j)) among_3
  futures_3_at_3 j t p = absurd cc

  abbrev row_3_at_3 : Row (language 4) made_script limit 3 among_3
  row_3_at_3 = record { name = (form 3); followed = record { w = work_3; a = []; o = gave (nil); ms = []; of = of_3; answers = (no_answer of_3); end = end_3; asks = none_leads; futures = futures_3_at_3 }; demand = demand_3_at_3 }

  futures_1_1_at_3 : (j : ℕ) (t : Term Name) → slice_get makes_1_1_11 j ≡ Some (made Future t) → IsIn (part part_1_1 (suc j)) among_3
  futures_1_1_at_3 zero t p = (there (there (there (there (there here)))))
  futures_1_1_at_3 (suc zero) t p = (there (there (there (there (there (there here))))))
  futures_1_1_at_3 (suc (suc zero)) t p = (there (there (there (there (there (there (there here)))))))
  futures_1_1_at_3 (suc (suc (suc zero))) t p = (there (there (there (there (there (there (there (there here))))))))
  futures_1_1_at_3 (suc (suc (suc (suc zero)))) t p = (there (there (there (there (there (there (there (there (there here)))))))))
  futures_1_1_at_3 (suc (suc (suc (suc (suc zero))))) t p = (there (there (there (there (there (there (there (there (there (there here))))))))))
  futures_1_1_at_3 (suc (suc (suc (suc (suc (suc zero)))))) t p = (there (there (there (there (there (there (there (there (there (there (there here)))))))))))
  futures_1_1_at_3 (suc (suc (suc (suc (suc (suc (suc zero))))))) t p = (there (there (there (there (there (there (there (there (there (there (there (there here))))))))))))
  futures_1_1_at_3 (suc (suc (suc (suc (suc (suc (suc (suc zero)))))))) t p = (there (there (there (there (there (there (there (there (there (there (there (there (there here)))))))))))))
  futures_1_1_at_3 (suc (suc (suc (suc (suc (suc (suc (suc (suc zero))))))))) t p = (there (there (there (there (there (there (there (there (there (there (there (there (there (there here))))))))))))))
  futures_1_1_at_3 (suc (suc (suc (suc (suc (suc (suc (suc (suc (suc zero)))))))))) t p = absurd cc
  futures_1_1_at_3 (suc (suc (suc (suc (suc (suc (suc (suc (suc (suc (suc j))))))))))) t p = absurd cc

  abbrev row_1_1_at_3 : Row (language 4) made_script limit 3 among_3
  row_1_1_at_3 = record { name = part_1_1; followed = record { w = work_1_1; a = []; o = gave (chunk (cell part_1_1_1 & cell part_1_1_2 & cell part_1_1_3 & cell part_1_1_4 & cell part_1_1_5 & cell part_1_1_6 & cell part_1_1_7 & cell part_1_1_8 & cell part_1_1_9 & cell part_1_1_10 & no_values) (cell part_1_1_11)); ms = makes_1_1_11; of = of_1_1; answers = (no_answer of_1_1); end = end_1_1; asks = none_leads; futures = futures_1_1_at_3 }; demand = demand_1_1_at_3 }

  futures_1_3_at_3 : (j : ℕ) (t : Term Name) → slice_get makes_1_3_1 j ≡ Some (made Future t) → IsIn (part part_1_3 (suc j)) among_3
  futures_1_3_at_3 zero t p = absurd cc
  futures_1_3_at_3 (suc j) t p = absurd cc

  abbrev row_1_3_at_3 : Row (language 4) made_script limit 3 among_3
  row_1_3_at_3 = record { name = part_1_3; followed = record { w = work_1_3; a = answers_1_3_2; o = gave (cons (int (pos 1) & no_values) (cell part_1_3_1)); ms = makes_1_3_1; of = of_1_3; answers = true_1_3_2; end = end_1_3; asks = (one_leads (leads_on (no_failure (language 4) made_script limit 3 among_3 gives_1_1_1) (there (there (there (there (there here)))))) (one_leads (leads_on (no_failure (language 4) made_script limit 3 among_3 gives_1_2) (there (there (there (there (there (there (there (there (there (there (there (there (there (there (there here)))))))))))))))) none_leads)); futures = futures_1_3_at_3 }; demand = demand_1_3_at_3 }

  futures_1_1_1_at_3 : (j : ℕ) (t : Term Name) → slice_get [] j ≡ Some (made Future t) → IsIn (part part_1_1_1 (suc j)) among_3
  futures_1_1_1_at_3 j t p = absurd cc

  abbrev row_1_1_1_at_3 : Row (language 4) made_script limit 3 among_3
  row_1_1_1_at_3 = record { name = part_1_1_1; followed = record { w = work_1_1_1; a = []; o = gave (int (pos 1)); ms = []; of = of_1_1_1; answers = (no_answer of_1_1_1); end = end_1_1_1; asks = none_leads; futures = futures_1_1_1_at_3 }; demand = demand_1_1_1_at_3 }

  futures_1_1_2_at_3 : (j : ℕ) (t : Term Name) → slice_get [] j ≡ Some (made Future t) → IsIn (part part_1_1_2 (suc j)) among_3
  futures_1_1_2_at_3 j t p = absurd cc

  abbrev row_1_1_2_at_3 : Row (language 4) made_script limit 3 among_3
  row_1_1_2_at_3 = record { name = part_1_1_2; followed = record { w = work_1_1_2; a = []; o = gave (int (pos 2)); ms = []; of = of_1_1_2; answers = (no_answer of_1_1_2); end = end_1_1_2; asks = none_leads; futures = futures_1_1_2_at_3 }; demand = demand_1_1_2_at_3 }

  futures_1_1_3_at_3 : (j : ℕ) (t : Term Name) → slice_get [] j ≡ Some (made Future t) → IsIn (part part_1_1_3 (suc j)) among_3
  futures_1_1_3_at_3 j t p = absurd cc

  abbrev row_1_1_3_at_3 : Row (language 4) made_script limit 3 among_3
  row_1_1_3_at_3 = record { name = part_1_1_3; followed = record { w = work_1_1_3; a = []; o = gave (int (pos 3)); ms = []; of = of_1_1_3; answers = (no_answer of_1_1_3); end = end_1_1_3; asks = none_leads; futures = futures_1_1_3_at_3 }; demand = demand_1_1_3_at_3 }

  futures_1_1_4_at_3 : (j : ℕ) (t : Term Name) → slice_get [] j ≡ Some (made Future t) → IsIn (part part_1_1_4 (suc j)) among_3
  futures_1_1_4_at_3 j t p = absurd cc

  abbrev row_1_1_4_at_3 : Row (language 4) made_script limit 3 among_3
  row_1_1_4_at_3 = record { name = part_1_1_4; followed = record { w = work_1_1_4; a = []; o = gave (int (pos 4)); ms = []; of = of_1_1_4; answers = (no_answer of_1_1_4); end = end_1_1_4; asks = none_leads; futures = futures_1_1_4_at_3 }; demand = demand_1_1_4_at_3 }

  futures_1_1_5_at_3 : (j : ℕ) (t : Term Name) → slice_get [] j ≡ Some (made Future t) → IsIn (part part_1_1_5 (suc j)) among_3
  futures_1_1_5_at_3 j t p = absurd cc

  abbrev row_1_1_5_at_3 : Row (language 4) made_script limit 3 among_3
  row_1_1_5_at_3 = record { name = part_1_1_5; followed = record { w = work_1_1_5; a = []; o = gave (int (pos 5)); ms = []; of = of_1_1_5; answers = (no_answer of_1_1_5); end = end_1_1_5; asks = none_leads; futures = futures_1_1_5_at_3 }; demand = demand_1_1_5_at_3 }

  futures_1_1_6_at_3 : (j : ℕ) (t : Term Name) → slice_get [] j ≡ Some (made Future t) → IsIn (part part_1_1_6 (suc j)) among_3
  futures_1_1_6_at_3 j t p = absurd cc

  abbrev row_1_1_6_at_3 : Row (language 4) made_script limit 3 among_3
  row_1_1_6_at_3 = record { name = part_1_1_6; followed = record { w = work_1_1_6; a = []; o = gave (int (pos 6)); ms = []; of = of_1_1_6; answers = (no_answer of_1_1_6); end = end_1_1_6; asks = none_leads; futures = futures_1_1_6_at_3 }; demand = demand_1_1_6_at_3 }

  futures_1_1_7_at_3 : (j : ℕ) (t : Term Name) → slice_get [] j ≡ Some (made Future t) → IsIn (part part_1_1_7 (suc j)) among_3
  futures_1_1_7_at_3 j t p = absurd cc

  abbrev row_1_1_7_at_3 : Row (language 4) made_script limit 3 among_3
  row_1_1_7_at_3 = record { name = part_1_1_7; followed = record { w = work_1_1_7; a = []; o = gave (int (pos 7)); ms = []; of = of_1_1_7; answers = (no_answer of_1_1_7); end = end_1_1_7; asks = none_leads; futures = futures_1_1_7_at_3 }; demand = demand_1_1_7_at_3 }

  futures_1_1_8_at_3 : (j : ℕ) (t : Term Name) → slice_get [] j ≡ Some (made Future t) → IsIn (part part_1_1_8 (suc j)) among_3
  futures_1_1_8_at_3 j t p = absurd cc

  abbrev row_1_1_8_at_3 : Row (language 4) made_script limit 3 among_3
  row_1_1_8_at_3 = record { name = part_1_1_8; followed = record { w = work_1_1_8; a = []; o = gave (int (pos 8)); ms = []; of = of_1_1_8; answers = (no_answer of_1_1_8); end = end_1_1_8; asks = none_leads; futures = futures_1_1_8_at_3 }; demand = demand_1_1_8_at_3 }

  futures_1_1_9_at_3 : (j : ℕ) (t : Term Name) → slice_get [] j ≡ Some (made Future t) → IsIn (part part_1_1_9 (suc j)) among_3
  futures_1_1_9_at_3 j t p = absurd cc

  abbrev row_1_1_9_at_3 : Row (language 4) made_script limit 3 among_3
  row_1_1_9_at_3 = record { name = part_1_1_9; followed = record { w = work_1_1_9; a = []; o = gave (int (pos 9)); ms = []; of = of_1_1_9; answers = (no_answer of_1_1_9); end = end_1_1_9; asks = none_leads; futures = futures_1_1_9_at_3 }; demand = demand_1_1_9_at_3 }

  futures_1_1_10_at_3 : (j : ℕ) (t : Term Name) → slice_get [] j ≡ Some (made Future t) → IsIn (part part_1_1_10 (suc j)) among_3
  futures_1_1_10_at_3 j t p = absurd cc

  abbrev row_1_1_10_at_3 : Row (language 4) made_script limit 3 among_3
  row_1_1_10_at_3 = record { name = part_1_1_10; followed = record { w = work_1_1_10; a = []; o = gave (int (pos 10)); ms = []; of = of_1_1_10; answers = (no_answer of_1_1_10); end = end_1_1_10; asks = none_leads; futures = futures_1_1_10_at_3 }; demand = demand_1_1_10_at_3 }

  futures_1_2_at_3 : (j : ℕ) (t : Term Name) → slice_get [] j ≡ Some (made Future t) → IsIn (part part_1_2 (suc j)) among_3
  futures_1_2_at_3 j t p = absurd cc

  abbrev row_1_2_at_3 : Row (language 4) made_script limit 3 among_3
  row_1_2_at_3 = record { name = part_1_2; followed = record { w = work_1_2; a = answers_1_2_1; o = gave (chunk (cell part_1_1_7 & cell part_1_1_8 & cell part_1_1_9 & cell part_1_1_10 & no_values) (cell part_1_1_11)); ms = []; of = of_1_2; answers = true_1_2_1; end = end_1_2; asks = (one_leads (leads_on (no_failure (language 4) made_script limit 3 among_3 gives_1_1) (there (there (there here)))) none_leads); futures = futures_1_2_at_3 }; demand = demand_1_2_at_3 }

  abbrev rows_at_3 : List (Row (language 4) made_script limit 3 among_3)
  rows_at_3 = row_1_at_3 ∷ row_2_at_3 ∷ row_3_at_3 ∷ row_1_1_at_3 ∷ row_1_3_at_3 ∷ row_1_1_1_at_3 ∷ row_1_1_2_at_3 ∷ row_1_1_3_at_3 ∷ row_1_1_4_at_3 ∷ row_1_1_5_at_3 ∷ row_1_1_6_at_3 ∷ row_1_1_7_at_3 ∷ row_1_1_8_at_3 ∷ row_1_1_9_at_3 ∷ row_1_1_10_at_3 ∷ row_1_2_at_3 ∷ []

  forms_at_3 : (i : ℕ) → i < 3 → IsIn (form (suc i)) among_3
  forms_at_3 zero h = here
  forms_at_3 (suc zero) h = (there here)
  forms_at_3 (suc (suc zero)) h = (there (there here))
  forms_at_3 (suc (suc (suc i))) h = absurd (omega arith)

  totals_at_3 : Totals made_script limit 3 15 13 0
  totals_at_3 = totals_of (language 4) made_script limit 3 among_3 rows_at_3 forms_at_3 refl refl refl refl refl refl refl

-- With 6 steps:
abbrev limit_below : ℕ
limit_below = 6

abbrev OfHere_below : Name → Work → Type 0
OfHere_below e w = Of (language 4) made_script limit_below e w

abbrev GivesHere_below : Name → Outcome Name → Type 0
GivesHere_below e o = Gives (language 4) made_script limit_below e o

abbrev TrueHere_below : Name → List (Outcome Name) → Type 0
TrueHere_below e a = True (language 4) made_script limit_below e a

before_0_below : Before (language 4) made_script limit_below 0 ([])
before_0_below = none_before

of_1_below : OfHere_below (form 1) work_1_below
of_1_below = of_top before_0_below refl

needs_1_0_below : run (language 4) made_script limit_below (form 1) work_1_below [] ≡ needs part_1_1 makes_1_2_below
unfolding run walk digits
needs_1_0_below = refl

is_1_1_below : Part (language 4) made_script limit_below part_1_1 Lazy work_1_1_below
is_1_1_below = part_of {j = 0} of_1_below (no_answer of_1_below) (ap (λ r. slice_get (makes_of r) 0) needs_1_0_below)

of_1_1_below : OfHere_below part_1_1 work_1_1_below
of_1_1_below = of_part is_1_1_below

end_1_1_below : run (language 4) made_script limit_below part_1_1 work_1_1_below [] ≡ ends (gave (chunk (cell part_1_1_1 & cell part_1_1_2 & cell part_1_1_3 & cell part_1_1_4 & cell part_1_1_5 & cell part_1_1_6 & cell part_1_1_7 & cell part_1_1_8 & cell part_1_1_9 & cell part_1_1_10 & no_values) (cell part_1_1_11))) makes_1_1_11_below
unfolding run walk digits
end_1_1_below = refl

gives_1_1_below : GivesHere_below part_1_1 (gave (chunk (cell part_1_1_1 & cell part_1_1_2 & cell part_1_1_3 & cell part_1_1_4 & cell part_1_1_5 & cell part_1_1_6 & cell part_1_1_7 & cell part_1_1_8 & cell part_1_1_9 & cell part_1_1_10 & no_values) (cell part_1_1_11)))
gives_1_1_below = gives of_1_1_below (no_answer of_1_1_below) end_1_1_below

abbrev true_1_1_below : TrueHere_below (form 1) answers_1_1_below
true_1_1_below = one_more of_1_below (no_answer of_1_below) needs_1_0_below gives_1_1_below

end_1_below : run (language 4) made_script limit_below (form 1) work_1_below answers_1_1_below ≡ ends (gave (cell part_1_3)) makes_1_3_below
unfolding run walk digits
end_1_below = refl

gives_1_below : GivesHere_below (form 1) (gave (cell part_1_3))
gives_1_below = gives of_1_below true_1_1_below end_1_below

before_1_below : Before (language 4) made_script limit_below 1 (cell part_1_3 ∷ [])
before_1_below = def_before before_0_below refl gives_1_below refl

of_2_below : OfHere_below (form 2) work_2_below
of_2_below = of_top before_1_below refl

needs_2_0_below : run (language 4) made_script limit_below (form 2) work_2_below [] ≡ needs part_1_3 []
unfolding run walk digits
needs_2_0_below = refl

is_1_3_below : Part (language 4) made_script limit_below part_1_3 Lazy work_1_3_below
is_1_3_below = part_of {j = 2} of_1_below true_1_1_below (ap (λ r. slice_get (makes_of r) 2) end_1_below)

of_1_3_below : OfHere_below part_1_3 work_1_3_below
of_1_3_below = of_part is_1_3_below

needs_1_3_0_below : run (language 4) made_script limit_below part_1_3 work_1_3_below [] ≡ needs part_1_2 []
unfolding run walk digits
needs_1_3_0_below = refl

is_1_2_below : Part (language 4) made_script limit_below part_1_2 Lazy work_1_2_below
is_1_2_below = part_of {j = 1} of_1_below (no_answer of_1_below) (ap (λ r. slice_get (makes_of r) 1) needs_1_0_below)

of_1_2_below : OfHere_below part_1_2 work_1_2_below
of_1_2_below = of_part is_1_2_below

needs_1_2_0_below : run (language 4) made_script limit_below part_1_2 work_1_2_below [] ≡ needs part_1_1 []
unfolding run walk digits
needs_1_2_0_below = refl

abbrev true_1_2_1_below : TrueHere_below part_1_2 answers_1_2_1_below
true_1_2_1_below = one_more of_1_2_below (no_answer of_1_2_below) needs_1_2_0_below gives_1_1_below

end_1_2_below : run (language 4) made_script limit_below part_1_2 work_1_2_below answers_1_2_1_below ≡ ends (threw Steps) []
unfolding run walk digits
end_1_2_below = refl

gives_1_2_below : GivesHere_below part_1_2 (threw Steps)
gives_1_2_below = gives of_1_2_below true_1_2_1_below end_1_2_below

abbrev true_1_3_1_below : TrueHere_below part_1_3 answers_1_3_1_below
true_1_3_1_below = one_more of_1_3_below (no_answer of_1_3_below) needs_1_3_0_below gives_1_2_below

end_1_3_below : run (language 4) made_script limit_below part_1_3 work_1_3_below answers_1_3_1_below ≡ ends (threw Steps) []
unfolding run walk digits
end_1_3_below = refl

gives_1_3_below : GivesHere_below part_1_3 (threw Steps)
gives_1_3_below = gives of_1_3_below true_1_3_1_below end_1_3_below

abbrev true_2_1_below : TrueHere_below (form 2) answers_2_1_below
true_2_1_below = one_more of_2_below (no_answer of_2_below) needs_2_0_below gives_1_3_below

end_2_below : run (language 4) made_script limit_below (form 2) work_2_below answers_2_1_below ≡ ends (threw Steps) []
unfolding run walk digits
end_2_below = refl

gives_2_below : GivesHere_below (form 2) (threw Steps)
gives_2_below = gives of_2_below true_2_1_below end_2_below

pub made_script_holds : MadeScript
made_script_holds = (λ limit h. from_past (λ limit. Prints made_script limit 2 (codes "1") × Totals made_script limit 3 15 13 0) 7 limit h (λ n. (gives_2 n, totals_at_3 n)), gives_2_below)

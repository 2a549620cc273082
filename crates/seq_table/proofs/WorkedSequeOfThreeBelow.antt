-- Work ahead takes three elements, and one more for each that is asked: with fewer steps, by computation.
use Rattle.std.proofs.Common.{◌≡◌, ℕ, pos, List, [], ◌∷◌, codes, refl, ap, slice_get}
use Rattle.std.specs.Fmt.{digits}
use Rattle.seq_base.specs.declared.thrown.Thrown.TheVariants.{Steps}
use Rattle.seq_values.specs.declared.words.Builtin.TheVariants as B
use Rattle.seq_values.specs.declared.words.Kind.TheVariants.{Lazy, Future}
use Rattle.seq_values.specs.declared.words.Op.TheVariants as O
use Rattle.seq_values.specs.declared.words.Target.TheVariants as T
use Rattle.seq_values.specs.Model.{nil, int, text, function, cell, cons, no_values, ◌&◌, Outcome, gave, threw}
use Rattle.seq_meaning.specs.Walk.{Made, made, needs, ends, makes_of, walk}
use Rattle.seq_meaning.specs.Names.{Name, form, part}
use Rattle.seq_meaning.specs.Gives.{Work, work, of_form, of_term, run, Of, of_top, of_part, Part, part_of, True, no_answer, one_more, Gives, gives, Before, none_before, def_before, other_before, ledger_none}
use Rattle.seq_table.specs.Table.{language}
use Rattle.seq_table.specs.Worked.{seque_of_three_1, seque_of_three_2, seque_of_three_4, seque_of_three}

-- the parts, and the attempts at them
abbrev pub part_1_2 : Name
part_1_2 = part (form 1) 2

abbrev pub part_2_2 : Name
part_2_2 = part (form 2) 2

abbrev pub part_1_1 : Name
part_1_1 = part (form 1) 1

abbrev pub part_2_1 : Name
part_2_1 = part (form 2) 1

abbrev pub part_1_2_1 : Name
part_1_2_1 = part part_1_2 1

abbrev pub part_2_2_1 : Name
part_2_2_1 = part part_2_2 1

abbrev pub part_2_2_2 : Name
part_2_2_2 = part part_2_2 2

abbrev pub part_1_1_1 : Name
part_1_1_1 = part part_1_1 1

abbrev pub part_1_2_1_1 : Name
part_1_2_1_1 = part part_1_2_1 1

abbrev pub part_1_1_1_1 : Name
part_1_1_1_1 = part part_1_1_1 1

abbrev pub part_1_2_1_1_1 : Name
part_1_2_1_1_1 = part part_1_2_1_1 1

abbrev pub part_1_1_1_1_1 : Name
part_1_1_1_1_1 = part part_1_1_1_1 1

abbrev pub part_1_2_1_1_1_1 : Name
part_1_2_1_1_1_1 = part part_1_2_1_1_1 1

abbrev work_4_below : Work
work_4_below = work (cell part_1_2 ∷ cell part_2_2 ∷ nil ∷ []) (of_form seque_of_three_4)

abbrev work_1_below : Work
work_1_below = work [] (of_form seque_of_three_1)

abbrev makes_1_2_below : List (Made Name)
makes_1_2_below = made Lazy (record { op = O.Next; args = function (T.Builtin B.Inc) no_values ∷ int (pos 0) ∷ [] }) ∷ made Lazy (record { op = O.Map; args = function (T.Builtin B.Inc) no_values ∷ cons (int (pos 0) & no_values) (cell part_1_1) ∷ [] }) ∷ []

abbrev work_2_below : Work
work_2_below = work (cell part_1_2 ∷ []) (of_form seque_of_three_2)

abbrev makes_2_2_below : List (Made Name)
makes_2_2_below = made Future (record { op = O.Ahead; args = int (pos 3) ∷ cell part_1_2 ∷ [] }) ∷ made Lazy (record { op = O.Near; args = cell part_1_2 ∷ cell part_2_1 ∷ [] }) ∷ []

abbrev work_2_2_below : Work
work_2_2_below = work (cell part_1_2 ∷ []) (of_term (record { op = O.Near; args = cell part_1_2 ∷ cell part_2_1 ∷ [] }))

abbrev work_1_2_below : Work
work_1_2_below = work ([]) (of_term (record { op = O.Map; args = function (T.Builtin B.Inc) no_values ∷ cons (int (pos 0) & no_values) (cell part_1_1) ∷ [] }))

abbrev makes_1_2_1_below : List (Made Name)
makes_1_2_1_below = made Lazy (record { op = O.Map; args = function (T.Builtin B.Inc) no_values ∷ cell part_1_1 ∷ [] }) ∷ []

abbrev answers_2_2_1_below : List (Outcome Name)
answers_2_2_1_below = gave (cons (int (pos 1) & no_values) (cell part_1_2_1)) ∷ []

abbrev makes_2_2_2_below : List (Made Name)
makes_2_2_2_below = made Future (record { op = O.AheadOf; args = cell part_2_1 ∷ [] }) ∷ made Lazy (record { op = O.Near; args = cell part_1_2_1 ∷ cell part_2_2_1 ∷ [] }) ∷ []

abbrev answers_4_1_below : List (Outcome Name)
answers_4_1_below = gave (cons (int (pos 1) & no_values) (cell part_2_2_2)) ∷ []

abbrev work_4_exact : Work
work_4_exact = work (cell part_1_2 ∷ cell part_2_2 ∷ nil ∷ []) (of_form seque_of_three_4)

abbrev work_1_exact : Work
work_1_exact = work [] (of_form seque_of_three_1)

abbrev makes_1_2_exact : List (Made Name)
makes_1_2_exact = made Lazy (record { op = O.Next; args = function (T.Builtin B.Inc) no_values ∷ int (pos 0) ∷ [] }) ∷ made Lazy (record { op = O.Map; args = function (T.Builtin B.Inc) no_values ∷ cons (int (pos 0) & no_values) (cell part_1_1) ∷ [] }) ∷ []

abbrev work_2_exact : Work
work_2_exact = work (cell part_1_2 ∷ []) (of_form seque_of_three_2)

abbrev makes_2_2_exact : List (Made Name)
makes_2_2_exact = made Future (record { op = O.Ahead; args = int (pos 3) ∷ cell part_1_2 ∷ [] }) ∷ made Lazy (record { op = O.Near; args = cell part_1_2 ∷ cell part_2_1 ∷ [] }) ∷ []

abbrev work_2_2_exact : Work
work_2_2_exact = work (cell part_1_2 ∷ []) (of_term (record { op = O.Near; args = cell part_1_2 ∷ cell part_2_1 ∷ [] }))

abbrev work_1_2_exact : Work
work_1_2_exact = work ([]) (of_term (record { op = O.Map; args = function (T.Builtin B.Inc) no_values ∷ cons (int (pos 0) & no_values) (cell part_1_1) ∷ [] }))

abbrev makes_1_2_1_exact : List (Made Name)
makes_1_2_1_exact = made Lazy (record { op = O.Map; args = function (T.Builtin B.Inc) no_values ∷ cell part_1_1 ∷ [] }) ∷ []

abbrev answers_2_2_1_exact : List (Outcome Name)
answers_2_2_1_exact = gave (cons (int (pos 1) & no_values) (cell part_1_2_1)) ∷ []

abbrev makes_2_2_2_exact : List (Made Name)
makes_2_2_2_exact = made Future (record { op = O.AheadOf; args = cell part_2_1 ∷ [] }) ∷ made Lazy (record { op = O.Near; args = cell part_1_2_1 ∷ cell part_2_2_1 ∷ [] }) ∷ []

abbrev answers_4_1_exact : List (Outcome Name)
answers_4_1_exact = gave (cons (int (pos 1) & no_values) (cell part_2_2_2)) ∷ []

-- With 2 steps:
abbrev limit_below : ℕ
limit_below = 2

abbrev OfHere_below : Name → Work → Type 0
OfHere_below e w = Of (language 4) seque_of_three limit_below e w

abbrev GivesHere_below : Name → Outcome Name → Type 0
GivesHere_below e o = Gives (language 4) seque_of_three limit_below e o

abbrev TrueHere_below : Name → List (Outcome Name) → Type 0
TrueHere_below e a = True (language 4) seque_of_three limit_below e a

before_0_below : Before (language 4) seque_of_three limit_below 0 ([])
before_0_below = none_before

of_1_below : OfHere_below (form 1) work_1_below
of_1_below = of_top before_0_below refl

end_1_below : run (language 4) seque_of_three limit_below (form 1) work_1_below [] ≡ ends (gave (cell part_1_2)) makes_1_2_below
unfolding run walk digits
end_1_below = refl

gives_1_below : GivesHere_below (form 1) (gave (cell part_1_2))
gives_1_below = gives of_1_below (no_answer of_1_below) end_1_below

before_1_below : Before (language 4) seque_of_three limit_below 1 (cell part_1_2 ∷ [])
before_1_below = def_before before_0_below refl gives_1_below refl

of_2_below : OfHere_below (form 2) work_2_below
of_2_below = of_top before_1_below refl

end_2_below : run (language 4) seque_of_three limit_below (form 2) work_2_below [] ≡ ends (gave (cell part_2_2)) makes_2_2_below
unfolding run walk digits
end_2_below = refl

gives_2_below : GivesHere_below (form 2) (gave (cell part_2_2))
gives_2_below = gives of_2_below (no_answer of_2_below) end_2_below

before_2_below : Before (language 4) seque_of_three limit_below 2 (cell part_1_2 ∷ cell part_2_2 ∷ [])
before_2_below = def_before before_1_below refl gives_2_below refl

before_3_below : Before (language 4) seque_of_three limit_below 3 (cell part_1_2 ∷ cell part_2_2 ∷ nil ∷ [])
before_3_below = other_before before_2_below refl ledger_none refl

of_4_below : OfHere_below (form 4) work_4_below
of_4_below = of_top before_3_below refl

needs_4_0_below : run (language 4) seque_of_three limit_below (form 4) work_4_below [] ≡ needs part_2_2 []
unfolding run walk digits
needs_4_0_below = refl

is_2_2_below : Part (language 4) seque_of_three limit_below part_2_2 Lazy work_2_2_below
is_2_2_below = part_of {j = 1} of_2_below (no_answer of_2_below) (ap (λ r. slice_get (makes_of r) 1) end_2_below)

of_2_2_below : OfHere_below part_2_2 work_2_2_below
of_2_2_below = of_part is_2_2_below

needs_2_2_0_below : run (language 4) seque_of_three limit_below part_2_2 work_2_2_below [] ≡ needs part_1_2 []
unfolding run walk digits
needs_2_2_0_below = refl

is_1_2_below : Part (language 4) seque_of_three limit_below part_1_2 Lazy work_1_2_below
is_1_2_below = part_of {j = 1} of_1_below (no_answer of_1_below) (ap (λ r. slice_get (makes_of r) 1) end_1_below)

of_1_2_below : OfHere_below part_1_2 work_1_2_below
of_1_2_below = of_part is_1_2_below

end_1_2_below : run (language 4) seque_of_three limit_below part_1_2 work_1_2_below [] ≡ ends (gave (cons (int (pos 1) & no_values) (cell part_1_2_1))) makes_1_2_1_below
unfolding run walk digits
end_1_2_below = refl

gives_1_2_below : GivesHere_below part_1_2 (gave (cons (int (pos 1) & no_values) (cell part_1_2_1)))
gives_1_2_below = gives of_1_2_below (no_answer of_1_2_below) end_1_2_below

abbrev true_2_2_1_below : TrueHere_below part_2_2 answers_2_2_1_below
true_2_2_1_below = one_more of_2_2_below (no_answer of_2_2_below) needs_2_2_0_below gives_1_2_below

end_2_2_below : run (language 4) seque_of_three limit_below part_2_2 work_2_2_below answers_2_2_1_below ≡ ends (gave (cons (int (pos 1) & no_values) (cell part_2_2_2))) makes_2_2_2_below
unfolding run walk digits
end_2_2_below = refl

gives_2_2_below : GivesHere_below part_2_2 (gave (cons (int (pos 1) & no_values) (cell part_2_2_2)))
gives_2_2_below = gives of_2_2_below true_2_2_1_below end_2_2_below

abbrev true_4_1_below : TrueHere_below (form 4) answers_4_1_below
true_4_1_below = one_more of_4_below (no_answer of_4_below) needs_4_0_below gives_2_2_below

end_4_below : run (language 4) seque_of_three limit_below (form 4) work_4_below answers_4_1_below ≡ ends (threw Steps) []
unfolding run walk digits
end_4_below = refl

pub gives_4_below : GivesHere_below (form 4) (threw Steps)
gives_4_below = gives of_4_below true_4_1_below end_4_below

-- With 3 steps:
abbrev limit_exact : ℕ
limit_exact = 3

abbrev OfHere_exact : Name → Work → Type 0
OfHere_exact e w = Of (language 4) seque_of_three limit_exact e w

abbrev GivesHere_exact : Name → Outcome Name → Type 0
GivesHere_exact e o = Gives (language 4) seque_of_three limit_exact e o

abbrev TrueHere_exact : Name → List (Outcome Name) → Type 0
TrueHere_exact e a = True (language 4) seque_of_three limit_exact e a

before_0_exact : Before (language 4) seque_of_three limit_exact 0 ([])
before_0_exact = none_before

of_1_exact : OfHere_exact (form 1) work_1_exact
of_1_exact = of_top before_0_exact refl

end_1_exact : run (language 4) seque_of_three limit_exact (form 1) work_1_exact [] ≡ ends (gave (cell part_1_2)) makes_1_2_exact
unfolding run walk digits
end_1_exact = refl

gives_1_exact : GivesHere_exact (form 1) (gave (cell part_1_2))
gives_1_exact = gives of_1_exact (no_answer of_1_exact) end_1_exact

before_1_exact : Before (language 4) seque_of_three limit_exact 1 (cell part_1_2 ∷ [])
before_1_exact = def_before before_0_exact refl gives_1_exact refl

of_2_exact : OfHere_exact (form 2) work_2_exact
of_2_exact = of_top before_1_exact refl

end_2_exact : run (language 4) seque_of_three limit_exact (form 2) work_2_exact [] ≡ ends (gave (cell part_2_2)) makes_2_2_exact
unfolding run walk digits
end_2_exact = refl

gives_2_exact : GivesHere_exact (form 2) (gave (cell part_2_2))
gives_2_exact = gives of_2_exact (no_answer of_2_exact) end_2_exact

before_2_exact : Before (language 4) seque_of_three limit_exact 2 (cell part_1_2 ∷ cell part_2_2 ∷ [])
before_2_exact = def_before before_1_exact refl gives_2_exact refl

before_3_exact : Before (language 4) seque_of_three limit_exact 3 (cell part_1_2 ∷ cell part_2_2 ∷ nil ∷ [])
before_3_exact = other_before before_2_exact refl ledger_none refl

of_4_exact : OfHere_exact (form 4) work_4_exact
of_4_exact = of_top before_3_exact refl

needs_4_0_exact : run (language 4) seque_of_three limit_exact (form 4) work_4_exact [] ≡ needs part_2_2 []
unfolding run walk digits
needs_4_0_exact = refl

is_2_2_exact : Part (language 4) seque_of_three limit_exact part_2_2 Lazy work_2_2_exact
is_2_2_exact = part_of {j = 1} of_2_exact (no_answer of_2_exact) (ap (λ r. slice_get (makes_of r) 1) end_2_exact)

of_2_2_exact : OfHere_exact part_2_2 work_2_2_exact
of_2_2_exact = of_part is_2_2_exact

needs_2_2_0_exact : run (language 4) seque_of_three limit_exact part_2_2 work_2_2_exact [] ≡ needs part_1_2 []
unfolding run walk digits
needs_2_2_0_exact = refl

is_1_2_exact : Part (language 4) seque_of_three limit_exact part_1_2 Lazy work_1_2_exact
is_1_2_exact = part_of {j = 1} of_1_exact (no_answer of_1_exact) (ap (λ r. slice_get (makes_of r) 1) end_1_exact)

of_1_2_exact : OfHere_exact part_1_2 work_1_2_exact
of_1_2_exact = of_part is_1_2_exact

end_1_2_exact : run (language 4) seque_of_three limit_exact part_1_2 work_1_2_exact [] ≡ ends (gave (cons (int (pos 1) & no_values) (cell part_1_2_1))) makes_1_2_1_exact
unfolding run walk digits
end_1_2_exact = refl

gives_1_2_exact : GivesHere_exact part_1_2 (gave (cons (int (pos 1) & no_values) (cell part_1_2_1)))
gives_1_2_exact = gives of_1_2_exact (no_answer of_1_2_exact) end_1_2_exact

abbrev true_2_2_1_exact : TrueHere_exact part_2_2 answers_2_2_1_exact
true_2_2_1_exact = one_more of_2_2_exact (no_answer of_2_2_exact) needs_2_2_0_exact gives_1_2_exact

end_2_2_exact : run (language 4) seque_of_three limit_exact part_2_2 work_2_2_exact answers_2_2_1_exact ≡ ends (gave (cons (int (pos 1) & no_values) (cell part_2_2_2))) makes_2_2_2_exact
unfolding run walk digits
end_2_2_exact = refl

gives_2_2_exact : GivesHere_exact part_2_2 (gave (cons (int (pos 1) & no_values) (cell part_2_2_2)))
gives_2_2_exact = gives of_2_2_exact true_2_2_1_exact end_2_2_exact

abbrev true_4_1_exact : TrueHere_exact (form 4) answers_4_1_exact
true_4_1_exact = one_more of_4_exact (no_answer of_4_exact) needs_4_0_exact gives_2_2_exact

end_4_exact : run (language 4) seque_of_three limit_exact (form 4) work_4_exact answers_4_1_exact ≡ ends (gave (text (codes "1"))) []
unfolding run walk digits
end_4_exact = refl

pub gives_4_exact : GivesHere_exact (form 4) (gave (text (codes "1")))
gives_4_exact = gives of_4_exact true_4_1_exact end_4_exact

-- One `mapcat` over another: with fewer steps, by computation.
use Rattle.std.proofs.Common.{◌≡◌, ℕ, pos, List, [], ◌∷◌, refl, ap, slice_get}
use Rattle.std.specs.Fmt.{digits}
use Rattle.seq_base.specs.declared.thrown.Thrown.TheVariants.{Steps}
use Rattle.seq_values.specs.declared.words.Builtin.TheVariants as B
use Rattle.seq_values.specs.declared.words.Kind.TheVariants.{Lazy}
use Rattle.seq_values.specs.declared.words.Op.TheVariants as O
use Rattle.seq_values.specs.declared.words.Target.TheVariants as T
use Rattle.seq_values.specs.Model.{nil, int, vector, function, cell, empty, cons, vec_seq, no_values, ◌&◌, Outcome, gave, threw}
use Rattle.seq_meaning.specs.Walk.{Made, made, needs, ends, makes_of, walk}
use Rattle.seq_meaning.specs.Names.{Name, form, part}
use Rattle.seq_meaning.specs.Gives.{Work, work, of_form, of_term, run, Of, of_top, of_part, Part, part_of, True, no_answer, one_more, Gives, gives, Before, none_before}
use Rattle.seq_table.specs.Table.{language}
use Rattle.seq_table.specs.Worked.{nested_mapcat_1, nested_mapcat}

-- the parts, and the attempts at them
abbrev pub part_1_1 : Name
part_1_1 = part (form 1) 1

abbrev pub part_1_2 : Name
part_1_2 = part (form 1) 2

abbrev pub part_1_1_1 : Name
part_1_1_1 = part part_1_1 1

abbrev pub part_1_1_2 : Name
part_1_1_2 = part part_1_1 2

abbrev pub part_1_2_1 : Name
part_1_2_1 = part part_1_2 1

abbrev pub part_1_2_2 : Name
part_1_2_2 = part part_1_2 2

abbrev pub part_1_1_2_1 : Name
part_1_1_2_1 = part part_1_1_2 1

abbrev pub part_1_2_2_1 : Name
part_1_2_2_1 = part part_1_2_2 1

abbrev pub part_1_1_1_1 : Name
part_1_1_1_1 = part part_1_1_1 1

abbrev pub part_1_1_1_2 : Name
part_1_1_1_2 = part part_1_1_1 2

abbrev pub part_1_2_1_1 : Name
part_1_2_1_1 = part part_1_2_1 1

abbrev pub part_1_2_1_2 : Name
part_1_2_1_2 = part part_1_2_1 2

abbrev pub part_1_1_1_2_1 : Name
part_1_1_1_2_1 = part part_1_1_1_2 1

abbrev pub part_1_2_1_2_1 : Name
part_1_2_1_2_1 = part part_1_2_1_2 1

abbrev work_1_below : Work
work_1_below = work [] (of_form nested_mapcat_1)

abbrev makes_1_2_below : List (Made Name)
makes_1_2_below = made Lazy (record { op = O.Mapcat; args = function (T.Builtin B.List) no_values ∷ vector (int (pos 1) & int (pos 2) & no_values) ∷ [] }) ∷ made Lazy (record { op = O.Mapcat; args = function (T.Builtin B.List) no_values ∷ cell part_1_1 ∷ [] }) ∷ []

abbrev work_1_2_below : Work
work_1_2_below = work ([]) (of_term (record { op = O.Mapcat; args = function (T.Builtin B.List) no_values ∷ cell part_1_1 ∷ [] }))

abbrev work_1_1_below : Work
work_1_1_below = work ([]) (of_term (record { op = O.Mapcat; args = function (T.Builtin B.List) no_values ∷ vector (int (pos 1) & int (pos 2) & no_values) ∷ [] }))

abbrev makes_1_1_2_below : List (Made Name)
makes_1_1_2_below = made Lazy (record { op = O.Mapcat; args = function (T.Builtin B.List) no_values ∷ vec_seq (int (pos 1) & int (pos 2) & no_values) 1 ∷ [] }) ∷ made Lazy (record { op = O.Concat; args = cons (int (pos 1) & no_values) nil ∷ cell part_1_1_1 ∷ [] }) ∷ []

abbrev answers_1_2_1_below : List (Outcome Name)
answers_1_2_1_below = gave (cell part_1_1_2) ∷ []

abbrev work_1_1_2_below : Work
work_1_1_2_below = work ([]) (of_term (record { op = O.Concat; args = cons (int (pos 1) & no_values) nil ∷ cell part_1_1_1 ∷ [] }))

abbrev makes_1_1_2_1_below : List (Made Name)
makes_1_1_2_1_below = made Lazy (record { op = O.Concat; args = empty ∷ cell part_1_1_1 ∷ [] }) ∷ []

abbrev answers_1_2_2_below : List (Outcome Name)
answers_1_2_2_below = gave (cons (int (pos 1) & no_values) (cell part_1_1_2_1)) ∷ answers_1_2_1_below

abbrev makes_1_2_2_below : List (Made Name)
makes_1_2_2_below = made Lazy (record { op = O.Mapcat; args = function (T.Builtin B.List) no_values ∷ cell part_1_1_2_1 ∷ [] }) ∷ made Lazy (record { op = O.Concat; args = cons (int (pos 1) & no_values) nil ∷ cell part_1_2_1 ∷ [] }) ∷ []

abbrev answers_1_1_below : List (Outcome Name)
answers_1_1_below = gave (cell part_1_2_2) ∷ []

abbrev work_1_2_2_below : Work
work_1_2_2_below = work ([]) (of_term (record { op = O.Concat; args = cons (int (pos 1) & no_values) nil ∷ cell part_1_2_1 ∷ [] }))

abbrev makes_1_2_2_1_below : List (Made Name)
makes_1_2_2_1_below = made Lazy (record { op = O.Concat; args = empty ∷ cell part_1_2_1 ∷ [] }) ∷ []

abbrev answers_1_2_below : List (Outcome Name)
answers_1_2_below = gave (cons (int (pos 1) & no_values) (cell part_1_2_2_1)) ∷ answers_1_1_below

abbrev work_1_2_2_1_below : Work
work_1_2_2_1_below = work ([]) (of_term (record { op = O.Concat; args = empty ∷ cell part_1_2_1 ∷ [] }))

abbrev answers_1_3_below : List (Outcome Name)
answers_1_3_below = gave (cell part_1_2_1) ∷ answers_1_2_below

abbrev work_1_2_1_below : Work
work_1_2_1_below = work ([]) (of_term (record { op = O.Mapcat; args = function (T.Builtin B.List) no_values ∷ cell part_1_1_2_1 ∷ [] }))

abbrev work_1_1_2_1_below : Work
work_1_1_2_1_below = work ([]) (of_term (record { op = O.Concat; args = empty ∷ cell part_1_1_1 ∷ [] }))

abbrev answers_1_2_1_1_below : List (Outcome Name)
answers_1_2_1_1_below = gave (cell part_1_1_1) ∷ []

abbrev work_1_1_1_below : Work
work_1_1_1_below = work ([]) (of_term (record { op = O.Mapcat; args = function (T.Builtin B.List) no_values ∷ vec_seq (int (pos 1) & int (pos 2) & no_values) 1 ∷ [] }))

abbrev makes_1_1_1_2_below : List (Made Name)
makes_1_1_1_2_below = made Lazy (record { op = O.Mapcat; args = function (T.Builtin B.List) no_values ∷ empty ∷ [] }) ∷ made Lazy (record { op = O.Concat; args = cons (int (pos 2) & no_values) nil ∷ cell part_1_1_1_1 ∷ [] }) ∷ []

abbrev answers_1_2_1_2_below : List (Outcome Name)
answers_1_2_1_2_below = gave (cell part_1_1_1_2) ∷ answers_1_2_1_1_below

abbrev work_1_1_1_2_below : Work
work_1_1_1_2_below = work ([]) (of_term (record { op = O.Concat; args = cons (int (pos 2) & no_values) nil ∷ cell part_1_1_1_1 ∷ [] }))

abbrev makes_1_1_1_2_1_below : List (Made Name)
makes_1_1_1_2_1_below = made Lazy (record { op = O.Concat; args = empty ∷ cell part_1_1_1_1 ∷ [] }) ∷ []

abbrev answers_1_2_1_3_below : List (Outcome Name)
answers_1_2_1_3_below = gave (cons (int (pos 2) & no_values) (cell part_1_1_1_2_1)) ∷ answers_1_2_1_2_below

abbrev makes_1_2_1_2_below : List (Made Name)
makes_1_2_1_2_below = made Lazy (record { op = O.Mapcat; args = function (T.Builtin B.List) no_values ∷ cell part_1_1_1_2_1 ∷ [] }) ∷ made Lazy (record { op = O.Concat; args = cons (int (pos 2) & no_values) nil ∷ cell part_1_2_1_1 ∷ [] }) ∷ []

abbrev answers_1_4_below : List (Outcome Name)
answers_1_4_below = gave (cell part_1_2_1_2) ∷ answers_1_3_below

abbrev work_1_2_1_2_below : Work
work_1_2_1_2_below = work ([]) (of_term (record { op = O.Concat; args = cons (int (pos 2) & no_values) nil ∷ cell part_1_2_1_1 ∷ [] }))

abbrev makes_1_2_1_2_1_below : List (Made Name)
makes_1_2_1_2_1_below = made Lazy (record { op = O.Concat; args = empty ∷ cell part_1_2_1_1 ∷ [] }) ∷ []

abbrev answers_1_5_below : List (Outcome Name)
answers_1_5_below = gave (cons (int (pos 2) & no_values) (cell part_1_2_1_2_1)) ∷ answers_1_4_below

abbrev work_1_2_1_2_1_below : Work
work_1_2_1_2_1_below = work ([]) (of_term (record { op = O.Concat; args = empty ∷ cell part_1_2_1_1 ∷ [] }))

abbrev answers_1_6_below : List (Outcome Name)
answers_1_6_below = gave (cell part_1_2_1_1) ∷ answers_1_5_below

-- With 11 steps:
abbrev limit_below : ℕ
limit_below = 11

abbrev OfHere_below : Name → Work → Type 0
OfHere_below e w = Of (language 4) nested_mapcat limit_below e w

abbrev GivesHere_below : Name → Outcome Name → Type 0
GivesHere_below e o = Gives (language 4) nested_mapcat limit_below e o

abbrev TrueHere_below : Name → List (Outcome Name) → Type 0
TrueHere_below e a = True (language 4) nested_mapcat limit_below e a

before_0_below : Before (language 4) nested_mapcat limit_below 0 ([])
before_0_below = none_before

of_1_below : OfHere_below (form 1) work_1_below
of_1_below = of_top before_0_below refl

needs_1_0_below : run (language 4) nested_mapcat limit_below (form 1) work_1_below [] ≡ needs part_1_2 makes_1_2_below
unfolding run walk digits
needs_1_0_below = refl

is_1_2_below : Part (language 4) nested_mapcat limit_below part_1_2 Lazy work_1_2_below
is_1_2_below = part_of {j = 1} of_1_below (no_answer of_1_below) (ap (λ r. slice_get (makes_of r) 1) needs_1_0_below)

of_1_2_below : OfHere_below part_1_2 work_1_2_below
of_1_2_below = of_part is_1_2_below

needs_1_2_0_below : run (language 4) nested_mapcat limit_below part_1_2 work_1_2_below [] ≡ needs part_1_1 []
unfolding run walk digits
needs_1_2_0_below = refl

is_1_1_below : Part (language 4) nested_mapcat limit_below part_1_1 Lazy work_1_1_below
is_1_1_below = part_of {j = 0} of_1_below (no_answer of_1_below) (ap (λ r. slice_get (makes_of r) 0) needs_1_0_below)

of_1_1_below : OfHere_below part_1_1 work_1_1_below
of_1_1_below = of_part is_1_1_below

end_1_1_below : run (language 4) nested_mapcat limit_below part_1_1 work_1_1_below [] ≡ ends (gave (cell part_1_1_2)) makes_1_1_2_below
unfolding run walk digits
end_1_1_below = refl

gives_1_1_below : GivesHere_below part_1_1 (gave (cell part_1_1_2))
gives_1_1_below = gives of_1_1_below (no_answer of_1_1_below) end_1_1_below

abbrev true_1_2_1_below : TrueHere_below part_1_2 answers_1_2_1_below
true_1_2_1_below = one_more of_1_2_below (no_answer of_1_2_below) needs_1_2_0_below gives_1_1_below

needs_1_2_1_below : run (language 4) nested_mapcat limit_below part_1_2 work_1_2_below answers_1_2_1_below ≡ needs part_1_1_2 []
unfolding run walk digits
needs_1_2_1_below = refl

is_1_1_2_below : Part (language 4) nested_mapcat limit_below part_1_1_2 Lazy work_1_1_2_below
is_1_1_2_below = part_of {j = 1} of_1_1_below (no_answer of_1_1_below) (ap (λ r. slice_get (makes_of r) 1) end_1_1_below)

of_1_1_2_below : OfHere_below part_1_1_2 work_1_1_2_below
of_1_1_2_below = of_part is_1_1_2_below

end_1_1_2_below : run (language 4) nested_mapcat limit_below part_1_1_2 work_1_1_2_below [] ≡ ends (gave (cons (int (pos 1) & no_values) (cell part_1_1_2_1))) makes_1_1_2_1_below
unfolding run walk digits
end_1_1_2_below = refl

gives_1_1_2_below : GivesHere_below part_1_1_2 (gave (cons (int (pos 1) & no_values) (cell part_1_1_2_1)))
gives_1_1_2_below = gives of_1_1_2_below (no_answer of_1_1_2_below) end_1_1_2_below

abbrev true_1_2_2_below : TrueHere_below part_1_2 answers_1_2_2_below
true_1_2_2_below = one_more of_1_2_below true_1_2_1_below needs_1_2_1_below gives_1_1_2_below

end_1_2_below : run (language 4) nested_mapcat limit_below part_1_2 work_1_2_below answers_1_2_2_below ≡ ends (gave (cell part_1_2_2)) makes_1_2_2_below
unfolding run walk digits
end_1_2_below = refl

gives_1_2_below : GivesHere_below part_1_2 (gave (cell part_1_2_2))
gives_1_2_below = gives of_1_2_below true_1_2_2_below end_1_2_below

abbrev true_1_1_below : TrueHere_below (form 1) answers_1_1_below
true_1_1_below = one_more of_1_below (no_answer of_1_below) needs_1_0_below gives_1_2_below

needs_1_1_below : run (language 4) nested_mapcat limit_below (form 1) work_1_below answers_1_1_below ≡ needs part_1_2_2 makes_1_2_below
unfolding run walk digits
needs_1_1_below = refl

is_1_2_2_below : Part (language 4) nested_mapcat limit_below part_1_2_2 Lazy work_1_2_2_below
is_1_2_2_below = part_of {j = 1} of_1_2_below true_1_2_2_below (ap (λ r. slice_get (makes_of r) 1) end_1_2_below)

of_1_2_2_below : OfHere_below part_1_2_2 work_1_2_2_below
of_1_2_2_below = of_part is_1_2_2_below

end_1_2_2_below : run (language 4) nested_mapcat limit_below part_1_2_2 work_1_2_2_below [] ≡ ends (gave (cons (int (pos 1) & no_values) (cell part_1_2_2_1))) makes_1_2_2_1_below
unfolding run walk digits
end_1_2_2_below = refl

gives_1_2_2_below : GivesHere_below part_1_2_2 (gave (cons (int (pos 1) & no_values) (cell part_1_2_2_1)))
gives_1_2_2_below = gives of_1_2_2_below (no_answer of_1_2_2_below) end_1_2_2_below

abbrev true_1_2_below : TrueHere_below (form 1) answers_1_2_below
true_1_2_below = one_more of_1_below true_1_1_below needs_1_1_below gives_1_2_2_below

needs_1_2_below : run (language 4) nested_mapcat limit_below (form 1) work_1_below answers_1_2_below ≡ needs part_1_2_2_1 makes_1_2_below
unfolding run walk digits
needs_1_2_below = refl

is_1_2_2_1_below : Part (language 4) nested_mapcat limit_below part_1_2_2_1 Lazy work_1_2_2_1_below
is_1_2_2_1_below = part_of {j = 0} of_1_2_2_below (no_answer of_1_2_2_below) (ap (λ r. slice_get (makes_of r) 0) end_1_2_2_below)

of_1_2_2_1_below : OfHere_below part_1_2_2_1 work_1_2_2_1_below
of_1_2_2_1_below = of_part is_1_2_2_1_below

end_1_2_2_1_below : run (language 4) nested_mapcat limit_below part_1_2_2_1 work_1_2_2_1_below [] ≡ ends (gave (cell part_1_2_1)) []
unfolding run walk digits
end_1_2_2_1_below = refl

gives_1_2_2_1_below : GivesHere_below part_1_2_2_1 (gave (cell part_1_2_1))
gives_1_2_2_1_below = gives of_1_2_2_1_below (no_answer of_1_2_2_1_below) end_1_2_2_1_below

abbrev true_1_3_below : TrueHere_below (form 1) answers_1_3_below
true_1_3_below = one_more of_1_below true_1_2_below needs_1_2_below gives_1_2_2_1_below

needs_1_3_below : run (language 4) nested_mapcat limit_below (form 1) work_1_below answers_1_3_below ≡ needs part_1_2_1 makes_1_2_below
unfolding run walk digits
needs_1_3_below = refl

is_1_2_1_below : Part (language 4) nested_mapcat limit_below part_1_2_1 Lazy work_1_2_1_below
is_1_2_1_below = part_of {j = 0} of_1_2_below true_1_2_2_below (ap (λ r. slice_get (makes_of r) 0) end_1_2_below)

of_1_2_1_below : OfHere_below part_1_2_1 work_1_2_1_below
of_1_2_1_below = of_part is_1_2_1_below

needs_1_2_1_0_below : run (language 4) nested_mapcat limit_below part_1_2_1 work_1_2_1_below [] ≡ needs part_1_1_2_1 []
unfolding run walk digits
needs_1_2_1_0_below = refl

is_1_1_2_1_below : Part (language 4) nested_mapcat limit_below part_1_1_2_1 Lazy work_1_1_2_1_below
is_1_1_2_1_below = part_of {j = 0} of_1_1_2_below (no_answer of_1_1_2_below) (ap (λ r. slice_get (makes_of r) 0) end_1_1_2_below)

of_1_1_2_1_below : OfHere_below part_1_1_2_1 work_1_1_2_1_below
of_1_1_2_1_below = of_part is_1_1_2_1_below

end_1_1_2_1_below : run (language 4) nested_mapcat limit_below part_1_1_2_1 work_1_1_2_1_below [] ≡ ends (gave (cell part_1_1_1)) []
unfolding run walk digits
end_1_1_2_1_below = refl

gives_1_1_2_1_below : GivesHere_below part_1_1_2_1 (gave (cell part_1_1_1))
gives_1_1_2_1_below = gives of_1_1_2_1_below (no_answer of_1_1_2_1_below) end_1_1_2_1_below

abbrev true_1_2_1_1_below : TrueHere_below part_1_2_1 answers_1_2_1_1_below
true_1_2_1_1_below = one_more of_1_2_1_below (no_answer of_1_2_1_below) needs_1_2_1_0_below gives_1_1_2_1_below

needs_1_2_1_1_below : run (language 4) nested_mapcat limit_below part_1_2_1 work_1_2_1_below answers_1_2_1_1_below ≡ needs part_1_1_1 []
unfolding run walk digits
needs_1_2_1_1_below = refl

is_1_1_1_below : Part (language 4) nested_mapcat limit_below part_1_1_1 Lazy work_1_1_1_below
is_1_1_1_below = part_of {j = 0} of_1_1_below (no_answer of_1_1_below) (ap (λ r. slice_get (makes_of r) 0) end_1_1_below)

of_1_1_1_below : OfHere_below part_1_1_1 work_1_1_1_below
of_1_1_1_below = of_part is_1_1_1_below

end_1_1_1_below : run (language 4) nested_mapcat limit_below part_1_1_1 work_1_1_1_below [] ≡ ends (gave (cell part_1_1_1_2)) makes_1_1_1_2_below
unfolding run walk digits
end_1_1_1_below = refl

gives_1_1_1_below : GivesHere_below part_1_1_1 (gave (cell part_1_1_1_2))
gives_1_1_1_below = gives of_1_1_1_below (no_answer of_1_1_1_below) end_1_1_1_below

abbrev true_1_2_1_2_below : TrueHere_below part_1_2_1 answers_1_2_1_2_below
true_1_2_1_2_below = one_more of_1_2_1_below true_1_2_1_1_below needs_1_2_1_1_below gives_1_1_1_below

needs_1_2_1_2_below : run (language 4) nested_mapcat limit_below part_1_2_1 work_1_2_1_below answers_1_2_1_2_below ≡ needs part_1_1_1_2 []
unfolding run walk digits
needs_1_2_1_2_below = refl

is_1_1_1_2_below : Part (language 4) nested_mapcat limit_below part_1_1_1_2 Lazy work_1_1_1_2_below
is_1_1_1_2_below = part_of {j = 1} of_1_1_1_below (no_answer of_1_1_1_below) (ap (λ r. slice_get (makes_of r) 1) end_1_1_1_below)

of_1_1_1_2_below : OfHere_below part_1_1_1_2 work_1_1_1_2_below
of_1_1_1_2_below = of_part is_1_1_1_2_below

end_1_1_1_2_below : run (language 4) nested_mapcat limit_below part_1_1_1_2 work_1_1_1_2_below [] ≡ ends (gave (cons (int (pos 2) & no_values) (cell part_1_1_1_2_1))) makes_1_1_1_2_1_below
unfolding run walk digits
end_1_1_1_2_below = refl

gives_1_1_1_2_below : GivesHere_below part_1_1_1_2 (gave (cons (int (pos 2) & no_values) (cell part_1_1_1_2_1)))
gives_1_1_1_2_below = gives of_1_1_1_2_below (no_answer of_1_1_1_2_below) end_1_1_1_2_below

abbrev true_1_2_1_3_below : TrueHere_below part_1_2_1 answers_1_2_1_3_below
true_1_2_1_3_below = one_more of_1_2_1_below true_1_2_1_2_below needs_1_2_1_2_below gives_1_1_1_2_below

end_1_2_1_below : run (language 4) nested_mapcat limit_below part_1_2_1 work_1_2_1_below answers_1_2_1_3_below ≡ ends (gave (cell part_1_2_1_2)) makes_1_2_1_2_below
unfolding run walk digits
end_1_2_1_below = refl

gives_1_2_1_below : GivesHere_below part_1_2_1 (gave (cell part_1_2_1_2))
gives_1_2_1_below = gives of_1_2_1_below true_1_2_1_3_below end_1_2_1_below

abbrev true_1_4_below : TrueHere_below (form 1) answers_1_4_below
true_1_4_below = one_more of_1_below true_1_3_below needs_1_3_below gives_1_2_1_below

needs_1_4_below : run (language 4) nested_mapcat limit_below (form 1) work_1_below answers_1_4_below ≡ needs part_1_2_1_2 makes_1_2_below
unfolding run walk digits
needs_1_4_below = refl

is_1_2_1_2_below : Part (language 4) nested_mapcat limit_below part_1_2_1_2 Lazy work_1_2_1_2_below
is_1_2_1_2_below = part_of {j = 1} of_1_2_1_below true_1_2_1_3_below (ap (λ r. slice_get (makes_of r) 1) end_1_2_1_below)

of_1_2_1_2_below : OfHere_below part_1_2_1_2 work_1_2_1_2_below
of_1_2_1_2_below = of_part is_1_2_1_2_below

end_1_2_1_2_below : run (language 4) nested_mapcat limit_below part_1_2_1_2 work_1_2_1_2_below [] ≡ ends (gave (cons (int (pos 2) & no_values) (cell part_1_2_1_2_1))) makes_1_2_1_2_1_below
unfolding run walk digits
end_1_2_1_2_below = refl

gives_1_2_1_2_below : GivesHere_below part_1_2_1_2 (gave (cons (int (pos 2) & no_values) (cell part_1_2_1_2_1)))
gives_1_2_1_2_below = gives of_1_2_1_2_below (no_answer of_1_2_1_2_below) end_1_2_1_2_below

abbrev true_1_5_below : TrueHere_below (form 1) answers_1_5_below
true_1_5_below = one_more of_1_below true_1_4_below needs_1_4_below gives_1_2_1_2_below

needs_1_5_below : run (language 4) nested_mapcat limit_below (form 1) work_1_below answers_1_5_below ≡ needs part_1_2_1_2_1 makes_1_2_below
unfolding run walk digits
needs_1_5_below = refl

is_1_2_1_2_1_below : Part (language 4) nested_mapcat limit_below part_1_2_1_2_1 Lazy work_1_2_1_2_1_below
is_1_2_1_2_1_below = part_of {j = 0} of_1_2_1_2_below (no_answer of_1_2_1_2_below) (ap (λ r. slice_get (makes_of r) 0) end_1_2_1_2_below)

of_1_2_1_2_1_below : OfHere_below part_1_2_1_2_1 work_1_2_1_2_1_below
of_1_2_1_2_1_below = of_part is_1_2_1_2_1_below

end_1_2_1_2_1_below : run (language 4) nested_mapcat limit_below part_1_2_1_2_1 work_1_2_1_2_1_below [] ≡ ends (gave (cell part_1_2_1_1)) []
unfolding run walk digits
end_1_2_1_2_1_below = refl

gives_1_2_1_2_1_below : GivesHere_below part_1_2_1_2_1 (gave (cell part_1_2_1_1))
gives_1_2_1_2_1_below = gives of_1_2_1_2_1_below (no_answer of_1_2_1_2_1_below) end_1_2_1_2_1_below

abbrev true_1_6_below : TrueHere_below (form 1) answers_1_6_below
true_1_6_below = one_more of_1_below true_1_5_below needs_1_5_below gives_1_2_1_2_1_below

end_1_below : run (language 4) nested_mapcat limit_below (form 1) work_1_below answers_1_6_below ≡ ends (threw Steps) makes_1_2_below
unfolding run walk digits
end_1_below = refl

pub gives_1_below : GivesHere_below (form 1) (threw Steps)
gives_1_below = gives of_1_below true_1_6_below end_1_below

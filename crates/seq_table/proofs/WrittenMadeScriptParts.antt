-- The parts of `made_script`, their works, makes and answers.
use Rattle.std.proofs.Common.{pos, List, [], ◌∷◌}
use Rattle.seq_values.specs.declared.words.Builtin.TheVariants as B
use Rattle.seq_values.specs.declared.words.Kind.TheVariants.{Lazy, Future}
use Rattle.seq_values.specs.declared.words.Op.TheVariants as O
use Rattle.seq_values.specs.declared.words.Target.TheVariants as T
use Rattle.seq_values.specs.Model.{nil, int, function, cell, empty, cons, chunk, range, no_values, ◌&◌, Outcome, gave}
use Rattle.seq_meaning.specs.Walk.{Made, made}
use Rattle.seq_meaning.specs.Names.{Name, form, part}
use Rattle.seq_meaning.specs.Gives.{Work, work, of_form, of_term}
use Rattle.seq_table.specs.Worked.{made_script_1, made_script_2, made_script_3}

abbrev pub part_1_1 : Name
part_1_1 = part (form 1) 1

abbrev pub part_1_2 : Name
part_1_2 = part (form 1) 2

abbrev pub part_1_3 : Name
part_1_3 = part (form 1) 3

abbrev pub part_1_1_1 : Name
part_1_1_1 = part part_1_1 1

abbrev pub part_1_1_2 : Name
part_1_1_2 = part part_1_1 2

abbrev pub part_1_1_3 : Name
part_1_1_3 = part part_1_1 3

abbrev pub part_1_1_4 : Name
part_1_1_4 = part part_1_1 4

abbrev pub part_1_1_5 : Name
part_1_1_5 = part part_1_1 5

abbrev pub part_1_1_6 : Name
part_1_1_6 = part part_1_1 6

abbrev pub part_1_1_7 : Name
part_1_1_7 = part part_1_1 7

abbrev pub part_1_1_8 : Name
part_1_1_8 = part part_1_1 8

abbrev pub part_1_1_9 : Name
part_1_1_9 = part part_1_1 9

abbrev pub part_1_1_10 : Name
part_1_1_10 = part part_1_1 10

abbrev pub part_1_1_11 : Name
part_1_1_11 = part part_1_1 11

abbrev pub part_1_3_1 : Name
part_1_3_1 = part part_1_3 1

abbrev pub work_1 : Work
work_1 = work [] (of_form made_script_1)

abbrev pub makes_1_2 : List (Made Name)
makes_1_2 = made Lazy (record { op = O.Rets; args = function (T.Builtin B.Inc) no_values ∷ range (pos 0) (pos 0) (pos 10) ∷ [] }) ∷ made Lazy (record { op = O.Drop; args = int (pos 6) ∷ cell part_1_1 ∷ [] }) ∷ []

abbrev pub work_1_1 : Work
work_1_1 = work ([]) (of_term (record { op = O.Rets; args = function (T.Builtin B.Inc) no_values ∷ range (pos 0) (pos 0) (pos 10) ∷ [] }))

abbrev pub makes_1_1_11 : List (Made Name)
makes_1_1_11 = made Future (record { op = O.Call; args = function (T.Builtin B.Inc) no_values ∷ int (pos 0) ∷ [] }) ∷ made Future (record { op = O.Call; args = function (T.Builtin B.Inc) no_values ∷ int (pos 1) ∷ [] }) ∷ made Future (record { op = O.Call; args = function (T.Builtin B.Inc) no_values ∷ int (pos 2) ∷ [] }) ∷ made Future (record { op = O.Call; args = function (T.Builtin B.Inc) no_values ∷ int (pos 3) ∷ [] }) ∷ made Future (record { op = O.Call; args = function (T.Builtin B.Inc) no_values ∷ int (pos 4) ∷ [] }) ∷ made Future (record { op = O.Call; args = function (T.Builtin B.Inc) no_values ∷ int (pos 5) ∷ [] }) ∷ made Future (record { op = O.Call; args = function (T.Builtin B.Inc) no_values ∷ int (pos 6) ∷ [] }) ∷ made Future (record { op = O.Call; args = function (T.Builtin B.Inc) no_values ∷ int (pos 7) ∷ [] }) ∷ made Future (record { op = O.Call; args = function (T.Builtin B.Inc) no_values ∷ int (pos 8) ∷ [] }) ∷ made Future (record { op = O.Call; args = function (T.Builtin B.Inc) no_values ∷ int (pos 9) ∷ [] }) ∷ made Lazy (record { op = O.Rets; args = function (T.Builtin B.Inc) no_values ∷ empty ∷ [] }) ∷ []

abbrev pub answers_1_1 : List (Outcome Name)
answers_1_1 = gave (chunk (cell part_1_1_1 & cell part_1_1_2 & cell part_1_1_3 & cell part_1_1_4 & cell part_1_1_5 & cell part_1_1_6 & cell part_1_1_7 & cell part_1_1_8 & cell part_1_1_9 & cell part_1_1_10 & no_values) (cell part_1_1_11)) ∷ []

abbrev pub makes_1_3 : List (Made Name)
makes_1_3 = made Lazy (record { op = O.Rets; args = function (T.Builtin B.Inc) no_values ∷ range (pos 0) (pos 0) (pos 10) ∷ [] }) ∷ made Lazy (record { op = O.Drop; args = int (pos 6) ∷ cell part_1_1 ∷ [] }) ∷ made Lazy (record { op = O.Step; args = cell part_1_1_1 ∷ chunk (cell part_1_1_2 & cell part_1_1_3 & cell part_1_1_4 & cell part_1_1_5 & cell part_1_1_6 & cell part_1_1_7 & cell part_1_1_8 & cell part_1_1_9 & cell part_1_1_10 & no_values) (cell part_1_1_11) ∷ cell part_1_1 ∷ cell part_1_2 ∷ [] }) ∷ []

abbrev pub work_1_1_1 : Work
work_1_1_1 = work ([]) (of_term (record { op = O.Call; args = function (T.Builtin B.Inc) no_values ∷ int (pos 0) ∷ [] }))

abbrev pub work_1_1_2 : Work
work_1_1_2 = work ([]) (of_term (record { op = O.Call; args = function (T.Builtin B.Inc) no_values ∷ int (pos 1) ∷ [] }))

abbrev pub work_1_1_3 : Work
work_1_1_3 = work ([]) (of_term (record { op = O.Call; args = function (T.Builtin B.Inc) no_values ∷ int (pos 2) ∷ [] }))

abbrev pub work_1_1_4 : Work
work_1_1_4 = work ([]) (of_term (record { op = O.Call; args = function (T.Builtin B.Inc) no_values ∷ int (pos 3) ∷ [] }))

abbrev pub work_1_1_5 : Work
work_1_1_5 = work ([]) (of_term (record { op = O.Call; args = function (T.Builtin B.Inc) no_values ∷ int (pos 4) ∷ [] }))

abbrev pub work_1_1_6 : Work
work_1_1_6 = work ([]) (of_term (record { op = O.Call; args = function (T.Builtin B.Inc) no_values ∷ int (pos 5) ∷ [] }))

abbrev pub work_1_1_7 : Work
work_1_1_7 = work ([]) (of_term (record { op = O.Call; args = function (T.Builtin B.Inc) no_values ∷ int (pos 6) ∷ [] }))

abbrev pub work_1_1_8 : Work
work_1_1_8 = work ([]) (of_term (record { op = O.Call; args = function (T.Builtin B.Inc) no_values ∷ int (pos 7) ∷ [] }))

abbrev pub work_1_1_9 : Work
work_1_1_9 = work ([]) (of_term (record { op = O.Call; args = function (T.Builtin B.Inc) no_values ∷ int (pos 8) ∷ [] }))

abbrev pub work_1_1_10 : Work
work_1_1_10 = work ([]) (of_term (record { op = O.Call; args = function (T.Builtin B.Inc) no_values ∷ int (pos 9) ∷ [] }))

abbrev pub work_2 : Work
work_2 = work (cell part_1_3 ∷ []) (of_form made_script_2)

abbrev pub work_1_3 : Work
work_1_3 = work ([]) (of_term (record { op = O.Step; args = cell part_1_1_1 ∷ chunk (cell part_1_1_2 & cell part_1_1_3 & cell part_1_1_4 & cell part_1_1_5 & cell part_1_1_6 & cell part_1_1_7 & cell part_1_1_8 & cell part_1_1_9 & cell part_1_1_10 & no_values) (cell part_1_1_11) ∷ cell part_1_1 ∷ cell part_1_2 ∷ [] }))

abbrev pub work_1_2 : Work
work_1_2 = work ([]) (of_term (record { op = O.Drop; args = int (pos 6) ∷ cell part_1_1 ∷ [] }))

abbrev pub answers_1_2_1 : List (Outcome Name)
answers_1_2_1 = gave (chunk (cell part_1_1_1 & cell part_1_1_2 & cell part_1_1_3 & cell part_1_1_4 & cell part_1_1_5 & cell part_1_1_6 & cell part_1_1_7 & cell part_1_1_8 & cell part_1_1_9 & cell part_1_1_10 & no_values) (cell part_1_1_11)) ∷ []

abbrev pub answers_1_3_1 : List (Outcome Name)
answers_1_3_1 = gave (chunk (cell part_1_1_7 & cell part_1_1_8 & cell part_1_1_9 & cell part_1_1_10 & no_values) (cell part_1_1_11)) ∷ []

abbrev pub answers_1_3_2 : List (Outcome Name)
answers_1_3_2 = gave (int (pos 1)) ∷ answers_1_3_1

abbrev pub makes_1_3_1 : List (Made Name)
makes_1_3_1 = made Lazy (record { op = O.Step; args = cell part_1_1_2 ∷ chunk (cell part_1_1_3 & cell part_1_1_4 & cell part_1_1_5 & cell part_1_1_6 & cell part_1_1_7 & cell part_1_1_8 & cell part_1_1_9 & cell part_1_1_10 & no_values) (cell part_1_1_11) ∷ chunk (cell part_1_1_2 & cell part_1_1_3 & cell part_1_1_4 & cell part_1_1_5 & cell part_1_1_6 & cell part_1_1_7 & cell part_1_1_8 & cell part_1_1_9 & cell part_1_1_10 & no_values) (cell part_1_1_11) ∷ chunk (cell part_1_1_8 & cell part_1_1_9 & cell part_1_1_10 & no_values) (cell part_1_1_11) ∷ [] }) ∷ []

abbrev pub answers_2_1 : List (Outcome Name)
answers_2_1 = gave (cons (int (pos 1) & no_values) (cell part_1_3_1)) ∷ []

abbrev pub work_3 : Work
work_3 = work (cell part_1_3 ∷ nil ∷ []) (of_form made_script_3)

abbrev pub among_1 : List Name
among_1 = (form 1) ∷ part_1_1 ∷ part_1_1_1 ∷ part_1_1_2 ∷ part_1_1_3 ∷ part_1_1_4 ∷ part_1_1_5 ∷ part_1_1_6 ∷ part_1_1_7 ∷ part_1_1_8 ∷ part_1_1_9 ∷ part_1_1_10 ∷ []

abbrev pub among_2 : List Name
among_2 = (form 1) ∷ (form 2) ∷ part_1_1 ∷ part_1_3 ∷ part_1_1_1 ∷ part_1_1_2 ∷ part_1_1_3 ∷ part_1_1_4 ∷ part_1_1_5 ∷ part_1_1_6 ∷ part_1_1_7 ∷ part_1_1_8 ∷ part_1_1_9 ∷ part_1_1_10 ∷ part_1_2 ∷ []

abbrev pub among_3 : List Name
among_3 = (form 1) ∷ (form 2) ∷ (form 3) ∷ part_1_1 ∷ part_1_3 ∷ part_1_1_1 ∷ part_1_1_2 ∷ part_1_1_3 ∷ part_1_1_4 ∷ part_1_1_5 ∷ part_1_1_6 ∷ part_1_1_7 ∷ part_1_1_8 ∷ part_1_1_9 ∷ part_1_1_10 ∷ part_1_2 ∷ []

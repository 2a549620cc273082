-- What `made_script` writes, by computation.
use Rattle.std.proofs.Common.{◌≡◌, ℕ, zero, suc, ◌<◌, ◌≤◌, pos, List, [], ◌∷◌, codes, refl, ap, Some, slice_get, arith}
use Rattle.std.specs.Fmt.{digits}
use Rattle.seq_values.specs.declared.words.Kind.TheVariants.{Lazy, Future}
use Rattle.seq_values.specs.Model.{nil, int, text, cell, cons, chunk, no_values, ◌&◌, Term, Outcome, gave}
use Rattle.seq_meaning.specs.Walk.{made, needs, ends, makes_of, walk}
use Rattle.seq_meaning.specs.Names.{Name, form, part}
use Rattle.seq_meaning.specs.Gives.{Work, run, Of, of_top, of_part, Part, part_of, True, no_answer, one_more, Gives, gives, Before, none_before, def_before, other_before, prn_none, ledger_none}
use Rattle.seq_meaning.specs.Counts.{Demand, demands_form, demands_need, demands_future, IsIn, here, there}
use Rattle.seq_meaning.proofs.Closing.{leads_on, none_leads, one_leads, no_failure}
use Rattle.seq_meaning.proofs.Worked.{past, from_past}
use Rattle.seq_table.specs.Table.{language}
use Rattle.clj_script.specs.Trees.{def}
use Rattle.seq_meaning.specs.Counts.{Realised, realised}
use Rattle.seq_meaning.proofs.Once.{one_gives}
use Rattle.seq_table.specs.Fronts.{front_cons, front_behind, front_unrealised}
use Rattle.seq_table.specs.Outputs.{no_lines, line_of, ledger_of, Line, line_of_def, line_of_prn, line_of_ledger, Output, no_output, one_more_line, DefThrows, def_throws, IsReached, Ran, ran_through, done}
use Rattle.seq_table.specs.Worked.{Totals, made_script}
use Rattle.seq_table.specs.Written.{MadeScriptWritten}
use Rattle.seq_table.proofs.Rows.{Row, given_in, only_given, totals_of}
use Rattle.seq_table.proofs.Sizes.{none_among, fits_of}
use Rattle.seq_table.proofs.WrittenMadeScriptParts.{part_1_1, part_1_2, part_1_3, part_1_1_1, part_1_1_2, part_1_1_3, part_1_1_4, part_1_1_5, part_1_1_6, part_1_1_7, part_1_1_8, part_1_1_9, part_1_1_10, part_1_1_11, part_1_3_1, work_1, makes_1_2, work_1_1, makes_1_1_11, answers_1_1, makes_1_3, work_1_1_1, work_1_1_2, work_1_1_3, work_1_1_4, work_1_1_5, work_1_1_6, work_1_1_7, work_1_1_8, work_1_1_9, work_1_1_10, work_2, work_1_3, work_1_2, answers_1_2_1, answers_1_3_1, answers_1_3_2, makes_1_3_1, answers_2_1, work_3, among_1, among_2, among_3}

-- With 7 steps or more:
module _ (n : ℕ) where
  abbrev limit : ℕ
  limit = past 7 n

  abbrev OfHere : Name → Work → Type 0
  OfHere e w = Of (language 4) made_script limit e w

  abbrev GivesHere : Name → Outcome Name → Type 0
  GivesHere e o = Gives (language 4) made_script limit e o

  abbrev TrueHere : Name → List (Outcome Name) → Type 0
  TrueHere e a = True (language 4) made_script limit e a

  before_0 : Before (language 4) made_script limit 0 ([])
  before_0 = none_before

  of_1 : OfHere (form 1) work_1
  of_1 = of_top before_0 refl

  needs_1_0 : run (language 4) made_script limit (form 1) work_1 [] ≡ needs part_1_1 makes_1_2
  unfolding run walk digits
  needs_1_0 = refl

  is_1_1 : Part (language 4) made_script limit part_1_1 Lazy work_1_1
  is_1_1 = part_of {j = 0} of_1 (no_answer of_1) (ap (λ r. slice_get (makes_of r) 0) needs_1_0)

  of_1_1 : OfHere part_1_1 work_1_1
  of_1_1 = of_part is_1_1

  end_1_1 : run (language 4) made_script limit part_1_1 work_1_1 [] ≡ ends (gave (chunk (cell part_1_1_1 & cell part_1_1_2 & cell part_1_1_3 & cell part_1_1_4 & cell part_1_1_5 & cell part_1_1_6 & cell part_1_1_7 & cell part_1_1_8 & cell part_1_1_9 & cell part_1_1_10 & no_values) (cell part_1_1_11))) makes_1_1_11
  unfolding run walk digits
  end_1_1 = refl

  gives_1_1 : GivesHere part_1_1 (gave (chunk (cell part_1_1_1 & cell part_1_1_2 & cell part_1_1_3 & cell part_1_1_4 & cell part_1_1_5 & cell part_1_1_6 & cell part_1_1_7 & cell part_1_1_8 & cell part_1_1_9 & cell part_1_1_10 & no_values) (cell part_1_1_11)))
  gives_1_1 = gives of_1_1 (no_answer of_1_1) end_1_1

  abbrev true_1_1 : TrueHere (form 1) answers_1_1
  true_1_1 = one_more of_1 (no_answer of_1) needs_1_0 gives_1_1

  end_1 : run (language 4) made_script limit (form 1) work_1 answers_1_1 ≡ ends (gave (cell part_1_3)) makes_1_3
  unfolding run walk digits
  end_1 = refl

  gives_1 : GivesHere (form 1) (gave (cell part_1_3))
  gives_1 = gives of_1 true_1_1 end_1

  is_1_1_1 : Part (language 4) made_script limit part_1_1_1 Future work_1_1_1
  is_1_1_1 = part_of {j = 0} of_1_1 (no_answer of_1_1) (ap (λ r. slice_get (makes_of r) 0) end_1_1)

  of_1_1_1 : OfHere part_1_1_1 work_1_1_1
  of_1_1_1 = of_part is_1_1_1

  end_1_1_1 : run (language 4) made_script limit part_1_1_1 work_1_1_1 [] ≡ ends (gave (int (pos 1))) []
  unfolding run walk digits
  end_1_1_1 = refl

  gives_1_1_1 : GivesHere part_1_1_1 (gave (int (pos 1)))
  gives_1_1_1 = gives of_1_1_1 (no_answer of_1_1_1) end_1_1_1

  is_1_1_2 : Part (language 4) made_script limit part_1_1_2 Future work_1_1_2
  is_1_1_2 = part_of {j = 1} of_1_1 (no_answer of_1_1) (ap (λ r. slice_get (makes_of r) 1) end_1_1)

  of_1_1_2 : OfHere part_1_1_2 work_1_1_2
  of_1_1_2 = of_part is_1_1_2

  end_1_1_2 : run (language 4) made_script limit part_1_1_2 work_1_1_2 [] ≡ ends (gave (int (pos 2))) []
  unfolding run walk digits
  end_1_1_2 = refl

  gives_1_1_2 : GivesHere part_1_1_2 (gave (int (pos 2)))
  gives_1_1_2 = gives of_1_1_2 (no_answer of_1_1_2) end_1_1_2

  is_1_1_3 : Part (language 4) made_script limit part_1_1_3 Future work_1_1_3
  is_1_1_3 = part_of {j = 2} of_1_1 (no_answer of_1_1) (ap (λ r. slice_get (makes_of r) 2) end_1_1)

  of_1_1_3 : OfHere part_1_1_3 work_1_1_3
  of_1_1_3 = of_part is_1_1_3

  end_1_1_3 : run (language 4) made_script limit part_1_1_3 work_1_1_3 [] ≡ ends (gave (int (pos 3))) []
  unfolding run walk digits
  end_1_1_3 = refl

  gives_1_1_3 : GivesHere part_1_1_3 (gave (int (pos 3)))
  gives_1_1_3 = gives of_1_1_3 (no_answer of_1_1_3) end_1_1_3

  is_1_1_4 : Part (language 4) made_script limit part_1_1_4 Future work_1_1_4
  is_1_1_4 = part_of {j = 3} of_1_1 (no_answer of_1_1) (ap (λ r. slice_get (makes_of r) 3) end_1_1)

  of_1_1_4 : OfHere part_1_1_4 work_1_1_4
  of_1_1_4 = of_part is_1_1_4

  end_1_1_4 : run (language 4) made_script limit part_1_1_4 work_1_1_4 [] ≡ ends (gave (int (pos 4))) []
  unfolding run walk digits
  end_1_1_4 = refl

  gives_1_1_4 : GivesHere part_1_1_4 (gave (int (pos 4)))
  gives_1_1_4 = gives of_1_1_4 (no_answer of_1_1_4) end_1_1_4

  is_1_1_5 : Part (language 4) made_script limit part_1_1_5 Future work_1_1_5
  is_1_1_5 = part_of {j = 4} of_1_1 (no_answer of_1_1) (ap (λ r. slice_get (makes_of r) 4) end_1_1)

  of_1_1_5 : OfHere part_1_1_5 work_1_1_5
  of_1_1_5 = of_part is_1_1_5

  end_1_1_5 : run (language 4) made_script limit part_1_1_5 work_1_1_5 [] ≡ ends (gave (int (pos 5))) []
  unfolding run walk digits
  end_1_1_5 = refl

  gives_1_1_5 : GivesHere part_1_1_5 (gave (int (pos 5)))
  gives_1_1_5 = gives of_1_1_5 (no_answer of_1_1_5) end_1_1_5

  is_1_1_6 : Part (language 4) made_script limit part_1_1_6 Future work_1_1_6
  is_1_1_6 = part_of {j = 5} of_1_1 (no_answer of_1_1) (ap (λ r. slice_get (makes_of r) 5) end_1_1)

  of_1_1_6 : OfHere part_1_1_6 work_1_1_6
  of_1_1_6 = of_part is_1_1_6

  end_1_1_6 : run (language 4) made_script limit part_1_1_6 work_1_1_6 [] ≡ ends (gave (int (pos 6))) []
  unfolding run walk digits
  end_1_1_6 = refl

  gives_1_1_6 : GivesHere part_1_1_6 (gave (int (pos 6)))
  gives_1_1_6 = gives of_1_1_6 (no_answer of_1_1_6) end_1_1_6

  is_1_1_7 : Part (language 4) made_script limit part_1_1_7 Future work_1_1_7
  is_1_1_7 = part_of {j = 6} of_1_1 (no_answer of_1_1) (ap (λ r. slice_get (makes_of r) 6) end_1_1)

  of_1_1_7 : OfHere part_1_1_7 work_1_1_7
  of_1_1_7 = of_part is_1_1_7

  end_1_1_7 : run (language 4) made_script limit part_1_1_7 work_1_1_7 [] ≡ ends (gave (int (pos 7))) []
  unfolding run walk digits
  end_1_1_7 = refl

  gives_1_1_7 : GivesHere part_1_1_7 (gave (int (pos 7)))
  gives_1_1_7 = gives of_1_1_7 (no_answer of_1_1_7) end_1_1_7

  is_1_1_8 : Part (language 4) made_script limit part_1_1_8 Future work_1_1_8
  is_1_1_8 = part_of {j = 7} of_1_1 (no_answer of_1_1) (ap (λ r. slice_get (makes_of r) 7) end_1_1)

  of_1_1_8 : OfHere part_1_1_8 work_1_1_8
  of_1_1_8 = of_part is_1_1_8

  end_1_1_8 : run (language 4) made_script limit part_1_1_8 work_1_1_8 [] ≡ ends (gave (int (pos 8))) []
  unfolding run walk digits
  end_1_1_8 = refl

  gives_1_1_8 : GivesHere part_1_1_8 (gave (int (pos 8)))
  gives_1_1_8 = gives of_1_1_8 (no_answer of_1_1_8) end_1_1_8

  is_1_1_9 : Part (language 4) made_script limit part_1_1_9 Future work_1_1_9
  is_1_1_9 = part_of {j = 8} of_1_1 (no_answer of_1_1) (ap (λ r. slice_get (makes_of r) 8) end_1_1)

  of_1_1_9 : OfHere part_1_1_9 work_1_1_9
  of_1_1_9 = of_part is_1_1_9

  end_1_1_9 : run (language 4) made_script limit part_1_1_9 work_1_1_9 [] ≡ ends (gave (int (pos 9))) []
  unfolding run walk digits
  end_1_1_9 = refl

  gives_1_1_9 : GivesHere part_1_1_9 (gave (int (pos 9)))
  gives_1_1_9 = gives of_1_1_9 (no_answer of_1_1_9) end_1_1_9

  is_1_1_10 : Part (language 4) made_script limit part_1_1_10 Future work_1_1_10
  is_1_1_10 = part_of {j = 9} of_1_1 (no_answer of_1_1) (ap (λ r. slice_get (makes_of r) 9) end_1_1)

  of_1_1_10 : OfHere part_1_1_10 work_1_1_10
  of_1_1_10 = of_part is_1_1_10

  end_1_1_10 : run (language 4) made_script limit part_1_1_10 work_1_1_10 [] ≡ ends (gave (int (pos 10))) []
  unfolding run walk digits
  end_1_1_10 = refl

  gives_1_1_10 : GivesHere part_1_1_10 (gave (int (pos 10)))
  gives_1_1_10 = gives of_1_1_10 (no_answer of_1_1_10) end_1_1_10

  demand_1_at_1 : Demand (language 4) made_script limit 1 (form 1)
  demand_1_at_1 = demands_form {i = 0} (omega arith)

  demand_1_1_at_1 : Demand (language 4) made_script limit 1 part_1_1
  demand_1_1_at_1 = demands_need demand_1_at_1 of_1 (no_answer of_1) needs_1_0 (no_failure (language 4) made_script limit 1 among_1 gives_1_1)

  demand_1_1_1_at_1 : Demand (language 4) made_script limit 1 part_1_1_1
  demand_1_1_1_at_1 = demands_future {j = 0} demand_1_1_at_1 of_1_1 (no_answer of_1_1) (ap (λ r. slice_get (makes_of r) 0) end_1_1)

  demand_1_1_2_at_1 : Demand (language 4) made_script limit 1 part_1_1_2
  demand_1_1_2_at_1 = demands_future {j = 1} demand_1_1_at_1 of_1_1 (no_answer of_1_1) (ap (λ r. slice_get (makes_of r) 1) end_1_1)

  demand_1_1_3_at_1 : Demand (language 4) made_script limit 1 part_1_1_3
  demand_1_1_3_at_1 = demands_future {j = 2} demand_1_1_at_1 of_1_1 (no_answer of_1_1) (ap (λ r. slice_get (makes_of r) 2) end_1_1)

  demand_1_1_4_at_1 : Demand (language 4) made_script limit 1 part_1_1_4
  demand_1_1_4_at_1 = demands_future {j = 3} demand_1_1_at_1 of_1_1 (no_answer of_1_1) (ap (λ r. slice_get (makes_of r) 3) end_1_1)

  demand_1_1_5_at_1 : Demand (language 4) made_script limit 1 part_1_1_5
  demand_1_1_5_at_1 = demands_future {j = 4} demand_1_1_at_1 of_1_1 (no_answer of_1_1) (ap (λ r. slice_get (makes_of r) 4) end_1_1)

  demand_1_1_6_at_1 : Demand (language 4) made_script limit 1 part_1_1_6
  demand_1_1_6_at_1 = demands_future {j = 5} demand_1_1_at_1 of_1_1 (no_answer of_1_1) (ap (λ r. slice_get (makes_of r) 5) end_1_1)

  demand_1_1_7_at_1 : Demand (language 4) made_script limit 1 part_1_1_7
  demand_1_1_7_at_1 = demands_future {j = 6} demand_1_1_at_1 of_1_1 (no_answer of_1_1) (ap (λ r. slice_get (makes_of r) 6) end_1_1)

  demand_1_1_8_at_1 : Demand (language 4) made_script limit 1 part_1_1_8
  demand_1_1_8_at_1 = demands_future {j = 7} demand_1_1_at_1 of_1_1 (no_answer of_1_1) (ap (λ r. slice_get (makes_of r) 7) end_1_1)

  demand_1_1_9_at_1 : Demand (language 4) made_script limit 1 part_1_1_9
  demand_1_1_9_at_1 = demands_future {j = 8} demand_1_1_at_1 of_1_1 (no_answer of_1_1) (ap (λ r. slice_get (makes_of r) 8) end_1_1)

  demand_1_1_10_at_1 : Demand (language 4) made_script limit 1 part_1_1_10
  demand_1_1_10_at_1 = demands_future {j = 9} demand_1_1_at_1 of_1_1 (no_answer of_1_1) (ap (λ r. slice_get (makes_of r) 9) end_1_1)

  futures_1_at_1 : (j : ℕ) (t : Term Name) → slice_get makes_1_3 j ≡ Some (made Future t) → IsIn (part (form 1) (suc j)) among_1
  futures_1_at_1 zero t p = absurd cc
  futures_1_at_1 (suc zero) t p = absurd cc
  futures_1_at_1 (suc (suc zero)) t p = absurd cc
  futures_1_at_1 (suc (suc (suc j))) t p = absurd cc

  abbrev row_1_at_1 : Row (language 4) made_script limit 1 among_1
  row_1_at_1 = record { name = (form 1); followed = record { w = work_1; a = answers_1_1; o = gave (cell part_1_3); ms = makes_1_3; of = of_1; answers = true_1_1; end = end_1; asks = (one_leads (leads_on (no_failure (language 4) made_script limit 1 among_1 gives_1_1) (there here)) none_leads); futures = futures_1_at_1 }; demand = demand_1_at_1 }

  futures_1_1_at_1 : (j : ℕ) (t : Term Name) → slice_get makes_1_1_11 j ≡ Some (made Future t) → IsIn (part part_1_1 (suc j)) among_1
  futures_1_1_at_1 zero t p = (there (there here))
  futures_1_1_at_1 (suc zero) t p = (there (there (there here)))
  futures_1_1_at_1 (suc (suc zero)) t p = (there (there (there (there here))))
  futures_1_1_at_1 (suc (suc (suc zero))) t p = (there (there (there (there (there here)))))
  futures_1_1_at_1 (suc (suc (suc (suc zero)))) t p = (there (there (there (there (there (there here))))))
  futures_1_1_at_1 (suc (suc (suc (suc (suc zero))))) t p = (there (there (there (there (there (there (there here)))))))
  futures_1_1_at_1 (suc (suc (suc (suc (suc (suc zero)))))) t p = (there (there (there (there (there (there (there (there here))))))))
  futures_1_1_at_1 (suc (suc (suc (suc (suc (suc (suc zero))))))) t p = (there (there (there (there (there (there (there (there (there here)))))))))
  futures_1_1_at_1 (suc (suc (suc (suc (suc (suc (suc (suc zero)))))))) t p = (there (there (there (there (there (there (there (there (there (there here))))))))))
  futures_1_1_at_1 (suc (suc (suc (suc (suc (suc (suc (suc (suc zero))))))))) t p = (there (there (there (there (there (there (there (there (there (there (there here)))))))))))
  futures_1_1_at_1 (suc (suc (suc (suc (suc (suc (suc (suc (suc (suc zero)))))))))) t p = absurd cc
  futures_1_1_at_1 (suc (suc (suc (suc (suc (suc (suc (suc (suc (suc (suc j))))))))))) t p = absurd cc

  abbrev row_1_1_at_1 : Row (language 4) made_script limit 1 among_1
  row_1_1_at_1 = record { name = part_1_1; followed = record { w = work_1_1; a = []; o = gave (chunk (cell part_1_1_1 & cell part_1_1_2 & cell part_1_1_3 & cell part_1_1_4 & cell part_1_1_5 & cell part_1_1_6 & cell part_1_1_7 & cell part_1_1_8 & cell part_1_1_9 & cell part_1_1_10 & no_values) (cell part_1_1_11)); ms = makes_1_1_11; of = of_1_1; answers = (no_answer of_1_1); end = end_1_1; asks = none_leads; futures = futures_1_1_at_1 }; demand = demand_1_1_at_1 }

  futures_1_1_1_at_1 : (j : ℕ) (t : Term Name) → slice_get [] j ≡ Some (made Future t) → IsIn (part part_1_1_1 (suc j)) among_1
  futures_1_1_1_at_1 j t p = absurd cc

  abbrev row_1_1_1_at_1 : Row (language 4) made_script limit 1 among_1
  row_1_1_1_at_1 = record { name = part_1_1_1; followed = record { w = work_1_1_1; a = []; o = gave (int (pos 1)); ms = []; of = of_1_1_1; answers = (no_answer of_1_1_1); end = end_1_1_1; asks = none_leads; futures = futures_1_1_1_at_1 }; demand = demand_1_1_1_at_1 }

  futures_1_1_2_at_1 : (j : ℕ) (t : Term Name) → slice_get [] j ≡ Some (made Future t) → IsIn (part part_1_1_2 (suc j)) among_1
  futures_1_1_2_at_1 j t p = absurd cc

  abbrev row_1_1_2_at_1 : Row (language 4) made_script limit 1 among_1
  row_1_1_2_at_1 = record { name = part_1_1_2; followed = record { w = work_1_1_2; a = []; o = gave (int (pos 2)); ms = []; of = of_1_1_2; answers = (no_answer of_1_1_2); end = end_1_1_2; asks = none_leads; futures = futures_1_1_2_at_1 }; demand = demand_1_1_2_at_1 }

  futures_1_1_3_at_1 : (j : ℕ) (t : Term Name) → slice_get [] j ≡ Some (made Future t) → IsIn (part part_1_1_3 (suc j)) among_1
  futures_1_1_3_at_1 j t p = absurd cc

  abbrev row_1_1_3_at_1 : Row (language 4) made_script limit 1 among_1
  row_1_1_3_at_1 = record { name = part_1_1_3; followed = record { w = work_1_1_3; a = []; o = gave (int (pos 3)); ms = []; of = of_1_1_3; answers = (no_answer of_1_1_3); end = end_1_1_3; asks = none_leads; futures = futures_1_1_3_at_1 }; demand = demand_1_1_3_at_1 }

  futures_1_1_4_at_1 : (j : ℕ) (t : Term Name) → slice_get [] j ≡ Some (made Future t) → IsIn (part part_1_1_4 (suc j)) among_1
  futures_1_1_4_at_1 j t p = absurd cc

  abbrev row_1_1_4_at_1 : Row (language 4) made_script limit 1 among_1
  row_1_1_4_at_1 = record { name = part_1_1_4; followed = record { w = work_1_1_4; a = []; o = gave (int (pos 4)); ms = []; of = of_1_1_4; answers = (no_answer of_1_1_4); end = end_1_1_4; asks = none_leads; futures = futures_1_1_4_at_1 }; demand = demand_1_1_4_at_1 }

  futures_1_1_5_at_1 : (j : ℕ) (t : Term Name) → slice_get [] j ≡ Some (made Future t) → IsIn (part part_1_1_5 (suc j)) among_1
  futures_1_1_5_at_1 j t p = absurd cc

  abbrev row_1_1_5_at_1 : Row (language 4) made_script limit 1 among_1
  row_1_1_5_at_1 = record { name = part_1_1_5; followed = record { w = work_1_1_5; a = []; o = gave (int (pos 5)); ms = []; of = of_1_1_5; answers = (no_answer of_1_1_5); end = end_1_1_5; asks = none_leads; futures = futures_1_1_5_at_1 }; demand = demand_1_1_5_at_1 }

  futures_1_1_6_at_1 : (j : ℕ) (t : Term Name) → slice_get [] j ≡ Some (made Future t) → IsIn (part part_1_1_6 (suc j)) among_1
  futures_1_1_6_at_1 j t p = absurd cc

  abbrev row_1_1_6_at_1 : Row (language 4) made_script limit 1 among_1
  row_1_1_6_at_1 = record { name = part_1_1_6; followed = record { w = work_1_1_6; a = []; o = gave (int (pos 6)); ms = []; of = of_1_1_6; answers = (no_answer of_1_1_6); end = end_1_1_6; asks = none_leads; futures = futures_1_1_6_at_1 }; demand = demand_1_1_6_at_1 }

  futures_1_1_7_at_1 : (j : ℕ) (t : Term Name) → slice_get [] j ≡ Some (made Future t) → IsIn (part part_1_1_7 (suc j)) among_1
  futures_1_1_7_at_1 j t p = absurd cc

  abbrev row_1_1_7_at_1 : Row (language 4) made_script limit 1 among_1
  row_1_1_7_at_1 = record { name = part_1_1_7; followed = record { w = work_1_1_7; a = []; o = gave (int (pos 7)); ms = []; of = of_1_1_7; answers = (no_answer of_1_1_7); end = end_1_1_7; asks = none_leads; futures = futures_1_1_7_at_1 }; demand = demand_1_1_7_at_1 }

  futures_1_1_8_at_1 : (j : ℕ) (t : Term Name) → slice_get [] j ≡ Some (made Future t) → IsIn (part part_1_1_8 (suc j)) among_1
  futures_1_1_8_at_1 j t p = absurd cc

  abbrev row_1_1_8_at_1 : Row (language 4) made_script limit 1 among_1
  row_1_1_8_at_1 = record { name = part_1_1_8; followed = record { w = work_1_1_8; a = []; o = gave (int (pos 8)); ms = []; of = of_1_1_8; answers = (no_answer of_1_1_8); end = end_1_1_8; asks = none_leads; futures = futures_1_1_8_at_1 }; demand = demand_1_1_8_at_1 }

  futures_1_1_9_at_1 : (j : ℕ) (t : Term Name) → slice_get [] j ≡ Some (made Future t) → IsIn (part part_1_1_9 (suc j)) among_1
  futures_1_1_9_at_1 j t p = absurd cc

  abbrev row_1_1_9_at_1 : Row (language 4) made_script limit 1 among_1
  row_1_1_9_at_1 = record { name = part_1_1_9; followed = record { w = work_1_1_9; a = []; o = gave (int (pos 9)); ms = []; of = of_1_1_9; answers = (no_answer of_1_1_9); end = end_1_1_9; asks = none_leads; futures = futures_1_1_9_at_1 }; demand = demand_1_1_9_at_1 }

  futures_1_1_10_at_1 : (j : ℕ) (t : Term Name) → slice_get [] j ≡ Some (made Future t) → IsIn (part part_1_1_10 (suc j)) among_1
  futures_1_1_10_at_1 j t p = absurd cc

  abbrev row_1_1_10_at_1 : Row (language 4) made_script limit 1 among_1
  row_1_1_10_at_1 = record { name = part_1_1_10; followed = record { w = work_1_1_10; a = []; o = gave (int (pos 10)); ms = []; of = of_1_1_10; answers = (no_answer of_1_1_10); end = end_1_1_10; asks = none_leads; futures = futures_1_1_10_at_1 }; demand = demand_1_1_10_at_1 }

  abbrev rows_at_1 : List (Row (language 4) made_script limit 1 among_1)
  rows_at_1 = row_1_at_1 ∷ row_1_1_at_1 ∷ row_1_1_1_at_1 ∷ row_1_1_2_at_1 ∷ row_1_1_3_at_1 ∷ row_1_1_4_at_1 ∷ row_1_1_5_at_1 ∷ row_1_1_6_at_1 ∷ row_1_1_7_at_1 ∷ row_1_1_8_at_1 ∷ row_1_1_9_at_1 ∷ row_1_1_10_at_1 ∷ []

  forms_at_1 : (i : ℕ) → i < 1 → IsIn (form (suc i)) among_1
  forms_at_1 zero h = here
  forms_at_1 (suc i) h = absurd (omega arith)

  totals_at_1 : Totals made_script limit 1 14 11 0
  totals_at_1 = totals_of (language 4) made_script limit 1 among_1 rows_at_1 forms_at_1 refl refl refl refl refl refl refl

  line_1 : Line (language 4) made_script limit 1 (codes "")
  unfolding digits
  line_1 = line_of_def refl gives_1

  output_1 : Output (language 4) made_script limit 1 (codes "")
  output_1 = one_more_line no_output line_1

  before_1 : Before (language 4) made_script limit 1 (cell part_1_3 ∷ [])
  before_1 = def_before before_0 refl gives_1 refl

  of_2 : OfHere (form 2) work_2
  of_2 = of_top before_1 refl

  needs_2_0 : run (language 4) made_script limit (form 2) work_2 [] ≡ needs part_1_3 []
  unfolding run walk digits
  needs_2_0 = refl

  is_1_3 : Part (language 4) made_script limit part_1_3 Lazy work_1_3
  is_1_3 = part_of {j = 2} of_1 true_1_1 (ap (λ r. slice_get (makes_of r) 2) end_1)

  of_1_3 : OfHere part_1_3 work_1_3
  of_1_3 = of_part is_1_3

  needs_1_3_0 : run (language 4) made_script limit part_1_3 work_1_3 [] ≡ needs part_1_2 []
  unfolding run walk digits
  needs_1_3_0 = refl

  is_1_2 : Part (language 4) made_script limit part_1_2 Lazy work_1_2
  is_1_2 = part_of {j = 1} of_1 (no_answer of_1) (ap (λ r. slice_get (makes_of r) 1) needs_1_0)

  of_1_2 : OfHere part_1_2 work_1_2
  of_1_2 = of_part is_1_2

  needs_1_2_0 : run (language 4) made_script limit part_1_2 work_1_2 [] ≡ needs part_1_1 []
  unfolding run walk digits
  needs_1_2_0 = refl

  abbrev true_1_2_1 : TrueHere part_1_2 answers_1_2_1
  true_1_2_1 = one_more of_1_2 (no_answer of_1_2) needs_1_2_0 gives_1_1

  end_1_2 : run (language 4) made_script limit part_1_2 work_1_2 answers_1_2_1 ≡ ends (gave (chunk (cell part_1_1_7 & cell part_1_1_8 & cell part_1_1_9 & cell part_1_1_10 & no_values) (cell part_1_1_11))) []
  unfolding run walk digits
  end_1_2 = by n
    where
      by : (n : ℕ) → run (language 4) made_script (past 7 n) part_1_2 work_1_2 answers_1_2_1 ≡ ends (gave (chunk (cell part_1_1_7 & cell part_1_1_8 & cell part_1_1_9 & cell part_1_1_10 & no_values) (cell part_1_1_11))) []
      by zero = refl
      by (suc n) = refl

  gives_1_2 : GivesHere part_1_2 (gave (chunk (cell part_1_1_7 & cell part_1_1_8 & cell part_1_1_9 & cell part_1_1_10 & no_values) (cell part_1_1_11)))
  gives_1_2 = gives of_1_2 true_1_2_1 end_1_2

  abbrev true_1_3_1 : TrueHere part_1_3 answers_1_3_1
  true_1_3_1 = one_more of_1_3 (no_answer of_1_3) needs_1_3_0 gives_1_2

  needs_1_3_1 : run (language 4) made_script limit part_1_3 work_1_3 answers_1_3_1 ≡ needs part_1_1_1 []
  unfolding run walk digits
  needs_1_3_1 = refl

  abbrev true_1_3_2 : TrueHere part_1_3 answers_1_3_2
  true_1_3_2 = one_more of_1_3 true_1_3_1 needs_1_3_1 gives_1_1_1

  end_1_3 : run (language 4) made_script limit part_1_3 work_1_3 answers_1_3_2 ≡ ends (gave (cons (int (pos 1) & no_values) (cell part_1_3_1))) makes_1_3_1
  unfolding run walk digits
  end_1_3 = refl

  gives_1_3 : GivesHere part_1_3 (gave (cons (int (pos 1) & no_values) (cell part_1_3_1)))
  gives_1_3 = gives of_1_3 true_1_3_2 end_1_3

  abbrev true_2_1 : TrueHere (form 2) answers_2_1
  true_2_1 = one_more of_2 (no_answer of_2) needs_2_0 gives_1_3

  end_2 : run (language 4) made_script limit (form 2) work_2 answers_2_1 ≡ ends (gave (text (codes "1"))) []
  unfolding run walk digits
  end_2 = refl

  gives_2 : GivesHere (form 2) (gave (text (codes "1")))
  gives_2 = gives of_2 true_2_1 end_2

  demand_1_at_2 : Demand (language 4) made_script limit 2 (form 1)
  demand_1_at_2 = demands_form {i = 0} (omega arith)

  demand_2_at_2 : Demand (language 4) made_script limit 2 (form 2)
  demand_2_at_2 = demands_form {i = 1} (omega arith)

  demand_1_1_at_2 : Demand (language 4) made_script limit 2 part_1_1
  demand_1_1_at_2 = demands_need demand_1_at_2 of_1 (no_answer of_1) needs_1_0 (no_failure (language 4) made_script limit 2 among_2 gives_1_1)

  demand_1_3_at_2 : Demand (language 4) made_script limit 2 part_1_3
  demand_1_3_at_2 = demands_need demand_2_at_2 of_2 (no_answer of_2) needs_2_0 (no_failure (language 4) made_script limit 2 among_2 gives_1_3)

  demand_1_1_1_at_2 : Demand (language 4) made_script limit 2 part_1_1_1
  demand_1_1_1_at_2 = demands_future {j = 0} demand_1_1_at_2 of_1_1 (no_answer of_1_1) (ap (λ r. slice_get (makes_of r) 0) end_1_1)

  demand_1_1_2_at_2 : Demand (language 4) made_script limit 2 part_1_1_2
  demand_1_1_2_at_2 = demands_future {j = 1} demand_1_1_at_2 of_1_1 (no_answer of_1_1) (ap (λ r. slice_get (makes_of r) 1) end_1_1)

  demand_1_1_3_at_2 : Demand (language 4) made_script limit 2 part_1_1_3
  demand_1_1_3_at_2 = demands_future {j = 2} demand_1_1_at_2 of_1_1 (no_answer of_1_1) (ap (λ r. slice_get (makes_of r) 2) end_1_1)

  demand_1_1_4_at_2 : Demand (language 4) made_script limit 2 part_1_1_4
  demand_1_1_4_at_2 = demands_future {j = 3} demand_1_1_at_2 of_1_1 (no_answer of_1_1) (ap (λ r. slice_get (makes_of r) 3) end_1_1)

  demand_1_1_5_at_2 : Demand (language 4) made_script limit 2 part_1_1_5
  demand_1_1_5_at_2 = demands_future {j = 4} demand_1_1_at_2 of_1_1 (no_answer of_1_1) (ap (λ r. slice_get (makes_of r) 4) end_1_1)

  demand_1_1_6_at_2 : Demand (language 4) made_script limit 2 part_1_1_6
  demand_1_1_6_at_2 = demands_future {j = 5} demand_1_1_at_2 of_1_1 (no_answer of_1_1) (ap (λ r. slice_get (makes_of r) 5) end_1_1)

  demand_1_1_7_at_2 : Demand (language 4) made_script limit 2 part_1_1_7
  demand_1_1_7_at_2 = demands_future {j = 6} demand_1_1_at_2 of_1_1 (no_answer of_1_1) (ap (λ r. slice_get (makes_of r) 6) end_1_1)

  demand_1_1_8_at_2 : Demand (language 4) made_script limit 2 part_1_1_8
  demand_1_1_8_at_2 = demands_future {j = 7} demand_1_1_at_2 of_1_1 (no_answer of_1_1) (ap (λ r. slice_get (makes_of r) 7) end_1_1)

  demand_1_1_9_at_2 : Demand (language 4) made_script limit 2 part_1_1_9
  demand_1_1_9_at_2 = demands_future {j = 8} demand_1_1_at_2 of_1_1 (no_answer of_1_1) (ap (λ r. slice_get (makes_of r) 8) end_1_1)

  demand_1_1_10_at_2 : Demand (language 4) made_script limit 2 part_1_1_10
  demand_1_1_10_at_2 = demands_future {j = 9} demand_1_1_at_2 of_1_1 (no_answer of_1_1) (ap (λ r. slice_get (makes_of r) 9) end_1_1)

  demand_1_2_at_2 : Demand (language 4) made_script limit 2 part_1_2
  demand_1_2_at_2 = demands_need demand_1_3_at_2 of_1_3 (no_answer of_1_3) needs_1_3_0 (no_failure (language 4) made_script limit 2 among_2 gives_1_2)

  futures_1_at_2 : (j : ℕ) (t : Term Name) → slice_get makes_1_3 j ≡ Some (made Future t) → IsIn (part (form 1) (suc j)) among_2
  futures_1_at_2 zero t p = absurd cc
  futures_1_at_2 (suc zero) t p = absurd cc
  futures_1_at_2 (suc (suc zero)) t p = absurd cc
  futures_1_at_2 (suc (suc (suc j))) t p = absurd cc

  abbrev row_1_at_2 : Row (language 4) made_script limit 2 among_2
  row_1_at_2 = record { name = (form 1); followed = record { w = work_1; a = answers_1_1; o = gave (cell part_1_3); ms = makes_1_3; of = of_1; answers = true_1_1; end = end_1; asks = (one_leads (leads_on (no_failure (language 4) made_script limit 2 among_2 gives_1_1) (there (there here))) none_leads); futures = futures_1_at_2 }; demand = demand_1_at_2 }

  futures_2_at_2 : (j : ℕ) (t : Term Name) → slice_get [] j ≡ Some (made Future t) → IsIn (part (form 2) (suc j)) among_2
  futures_2_at_2 j t p = absurd cc

  abbrev row_2_at_2 : Row (language 4) made_script limit 2 among_2
  row_2_at_2 = record { name = (form 2); followed = record { w = work_2; a = answers_2_1; o = gave (text (codes "1")); ms = []; of = of_2; answers = true_2_1; end = end_2; asks = (one_leads (leads_on (no_failure (language 4) made_script limit 2 among_2 gives_1_3) (there (there (there here)))) none_leads); futures = futures_2_at_2 }; demand = demand_2_at_2 }

  futures_1_1_at_2 : (j : ℕ) (t : Term Name) → slice_get makes_1_1_11 j ≡ Some (made Future t) → IsIn (part part_1_1 (suc j)) among_2
  futures_1_1_at_2 zero t p = (there (there (there (there here))))
  futures_1_1_at_2 (suc zero) t p = (there (there (there (there (there here)))))
  futures_1_1_at_2 (suc (suc zero)) t p = (there (there (there (there (there (there here))))))
  futures_1_1_at_2 (suc (suc (suc zero))) t p = (there (there (there (there (there (there (there here)))))))
  futures_1_1_at_2 (suc (suc (suc (suc zero)))) t p = (there (there (there (there (there (there (there (there here))))))))
  futures_1_1_at_2 (suc (suc (suc (suc (suc zero))))) t p = (there (there (there (there (there (there (there (there (there here)))))))))
  futures_1_1_at_2 (suc (suc (suc (suc (suc (suc zero)))))) t p = (there (there (there (there (there (there (there (there (there (there here))))))))))
  futures_1_1_at_2 (suc (suc (suc (suc (suc (suc (suc zero))))))) t p = (there (there (there (there (there (there (there (there (there (there (there here)))))))))))
  futures_1_1_at_2 (suc (suc (suc (suc (suc (suc (suc (suc zero)))))))) t p = (there (there (there (there (there (there (there (there (there (there (there (there here))))))))))))
  futures_1_1_at_2 (suc (suc (suc (suc (suc (suc (suc (suc (suc zero))))))))) t p = (there (there (there (there (there (there (there (there (there (there (there (there (there here)))))))))))))
  futures_1_1_at_2 (suc (suc (suc (suc (suc (suc (suc (suc (suc (suc zero)))))))))) t p = absurd cc
  futures_1_1_at_2 (suc (suc (suc (suc (suc (suc (suc (suc (suc (suc (suc j))))))))))) t p = absurd cc

  abbrev row_1_1_at_2 : Row (language 4) made_script limit 2 among_2
  row_1_1_at_2 = record { name = part_1_1; followed = record { w = work_1_1; a = []; o = gave (chunk (cell part_1_1_1 & cell part_1_1_2 & cell part_1_1_3 & cell part_1_1_4 & cell part_1_1_5 & cell part_1_1_6 & cell part_1_1_7 & cell part_1_1_8 & cell part_1_1_9 & cell part_1_1_10 & no_values) (cell part_1_1_11)); ms = makes_1_1_11; of = of_1_1; answers = (no_answer of_1_1); end = end_1_1; asks = none_leads; futures = futures_1_1_at_2 }; demand = demand_1_1_at_2 }

  futures_1_3_at_2 : (j : ℕ) (t : Term Name) → slice_get makes_1_3_1 j ≡ Some (made Future t) → IsIn (part part_1_3 (suc j)) among_2
  futures_1_3_at_2 zero t p = absurd cc
  futures_1_3_at_2 (suc j) t p = absurd cc

  abbrev row_1_3_at_2 : Row (language 4) made_script limit 2 among_2
  row_1_3_at_2 = record { name = part_1_3; followed = record { w = work_1_3; a = answers_1_3_2; o = gave (cons (int (pos 1) & no_values) (cell part_1_3_1)); ms = makes_1_3_1; of = of_1_3; answers = true_1_3_2; end = end_1_3; asks = (one_leads (leads_on (no_failure (language 4) made_script limit 2 among_2 gives_1_1_1) (there (there (there (there here))))) (one_leads (leads_on (no_failure (language 4) made_script limit 2 among_2 gives_1_2) (there (there (there (there (there (there (there (there (there (there (there (there (there (there here))))))))))))))) none_leads)); futures = futures_1_3_at_2 }; demand = demand_1_3_at_2 }

  futures_1_1_1_at_2 : (j : ℕ) (t : Term Name) → slice_get [] j ≡ Some (made Future t) → IsIn (part part_1_1_1 (suc j)) among_2
  futures_1_1_1_at_2 j t p = absurd cc

  abbrev row_1_1_1_at_2 : Row (language 4) made_script limit 2 among_2
  row_1_1_1_at_2 = record { name = part_1_1_1; followed = record { w = work_1_1_1; a = []; o = gave (int (pos 1)); ms = []; of = of_1_1_1; answers = (no_answer of_1_1_1); end = end_1_1_1; asks = none_leads; futures = futures_1_1_1_at_2 }; demand = demand_1_1_1_at_2 }

  futures_1_1_2_at_2 : (j : ℕ) (t : Term Name) → slice_get [] j ≡ Some (made Future t) → IsIn (part part_1_1_2 (suc j)) among_2
  futures_1_1_2_at_2 j t p = absurd cc

  abbrev row_1_1_2_at_2 : Row (language 4) made_script limit 2 among_2
  row_1_1_2_at_2 = record { name = part_1_1_2; followed = record { w = work_1_1_2; a = []; o = gave (int (pos 2)); ms = []; of = of_1_1_2; answers = (no_answer of_1_1_2); end = end_1_1_2; asks = none_leads; futures = futures_1_1_2_at_2 }; demand = demand_1_1_2_at_2 }

  futures_1_1_3_at_2 : (j : ℕ) (t : Term Name) → slice_get [] j ≡ Some (made Future t) → IsIn (part part_1_1_3 (suc j)) among_2
  futures_1_1_3_at_2 j t p = absurd cc

  abbrev row_1_1_3_at_2 : Row (language 4) made_script limit 2 among_2
  row_1_1_3_at_2 = record { name = part_1_1_3; followed = record { w = work_1_1_3; a = []; o = gave (int (pos 3)); ms = []; of = of_1_1_3; answers = (no_answer of_1_1_3); end = end_1_1_3; asks = none_leads; futures = futures_1_1_3_at_2 }; demand = demand_1_1_3_at_2 }

  futures_1_1_4_at_2 : (j : ℕ) (t : Term Name) → slice_get [] j ≡ Some (made Future t) → IsIn (part part_1_1_4 (suc j)) among_2
  futures_1_1_4_at_2 j t p = absurd cc

  abbrev row_1_1_4_at_2 : Row (language 4) made_script limit 2 among_2
  row_1_1_4_at_2 = record { name = part_1_1_4; followed = record { w = work_1_1_4; a = []; o = gave (int (pos 4)); ms = []; of = of_1_1_4; answers = (no_answer of_1_1_4); end = end_1_1_4; asks = none_leads; futures = futures_1_1_4_at_2 }; demand = demand_1_1_4_at_2 }

  futures_1_1_5_at_2 : (j : ℕ) (t : Term Name) → slice_get [] j ≡ Some (made Future t) → IsIn (part part_1_1_5 (suc j)) among_2
  futures_1_1_5_at_2 j t p = absurd cc

  abbrev row_1_1_5_at_2 : Row (language 4) made_script limit 2 among_2
  row_1_1_5_at_2 = record { name = part_1_1_5; followed = record { w = work_1_1_5; a = []; o = gave (int (pos 5)); ms = []; of = of_1_1_5; answers = (no_answer of_1_1_5); end = end_1_1_5; asks = none_leads; futures = futures_1_1_5_at_2 }; demand = demand_1_1_5_at_2 }

  futures_1_1_6_at_2 : (j : ℕ) (t : Term Name) → slice_get [] j ≡ Some (made Future t) → IsIn (part part_1_1_6 (suc j)) among_2
  futures_1_1_6_at_2 j t p = absurd cc

  abbrev row_1_1_6_at_2 : Row (language 4) made_script limit 2 among_2
  row_1_1_6_at_2 = record { name = part_1_1_6; followed = record { w = work_1_1_6; a = []; o = gave (int (pos 6)); ms = []; of = of_1_1_6; answers = (no_answer of_1_1_6); end = end_1_1_6; asks = none_leads; futures = futures_1_1_6_at_2 }; demand = demand_1_1_6_at_2 }

  futures_1_1_7_at_2 : (j : ℕ) (t : Term Name) → slice_get [] j ≡ Some (made Future t) → IsIn (part part_1_1_7 (suc j)) among_2
  futures_1_1_7_at_2 j t p = absurd cc

  abbrev row_1_1_7_at_2 : Row (language 4) made_script limit 2 among_2
  row_1_1_7_at_2 = record { name = part_1_1_7; followed = record { w = work_1_1_7; a = []; o = gave (int (pos 7)); ms = []; of = of_1_1_7; answers = (no_answer of_1_1_7); end = end_1_1_7; asks = none_leads; futures = futures_1_1_7_at_2 }; demand = demand_1_1_7_at_2 }

  futures_1_1_8_at_2 : (j : ℕ) (t : Term Name) → slice_get [] j ≡ Some (made Future t) → IsIn (part part_1_1_8 (suc j)) among_2
  futures_1_1_8_at_2 j t p = absurd cc

  abbrev row_1_1_8_at_2 : Row (language 4) made_script limit 2 among_2
  row_1_1_8_at_2 = record { name = part_1_1_8; followed = record { w = work_1_1_8; a = []; o = gave (int (pos 8)); ms = []; of = of_1_1_8; answers = (no_answer of_1_1_8); end = end_1_1_8; asks = none_leads; futures = futures_1_1_8_at_2 }; demand = demand_1_1_8_at_2 }

  futures_1_1_9_at_2 : (j : ℕ) (t : Term Name) → slice_get [] j ≡ Some (made Future t) → IsIn (part part_1_1_9 (suc j)) among_2
  futures_1_1_9_at_2 j t p = absurd cc

  abbrev row_1_1_9_at_2 : Row (language 4) made_script limit 2 among_2
  row_1_1_9_at_2 = record { name = part_1_1_9; followed = record { w = work_1_1_9; a = []; o = gave (int (pos 9)); ms = []; of = of_1_1_9; answers = (no_answer of_1_1_9); end = end_1_1_9; asks = none_leads; futures = futures_1_1_9_at_2 }; demand = demand_1_1_9_at_2 }

  futures_1_1_10_at_2 : (j : ℕ) (t : Term Name) → slice_get [] j ≡ Some (made Future t) → IsIn (part part_1_1_10 (suc j)) among_2
  futures_1_1_10_at_2 j t p = absurd cc

  abbrev row_1_1_10_at_2 : Row (language 4) made_script limit 2 among_2
  row_1_1_10_at_2 = record { name = part_1_1_10; followed = record { w = work_1_1_10; a = []; o = gave (int (pos 10)); ms = []; of = of_1_1_10; answers = (no_answer of_1_1_10); end = end_1_1_10; asks = none_leads; futures = futures_1_1_10_at_2 }; demand = demand_1_1_10_at_2 }

  futures_1_2_at_2 : (j : ℕ) (t : Term Name) → slice_get [] j ≡ Some (made Future t) → IsIn (part part_1_2 (suc j)) among_2
  futures_1_2_at_2 j t p = absurd cc

  abbrev row_1_2_at_2 : Row (language 4) made_script limit 2 among_2
  row_1_2_at_2 = record { name = part_1_2; followed = record { w = work_1_2; a = answers_1_2_1; o = gave (chunk (cell part_1_1_7 & cell part_1_1_8 & cell part_1_1_9 & cell part_1_1_10 & no_values) (cell part_1_1_11)); ms = []; of = of_1_2; answers = true_1_2_1; end = end_1_2; asks = (one_leads (leads_on (no_failure (language 4) made_script limit 2 among_2 gives_1_1) (there (there here))) none_leads); futures = futures_1_2_at_2 }; demand = demand_1_2_at_2 }

  abbrev rows_at_2 : List (Row (language 4) made_script limit 2 among_2)
  rows_at_2 = row_1_at_2 ∷ row_2_at_2 ∷ row_1_1_at_2 ∷ row_1_3_at_2 ∷ row_1_1_1_at_2 ∷ row_1_1_2_at_2 ∷ row_1_1_3_at_2 ∷ row_1_1_4_at_2 ∷ row_1_1_5_at_2 ∷ row_1_1_6_at_2 ∷ row_1_1_7_at_2 ∷ row_1_1_8_at_2 ∷ row_1_1_9_at_2 ∷ row_1_1_10_at_2 ∷ row_1_2_at_2 ∷ []

  forms_at_2 : (i : ℕ) → i < 2 → IsIn (form (suc i)) among_2
  forms_at_2 zero h = here
  forms_at_2 (suc zero) h = (there here)
  forms_at_2 (suc (suc i)) h = absurd (omega arith)

  totals_at_2 : Totals made_script limit 2 15 13 0
  totals_at_2 = totals_of (language 4) made_script limit 2 among_2 rows_at_2 forms_at_2 refl refl refl refl refl refl refl

  line_2 : Line (language 4) made_script limit 2 (codes "1\n")
  unfolding digits
  line_2 = line_of_prn refl gives_2

  output_2 : Output (language 4) made_script limit 2 (codes "1\n")
  output_2 = one_more_line output_1 line_2

  before_2 : Before (language 4) made_script limit 2 (cell part_1_3 ∷ nil ∷ [])
  before_2 = other_before before_1 refl prn_none refl

  of_3 : OfHere (form 3) work_3
  of_3 = of_top before_2 refl

  end_3 : run (language 4) made_script limit (form 3) work_3 [] ≡ ends (gave (nil)) []
  unfolding run walk digits
  end_3 = refl

  gives_3 : GivesHere (form 3) (gave (nil))
  gives_3 = gives of_3 (no_answer of_3) end_3

  demand_1_at_3 : Demand (language 4) made_script limit 3 (form 1)
  demand_1_at_3 = demands_form {i = 0} (omega arith)

  demand_2_at_3 : Demand (language 4) made_script limit 3 (form 2)
  demand_2_at_3 = demands_form {i = 1} (omega arith)

  demand_3_at_3 : Demand (language 4) made_script limit 3 (form 3)
  demand_3_at_3 = demands_form {i = 2} (omega arith)

  demand_1_1_at_3 : Demand (language 4) made_script limit 3 part_1_1
  demand_1_1_at_3 = demands_need demand_1_at_3 of_1 (no_answer of_1) needs_1_0 (no_failure (language 4) made_script limit 3 among_3 gives_1_1)

  demand_1_3_at_3 : Demand (language 4) made_script limit 3 part_1_3
  demand_1_3_at_3 = demands_need demand_2_at_3 of_2 (no_answer of_2) needs_2_0 (no_failure (language 4) made_script limit 3 among_3 gives_1_3)

  demand_1_1_1_at_3 : Demand (language 4) made_script limit 3 part_1_1_1
  demand_1_1_1_at_3 = demands_future {j = 0} demand_1_1_at_3 of_1_1 (no_answer of_1_1) (ap (λ r. slice_get (makes_of r) 0) end_1_1)

  demand_1_1_2_at_3 : Demand (language 4) made_script limit 3 part_1_1_2
  demand_1_1_2_at_3 = demands_future {j = 1} demand_1_1_at_3 of_1_1 (no_answer of_1_1) (ap (λ r. slice_get (makes_of r) 1) end_1_1)

  demand_1_1_3_at_3 : Demand (language 4) made_script limit 3 part_1_1_3
  demand_1_1_3_at_3 = demands_future {j = 2} demand_1_1_at_3 of_1_1 (no_answer of_1_1) (ap (λ r. slice_get (makes_of r) 2) end_1_1)

  demand_1_1_4_at_3 : Demand (language 4) made_script limit 3 part_1_1_4
  demand_1_1_4_at_3 = demands_future {j = 3} demand_1_1_at_3 of_1_1 (no_answer of_1_1) (ap (λ r. slice_get (makes_of r) 3) end_1_1)

  demand_1_1_5_at_3 : Demand (language 4) made_script limit 3 part_1_1_5
  demand_1_1_5_at_3 = demands_future {j = 4} demand_1_1_at_3 of_1_1 (no_answer of_1_1) (ap (λ r. slice_get (makes_of r) 4) end_1_1)

  demand_1_1_6_at_3 : Demand (language 4) made_script limit 3 part_1_1_6
  demand_1_1_6_at_3 = demands_future {j = 5} demand_1_1_at_3 of_1_1 (no_answer of_1_1) (ap (λ r. slice_get (makes_of r) 5) end_1_1)

  demand_1_1_7_at_3 : Demand (language 4) made_script limit 3 part_1_1_7
  demand_1_1_7_at_3 = demands_future {j = 6} demand_1_1_at_3 of_1_1 (no_answer of_1_1) (ap (λ r. slice_get (makes_of r) 6) end_1_1)

  demand_1_1_8_at_3 : Demand (language 4) made_script limit 3 part_1_1_8
  demand_1_1_8_at_3 = demands_future {j = 7} demand_1_1_at_3 of_1_1 (no_answer of_1_1) (ap (λ r. slice_get (makes_of r) 7) end_1_1)

  demand_1_1_9_at_3 : Demand (language 4) made_script limit 3 part_1_1_9
  demand_1_1_9_at_3 = demands_future {j = 8} demand_1_1_at_3 of_1_1 (no_answer of_1_1) (ap (λ r. slice_get (makes_of r) 8) end_1_1)

  demand_1_1_10_at_3 : Demand (language 4) made_script limit 3 part_1_1_10
  demand_1_1_10_at_3 = demands_future {j = 9} demand_1_1_at_3 of_1_1 (no_answer of_1_1) (ap (λ r. slice_get (makes_of r) 9) end_1_1)

  demand_1_2_at_3 : Demand (language 4) made_script limit 3 part_1_2
  demand_1_2_at_3 = demands_need demand_1_3_at_3 of_1_3 (no_answer of_1_3) needs_1_3_0 (no_failure (language 4) made_script limit 3 among_3 gives_1_2)

  futures_1_at_3 : (j : ℕ) (t : Term Name) → slice_get makes_1_3 j ≡ Some (made Future t) → IsIn (part (form 1) (suc j)) among_3
  futures_1_at_3 zero t p = absurd cc
  futures_1_at_3 (suc zero) t p = absurd cc
  futures_1_at_3 (suc (suc zero)) t p = absurd cc
  futures_1_at_3 (suc (suc (suc j))) t p = absurd cc

  abbrev row_1_at_3 : Row (language 4) made_script limit 3 among_3
  row_1_at_3 = record { name = (form 1); followed = record { w = work_1; a = answers_1_1; o = gave (cell part_1_3); ms = makes_1_3; of = of_1; answers = true_1_1; end = end_1; asks = (one_leads (leads_on (no_failure (language 4) made_script limit 3 among_3 gives_1_1) (there (there (there here)))) none_leads); futures = futures_1_at_3 }; demand = demand_1_at_3 }

  futures_2_at_3 : (j : ℕ) (t : Term Name) → slice_get [] j ≡ Some (made Future t) → IsIn (part (form 2) (suc j)) among_3
  futures_2_at_3 j t p = absurd cc

  abbrev row_2_at_3 : Row (language 4) made_script limit 3 among_3
  row_2_at_3 = record { name = (form 2); followed = record { w = work_2; a = answers_2_1; o = gave (text (codes "1")); ms = []; of = of_2; answers = true_2_1; end = end_2; asks = (one_leads (leads_on (no_failure (language 4) made_script limit 3 among_3 gives_1_3) (there (there (there (there here))))) none_leads); futures = futures_2_at_3 }; demand = demand_2_at_3 }

  futures_3_at_3 : (j : ℕ) (t : Term Name) → slice_get [] j ≡ Some (made Future t) → IsIn (part (form 3) (suc j)) among_3
  futures_3_at_3 j t p = absurd cc

  abbrev row_3_at_3 : Row (language 4) made_script limit 3 among_3
  row_3_at_3 = record { name = (form 3); followed = record { w = work_3; a = []; o = gave (nil); ms = []; of = of_3; answers = (no_answer of_3); end = end_3; asks = none_leads; futures = futures_3_at_3 }; demand = demand_3_at_3 }

  futures_1_1_at_3 : (j : ℕ) (t : Term Name) → slice_get makes_1_1_11 j ≡ Some (made Future t) → IsIn (part part_1_1 (suc j)) among_3
  futures_1_1_at_3 zero t p = (there (there (there (there (there here)))))
  futures_1_1_at_3 (suc zero) t p = (there (there (there (there (there (there here))))))
  futures_1_1_at_3 (suc (suc zero)) t p = (there (there (there (there (there (there (there here)))))))
  futures_1_1_at_3 (suc (suc (suc zero))) t p = (there (there (there (there (there (there (there (there here))))))))
  futures_1_1_at_3 (suc (suc (suc (suc zero)))) t p = (there (there (there (there (there (there (there (there (there here)))))))))
  futures_1_1_at_3 (suc (suc (suc (suc (suc zero))))) t p = (there (there (there (there (there (there (there (there (there (there here))))))))))
  futures_1_1_at_3 (suc (suc (suc (suc (suc (suc zero)))))) t p = (there (there (there (there (there (there (there (there (there (there (there here)))))))))))
  futures_1_1_at_3 (suc (suc (suc (suc (suc (suc (suc zero))))))) t p = (there (there (there (there (there (there (there (there (there (there (there (there here))))))))))))
  futures_1_1_at_3 (suc (suc (suc (suc (suc (suc (suc (suc zero)))))))) t p = (there (there (there (there (there (there (there (there (there (there (there (there (there here)))))))))))))
  futures_1_1_at_3 (suc (suc (suc (suc (suc (suc (suc (suc (suc zero))))))))) t p = (there (there (there (there (there (there (there (there (there (there (there (there (there (there here))))))))))))))
  futures_1_1_at_3 (suc (suc (suc (suc (suc (suc (suc (suc (suc (suc zero)))))))))) t p = absurd cc
  futures_1_1_at_3 (suc (suc (suc (suc (suc (suc (suc (suc (suc (suc (suc j))))))))))) t p = absurd cc

  abbrev row_1_1_at_3 : Row (language 4) made_script limit 3 among_3
  row_1_1_at_3 = record { name = part_1_1; followed = record { w = work_1_1; a = []; o = gave (chunk (cell part_1_1_1 & cell part_1_1_2 & cell part_1_1_3 & cell part_1_1_4 & cell part_1_1_5 & cell part_1_1_6 & cell part_1_1_7 & cell part_1_1_8 & cell part_1_1_9 & cell part_1_1_10 & no_values) (cell part_1_1_11)); ms = makes_1_1_11; of = of_1_1; answers = (no_answer of_1_1); end = end_1_1; asks = none_leads; futures = futures_1_1_at_3 }; demand = demand_1_1_at_3 }

  futures_1_3_at_3 : (j : ℕ) (t : Term Name) → slice_get makes_1_3_1 j ≡ Some (made Future t) → IsIn (part part_1_3 (suc j)) among_3
  futures_1_3_at_3 zero t p = absurd cc
  futures_1_3_at_3 (suc j) t p = absurd cc

  abbrev row_1_3_at_3 : Row (language 4) made_script limit 3 among_3
  row_1_3_at_3 = record { name = part_1_3; followed = record { w = work_1_3; a = answers_1_3_2; o = gave (cons (int (pos 1) & no_values) (cell part_1_3_1)); ms = makes_1_3_1; of = of_1_3; answers = true_1_3_2; end = end_1_3; asks = (one_leads (leads_on (no_failure (language 4) made_script limit 3 among_3 gives_1_1_1) (there (there (there (there (there here)))))) (one_leads (leads_on (no_failure (language 4) made_script limit 3 among_3 gives_1_2) (there (there (there (there (there (there (there (there (there (there (there (there (there (there (there here)))))))))))))))) none_leads)); futures = futures_1_3_at_3 }; demand = demand_1_3_at_3 }

  futures_1_1_1_at_3 : (j : ℕ) (t : Term Name) → slice_get [] j ≡ Some (made Future t) → IsIn (part part_1_1_1 (suc j)) among_3
  futures_1_1_1_at_3 j t p = absurd cc

  abbrev row_1_1_1_at_3 : Row (language 4) made_script limit 3 among_3
  row_1_1_1_at_3 = record { name = part_1_1_1; followed = record { w = work_1_1_1; a = []; o = gave (int (pos 1)); ms = []; of = of_1_1_1; answers = (no_answer of_1_1_1); end = end_1_1_1; asks = none_leads; futures = futures_1_1_1_at_3 }; demand = demand_1_1_1_at_3 }

  futures_1_1_2_at_3 : (j : ℕ) (t : Term Name) → slice_get [] j ≡ Some (made Future t) → IsIn (part part_1_1_2 (suc j)) among_3
  futures_1_1_2_at_3 j t p = absurd cc

  abbrev row_1_1_2_at_3 : Row (language 4) made_script limit 3 among_3
  row_1_1_2_at_3 = record { name = part_1_1_2; followed = record { w = work_1_1_2; a = []; o = gave (int (pos 2)); ms = []; of = of_1_1_2; answers = (no_answer of_1_1_2); end = end_1_1_2; asks = none_leads; futures = futures_1_1_2_at_3 }; demand = demand_1_1_2_at_3 }

  futures_1_1_3_at_3 : (j : ℕ) (t : Term Name) → slice_get [] j ≡ Some (made Future t) → IsIn (part part_1_1_3 (suc j)) among_3
  futures_1_1_3_at_3 j t p = absurd cc

  abbrev row_1_1_3_at_3 : Row (language 4) made_script limit 3 among_3
  row_1_1_3_at_3 = record { name = part_1_1_3; followed = record { w = work_1_1_3; a = []; o = gave (int (pos 3)); ms = []; of = of_1_1_3; answers = (no_answer of_1_1_3); end = end_1_1_3; asks = none_leads; futures = futures_1_1_3_at_3 }; demand = demand_1_1_3_at_3 }

  futures_1_1_4_at_3 : (j : ℕ) (t : Term Name) → slice_get [] j ≡ Some (made Future t) → IsIn (part part_1_1_4 (suc j)) among_3
  futures_1_1_4_at_3 j t p = absurd cc

  abbrev row_1_1_4_at_3 : Row (language 4) made_script limit 3 among_3
  row_1_1_4_at_3 = record { name = part_1_1_4; followed = record { w = work_1_1_4; a = []; o = gave (int (pos 4)); ms = []; of = of_1_1_4; answers = (no_answer of_1_1_4); end = end_1_1_4; asks = none_leads; futures = futures_1_1_4_at_3 }; demand = demand_1_1_4_at_3 }

  futures_1_1_5_at_3 : (j : ℕ) (t : Term Name) → slice_get [] j ≡ Some (made Future t) → IsIn (part part_1_1_5 (suc j)) among_3
  futures_1_1_5_at_3 j t p = absurd cc

  abbrev row_1_1_5_at_3 : Row (language 4) made_script limit 3 among_3
  row_1_1_5_at_3 = record { name = part_1_1_5; followed = record { w = work_1_1_5; a = []; o = gave (int (pos 5)); ms = []; of = of_1_1_5; answers = (no_answer of_1_1_5); end = end_1_1_5; asks = none_leads; futures = futures_1_1_5_at_3 }; demand = demand_1_1_5_at_3 }

  futures_1_1_6_at_3 : (j : ℕ) (t : Term Name) → slice_get [] j ≡ Some (made Future t) → IsIn (part part_1_1_6 (suc j)) among_3
  futures_1_1_6_at_3 j t p = absurd cc

  abbrev row_1_1_6_at_3 : Row (language 4) made_script limit 3 among_3
  row_1_1_6_at_3 = record { name = part_1_1_6; followed = record { w = work_1_1_6; a = []; o = gave (int (pos 6)); ms = []; of = of_1_1_6; answers = (no_answer of_1_1_6); end = end_1_1_6; asks = none_leads; futures = futures_1_1_6_at_3 }; demand = demand_1_1_6_at_3 }

  futures_1_1_7_at_3 : (j : ℕ) (t : Term Name) → slice_get [] j ≡ Some (made Future t) → IsIn (part part_1_1_7 (suc j)) among_3
  futures_1_1_7_at_3 j t p = absurd cc

  abbrev row_1_1_7_at_3 : Row (language 4) made_script limit 3 among_3
  row_1_1_7_at_3 = record { name = part_1_1_7; followed = record { w = work_1_1_7; a = []; o = gave (int (pos 7)); ms = []; of = of_1_1_7; answers = (no_answer of_1_1_7); end = end_1_1_7; asks = none_leads; futures = futures_1_1_7_at_3 }; demand = demand_1_1_7_at_3 }

  futures_1_1_8_at_3 : (j : ℕ) (t : Term Name) → slice_get [] j ≡ Some (made Future t) → IsIn (part part_1_1_8 (suc j)) among_3
  futures_1_1_8_at_3 j t p = absurd cc

  abbrev row_1_1_8_at_3 : Row (language 4) made_script limit 3 among_3
  row_1_1_8_at_3 = record { name = part_1_1_8; followed = record { w = work_1_1_8; a = []; o = gave (int (pos 8)); ms = []; of = of_1_1_8; answers = (no_answer of_1_1_8); end = end_1_1_8; asks = none_leads; futures = futures_1_1_8_at_3 }; demand = demand_1_1_8_at_3 }

  futures_1_1_9_at_3 : (j : ℕ) (t : Term Name) → slice_get [] j ≡ Some (made Future t) → IsIn (part part_1_1_9 (suc j)) among_3
  futures_1_1_9_at_3 j t p = absurd cc

  abbrev row_1_1_9_at_3 : Row (language 4) made_script limit 3 among_3
  row_1_1_9_at_3 = record { name = part_1_1_9; followed = record { w = work_1_1_9; a = []; o = gave (int (pos 9)); ms = []; of = of_1_1_9; answers = (no_answer of_1_1_9); end = end_1_1_9; asks = none_leads; futures = futures_1_1_9_at_3 }; demand = demand_1_1_9_at_3 }

  futures_1_1_10_at_3 : (j : ℕ) (t : Term Name) → slice_get [] j ≡ Some (made Future t) → IsIn (part part_1_1_10 (suc j)) among_3
  futures_1_1_10_at_3 j t p = absurd cc

  abbrev row_1_1_10_at_3 : Row (language 4) made_script limit 3 among_3
  row_1_1_10_at_3 = record { name = part_1_1_10; followed = record { w = work_1_1_10; a = []; o = gave (int (pos 10)); ms = []; of = of_1_1_10; answers = (no_answer of_1_1_10); end = end_1_1_10; asks = none_leads; futures = futures_1_1_10_at_3 }; demand = demand_1_1_10_at_3 }

  futures_1_2_at_3 : (j : ℕ) (t : Term Name) → slice_get [] j ≡ Some (made Future t) → IsIn (part part_1_2 (suc j)) among_3
  futures_1_2_at_3 j t p = absurd cc

  abbrev row_1_2_at_3 : Row (language 4) made_script limit 3 among_3
  row_1_2_at_3 = record { name = part_1_2; followed = record { w = work_1_2; a = answers_1_2_1; o = gave (chunk (cell part_1_1_7 & cell part_1_1_8 & cell part_1_1_9 & cell part_1_1_10 & no_values) (cell part_1_1_11)); ms = []; of = of_1_2; answers = true_1_2_1; end = end_1_2; asks = (one_leads (leads_on (no_failure (language 4) made_script limit 3 among_3 gives_1_1) (there (there (there here)))) none_leads); futures = futures_1_2_at_3 }; demand = demand_1_2_at_3 }

  abbrev rows_at_3 : List (Row (language 4) made_script limit 3 among_3)
  rows_at_3 = row_1_at_3 ∷ row_2_at_3 ∷ row_3_at_3 ∷ row_1_1_at_3 ∷ row_1_3_at_3 ∷ row_1_1_1_at_3 ∷ row_1_1_2_at_3 ∷ row_1_1_3_at_3 ∷ row_1_1_4_at_3 ∷ row_1_1_5_at_3 ∷ row_1_1_6_at_3 ∷ row_1_1_7_at_3 ∷ row_1_1_8_at_3 ∷ row_1_1_9_at_3 ∷ row_1_1_10_at_3 ∷ row_1_2_at_3 ∷ []

  forms_at_3 : (i : ℕ) → i < 3 → IsIn (form (suc i)) among_3
  forms_at_3 zero h = here
  forms_at_3 (suc zero) h = (there here)
  forms_at_3 (suc (suc zero)) h = (there (there here))
  forms_at_3 (suc (suc (suc i))) h = absurd (omega arith)

  totals_at_3 : Totals made_script limit 3 15 13 0
  totals_at_3 = totals_of (language 4) made_script limit 3 among_3 rows_at_3 forms_at_3 refl refl refl refl refl refl refl

  given_1_3_1_at_3 : ¬ (IsIn part_1_3_1 (given_in (language 4) made_script limit 3 among_3 rows_at_3))
  given_1_3_1_at_3 = none_among (given_in (language 4) made_script limit 3 among_3 rows_at_3) refl

  unrealised_1_3_1_at_3 : ¬ (Realised (language 4) made_script limit 3 part_1_3_1)
  unrealised_1_3_1_at_3 h = given_1_3_1_at_3 (only_given (language 4) made_script limit 3 among_3 rows_at_3 forms_at_3 refl _ h)

  before_3 : Before (language 4) made_script limit 3 (cell part_1_3 ∷ nil ∷ nil ∷ [])
  before_3 = other_before before_2 refl ledger_none refl

  line_3 : Line (language 4) made_script limit 3 (codes "s1 1\ncells 15 realised 13 failed 0\n")
  unfolding digits
  line_3 = line_of_ledger refl (ledger_of {makes = 15} {realises = 13} {fails = 0} before_3 (line_of refl (front_behind (realised demand_1_3_at_3 gives_1_3) gives_1_3 (front_cons (front_unrealised unrealised_1_3_1_at_3))) no_lines) totals_at_3.0 totals_at_3.1 totals_at_3.2)

  output_3 : Output (language 4) made_script limit 3 (codes "1\ns1 1\ncells 15 realised 13 failed 0\n")
  output_3 = one_more_line output_2 line_3

  no_throw_1 : ¬ (DefThrows (language 4) made_script limit 1)
  no_throw_1 (def_throws {i = i} p q g) = let s = one_gives (language 4) made_script limit gives_1 g in absurd cc

  no_throw_2 : ¬ (DefThrows (language 4) made_script limit 2)
  no_throw_2 (def_throws {i = i} p q g) = let r : i ≡ 1 = cc in let t : slice_get made_script.tops 1 ≡ Some (def _ _) = rw r at q in absurd cc

  no_throw_3 : ¬ (DefThrows (language 4) made_script limit 3)
  no_throw_3 (def_throws {i = i} p q g) = let r : i ≡ 2 = cc in let t : slice_get made_script.tops 2 ≡ Some (def _ _) = rw r at q in absurd cc

  reached : (cells : ℕ) → 15 ≤ cells → IsReached (language 4) made_script limit cells 4
  reached cells h zero p q = absurd (omega arith)
  reached cells h (suc zero) p q = (fits_of totals_at_1.0 cells (omega arith), no_throw_1)
  reached cells h (suc (suc zero)) p q = (fits_of totals_at_2.0 cells (omega arith), no_throw_2)
  reached cells h (suc (suc (suc zero))) p q = (fits_of totals_at_3.0 cells (omega arith), no_throw_3)
  reached cells h (suc (suc (suc (suc i)))) p q = absurd (omega arith)

  ran : (cells : ℕ) → 15 ≤ cells → Ran (language 4) made_script limit cells done (codes "1\ns1 1\ncells 15 realised 13 failed 0\n")
  ran cells h = ran_through (reached cells h) output_3

pub made_script_is_written : MadeScriptWritten
made_script_is_written = λ limit cells h c. from_past (λ limit. Ran (language 4) made_script limit cells done (codes "1\ns1 1\ncells 15 realised 13 failed 0\n")) 7 limit h (λ n. ran n cells c)

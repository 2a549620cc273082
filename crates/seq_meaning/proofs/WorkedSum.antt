-- The sum of three elements of a lazy sequence, by computation.
use Rattle.std.proofs.Common.{◌≡◌, ℕ, zero, suc, ◌<◌, pos, List, [], ◌∷◌, codes, refl, Some, slice_get, arith}
use Rattle.std.specs.Fmt.{digits}
use Rattle.seq_base.specs.declared.thrown.Thrown.TheVariants.{Steps}
use Rattle.seq_values.specs.declared.words.Kind.TheVariants.{Future}
use Rattle.seq_values.specs.declared.words.Op.TheVariants as O
use Rattle.seq_values.specs.Model.{Value, nil, int, text, cell, empty, cons, chunk, range, Values, no_values, ◌&◌, Term, Outcome, gave, threw}
use Rattle.seq_meaning.specs.Walk.{Made, made, Run, needs, ends, walk}
use Rattle.seq_meaning.specs.Names.{Name, form, part, retry}
use Rattle.seq_meaning.specs.Gives.{Work, work, of_form, run, Of, of_top, of_part, part_of, True, no_answer, one_more, Gives, gives, none_before}
use Rattle.seq_meaning.specs.Counts.{FailsLazily, Demand, demands_form, demands_need, MadeBy, made_by, Realised, realised, Failed, failed_part, failed_retry, IsIn, here, there, has_size}
use Rattle.seq_meaning.specs.SmallTable.{small}
use Rattle.seq_meaning.specs.Worked.{forms, Prints, Totals, sum_form, sum_of_three, SumOfThree}
use Rattle.seq_meaning.proofs.Once.{one_gives}
use Rattle.seq_meaning.proofs.Closing.{Leads, leads_on, none_leads, one_leads, Followed, no_failure, demanded_among, made_among}
use Rattle.seq_meaning.proofs.NameTests.{distinct}
use Rattle.seq_meaning.proofs.Worked.{past, from_past, part_work, inc_word, lazily, one_lazy, none_made, behind_form}

-- the parts: those of `map`, which is one chunk, and those of `take`
abbrev map_part : Name
map_part = part (form 1) 1

abbrev map_rest : Name
map_rest = part map_part 1

abbrev take_1 : Name
take_1 = part (form 1) 2

abbrev take_2 : Name
take_2 = part take_1 1

abbrev take_3 : Name
take_3 = part take_2 1

abbrev take_4 : Name
take_4 = part take_3 1

-- an element before a part
abbrev before : ℕ → Name → Value Name
before x c = cons (int (pos x) & no_values) (cell c)

abbrev three : Values Name
three = int (pos 1) & int (pos 2) & int (pos 3) & no_values

abbrev two : Values Name
two = int (pos 2) & int (pos 3) & no_values

abbrev one : Values Name
one = int (pos 3) & no_values

-- the works
abbrev top_work : Work
top_work = work [] (of_form sum_form)

abbrev map_work : Work
map_work = part_work O.Map (inc_word ∷ range (pos 0) (pos 0) (pos 3) ∷ [])

abbrev work_1 : Work
work_1 = part_work O.Take (int (pos 3) ∷ cell map_part ∷ [])

abbrev work_2 : Work
work_2 = part_work O.Take (int (pos 2) ∷ chunk two (cell map_rest) ∷ [])

abbrev work_3 : Work
work_3 = part_work O.Take (int (pos 1) ∷ chunk one (cell map_rest) ∷ [])

abbrev work_4 : Work
work_4 = part_work O.Take (int (pos 0) ∷ cell map_rest ∷ [])

-- the makes of the form, and the answers to its asks
abbrev top_makes : List (Made Name)
top_makes = lazily O.Map (inc_word ∷ range (pos 0) (pos 0) (pos 3) ∷ []) ∷ lazily O.Take (int (pos 3) ∷ cell map_part ∷ []) ∷ []

abbrev answers_1 : List (Outcome Name)
answers_1 = gave (before 1 take_2) ∷ []

abbrev answers_2 : List (Outcome Name)
answers_2 = gave (before 2 take_3) ∷ answers_1

abbrev answers_3 : List (Outcome Name)
answers_3 = gave (before 3 take_4) ∷ answers_2

abbrev answers_4 : List (Outcome Name)
answers_4 = gave nil ∷ answers_3

-- With thirteen steps or more:
module _ (n : ℕ) where
  abbrev limit : ℕ
  limit = past 13 n

  abbrev OfHere : Name → Work → Type 0
  OfHere e w = Of small (forms sum_of_three) limit e w

  abbrev GivesHere : Name → Value Name → Type 0
  GivesHere e v = Gives small (forms sum_of_three) limit e (gave v)

  of_top_form : OfHere (form 1) top_work
  of_top_form = of_top none_before refl

  of_map : OfHere map_part map_work
  unfolding run walk
  of_map = of_part (part_of of_top_form (no_answer of_top_form) refl)

  gives_map : GivesHere map_part (chunk three (cell map_rest))
  unfolding run walk
  gives_map = gives of_map (no_answer of_map) refl

  of_1 : OfHere take_1 work_1
  unfolding run walk
  of_1 = of_part (part_of of_top_form (no_answer of_top_form) refl)

  needs_map : run small (forms sum_of_three) limit take_1 work_1 [] ≡ needs map_part []
  unfolding run walk
  needs_map = refl

  abbrev true_1 : True small (forms sum_of_three) limit take_1 (gave (chunk three (cell map_rest)) ∷ [])
  true_1 = one_more of_1 (no_answer of_1) needs_map gives_map

  gives_1 : GivesHere take_1 (before 1 take_2)
  unfolding run walk
  gives_1 = gives of_1 true_1 refl

  of_2 : OfHere take_2 work_2
  unfolding run walk
  of_2 = of_part (part_of of_1 true_1 refl)

  gives_2 : GivesHere take_2 (before 2 take_3)
  unfolding run walk
  gives_2 = gives of_2 (no_answer of_2) refl

  of_3 : OfHere take_3 work_3
  unfolding run walk
  of_3 = of_part (part_of of_2 (no_answer of_2) refl)

  gives_3 : GivesHere take_3 (before 3 take_4)
  unfolding run walk
  gives_3 = gives of_3 (no_answer of_3) refl

  of_4 : OfHere take_4 work_4
  unfolding run walk
  of_4 = of_part (part_of of_3 (no_answer of_3) refl)

  gives_4 : GivesHere take_4 nil
  unfolding run walk
  gives_4 = gives of_4 (no_answer of_4) refl

  abbrev TrueTop : List (Outcome Name) → Type 0
  TrueTop a = True small (forms sum_of_three) limit (form 1) a

  abbrev top_run : List (Outcome Name) → Run Name
  top_run a = run small (forms sum_of_three) limit (form 1) top_work a

  needs_1 : top_run [] ≡ needs take_1 top_makes
  unfolding run walk
  needs_1 = refl

  needs_2 : top_run answers_1 ≡ needs take_2 top_makes
  unfolding run walk
  needs_2 = refl

  needs_3 : top_run answers_2 ≡ needs take_3 top_makes
  unfolding run walk
  needs_3 = refl

  needs_4 : top_run answers_3 ≡ needs take_4 top_makes
  unfolding run walk
  needs_4 = refl

  abbrev true_0 : TrueTop []
  true_0 = no_answer of_top_form

  abbrev true_top_1 : TrueTop answers_1
  true_top_1 = one_more of_top_form true_0 needs_1 gives_1

  abbrev true_top_2 : TrueTop answers_2
  true_top_2 = one_more of_top_form true_top_1 needs_2 gives_2

  abbrev true_top_3 : TrueTop answers_3
  true_top_3 = one_more of_top_form true_top_2 needs_3 gives_3

  abbrev true_top : TrueTop answers_4
  true_top = one_more of_top_form true_top_3 needs_4 gives_4

sum_is_six : (n : ℕ) → Prints sum_of_three (past 14 n) (form 1) (codes "6")
unfolding run walk digits
sum_is_six zero = gives (of_top_form 1) (true_top 1) refl
sum_is_six (suc n) = gives (of_top_form (past 2 n)) (true_top (past 2 n)) refl

-- the evaluations that the form demands, and the parts that they make
abbrev among : List Name
among = form 1 ∷ take_1 ∷ map_part ∷ take_2 ∷ take_3 ∷ take_4 ∷ []

abbrev parts : List Name
parts = map_part ∷ take_1 ∷ map_rest ∷ take_2 ∷ take_3 ∷ take_4 ∷ []

abbrev given : List Name
given = take_1 ∷ map_part ∷ take_2 ∷ take_3 ∷ take_4 ∷ []

-- where no make is a future
two_lazy : (j : ℕ) (t : Term Name) → ¬ (slice_get top_makes j ≡ Some (made Future t))
two_lazy zero t p = absurd cc
two_lazy (suc zero) t p = absurd cc
two_lazy (suc (suc j)) t p = absurd cc

module _ (n : ℕ) where
  abbrev FollowedHere : Name → Type 0
  FollowedHere e = Followed small (forms sum_of_three) (limit n) 1 among e

  abbrev DemandHere : Name → Type 0
  DemandHere e = Demand small (forms sum_of_three) (limit n) 1 e

  works : {c : Name} {v : Value Name} → Gives small (forms sum_of_three) (limit n) c (gave v) → ¬ (FailsLazily small (forms sum_of_three) (limit n) 1 c)
  works g = no_failure small (forms sum_of_three) (limit n) 1 among g

  abbrev LeadsHere : Name → Name → Type 0
  LeadsHere e c = Leads small (forms sum_of_three) (limit n) 1 among e c

  leads : {e c : Name} {v : Value Name} → Gives small (forms sum_of_three) (limit n) c (gave v) → IsIn c among → LeadsHere e c
  leads g i = leads_on (works g) i

  -- the end of the form: a text, or no step is left
  top_end : (o : Outcome Name) × (run small (forms sum_of_three) (limit n) (form 1) top_work answers_4 ≡ ends o top_makes)
  unfolding run walk digits
  top_end = by n
    where
      by : (n : ℕ) → (o : Outcome Name) × (run small (forms sum_of_three) (limit n) (form 1) top_work answers_4 ≡ ends o top_makes)
      by zero = (threw Steps, refl)
      by (suc zero) = (gave (text (codes "6")), refl)
      by (suc (suc n)) = (gave (text (codes "6")), refl)

  abbrev followed_top : FollowedHere (form 1)
  followed_top = record {
    w = top_work;
    a = answers_4;
    o = top_end.0;
    ms = top_makes;
    of = of_top_form n;
    answers = true_top n;
    end = top_end.1;
    asks = one_leads (leads (gives_4 n) (there (there (there (there (there here)))))) (one_leads (leads (gives_3 n) (there (there (there (there here))))) (one_leads (leads (gives_2 n) (there (there (there here)))) (one_leads (leads (gives_1 n) (there here)) none_leads)));
    futures = λ j t p. absurd (two_lazy j t p);
  }

  end_1 : run small (forms sum_of_three) (limit n) take_1 work_1 (gave (chunk three (cell map_rest)) ∷ []) ≡ ends (gave (before 1 take_2)) (lazily O.Take (int (pos 2) ∷ chunk two (cell map_rest) ∷ []) ∷ [])
  unfolding run walk
  end_1 = refl

  abbrev followed_1 : FollowedHere take_1
  followed_1 = record {
    w = work_1;
    a = (gave (chunk three (cell map_rest)) ∷ []);
    o = gave (before 1 take_2);
    ms = (lazily O.Take (int (pos 2) ∷ chunk two (cell map_rest) ∷ []) ∷ []);
    of = of_1 n;
    answers = true_1 n;
    end = end_1;
    asks = one_leads (leads (gives_map n) (there (there here))) none_leads;
    futures = λ j t p. absurd (one_lazy _ _ j t p);
  }

  end_map : run small (forms sum_of_three) (limit n) map_part map_work [] ≡ ends (gave (chunk three (cell map_rest))) (lazily O.Map (inc_word ∷ empty ∷ []) ∷ [])
  unfolding run walk
  end_map = refl

  abbrev followed_map : FollowedHere map_part
  followed_map = record {
    w = map_work;
    a = [];
    o = gave (chunk three (cell map_rest));
    ms = (lazily O.Map (inc_word ∷ empty ∷ []) ∷ []);
    of = of_map n;
    answers = no_answer (of_map n);
    end = end_map;
    asks = none_leads;
    futures = λ j t p. absurd (one_lazy _ _ j t p);
  }

  end_2 : run small (forms sum_of_three) (limit n) take_2 work_2 [] ≡ ends (gave (before 2 take_3)) (lazily O.Take (int (pos 1) ∷ chunk one (cell map_rest) ∷ []) ∷ [])
  unfolding run walk
  end_2 = refl

  abbrev followed_2 : FollowedHere take_2
  followed_2 = record {
    w = work_2;
    a = [];
    o = gave (before 2 take_3);
    ms = (lazily O.Take (int (pos 1) ∷ chunk one (cell map_rest) ∷ []) ∷ []);
    of = of_2 n;
    answers = no_answer (of_2 n);
    end = end_2;
    asks = none_leads;
    futures = λ j t p. absurd (one_lazy _ _ j t p);
  }

  end_3 : run small (forms sum_of_three) (limit n) take_3 work_3 [] ≡ ends (gave (before 3 take_4)) (lazily O.Take (int (pos 0) ∷ cell map_rest ∷ []) ∷ [])
  unfolding run walk
  end_3 = refl

  abbrev followed_3 : FollowedHere take_3
  followed_3 = record {
    w = work_3;
    a = [];
    o = gave (before 3 take_4);
    ms = (lazily O.Take (int (pos 0) ∷ cell map_rest ∷ []) ∷ []);
    of = of_3 n;
    answers = no_answer (of_3 n);
    end = end_3;
    asks = none_leads;
    futures = λ j t p. absurd (one_lazy _ _ j t p);
  }

  end_4 : run small (forms sum_of_three) (limit n) take_4 work_4 [] ≡ ends (gave nil) []
  unfolding run walk
  end_4 = refl

  abbrev followed_4 : FollowedHere take_4
  followed_4 = record {
    w = work_4;
    a = [];
    o = gave nil;
    ms = [];
    of = of_4 n;
    answers = no_answer (of_4 n);
    end = end_4;
    asks = none_leads;
    futures = λ j t p. absurd (none_made j _ p);
  }

  abbrev followed : (e : Name) → IsIn e among → FollowedHere e
  followed _ here = followed_top
  followed _ (there here) = followed_1
  followed _ (there (there here)) = followed_map
  followed _ (there (there (there here))) = followed_2
  followed _ (there (there (there (there here)))) = followed_3
  followed _ (there (there (there (there (there here))))) = followed_4
  followed _ (there (there (there (there (there (there i)))))) = elim i [ ]

  only_form : (i : ℕ) → i < 1 → IsIn (form (suc i)) among
  only_form zero h = here
  only_form (suc i) h = absurd (omega arith)

  among_these : {x : Name} → DemandHere x → IsIn x among
  among_these = demanded_among small (forms sum_of_three) (limit n) 1 among only_form followed

  -- what each makes
  part_made : (e : Name) (i : IsIn e among) (j : ℕ) (m : Made Name) → slice_get (followed e i).ms j ≡ Some m → IsIn (part e (suc j)) parts
  part_made _ here zero m p = here
  part_made _ here (suc zero) m p = there here
  part_made _ here (suc (suc j)) m p = absurd cc
  part_made _ (there here) zero m p = there (there (there here))
  part_made _ (there here) (suc j) m p = absurd cc
  part_made _ (there (there here)) zero m p = there (there here)
  part_made _ (there (there here)) (suc j) m p = absurd cc
  part_made _ (there (there (there here))) zero m p = there (there (there (there here)))
  part_made _ (there (there (there here))) (suc j) m p = absurd cc
  part_made _ (there (there (there (there here)))) zero m p = there (there (there (there (there here))))
  part_made _ (there (there (there (there here)))) (suc j) m p = absurd cc
  part_made _ (there (there (there (there (there here))))) j m p = absurd (none_made j m p)
  part_made _ (there (there (there (there (there (there i)))))) j m p = elim i [ ]

  demand_top : DemandHere (form 1)
  demand_top = demands_form (omega arith)

  demand_1 : DemandHere take_1
  unfolding run walk
  demand_1 = demands_need demand_top (of_top_form n) (true_0 n) refl (works (gives_1 n))

  demand_map : DemandHere map_part
  unfolding run walk
  demand_map = demands_need demand_1 (of_1 n) (no_answer (of_1 n)) refl (works (gives_map n))

  demand_2 : DemandHere take_2
  unfolding run walk
  demand_2 = demands_need demand_top (of_top_form n) (true_top_1 n) refl (works (gives_2 n))

  demand_3 : DemandHere take_3
  unfolding run walk
  demand_3 = demands_need demand_top (of_top_form n) (true_top_2 n) refl (works (gives_3 n))

  demand_4 : DemandHere take_4
  unfolding run walk
  demand_4 = demands_need demand_top (of_top_form n) (true_top_3 n) refl (works (gives_4 n))

  are_made : (x : Name) → IsIn x parts → MadeBy small (forms sum_of_three) (limit n) 1 x
  unfolding run walk
  are_made _ here = made_by {j = 0} demand_top (of_top_form n) (true_0 n) refl
  are_made _ (there here) = made_by {j = 1} demand_top (of_top_form n) (true_0 n) refl
  are_made _ (there (there here)) = made_by {j = 0} demand_map (of_map n) (no_answer (of_map n)) refl
  are_made _ (there (there (there here))) = made_by {j = 0} demand_1 (of_1 n) (true_1 n) refl
  are_made _ (there (there (there (there here)))) = made_by {j = 0} demand_2 (of_2 n) (no_answer (of_2 n)) refl
  are_made _ (there (there (there (there (there here))))) = made_by {j = 0} demand_3 (of_3 n) (no_answer (of_3 n)) refl
  are_made _ (there (there (there (there (there (there i)))))) = elim i [ ]

  -- each demanded part gives a value
  value_of_given : (x : Name) → IsIn x given → (v : Value Name) × Gives small (forms sum_of_three) (limit n) x (gave v)
  value_of_given _ here = (_, gives_1 n)
  value_of_given _ (there here) = (_, gives_map n)
  value_of_given _ (there (there here)) = (_, gives_2 n)
  value_of_given _ (there (there (there here))) = (_, gives_3 n)
  value_of_given _ (there (there (there (there here)))) = (_, gives_4 n)
  value_of_given _ (there (there (there (there (there i))))) = elim i [ ]

  are_realised : (x : Name) → IsIn x given → Realised small (forms sum_of_three) (limit n) 1 x
  are_realised _ here = realised demand_1 (gives_1 n)
  are_realised _ (there here) = realised demand_map (gives_map n)
  are_realised _ (there (there here)) = realised demand_2 (gives_2 n)
  are_realised _ (there (there (there here))) = realised demand_3 (gives_3 n)
  are_realised _ (there (there (there (there here)))) = realised demand_4 (gives_4 n)
  are_realised _ (there (there (there (there (there i))))) = elim i [ ]

  realised_given : (x : Name) → Realised small (forms sum_of_three) (limit n) 1 x → IsIn x given
  realised_given _ (realised d g) = behind_form (among_these d)

  no_retry : {e : Name} → ¬ (IsIn (retry e) among)
  no_retry (there (there (there (there (there (there h)))))) = elim h [ ]

  none_failed : (x : Name) → Failed small (forms sum_of_three) (limit n) 1 x → IsIn x []
  none_failed _ (failed_part d g) =
      let v = value_of_given _ (behind_form (among_these d)) in
      let s = one_gives small (forms sum_of_three) (limit n) v.1 g in
      absurd cc
  none_failed _ (failed_retry d g) = absurd (no_retry (among_these d))

  none_in : (x : Name) → IsIn x [] → Failed small (forms sum_of_three) (limit n) 1 x
  none_in x i = elim i [ ]

  totals : Totals sum_of_three (limit n) 1 6 5 0
  totals = (
    has_size parts (distinct parts refl) are_made (λ x m. made_among small (forms sum_of_three) (limit n) 1 among only_form followed parts part_made m) refl,
    has_size given (distinct given refl) are_realised realised_given refl,
    has_size [] (distinct [] refl) none_in none_failed refl,
  )

pub sum_of_three_is_six : SumOfThree
unfolding run walk
sum_of_three_is_six = (λ limit h. from_past (λ l. Prints sum_of_three l (form 1) (codes "6")) 14 limit h sum_is_six, gives (of_top_form 0) (true_top 0) refl, λ limit h. from_past (λ l. Totals sum_of_three l 1 6 5 0) 13 limit h totals)

-- A sequence without end that is printed up to the step limit, by computation.
use Rattle.std.proofs.Common.{◌≡◌, ℕ, zero, suc, ◌<◌, pos, List, [], ◌∷◌, refl, arith, Some, slice_get}
use Rattle.seq_base.specs.declared.thrown.Thrown.{Thrown}
use Rattle.seq_base.specs.declared.thrown.Thrown.TheVariants.{Steps}
use Rattle.seq_values.specs.declared.words.Op.TheVariants as O
use Rattle.seq_values.specs.Model.{Value, int, cell, cons, no_values, ◌&◌, Outcome, gave, threw}
use Rattle.seq_meaning.specs.Walk.{Made, needs, ends, walk}
use Rattle.seq_meaning.specs.Names.{Name, form, part, retry}
use Rattle.seq_meaning.specs.Gives.{Work, work, of_form, run, Of, of_top, of_part, part_of, True, no_answer, one_more, Gives, gives, none_before}
use Rattle.seq_meaning.specs.Counts.{FailsLazily, fails_lazily, Demand, demands_form, demands_need, MadeBy, made_by, Realised, realised, Failed, failed_part, failed_retry, IsIn, here, there, has_size}
use Rattle.seq_meaning.specs.SmallTable.{small}
use Rattle.seq_meaning.specs.Worked.{forms, Throws, Totals, iterate_form, without_end, WithoutEnd}
use Rattle.seq_meaning.proofs.Once.{one_gives}
use Rattle.seq_meaning.proofs.Closing.{leads_on, none_leads, one_leads, Followed, demanded_among, made_among}
use Rattle.seq_meaning.proofs.NameTests.{distinct}
use Rattle.seq_meaning.proofs.Worked.{past, part_work, inc_word, lazily, one_lazy, behind_form}

abbrev first_part : Name
first_part = part (form 1) 1

abbrev second_part : Name
second_part = part first_part 1

abbrev top_work : Work
top_work = work [] (of_form iterate_form)

abbrev next_work : ℕ → Work
next_work x = part_work O.Next (inc_word ∷ int (pos x) ∷ [])

abbrev before : ℕ → Name → Value Name
before x c = cons (int (pos x) & no_values) (cell c)

-- With four steps or more, the first part is asked.
module _ (n : ℕ) where
  abbrev limit : ℕ
  limit = past 4 n

  abbrev OfHere : Name → Work → Type 0
  OfHere e w = Of small (forms without_end) limit e w

  of_top_form : OfHere (form 1) top_work
  of_top_form = of_top none_before refl

  of_first : OfHere first_part (next_work 0)
  unfolding run walk
  of_first = of_part (part_of of_top_form (no_answer of_top_form) refl)

  gives_first : Gives small (forms without_end) limit first_part (gave (before 1 second_part))
  unfolding run walk
  gives_first = gives of_first (no_answer of_first) refl

  true_first : True small (forms without_end) limit (form 1) (gave (before 1 second_part) ∷ [])
  unfolding run walk
  true_first = one_more of_top_form (no_answer of_top_form) refl gives_first

  no_error : FailsLazily small (forms without_end) limit 1 first_part → ⊥
  no_error (fails_lazily p g) = let s = one_gives small (forms without_end) limit g gives_first in absurd cc

  of_second : OfHere second_part (next_work 1)
  unfolding run walk
  of_second = of_part (part_of of_first (no_answer of_first) refl)

  gives_second : Gives small (forms without_end) limit second_part (gave (before 2 (part second_part 1)))
  unfolding run walk
  gives_second = gives of_second (no_answer of_second) refl

  no_second_error : FailsLazily small (forms without_end) limit 1 second_part → ⊥
  no_second_error (fails_lazily p g) = let s = one_gives small (forms without_end) limit g gives_second in absurd cc

six_steps : Throws without_end 6 (form 1) Steps
unfolding run walk
six_steps = gives (of_top_form 2) (one_more (of_top_form 2) (true_first 2) refl (gives_second 2)) refl

five_steps : Throws without_end 5 (form 1) Steps
unfolding run walk
five_steps = gives (of_top_form 1) (true_first 1) refl

abbrev top_makes : List (Made Name)
top_makes = lazily O.Next (inc_word ∷ int (pos 0) ∷ []) ∷ []

abbrev answers_1 : List (Outcome Name)
answers_1 = gave (before 1 second_part) ∷ []

abbrev answers_2 : List (Outcome Name)
answers_2 = gave (before 2 (part second_part 1)) ∷ answers_1

only_form : {l : List Name} (i : ℕ) → i < 1 → IsIn (form (suc i)) (form 1 ∷ l)
only_form zero h = here
only_form (suc i) h = absurd (omega arith)

no_retry_1 : {e : Name} → ¬ (IsIn (retry e) (form 1 ∷ first_part ∷ []))
no_retry_1 (there (there i)) = elim i [ ]

no_retry_2 : {e : Name} → ¬ (IsIn (retry e) (form 1 ∷ first_part ∷ second_part ∷ []))
no_retry_2 (there (there (there i))) = elim i [ ]

-- what the first part does, whatever else is demanded
module _ (n : ℕ) (among : List Name) where
  end_first : run small (forms without_end) (limit n) first_part (next_work 0) [] ≡ ends (gave (before 1 second_part)) (lazily O.Next (inc_word ∷ int (pos 1) ∷ []) ∷ [])
  unfolding run walk
  end_first = refl

  abbrev followed_first : Followed small (forms without_end) (limit n) 1 among first_part
  followed_first = record {
    w = next_work 0;
    a = [];
    o = gave (before 1 second_part);
    ms = lazily O.Next (inc_word ∷ int (pos 1) ∷ []) ∷ [];
    of = of_first n;
    answers = no_answer (of_first n);
    end = end_first;
    asks = none_leads;
    futures = λ j t p. absurd (one_lazy _ _ j t p);
  }

  end_second : run small (forms without_end) (limit n) second_part (next_work 1) [] ≡ ends (gave (before 2 (part second_part 1))) (lazily O.Next (inc_word ∷ int (pos 2) ∷ []) ∷ [])
  unfolding run walk
  end_second = refl

  abbrev followed_second : Followed small (forms without_end) (limit n) 1 among second_part
  followed_second = record {
    w = next_work 1;
    a = [];
    o = gave (before 2 (part second_part 1));
    ms = lazily O.Next (inc_word ∷ int (pos 2) ∷ []) ∷ [];
    of = of_second n;
    answers = no_answer (of_second n);
    end = end_second;
    asks = none_leads;
    futures = λ j t p. absurd (one_lazy _ _ j t p);
  }

  -- a part that gives a value didn't fail
  not_failed : {c : Name} {v : Value Name} {x : Thrown} → Gives small (forms without_end) (limit n) c (gave v) → ¬ (Gives small (forms without_end) (limit n) c (threw x))
  not_failed g h = let s = one_gives small (forms without_end) (limit n) g h in absurd cc

-- With five steps:
abbrev among_5 : List Name
among_5 = form 1 ∷ first_part ∷ []

needs_5 : run small (forms without_end) 5 (form 1) top_work [] ≡ needs first_part top_makes
unfolding run walk
needs_5 = refl

end_5 : run small (forms without_end) 5 (form 1) top_work answers_1 ≡ ends (threw Steps) top_makes
unfolding run walk
end_5 = refl

abbrev followed_5 : (e : Name) → IsIn e among_5 → Followed small (forms without_end) 5 1 among_5 e
followed_5 _ here = record {
  w = top_work;
  a = answers_1;
  o = threw Steps;
  ms = top_makes;
  of = of_top_form 1;
  answers = one_more (of_top_form 1) (no_answer (of_top_form 1)) needs_5 (gives_first 1);
  end = end_5;
  asks = one_leads (leads_on (no_error 1) (there here)) none_leads;
  futures = λ j t p. absurd (one_lazy _ _ j t p);
}
followed_5 _ (there here) = followed_first 1 among_5
followed_5 _ (there (there i)) = elim i [ ]

these_5 : {x : Name} → Demand small (forms without_end) 5 1 x → IsIn x among_5
these_5 = demanded_among small (forms without_end) 5 1 among_5 only_form followed_5

abbrev parts_5 : List Name
parts_5 = first_part ∷ second_part ∷ []

made_5 : (e : Name) (i : IsIn e among_5) (j : ℕ) (m : Made Name) → slice_get (followed_5 e i).ms j ≡ Some m → IsIn (part e (suc j)) parts_5
made_5 _ here zero m p = here
made_5 _ here (suc j) m p = absurd cc
made_5 _ (there here) zero m p = there here
made_5 _ (there here) (suc j) m p = absurd cc
made_5 _ (there (there i)) j m p = elim i [ ]

demand_first : (n : ℕ) → Demand small (forms without_end) (limit n) 1 first_part
unfolding run walk
demand_first n = demands_need (demands_form (omega arith)) (of_top_form n) (no_answer (of_top_form n)) refl (no_error n)

are_made_5 : (x : Name) → IsIn x parts_5 → MadeBy small (forms without_end) 5 1 x
unfolding run walk
are_made_5 _ here = made_by {j = 0} (demands_form (omega arith)) (of_top_form 1) (no_answer (of_top_form 1)) refl
are_made_5 _ (there here) = made_by {j = 0} (demand_first 1) (of_first 1) (no_answer (of_first 1)) refl
are_made_5 _ (there (there i)) = elim i [ ]

are_realised_5 : (x : Name) → IsIn x (first_part ∷ []) → Realised small (forms without_end) 5 1 x
are_realised_5 _ here = realised (demand_first 1) (gives_first 1)
are_realised_5 _ (there i) = elim i [ ]

realised_5 : (x : Name) → Realised small (forms without_end) 5 1 x → IsIn x (first_part ∷ [])
realised_5 _ (realised d g) = behind_form (these_5 d)

first_gives_5 : (x : Name) → IsIn x (first_part ∷ []) → (v : Value Name) × Gives small (forms without_end) 5 x (gave v)
first_gives_5 _ here = (_, gives_first 1)
first_gives_5 _ (there i) = elim i [ ]

failed_5 : (x : Name) → Failed small (forms without_end) 5 1 x → IsIn x []
failed_5 _ (failed_part d g) = absurd (not_failed 1 among_5 (first_gives_5 _ (behind_form (these_5 d))).1 g)
failed_5 _ (failed_retry d g) = absurd (no_retry_1 (these_5 d))

none_in_5 : (x : Name) → IsIn x [] → Failed small (forms without_end) 5 1 x
none_in_5 x i = elim i [ ]

totals_5 : Totals without_end 5 1 2 1 0
totals_5 = (
  has_size parts_5 (distinct parts_5 refl) are_made_5 (λ x m. made_among small (forms without_end) 5 1 among_5 only_form followed_5 parts_5 made_5 m) refl,
  has_size (first_part ∷ []) (distinct (first_part ∷ []) refl) are_realised_5 realised_5 refl,
  has_size [] (distinct [] refl) none_in_5 failed_5 refl,
)

-- With six steps:
abbrev among_6 : List Name
among_6 = form 1 ∷ first_part ∷ second_part ∷ []

needs_6 : run small (forms without_end) 6 (form 1) top_work [] ≡ needs first_part top_makes
unfolding run walk
needs_6 = refl

needs_6_more : run small (forms without_end) 6 (form 1) top_work answers_1 ≡ needs second_part top_makes
unfolding run walk
needs_6_more = refl

end_6 : run small (forms without_end) 6 (form 1) top_work answers_2 ≡ ends (threw Steps) top_makes
unfolding run walk
end_6 = refl

abbrev followed_6 : (e : Name) → IsIn e among_6 → Followed small (forms without_end) 6 1 among_6 e
followed_6 _ here = record {
  w = top_work;
  a = answers_2;
  o = threw Steps;
  ms = top_makes;
  of = of_top_form 2;
  answers = one_more (of_top_form 2) (one_more (of_top_form 2) (no_answer (of_top_form 2)) needs_6 (gives_first 2)) needs_6_more (gives_second 2);
  end = end_6;
  asks = one_leads (leads_on (no_second_error 2) (there (there here))) (one_leads (leads_on (no_error 2) (there here)) none_leads);
  futures = λ j t p. absurd (one_lazy _ _ j t p);
}
followed_6 _ (there here) = followed_first 2 among_6
followed_6 _ (there (there here)) = followed_second 2 among_6
followed_6 _ (there (there (there i))) = elim i [ ]

these_6 : {x : Name} → Demand small (forms without_end) 6 1 x → IsIn x among_6
these_6 = demanded_among small (forms without_end) 6 1 among_6 only_form followed_6

abbrev parts_6 : List Name
parts_6 = first_part ∷ second_part ∷ part second_part 1 ∷ []

abbrev given_6 : List Name
given_6 = first_part ∷ second_part ∷ []

made_6 : (e : Name) (i : IsIn e among_6) (j : ℕ) (m : Made Name) → slice_get (followed_6 e i).ms j ≡ Some m → IsIn (part e (suc j)) parts_6
made_6 _ here zero m p = here
made_6 _ here (suc j) m p = absurd cc
made_6 _ (there here) zero m p = there here
made_6 _ (there here) (suc j) m p = absurd cc
made_6 _ (there (there here)) zero m p = there (there here)
made_6 _ (there (there here)) (suc j) m p = absurd cc
made_6 _ (there (there (there i))) j m p = elim i [ ]

demand_second : Demand small (forms without_end) 6 1 second_part
unfolding run walk
demand_second = demands_need (demands_form (omega arith)) (of_top_form 2) (true_first 2) refl (no_second_error 2)

are_made_6 : (x : Name) → IsIn x parts_6 → MadeBy small (forms without_end) 6 1 x
unfolding run walk
are_made_6 _ here = made_by {j = 0} (demands_form (omega arith)) (of_top_form 2) (no_answer (of_top_form 2)) refl
are_made_6 _ (there here) = made_by {j = 0} (demand_first 2) (of_first 2) (no_answer (of_first 2)) refl
are_made_6 _ (there (there here)) = made_by {j = 0} demand_second (of_second 2) (no_answer (of_second 2)) refl
are_made_6 _ (there (there (there i))) = elim i [ ]

are_realised_6 : (x : Name) → IsIn x given_6 → Realised small (forms without_end) 6 1 x
are_realised_6 _ here = realised (demand_first 2) (gives_first 2)
are_realised_6 _ (there here) = realised demand_second (gives_second 2)
are_realised_6 _ (there (there i)) = elim i [ ]

realised_6 : (x : Name) → Realised small (forms without_end) 6 1 x → IsIn x given_6
realised_6 _ (realised d g) = behind_form (these_6 d)

gives_6 : (x : Name) → IsIn x given_6 → (v : Value Name) × Gives small (forms without_end) 6 x (gave v)
gives_6 _ here = (_, gives_first 2)
gives_6 _ (there here) = (_, gives_second 2)
gives_6 _ (there (there i)) = elim i [ ]

failed_6 : (x : Name) → Failed small (forms without_end) 6 1 x → IsIn x []
failed_6 _ (failed_part d g) = absurd (not_failed 2 among_6 (gives_6 _ (behind_form (these_6 d))).1 g)
failed_6 _ (failed_retry d g) = absurd (no_retry_2 (these_6 d))

none_in_6 : (x : Name) → IsIn x [] → Failed small (forms without_end) 6 1 x
none_in_6 x i = elim i [ ]

totals_6 : Totals without_end 6 1 3 2 0
totals_6 = (
  has_size parts_6 (distinct parts_6 refl) are_made_6 (λ x m. made_among small (forms without_end) 6 1 among_6 only_form followed_6 parts_6 made_6 m) refl,
  has_size given_6 (distinct given_6 refl) are_realised_6 realised_6 refl,
  has_size [] (distinct [] refl) none_in_6 failed_6 refl,
)

pub without_end_throws : WithoutEnd
without_end_throws = (six_steps, totals_6, five_steps, totals_5)

-- A lazy part that fails and is asked twice, by computation.
use Rattle.std.proofs.Common.{◌≡◌, ℕ, zero, suc, ◌<◌, List, [], ◌∷◌, Some, slice_get, codes, refl, arith}
use Rattle.seq_base.specs.declared.thrown.Thrown.TheVariants.{BadType}
use Rattle.seq_values.specs.declared.words.Kind.TheVariants.{Lazy}
use Rattle.seq_values.specs.declared.words.Op.TheVariants as O
use Rattle.seq_values.specs.Model.{nil, keyword, vector, cell, no_values, ◌&◌, gave, threw}
use Rattle.seq_meaning.specs.Walk.{Made, needs, ends, walk}
use Rattle.seq_meaning.specs.Names.{Name, form, part, retry}
use Rattle.seq_meaning.specs.Gives.{Work, work, of_form, run, Of, of_top, of_part, of_retry, Part, part_of, no_answer, one_more, Gives, gives, Before, none_before, def_before, other_before, prn_none}
use Rattle.seq_meaning.specs.Counts.{FailsLazily, fails_lazily, Demand, demands_form, demands_retry, MadeBy, made_by, Realised, realised, Failed, failed_part, failed_retry, IsIn, here, there, has_size}
use Rattle.seq_meaning.specs.SmallTable.{small}
use Rattle.seq_meaning.specs.Worked.{forms, Throws, Totals, def_form, first_form, asked_twice, AskedTwice}
use Rattle.seq_meaning.proofs.Closing.{leads_back, none_leads, one_leads, Followed, demanded_among, made_among}
use Rattle.seq_meaning.proofs.NameTests.{distinct}
use Rattle.seq_meaning.proofs.Worked.{past, from_past, part_work, inc_word, lazily, one_lazy, none_made}

abbrev q : Name
q = part (form 1) 1

abbrev q_work : Work
q_work = part_work O.Map (inc_word ∷ vector (keyword (codes "a") & no_values) ∷ [])

abbrev second_work : Work
second_work = work (cell q ∷ []) (of_form first_form)

abbrev third_work : Work
third_work = work (cell q ∷ nil ∷ []) (of_form first_form)

-- what the forms demand, and the attempts that fail
abbrev attempts : List Name
attempts = retry (form 2) ∷ retry (form 3) ∷ []

abbrev among : List Name
among = form 1 ∷ form 2 ∷ form 3 ∷ attempts

behind_forms : {e : Name} → IsIn (retry e) among → IsIn (retry e) attempts
behind_forms (there (there (there i))) = i

abbrev def_makes : List (Made Name)
def_makes = lazily O.Map (inc_word ∷ vector (keyword (codes "a") & no_values) ∷ []) ∷ []

-- With one step or more, `q` is defined.
module _ (n : ℕ) where
  abbrev some : ℕ
  some = past 1 n

  of_def : Of small (forms asked_twice) some (form 1) (work [] (of_form def_form))
  of_def = of_top none_before refl

  gives_def : Gives small (forms asked_twice) some (form 1) (gave (cell q))
  unfolding run walk
  gives_def = from_one n
    where
      from_one : (n : ℕ) → Gives small (forms asked_twice) (past 1 n) (form 1) (gave (cell q))
      from_one zero = gives (of_top none_before refl) (no_answer (of_top none_before refl)) refl
      from_one (suc n) = gives (of_top none_before refl) (no_answer (of_top none_before refl)) refl

  before_second : Before small (forms asked_twice) some 1 (cell q ∷ [])
  before_second = def_before none_before refl gives_def refl

  of_second : Of small (forms asked_twice) some (form 2) second_work
  of_second = of_top before_second refl

  of_third : Of small (forms asked_twice) some (form 3) third_work
  of_third = of_top (other_before before_second refl prn_none refl) refl

-- With two steps or more, the second and the third form ask it.
module _ (n : ℕ) where
  abbrev limit : ℕ
  limit = past 2 n

  part_q : Part small (forms asked_twice) limit q Lazy q_work
  unfolding run walk
  part_q = part_of (of_def (suc n)) (no_answer (of_def (suc n))) refl

  gives_q : Gives small (forms asked_twice) limit q (threw BadType)
  unfolding run walk
  gives_q = gives (of_part part_q) (no_answer (of_part part_q)) refl

  fails : FailsLazily small (forms asked_twice) limit 3 q
  fails = fails_lazily part_q gives_q

  gives_second : Throws asked_twice limit (form 2) BadType
  unfolding run walk
  gives_second = gives (of_second (suc n)) (one_more (of_second (suc n)) (no_answer (of_second (suc n))) refl gives_q) refl

  gives_third : Throws asked_twice limit (form 3) BadType
  unfolding run walk
  gives_third = gives (of_third (suc n)) (one_more (of_third (suc n)) (no_answer (of_third (suc n))) refl gives_q) refl

  of_second_retry : Of small (forms asked_twice) limit (retry (form 2)) q_work
  unfolding run walk
  of_second_retry = of_retry (of_second (suc n)) (no_answer (of_second (suc n))) refl part_q gives_q

  of_third_retry : Of small (forms asked_twice) limit (retry (form 3)) q_work
  unfolding run walk
  of_third_retry = of_retry (of_third (suc n)) (no_answer (of_third (suc n))) refl part_q gives_q

  second_fails : Failed small (forms asked_twice) limit 3 (retry (form 2))
  unfolding run walk
  second_fails = failed_retry (demands_retry (demands_form (omega arith)) (of_second (suc n)) (no_answer (of_second (suc n))) refl fails) (gives of_second_retry (no_answer of_second_retry) refl)

  third_fails : Failed small (forms asked_twice) limit 3 (retry (form 3))
  unfolding run walk
  third_fails = failed_retry (demands_retry (demands_form (omega arith)) (of_third (suc n)) (no_answer (of_third (suc n))) refl fails) (gives of_third_retry (no_answer of_third_retry) refl)

  abbrev FollowedHere : Name → Type 0
  FollowedHere e = Followed small (forms asked_twice) limit 3 among e

  demand_second : Demand small (forms asked_twice) limit 3 (form 2)
  demand_second = demands_form (omega arith)

  end_def : run small (forms asked_twice) limit (form 1) (work [] (of_form def_form)) [] ≡ ends (gave (cell q)) def_makes
  unfolding run walk
  end_def = refl

  abbrev followed_def : FollowedHere (form 1)
  followed_def = record {
    w = work [] (of_form def_form);
    a = [];
    o = gave (cell q);
    ms = def_makes;
    of = of_def (suc n);
    answers = no_answer (of_def (suc n));
    end = end_def;
    asks = none_leads;
    futures = λ j t p. absurd (one_lazy _ _ j t p);
  }

  needs_second : run small (forms asked_twice) limit (form 2) second_work [] ≡ needs q []
  unfolding run walk
  needs_second = refl

  end_second : run small (forms asked_twice) limit (form 2) second_work (threw BadType ∷ []) ≡ ends (threw BadType) []
  unfolding run walk
  end_second = refl

  abbrev followed_second : FollowedHere (form 2)
  followed_second = record {
    w = second_work;
    a = threw BadType ∷ [];
    o = threw BadType;
    ms = [];
    of = of_second (suc n);
    answers = one_more (of_second (suc n)) (no_answer (of_second (suc n))) needs_second gives_q;
    end = end_second;
    asks = one_leads (leads_back fails (there (there (there here)))) none_leads;
    futures = λ j t p. absurd (none_made j _ p);
  }

  needs_third : run small (forms asked_twice) limit (form 3) third_work [] ≡ needs q []
  unfolding run walk
  needs_third = refl

  end_third : run small (forms asked_twice) limit (form 3) third_work (threw BadType ∷ []) ≡ ends (threw BadType) []
  unfolding run walk
  end_third = refl

  abbrev followed_third : FollowedHere (form 3)
  followed_third = record {
    w = third_work;
    a = threw BadType ∷ [];
    o = threw BadType;
    ms = [];
    of = of_third (suc n);
    answers = one_more (of_third (suc n)) (no_answer (of_third (suc n))) needs_third gives_q;
    end = end_third;
    asks = one_leads (leads_back fails (there (there (there (there here))))) none_leads;
    futures = λ j t p. absurd (none_made j _ p);
  }

  end_attempt : (e : Name) → run small (forms asked_twice) limit e q_work [] ≡ ends (threw BadType) []
  unfolding run walk
  end_attempt e = refl

  abbrev followed_attempt : (e : Name) → Of small (forms asked_twice) limit e q_work → FollowedHere e
  followed_attempt e of = record {
    w = q_work;
    a = [];
    o = threw BadType;
    ms = [];
    of = of;
    answers = no_answer of;
    end = end_attempt e;
    asks = none_leads;
    futures = λ j t p. absurd (none_made j _ p);
  }

  abbrev followed : (e : Name) → IsIn e among → FollowedHere e
  followed _ here = followed_def
  followed _ (there here) = followed_second
  followed _ (there (there here)) = followed_third
  followed _ (there (there (there here))) = followed_attempt (retry (form 2)) of_second_retry
  followed _ (there (there (there (there here)))) = followed_attempt (retry (form 3)) of_third_retry
  followed _ (there (there (there (there (there i))))) = elim i [ ]

  only_forms : (i : ℕ) → i < 3 → IsIn (form (suc i)) among
  only_forms zero h = here
  only_forms (suc zero) h = there here
  only_forms (suc (suc zero)) h = there (there here)
  only_forms (suc (suc (suc i))) h = absurd (omega arith)

  among_these : {x : Name} → Demand small (forms asked_twice) limit 3 x → IsIn x among
  among_these = demanded_among small (forms asked_twice) limit 3 among only_forms followed

  part_made : (e : Name) (i : IsIn e among) (j : ℕ) (m : Made Name) → slice_get (followed e i).ms j ≡ Some m → IsIn (part e (suc j)) (q ∷ [])
  part_made _ here zero m p = here
  part_made _ here (suc j) m p = absurd cc
  part_made _ (there here) j m p = absurd (none_made j m p)
  part_made _ (there (there here)) j m p = absurd (none_made j m p)
  part_made _ (there (there (there here))) j m p = absurd (none_made j m p)
  part_made _ (there (there (there (there here)))) j m p = absurd (none_made j m p)
  part_made _ (there (there (there (there (there i))))) j m p = elim i [ ]

  are_made : (x : Name) → IsIn x (q ∷ []) → MadeBy small (forms asked_twice) limit 3 x
  unfolding run walk
  are_made _ here = made_by {j = 0} (demands_form (omega arith)) (of_def (suc n)) (no_answer (of_def (suc n))) refl
  are_made _ (there i) = elim i [ ]

  no_part : {e : Name} {j : ℕ} → ¬ (IsIn (part e j) among)
  no_part (there (there (there (there (there i))))) = elim i [ ]

  none_realised : (x : Name) → Realised small (forms asked_twice) limit 3 x → IsIn x []
  none_realised _ (realised d g) = absurd (no_part (among_these d))

  none_in : (x : Name) → IsIn x [] → Realised small (forms asked_twice) limit 3 x
  none_in x i = elim i [ ]

  are_failed : (x : Name) → IsIn x attempts → Failed small (forms asked_twice) limit 3 x
  are_failed _ here = second_fails
  are_failed _ (there here) = third_fails
  are_failed _ (there (there i)) = elim i [ ]

  failed_these : (x : Name) → Failed small (forms asked_twice) limit 3 x → IsIn x attempts
  failed_these _ (failed_part d g) = absurd (no_part (among_these d))
  failed_these _ (failed_retry d g) = behind_forms (among_these d)

  totals : Totals asked_twice limit 3 1 0 2
  totals = (
    has_size (q ∷ []) (distinct (q ∷ []) refl) are_made (λ x m. made_among small (forms asked_twice) limit 3 among only_forms followed (q ∷ []) part_made m) refl,
    has_size [] (distinct [] refl) none_in none_realised refl,
    has_size attempts (distinct attempts refl) are_failed failed_these refl,
  )

pub asked_twice_fails_twice : AskedTwice
unfolding run walk
asked_twice_fails_twice = (
  λ limit h. from_past (λ l. Throws asked_twice l (form 2) BadType × Throws asked_twice l (form 3) BadType × Failed small (forms asked_twice) l 3 (retry (form 2)) × Failed small (forms asked_twice) l 3 (retry (form 3)) × Totals asked_twice l 3 1 0 2) 2 limit h
      (λ n. (gives_second n, gives_third n, second_fails n, third_fails n, totals n)),
  gives (of_second 0) (no_answer (of_second 0)) refl,
  gives (of_third 0) (no_answer (of_third 0)) refl,
)

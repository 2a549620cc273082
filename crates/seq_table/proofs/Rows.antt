-- The totals of a script, from a list of the evaluations that it demands: a row for each, which is followed to its end and is demanded.
use Rattle.std.proofs.Common.{◌≡◌, ℕ, zero, suc, ◌<◌, List, [], ◌∷◌, ◌++◌, length, Some, slice_get, refl, ◌⊎◌, inl, inr, true}
use Rattle.seq_values.specs.Model.{Outcome, gave, threw}
use Rattle.clj_script.specs.Trees.{Program}
use Rattle.seq_plan.specs.Plan.{Rules}
use Rattle.seq_meaning.specs.Walk.{Made}
use Rattle.seq_meaning.specs.Names.{Name, form, part, retry}
use Rattle.seq_meaning.specs.Gives.{Gives, gives}
use Rattle.seq_meaning.specs.Counts.{Demand, MadeBy, made_by, Realised, realised, Failed, failed_part, failed_retry, IsIn, here, there, HasSize, has_size}
use Rattle.seq_meaning.proofs.Once.{one_gives}
use Rattle.seq_meaning.proofs.Closing.{Followed, demanded_among, made_among}
use Rattle.seq_meaning.proofs.NameTests.{no_repeats, distinct}

-- a member of two lists end to end
in_either : {A : Type 0} {x : A} (xs ys : List A) → IsIn x (xs ++ ys) → IsIn x xs ⊎ IsIn x ys
in_either [] ys i = inr i
in_either (y ∷ xs) ys here = inl here
in_either (y ∷ xs) ys (there i) = elim (in_either xs ys i) [ inl j ↦ inl (there j) | inr j ↦ inr j ]

in_left : {A : Type 0} {x : A} {xs : List A} (ys : List A) → IsIn x xs → IsIn x (xs ++ ys)
in_left ys here = here
in_left ys (there i) = there (in_left ys i)

in_right : {A : Type 0} {x : A} (xs : List A) {ys : List A} → IsIn x ys → IsIn x (xs ++ ys)
in_right [] i = i
in_right (y ∷ xs) i = there (in_right xs i)

-- what these makes are called, by the name of the j-th
abbrev pub called_by : (ℕ → Name) → List (Made Name) → List Name
called_by f [] = []
called_by f (m ∷ ms) = f zero ∷ called_by (λ j. f (suc j)) ms

make_in : (f : ℕ → Name) (ms : List (Made Name)) (j : ℕ) (m : Made Name) → slice_get ms j ≡ Some m → IsIn (f j) (called_by f ms)
make_in f [] j m p = absurd cc
make_in f (x ∷ ms) zero m p = here
make_in f (x ∷ ms) (suc j) m p = there (make_in (λ j. f (suc j)) ms j m p)

each_make : (f : ℕ → Name) (ms : List (Made Name)) (P : Name → Type 0) → ((j : ℕ) (m : Made Name) → slice_get ms j ≡ Some m → P (f j)) → {x : Name} → IsIn x (called_by f ms) → P x
each_make f [] P h i = elim i [ ]
each_make f (m ∷ ms) P h here = h zero m refl
each_make f (m ∷ ms) P h (there i) = each_make (λ j. f (suc j)) ms P (λ j n p. h (suc j) n p) i

-- the part, where it gave a value
abbrev pub given_of : Name → Outcome Name → List Name
given_of (part e j) (gave v) = part e j ∷ []
given_of _ _ = []

-- the evaluation, where it isn't a form's and threw
abbrev pub thrown_of : Name → Outcome Name → List Name
thrown_of (part e j) (threw x) = part e j ∷ []
thrown_of (retry e) (threw x) = retry e ∷ []
thrown_of _ _ = []

module _ (rules : Rules Name) (program : Program) (limit k : ℕ) (among : List Name) where
  pub record Row : Type 0 where
    pub name : Name
    pub followed : Followed rules program limit k among name
    pub demand : Demand rules program limit k name

  abbrev pub names_of : List Row → List Name
  names_of [] = []
  names_of (r ∷ rs) = r.name ∷ names_of rs

  abbrev pub parts_of : List Row → List Name
  parts_of [] = []
  parts_of (r ∷ rs) = called_by (λ j. part r.name (suc j)) r.followed.ms ++ parts_of rs

  abbrev pub given_in : List Row → List Name
  given_in [] = []
  given_in (r ∷ rs) = given_of r.name r.followed.o ++ given_in rs

  abbrev pub thrown_in : List Row → List Name
  thrown_in [] = []
  thrown_in (r ∷ rs) = thrown_of r.name r.followed.o ++ thrown_in rs

  followed_in : (rs : List Row) (e : Name) → IsIn e (names_of rs) → Followed rules program limit k among e
  followed_in [] e i = elim i [ ]
  followed_in (r ∷ rs) _ here = r.followed
  followed_in (r ∷ rs) e (there i) = followed_in rs e i

  outcome_of : {e : Name} (f : Followed rules program limit k among e) → Gives rules program limit e f.o
  outcome_of f = gives f.of f.answers f.end

  part_in : (rs : List Row) (e : Name) (i : IsIn e (names_of rs)) (j : ℕ) (m : Made Name) → slice_get (followed_in rs e i).ms j ≡ Some m → IsIn (part e (suc j)) (parts_of rs)
  unfolding followed_in
  part_in [] e i j m p = elim i [ ]
  part_in (r ∷ rs) _ here j m p = in_left (parts_of rs) (make_in (λ j. part r.name (suc j)) r.followed.ms j m p)
  part_in (r ∷ rs) e (there i) j m p = in_right (called_by (λ j. part r.name (suc j)) r.followed.ms) (part_in rs e i j m p)

  made_here : (r : Row) (j : ℕ) (m : Made Name) → slice_get r.followed.ms j ≡ Some m → MadeBy rules program limit k (part r.name (suc j))
  made_here r j m p =
      let f = r.followed in
      made_by {j = j} {m = m} r.demand f.of f.answers (rw (f.end) p)

  are_made : (rs : List Row) (x : Name) → IsIn x (parts_of rs) → MadeBy rules program limit k x
  are_made [] x i = elim i [ ]
  are_made (r ∷ rs) x i = elim (in_either (called_by (λ j. part r.name (suc j)) r.followed.ms) (parts_of rs) i) [
    | inl j ↦ each_make (λ j. part r.name (suc j)) r.followed.ms (MadeBy rules program limit k) (made_here r) j
    | inr j ↦ are_made rs x j
  ]

  given_here : (e : Name) (o : Outcome Name) → Demand rules program limit k e → Gives rules program limit e o → (x : Name) → IsIn x (given_of e o) → Realised rules program limit k x
  given_here (part e j) (gave v) d g x here = realised d g
  given_here (part e j) (gave v) d g x (there i) = elim i [ ]
  given_here (part e j) (threw y) d g x i = elim i [ ]
  given_here (form n) (gave v) d g x i = elim i [ ]
  given_here (form n) (threw y) d g x i = elim i [ ]
  given_here (retry e) (gave v) d g x i = elim i [ ]
  given_here (retry e) (threw y) d g x i = elim i [ ]

  are_given : (rs : List Row) (x : Name) → IsIn x (given_in rs) → Realised rules program limit k x
  are_given [] x i = elim i [ ]
  are_given (r ∷ rs) x i = elim (in_either (given_of r.name r.followed.o) (given_in rs) i) [
    | inl j ↦ given_here r.name r.followed.o r.demand (outcome_of r.followed) x j
    | inr j ↦ are_given rs x j
  ]

  thrown_here : (e : Name) (o : Outcome Name) → Demand rules program limit k e → Gives rules program limit e o → (x : Name) → IsIn x (thrown_of e o) → Failed rules program limit k x
  thrown_here (part e j) (threw y) d g x here = failed_part d g
  thrown_here (part e j) (threw y) d g x (there i) = elim i [ ]
  thrown_here (retry e) (threw y) d g x here = failed_retry d g
  thrown_here (retry e) (threw y) d g x (there i) = elim i [ ]
  thrown_here (part e j) (gave v) d g x i = elim i [ ]
  thrown_here (form n) (gave v) d g x i = elim i [ ]
  thrown_here (form n) (threw y) d g x i = elim i [ ]
  thrown_here (retry e) (gave v) d g x i = elim i [ ]

  are_thrown : (rs : List Row) (x : Name) → IsIn x (thrown_in rs) → Failed rules program limit k x
  are_thrown [] x i = elim i [ ]
  are_thrown (r ∷ rs) x i = elim (in_either (thrown_of r.name r.followed.o) (thrown_in rs) i) [
    | inl j ↦ thrown_here r.name r.followed.o r.demand (outcome_of r.followed) x j
    | inr j ↦ are_thrown rs x j
  ]

  -- what a row gives is what its evaluation gives
  in_given : (rs : List Row) (e : Name) (o : Outcome Name) → IsIn e (names_of rs) → Gives rules program limit e o → (x : Name) → IsIn x (given_of e o) → IsIn x (given_in rs)
  in_given [] e o i g x j = elim i [ ]
  in_given (r ∷ rs) _ o here g x j =
      let s : r.followed.o ≡ o = one_gives rules program limit (outcome_of r.followed) g in
      in_left (given_in rs) (rw s j)
  in_given (r ∷ rs) e o (there i) g x j = in_right (given_of r.name r.followed.o) (in_given rs e o i g x j)

  in_thrown : (rs : List Row) (e : Name) (o : Outcome Name) → IsIn e (names_of rs) → Gives rules program limit e o → (x : Name) → IsIn x (thrown_of e o) → IsIn x (thrown_in rs)
  in_thrown [] e o i g x j = elim i [ ]
  in_thrown (r ∷ rs) _ o here g x j =
      let s : r.followed.o ≡ o = one_gives rules program limit (outcome_of r.followed) g in
      in_left (thrown_in rs) (rw s j)
  in_thrown (r ∷ rs) e o (there i) g x j = in_right (thrown_of r.name r.followed.o) (in_thrown rs e o i g x j)

  module _ (rs : List Row) (of_forms : (i : ℕ) → i < k → IsIn (form (suc i)) among) (all : names_of rs ≡ among) where
    followed : (e : Name) → IsIn e among → Followed rules program limit k among e
    followed e i = followed_in rs e (rw all i)

    in_names : {x : Name} → Demand rules program limit k x → IsIn x (names_of rs)
    in_names d = rw all (demanded_among rules program limit k among of_forms followed d)

    only_made : (x : Name) → MadeBy rules program limit k x → IsIn x (parts_of rs)
    unfolding followed
    only_made x m = made_among rules program limit k among of_forms followed (parts_of rs) (λ e i j m p. part_in rs e (rw all i) j m p) m

    pub only_given : (x : Name) → Realised rules program limit k x → IsIn x (given_in rs)
    only_given _ (realised d g) = in_given rs _ _ (in_names d) g _ here

    only_thrown : (x : Name) → Failed rules program limit k x → IsIn x (thrown_in rs)
    only_thrown _ (failed_part d g) = in_thrown rs _ _ (in_names d) g _ here
    only_thrown _ (failed_retry d g) = in_thrown rs _ _ (in_names d) g _ here

    -- the three totals, where the lists have no repeats
    pub totals_of : {makes realises fails : ℕ} → no_repeats (parts_of rs) ≡ true → no_repeats (given_in rs) ≡ true → no_repeats (thrown_in rs) ≡ true → length (parts_of rs) ≡ makes → length (given_in rs) ≡ realises → length (thrown_in rs) ≡ fails → HasSize (MadeBy rules program limit k) makes × HasSize (Realised rules program limit k) realises × HasSize (Failed rules program limit k) fails
    totals_of p q r a b c = (
      has_size (parts_of rs) (distinct (parts_of rs) p) (are_made rs) only_made a,
      has_size (given_in rs) (distinct (given_in rs) q) (are_given rs) only_given b,
      has_size (thrown_in rs) (distinct (thrown_in rs) r) (are_thrown rs) only_thrown c,
    )

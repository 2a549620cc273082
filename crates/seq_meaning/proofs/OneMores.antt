-- One more answer: the walk goes on from where it stood, or an answer is left.
use Rattle.std.proofs.Common.{ℕ, zero, suc, List, [], ◌∷◌, ◌++◌, refl, ap}
use Rattle.seq_base.specs.declared.thrown.Thrown.TheVariants.{BadType, Steps}
use Rattle.seq_values.specs.Model.{Outcome, gave, threw}
use Rattle.seq_plan.specs.Plan.{Plan, visit, ask, seq, call, go, make, give, throw, then, ends_with, fails, visits, calls_for}
use Rattle.seq_plan.specs.Nodes.{now, asks_for, no_seq, found}
use Rattle.seq_meaning.specs.Evaluates.{Script, called}
use Rattle.seq_meaning.specs.Walk.{at_found, Made, made, Run, needs, ends, Due, enters, asks, also, finish, Rest, at_round, walk_by, meets_answer, spent, walk}
use Rattle.seq_meaning.specs.More.{OneMore, needs_next, ends_next, ends_at_once, left_one, left_more}

-- nothing is left
pub data InTime {C : Type 0} : Run C → Type 0 where
  in_need : {c : C} {ms : List (Made C)} → InTime (needs c ms)
  at_end : {o : Outcome C} {ms : List (Made C)} → InTime (ends o ms)

module _ {C : Type 0} where
  in_time-also : (m : Made C) {r : Run C} → InTime r → InTime (also m r)
  in_time-also m in_need = in_need
  in_time-also m at_end = at_end

  more-also : (m : Made C) {a : Outcome C} {r s : Run C} → OneMore a r s → OneMore a (also m r) (also m s)
  more-also m (needs_next xs e) = needs_next xs (ap (λ l. m ∷ l) e)
  more-also m (ends_next xs e) = ends_next xs (ap (λ l. m ∷ l) e)
  more-also m ends_at_once = ends_at_once
  more-also m left_one = left_one
  more-also m left_more = left_more

  more-finish : (o : Outcome C) (os : List (Outcome C)) (a : Outcome C) → OneMore a (finish o os) (finish o (os ++ a ∷ []))
  more-finish o [] a = left_one
  more-finish o (b ∷ os) a = left_more

  more-needed : (v : _) (c : C) {r : Run C} → InTime r → OneMore (gave v) (needs c []) r
  more-needed v c in_need = needs_next _ refl
  more-needed v c at_end = ends_next _ refl

-- what holds of a rest of a walk
abbrev pub Fresh : {C : Type 0} → Rest C → Type 0
Fresh {C = C} r = (j : ℕ) → InTime (r j [])

abbrev pub Grows : {C : Type 0} → Rest C → Type 0
Grows {C = C} r = (j : ℕ) (os : List (Outcome C)) (a : Outcome C) → OneMore a (r j os) (r j (os ++ a ∷ []))

module _ {C : Type 0} (script : Script C) (cell_of : ℕ → C) where
  fresh-walk_by : (due : Due C → Rest C) → ((d : Due C) → Fresh (due d)) → (p : Plan C) → Fresh (walk_by script cell_of due p)
  fresh-walk_by due hd (visit p) j = hd (enters p) j
  fresh-walk_by due hd (ask c k) j = hd (asks c k) j
  fresh-walk_by due hd (seq v k) j =
      elim (found v) as (λ f. InTime (at_found (λ w. walk_by script cell_of due (k w) j []) (λ c. due (asks c (λ w. seq w k)) j []) (finish (threw BadType) []) f)) [
        | now w ↦ fresh-walk_by due hd (k w) j
        | asks_for c ↦ hd (asks c (λ w. seq w k)) j
        | no_seq ↦ at_end
      ]
  fresh-walk_by due hd (call f xs k) j = hd (enters (then (called script f xs) k)) j
  fresh-walk_by due hd (go l xs k) j =
      elim (script.rules.on_loop l xs) as (λ r. InTime (at_round (λ v. walk_by script cell_of due (k v) j []) (λ e. finish (threw e) []) (λ p. due (enters (then p k)) j []) (λ f ys h. due (enters (then (called script f ys) (λ v. then (h v) k))) j []) r)) [
        | ends_with v ↦ fresh-walk_by due hd (k v) j
        | fails e ↦ at_end
        | visits p ↦ hd (enters (then p k)) j
        | calls_for f ys h ↦ hd (enters (then (called script f ys) (λ v. then (h v) k))) j
      ]
  fresh-walk_by due hd (make kind t k) j = in_time-also (made kind t) (fresh-walk_by due hd (k (cell_of j)) (suc j))
  fresh-walk_by due hd (give v) j = at_end
  fresh-walk_by due hd (throw e) j = at_end

  fresh-meets_answer : (on : Plan C → Rest C) → ((p : Plan C) → Fresh (on p)) → (d : Due C) → Fresh (meets_answer script cell_of on d)
  fresh-meets_answer on h (enters p) j = h p j
  fresh-meets_answer on h (asks c k) j = in_need

  -- a walk without answers leaves none
  pub fresh-walk : (n : ℕ) (p : Plan C) → Fresh (walk script cell_of n p)
  unfolding walk
  fresh-walk zero p = fresh-walk_by (spent script cell_of) (λ d j. at_end) p
  fresh-walk (suc n) p = fresh-walk_by (meets_answer script cell_of (walk script cell_of n)) (fresh-meets_answer (walk script cell_of n) (fresh-walk n)) p

  more-walk_by : (due : Due C → Rest C) → ((d : Due C) → Grows (due d)) → (p : Plan C) → Grows (walk_by script cell_of due p)
  more-walk_by due hd (visit p) j os a = hd (enters p) j os a
  more-walk_by due hd (ask c k) j os a = hd (asks c k) j os a
  more-walk_by due hd (seq v k) j os a =
      elim (found v) as (λ f. OneMore a
      (at_found (λ w. walk_by script cell_of due (k w) j os) (λ c. due (asks c (λ w. seq w k)) j os) (finish (threw BadType) os) f)
      (at_found (λ w. walk_by script cell_of due (k w) j (os ++ a ∷ [])) (λ c. due (asks c (λ w. seq w k)) j (os ++ a ∷ [])) (finish (threw BadType) (os ++ a ∷ [])) f)) [
        | now w ↦ more-walk_by due hd (k w) j os a
        | asks_for c ↦ hd (asks c (λ w. seq w k)) j os a
        | no_seq ↦ more-finish (threw BadType) os a
      ]
  more-walk_by due hd (call f xs k) j os a = hd (enters (then (called script f xs) k)) j os a
  more-walk_by due hd (go l xs k) j os a =
      elim (script.rules.on_loop l xs) as (λ r. OneMore a
      (at_round (λ v. walk_by script cell_of due (k v) j os) (λ e. finish (threw e) os) (λ p. due (enters (then p k)) j os) (λ f ys h. due (enters (then (called script f ys) (λ v. then (h v) k))) j os) r)
      (at_round (λ v. walk_by script cell_of due (k v) j (os ++ a ∷ [])) (λ e. finish (threw e) (os ++ a ∷ [])) (λ p. due (enters (then p k)) j (os ++ a ∷ [])) (λ f ys h. due (enters (then (called script f ys) (λ v. then (h v) k))) j (os ++ a ∷ [])) r)) [
        | ends_with v ↦ more-walk_by due hd (k v) j os a
        | fails e ↦ more-finish (threw e) os a
        | visits p ↦ hd (enters (then p k)) j os a
        | calls_for f ys h ↦ hd (enters (then (called script f ys) (λ v. then (h v) k))) j os a
      ]
  more-walk_by due hd (make kind t k) j os a = more-also (made kind t) (more-walk_by due hd (k (cell_of j)) (suc j) os a)
  more-walk_by due hd (give v) j os a = more-finish (gave v) os a
  more-walk_by due hd (throw e) j os a = more-finish (threw e) os a

  more-meets_answer : (on : Plan C → Rest C) → ((p : Plan C) → Fresh (on p)) → ((p : Plan C) → Grows (on p)) → (d : Due C) → Grows (meets_answer script cell_of on d)
  more-meets_answer on f h (enters p) j os a = h p j os a
  more-meets_answer on f h (asks c k) j [] (gave v) = more-needed v c (f (k v) j)
  more-meets_answer on f h (asks c k) j [] (threw e) = ends_at_once
  more-meets_answer on f h (asks c k) j (gave v ∷ os) a = h (k v) j os a
  more-meets_answer on f h (asks c k) j (threw e ∷ os) a = more-finish (threw e) os a

  pub more-walk : (n : ℕ) (p : Plan C) → Grows (walk script cell_of n p)
  unfolding walk
  more-walk zero p = more-walk_by (spent script cell_of) (λ d j os a. more-finish (threw Steps) os a) p
  more-walk (suc n) p = more-walk_by (meets_answer script cell_of (walk script cell_of n)) (more-meets_answer (walk script cell_of n) (fresh-walk n) (more-walk n)) p

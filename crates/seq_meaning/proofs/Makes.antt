-- Where a trail comes to a make, the walk on its answers makes that next.
use Rattle.std.proofs.Common.{◌≡◌, ℕ, zero, suc, List, [], ◌∷◌, ◌++◌, length, Some, slice_get, map, refl, ap, sym, subst, ◌∙◌, append-nil}
use Rattle.seq_base.specs.declared.thrown.Thrown.{Thrown}
use Rattle.seq_values.specs.declared.words.Kind.{Kind}
use Rattle.seq_values.specs.Model.{Value, Term, Outcome}
use Rattle.seq_plan.specs.Plan.{Plan, visit, ask, seq, call, go, make, give, throw, then, Round, ends_with, fails, visits, calls_for}
use Rattle.seq_plan.specs.Nodes.{Found, now, asks_for, no_seq, found}
use Rattle.seq_meaning.specs.Evaluates.{Script, called as entered_plan}
use Rattle.seq_meaning.specs.Reached.{also_all}
use Rattle.seq_meaning.specs.Trail.{Trail, answers_of, mades_of, Calls}
use Rattle.seq_meaning.specs.Walk.{Made, made, Run, needs, ends, over, makes_of, also, at_found, at_round, Due, enters, asks, Rest, walk_by, meets_answer, spent, walk}
use Rattle.seq_meaning.proofs.Trails.{trails}

-- a walk without more answers is not over
module _ {C : Type 0} (script : Script C) (cell_of : ℕ → C) where
  abbrev NotOver : Run C → Type 0
  NotOver r = r ≡ over → ⊥

  not_also : (m : Made C) (r : Run C) → NotOver r → NotOver (also m r)
  not_also m (needs c ms) h e = absurd cc
  not_also m (ends o ms) h e = absurd cc
  not_also m over h e = h refl

  at_round_not : {a : Value C → Run C} {b : Thrown → Run C} {f : Plan C → Run C} {g : Value C → List (Value C) → (Value C → Plan C) → Run C} → ((v : Value C) → NotOver (a v)) → ((e : Thrown) → NotOver (b e)) → ((p : Plan C) → NotOver (f p)) → ((h : Value C) (xs : List (Value C)) (k : Value C → Plan C) → NotOver (g h xs k)) → (r : Round C) → NotOver (at_round a b f g r)
  at_round_not x y z w (ends_with v) = x v
  at_round_not x y z w (fails e) = y e
  at_round_not x y z w (visits p) = z p
  at_round_not x y z w (calls_for h xs k) = w h xs k

  at_found_not : {f : Value C → Run C} {g : C → Run C} {x : Run C} → ((v : Value C) → NotOver (f v)) → ((c : C) → NotOver (g c)) → NotOver x → (r : Found C) → NotOver (at_found f g x r)
  at_found_not x y z (now v) = x v
  at_found_not x y z (asks_for c) = y c
  at_found_not x y z no_seq = z

  not_walk_by : (due : Due C → Rest C) → ((d : Due C) (j : ℕ) → NotOver (due d j [])) → (p : Plan C) (j : ℕ) → NotOver (walk_by script cell_of due p j [])
  not_walk_by due h (visit p) j e = h (enters p) j e
  not_walk_by due h (ask c k) j e = h (asks c k) j e
  not_walk_by due h (seq v k) j e = at_found_not (λ w. not_walk_by due h (k w) j) (λ c. h (asks c (λ w. seq w k)) j) (λ q. absurd cc) (found v) e
  not_walk_by due h (call f xs k) j e = h (enters (then (entered_plan script f xs) k)) j e
  not_walk_by due h (go l xs k) j e = at_round_not (λ v. not_walk_by due h (k v) j) (λ x q. absurd cc) (λ p. h (enters (then p k)) j) (λ f ys q. h (enters (then (entered_plan script f ys) (λ v. then (q v) k))) j) (script.rules.on_loop l xs) e
  not_walk_by due h (make kind t k) j e = not_also (made kind t) (walk_by script cell_of due (k (cell_of j)) (suc j) []) (not_walk_by due h (k (cell_of j)) (suc j)) e
  not_walk_by due h (give v) j e = absurd cc
  not_walk_by due h (throw x) j e = absurd cc

  not_answered : (on : Plan C → Rest C) → ((p : Plan C) (j : ℕ) → NotOver (on p j [])) → (d : Due C) (j : ℕ) → NotOver (meets_answer script cell_of on d j [])
  not_answered on h (enters p) j e = h p j e
  not_answered on h (asks c k) j e = absurd cc

  pub not_over : (n : ℕ) (p : Plan C) (j : ℕ) → NotOver (walk script cell_of n p j [])
  unfolding walk
  not_over zero p j = not_walk_by (spent script cell_of) (λ d j e. absurd cc) p j
  not_over (suc n) p j = not_walk_by (meets_answer script cell_of (walk script cell_of n)) (not_answered (walk script cell_of n) (not_over n)) p j

  all_needs : (c : C) (ms ns : List (Made C)) → also_all ms (needs c ns) ≡ needs c (ms ++ ns)
  all_needs c [] ns = refl
  all_needs c (m ∷ ms) ns = ap (also m) (all_needs c ms ns)

  all_ends : (o : Outcome C) (ms ns : List (Made C)) → also_all ms (ends o ns) ≡ ends o (ms ++ ns)
  all_ends o [] ns = refl
  all_ends o (m ∷ ms) ns = ap (also m) (all_ends o ms ns)

  makes_all : (ms : List (Made C)) (r : Run C) → NotOver r → makes_of (also_all ms r) ≡ ms ++ makes_of r
  makes_all ms (needs c ns) h = ap makes_of (all_needs c ms ns)
  makes_all ms (ends o ns) h = ap makes_of (all_ends o ms ns)
  makes_all ms over h = absurd (h refl)

at_map : {A B : Type 0} (f : A → B) (xs : List A) (y : B) (zs : List B) → slice_get (map f xs ++ y ∷ zs) (length xs) ≡ Some y
at_map f [] y zs = refl
at_map f (x ∷ xs) y zs = at_map f xs y zs

module _ {C : Type 0} (script : Script C) (cell_of : ℕ → C) where
  walk_make : (n j : ℕ) (kind : Kind) (t : Term C) (k : C → Plan C) → walk script cell_of n (make kind t k) j [] ≡ also (made kind t) (walk script cell_of n (k (cell_of j)) (suc j) [])
  unfolding walk
  walk_make zero j kind t k = refl
  walk_make (suc n) j kind t k = refl

  makes_also : (m : Made C) (r : Run C) → NotOver script cell_of r → makes_of (also m r) ≡ m ∷ makes_of r
  makes_also m (needs c ms) h = refl
  makes_also m (ends o ms) h = refl
  makes_also m over h = absurd (h refl)

  -- where a trail comes to a make, the walk on its answers makes that next
  pub trail_makes : (limit : ℕ) (whole : Plan C) (n : ℕ) (kind : Kind) (t : Term C) (k : C → Plan C) (asked : List (C × Outcome C)) (mades : List (C × Made C)) → Trail script limit whole n (make kind t k) asked mades → Calls cell_of mades → slice_get (makes_of (walk script cell_of limit whole 1 (answers_of asked))) (length mades) ≡ Some (made kind t)
  trail_makes limit whole n kind t k asked mades h c =
      let r = trails script cell_of limit whole n (make kind t k) asked mades h c in
      let e : walk script cell_of limit whole 1 (answers_of asked) ≡ also_all (mades_of mades) (walk script cell_of n (make kind t k) (suc (length mades)) []) = ap (λ l. walk script cell_of limit whole 1 l) (sym (append-nil (answers_of asked))) ∙ r.goes_on [] in
      let r2 = walk script cell_of n (k (cell_of (suc (length mades)))) (suc (suc (length mades))) [] in
      let h2 : NotOver script cell_of r2 = not_over script cell_of n (k (cell_of (suc (length mades)))) (suc (suc (length mades))) in
      let f : makes_of (walk script cell_of limit whole 1 (answers_of asked)) ≡ mades_of mades ++ (made kind t ∷ makes_of r2) = ap makes_of e ∙ (makes_all script cell_of (mades_of mades) (walk script cell_of n (make kind t k) (suc (length mades)) []) (not_over script cell_of n (make kind t k) (suc (length mades))) ∙ ap (λ l. mades_of mades ++ l) (ap makes_of (walk_make n (suc (length mades)) kind t k) ∙ makes_also (made kind t) r2 h2)) in
      subst (λ l. slice_get l (length mades) ≡ Some (made kind t)) (sym f) (at_map (λ x. x.1) mades (made kind t) (makes_of r2))

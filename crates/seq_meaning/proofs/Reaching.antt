-- The steps of a walk.
use Rattle.std.proofs.Common.{◌≡◌, ℕ, zero, suc, List, [], ◌∷◌, ◌++◌, refl, ap, sym, ◌∙◌, append_assoc, append-nil}
use Rattle.seq_base.specs.declared.thrown.Thrown.{Thrown}
use Rattle.seq_values.specs.declared.words.Kind.{Kind}
use Rattle.seq_values.specs.Model.{Value, Term, Outcome, gave, threw}
use Rattle.seq_plan.specs.Plan.{Plan, visit, ask, call, go, make, give, throw, then, plan_of, ends_with, fails, visits, calls_for, opened}
use Rattle.seq_meaning.specs.Evaluates.{Script, called}
use Rattle.seq_meaning.specs.Walk.{Made, made, Run, needs, ends, Due, enters, also, finish, Rest, at_round, walk_by, meets_answer, spent, walk}
use Rattle.seq_meaning.specs.Reached.{also_all, Reached}

module _ {C : Type 0} (script : Script C) (cell_of : ℕ → C) where
  -- a loop's round is walked in its place
  by-opened : (due : Due C → Rest C) (p : Plan C) (j : ℕ) (os : List (Outcome C)) → walk_by script cell_of due (opened script.rules.on_loop p) j os ≡ walk_by script cell_of due p j os
  by-opened due (go l xs k) j os =
      elim (script.rules.on_loop l xs) as (λ r. walk_by script cell_of due (then (plan_of r) k) j os ≡ at_round (λ v. walk_by script cell_of due (k v) j os) (λ e. finish (threw e) os) (λ p. due (enters (then p k)) j os) (λ f ys h. due (enters (then (called script f ys) (λ v. then (h v) k))) j os) r) [
        | ends_with v ↦ refl
        | fails e ↦ refl
        | visits p ↦ refl
        | calls_for f ys h ↦ refl
      ]
  by-opened due (visit p) j os = refl
  by-opened due _ j os = refl

  pub walk-opened : (n : ℕ) (p : Plan C) (j : ℕ) (os : List (Outcome C)) → walk script cell_of n (opened script.rules.on_loop p) j os ≡ walk script cell_of n p j os
  unfolding walk
  walk-opened zero p j os = by-opened (spent script cell_of) p j os
  walk-opened (suc n) p j os = by-opened (meets_answer script cell_of (walk script cell_of n)) p j os

  also_all-push : (ms : List (Made C)) (m : Made C) (r : Run C) → also_all (ms ++ m ∷ []) r ≡ also_all ms (also m r)
  also_all-push [] m r = refl
  also_all-push (x ∷ ms) m r = ap (also x) (also_all-push ms m r)

  module _ {limit : ℕ} {whole : Plan C} where
    pub begins : Reached script cell_of limit whole limit whole 1 [] []
    begins = record { goes_on = λ os. refl }

    module _ {n j : ℕ} {ms : List (Made C)} {a : List (Outcome C)} where
      pub at_opened : {p : Plan C} → Reached script cell_of limit whole n p j ms a → Reached script cell_of limit whole n (opened script.rules.on_loop p) j ms a
      at_opened {p = p} h = record { goes_on = λ os. h.goes_on os ∙ ap (also_all ms) (sym (walk-opened n p j os)) }

      pub after_visit : {p : Plan C} → Reached script cell_of limit whole (suc n) (visit p) j ms a → Reached script cell_of limit whole n p j ms a
      unfolding walk
      after_visit h = record { goes_on = h.goes_on }

      pub after_call : {f : Value C} {xs : List (Value C)} {k : Value C → Plan C} → Reached script cell_of limit whole (suc n) (call f xs k) j ms a → Reached script cell_of limit whole n (then (called script f xs) k) j ms a
      unfolding walk
      after_call h = record { goes_on = h.goes_on }

      pub after_make : {kind : Kind} {t : Term C} {k : C → Plan C} → Reached script cell_of limit whole n (make kind t k) j ms a → Reached script cell_of limit whole n (k (cell_of j)) (suc j) (ms ++ made kind t ∷ []) a
      unfolding walk
      after_make {kind = kind} {t = t} {k = k} h = record { goes_on = λ os. h.goes_on os ∙ ap (also_all ms) (by n os) ∙ sym (also_all-push ms (made kind t) _) }
        where
          by : (n : ℕ) (os : List (Outcome C)) → walk script cell_of n (make kind t k) j os ≡ also (made kind t) (walk script cell_of n (k (cell_of j)) (suc j) os)
          by zero os = refl
          by (suc n) os = refl

      pub after_answer : {c : C} {k : Value C → Plan C} → Reached script cell_of limit whole (suc n) (ask c k) j ms a → (v : Value C) → Reached script cell_of limit whole n (k v) j ms (a ++ gave v ∷ [])
      unfolding walk
      after_answer h v = record { goes_on = λ os. ap (λ l. walk script cell_of limit whole 1 l) (append_assoc a (gave v ∷ []) os) ∙ h.goes_on (gave v ∷ os) }

      -- what the answers so far lead to
      pub at_ask : {c : C} {k : Value C → Plan C} → Reached script cell_of limit whole (suc n) (ask c k) j ms a → walk script cell_of limit whole 1 a ≡ also_all ms (needs c [])
      unfolding walk
      at_ask h = ap (λ l. walk script cell_of limit whole 1 l) (sym (append-nil a)) ∙ h.goes_on []

      pub at_give : {v : Value C} → Reached script cell_of limit whole n (give v) j ms a → walk script cell_of limit whole 1 a ≡ also_all ms (ends (gave v) [])
      unfolding walk
      at_give {v = v} h = ap (λ l. walk script cell_of limit whole 1 l) (sym (append-nil a)) ∙ (h.goes_on [] ∙ ap (also_all ms) (by n))
        where
          by : (n : ℕ) → walk script cell_of n (give v) j [] ≡ ends (gave v) []
          by zero = refl
          by (suc n) = refl

      pub at_throw : {e : Thrown} → Reached script cell_of limit whole n (throw e) j ms a → walk script cell_of limit whole 1 a ≡ also_all ms (ends (threw e) [])
      unfolding walk
      at_throw {e = e} h = ap (λ l. walk script cell_of limit whole 1 l) (sym (append-nil a)) ∙ (h.goes_on [] ∙ ap (also_all ms) (by n))
        where
          by : (n : ℕ) → walk script cell_of n (throw e) j [] ≡ ends (threw e) []
          by zero = refl
          by (suc n) = refl

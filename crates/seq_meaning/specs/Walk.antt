-- The walk of a plan: the parts that it makes, and what it needs next or how it ends.
use Rattle.std.specs.Prelude.{ℕ, zero, suc, List, [], ◌∷◌}
use Rattle.seq_base.specs.declared.thrown.Thrown.{Thrown}
use Rattle.seq_base.specs.declared.thrown.Thrown.TheVariants.{BadType, Steps}
use Rattle.seq_values.specs.declared.words.Kind.{Kind}
use Rattle.seq_values.specs.Model.{Value, Term, Outcome, gave, threw}
use Rattle.seq_plan.specs.Plan.{Plan, visit, ask, seq, call, go, make, give, throw, then, Round, ends_with, fails, visits, calls_for}
use Rattle.seq_plan.specs.Nodes.{Found, now, asks_for, no_seq, found}
use Rattle.seq_meaning.specs.Evaluates.{Script, called}

-- a part that is made
pub data Made (C : Type 0) : Type 0 where
  made : Kind → Term C → Made C

pub data Run (C : Type 0) : Type 0 where
  -- the answers run out where this part is asked
  needs : C → List (Made C) → Run C
  -- the plan ends, and all answers are used
  ends : Outcome C → List (Made C) → Run C
  -- answers are left
  over : Run C

-- what an own step leads to
pub data Due (C : Type 0) : Type 0 where
  enters : Plan C → Due C
  asks : C → (Value C → Plan C) → Due C

module _ {C : Type 0} where
  abbrev pub makes_of : Run C → List (Made C)
  makes_of (needs c ms) = ms
  makes_of (ends o ms) = ms
  makes_of over = []

  -- a run with one more make before it
  abbrev pub also : Made C → Run C → Run C
  also m (needs c ms) = needs c (m ∷ ms)
  also m (ends o ms) = ends o (m ∷ ms)
  also m over = over

  -- an end, where no answer may be left
  abbrev pub finish : Outcome C → List (Outcome C) → Run C
  finish o [] = ends o []
  finish o (a ∷ more) = over

-- the three cases of a `seq`
abbrev pub at_found : {C X : Type 0} → (Value C → X) → (C → X) → X → Found C → X
at_found f g x (now v) = f v
at_found f g x (asks_for c) = g c
at_found f g x no_seq = x

-- the cases of a round
abbrev pub at_round : {C X : Type 0} → (Value C → X) → (Thrown → X) → (Plan C → X) → (Value C → List (Value C) → (Value C → Plan C) → X) → Round C → X
at_round a b f g (ends_with v) = a v
at_round a b f g (fails e) = b e
at_round a b f g (visits p) = f p
at_round a b f g (calls_for h xs k) = g h xs k

-- the rest of a walk, by the number of the next make and the answers that are left
abbrev pub Rest : Type 0 → Type 0
Rest C = ℕ → List (Outcome C) → Run C

module _ {C : Type 0} (script : Script C) (cell_of : ℕ → C) where
  -- The walk up to the next own step; `due` goes on after it. The j-th make is the part `cell_of j`.
  abbrev pub walk_by : (due : Due C → Rest C) → Plan C → Rest C
  walk_by due (visit p) j os = due (enters p) j os
  walk_by due (ask c k) j os = due (asks c k) j os
  walk_by due (seq v k) j os =
      at_found (λ w. walk_by due (k w) j os) (λ c. due (asks c (λ w. seq w k)) j os) (finish (threw BadType) os) (found v)
  walk_by due (call f xs k) j os = due (enters (then (called script f xs) k)) j os
  walk_by due (go l xs k) j os =
      at_round (λ v. walk_by due (k v) j os) (λ e. finish (threw e) os) (λ p. due (enters (then p k)) j os)
      (λ f ys h. due (enters (then (called script f ys) (λ v. then (h v) k))) j os) (script.rules.on_loop l xs)
  walk_by due (make kind t k) j os = also (made kind t) (walk_by due (k (cell_of j)) (suc j) os)
  walk_by due (give v) j os = finish (gave v) os
  walk_by due (throw e) j os = finish (threw e) os

  -- an ask meets the next answer; a thrown answer ends the walk with that error
  abbrev pub meets_answer : (Plan C → Rest C) → Due C → Rest C
  meets_answer on (enters p) j os = on p j os
  meets_answer on (asks c k) j [] = needs c []
  meets_answer on (asks c k) j (gave v ∷ os) = on (k v) j os
  meets_answer on (asks c k) j (threw e ∷ os) = finish (threw e) os

  -- a step is due, and none is left
  abbrev pub spent : Due C → Rest C
  spent d j os = finish (threw Steps) os

  -- the walk with so many own steps left
  unfoldable pub walk : ℕ → Plan C → Rest C
  walk zero = walk_by spent
  walk (suc n) = walk_by (meets_answer (walk n))

-- An evaluation that gives a value shows what its plan comes to.
use Rattle.std.proofs.Common.{◌≡◌, refl, ap, sym, subst, ◌∙◌, ℕ, zero, suc, List, [], ◌∷◌, ◌++◌, append_assoc, length, slice_get, arith, length-append}
use Rattle.seq_base.specs.declared.thrown.Thrown.{Thrown}
use Rattle.seq_base.specs.declared.thrown.Thrown.TheVariants.{BadType, Steps}
use Rattle.seq_values.specs.declared.words.Kind.{Kind}
use Rattle.seq_values.specs.Model.{Value, Term, Outcome, gave, threw}
use Rattle.clj_script.specs.Trees.{Program}
use Rattle.seq_plan.specs.Plan.{Plan, visit, ask, seq, call, go, make, give, throw, then, plan_of, Round, ends_with, fails, visits, calls_for, Rules}
use Rattle.seq_plan.specs.Nodes.{Found, now, asks_for, no_seq, found}
use Rattle.seq_meaning.specs.Evaluates.{called}
use Rattle.seq_meaning.specs.Walk.{Made, made, Run, needs, ends, over, makes_of, also, walk}
use Rattle.seq_meaning.specs.Names.{Name, part}
use Rattle.seq_meaning.specs.Gives.{in_order, Task, of_term, Work, work, script_of, task_plan, run, Of, of_part, Part, part_of, one_more, no_answer, Gives, gives}
use Rattle.seq_meaning.specs.Reached.{also_all, Reached}
use Rattle.seq_table.specs.World.{World, names_world, seq_now, seq_asked, Comes, comes_visit, comes_ask, comes_seq, comes_call, comes_go, comes_make, comes_give}
use Rattle.seq_meaning.proofs.Reaching.{begins, at_opened, after_visit, after_call, after_make, after_answer, at_give}
use Rattle.seq_meaning.proofs.Once.{one_gives}
use Rattle.seq_meaning.proofs.Makes.{not_over}
use Rattle.seq_table.proofs.NextMake.{make_here}
use Rattle.seq_table.proofs.TrueWalk.{TrueAt, run_at, run_next, no_throw, AnsweredBy, answered_by, answer_of, on-now, on-asks, on-told, on-thrown, on-spent, on-none, also_all-needs, also_all-ends}

module _ {C : Type 0} (w : World C) where
  -- a plan that goes on with another comes to something in between
  pub split : {ds : List (Value C)} (p : Plan C) {k : Value C → Plan C} {v : Value C} → Comes w ds (then p k) v → (y : Value C) × Comes w ds p y × Comes w ds (k y) v
  split (visit p) (comes_visit d) = let h = split p d in (h.0, comes_visit h.1, h.2)
  split (ask c q) (comes_ask {u = u} s d) = let h = split (q u) d in (h.0, comes_ask s h.1, h.2)
  split (seq x q) (comes_seq {s = u} s d) = let h = split (q u) d in (h.0, comes_seq s h.1, h.2)
  split (call f xs q) (comes_call {y = u} s d) = let h = split (q u) d in (h.0, comes_call s h.1, h.2)
  split (go l xs q) (comes_go {y = u} s d) = let h = split (q u) d in (h.0, comes_go s h.1, h.2)
  split (make kind t q) (comes_make {c = c} s d) = let h = split (q c) d in (h.0, comes_make s h.1, h.2)
  split (give y) d = (y, comes_give, d)
  split (throw e) d = elim d [ ]

module _ (rules : Rules Name) (program : Program) (limit : ℕ) (e : Name) (ds : List (Value Name)) (t : Task) (v : Value Name) (g : Gives rules program limit e (gave v)) where
  abbrev At : ℕ → Plan Name → ℕ → List (Made Name) → Type 0
  At n p j ms = TrueAt rules program limit e ds t n p j ms

  abbrev on : ℕ → Plan Name → ℕ → List (Outcome Name) → Run Name
  on = walk (script_of rules program limit ds) (λ j. part e j)

  abbrev here : World Name
  here = names_world rules program limit

  dead : {n j : ℕ} {p : Plan Name} {ms : List (Made Name)} (x : Thrown) → on n p j [] ≡ ends (threw x) [] → ¬ (At n p j ms)
  dead {ms = ms} x q h = no_throw rules program limit e ds t v g h.of h.«true» (run_at rules program limit e ds t h ∙ (ap (also_all ms) q ∙ also_all-ends ms [] (threw x)))

  spent-visit : (p : Plan Name) (j : ℕ) → on zero (visit p) j [] ≡ ends (threw Steps) []
  unfolding walk
  spent-visit p j = refl

  spent-call : (f : Value Name) (xs : List (Value Name)) (k : Value Name → Plan Name) (j : ℕ) → on zero (call f xs k) j [] ≡ ends (threw Steps) []
  unfolding walk
  spent-call f xs k j = refl

  spent-ask : (c : Name) (k : Value Name → Plan Name) (j : ℕ) → on zero (ask c k) j [] ≡ ends (threw Steps) []
  unfolding walk
  spent-ask c k j = refl

  needs-ask : (n : ℕ) (c : Name) (k : Value Name → Plan Name) (j : ℕ) → on (suc n) (ask c k) j [] ≡ needs c []
  unfolding walk
  needs-ask n c k j = refl

  thrown-ask : (n : ℕ) (c : Name) (k : Value Name → Plan Name) (j : ℕ) (x : Thrown) → on (suc n) (ask c k) j (threw x ∷ []) ≡ ends (threw x) []
  unfolding walk
  thrown-ask n c k j x = refl

  throws : (n : ℕ) (x : Thrown) (j : ℕ) → on n (throw x) j [] ≡ ends (threw x) []
  unfolding walk
  throws zero x j = refl
  throws (suc n) x j = refl

  makes : (n : ℕ) (kind : Kind) (u : Term Name) (k : Name → Plan Name) (j : ℕ) → (r : Run Name) × (on n (make kind u k) j [] ≡ also (made kind u) r) × (¬ (r ≡ over))
  unfolding walk
  makes n kind u k j = (on n (k (part e j)) (suc j) [], by n, not_over (script_of rules program limit ds) (λ j. part e j) n (k (part e j)) (suc j))
    where
      by : (n : ℕ) → on n (make kind u k) j [] ≡ also (made kind u) (on n (k (part e j)) (suc j) [])
      by zero = refl
      by (suc n) = refl

  data SeqStep (j : ℕ) (ms : List (Made Name)) (n : ℕ) (c : Value Name) (k : Value Name → Plan Name) : Type 0 where
    found_at : {s : Value Name} → found c ≡ now s → At n (k s) j ms → SeqStep j ms n c k
    asked_at : {m : ℕ} {b : Name} {u : Value Name} → n ≡ suc m → found c ≡ asks_for b → Gives rules program limit b (gave u) → At m (seq u k) j ms → SeqStep j ms n c k

  module _ {j : ℕ} {ms : List (Made Name)} where
    with_reached : {n n' j' : ℕ} {p p' : Plan Name} {ms' : List (Made Name)} (h : At n p j ms) → Reached (script_of rules program limit ds) (λ j. part e j) limit (task_plan rules program limit ds t) n' p' j' ms' (in_order h.answers) → At n' p' j' ms'
    with_reached h r = record { answers = h.answers; of = h.of; «true» = h.«true»; reached = r }

    visit_step : (n : ℕ) {p : Plan Name} → At n (visit p) j ms → (m : ℕ) × (n ≡ suc m) × At m p j ms
    visit_step zero {p = p} h = absurd (dead {n = zero} Steps (spent-visit p j) h)
    visit_step (suc n) h = (n, refl, with_reached h (after_visit (script_of rules program limit ds) (λ j. part e j) h.reached))

    call_step : (n : ℕ) {f : Value Name} {xs : List (Value Name)} {k : Value Name → Plan Name} → At n (call f xs k) j ms → (m : ℕ) × (n ≡ suc m) × At m (then (called (script_of rules program limit ds) f xs) k) j ms
    call_step zero {f = f} {xs = xs} {k = k} h = absurd (dead {n = zero} Steps (spent-call f xs k j) h)
    call_step (suc n) h = (n, refl, with_reached h (after_call (script_of rules program limit ds) (λ j. part e j) h.reached))

    answer_step : {n m : ℕ} {p : Plan Name} {c : Name} {u : Value Name} {p' : Plan Name} (h : At n p j ms) → run rules program limit e (work ds t) h.answers ≡ needs c (ms ++ []) → Gives rules program limit c (gave u) → Reached (script_of rules program limit ds) (λ j. part e j) limit (task_plan rules program limit ds t) m p' j ms (in_order (gave u ∷ h.answers)) → At m p' j ms
    answer_step {u = u} h q s r = record { answers = gave u ∷ h.answers; of = h.of; «true» = one_more h.of h.«true» q s; reached = r }

    ask_step : (n : ℕ) {c : Name} {k : Value Name → Plan Name} → At n (ask c k) j ms → (m : ℕ) × (n ≡ suc m) × (u : Value Name) × Gives rules program limit c (gave u) × At m (k u) j ms
    ask_step zero {c = c} {k = k} h = absurd (dead {n = zero} Steps (spent-ask c k j) h)
    ask_step (suc n) {c = c} {k = k} h = by (answer_of rules program limit e ds t v g h.of h.«true» need)
      where
        need : run rules program limit e (work ds t) h.answers ≡ needs c (ms ++ [])
        need = run_at rules program limit e ds t h ∙ (ap (also_all ms) (needs-ask n c k j) ∙ also_all-needs ms [] c)

        by : AnsweredBy rules program limit e ds t v g c h.answers → (m : ℕ) × (suc n ≡ suc m) × (u : Value Name) × Gives rules program limit c (gave u) × At m (k u) j ms
        by (answered_by (gave u) s) = (n, refl, u, s, answer_step h need s (after_answer (script_of rules program limit ds) (λ j. part e j) h.reached u))
        by (answered_by (threw x) s) = absurd (no_throw rules program limit e ds t v g h.of (one_more h.of h.«true» need s) (run_next rules program limit e ds t h (threw x) ∙ (ap (also_all ms) (thrown-ask n c k j x) ∙ also_all-ends ms [] (threw x))))

    seq_step : (n : ℕ) {c : Value Name} {k : Value Name → Plan Name} → At n (seq c k) j ms → SeqStep j ms n c k
    seq_step n {c = c} {k = k} h = go n (found c) refl h
      where
        go : (n : ℕ) (f : Found Name) → found c ≡ f → At n (seq c k) j ms → SeqStep j ms n c k
        go n (now s) q h = found_at q (with_reached h (record { goes_on = λ os. h.reached.goes_on os ∙ ap (also_all ms) (on-now rules program limit e ds t v g n c s k j os q) }))
        go n no_seq q h = absurd (dead {n = n} BadType (on-none rules program limit e ds t v g n c k j q) h)
        go zero (asks_for b) q h = absurd (dead {n = zero} Steps (on-spent rules program limit e ds t v g c b k j q) h)
        go (suc n) (asks_for b) q h = by (answer_of rules program limit e ds t v g h.of h.«true» need)
          where
            need : run rules program limit e (work ds t) h.answers ≡ needs b (ms ++ [])
            need = run_at rules program limit e ds t h ∙ (ap (also_all ms) (on-asks rules program limit e ds t v g n c b k j q) ∙ also_all-needs ms [] b)

            by : AnsweredBy rules program limit e ds t v g b h.answers → SeqStep j ms (suc n) c k
            by (answered_by (gave u) s) = asked_at refl q s (answer_step h need s (record { goes_on = λ os. ap (λ l. on limit (task_plan rules program limit ds t) 1 l) (append_assoc (in_order h.answers) (gave u ∷ []) os) ∙ (h.reached.goes_on (gave u ∷ os) ∙ ap (also_all ms) (on-told rules program limit e ds t v g n c u b k j os q)) }))
            by (answered_by (threw x) s) = absurd (no_throw rules program limit e ds t v g h.of (one_more h.of h.«true» need s) (run_next rules program limit e ds t h (threw x) ∙ (ap (also_all ms) (on-thrown rules program limit e ds t v g n c b x k j q) ∙ also_all-ends ms [] (threw x))))

    give_step : (n : ℕ) {u : Value Name} → At n (give u) j ms → u ≡ v
    unfolding run
    give_step n h = let q = one_gives rules program limit (gives h.of h.«true» (at_give (script_of rules program limit ds) (λ j. part e j) {n = n} h.reached ∙ also_all-ends ms [] _)) g in cc

    make_step : (n : ℕ) {kind : Kind} {u : Term Name} {k : Name → Plan Name} → j ≡ suc (length ms) → At n (make kind u k) j ms → Part rules program limit (part e j) kind (work ds (of_term u)) × At n (k (part e j)) (suc j) (ms ++ made kind u ∷ [])
    make_step n {kind = kind} {u = u} {k = k} q h =
        let m = makes n kind u k j in (
          subst (λ i. Part rules program limit (part e i) kind (work ds (of_term u))) (sym q) (part_of h.of h.«true» (ap (λ r. slice_get (makes_of r) (length ms)) (run_at rules program limit e ds t h ∙ ap (also_all ms) m.1) ∙ make_here ms (made kind u) m.0 m.2)),
          with_reached h (after_make (script_of rules program limit ds) (λ j. part e j) {n = n} h.reached),
        )

  abbrev After : ℕ → Type 0
  After n = (m : ℕ) → n ≡ suc m → (p : Plan Name) (j : ℕ) (ms : List (Made Name)) → j ≡ suc (length ms) → At m p j ms → Comes here ds p v

  -- the rest of the plan comes to the value, where it does so after an own step
  replay_by : (n : ℕ) → After n → (p : Plan Name) (j : ℕ) (ms : List (Made Name)) → j ≡ suc (length ms) → At n p j ms → Comes here ds p v
  replay_by n hv (visit p) j ms q h = let s = visit_step n h in comes_visit (hv s.0 s.1 p j ms q s.2)
  replay_by n hv (ask c k) j ms q h = let s = ask_step n h in comes_ask s.3 (hv s.0 s.1 (k s.2) j ms q s.4)
  replay_by n hv (seq c k) j ms q h = by (λ s. replay_by n hv (k s) j ms q) (seq_step n h)
    where
      asked : {b : Name} {u : Value Name} → found c ≡ asks_for b → Gives rules program limit b (gave u) → Comes here ds (seq u k) v → Comes here ds (seq c k) v
      asked f s (comes_seq r d) = comes_seq (seq_asked f s r) d

      by : ((s : Value Name) → At n (k s) j ms → Comes here ds (k s) v) → SeqStep j ms n c k → Comes here ds (seq c k) v
      by ih (found_at f h) = comes_seq (seq_now f) (ih _ h)
      by ih (asked_at {m = m} {u = u} r f s h) = asked f s (hv m r (seq u k) j ms q h)
  replay_by n hv (call f xs k) j ms q h =
      let s = call_step n h in
      let d = split here (called (script_of rules program limit ds) f xs) {k = k} (hv s.0 s.1 (then (called (script_of rules program limit ds) f xs) k) j ms q s.2) in
      comes_call d.1 d.2
  replay_by n hv (go l xs k) j ms q h = by (rules.on_loop l xs) refl (λ y. replay_by n hv (k y) j ms q) (with_reached h (at_opened (script_of rules program limit ds) (λ j. part e j) {n = n} h.reached))
    where
      by : (r : Round Name) → rules.on_loop l xs ≡ r → ((y : Value Name) → At n (k y) j ms → Comes here ds (k y) v) → At n (then (plan_of (rules.on_loop l xs)) k) j ms → Comes here ds (go l xs k) v
      by r p ih h = on r p ih (subst (λ r. At n (then (plan_of r) k) j ms) p h)
        where
          on : (r : Round Name) → rules.on_loop l xs ≡ r → ((y : Value Name) → At n (k y) j ms → Comes here ds (k y) v) → At n (then (plan_of r) k) j ms → Comes here ds (go l xs k) v
          on (ends_with y) p ih h = comes_go {y = y} (subst (λ r. Comes here ds (plan_of r) y) (sym p) comes_give) (ih y h)
          on (fails x) p ih h = absurd (dead {n = n} x (throws n x j) h)
          on (visits b) p ih h =
              let s = visit_step n h in
              let d = split here b {k = k} (hv s.0 s.1 (then b k) j ms q s.2) in
              comes_go {y = d.0} (subst (λ r. Comes here ds (plan_of r) d.0) (sym p) (comes_visit d.1)) d.2
          on (calls_for f ys b) p ih h =
              let s = call_step n h in
              let d = split here (called (script_of rules program limit ds) f ys) {k = λ y. then (b y) k} (hv s.0 s.1 (then (called (script_of rules program limit ds) f ys) (λ y. then (b y) k)) j ms q s.2) in
              let c = split here (b d.0) {k = k} d.2 in
              comes_go {y = c.0} (subst (λ r. Comes here ds (plan_of r) c.0) (sym p) (comes_call d.1 c.1)) c.2
  replay_by n hv (make kind u k) j ms q h =
      let s = make_step n q h in
      comes_make s.0 (replay_by n hv (k (part e j)) (suc j) (ms ++ made kind u ∷ []) (omega (arith, q, length-append ms (made kind u ∷ []))) s.1)
  replay_by n hv (give u) j ms q h = subst (λ x. Comes here ds (give u) x) (give_step n h) comes_give
  replay_by n hv (throw x) j ms q h = absurd (dead {n = n} x (throws n x j) h)

  replay : (n : ℕ) (p : Plan Name) (j : ℕ) (ms : List (Made Name)) → j ≡ suc (length ms) → At n p j ms → Comes here ds p v
  replay zero p j ms q h = replay_by zero (λ m z. absurd cc) p j ms q h
  replay (suc n) p j ms q h = replay_by (suc n) (λ m z p j ms q h. replay n p j ms q (subst (λ i. At i p j ms) (cc) h)) p j ms q h

  pub comes_of : Of rules program limit e (work ds t) → Comes here ds (task_plan rules program limit ds t) v
  comes_of of = replay limit (task_plan rules program limit ds t) 1 [] refl (record { answers = []; of = of; «true» = no_answer of; reached = begins (script_of rules program limit ds) (λ j. part e j) })

pub open_part : (rules : Rules Name) (program : Program) (limit : ℕ) {n : Name} {kind : Kind} {w : Work} → Part rules program limit n kind w → Of rules program limit n w
open_part rules program limit (part_of o t q) = of_part (part_of o t q)

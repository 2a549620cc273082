-- A trail in names, with answers that the asked parts give, has true answers.
use Rattle.std.proofs.Common.{◌≡◌, ℕ, suc, List, [], ◌∷◌, ◌++◌, refl, ap, sym, subst, ◌∙◌}
use Rattle.seq_values.specs.Model.{Value, Outcome, gave, threw}
use Rattle.clj_script.specs.Trees.{Program}
use Rattle.seq_plan.specs.Plan.{Plan, ask, Rules}
use Rattle.seq_meaning.specs.Walk.{Made, made, needs, walk}
use Rattle.seq_meaning.specs.Names.{Name, part}
use Rattle.seq_meaning.specs.Gives.{work, Task, in_order, script_of, task_plan, run, Of, True, no_answer, one_more, Gives}
use Rattle.seq_meaning.specs.Counts.{IsIn}
use Rattle.seq_meaning.specs.Trail.{Trail, starts, looped, visited, entered, at_once, sought, missed, tired, answered, refused, made_part, answers_of, mades_of, Calls}
use Rattle.seq_meaning.specs.TrueTrail.{AskedHere, asked_here, TrueSo}
use Rattle.seq_meaning.proofs.Trails.{fewer, map-push, trail_needs}
use Rattle.seq_meaning.proofs.TrailsAlike.{in_front, at_back}

module _ (rules : Rules Name) (program : Program) (limit : ℕ) {e : Name} {defs : List (Value Name)} {task : Task} (of : Of rules program limit e (work defs task)) where
  abbrev TrailHere : ℕ → Plan Name → List (Name × Outcome Name) → List (Name × Made Name) → Type 0
  TrailHere n p asked mades = Trail (script_of rules program limit defs) limit (task_plan rules program limit defs task) n p asked mades

  abbrev TrueHere : List (Name × Outcome Name) → Type 0
  TrueHere asked = TrueSo rules program limit e (work defs task) asked

  abbrev AllGive : List (Name × Outcome Name) → Type 0
  AllGive asked = (c : Name) (o : Outcome Name) → IsIn (c, o) asked → Gives rules program limit c o

  pub same_run : (a os : List (Outcome Name)) → in_order a ≡ os → run rules program limit e (work defs task) a ≡ walk (script_of rules program limit defs) (λ j. part e j) limit (task_plan rules program limit defs task) 1 os
  unfolding run
  same_run a os q = ap (λ l. walk (script_of rules program limit defs) (λ j. part e j) limit (task_plan rules program limit defs task) 1 l) q

  one_true : {n : ℕ} {c : Name} {k : Value Name → Plan Name} {asked : List (Name × Outcome Name)} {mades : List (Name × Made Name)} → TrailHere (suc n) (ask c k) asked mades → Calls (λ j. part e j) mades → TrueHere asked → (o : Outcome Name) → Gives rules program limit c o → TrueHere (asked ++ (c, o) ∷ [])
  one_true {c = c} {asked = asked} {mades = mades} t h s o g = record {
    answers = o ∷ s.answers;
    all_true = one_more of s.all_true here_needs g;
    order = ap (λ l. l ++ o ∷ []) s.order ∙ sym (map-push (λ x. x.1) asked (c, o));
    each = λ b u os q. at_split b u os q;
  }
    where
      here_needs : run rules program limit e (work defs task) s.answers ≡ needs c (mades_of mades)
      here_needs = same_run s.answers (answers_of asked) s.order ∙ trail_needs (script_of rules program limit defs) (λ j. part e j) limit (task_plan rules program limit defs task) _ _ _ _ _ t h

      front : {u : Outcome Name} {os : List (Outcome Name)} → AskedHere rules program limit e (work defs task) asked u os → AskedHere rules program limit e (work defs task) (asked ++ (c, o) ∷ []) u os
      front (asked_here r i) = asked_here r (in_front asked (c, o) i)

      at_split : (b : List (Outcome Name)) (u : Outcome Name) (os : List (Outcome Name)) → o ∷ s.answers ≡ b ++ u ∷ os → AskedHere rules program limit e (work defs task) (asked ++ (c, o) ∷ []) u os
      at_split [] u os q =
          let z : o ≡ u = cc in
          let y : s.answers ≡ os = cc in
          asked_here (subst (λ l. run rules program limit e (work defs task) l ≡ needs c (mades_of mades)) y here_needs) (subst (λ v. IsIn (c, v) (asked ++ (c, o) ∷ [])) z (at_back asked (c, o)))
      at_split (x ∷ b) u os q = let y : s.answers ≡ b ++ u ∷ os = cc in front (s.each b u os y)

  -- true answers, and which ask each of them came to
  pub true_so : {n : ℕ} {p : Plan Name} {asked : List (Name × Outcome Name)} {mades : List (Name × Made Name)} → TrailHere n p asked mades → Calls (λ j. part e j) mades → AllGive asked → TrueHere asked
  true_so starts h g = record { answers = []; all_true = no_answer of; order = refl; each = λ b o os q. none b o os q }
    where
      none : (b : List (Outcome Name)) (o : Outcome Name) (os : List (Outcome Name)) → [] ≡ b ++ o ∷ os → AskedHere rules program limit e (work defs task) [] o os
      none [] o os q = absurd cc
      none (x ∷ b) o os q = absurd cc
  true_so (looped t) h g = true_so t h g
  true_so (visited t) h g = true_so t h g
  true_so (entered t) h g = true_so t h g
  true_so (at_once t r) h g = true_so t h g
  true_so (sought t r) h g = true_so t h g
  true_so (missed t r) h g = true_so t h g
  true_so (tired t d) h g = true_so t h g
  true_so (answered {c = c} {asked = asked} t v) h g = one_true t h (true_so t h (λ d o i. g d o (in_front asked (c, gave v) i))) (gave v) (g c (gave v) (at_back asked (c, gave v)))
  true_so (refused {c = c} {asked = asked} t x) h g = one_true t h (true_so t h (λ d o i. g d o (in_front asked (c, threw x) i))) (threw x) (g c (threw x) (at_back asked (c, threw x)))
  true_so (made_part {kind = kind} {t = u} {mades = mades} t c) h g = true_so t (fewer (λ j. part e j) mades (c, made kind u) h) g

  pub true_trail : {n : ℕ} {p : Plan Name} {asked : List (Name × Outcome Name)} {mades : List (Name × Made Name)} → TrailHere n p asked mades → Calls (λ j. part e j) mades → AllGive asked → (a : List (Outcome Name)) × True rules program limit e a × (in_order a ≡ answers_of asked)
  true_trail t h g = let s = true_so t h g in (s.answers, s.all_true, s.order)

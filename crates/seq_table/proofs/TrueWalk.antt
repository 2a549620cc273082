-- The walk of an evaluation that gives a value, along its true answers.
use Rattle.std.proofs.Common.{◌≡◌, ℕ, zero, suc, List, [], ◌∷◌, ◌++◌, refl, ap, sym, subst, ◌∙◌, append-nil, append_assoc}
use Rattle.seq_base.specs.declared.thrown.Thrown.{Thrown}
use Rattle.seq_base.specs.declared.thrown.Thrown.TheVariants.{BadType, Steps}
use Rattle.seq_values.specs.Model.{Value, Outcome, gave, threw}
use Rattle.clj_script.specs.Trees.{Program}
use Rattle.seq_plan.specs.Plan.{Plan, seq, Rules}
use Rattle.seq_plan.specs.Nodes.{now, asks_for, no_seq, found}
use Rattle.seq_meaning.specs.Walk.{Made, needs, ends, also, Rest, walk}
use Rattle.seq_meaning.specs.Names.{Name, part}
use Rattle.seq_meaning.specs.Gives.{in_order, Task, work, script_of, task_plan, run, Of, True, Gives, gives}
use Rattle.seq_meaning.specs.Reached.{also_all, Reached}
use Rattle.seq_meaning.proofs.Once.{EndsIn, is_empty, has_last, ends_in, one_of, one_gives, within, at_answer, Answer, answer}

pub also_all-needs : {C : Type 0} (ms ns : List (Made C)) (c : C) → also_all ms (needs c ns) ≡ needs c (ms ++ ns)
also_all-needs [] ns c = refl
also_all-needs (m ∷ ms) ns c = ap (also m) (also_all-needs ms ns c)

pub also_all-ends : {C : Type 0} (ms ns : List (Made C)) (o : Outcome C) → also_all ms (ends o ns) ≡ ends o (ms ++ ns)
also_all-ends [] ns o = refl
also_all-ends (m ∷ ms) ns o = ap (also m) (also_all-ends ms ns o)

module _ (rules : Rules Name) (program : Program) (limit : ℕ) (e : Name) (ds : List (Value Name)) (t : Task) where
  abbrev pub on : ℕ → Plan Name → Rest Name
  on = walk (script_of rules program limit ds) (λ j. part e j)

  -- the evaluation has come so far with true answers
  pub record TrueAt (left : ℕ) (plan : Plan Name) (j : ℕ) (mades : List (Made Name)) : Type 0 where
    pub answers : List (Outcome Name)
    pub of : Of rules program limit e (work ds t)
    pub «true» : True rules program limit e answers
    pub reached : Reached (script_of rules program limit ds) (λ j. part e j) limit (task_plan rules program limit ds t) left plan j mades (in_order answers)

  pub run_at : {n j : ℕ} {p : Plan Name} {ms : List (Made Name)} (h : TrueAt n p j ms) → run rules program limit e (work ds t) h.answers ≡ also_all ms (on n p j [])
  unfolding run
  run_at h = ap (λ l. on limit (task_plan rules program limit ds t) 1 l) (sym (append-nil (in_order h.answers))) ∙ h.reached.goes_on []

  -- with one more true answer
  pub run_next : {n j : ℕ} {p : Plan Name} {ms : List (Made Name)} (h : TrueAt n p j ms) (o : Outcome Name) → run rules program limit e (work ds t) (o ∷ h.answers) ≡ also_all ms (on n p j (o ∷ []))
  unfolding run
  run_next h o = h.reached.goes_on (o ∷ [])

  -- an evaluation that gives a value doesn't throw
  module _ (v : Value Name) (g : Gives rules program limit e (gave v)) where
    pub no_throw : {a : List (Outcome Name)} {x : Thrown} {ms : List (Made Name)} → Of rules program limit e (work ds t) → True rules program limit e a → ¬ (run rules program limit e (work ds t) a ≡ ends (threw x) ms)
    no_throw of u r = let q = one_gives rules program limit g (gives of u r) in absurd cc

    -- a need is answered
    pub data AnsweredBy (n : Name) (a : List (Outcome Name)) : Type 0 where
      answered_by : (o : Outcome Name) → Gives rules program limit n o → AnsweredBy n a

    pub answer_of : {n : Name} {a : List (Outcome Name)} {ms : List (Made Name)} → Of rules program limit e (work ds t) → True rules program limit e a → run rules program limit e (work ds t) a ≡ needs n ms → AnsweredBy n a
    answer_of {n = n} {a = a} {ms = ms} of u r = go g
      where
        from : (o : Outcome Name) → Answer rules program limit e a o → AnsweredBy n a
        from o (answer {n = n'} of' r' k) =
            let s = one_of rules program limit of of' in
            let d : n' ≡ n = cc in
            answered_by o (subst (λ m. Gives rules program limit m o) d k)

        at_end : {whole c : List (Outcome Name)} {ns : List (Made Name)} → run rules program limit e (work ds t) whole ≡ ends (gave v) ns → True rules program limit e whole → whole ≡ c ++ a → EndsIn c → AnsweredBy n a
        at_end q tw p (is_empty z) = let u : run rules program limit e (work ds t) a ≡ ends (gave v) _ = rw (p, z) at q in absurd cc
        at_end q tw p (has_last b x z) = from x (at_answer rules program limit b (subst (λ l. True rules program limit e l) (rw (z, append_assoc) at p) tw))

        go : Gives rules program limit e (gave v) → AnsweredBy n a
        go (gives {w = w} {a = whole} {ms = ns} of' tw q) =
            let s : work ds t ≡ w = one_of rules program limit of of' in
            let z : run rules program limit e (work ds t) whole ≡ ends (gave v) ns = rw (← s) at q in
            let l = within rules program limit of tw z u in
            at_end z tw l.1 (ends_in l.0)

    pub on-now : (n : ℕ) (c w : Value Name) (k : Value Name → Plan Name) (j : ℕ) (os : List (Outcome Name)) → found c ≡ now w → on n (seq c k) j os ≡ on n (k w) j os
    unfolding walk
    on-now zero c w k j os q = rw q
    on-now (suc n) c w k j os q = rw q

    pub on-asks : (n : ℕ) (c : Value Name) (m : Name) (k : Value Name → Plan Name) (j : ℕ) → found c ≡ asks_for m → on (suc n) (seq c k) j [] ≡ needs m []
    unfolding walk
    on-asks n c m k j q = rw q

    pub on-told : (n : ℕ) (c u : Value Name) (m : Name) (k : Value Name → Plan Name) (j : ℕ) (os : List (Outcome Name)) → found c ≡ asks_for m → on (suc n) (seq c k) j (gave u ∷ os) ≡ on n (seq u k) j os
    unfolding walk
    on-told n c u m k j os q = rw q

    pub on-thrown : (n : ℕ) (c : Value Name) (m : Name) (x : Thrown) (k : Value Name → Plan Name) (j : ℕ) → found c ≡ asks_for m → on (suc n) (seq c k) j (threw x ∷ []) ≡ ends (threw x) []
    unfolding walk
    on-thrown n c m x k j q = rw q

    pub on-spent : (c : Value Name) (m : Name) (k : Value Name → Plan Name) (j : ℕ) → found c ≡ asks_for m → on zero (seq c k) j [] ≡ ends (threw Steps) []
    unfolding walk
    on-spent c m k j q = rw q

    pub on-none : (n : ℕ) (c : Value Name) (k : Value Name → Plan Name) (j : ℕ) → found c ≡ no_seq → on n (seq c k) j [] ≡ ends (threw BadType) []
    unfolding walk
    on-none zero c k j q = rw q
    on-none (suc n) c k j q = rw q

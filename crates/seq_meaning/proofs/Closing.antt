-- What a program demands, by a list of its evaluations: where each of them is followed to its end, and what each asks is in the list, nothing else is demanded.
use Rattle.std.proofs.Common.{◌≡◌, ℕ, zero, suc, ◌<◌, List, [], ◌∷◌, ◌++◌, subst, Some, slice_get}
use Rattle.seq_values.specs.declared.words.Kind.TheVariants.{Future}
use Rattle.seq_values.specs.Model.{Value, Term, Outcome, gave}
use Rattle.clj_script.specs.Trees.{Program}
use Rattle.seq_plan.specs.Plan.{Rules}
use Rattle.seq_meaning.specs.Walk.{Made, made, Run, needs, ends, makes_of}
use Rattle.seq_meaning.specs.Names.{Name, form, part, retry}
use Rattle.seq_meaning.specs.Gives.{Work, run, Of, True, no_answer, one_more, Gives}
use Rattle.seq_meaning.specs.Counts.{FailsLazily, fails_lazily, Demand, demands_form, demands_need, demands_retry, demands_future, MadeBy, made_by, IsIn}
use Rattle.seq_meaning.proofs.Once.{one_of, one_gives, within, run-ext, Ext, ext_same, ext_needs}

slice-append : {A : Type 0} (xs ys : List A) (j : ℕ) (x : A) → slice_get xs j ≡ Some x → slice_get (xs ++ ys) j ≡ Some x
slice-append [] ys j x p = absurd cc
slice-append (z ∷ xs) ys zero x p = p
slice-append (z ∷ xs) ys (suc j) x p = slice-append xs ys j x p

module _ (rules : Rules Name) (program : Program) (limit k : ℕ) (among : List Name) where
  abbrev Fails : Name → Type 0
  Fails n = FailsLazily rules program limit k n

  -- What is asked is in the list, under its own name or as an attempt of the asker's.
  pub data Leads (e n : Name) : Type 0 where
    leads_on : ¬ (Fails n) → IsIn n among → Leads e n
    leads_back : Fails n → IsIn (retry e) among → Leads e n

  pub data AllLead (e : Name) : (a : List (Outcome Name)) → True rules program limit e a → Type 0 where
    none_leads : {w : Work} {of : Of rules program limit e w} → AllLead e [] (no_answer of)
    one_leads : {n : Name} {w : Work} {a : List (Outcome Name)} {ms : List (Made Name)} {o : Outcome Name} {of : Of rules program limit e w} {t : True rules program limit e a} {r : run rules program limit e w a ≡ needs n ms} {g : Gives rules program limit n o} → Leads e n → AllLead e a t → AllLead e (o ∷ a) (one_more of t r g)

  -- an evaluation that is followed to its end
  pub record Followed (e : Name) : Type 0 where
    pub w : Work
    pub a : List (Outcome Name)
    pub o : Outcome Name
    pub ms : List (Made Name)
    pub of : Of rules program limit e w
    pub answers : True rules program limit e a
    pub end : run rules program limit e w a ≡ ends o ms
    pub asks : AllLead e a answers
    pub futures : (j : ℕ) (t : Term Name) → slice_get ms j ≡ Some (made Future t) → IsIn (part e (suc j)) among

  -- what gives a value doesn't fail
  pub no_failure : {n : Name} {v : Value Name} → Gives rules program limit n (gave v) → ¬ (Fails n)
  no_failure g (fails_lazily p h) = let s = one_gives rules program limit g h in absurd cc

  lead : {e n : Name} {w : Work} {a : List (Outcome Name)} {ms : List (Made Name)} {t : True rules program limit e a} → AllLead e a t → (x : Outcome Name) (c b : List (Outcome Name)) → a ≡ x ∷ c ++ b → Of rules program limit e w → run rules program limit e w b ≡ needs n ms → Leads e n
  lead none_leads x c b p of r = absurd cc
  lead {e = e} {n = n} {w = w} (one_leads {n = m} {w = v} {a = a} {ms = ms} {of = of'} {r = r'} l ls) x [] b p of r =
      let s : v ≡ w = one_of rules program limit of' of in
      let q : a ≡ b = cc in
      let u : m ≡ n = cc in
      subst (λ y. Leads e y) u l
  lead (one_leads l ls) x (y ∷ c) b p of r = lead ls y c b (cc) of r

  -- whatever it needs leads into the list
  need_leads : {e n : Name} {w : Work} {b : List (Outcome Name)} {ms : List (Made Name)} → Followed e → Of rules program limit e w → True rules program limit e b → run rules program limit e w b ≡ needs n ms → Leads e n
  need_leads {e = e} {n = n} {w = w} {b = b} {ms = ms} f of t r = go l.0 l.1
    where
      l : (c : List (Outcome Name)) × (f.a ≡ c ++ b)
      l = within rules program limit f.of f.answers f.end t

      go : (c : List (Outcome Name)) → f.a ≡ c ++ b → Leads e n
      go [] q = let s = one_of rules program limit f.of of in let h = f.end in absurd cc
      go (x ∷ c) q = lead f.asks x c b q of r

  -- what it makes at any time is among its makes at the end
  make_at : (e : Name) (w v : Work) (a b : List (Outcome Name)) {o : Outcome Name} {ms : List (Made Name)} (c : List (Outcome Name)) (j : ℕ) {m : Made Name} → v ≡ w → a ≡ c ++ b → run rules program limit e v a ≡ ends o ms → slice_get (makes_of (run rules program limit e w b)) j ≡ Some m → slice_get ms j ≡ Some m
  make_at e w v a b {o = o} {ms = ms} c j {m = m} p q h r = go (subst (λ s. Ext (run rules program limit e w b) s) (rw (p, q) at h) (run-ext rules program limit e w b c)) r
    where
      go : {s : Run Name} → Ext s (ends o ms) → slice_get (makes_of s) j ≡ Some m → slice_get ms j ≡ Some m
      go ext_same t = t
      go (ext_needs {ms = ns} xs u) t = rw u (slice-append ns xs j m t)

  pub make_stays : (j : ℕ) {e : Name} {w : Work} {b : List (Outcome Name)} {m : Made Name} → (f : Followed e) → Of rules program limit e w → True rules program limit e b → slice_get (makes_of (run rules program limit e w b)) j ≡ Some m → slice_get f.ms j ≡ Some m
  make_stays j f of t r =
      let l = within rules program limit f.of f.answers f.end t in
      make_at _ _ _ _ _ l.0 j (one_of rules program limit f.of of) l.1 f.end r

  onward : {e n : Name} → ¬ (Fails n) → Leads e n → IsIn n among
  onward h (leads_on f i) = i
  onward h (leads_back f i) = absurd (h f)

  back : {e n : Name} → Fails n → Leads e n → IsIn (retry e) among
  back h (leads_on f i) = absurd (f h)
  back h (leads_back f i) = i

  module _ (of_forms : (i : ℕ) → i < k → IsIn (form (suc i)) among) (followed : (e : Name) → IsIn e among → Followed e) where
    -- nothing else is demanded
    pub demanded_among : {x : Name} → Demand rules program limit k x → IsIn x among
    demanded_among (demands_form h) = of_forms _ h
    demanded_among (demands_need {e = e} d of t r h) = onward h (need_leads (followed e (demanded_among d)) of t r)
    demanded_among (demands_retry {e = e} d of t r h) = back h (need_leads (followed e (demanded_among d)) of t r)
    demanded_among (demands_future {e = e} {j = j} {t = u} d of t m) = let f = followed e (demanded_among d) in f.futures j u (make_stays j f of t m)

    -- the parts made are those that its evaluations make
    pub made_among : (parts : List Name) → ((e : Name) (i : IsIn e among) (j : ℕ) (m : Made Name) → slice_get (followed e i).ms j ≡ Some m → IsIn (part e (suc j)) parts) → {x : Name} → MadeBy rules program limit k x → IsIn x parts
    made_among parts all (made_by {e = e} {j = j} {m = m} d of t r) = let i = demanded_among d in all e i j m (make_stays j (followed e i) of t r)

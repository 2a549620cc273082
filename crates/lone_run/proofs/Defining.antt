-- The values of the `def` forms, after one more form.
use Rattle.std.proofs.Common.{◌≡◌, ◌⊎◌, inl, inr, ℕ, zero, suc, ◌+◌, ◌<◌, ◌≤◌, Bool, true, false, List, [], ◌∷◌, ◌++◌, length, map, Option, Some, None, slice_get, refl, ap, sym, subst, ◌∙◌, arith}
use Rattle.std.specs.Prelude.{unwrap_or, IsTrue}
use Rattle.seq_base.specs.declared.limits.Limits.{Limits}
use Rattle.seq_values.specs.declared.value.Value.{Value as Coded}
use Rattle.seq_values.specs.declared.value.Value.TheVariants as V
use Rattle.seq_values.specs.Model.{Value}
use Rattle.seq_values.specs.Plain.{plain, plains}
use Rattle.seq_values.specs.WellFormed.{is_well_formed}
use Rattle.clj_script.specs.Trees.{Expr, Top, def, defn, prn, ledger, Program}
use Rattle.cell_book.specs.declared.cell.Form.{Form}
use Rattle.cell_book.specs.Account.{Account, is_open}
use Rattle.cell_book.specs.Glimpses.{glimpse, Reaches}
use Rattle.cell_book.proofs.Lists.{get_last, get_longer, get_snoc, below_or}
use Rattle.seq_lawful.specs.Rest.{AtRest}
use Rattle.seq_lawful.specs.Runs.{IsBefore, is_before}
use Rattle.seq_lawful.specs.Sites.{at_form, on_form}
use Rattle.seq_ledger.specs.Ledgers.{of_defs}
use Rattle.lawful_works.specs.Proper.{IsProper}
use Rattle.lawful_output.proofs.Quiet.{over_closed}
use Rattle.lone_run.specs.declared.given.Given.{Given}
use Rattle.lone_run.specs.declared.given.Given.TheVariants as G
use Rattle.lone_run.specs.Stages.{Defines, HasEnded}
use Rattle.lone_run.specs.Writing.{Keeps}

-- ## The book goes on

before_stays : (a b : Account) (outcomes : List Coded) (i : ℕ) → Reaches (glimpse a) (glimpse b) → IsBefore (glimpse a) outcomes i → IsBefore (glimpse b) outcomes i
before_stays a b outcomes i r (is_before f e closed at) =
    let h = r.forms i f e in
    is_before h.0 h.1 (ap is_open (h.2.attempt.ended closed) ∙ closed) (at ∙ ap (λ o. Some (unwrap_or o V.Nil)) (sym (h.2.value closed)))

pub defines_on : (program : Program) (a b : Account) (k : ℕ) (defined : List Coded) → Reaches (glimpse a) (glimpse b) → Defines program a k defined → Defines program b k defined
defines_on program a b k defined r d = record {
  outcomes = d.outcomes;
  so_many = d.so_many;
  before = λ i h. before_stays a b d.outcomes i r (d.before i h);
  are = d.are;
  few = d.few;
  well = d.well;
}

none_behind : (tops : List Top) → of_defs {C = ℕ} tops [] ≡ []
none_behind [] = refl
none_behind (def name e ∷ tops) = refl
none_behind (defn ∷ tops) = refl
none_behind (prn e ∷ tops) = refl
none_behind (ledger ∷ tops) = refl

pub defines_none : (program : Program) (a : Account) → Defines program a 0 []
defines_none program a = record {
  outcomes = [];
  so_many = refl;
  before = λ i h. absurd (omega (arith, h));
  are = sym (none_behind program.tops);
  few = omega arith;
  well = λ i v e. absurd cc;
}

-- ## One more value

one_longer : {X : Type 0} (xs : List X) (x : X) → length (xs ++ x ∷ []) ≡ suc (length xs)
one_longer [] x = refl
one_longer (y ∷ xs) x = ap suc (one_longer xs x)

plains_more : (xs : List Coded) (v : Coded) → plains (xs ++ v ∷ []) ≡ plains xs ++ plain v ∷ []
plains_more [] v = refl
plains_more (x ∷ xs) v = ap (λ l. plain x ∷ l) (plains_more xs v)

plains_long : (xs : List Coded) → length (plains xs) ≡ length xs
plains_long [] = refl
plains_long (x ∷ xs) = ap suc (plains_long xs)

-- the values of the `def` forms, with one more value
abbrev more_defs : Top → List (Value ℕ) → Value ℕ → List (Value ℕ)
more_defs (def name e) xs v = xs ++ v ∷ []
more_defs defn xs v = xs
more_defs (prn e) xs v = xs
more_defs ledger xs v = xs

more_behind : (t : Top) (x : Value ℕ) (xs : List (Value ℕ)) (v : Value ℕ) → more_defs t (x ∷ xs) v ≡ x ∷ more_defs t xs v
more_behind (def name e) x xs v = refl
more_behind defn x xs v = refl
more_behind (prn e) x xs v = refl
more_behind ledger x xs v = refl

of_defs_more : (tops : List Top) (xs : List (Value ℕ)) (v : Value ℕ) (t : Top) → slice_get tops (length xs) ≡ Some t → of_defs tops (xs ++ v ∷ []) ≡ more_defs t (of_defs tops xs) v
of_defs_more [] [] v t e = absurd cc
of_defs_more [] (x ∷ xs) v t e = absurd cc
of_defs_more (def name b ∷ tops) [] v t e = let q : def name b ≡ t = cc in subst (λ (u : Top). of_defs (def name b ∷ tops) (v ∷ []) ≡ more_defs u [] v) q (ap (λ l. v ∷ l) (none_behind tops))
of_defs_more (defn ∷ tops) [] v t e = let q : defn ≡ t = cc in subst (λ (u : Top). of_defs (defn ∷ tops) (v ∷ []) ≡ more_defs u [] v) q (none_behind tops)
of_defs_more (prn b ∷ tops) [] v t e = let q : prn b ≡ t = cc in subst (λ (u : Top). of_defs (prn b ∷ tops) (v ∷ []) ≡ more_defs u [] v) q (none_behind tops)
of_defs_more (ledger ∷ tops) [] v t e = let q : ledger ≡ t = cc in subst (λ (u : Top). of_defs (ledger ∷ tops) (v ∷ []) ≡ more_defs u [] v) q (none_behind tops)
of_defs_more (def name b ∷ tops) (x ∷ xs) v t e = ap (λ l. x ∷ l) (of_defs_more tops xs v t e) ∙ sym (more_behind t x (of_defs tops xs) v)
of_defs_more (defn ∷ tops) (x ∷ xs) v t e = of_defs_more tops xs v t e
of_defs_more (prn b ∷ tops) (x ∷ xs) v t e = of_defs_more tops xs v t e
of_defs_more (ledger ∷ tops) (x ∷ xs) v t e = of_defs_more tops xs v t e

-- ## One more form

-- the form that ended, and its value or nil
abbrev last_form : (b : Account) (k : ℕ) (given : Given) → HasEnded b k given → (f : Form) × (slice_get b.forms k ≡ Some f)
last_form b k (G.Gave v) h = (h.0, h.1)
last_form b k (G.Threw why) h = (h.0, h.1)

abbrev last_value : (b : Account) (k : ℕ) (given : Given) → HasEnded b k given → Coded
last_value b k given h = unwrap_or (last_form b k given h).0.value V.Nil

gave_value : (b : Account) (k : ℕ) (v : Coded) (h : HasEnded b k (G.Gave v)) → last_value b k (G.Gave v) h ≡ v
gave_value b k v h = ap (λ o. unwrap_or o V.Nil) h.2

-- the values that are kept are those of the `def` forms
kept_are : (t : Top) (b : Account) (k : ℕ) (given : Given) (h : HasEnded b k given) (old new : List Coded) → Keeps t given old new → plains new ≡ more_defs t (plains old) (plain (last_value b k given h))
kept_are (def name e) b k (G.Gave v) h old new s = ap plains s ∙ (plains_more old v ∙ ap (λ x. plains old ++ plain x ∷ []) (sym (gave_value b k v h)))
kept_are (def name e) b k (G.Threw why) h old new s = absurd s
kept_are defn b k given h old new s = ap plains s
kept_are (prn e) b k given h old new s = ap plains s
kept_are ledger b k given h old new s = ap plains s

kept_few : (t : Top) (given : Given) (old new : List Coded) (k : ℕ) → length old < suc k → Keeps t given old new → length new < suc (suc k)
kept_few (def name e) (G.Gave v) old new k few s = (let l = ap length s ∙ one_longer old v in omega (arith, l, few))
kept_few (def name e) (G.Threw why) old new k few s = absurd s
kept_few defn given old new k few s = (let l = ap length s in omega (arith, l, few))
kept_few (prn e) given old new k few s = (let l = ap length s in omega (arith, l, few))
kept_few ledger given old new k few s = (let l = ap length s in omega (arith, l, few))

abbrev AreWell : List Coded → Type 0
AreWell xs = (i : ℕ) (v : Coded) → slice_get xs i ≡ Some v → IsTrue (is_well_formed v)

well_more : (xs : List Coded) (u : Coded) → AreWell xs → IsTrue (is_well_formed u) → AreWell (xs ++ u ∷ [])
well_more xs u all one = λ i v e. go i v (get_snoc xs i u v e)
  where
    go : (i : ℕ) (v : Coded) → ((i ≡ length xs) × (u ≡ v)) ⊎ (slice_get xs i ≡ Some v) → IsTrue (is_well_formed v)
    go i v (inl q) = subst (λ x. IsTrue (is_well_formed x)) q.1 one
    go i v (inr q) = all i v q

kept_well : (t : Top) (b : Account) (k : ℕ) (given : Given) → IsProper b → HasEnded b k given → (old new : List Coded) → Keeps t given old new → AreWell old → AreWell new
kept_well (def name e) b k (G.Gave v) proper h old new s all = subst AreWell (sym s) (well_more old v all (proper.given k h.0 v h.1 h.2))
kept_well (def name e) b k (G.Threw why) proper h old new s all = absurd s
kept_well defn b k given proper h old new s all = subst AreWell (sym s) all
kept_well (prn e) b k given proper h old new s all = subst AreWell (sym s) all
kept_well ledger b k given proper h old new s all = subst AreWell (sym s) all

pub defines_more : (program : Program) (b : Account) (k : ℕ) (t : Top) (given : Given) (old new : List Coded) → AtRest b → IsProper b → slice_get program.tops k ≡ Some t → HasEnded b k given → Defines program b k old → Keeps t given old new → Defines program b (suc k) new
defines_more program b k t given old new rest proper top h d s =
    let n = d.so_many in
    record {
      outcomes = d.outcomes ++ v ∷ [];
      so_many = one_longer d.outcomes v ∙ ap suc n;
      before = λ i l. before i (get_or i l);
      are = kept_are t b k given h old new s ∙ (ap (λ l. more_defs t l (plain v)) d.are ∙ (sym (of_defs_more program.tops (plains d.outcomes) (plain v) t (ap (slice_get program.tops) (plains_long d.outcomes ∙ n) ∙ top)) ∙ ap (of_defs program.tops) (sym (plains_more d.outcomes v))));
      few = kept_few t given old new k d.few s;
      well = kept_well t b k given proper h old new s d.well;
    }
  where
    v : Coded
    v = last_value b k given h

    get_or : (i : ℕ) → i < length (d.outcomes ++ v ∷ []) → (i < length d.outcomes) ⊎ (i ≡ length d.outcomes)
    get_or i l = go (below_or i (length d.outcomes))
      where
        go : (i < length d.outcomes) ⊎ (length d.outcomes ≤ i) → (i < length d.outcomes) ⊎ (i ≡ length d.outcomes)
        go (inl q) = inl q
        go (inr q) = inr (let m = one_longer d.outcomes v in omega (arith, m, l, q))

    last : (f : Form) × (slice_get b.forms k ≡ Some f)
    last = last_form b k given h

    more : (i : ℕ) → IsBefore (glimpse b) d.outcomes i → IsBefore (glimpse b) (d.outcomes ++ v ∷ []) i
    more i (is_before f e closed at) = is_before f e closed (get_longer d.outcomes i v (unwrap_or f.value V.Nil) at)

    before : (i : ℕ) → (i < length d.outcomes) ⊎ (i ≡ length d.outcomes) → IsBefore (glimpse b) (d.outcomes ++ v ∷ []) i
    before i (inl q) = more i (d.before i q)
    before i (inr q) = is_before last.0 (ap (slice_get b.forms) (q ∙ d.so_many) ∙ last.1) (over_closed (rest.all_over (at_form k) last.0.attempt (on_form last.1 refl))) (get_last d.outcomes v i q)

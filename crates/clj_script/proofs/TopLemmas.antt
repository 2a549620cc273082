-- What a form at the top gives.
use Rattle.std.proofs.Common.{◌≡◌, ℕ, true, false, Bool, List, [], ◌∷◌, ◌++◌, length, map, Option, Some, None, refl, sym, ◌∙◌, ap, subst, arith, cond}
use Rattle.clj_script.specs.declared.refusal.ScriptRefusal.{ScriptRefusal}
use Rattle.clj_script.specs.declared.program.Top.{Top}
use Rattle.clj_script.specs.declared.program.Top.TheVariants.{Prn, Ledger}
use Rattle.clj_script.specs.declared.machine.Machine.{Machine}
use Rattle.clj_script.specs.declared.top.Tops.{Tops}
use Rattle.clj_script.specs.Arena.{AllBelow}
use Rattle.clj_script.specs.Entries.{IsLower}
use Rattle.clj_script.specs.Judgements.{Judged}
use Rattle.clj_script.specs.Machines.{IsSound, IsIdle, trees}
use Rattle.clj_script.specs.Names.{defined}
use Rattle.clj_script.specs.Nodes.{at}
use Rattle.clj_script.specs.Refusals.{refusal, earliest}
use Rattle.clj_script.specs.Scopes.{Definitions, is_taken}
use Rattle.clj_script.specs.Words.{spelled, built_in_of}
use Rattle.clj_script.specs.Locals.{all_but_last}
use Rattle.std.specs.Prelude.{is_some, ◌||◌, ◌-◌}
use Rattle.std.specs.List.{list_any}
use Rattle.clj_script.specs.Scripts.{SoFar, with_bodies, with_top, TopReading, top_reading, stray_list, wrong, stray, prn_of, ledger_of, of_top, JudgedAtTop, of_stray, of_stray_list, of_wrong, of_prn, of_ledger}
use Rattle.clj_script.specs.Seen.{top_over}
use Rattle.clj_script.specs.Sources.{Source, place_of}
use Rattle.clj_script.specs.Tops.{so_far, lazy_bodies, IsWhole, HasCompiled, HasTaken, HasTakenAs, IsRefused}
use Rattle.clj_script.specs.Numbered.{number_of_top}
use Rattle.clj_script.specs.Trees.{Expr}
use Rattle.clj_script.specs.Trees as tree
use Rattle.clj_script.proofs.EntryLemmas.{map-one}
use Rattle.clj_script.proofs.KeptLemmas.{more_same, more_both, so_far_of, tops_below_both, whole_compiled, given_compiled}

-- a form by what it asks for
pub taken : (old new : Tops) (s : Source) (r : TopReading) → HasTakenAs old new s r → r ≡ top_reading s → HasTaken old new s
taken old new s r t e = record {
  whole = t.whole;
  forms = t.forms;
  refusals = t.refusals;
  least = t.least;
  judged = of_top (subst (λ (q : TopReading). JudgedAtTop (so_far old) s q (so_far new) t.refusals) e t.judged);
}

pub to_given : {so so' so'' : SoFar} {s : Source} {r : TopReading} {rs : List ScriptRefusal} → JudgedAtTop so s r so' rs → so' ≡ so'' → JudgedAtTop so s r so'' rs
to_given {so = so} {s = s} {r = r} {rs = rs} j e = subst (λ (x : SoFar). JudgedAtTop so s r x rs) e j

-- a form at the top was added, and all else stays
pub record AddsTop (old new : Tops) (t : Top) : Type 0 where
  pub machine : new.machine ≡ old.machine
  pub forms : new.sources.items ≡ old.sources.items
  pub definitions : new.definitions ≡ old.definitions
  pub functions : new.functions.items ≡ old.functions.items
  pub tops : new.tops.items ≡ old.tops.items ++ t ∷ []

pub whole_with_top : (old new : Tops) (t : Top) → IsWhole [] old → AllBelow (length old.machine.nodes.items) (number_of_top t) → AddsTop old new t → IsWhole [] new
whole_with_top old new t w b a = record {
  sound = rw (a.machine) w.sound;
  idle = rw (a.machine) w.idle;
  scope = rw (a.machine) w.scope;
  lower = rw (a.forms) w.lower;
  functions = rw (a.machine, a.functions) w.functions;
  tops = rw (a.machine, a.tops) (tops_below_both (length old.machine.nodes.items) old.tops.items t w.tops b);
}

pub given_with_top : (old new : Tops) (t : Top) → AddsTop old new t → so_far new ≡ with_top (top_over (trees old.machine) t) (so_far old)
given_with_top old new t a = so_far_of
    (rw (a.machine, a.functions) refl)
    (rw (a.machine) refl)
    (rw (a.definitions) refl)
    (rw (a.machine, a.tops) (map-one (top_over (trees old.machine)) old.tops.items t))

-- a `ledger`
pub taken_ledger : (old new : Tops) (s : Source) → IsWhole [] old → AddsTop old new Ledger → HasTakenAs old new s ledger_of
taken_ledger old new s w a = record {
  whole = whole_with_top old new Ledger w tt a;
  forms = more_same a.forms;
  refusals = [];
  least = rw (a.machine) refl;
  judged = to_given of_ledger (sym (given_with_top old new Ledger a));
}

-- what is judged of a form that was compiled, as it is among what the forms so far have given
pub judged_there : (old new : Tops) (s : Source) (n : ℕ) → IsWhole [] old → (c : HasCompiled old new s n) → Judged (so_far old).definitions [] (so_far old).bodies s (at (trees new.machine) n) (lazy_bodies new.machine) c.compiled.refusals
judged_there old new s n w c = subst (λ (ls : List (List ℕ)). Judged (defined old.definitions.entries) ls (lazy_bodies old.machine) s (at (trees new.machine) n) (lazy_bodies new.machine) c.compiled.refusals) w.scope c.compiled.judged

-- a `prn`
pub taken_prn : (old mid new : Tops) (s value : Source) (n : ℕ) → IsWhole [] old → HasCompiled old mid value n → AddsTop mid new (Prn n) → HasTakenAs old new s (prn_of value)
taken_prn old mid new s value n w c a = record {
  whole = whole_with_top mid new (Prn n) (whole_compiled [] old mid value n w c) (c.compiled.below, tt) a;
  forms = more_both c.compiled.forms (more_same a.forms);
  refusals = c.compiled.refusals;
  least = ap (λ (m : Machine). m.least.found) a.machine ∙ c.compiled.least;
  judged = to_given (of_prn (judged_there old mid value n w c))
      (ap (with_top (tree.prn (at (trees mid.machine) n))) (sym (given_compiled [] old mid value n w c)) ∙ sym (given_with_top mid new (Prn n) a));
}

-- a list that isn't headed by a word of the top
pub taken_stray_list : (old mid new : Tops) (s t : Source) (n : ℕ) → IsWhole [] old → IsRefused old mid (refusal 10 (place_of s)) → HasCompiled mid new t n → t ≡ s → HasTakenAs old new s stray_list
taken_stray_list old mid new s t n w r k e =
    let c : HasCompiled mid new s n = subst (λ (u : Source). HasCompiled mid new u n) e k in
    let v : IsWhole [] mid = rw r (record { sound = record { lower = w.sound.lower; written = w.sound.written; bodies = w.sound.bodies; values = w.sound.values }; idle = record { values = w.idle.values; tasks = w.idle.tasks }; scope = w.scope; lower = w.lower; functions = w.functions; tops = w.tops }) in
    let g : so_far mid ≡ so_far old = rw r refl in
    record {
      whole = whole_compiled [] mid new s n v c;
      forms = more_both (more_same (rw r refl)) c.compiled.forms;
      refusals = refusal 10 (place_of s) ∷ c.compiled.refusals;
      least = c.compiled.least ∙ ap (λ (t : Tops). earliest t.machine.least.found c.compiled.refusals) r;
      judged = to_given (of_stray_list (subst (λ (so : SoFar). Judged so.definitions [] so.bodies s (at (trees new.machine) n) (lazy_bodies new.machine) c.compiled.refusals) g (judged_there mid new s n v c)))
          (ap (with_bodies (lazy_bodies new.machine)) (sym g) ∙ sym (given_compiled [] mid new s n v c));
    }

-- a form that is only refused
pub taken_refused : (old new : Tops) (s : Source) (r : TopReading) (q : ScriptRefusal) → IsWhole [] old → IsRefused old new q → JudgedAtTop (so_far old) s r (so_far old) (q ∷ []) → HasTakenAs old new s r
taken_refused old new s r q w e j = record {
  whole = rw e (record { sound = record { lower = w.sound.lower; written = w.sound.written; bodies = w.sound.bodies; values = w.sound.values }; idle = record { values = w.idle.values; tasks = w.idle.tasks }; scope = w.scope; lower = w.lower; functions = w.functions; tops = w.tops });
  forms = more_same (rw e refl);
  refusals = q ∷ [];
  least = rw e refl;
  judged = to_given j (rw e refl);
}

pub taken_stray : (old new : Tops) (s : Source) → IsWhole [] old → IsRefused old new (refusal 10 (place_of s)) → HasTakenAs old new s stray
taken_stray old new s w e = taken_refused old new s stray (refusal 10 (place_of s)) w e of_stray

pub taken_wrong : (old new : Tops) (s : Source) → IsWhole [] old → IsRefused old new (refusal 9 (place_of s)) → HasTakenAs old new s wrong
taken_wrong old new s w e = taken_refused old new s wrong (refusal 9 (place_of s)) w e of_wrong

-- before the first form
pub whole_nothing : (t : Tops) → IsSound t.machine → IsIdle t.machine → t.machine.locals ≡ [] → t.sources.items ≡ [] → t.functions.items ≡ [] → t.tops.items ≡ [] → IsWhole [] t
unfolding IsLower
whole_nothing t s i l e f g = record {
  sound = s;
  idle = i;
  scope = l;
  lower = rw e tt;
  functions = rw f tt;
  tops = rw g tt;
}

pub fewer_locals : (ls : List (List ℕ)) → length (all_but_last ls) ≡ length ls - 1
fewer_locals [] = refl
fewer_locals (l ∷ []) = refl
fewer_locals (l ∷ k ∷ ls) = let h : length (all_but_last (k ∷ ls)) ≡ length (k ∷ ls) - 1 = fewer_locals (k ∷ ls) in omega arith

pub any_mapped : {X Y : Type 0} (test : Y → Bool) (f : X → Y) (xs : List X) → list_any test (map f xs) ≡ list_any (λ x. test (f x)) xs
any_mapped test f [] = refl
any_mapped test f (x ∷ xs) = ap (λ b. test (f x) || b) (any_mapped test f xs)

is_some_none : {X : Type 0} (o : Option X) → is_some o ≡ false → o ≡ None
is_some_none None e = refl
is_some_none (Some x) e = absurd (true_false e) where
  true_false : true ≡ false → ⊥
  true_false f = (cc)

either_false : (b c : Bool) → cond b true c ≡ false → b ≡ false
either_false true c e = e
either_false false c e = refl

-- a name that isn't taken isn't defined
pub not_taken : (d : Definitions) (name : List ℕ) → is_taken d name ≡ false → spelled d name ≡ None
unfolding is_taken
not_taken d name e = is_some_none (spelled d name) (either_false (is_some (spelled d name)) (is_some (built_in_of name)) e)

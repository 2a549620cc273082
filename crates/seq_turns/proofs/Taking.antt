-- A turn that takes a node takes it of each plan that may be passed on to the node. Crates of rules use these.
use Rattle.std.specs.declared.result.Result.{Result}
use Rattle.std.proofs.Common.{◌≡◌, ℕ, Ok, Err, IfOk, Bool, true, false, List, refl, sym, subst}
use Rattle.seq_values.specs.Model as M
use Rattle.seq_plan.specs.Plan.{Plan, Loop, go, seq, give, then, plan_of, Round}
use Rattle.seq_plan.specs.Nodes.{is_nil, found, now}
use Rattle.seq_plan.specs.Cursors.{stands}
use Rattle.seq_plan.specs.declared.cursor.Cursor.{Cursor}
use Rattle.seq_plan.specs.declared.cursor.Cursor.TheVariants as C
use Rattle.seq_plan.proofs.Thens.{then_gives}
use Rattle.seq_turns.specs.Making.{made, Makes}
use Rattle.seq_turns.specs.Turning.{Silent, arrives, opens, finds, Running, Takes}
use Rattle.seq_turns.specs.declared.made.Made.{Made}
use Rattle.seq_turns.specs.declared.next.Next.{Next}

pub joins : {C : Type 0} {own : Loop → Bool} {rounds : Loop → List (M.Value C) → Round C} {p q r : Plan C} → Silent own rounds p q → Silent own rounds q r → Silent own rounds p r
joins arrives t = t
joins (opens o s) t = opens o (joins s t)
joins (finds e s) t = finds e (joins s t)

pub some_cursor : (c : Cursor) → is_nil (stands c) ≡ false
some_cursor (C.Heads h) = refl
some_cursor (C.Items i) = refl
some_cursor (C.Range r) = refl
some_cursor (C.Vector v) = refl

module _ {S : Type 0} (rule : Running S) where
  pub takes_from : {p q : Plan ℕ} {r : Next S} → Silent rule.own rule.rounds p q → Takes rule q r → Takes rule p r
  takes_from s h = record { goes = joins s h.goes; step = h.step; waits = h.waits; well = h.well }

  pub takes_same : {p q : Plan ℕ} {r : Next S} → p ≡ q → Takes rule p r → Takes rule q r
  takes_same {r = r} e h = subst (λ p. Takes rule p r) e h

  -- a loop after which nothing comes
  pub takes_round : (l : Loop) (xs : List (M.Value ℕ)) {r : Next S} → rule.own l ≡ true → Takes rule (plan_of (rule.rounds l xs)) r → Takes rule (go l xs give) r
  takes_round l xs o h = takes_from (opens o arrives) (takes_same (sym (then_gives (plan_of (rule.rounds l xs)))) h)

  -- a loop after which more comes
  pub takes_loop : (l : Loop) (xs : List (M.Value ℕ)) (k : M.Value ℕ → Plan ℕ) {r : Next S} → rule.own l ≡ true → Takes rule (then (plan_of (rule.rounds l xs)) k) r → Takes rule (go l xs k) r
  takes_loop l xs k o h = takes_from (opens o arrives) h

  -- a `seq` of what is there already
  pub takes_found : (v w : M.Value ℕ) (k : M.Value ℕ → Plan ℕ) {r : Next S} → found v ≡ now w → Takes rule (k w) r → Takes rule (seq v k) r
  takes_found v w k e h = takes_from (finds e arrives) h

  -- what was made is given, or why it wasn't is thrown
  pub takes_made : (plan : (M.Value ℕ → Plan ℕ) → Plan ℕ) (m : Made) (k : M.Value ℕ → Plan ℕ) {r : Next S} → Makes plan m → Takes rule (made m k) r → Takes rule (plan k) r
  takes_made plan m k e h = takes_same (sym (e.goes k)) h

  -- what a callee took
  pub in_ok : {E : Type 0} (r : Result (Next S) E) {p q : Plan ℕ} → ((n : Next S) → Takes rule q n → Takes rule p n) → IfOk r (λ n. Takes rule q n) → IfOk r (λ n. Takes rule p n)
  in_ok (Ok n) f h = f n h
  in_ok (Err e) f h = tt

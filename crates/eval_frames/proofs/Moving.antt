-- How trails go on, over plans.
use Rattle.std.proofs.Common.{◌≡◌, ℕ, suc, ◌+◌, List, sym, subst, arith}
use Rattle.seq_base.specs.declared.thrown.Thrown.TheVariants.{BadType, Steps}
use Rattle.seq_values.specs.Model as M
use Rattle.seq_plan.specs.Plan.{Plan, visit, ask, seq, call, throw, then, plan_of}
use Rattle.seq_plan.specs.Nodes.{now, asks_for, no_seq, found}
use Rattle.seq_plan.specs.Silent.{Silently, arrives, opens, finds}
use Rattle.seq_plan.proofs.Thens.{then_joins}
use Rattle.seq_meaning.specs.Evaluates.{Script, called}
use Rattle.seq_meaning.specs.Trail.{Trail, looped, visited, entered, at_once, sought, missed, tired, IsDue}
use Rattle.eval_frames.specs.Leads.{Moves}

module _ (script : Script ℕ) where
  pub stays : (n : ℕ) (p : Plan ℕ) → Moves script n p n p
  stays n p = record { on = λ limit whole asked mades t. t }

  -- equal steps and plans are one
  pub stands : {n m : ℕ} {p q : Plan ℕ} → m ≡ n → q ≡ p → Moves script n p m q
  stands {n} {m} {p} {q} e f = subst (λ k. Moves script n p k q) (sym e) (subst (λ r. Moves script n p n r) (sym f) (stays n p))

  pub further : {n m l : ℕ} {p q r : Plan ℕ} → Moves script n p m q → Moves script m q l r → Moves script n p l r
  further f g = record { on = λ limit whole asked mades t. g.on limit whole asked mades (f.on limit whole asked mades t) }

  -- a step is due, and none is left
  pub tired_moves : (n : ℕ) (p : Plan ℕ) → IsDue p → n ≡ 0 → Moves script n p n (throw Steps)
  tired_moves n p d e = subst (λ m. Moves script m p m (throw Steps)) (sym e) (record { on = λ limit whole asked mades t. tired t d })

  visit_step : (n : ℕ) (p : Plan ℕ) → Moves script (suc n) (visit p) n p
  visit_step n p = record { on = λ limit whole asked mades t. visited t }

  pub visit_moves : (n m : ℕ) (p : Plan ℕ) → m + 1 ≡ n → Moves script n (visit p) m p
  visit_moves n m p d = let e : suc m ≡ n = omega (arith, d) in subst (λ k. Moves script k (visit p) m p) e (visit_step m p)

  call_step : (n : ℕ) (f : M.Value ℕ) (xs : List (M.Value ℕ)) (k : M.Value ℕ → Plan ℕ) → Moves script (suc n) (call f xs k) n (then (called script f xs) k)
  call_step n f xs k = record { on = λ limit whole asked mades t. entered t }

  pub call_moves : (n m : ℕ) (f : M.Value ℕ) (xs : List (M.Value ℕ)) (k : M.Value ℕ → Plan ℕ) → m + 1 ≡ n → Moves script n (call f xs k) m (then (called script f xs) k)
  call_moves n m f xs k d = let e : suc m ≡ n = omega (arith, d) in subst (λ j. Moves script j (call f xs k) m (then (called script f xs) k)) e (call_step m f xs k)

  -- an ask whose step is taken after it
  pub need_moves : (n m : ℕ) (p : Plan ℕ) → m + 1 ≡ n → Moves script n p (suc m) p
  need_moves n m p d = let e : suc m ≡ n = omega (arith, d) in subst (λ k. Moves script n p k p) (sym e) (stays n p)

  pub once_moves : (n : ℕ) (v w : M.Value ℕ) (k : M.Value ℕ → Plan ℕ) → found v ≡ now w → Moves script n (seq v k) n (k w)
  once_moves n v w k e = record { on = λ limit whole asked mades t. at_once t e }

  pub sought_moves : (n c : ℕ) (v : M.Value ℕ) (k : M.Value ℕ → Plan ℕ) → found v ≡ asks_for c → Moves script n (seq v k) n (ask c (λ w. seq w k))
  sought_moves n c v k e = record { on = λ limit whole asked mades t. sought t e }

  pub missed_moves : (n : ℕ) (v : M.Value ℕ) (k : M.Value ℕ → Plan ℕ) → found v ≡ no_seq → Moves script n (seq v k) n (throw BadType)
  missed_moves n v k e = record { on = λ limit whole asked mades t. missed t e }

  -- what a rule passes over is passed over whatever waits for the rule
  pub passes : (n : ℕ) {p q : Plan ℕ} (h : M.Value ℕ → Plan ℕ) → Silently script.rules.on_loop p q → Moves script n (then p h) n (then q h)
  passes n {p = p} h arrives = stays n (then p h)
  passes n h (opens {l = l} {xs = xs} {k = k} s) =
      further (record { on = λ limit whole asked mades t. subst (λ x. Trail script limit whole n x asked mades) (sym (then_joins (plan_of (script.rules.on_loop l xs)) k h)) (looped t) }) (passes n h s)
  passes n h (finds {v = v} {w = w} {k = k} e s) = further (once_moves n v w (λ x. then (k x) h) e) (passes n h s)

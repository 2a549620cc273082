-- Works that stand at a plan, and what they come to.
use Rattle.std.proofs.Common.{◌≡◌, ℕ, ◌+◌, ◌≤◌, refl, sym, subst, ◌∙◌, arith, IfOk, Ok, Err}
use Rattle.std.specs.declared.result.Result.{Result}
use Rattle.seq_base.specs.declared.thrown.Thrown.{Thrown}
use Rattle.seq_plan.specs.Plan.{Plan, throw}
use Rattle.eval_frames.specs.Frames.{Ground, script_in}
use Rattle.eval_frames.specs.Leads.{Moves, LeadsTo, ComesTo, Stands, Comes, Leads}
use Rattle.eval_frames.specs.declared.state.Runner.{Runner}
use Rattle.eval_frames.specs.declared.state.Event.{Event}
use Rattle.eval_frames.specs.declared.state.Event.TheVariants as E
use Rattle.eval_frames.specs.declared.state.Advance.{Advance}
use Rattle.eval_frames.specs.declared.state.Advance.TheVariants as A
use Rattle.eval_frames.proofs.Moving.{stands, further}

module _ {S : Type 0} {b : _} (by : Ground S) where
  pub stands_same : {n : ℕ} {p q : Plan ℕ} {v w : ℕ} {r : Runner S b} → p ≡ q → v ≤ w → Stands by n p v r → Stands by n q w r
  stands_same e l h = record { left = h.left; plan = h.plan ∙ e; light = let x = h.light in omega (arith, x, l) }

  -- a silent turn
  pub comes_on : {n : ℕ} {p q : Plan ℕ} {v w : ℕ} {r : Runner S b} → p ≡ q → v + 1 ≤ w → Stands by n p v r → Comes by n q w (A.On r)
  comes_on e l h = record { goes = stands (script_in by) h.left (h.plan ∙ e); took = h.left; light = let x = h.light in omega (arith, x, l) }

  pub comes_same : {n : ℕ} {p q : Plan ℕ} {v w : ℕ} {a : Advance S b} → p ≡ q → v ≤ w → Comes by n p v a → Comes by n q w a
  comes_same {n} {a = a} e l h = record { goes = subst (λ p. ComesTo by n p a) e h.goes; took = h.took; light = let x = h.light in omega (arith, x, l) }

  pub comes_event : {n : ℕ} {p q : Plan ℕ} {v w : ℕ} {e : Event S b} → p ≡ q → v ≤ w → Leads by n p v e → Comes by n q w (A.Comes e)
  comes_event {n} {e = e} f l h = record { goes = subst (λ p. LeadsTo by n p e) f h.goes; took = h.took; light = let x = h.light in omega (arith, x, l) }

  pub leads_same : {n : ℕ} {p q : Plan ℕ} {v w : ℕ} {e : Event S b} → p ≡ q → v ≤ w → Leads by n p v e → Leads by n q w e
  leads_same {n} {e = e} f l h = record { goes = subst (λ p. LeadsTo by n p e) f h.goes; took = h.took; light = let x = h.light in omega (arith, x, l) }

  -- the plan throws
  pub leads_throws : {n w : ℕ} {p : Plan ℕ} {why : Thrown} {e : Event S b} → e ≡ E.Throws why n → Moves (script_in by) n p n (throw why) → Leads by n p w e
  leads_throws {n} {w} {p} {why} {e} f m = subst (λ x. Leads by n p w x) (sym f) (record { goes = m; took = tt; light = omega arith })

  pub comes_throws : {n w : ℕ} {p : Plan ℕ} {why : Thrown} {e : Event S b} → e ≡ E.Throws why n → p ≡ throw why → Comes by n p w (A.Comes e)
  comes_throws {n} {w} {p} {why} {e} f m = comes_event {v = w} refl (omega arith) (leads_throws f (stands (script_in by) refl (sym m)))

  -- what a callee came to
  pub ok_comes : {E : Type 0} (n : ℕ) {p q : Plan ℕ} {v w : ℕ} (r : Result (Advance S b) E) → p ≡ q → v ≤ w → IfOk r (λ a. Comes by n p v a) → IfOk r (λ a. Comes by n q w a)
  ok_comes n (Ok a) e l h = comes_same e l h
  ok_comes n (Err x) e l h = tt

  pub ok_from : {E : Type 0} (n m : ℕ) (p q : Plan ℕ) (v w : ℕ) (r : Result (Advance S b) E) → ((a : Advance S b) → Comes by m p v a → Comes by n q w a) → IfOk r (λ a. Comes by m p v a) → IfOk r (λ a. Comes by n q w a)
  ok_from n m p q v w (Ok a) f h = f a h
  ok_from n m p q v w (Err x) f h = tt

  -- what a plan comes to, a plan that moves on to it comes to
  leads_on : {n : ℕ} {p q : Plan ℕ} → Moves (script_in by) n p n q → (e : Event S b) → LeadsTo by n q e → LeadsTo by n p e
  leads_on f (E.Went r) h = further (script_in by) f h
  leads_on f (E.Asks a) h = further (script_in by) f h
  leads_on f (E.Makes kind t maker rest) h = further (script_in by) f h
  leads_on f (E.Gives v left) h = further (script_in by) f h
  leads_on f (E.Throws e left) h = further (script_in by) f h

  comes_to : {n : ℕ} {p q : Plan ℕ} → Moves (script_in by) n p n q → (a : Advance S b) → ComesTo by n q a → ComesTo by n p a
  comes_to f (A.On r) h = further (script_in by) f h
  comes_to f (A.Comes e) h = leads_on f e h

  pub leads_from : {n w : ℕ} {p q : Plan ℕ} {e : Event S b} → Moves (script_in by) n p n q → Leads by n q w e → Leads by n p w e
  leads_from {e = e} f h = record { goes = leads_on f e h.goes; took = h.took; light = h.light }

  pub comes_from : {n w : ℕ} {p q : Plan ℕ} {a : Advance S b} → Moves (script_in by) n p n q → Comes by n q w a → Comes by n p w a
  comes_from {a = a} f h = record { goes = comes_to f a h.goes; took = h.took; light = h.light }

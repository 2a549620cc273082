-- What a plan comes to, with a number that is greater than those of its parts: for rows with loops.
use Rattle.std.proofs.Common.{◌≡◌, refl, subst, ℕ, zero, suc, ◌+◌, List, arith}
use Rattle.seq_values.specs.declared.words.Kind.{Kind}
use Rattle.seq_values.specs.Model.{Value, Term}
use Rattle.seq_plan.specs.Plan.{Plan, visit, ask, seq, call, go, make, give, Loop, plan_of}
use Rattle.seq_meaning.specs.Evaluates.{called}
use Rattle.seq_table.specs.World.{World, script_in, SeqTo, Comes, comes_visit, comes_ask, comes_seq, comes_call, comes_go, comes_make, comes_give}

module _ {C : Type 0} (w : World C) (defs : List (Value C)) where
  -- the same in at most so many nodes
  pub data ComesIn : ℕ → Plan C → Value C → Type 0 where
    in_visit : {n : ℕ} {p : Plan C} {v : Value C} → ComesIn n p v → ComesIn (suc n) (visit p) v
    in_ask : {n : ℕ} {c : C} {u v : Value C} {k : Value C → Plan C} → w.Shows c u → ComesIn n (k u) v → ComesIn (suc n) (ask c k) v
    in_seq : {n : ℕ} {x s v : Value C} {k : Value C → Plan C} → SeqTo w x s → ComesIn n (k s) v → ComesIn (suc n) (seq x k) v
    in_call : {n : ℕ} {f y v : Value C} {xs : List (Value C)} {k : Value C → Plan C} → Comes w defs (called (script_in w defs) f xs) y → ComesIn n (k y) v → ComesIn (suc n) (call f xs k) v
    in_go : {n : ℕ} {l : Loop} {xs : List (Value C)} {y v : Value C} {k : Value C → Plan C} → ComesIn n (plan_of (w.rules.on_loop l xs)) y → ComesIn n (k y) v → ComesIn (suc n) (go l xs k) v
    in_make : {n : ℕ} {kind : Kind} {t : Term C} {c : C} {v : Value C} {k : C → Plan C} → w.IsPart c kind defs t → ComesIn n (k c) v → ComesIn (suc n) (make kind t k) v
    in_give : {n : ℕ} {v : Value C} → ComesIn n (give v) v

  in_more : {n : ℕ} {p : Plan C} {v : Value C} → ComesIn n p v → ComesIn (suc n) p v
  in_more (in_visit d) = in_visit (in_more d)
  in_more (in_ask s d) = in_ask s (in_more d)
  in_more (in_seq s d) = in_seq s (in_more d)
  in_more (in_call a d) = in_call a (in_more d)
  in_more (in_go a d) = in_go (in_more a) (in_more d)
  in_more (in_make p d) = in_make p (in_more d)
  in_more in_give = in_give

  pub in_all : (m : ℕ) {n : ℕ} {p : Plan C} {v : Value C} → ComesIn n p v → ComesIn (m + n) p v
  in_all zero {n = n} {p = p} {v = v} d = let e : n ≡ 0 + n = omega arith in subst (λ k. ComesIn k p v) e d
  in_all (suc m) {n = n} {p = p} {v = v} d = let e : suc (m + n) ≡ suc m + n = omega arith in subst (λ k. ComesIn k p v) e (in_more (in_all m d))

  pub counted : {p : Plan C} {v : Value C} → Comes w defs p v → (n : ℕ) × ComesIn n p v
  counted (comes_visit d) = let h = counted d in (suc h.0, in_visit h.1)
  counted (comes_ask s d) = let h = counted d in (suc h.0, in_ask s h.1)
  counted (comes_seq s d) = let h = counted d in (suc h.0, in_seq s h.1)
  counted (comes_call a d) = let h = counted d in (suc h.0, in_call a h.1)
  counted (comes_go {l = l} {xs = xs} {y = y} a d) =
      let g = counted a in
      let h = counted d in
      let e : h.0 + g.0 ≡ g.0 + h.0 = omega arith in
      (suc (g.0 + h.0), in_go (subst (λ k. ComesIn k (plan_of (w.rules.on_loop l xs)) y) e (in_all h.0 g.1)) (in_all g.0 h.1))
  counted (comes_make p d) = let h = counted d in (suc h.0, in_make p h.1)
  counted comes_give = (0, in_give)

  pub given_in : {n : ℕ} {x v : Value C} → ComesIn n (give x) v → x ≡ v
  given_in in_give = refl

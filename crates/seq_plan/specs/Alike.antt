-- Values and plans that differ only in what stands for their cells, `R` telling which cells are the same.
use Rattle.std.specs.Prelude.{◌≡◌, ℕ, ℤ, Bool, true, false, List, [], ◌∷◌}
use Rattle.seq_base.specs.declared.thrown.Thrown.{Thrown}
use Rattle.seq_values.specs.declared.words.Kind.{Kind}
use Rattle.seq_values.specs.declared.words.Op.{Op}
use Rattle.seq_values.specs.declared.words.Target.{Target}
use Rattle.seq_values.specs.Model.{Value, nil, bool, int, keyword, text, vector, function, reduced, cell, empty, cons, chunk, range, vec_seq, Values, no_values, ◌&◌, Term, Outcome, gave, threw}
use Rattle.seq_plan.specs.Sound.{is_fit}
use Rattle.seq_plan.specs.Plan.{Loop, Plan, visit, ask, seq, call, go, make, give, throw, Round, ends_with, fails, visits, calls_for, Rules, Told, begun, done, got, told_made}

-- Which cells are the same, and whether the nodes of both values have to be fit too. So one proof of a row shows that it looks at cells only to ask them, and that it makes no node without an element.
pub record Likeness (C D : Type 0) : Type 1 where
  pub same : C → D → Type 0
  pub sound : Bool

-- nothing is asked of the nodes
abbrev pub by : {C D : Type 0} → (C → D → Type 0) → Likeness C D
by same = record { same = same; sound = false }

-- cells that a test takes for the same
abbrev pub Tells : {C D : Type 0} → (C → D → Bool) → Likeness C D
Tells test = by (λ c d. test c d ≡ true)

-- the node is fit, where that is asked
abbrev pub Fit : {C D : Type 0} → Likeness C D → Value C → Type 0
Fit R v = R.sound ≡ true → is_fit v ≡ true

mutual
  pub data Like {C D : Type 0} (R : Likeness C D) : Value C → Value D → Type 0 where
    like_nil : Like R nil nil
    like_bool : {b : Bool} → Like R (bool b) (bool b)
    like_int : {n : ℤ} → Like R (int n) (int n)
    like_keyword : {name : List ℕ} → Like R (keyword name) (keyword name)
    like_text : {bytes : List ℕ} → Like R (text bytes) (text bytes)
    like_vector : {xs : Values C} {ys : Values D} → LikeAll R xs ys → Like R (vector xs) (vector ys)
    like_function : {t : Target} {xs : Values C} {ys : Values D} → LikeAll R xs ys → Like R (function t xs) (function t ys)
    like_reduced : {v : Value C} {w : Value D} → Like R v w → Like R (reduced v) (reduced w)
    like_cell : {c : C} {d : D} → R.same c d → Like R (cell c) (cell d)
    like_empty : Like R empty empty
    like_cons : {xs : Values C} {ys : Values D} {r : Value C} {s : Value D} → Fit R (cons xs r) → LikeAll R xs ys → Like R r s → Like R (cons xs r) (cons ys s)
    like_chunk : {xs : Values C} {ys : Values D} {r : Value C} {s : Value D} → Fit R (chunk xs r) → LikeAll R xs ys → Like R r s → Like R (chunk xs r) (chunk ys s)
    like_range : {from at end : ℤ} → Fit R (range from at end) → Like R (range from at end) (range from at end)
    like_vec_seq : {xs : Values C} {ys : Values D} {at : ℕ} → Fit R (vec_seq xs at) → LikeAll R xs ys → Like R (vec_seq xs at) (vec_seq ys at)

  pub data LikeAll {C D : Type 0} (R : Likeness C D) : Values C → Values D → Type 0 where
    like_none : LikeAll R no_values no_values
    like_more : {x : Value C} {y : Value D} {xs : Values C} {ys : Values D} → Like R x y → LikeAll R xs ys → LikeAll R (x & xs) (y & ys)

pub data LikeList {C D : Type 0} (R : Likeness C D) : List (Value C) → List (Value D) → Type 0 where
  like_end : LikeList R [] []
  like_item : {x : Value C} {y : Value D} {xs : List (Value C)} {ys : List (Value D)} → Like R x y → LikeList R xs ys → LikeList R (x ∷ xs) (y ∷ ys)

pub data LikeTerm {C D : Type 0} (R : Likeness C D) : Term C → Term D → Type 0 where
  like_term : {op : Op} {xs : List (Value C)} {ys : List (Value D)} → LikeList R xs ys → LikeTerm R (record { op = op; args = xs }) (record { op = op; args = ys })

pub data LikeOutcome {C D : Type 0} (R : Likeness C D) : Outcome C → Outcome D → Type 0 where
  like_gave : {v : Value C} {w : Value D} → Like R v w → LikeOutcome R (gave v) (gave w)
  like_threw : {e : Thrown} → LikeOutcome R (threw e) (threw e)

-- plans that do the same, each where the other does, and go on alike with like answers
pub data LikePlan {C D : Type 0} (R : Likeness C D) : Plan C → Plan D → Type 0 where
  like_visit : {p : Plan C} {q : Plan D} → LikePlan R p q → LikePlan R (visit p) (visit q)
  like_ask : {c : C} {d : D} {k : Value C → Plan C} {h : Value D → Plan D} → R.same c d → ((v : Value C) (w : Value D) → Like R v w → LikePlan R (k v) (h w)) → LikePlan R (ask c k) (ask d h)
  like_seq : {x : Value C} {y : Value D} {k : Value C → Plan C} {h : Value D → Plan D} → Like R x y → ((v : Value C) (w : Value D) → Like R v w → LikePlan R (k v) (h w)) → LikePlan R (seq x k) (seq y h)
  like_call : {f : Value C} {g : Value D} {xs : List (Value C)} {ys : List (Value D)} {k : Value C → Plan C} {h : Value D → Plan D} → Like R f g → LikeList R xs ys → ((v : Value C) (w : Value D) → Like R v w → LikePlan R (k v) (h w)) → LikePlan R (call f xs k) (call g ys h)
  like_go : {l : Loop} {xs : List (Value C)} {ys : List (Value D)} {k : Value C → Plan C} {h : Value D → Plan D} → LikeList R xs ys → ((v : Value C) (w : Value D) → Like R v w → LikePlan R (k v) (h w)) → LikePlan R (go l xs k) (go l ys h)
  like_make : {kind : Kind} {t : Term C} {u : Term D} {k : C → Plan C} {h : D → Plan D} → LikeTerm R t u → ((c : C) (d : D) → R.same c d → LikePlan R (k c) (h d)) → LikePlan R (make kind t k) (make kind u h)
  like_give : {v : Value C} {w : Value D} → Like R v w → LikePlan R (give v) (give w)
  like_throw : {e : Thrown} → LikePlan R (throw e) (throw e)

pub data LikeRound {C D : Type 0} (R : Likeness C D) : Round C → Round D → Type 0 where
  like_ends_with : {v : Value C} {w : Value D} → Like R v w → LikeRound R (ends_with v) (ends_with w)
  like_fails : {e : Thrown} → LikeRound R (fails e) (fails e)
  like_visits : {p : Plan C} {q : Plan D} → LikePlan R p q → LikeRound R (visits p) (visits q)
  like_calls_for : {f : Value C} {g : Value D} {xs : List (Value C)} {ys : List (Value D)} {k : Value C → Plan C} {h : Value D → Plan D} → Like R f g → LikeList R xs ys → ((v : Value C) (w : Value D) → Like R v w → LikePlan R (k v) (h w)) → LikeRound R (calls_for f xs k) (calls_for g ys h)

pub data LikeTold {C D : Type 0} (R : Likeness C D) : Told C → Told D → Type 0 where
  like_begun : LikeTold R begun begun
  like_done : LikeTold R done done
  like_got : {v : Value C} {w : Value D} → Like R v w → LikeTold R (got v) (got w)
  like_told_made : {c : C} {d : D} → R.same c d → LikeTold R (told_made c) (told_made d)

-- rules that look at cells only to ask them: like values have like plans
pub record LikeRules {C D : Type 0} (R : Likeness C D) (rules : Rules C) (others : Rules D) : Type 0 where
  pub calls : (t : Target) (bs : List (Value C)) (bs' : List (Value D)) (xs : List (Value C)) (ys : List (Value D)) → LikeList R bs bs' → LikeList R xs ys → LikePlan R (rules.on_call t bs xs) (others.on_call t bs' ys)
  pub terms : (op : Op) (xs : List (Value C)) (ys : List (Value D)) → LikeList R xs ys → LikePlan R (rules.on_term op xs) (others.on_term op ys)
  pub loops : (l : Loop) (xs : List (Value C)) (ys : List (Value D)) → LikeList R xs ys → LikeRound R (rules.on_loop l xs) (others.on_loop l ys)
  pub prints : (v : Value C) (w : Value D) → Like R v w → LikePlan R (rules.on_print v) (others.on_print w)

-- The rules of what works ahead look at cells only to ask them.
use Rattle.std.proofs.Common.{ℕ, ◌+◌, ℤ, pos, int_le, List, Option, refl}
use Rattle.seq_values.specs.declared.words.Builtin.{Builtin}
use Rattle.seq_values.specs.declared.words.Builtin.TheVariants as B
use Rattle.seq_values.specs.declared.words.Op.{Op}
use Rattle.seq_values.specs.declared.words.Op.TheVariants as O
use Rattle.seq_values.specs.Model.{Value}
use Rattle.seq_plan.specs.Plan.{Plan, Loop, ahead_from}
use Rattle.seq_plan.specs.Alike.{Likeness, Like, like_nil, like_int, like_cell, like_cons, like_none, like_more, LikeList, like_end, like_item, like_term, LikePlan, like_ask, like_seq, like_call, like_go, like_make, like_give, like_throw, LikeRound, like_ends_with, like_fails, like_visits}
use Rattle.seq_plan.proofs.AlikeNodes.{LikeChunk, like_unchunked, like_chunked, like-cond, like-append, like-first_of, like-rest_of, like-chunk_of, like-if_nil, like-round_at, like-give_value, like-ask_each}
use Rattle.seq_plan.proofs.AlikeLists.{like-lazily, like-first_and, like-items_and, like-with_seq, like-at_least_one}
use Rattle.ahead_rows.specs.Table.{ask_of, step, pmap_rule, pmap_call, start_each, rets_on, rets_rule, step_rule, derefs_on, derefs_rule, call_rule, seque_rule, seque_call, ahead_rule, ahead_one_round, ahead_of_rule, near_rule, ahead_call, ahead_term, ahead_round}

module _ {C D : Type 0} {R : Likeness C D} where
  like-ask_of : {v : Value C} {w : Value D} → Like R v w → {k : Value C → Plan C} {h : Value D → Plan D} → ((v : Value C) (w : Value D) → Like R v w → LikePlan R (k v) (h w)) → LikePlan R (ask_of v k) (ask_of w h)
  like-ask_of (like_cell r) f = like_ask r f
  like-ask_of like_nil f = like_throw
  like-ask_of _ f = like_throw

  -- ## pmap

  like-step : {v : Value C} {w : Value D} → Like R v w → {x : Value C} {y : Value D} → Like R x y → {k : C → Plan C} {h : D → Plan D} → ((c : C) (d : D) → R.same c d → LikePlan R (k c) (h d)) → LikePlan R (step v x k) (step w y h)
  like-step v x f =
      like_seq v (λ s t e. like-if_nil e
      (like_make (like_term (like_item like_nil (like_item like_nil (like_item v (like_item x like_end))))) f)
      (like_seq (like-rest_of e) (λ o p i. like_make (like_term (like_item (like-first_of e) (like_item i (like_item v (like_item x like_end))))) f)))

  like-pmap_rule : (processors : ℕ) {f c : Value C} {g d : Value D} → Like R f g → Like R c d → LikePlan R (pmap_rule processors f c) (pmap_rule processors g d)
  like-pmap_rule processors f c =
      like_make (like_term (like_item f (like_item c like_end))) (λ a b r.
      like_make (like_term (like_item (like_int {n = pos (2 + processors)}) (like_item (like_cell r) like_end))) (λ a b q.
      like-step (like_cell r) (like_cell q) (λ a b p. like_give (like_cell p))))

  like-pmap_call : (processors : ℕ) {xs : List (Value C)} {ys : List (Value D)} → LikeList R xs ys → LikePlan R (pmap_call processors xs) (pmap_call processors ys)
  like-pmap_call processors (like_item f (like_item c like_end)) = like-pmap_rule processors f c
  like-pmap_call processors _ = like_throw

  like-start_each : {f : Value C} {g : Value D} → Like R f g → {xs : List (Value C)} {ys : List (Value D)} → LikeList R xs ys → {zs : List (Value C)} {us : List (Value D)} → LikeList R zs us → {k : List (Value C) → Plan C} {h : List (Value D) → Plan D} → ((vs : List (Value C)) (ws : List (Value D)) → LikeList R vs ws → LikePlan R (k vs) (h ws)) → LikePlan R (start_each f zs xs k) (start_each g us ys h)
  like-start_each f like_end z k = k _ _ z
  like-start_each f (like_item p q) z k = like_make (like_term (like_item f (like_item p like_end))) (λ c d r. like-start_each f q (like-append z (like_item (like_cell r) like_end)) k)

  like-rets_on : {f s : Value C} {g t : Value D} → Like R f g → Like R s t → {c : Option (List (Value C) × Value C)} {d : Option (List (Value D) × Value D)} → LikeChunk R c d → LikePlan R (rets_on f s c) (rets_on g t d)
  like-rets_on f s like_unchunked = like_make (like_term (like_item f (like_item (like-first_of s) like_end))) (λ c d r. like-first_and (like_cell r) O.Rets (like_item f (like_item (like-rest_of s) like_end)))
  like-rets_on f s (like_chunked x r) = like-start_each f x like_end (λ vs ws e. like-items_and e O.Rets (like_item f (like_item r like_end)))

  like-rets_rule : (size : ℕ) {f c : Value C} {g d : Value D} → Like R f g → Like R c d → LikePlan R (rets_rule size f c) (rets_rule size g d)
  like-rets_rule size f c = like-with_seq c (λ s t e. like-rets_on f e (like-chunk_of size e))

  like-step_rule : {x xs vs fs : Value C} {y ys ws gs : Value D} → Like R x y → Like R xs ys → Like R vs ws → Like R fs gs → LikePlan R (step_rule x xs vs fs) (step_rule y ys ws gs)
  like-step_rule x xs vs fs =
      like_seq fs (λ s t e. like-if_nil e
      (like-lazily O.Derefs (like_item vs like_end))
      (like-ask_of x (λ v w i. like-step xs (like-rest_of e) (λ c d r. like-give_value (like_cons (λ s. refl) (like_more i like_none) (like_cell r))))))

  like-derefs_on : {s : Value C} {t : Value D} → Like R s t → {c : Option (List (Value C) × Value C)} {d : Option (List (Value D) × Value D)} → LikeChunk R c d → LikePlan R (derefs_on s c) (derefs_on t d)
  like-derefs_on s like_unchunked = like-ask_of (like-first_of s) (λ v w e. like-first_and e O.Derefs (like_item (like-rest_of s) like_end))
  like-derefs_on s (like_chunked x r) = like-ask_each x like_end (λ vs ws e. like-items_and e O.Derefs (like_item r like_end))

  like-derefs_rule : (size : ℕ) {c : Value C} {d : Value D} → Like R c d → LikePlan R (derefs_rule size c) (derefs_rule size d)
  like-derefs_rule size c = like-with_seq c (λ s t e. like-derefs_on e (like-chunk_of size e))

  like-call_rule : {f x : Value C} {g y : Value D} → Like R f g → Like R x y → LikePlan R (call_rule f x) (call_rule g y)
  like-call_rule f x = like_call f (like_item x like_end) (λ v w e. like_give e)

  -- ## seque

  like-seque_rule : (n : ℤ) {c : Value C} {d : Value D} → Like R c d → LikePlan R (seque_rule n c) (seque_rule n d)
  like-seque_rule n c = like_make (like_term (like_item like_int (like_item c like_end))) (λ a b r. like-lazily O.Near (like_item c (like_item (like_cell r) like_end)))

  like-seque_call : {xs : List (Value C)} {ys : List (Value D)} → LikeList R xs ys → LikePlan R (seque_call xs) (seque_call ys)
  like-seque_call (like_item (like_int {n = n}) (like_item c like_end)) = like-at_least_one n (like-seque_rule n c)
  like-seque_call (like_item _ (like_item c like_end)) = like_throw
  like-seque_call _ = like_throw

  like-ahead_rule : (n : ℤ) {c : Value C} {d : Value D} → Like R c d → LikePlan R (ahead_rule n c) (ahead_rule n d)
  like-ahead_rule n c = like-cond (int_le n (pos 0)) (like_give c) (like_seq c (λ s t e. like_go (like_item like_int (like_item c (like_item e like_end))) (λ v w i. like_give i)))

  like-ahead_one_round : {xs : List (Value C)} {ys : List (Value D)} → LikeList R xs ys → LikeRound R (ahead_one_round xs) (ahead_one_round ys)
  like-ahead_one_round (like_item (like_int {n = n}) (like_item c (like_item s like_end))) =
      like-round_at s
      (like_ends_with c)
      (like_visits (like-cond (int_le n (pos 1))
      (like_give (like-rest_of s))
      (like_seq (like-rest_of s) (λ t u e. like_go (like_item like_int (like_item (like-rest_of s) (like_item e like_end))) (λ v w i. like_give i)))))
  like-ahead_one_round _ = like_fails

  like-ahead_of_rule : {c : Value C} {d : Value D} → Like R c d → LikePlan R (ahead_of_rule c) (ahead_of_rule d)
  like-ahead_of_rule a = like-ask_of a (λ v w e. like-ahead_rule (pos 1) e)

  like-near_rule : {c a : Value C} {d b : Value D} → Like R c d → Like R a b → LikePlan R (near_rule c a) (near_rule d b)
  like-near_rule c a = like-with_seq c (λ s t e. like_make (like_term (like_item a like_end)) (λ m n r. like-first_and (like-first_of e) O.Near (like_item (like-rest_of e) (like_item (like_cell r) like_end))))

  -- ## Gathered

  pub like-ahead_call : (processors : ℕ) (word : Builtin) {xs : List (Value C)} {ys : List (Value D)} → LikeList R xs ys → LikePlan R (ahead_call processors word xs) (ahead_call processors word ys)
  like-ahead_call processors B.Pmap h = like-pmap_call processors h
  like-ahead_call processors B.Seque h = like-seque_call h
  like-ahead_call processors _ h = like_throw

  pub like-ahead_term : (size : ℕ) (op : Op) {xs : List (Value C)} {ys : List (Value D)} → LikeList R xs ys → LikePlan R (ahead_term size op xs) (ahead_term size op ys)
  like-ahead_term size O.Rets (like_item f (like_item c like_end)) = like-rets_rule size f c
  like-ahead_term size O.Step (like_item x (like_item xs (like_item vs (like_item fs like_end)))) = like-step_rule x xs vs fs
  like-ahead_term size O.Derefs (like_item c like_end) = like-derefs_rule size c
  like-ahead_term size O.Call (like_item f (like_item x like_end)) = like-call_rule f x
  like-ahead_term size O.Ahead (like_item (like_int {n = n}) (like_item c like_end)) = like-ahead_rule n c
  like-ahead_term size O.AheadOf (like_item a like_end) = like-ahead_of_rule a
  like-ahead_term size O.Near (like_item c (like_item a like_end)) = like-near_rule c a
  like-ahead_term size _ _ = like_throw

  pub like-ahead_round : (l : Loop) {xs : List (Value C)} {ys : List (Value D)} → LikeList R xs ys → LikeRound R (ahead_round l xs) (ahead_round l ys)
  like-ahead_round ahead_from h = like-ahead_one_round h
  like-ahead_round _ h = like_fails

-- The rules of the words that walk look at cells only to ask them.
use Rattle.std.proofs.Common.{◌≡◌, ◌-◌, ℤ, pos, ◌+ℤ◌, ◌-ℤ◌, int_lt, int_le, ◌&&◌, cond, List, ◌∷◌, length, subst}
use Rattle.seq_values.specs.Model.{Value, int, list}
use Rattle.seq_plan.specs.Plan.{Plan, go, give, nth_from, plan_of}
use Rattle.seq_plan.specs.Alike.{Likeness, Like, like_nil, like_int, like_vector, like_function, like_reduced, like_cell, like_range, like_vec_seq, like_none, LikeList, like_end, like_item, LikePlan, like_seq, like_call, like_go, like_give, like_throw, LikeRound, like_ends_with, like_fails, like_visits}
use Rattle.seq_plan.proofs.AlikeNodes.{like-cond, like-values, like-list, like-append, like-length, like-value_at, like-first_of, like-rest_of, like-round_at, like-with_value, like-give_value, like-with_members, made_alike}
use Rattle.seq_plan.proofs.AlikeLists.{like-reverse, like-list_of, like-with_first}
use Rattle.seq_plan.proofs.AlikeTests.{like-is_nil, like-bools, like-cond_round}
use Rattle.seq_plan.proofs.AlikePlans.{like-plan_of}
use Rattle.lazy_rows.specs.Walks.{greatest, first_rule, second_rule, rest_rule, next_rule, empty_rule, failing, nth_of_nil, nth_of_vector, nth_rule, nth_call, nth_round, last_rule, last_round, count_rule, count_ends, count_goes_on, count_on, count_round, gather_round, members, gather, vec_rule, reverse_rule, apply_rule, apply_call, doall_rule, doall_round, every_call, every_round, some_call, some_round, cons_call, with_one_more, conj_each, conj_rule, conj_call, unless_reduced, reduce_round, reduce_rule, reduce_call, into_call}

module _ {C D : Type 0} {R : Likeness C D} where
  -- ## seq, first, second, rest, next, empty?

  pub like-first_rule : {v : Value C} {w : Value D} → Like R v w → LikePlan R (first_rule v) (first_rule w)
  like-first_rule h = search made_alike depth 12

  pub like-second_rule : {v : Value C} {w : Value D} → Like R v w → LikePlan R (second_rule v) (second_rule w)
  like-second_rule h = search (made_alike, like-first_rule) depth 12

  pub like-rest_rule : {v : Value C} {w : Value D} → Like R v w → LikePlan R (rest_rule v) (rest_rule w)
  like-rest_rule h = search made_alike depth 12

  pub like-next_rule : {v : Value C} {w : Value D} → Like R v w → LikePlan R (next_rule v) (next_rule w)
  like-next_rule h = search made_alike depth 12

  pub like-empty_rule : {v : Value C} {w : Value D} → Like R v w → LikePlan R (empty_rule v) (empty_rule w)
  like-empty_rule h = like_seq h (λ v w e. like_give (like-bools (like-is_nil e)))

  -- ## nth

  like-failing : {xs : List (Value C)} {ys : List (Value D)} → LikeList R xs ys → LikeRound R (failing xs) (failing ys)
  like-failing like_end = like_fails
  like-failing (like_item p q) = like_ends_with p

  like-nth_of_nil : {xs : List (Value C)} {ys : List (Value D)} → LikeList R xs ys → LikePlan R (nth_of_nil xs) (nth_of_nil ys)
  like-nth_of_nil like_end = like_give like_nil
  like-nth_of_nil (like_item p q) = like_give p

  like-nth_of_vector : (i : ℤ) {ds : List (Value C)} {es : List (Value D)} → LikeList R ds es → {xs : List (Value C)} {ys : List (Value D)} → LikeList R xs ys → LikePlan R (nth_of_vector i ds xs) (nth_of_vector i es ys)
  like-nth_of_vector i h {xs = xs} {ys = ys} p =
      let e : length xs ≡ length ys = like-length p in
      rw (← e) (like-cond (int_le (pos 0) i && int_lt i (pos (length xs))) (like_give (like-value_at p _)) (like-plan_of (like-failing h)))

  like-nth_of_seq : (i : ℤ) {ds : List (Value C)} {es : List (Value D)} → LikeList R ds es → {v : Value C} {w : Value D} → Like R v w → LikePlan R (cond (int_lt i (pos 0)) (plan_of (failing ds)) (go nth_from (int i ∷ v ∷ ds) give)) (cond (int_lt i (pos 0)) (plan_of (failing es)) (go nth_from (int i ∷ w ∷ es) give))
  like-nth_of_seq i h e = like-cond (int_lt i (pos 0)) (like-plan_of (like-failing h)) (like_go (like_item like_int (like_item e h)) (λ v w i. like_give i))

  like-nth_rule : (i : ℤ) {ds : List (Value C)} {es : List (Value D)} → LikeList R ds es → {v : Value C} {w : Value D} → Like R v w → LikePlan R (nth_rule i ds v) (nth_rule i es w)
  like-nth_rule i h like_nil = like-nth_of_nil h
  like-nth_rule i h (like_vector p) = like-nth_of_vector i h (like-list p)
  like-nth_rule i h p = like_seq p (λ v w e. like-nth_of_seq i h e)

  pub like-nth_call : {xs : List (Value C)} {ys : List (Value D)} → LikeList R xs ys → LikePlan R (nth_call xs) (nth_call ys)
  like-nth_call (like_item c (like_item (like_int {n = i}) like_end)) = like-nth_rule i like_end c
  like-nth_call (like_item c (like_item (like_int {n = i}) (like_item d like_end))) = like-nth_rule i (like_item d like_end) c
  like-nth_call (like_item c (like_item _ like_end)) = like_throw
  like-nth_call (like_item c (like_item _ (like_item d like_end))) = like_throw
  like-nth_call _ = like_throw

  pub like-nth_round : {xs : List (Value C)} {ys : List (Value D)} → LikeList R xs ys → LikeRound R (nth_round xs) (nth_round ys)
  like-nth_round (like_item (like_int {n = n}) (like_item s h)) =
      like-round_at s
      (like-failing h)
      (like-cond_round (int_le n (pos 0))
      (like_ends_with (like-first_of s))
      (like_visits (like_seq (like-rest_of s) (λ t u e. like_go (like_item like_int (like_item e h)) (λ v w i. like_give i)))))
  like-nth_round _ = like_fails

  -- ## last, count

  pub like-last_rule : {v : Value C} {w : Value D} → Like R v w → LikePlan R (last_rule v) (last_rule w)
  like-last_rule h = search made_alike depth 12

  pub like-last_round : {xs : List (Value C)} {ys : List (Value D)} → LikeList R xs ys → LikeRound R (last_round xs) (last_round ys)
  like-last_round (like_item x (like_item s like_end)) = search made_alike depth 12
  like-last_round _ = like_fails

  pub like-count_rule : {v : Value C} {w : Value D} → Like R v w → LikePlan R (count_rule v) (count_rule w)
  like-count_rule like_nil = like_give like_int
  like-count_rule (like_vector {xs = xs} h) = subst (λ n. LikePlan R (give (int (pos (length (list xs))))) (give (int (pos n)))) (like-length (like-list h)) (like_give like_int)
  like-count_rule h = like_seq h (λ v w e. like_go (like_item like_int (like_item e like_end)) (λ v w i. like_give i))

  like-count_ends : (n : ℤ) → LikeRound R (count_ends n) (count_ends n)
  like-count_ends n = like-cond_round _ (like_ends_with like_int) like_fails

  like-count_goes_on : (n : ℤ) {v : Value C} {w : Value D} → Like R v w → LikePlan R (count_goes_on n v) (count_goes_on n w)
  like-count_goes_on n h = like-cond (int_le n greatest) (like_seq (like-rest_of h) (λ t u e. like_go (like_item like_int (like_item e like_end)) (λ v w i. like_give i))) like_throw

  like-count_on : (n : ℤ) {v : Value C} {w : Value D} → Like R v w → LikeRound R (count_on n v) (count_on n w)
  like-count_on n like_nil = like_ends_with like_int
  like-count_on n (like_range {at = at} {end = end} m) = like-count_ends (n +ℤ (end -ℤ at))
  like-count_on n (like_vec_seq {xs = xs} {at = at} m h) = subst (λ m. LikeRound R (count_ends (n +ℤ pos (length (list xs) - at))) (count_ends (n +ℤ pos (m - at)))) (like-length (like-list h)) (like-count_ends (n +ℤ pos (length (list xs) - at)))
  like-count_on n h = like_visits (like-count_goes_on (n +ℤ pos 1) h)

  pub like-count_round : {xs : List (Value C)} {ys : List (Value D)} → LikeList R xs ys → LikeRound R (count_round xs) (count_round ys)
  like-count_round (like_item (like_int {n = n}) (like_item s like_end)) = like-count_on n s
  like-count_round _ = like_fails

  -- ## vec, reverse, apply

  pub like-gather_round : {xs : List (Value C)} {ys : List (Value D)} → LikeList R xs ys → LikeRound R (gather_round xs) (gather_round ys)
  like-gather_round (like_item (like_vector h) (like_item s like_end)) =
      like-round_at s
      (like_ends_with (like_vector h))
      (like_visits (like-with_members (like-append (like-list h) (like_item (like-first_of s) like_end)) (λ vs ws e. like_seq (like-rest_of s) (λ t u i. like_go (like_item (like_vector (like-values e)) (like_item i like_end)) (λ v w o. like_give o)))))
  like-gather_round _ = like_fails

  like-members : {v : Value C} {w : Value D} → Like R v w → LikeList R (members v) (members w)
  like-members (like_vector h) = like-list h
  like-members _ = like_end

  like-gather : {xs : List (Value C)} {ys : List (Value D)} → LikeList R xs ys → {v : Value C} {w : Value D} → Like R v w → {k : List (Value C) → Plan C} {h : List (Value D) → Plan D} → ((vs : List (Value C)) (ws : List (Value D)) → LikeList R vs ws → LikePlan R (k vs) (h ws)) → LikePlan R (gather xs v k) (gather ys w h)
  like-gather p c f = like_seq c (λ s t e. like_go (like_item (like_vector (like-values p)) (like_item e like_end)) (λ v w i. f _ _ (like-members i)))

  pub like-vec_rule : {v : Value C} {w : Value D} → Like R v w → LikePlan R (vec_rule v) (vec_rule w)
  like-vec_rule (like_vector h) = like_give (like_vector h)
  like-vec_rule like_nil = like-gather like_end like_nil (λ vs ws e. like-give_value (like_vector (like-values e)))
  like-vec_rule h = like-gather like_end h (λ vs ws e. like-give_value (like_vector (like-values e)))

  pub like-reverse_rule : {v : Value C} {w : Value D} → Like R v w → LikePlan R (reverse_rule v) (reverse_rule w)
  like-reverse_rule h = like-gather like_end h (λ vs ws e. like-give_value (like-list_of (like-reverse e)))

  like-apply_rule : {f : Value C} {g : Value D} → Like R f g → {xs : List (Value C)} {ys : List (Value D)} → LikeList R xs ys → {zs : List (Value C)} {us : List (Value D)} → LikeList R zs us → LikePlan R (apply_rule f zs xs) (apply_rule g us ys)
  like-apply_rule f like_end p = like_throw
  like-apply_rule f (like_item c like_end) p = like-gather p c (λ vs ws e. like_call f e (λ v w i. like_give i))
  like-apply_rule f (like_item x (like_item y q)) p = like-apply_rule f (like_item y q) (like-append p (like_item x like_end))

  pub like-apply_call : {xs : List (Value C)} {ys : List (Value D)} → LikeList R xs ys → LikePlan R (apply_call xs) (apply_call ys)
  like-apply_call like_end = like_throw
  like-apply_call (like_item f h) = like-apply_rule f h like_end

  -- ## doall, every?, some

  pub like-doall_rule : {v : Value C} {w : Value D} → Like R v w → LikePlan R (doall_rule v) (doall_rule w)
  like-doall_rule h = search made_alike depth 12

  pub like-doall_round : {xs : List (Value C)} {ys : List (Value D)} → LikeList R xs ys → LikeRound R (doall_round xs) (doall_round ys)
  like-doall_round (like_item c (like_item s like_end)) = search made_alike depth 12
  like-doall_round _ = like_fails

  pub like-every_call : {xs : List (Value C)} {ys : List (Value D)} → LikeList R xs ys → LikePlan R (every_call xs) (every_call ys)
  like-every_call (like_item p (like_item c like_end)) = search made_alike depth 12
  like-every_call _ = like_throw

  pub like-every_round : {xs : List (Value C)} {ys : List (Value D)} → LikeList R xs ys → LikeRound R (every_round xs) (every_round ys)
  like-every_round (like_item p (like_item s like_end)) = search made_alike depth 14
  like-every_round _ = like_fails

  pub like-some_call : {xs : List (Value C)} {ys : List (Value D)} → LikeList R xs ys → LikePlan R (some_call xs) (some_call ys)
  like-some_call (like_item p (like_item c like_end)) = search made_alike depth 12
  like-some_call _ = like_throw

  pub like-some_round : {xs : List (Value C)} {ys : List (Value D)} → LikeList R xs ys → LikeRound R (some_round xs) (some_round ys)
  like-some_round (like_item p (like_item s like_end)) = search made_alike depth 14
  like-some_round _ = like_fails

  -- ## cons, conj

  pub like-cons_call : {xs : List (Value C)} {ys : List (Value D)} → LikeList R xs ys → LikePlan R (cons_call xs) (cons_call ys)
  like-cons_call (like_item x (like_item c like_end)) = like-with_first x c (λ v w e. like_give e)
  like-cons_call _ = like_throw

  like-with_one_more : {v : Value C} {w : Value D} → Like R v w → {x : Value C} {y : Value D} → Like R x y → {k : Value C → Plan C} {h : Value D → Plan D} → ((v : Value C) (w : Value D) → Like R v w → LikePlan R (k v) (h w)) → LikePlan R (with_one_more v x k) (with_one_more w y h)
  like-with_one_more (like_vector p) x f = like-with_members (like-append (like-list p) (like_item x like_end)) (λ vs ws e. like-with_value (like_vector (like-values e)) f)
  like-with_one_more like_nil x f = like-with_first x like_nil f
  like-with_one_more p x f = like-with_first x p f

  like-conj_each : {xs : List (Value C)} {ys : List (Value D)} → LikeList R xs ys → {v : Value C} {w : Value D} → Like R v w → LikePlan R (conj_each v xs) (conj_each w ys)
  like-conj_each like_end h = like_give h
  like-conj_each (like_item p q) h = like-with_one_more h p (λ v w e. like-conj_each q e)

  like-conj_rule : {v : Value C} {w : Value D} → Like R v w → {xs : List (Value C)} {ys : List (Value D)} → LikeList R xs ys → LikePlan R (conj_rule v xs) (conj_rule w ys)
  like-conj_rule (like_cell r) q = like_seq (like_cell r) (λ s t e. like-conj_each q e)
  like-conj_rule like_nil q = like-conj_each q like_nil
  like-conj_rule h q = like-conj_each q h

  pub like-conj_call : {xs : List (Value C)} {ys : List (Value D)} → LikeList R xs ys → LikePlan R (conj_call xs) (conj_call ys)
  like-conj_call like_end = like_give (like_vector like_none)
  like-conj_call (like_item c like_end) = like_give c
  like-conj_call (like_item c (like_item x h)) = like-conj_rule c (like_item x h)

  -- ## reduce, into

  like-unless : {v : Value C} {w : Value D} {p : Plan C} {q : Plan D} → Like R v w → LikePlan R p q → LikePlan R (unless_reduced v p) (unless_reduced w q)
  like-unless (like_reduced h) k = like_give h
  like-unless like_nil k = k
  like-unless _ k = k

  pub like-reduce_round : {xs : List (Value C)} {ys : List (Value D)} → LikeList R xs ys → LikeRound R (reduce_round xs) (reduce_round ys)
  like-reduce_round (like_item f (like_item x (like_item s like_end))) = search (made_alike, like-unless) depth 14
  like-reduce_round _ = like_fails

  like-reduce_rule : {f : Value C} {g : Value D} → Like R f g → {i : Value C} {j : Value D} → Like R i j → {c : Value C} {d : Value D} → Like R c d → LikePlan R (reduce_rule f i c) (reduce_rule g j d)
  like-reduce_rule f i c = search made_alike depth 12

  pub like-reduce_call : {xs : List (Value C)} {ys : List (Value D)} → LikeList R xs ys → LikePlan R (reduce_call xs) (reduce_call ys)
  like-reduce_call (like_item f (like_item c like_end)) = search made_alike depth 14
  like-reduce_call (like_item f (like_item i (like_item c like_end))) = like-reduce_rule f i c
  like-reduce_call _ = like_throw

  pub like-into_call : {xs : List (Value C)} {ys : List (Value D)} → LikeList R xs ys → LikePlan R (into_call xs) (into_call ys)
  like-into_call (like_item t (like_item c like_end)) = like-reduce_rule (like_function like_none) t c
  like-into_call _ = like_throw

-- The rules of the words that walk keep to well-formed values.
use Rattle.std.proofs.Common.{◌-◌, ℤ, pos, ◌+ℤ◌, ◌-ℤ◌, int_lt, int_le, ◌&&◌, List, [], ◌∷◌, ◌++◌, length, refl}
use Rattle.seq_values.specs.Model.{Value, vector, list, values}
use Rattle.seq_plan.specs.Plan.{Plan, seq, go, give, gather_from}
use Rattle.seq_plan.specs.Nodes.{first_of, rest_of, with_value}
use Rattle.seq_plan.specs.WellFormed.{Well, well_nil, well_bool, well_int, well_vector, well_function, well_reduced, well_cell, well_empty, well_range, well_vec_seq, well_none, WellList, well_end, well_item}
use Rattle.seq_plan.specs.Keeping.{Gathering, gathering, Gathered, gathered, Keeps, keeps_visit, keeps_seq, keeps_call, keeps_go, keeps_give, keeps_throw, KeepsRound, keeps_end, keeps_fail, keeps_visits}
use Rattle.seq_plan.proofs.WellNodes.{well-list, well-values, well-append, well-value_at, well-first_of, well-rest_of, keeps-either, keeps-if_nil, keeps-if_true, keeps-cond_round, keeps-round_at, keeps-with_value, keeps-with_members, keeps-give_value}
use Rattle.seq_plan.proofs.WellLists.{well-reverse, well-list_of, keeps-with_first}
use Rattle.seq_plan.proofs.WellPlans.{keeps-plan_of}
use Rattle.lazy_rows.specs.Walks.{greatest, first_rule, second_rule, rest_rule, next_rule, empty_rule, failing, nth_of_nil, nth_of_vector, nth_rule, nth_call, nth_round, last_rule, last_round, count_rule, count_ends, count_goes_on, count_on, count_round, gather_round, members, gather, vec_rule, reverse_rule, apply_rule, apply_call, doall_rule, doall_round, every_call, every_round, some_call, some_round, cons_call, with_one_more, conj_each, conj_rule, conj_call, unless_reduced, reduce_round, reduce_rule, reduce_call, into_call}

module _ {C : Type 0} where
  -- ## seq, first, second, rest, next, empty?

  pub keeps-first_rule : {v : Value C} → Well v → Keeps Well (first_rule v)
  keeps-first_rule h = keeps_seq h (λ s w e. keeps-if_nil s (keeps_give well_nil) (keeps_give (well-first_of w)))

  pub keeps-second_rule : {v : Value C} → Well v → Keeps Well (second_rule v)
  keeps-second_rule h = keeps_seq h (λ s w e. keeps-if_nil s (keeps_give well_nil) (keeps-first_rule (well-rest_of w)))

  pub keeps-rest_rule : {v : Value C} → Well v → Keeps Well (rest_rule v)
  keeps-rest_rule h = keeps_seq h (λ s w e. keeps-if_nil s (keeps_give well_empty) (keeps_give (well-rest_of w)))

  pub keeps-next_rule : {v : Value C} → Well v → Keeps Well (next_rule v)
  keeps-next_rule h = keeps_seq h (λ s w e. keeps-if_nil s (keeps_give well_nil) (keeps_seq (well-rest_of w) (λ t u i. keeps_give u)))

  pub keeps-empty_rule : {v : Value C} → Well v → Keeps Well (empty_rule v)
  keeps-empty_rule h = keeps_seq h (λ s w e. keeps_give well_bool)

  -- ## nth

  keeps-failing : {ds : List (Value C)} → WellList ds → KeepsRound Well (failing ds)
  keeps-failing well_end = keeps_fail
  keeps-failing (well_item p q) = keeps_end p

  keeps-nth_of_nil : {ds : List (Value C)} → WellList ds → Keeps Well (nth_of_nil ds)
  keeps-nth_of_nil well_end = keeps_give well_nil
  keeps-nth_of_nil (well_item p q) = keeps_give p

  keeps-nth_of_vector : (i : ℤ) {ds xs : List (Value C)} → WellList ds → WellList xs → Keeps Well (nth_of_vector i ds xs)
  keeps-nth_of_vector i {xs = xs} h p = keeps-either (int_le (pos 0) i && int_lt i (pos (length xs))) (keeps_give (well-value_at p _)) (keeps-plan_of (keeps-failing h))

  keeps-nth_rule : (i : ℤ) {ds : List (Value C)} → WellList ds → {v : Value C} → Well v → Keeps Well (nth_rule i ds v)
  keeps-nth_rule i h well_nil = keeps-nth_of_nil h
  keeps-nth_rule i h (well_vector d p) = keeps-nth_of_vector i h (well-list p)
  keeps-nth_rule i h p = keeps_seq p (λ s w e. keeps-either (int_lt i (pos 0)) (keeps-plan_of (keeps-failing h)) (keeps_go (well_item well_int (well_item w h)) (λ v g. keeps_give g)))

  pub keeps-nth_call : {xs : List (Value C)} → WellList xs → Keeps Well (nth_call xs)
  keeps-nth_call (well_item c (well_item (well_int {n = i}) well_end)) = keeps-nth_rule i well_end c
  keeps-nth_call (well_item c (well_item (well_int {n = i}) (well_item d well_end))) = keeps-nth_rule i (well_item d well_end) c
  keeps-nth_call (well_item c (well_item _ well_end)) = keeps_throw
  keeps-nth_call (well_item c (well_item _ (well_item d well_end))) = keeps_throw
  keeps-nth_call _ = keeps_throw

  pub keeps-nth_round : {xs : List (Value C)} → WellList xs → KeepsRound Well (nth_round xs)
  keeps-nth_round (well_item (well_int {n = n}) (well_item {x = s} w h)) =
      keeps-round_at s
      (keeps-failing h)
      (keeps-cond_round (int_le n (pos 0))
      (keeps_end (well-first_of w))
      (keeps_visits (keeps_seq (well-rest_of w) (λ t u e. keeps_go (well_item well_int (well_item u h)) (λ v g. keeps_give g)))))
  keeps-nth_round _ = keeps_fail

  -- ## last, count

  pub keeps-last_rule : {v : Value C} → Well v → Keeps Well (last_rule v)
  keeps-last_rule h = keeps_seq h (λ s w e. keeps_go (well_item well_nil (well_item w well_end)) (λ v g. keeps_give g))

  pub keeps-last_round : {xs : List (Value C)} → WellList xs → KeepsRound Well (last_round xs)
  keeps-last_round (well_item x (well_item {x = s} w well_end)) = keeps-round_at s (keeps_end x) (keeps_visits (keeps_seq (well-rest_of w) (λ t u e. keeps_go (well_item (well-first_of w) (well_item u well_end)) (λ v g. keeps_give g))))
  keeps-last_round _ = keeps_fail

  pub keeps-count_rule : {v : Value C} → Well v → Keeps Well (count_rule v)
  keeps-count_rule well_nil = keeps_give well_int
  keeps-count_rule (well_vector d h) = keeps_give well_int
  keeps-count_rule h = keeps_seq h (λ s w e. keeps_go (well_item well_int (well_item w well_end)) (λ v g. keeps_give g))

  keeps-count_ends : (n : ℤ) → KeepsRound {C = C} Well (count_ends n)
  keeps-count_ends n = keeps-cond_round _ (keeps_end well_int) keeps_fail

  keeps-count_goes_on : (n : ℤ) {v : Value C} → Well v → Keeps Well (count_goes_on n v)
  keeps-count_goes_on n h = keeps-either (int_le n greatest) (keeps_seq (well-rest_of h) (λ t u e. keeps_go (well_item well_int (well_item u well_end)) (λ v g. keeps_give g))) keeps_throw

  keeps-count_on : (n : ℤ) {v : Value C} → Well v → KeepsRound Well (count_on n v)
  keeps-count_on n well_nil = keeps_end well_int
  keeps-count_on n (well_range {at = at} {end = end} m) = keeps-count_ends (n +ℤ (end -ℤ at))
  keeps-count_on n (well_vec_seq {xs = xs} {at = at} m d h) = keeps-count_ends (n +ℤ pos (length (list xs) - at))
  keeps-count_on n h = keeps_visits (keeps-count_goes_on (n +ℤ pos 1) h)

  pub keeps-count_round : {xs : List (Value C)} → WellList xs → KeepsRound Well (count_round xs)
  keeps-count_round (well_item (well_int {n = n}) (well_item s well_end)) = keeps-count_on n s
  keeps-count_round _ = keeps_fail

  -- ## vec, reverse, apply

  pub keeps-gather_round : {xs : List (Value C)} → Gathering xs → KeepsRound Gathered (gather_round xs)
  keeps-gather_round (gathering {xs = xs} {s = s} h w) =
      keeps-round_at s
      (keeps_end (gathered h))
      (keeps_visits (keeps-with_members (list xs ++ first_of s ∷ []) (λ ys. seq (rest_of s) (λ t. go gather_from (vector (values ys) ∷ t ∷ []) give))
      (keeps_seq (well-rest_of w) (λ t u e. keeps_go (gathering (well-values (well-append (well-list h) (well_item (well-first_of w) well_end))) u) (λ v g. keeps_give g)))))

  well-members : {v : Value C} → Gathered v → WellList (members v)
  well-members (gathered h) = well-list h

  keeps-gather : {xs : List (Value C)} → WellList xs → {v : Value C} → Well v → {k : List (Value C) → Plan C} → ((ys : List (Value C)) → WellList ys → Keeps Well (k ys)) → Keeps Well (gather xs v k)
  keeps-gather p c f = keeps_seq c (λ s w e. keeps_go (gathering (well-values p) w) (λ v g. f _ (well-members g)))

  keeps-vec : {v : Value C} → Well v → Keeps Well (gather [] v (λ xs. with_value (vector (values xs)) give))
  keeps-vec h = keeps-gather well_end h {k = λ xs. with_value (vector (values xs)) give} (λ ys w. keeps-give_value (λ d. well_vector d (well-values w)))

  pub keeps-vec_rule : {v : Value C} → Well v → Keeps Well (vec_rule v)
  keeps-vec_rule (well_vector d h) = keeps_give (well_vector d h)
  keeps-vec_rule well_nil = keeps-vec well_nil
  keeps-vec_rule h = keeps-vec h

  pub keeps-reverse_rule : {v : Value C} → Well v → Keeps Well (reverse_rule v)
  keeps-reverse_rule h = keeps-gather well_end h (λ ys w. keeps-give_value (well-list_of (well-reverse w)))

  keeps-apply_rule : {f : Value C} → Well f → {xs : List (Value C)} → WellList xs → {ys : List (Value C)} → WellList ys → Keeps Well (apply_rule f ys xs)
  keeps-apply_rule f well_end p = keeps_throw
  keeps-apply_rule f (well_item c well_end) p = keeps-gather p c (λ ys w. keeps_call f w (λ v u. keeps_give u))
  keeps-apply_rule f (well_item x (well_item y q)) p = keeps-apply_rule f (well_item y q) (well-append p (well_item x well_end))

  pub keeps-apply_call : {xs : List (Value C)} → WellList xs → Keeps Well (apply_call xs)
  keeps-apply_call well_end = keeps_throw
  keeps-apply_call (well_item f h) = keeps-apply_rule f h well_end

  -- ## doall, every?, some

  pub keeps-doall_rule : {v : Value C} → Well v → Keeps Well (doall_rule v)
  keeps-doall_rule h = keeps_seq h (λ s w e. keeps_go (well_item h (well_item w well_end)) (λ v g. keeps_give g))

  pub keeps-doall_round : {xs : List (Value C)} → WellList xs → KeepsRound Well (doall_round xs)
  keeps-doall_round (well_item c (well_item {x = s} w well_end)) = keeps-round_at s (keeps_end c) (keeps_visits (keeps_seq (well-rest_of w) (λ t u e. keeps_go (well_item c (well_item u well_end)) (λ v g. keeps_give g))))
  keeps-doall_round _ = keeps_fail

  pub keeps-every_call : {xs : List (Value C)} → WellList xs → Keeps Well (every_call xs)
  keeps-every_call (well_item p (well_item c well_end)) = keeps_seq c (λ s w e. keeps_go (well_item p (well_item w well_end)) (λ v g. keeps_give g))
  keeps-every_call _ = keeps_throw

  pub keeps-every_round : {xs : List (Value C)} → WellList xs → KeepsRound Well (every_round xs)
  keeps-every_round (well_item p (well_item {x = s} w well_end)) =
      keeps-round_at s
      (keeps_end well_bool)
      (keeps_visits (keeps_call p (well_item (well-first_of w) well_end) (λ y i. keeps-if_true y (keeps_seq (well-rest_of w) (λ t u e. keeps_go (well_item p (well_item u well_end)) (λ v g. keeps_give g))) (keeps_give well_bool))))
  keeps-every_round _ = keeps_fail

  pub keeps-some_call : {xs : List (Value C)} → WellList xs → Keeps Well (some_call xs)
  keeps-some_call (well_item p (well_item c well_end)) = keeps_seq c (λ s w e. keeps_go (well_item p (well_item w well_end)) (λ v g. keeps_give g))
  keeps-some_call _ = keeps_throw

  pub keeps-some_round : {xs : List (Value C)} → WellList xs → KeepsRound Well (some_round xs)
  keeps-some_round (well_item p (well_item {x = s} w well_end)) =
      keeps-round_at s
      (keeps_end well_nil)
      (keeps_visits (keeps_call p (well_item (well-first_of w) well_end) (λ y i. keeps-if_true y (keeps_give i) (keeps_seq (well-rest_of w) (λ t u e. keeps_go (well_item p (well_item u well_end)) (λ v g. keeps_give g))))))
  keeps-some_round _ = keeps_fail

  -- ## cons, conj

  pub keeps-cons_call : {xs : List (Value C)} → WellList xs → Keeps Well (cons_call xs)
  keeps-cons_call (well_item x (well_item c well_end)) = keeps-with_first x c (λ v w. keeps_give w)
  keeps-cons_call _ = keeps_throw

  keeps-with_one_more : {v : Value C} → Well v → {x : Value C} → Well x → {k : Value C → Plan C} → ((v : Value C) → Well v → Keeps Well (k v)) → Keeps Well (with_one_more v x k)
  keeps-with_one_more (well_vector {xs = xs} d p) {x = x} w {k = k} f =
      let e = well-append (well-list p) (well_item w well_end) in
      keeps-with_members (list xs ++ x ∷ []) (λ ys. with_value (vector (values ys)) k) (keeps-with_value _ k (λ d. f _ (well_vector d (well-values e))))
  keeps-with_one_more well_nil x f = keeps-with_first x well_nil f
  keeps-with_one_more p x f = keeps-with_first x p f

  keeps-conj_each : {xs : List (Value C)} → WellList xs → {v : Value C} → Well v → Keeps Well (conj_each v xs)
  keeps-conj_each well_end h = keeps_give h
  keeps-conj_each (well_item p q) h = keeps-with_one_more h p (λ v w. keeps-conj_each q w)

  keeps-conj_rule : {v : Value C} → Well v → {xs : List (Value C)} → WellList xs → Keeps Well (conj_rule v xs)
  keeps-conj_rule well_cell q = keeps_seq well_cell (λ s w e. keeps-conj_each q w)
  keeps-conj_rule well_nil q = keeps-conj_each q well_nil
  keeps-conj_rule h q = keeps-conj_each q h

  pub keeps-conj_call : {xs : List (Value C)} → WellList xs → Keeps Well (conj_call xs)
  keeps-conj_call well_end = keeps_give (well_vector refl well_none)
  keeps-conj_call (well_item c well_end) = keeps_give c
  keeps-conj_call (well_item c (well_item x h)) = keeps-conj_rule c (well_item x h)

  -- ## reduce, into

  keeps-unless : {v : Value C} {p : Plan C} → Well v → Keeps Well p → Keeps Well (unless_reduced v p)
  keeps-unless (well_reduced d h) k = keeps_give h
  keeps-unless well_nil k = k
  keeps-unless _ k = k

  pub keeps-reduce_round : {xs : List (Value C)} → WellList xs → KeepsRound Well (reduce_round xs)
  keeps-reduce_round (well_item f (well_item x (well_item {x = s} w well_end))) =
      keeps-round_at s
      (keeps_end x)
      (keeps_visits (keeps_call f (well_item x (well_item (well-first_of w) well_end)) (λ y i. keeps-unless i (keeps_seq (well-rest_of w) (λ t u e. keeps_go (well_item f (well_item i (well_item u well_end))) (λ v g. keeps_give g))))))
  keeps-reduce_round _ = keeps_fail

  keeps-reduce_rule : {f i c : Value C} → Well f → Well i → Well c → Keeps Well (reduce_rule f i c)
  keeps-reduce_rule f i c = keeps_seq c (λ s w e. keeps_go (well_item f (well_item i (well_item w well_end))) (λ v g. keeps_give g))

  pub keeps-reduce_call : {xs : List (Value C)} → WellList xs → Keeps Well (reduce_call xs)
  keeps-reduce_call (well_item f (well_item c well_end)) =
      keeps_seq c (λ s w e. keeps-if_nil s
      (keeps_call f well_end (λ v u. keeps_give u))
      (keeps_visit (keeps_seq (well-rest_of w) (λ t u i. keeps_go (well_item f (well_item (well-first_of w) (well_item u well_end))) (λ v g. keeps_give g)))))
  keeps-reduce_call (well_item f (well_item i (well_item c well_end))) = keeps-reduce_rule f i c
  keeps-reduce_call _ = keeps_throw

  pub keeps-into_call : {xs : List (Value C)} → WellList xs → Keeps Well (into_call xs)
  keeps-into_call (well_item t (well_item c well_end)) = keeps-reduce_rule (well_function refl refl well_none) t c
  keeps-into_call _ = keeps_throw

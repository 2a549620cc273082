-- The work of the parts of lazy operations looks at cells only to ask them.
use Rattle.std.proofs.Common.{ℕ, ℤ, pos, ◌-ℤ◌, int_le, true, false, List, map, Option}
use Rattle.seq_values.specs.declared.words.Op.{Op}
use Rattle.seq_values.specs.declared.words.Op.TheVariants as O
use Rattle.seq_values.specs.Model.{Value}
use Rattle.seq_plan.specs.Plan.{Plan}
use Rattle.seq_plan.specs.Nodes.{first_of, rest_of}
use Rattle.seq_plan.specs.Alike.{Likeness, Like, like_nil, like_bool, like_int, like_vector, like_cell, like_none, LikeList, like_end, like_item, like_term, LikePlan, like_seq, like_call, like_go, like_make, like_give, LikeRound, like_ends_with, like_fails, like_visits}
use Rattle.seq_plan.proofs.AlikeNodes.{LikeChunk, like_unchunked, like_chunked, like-cond, like-list, like-values, like-append, like-first_of, like-rest_of, like-chunk_of, like-if_nil, like-if_true, like-round_at, like-with_members, like-call_each, made_alike}
use Rattle.seq_plan.proofs.AlikeLists.{like-list_of, like-lazily, like-first_and, like-items_and, like-with_seq}
use Rattle.lazy_rows.specs.Terms.{map_on, map_rule, seq_each, unless_nil_among, map_all_rule, where_true, where_some, sift, one_or_cell, sift_on, filter_rule, keep_rule, take_rule, take_while_rule, drop_rule, drop_round, drop_while_rule, drop_while_round, concat_on, concat_rule, mapcat_rule, next_one_rule, repeat_rule, cycle_on, cycle_rule, parts_end, parts_on, parts_round, parts_rule}
use Rattle.seq_plan.proofs.AlikeTests.{like-cond_round}

module _ {C D : Type 0} {R : Likeness C D} where
  -- ## Map, MapN

  like-map_on : {f s : Value C} {g t : Value D} → Like R f g → Like R s t → {c : Option (List (Value C) × Value C)} {d : Option (List (Value D) × Value D)} → LikeChunk R c d → LikePlan R (map_on f s c) (map_on g t d)
  like-map_on f s like_unchunked = like_call f (like_item (like-first_of s) like_end) (λ v w e. like-first_and e O.Map (like_item f (like_item (like-rest_of s) like_end)))
  like-map_on f s (like_chunked x r) = like-call_each f x like_end (λ vs ws e. like-items_and e O.Map (like_item f (like_item r like_end)))

  pub like-map_rule : (size : ℕ) {f c : Value C} {g d : Value D} → Like R f g → Like R c d → LikePlan R (map_rule size f c) (map_rule size g d)
  like-map_rule size f c = like-with_seq c (λ s t e. like-map_on f e (like-chunk_of size e))

  like-seq_each : {xs : List (Value C)} {ys : List (Value D)} → LikeList R xs ys → {zs : List (Value C)} {us : List (Value D)} → LikeList R zs us → {k : List (Value C) → Plan C} {h : List (Value D) → Plan D} → ((vs : List (Value C)) (ws : List (Value D)) → LikeList R vs ws → LikePlan R (k vs) (h ws)) → LikePlan R (seq_each zs xs k) (seq_each us ys h)
  like-seq_each like_end z f = f _ _ z
  like-seq_each (like_item p q) z f = like_seq p (λ s t e. like-seq_each q (like-append z (like_item e like_end)) f)

  like-unless_nil_among : {xs : List (Value C)} {ys : List (Value D)} → LikeList R xs ys → {p : Plan C} {q : Plan D} → LikePlan R p q → LikePlan R (unless_nil_among xs p) (unless_nil_among ys q)
  like-unless_nil_among like_end h = h
  like-unless_nil_among (like_item p q) h = like-if_nil p (like_give like_nil) (like-unless_nil_among q h)

  like-firsts : {xs : List (Value C)} {ys : List (Value D)} → LikeList R xs ys → LikeList R (map first_of xs) (map first_of ys)
  like-firsts like_end = like_end
  like-firsts (like_item p q) = like_item (like-first_of p) (like-firsts q)

  like-rests : {xs : List (Value C)} {ys : List (Value D)} → LikeList R xs ys → LikeList R (map rest_of xs) (map rest_of ys)
  like-rests like_end = like_end
  like-rests (like_item p q) = like_item (like-rest_of p) (like-rests q)

  pub like-map_all_rule : {f : Value C} {g : Value D} → Like R f g → {xs : List (Value C)} {ys : List (Value D)} → LikeList R xs ys → LikePlan R (map_all_rule f xs) (map_all_rule g ys)
  like-map_all_rule f h = like-seq_each h like_end (λ ss ts e. like-unless_nil_among e (like_call f (like-firsts e) (λ v w i. like-first_and i O.MapN (like_item f (like-rests e)))))

  -- ## Filter, Keep

  like-where_true : (x : Value C) (y : Value D) → Like R x y → (v : Value C) (w : Value D) → Like R v w → LikeList R (where_true x v) (where_true y w)
  like-where_true x y p v w like_nil = like_end
  like-where_true x y p v w (like_bool {b = true}) = like_item p like_end
  like-where_true x y p v w (like_bool {b = false}) = like_end
  like-where_true x y p v w _ = like_item p like_end

  like-where_some : (x : Value C) (y : Value D) → Like R x y → (v : Value C) (w : Value D) → Like R v w → LikeList R (where_some x v) (where_some y w)
  like-where_some x y p v w like_nil = like_end
  like-where_some x y p v w like_bool = like_item like_bool like_end
  like-where_some x y p v w h = like_item h like_end

  like-sift : {keeps : Value C → Value C → List (Value C)} {others : Value D → Value D → List (Value D)} → ((x : Value C) (y : Value D) → Like R x y → (v : Value C) (w : Value D) → Like R v w → LikeList R (keeps x v) (others y w)) → {f : Value C} {g : Value D} → Like R f g → {xs : List (Value C)} {ys : List (Value D)} → LikeList R xs ys → {zs : List (Value C)} {us : List (Value D)} → LikeList R zs us → {k : List (Value C) → Plan C} {h : List (Value D) → Plan D} → ((vs : List (Value C)) (ws : List (Value D)) → LikeList R vs ws → LikePlan R (k vs) (h ws)) → LikePlan R (sift f keeps zs xs k) (sift g others us ys h)
  like-sift l f like_end z k = k _ _ z
  like-sift l f (like_item p q) z k = like_call f (like_item p like_end) (λ v w e. like-sift l f q (like-append z (l _ _ p v w e)) k)

  like-one_or_cell : {zs : List (Value C)} {us : List (Value D)} → LikeList R zs us → (op : Op) {xs : List (Value C)} {ys : List (Value D)} → LikeList R xs ys → LikePlan R (one_or_cell zs op xs) (one_or_cell us op ys)
  like-one_or_cell like_end op h = like-lazily op h
  like-one_or_cell (like_item p q) op h = like-first_and p op h

  like-sift_on : (op : Op) {keeps : Value C → Value C → List (Value C)} {others : Value D → Value D → List (Value D)} → ((x : Value C) (y : Value D) → Like R x y → (v : Value C) (w : Value D) → Like R v w → LikeList R (keeps x v) (others y w)) → {f s : Value C} {g t : Value D} → Like R f g → Like R s t → {c : Option (List (Value C) × Value C)} {d : Option (List (Value D) × Value D)} → LikeChunk R c d → LikePlan R (sift_on op keeps f s c) (sift_on op others g t d)
  like-sift_on op l f s like_unchunked = like_call f (like_item (like-first_of s) like_end) (λ v w e. like-one_or_cell (l _ _ (like-first_of s) v w e) op (like_item f (like_item (like-rest_of s) like_end)))
  like-sift_on op l f s (like_chunked x r) = like-sift l f x like_end (λ vs ws e. like-items_and e op (like_item f (like_item r like_end)))

  pub like-filter_rule : (size : ℕ) {f c : Value C} {g d : Value D} → Like R f g → Like R c d → LikePlan R (filter_rule size f c) (filter_rule size g d)
  like-filter_rule size f c = like-with_seq c (λ s t e. like-sift_on O.Filter like-where_true f e (like-chunk_of size e))

  pub like-keep_rule : (size : ℕ) {f c : Value C} {g d : Value D} → Like R f g → Like R c d → LikePlan R (keep_rule size f c) (keep_rule size g d)
  like-keep_rule size f c = like-with_seq c (λ s t e. like-sift_on O.Keep like-where_some f e (like-chunk_of size e))

  -- ## Take, TakeWhile, Drop, DropWhile

  pub like-take_rule : (n : ℤ) {v : Value C} {w : Value D} → Like R v w → LikePlan R (take_rule n v) (take_rule n w)
  like-take_rule n h = like-cond (int_le n (pos 0)) (like_give like_nil) (like-with_seq h (λ s t e. like-first_and (like-first_of e) O.Take (like_item like_int (like_item (like-rest_of e) like_end))))

  pub like-take_while_rule : {f c : Value C} {g d : Value D} → Like R f g → Like R c d → LikePlan R (take_while_rule f c) (take_while_rule g d)
  like-take_while_rule f c = like-with_seq c (λ s t e. like_call f (like_item (like-first_of e) like_end) (λ v w i. like-if_true i (like-first_and (like-first_of e) O.TakeWhile (like_item f (like_item (like-rest_of e) like_end))) (like_give like_nil)))

  pub like-drop_rule : (n : ℤ) {v : Value C} {w : Value D} → Like R v w → LikePlan R (drop_rule n v) (drop_rule n w)
  like-drop_rule n h = like_seq h (λ s t e. like_go (like_item like_int (like_item e like_end)) (λ v w i. like_give i))

  pub like-drop_round : {xs : List (Value C)} {ys : List (Value D)} → LikeList R xs ys → LikeRound R (drop_round xs) (drop_round ys)
  like-drop_round (like_item (like_int {n = n}) (like_item s like_end)) =
      like-round_at s
      (like_ends_with like_nil)
      (like-cond_round (int_le n (pos 0))
      (like_ends_with s)
      (like_visits (like_seq (like-rest_of s) (λ t u e. like_go (like_item like_int (like_item e like_end)) (λ v w i. like_give i)))))
  like-drop_round _ = like_fails

  pub like-drop_while_rule : {f c : Value C} {g d : Value D} → Like R f g → Like R c d → LikePlan R (drop_while_rule f c) (drop_while_rule g d)
  like-drop_while_rule f c = search made_alike depth 12

  pub like-drop_while_round : {xs : List (Value C)} {ys : List (Value D)} → LikeList R xs ys → LikeRound R (drop_while_round xs) (drop_while_round ys)
  like-drop_while_round (like_item p (like_item s like_end)) = search made_alike depth 14
  like-drop_while_round _ = like_fails

  -- ## Concat, Mapcat

  like-concat_on : {s : Value C} {t : Value D} → Like R s t → {xs : List (Value C)} {ys : List (Value D)} → LikeList R xs ys → {c : Option (List (Value C) × Value C)} {d : Option (List (Value D) × Value D)} → LikeChunk R c d → LikePlan R (concat_on s xs c) (concat_on t ys d)
  like-concat_on s h like_unchunked = like-first_and (like-first_of s) O.Concat (like_item (like-rest_of s) h)
  like-concat_on s h (like_chunked x r) = like-items_and x O.Concat (like_item r h)

  pub like-concat_rule : (size : ℕ) {xs : List (Value C)} {ys : List (Value D)} → LikeList R xs ys → LikePlan R (concat_rule size xs) (concat_rule size ys)
  like-concat_rule size like_end = like_give like_nil
  like-concat_rule size (like_item p like_end) = like_give p
  like-concat_rule size (like_item p (like_item q h)) = like_seq p (λ s t e. like-if_nil e (like-concat_rule size (like_item q h)) (like-concat_on e (like_item q h) (like-chunk_of size e)))

  pub like-mapcat_rule : {f c : Value C} {g d : Value D} → Like R f g → Like R c d → LikePlan R (mapcat_rule f c) (mapcat_rule g d)
  like-mapcat_rule f c =
      like-with_seq c (λ s t e.
      like_call f (like_item (like-first_of e) like_end) (λ v w i.
      like_make (like_term (like_item f (like_item (like-rest_of e) like_end))) (λ m n r.
      like-lazily O.Concat (like_item i (like_item (like_cell r) like_end)))))

  -- ## Next, Repeat, Cycle

  pub like-next_one_rule : {f c : Value C} {g d : Value D} → Like R f g → Like R c d → LikePlan R (next_one_rule f c) (next_one_rule g d)
  like-next_one_rule f x = like_call f (like_item x like_end) (λ v w e. like-first_and e O.Next (like_item f (like_item e like_end)))

  pub like-repeat_rule : {v : Value C} {w : Value D} → Like R v w → LikePlan R (repeat_rule v) (repeat_rule w)
  like-repeat_rule x = like-first_and x O.Repeat (like_item x like_end)

  like-cycle_on : {c s : Value C} {d t : Value D} → Like R c d → Like R s t → LikePlan R (cycle_on c s) (cycle_on d t)
  like-cycle_on c s = like-first_and (like-first_of s) O.Cycle (like_item c (like_item (like-rest_of s) like_end))

  pub like-cycle_rule : {c s : Value C} {d t : Value D} → Like R c d → Like R s t → LikePlan R (cycle_rule c s) (cycle_rule d t)
  like-cycle_rule c s = like_seq s (λ v w e. like-if_nil e (like-with_seq c (λ v w i. like-cycle_on c i)) (like-cycle_on c e))

  -- ## Parts

  like-parts_end : (n : ℤ) {xs : List (Value C)} {ys : List (Value D)} → LikeList R xs ys → {s : Value C} {t : Value D} → Like R s t → LikePlan R (parts_end n xs s) (parts_end n ys t)
  like-parts_end n h s = like-first_and (like-list_of h) O.Parts (like_item like_int (like_item (like-rest_of s) like_end))

  like-parts_on : (n left : ℤ) {xs : List (Value C)} {ys : List (Value D)} → LikeList R xs ys → {s : Value C} {t : Value D} → Like R s t → LikePlan R (parts_on n left xs s) (parts_on n left ys t)
  like-parts_on n left h s =
      like-cond (int_le left (pos 0))
      (like-parts_end n h s)
      (like_seq (like-rest_of s) (λ t u e. like-if_nil e (like-parts_end n h s) (like_go (like_item like_int (like_item like_int (like_item (like_vector (like-values h)) (like_item e like_end)))) (λ v w i. like_give i))))

  pub like-parts_round : {xs : List (Value C)} {ys : List (Value D)} → LikeList R xs ys → LikeRound R (parts_round xs) (parts_round ys)
  like-parts_round (like_item (like_int {n = n}) (like_item (like_int {n = left}) (like_item (like_vector h) (like_item s like_end)))) = like_visits (like-with_members (like-append (like-list h) (like_item (like-first_of s) like_end)) (λ vs ws e. like-parts_on n (left -ℤ pos 1) e s))
  like-parts_round _ = like_fails

  pub like-parts_rule : (n : ℤ) {v : Value C} {w : Value D} → Like R v w → LikePlan R (parts_rule n v) (parts_rule n w)
  like-parts_rule n c = like-with_seq c (λ s t e. like_go (like_item like_int (like_item like_int (like_item (like_vector like_none) (like_item e like_end)))) (λ v w i. like_give i))

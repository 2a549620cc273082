-- Like values are printed alike.
use Rattle.std.proofs.Common.{ℕ, Bool, true, false, List, [], ◌∷◌}
use Rattle.seq_values.specs.Model.{Value, bool, text}
use Rattle.seq_plan.specs.Plan.{Plan}
use Rattle.seq_plan.specs.Alike.{Likeness, Like, like_nil, like_bool, like_int, like_keyword, like_text, like_vector, like_function, like_reduced, like_cell, like_empty, like_cons, like_chunk, like_range, like_vec_seq, LikeList, like_end, like_item, LikePlan, like_seq, like_go, like_give, like_throw, LikeRound, like_ends_with, like_fails, like_visits}
use Rattle.seq_plan.proofs.AlikeNodes.{like-first_of, like-rest_of, like-round_at, like-list, made_alike}
use Rattle.seq_plan.proofs.AlikePlans.{like-then}
use Rattle.seq_meaning.specs.Prints.{spaced, prints_next, print_items, print_vector, print_on, value_round, rest_round, print_rule}

module _ {C D : Type 0} {R : Likeness C D} where
  like-next : (so_far : List ℕ) {v : Value C} {w : Value D} → Like R v w → {k : Value C → Plan C} {h : Value D → Plan D} → ((v : Value C) (w : Value D) → Like R v w → LikePlan R (k v) (h w)) → LikePlan R (prints_next so_far v k) (prints_next so_far w h)
  like-next so_far h f = like_go (like_item like_text (like_item h like_end)) f

  like-items : {xs : List (Value C)} {ys : List (Value D)} → LikeList R xs ys → (v : Value C) (w : Value D) → Like R v w → LikePlan R (print_items xs v) (print_items ys w)
  like-items like_end v w (like_text {bytes = bytes}) = like_give like_text
  like-items (like_item p q) v w (like_text {bytes = bytes}) = like-next _ p (like-items q)
  like-items like_end v w _ = like_throw
  like-items (like_item p q) v w _ = like_throw

  like-vector : (so_far : List ℕ) {xs : List (Value C)} {ys : List (Value D)} → LikeList R xs ys → LikePlan R (print_vector so_far xs) (print_vector so_far ys)
  like-vector so_far like_end = like_give like_text
  like-vector so_far (like_item p q) = like-next _ p (like-items q)

  pub like-print_on : (so_far : List ℕ) {v : Value C} {w : Value D} → Like R v w → LikePlan R (print_on so_far v) (print_on so_far w)
  like-print_on so_far like_nil = like_give like_text
  like-print_on so_far (like_bool {b = true}) = like_give like_text
  like-print_on so_far (like_bool {b = false}) = like_give like_text
  like-print_on so_far like_int = like_give like_text
  like-print_on so_far like_keyword = like_give like_text
  like-print_on so_far like_text = like_give like_text
  like-print_on so_far (like_vector h) = like-vector so_far (like-list h)
  like-print_on so_far (like_function h) = like_give like_text
  like-print_on so_far (like_reduced h) = like-next _ h (λ v w e. like_give e)
  like-print_on so_far (like_cell r) = search made_alike depth 12
  like-print_on so_far like_empty = search made_alike depth 12
  like-print_on so_far (like_cons n h k) = like_seq (like_cons n h k) (search made_alike depth 12)
  like-print_on so_far (like_chunk n h k) = like_seq (like_chunk n h k) (search made_alike depth 12)
  like-print_on so_far (like_range n) = like_seq (like_range n) (search made_alike depth 12)
  like-print_on so_far (like_vec_seq n h) = like_seq (like_vec_seq n h) (search made_alike depth 12)

  pub like-value_round : {xs : List (Value C)} {ys : List (Value D)} → LikeList R xs ys → LikeRound R (value_round xs) (value_round ys)
  like-value_round (like_item (like_text {bytes = so_far}) (like_item h like_end)) = like_visits (like-print_on so_far h)
  like-value_round _ = like_fails

  like-rounds : (so_far : List ℕ) (after : Bool) {v : Value C} {w : Value D} → Like R v w → LikeRound R (rest_round (text so_far ∷ bool after ∷ v ∷ [])) (rest_round (text so_far ∷ bool after ∷ w ∷ []))
  like-rounds so_far after h = like-round_at h (like_ends_with like_text) (like_visits (like-then (like-print_on (spaced after so_far) (like-first_of h)) (λ v w e. like_seq (like-rest_of h) (λ t u i. like_go (like_item e (like_item like_bool (like_item i like_end))) (λ v w e. like_give e)))))

  pub like-rest_round : {xs : List (Value C)} {ys : List (Value D)} → LikeList R xs ys → LikeRound R (rest_round xs) (rest_round ys)
  like-rest_round (like_item (like_text {bytes = so_far}) (like_item (like_bool {b = after}) (like_item h like_end))) = like-rounds so_far after h
  like-rest_round _ = like_fails

  pub like-print_rule : {v : Value C} {w : Value D} → Like R v w → LikePlan R (print_rule v) (print_rule w)
  like-print_rule h = like-next [] h (λ v w e. like_give e)

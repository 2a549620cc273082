-- Comparing looks at cells only to ask them.
use Rattle.std.proofs.Common.{◌≡◌, Bool, not, cond, List, [], ◌∷◌, refl, ap}
use Rattle.seq_values.specs.Model.{Value, bool}
use Rattle.seq_base.specs.declared.thrown.Thrown.TheVariants.{BadType}
use Rattle.seq_plan.specs.Plan.{Plan, seq, go, give, throw, then, equal_from, ends_with, visits}
use Rattle.seq_plan.specs.Nodes.{first_of, rest_of, if_true}
use Rattle.seq_plan.specs.Alike.{Likeness, Like, like_nil, like_bool, like_int, like_keyword, like_text, like_function, like_reduced, LikeList, like_end, like_item, LikePlan, like_visit, like_seq, like_go, like_give, like_throw, LikeRound, like_ends_with, like_fails, like_visits}
use Rattle.seq_plan.proofs.AlikeNodes.{like-cond, like-first_of, like-rest_of, like-if_true}
use Rattle.seq_plan.proofs.AlikePlans.{like-then}
use Rattle.lazy_rows.specs.Equal.{is_incomparable, holds_elements, same_atom, pair_on, equal_on, equal_round, equal_each, equal_call, unequal_call}
use Rattle.seq_plan.proofs.AlikeTests.{like-is_truthy, like-is_nil, like-bools, like-cond_round}

module _ {C D : Type 0} {R : Likeness C D} where
  like-incomparable : {v : Value C} {w : Value D} → Like R v w → is_incomparable v ≡ is_incomparable w
  like-incomparable (like_function h) = refl
  like-incomparable (like_reduced h) = refl
  like-incomparable _ = refl

  like-holds_elements : {v : Value C} {w : Value D} → Like R v w → holds_elements v ≡ holds_elements w
  like-holds_elements like_nil = refl
  like-holds_elements _ = refl

  like-same_atom : {v : Value C} {w : Value D} → Like R v w → {x : Value C} {y : Value D} → Like R x y → same_atom v x ≡ same_atom w y
  like-same_atom like_nil like_nil = refl
  like-same_atom like_bool like_bool = refl
  like-same_atom like_int like_int = refl
  like-same_atom like_keyword like_keyword = refl
  like-same_atom like_text like_text = refl
  like-same_atom _ _ = refl

  like-pair_by : (b c d : Bool) {x y : Value C} {u v : Value D} → Like R x u → Like R y v → LikePlan R (cond b (throw BadType) (cond c (seq x (λ s. seq y (λ t. go equal_from (s ∷ t ∷ []) give))) (give (bool d)))) (cond b (throw BadType) (cond c (seq u (λ s. seq v (λ t. go equal_from (s ∷ t ∷ []) give))) (give (bool d))))
  like-pair_by b c d h k = like-cond b like_throw (like-cond c (like_seq h (λ s t e. like_seq k (λ o p i. like_go (like_item e (like_item i like_end)) (λ v w l. like_give l)))) (like_give like_bool))

  like-pair_on : {x y : Value C} {u v : Value D} → Like R x u → Like R y v → LikePlan R (pair_on x y) (pair_on u v)
  like-pair_on h k = rw (← like-incomparable h, ← like-incomparable k, ← like-holds_elements h, ← like-holds_elements k, ← like-same_atom h k) (like-pair_by _ _ _ h k)

  like-equal_by : (b c : Bool) {s t : Value C} {u v : Value D} → Like R s u → Like R t v → LikeRound R (cond b (ends_with (bool c)) (visits (then (pair_on (first_of s) (first_of t)) (λ b. if_true b (seq (rest_of s) (λ u. seq (rest_of t) (λ v. go equal_from (u ∷ v ∷ []) give))) (give b))))) (cond b (ends_with (bool c)) (visits (then (pair_on (first_of u) (first_of v)) (λ b. if_true b (seq (rest_of u) (λ s. seq (rest_of v) (λ t. go equal_from (s ∷ t ∷ []) give))) (give b)))))
  like-equal_by b c h k = like-cond_round b (like_ends_with like_bool) (like_visits (like-then (like-pair_on (like-first_of h) (like-first_of k)) (λ v w e. like-if_true e (like_seq (like-rest_of h) (λ o p i. like_seq (like-rest_of k) (λ q r j. like_go (like_item i (like_item j like_end)) (λ v w l. like_give l)))) (like_give e))))

  like-equal_on : {s t : Value C} {u v : Value D} → Like R s u → Like R t v → LikeRound R (equal_on s t) (equal_on u v)
  like-equal_on h k = rw (← like-is_nil h, ← like-is_nil k) (like-equal_by _ _ h k)

  pub like-equal_round : {xs : List (Value C)} {ys : List (Value D)} → LikeList R xs ys → LikeRound R (equal_round xs) (equal_round ys)
  like-equal_round (like_item s (like_item t like_end)) = like-equal_on s t
  like-equal_round _ = like_fails

  like-equal_each : {xs : List (Value C)} {ys : List (Value D)} → LikeList R xs ys → {x : Value C} {y : Value D} → Like R x y → {k : Value C → Plan C} {h : Value D → Plan D} → ((v : Value C) (w : Value D) → Like R v w → LikePlan R (k v) (h w)) → LikePlan R (equal_each x xs k) (equal_each y ys h)
  like-equal_each like_end x f = f _ _ like_bool
  like-equal_each (like_item y q) x f = like_visit (like-then (like-pair_on x y) (λ v w e. like-if_true e (like-equal_each q y f) (f v w e)))

  pub like-equal_call : {xs : List (Value C)} {ys : List (Value D)} → LikeList R xs ys → LikePlan R (equal_call xs) (equal_call ys)
  like-equal_call like_end = like_throw
  like-equal_call (like_item x h) = like-equal_each h x (λ v w e. like_give e)

  pub like-unequal_call : {xs : List (Value C)} {ys : List (Value D)} → LikeList R xs ys → LikePlan R (unequal_call xs) (unequal_call ys)
  like-unequal_call like_end = like_throw
  like-unequal_call (like_item x h) = like-equal_each h x (λ v w e. like_give (like-bools (ap not (like-is_truthy e))))

-- The rows look at cells only to ask them.
use Rattle.std.proofs.Common.{◌≡◌, ℕ, ℤ, pos, int_le, Bool, true, false, cond, List, length, refl}
use Rattle.seq_values.specs.declared.words.Builtin.{Builtin}
use Rattle.seq_values.specs.declared.words.Builtin.TheVariants as B
use Rattle.seq_values.specs.Model.{Value, empty, chunk, values}
use Rattle.seq_plan.specs.Plan.{Plan, Loop, enter_from, pull_from}
use Rattle.seq_plan.specs.Alike.{Likeness, Like, like_nil, like_bool, like_int, like_vector, like_function, like_cell, like_empty, like_chunk, like_none, like_more, LikeList, like_end, like_item, like_term, LikePlan, like_seq, like_call, like_go, like_make, like_give, like_throw, LikeRound, like_ends_with, like_fails, like_visits}
use Rattle.seq_plan.proofs.AlikeNodes.{like-list, like-values, like-length, like-cond, like-round_at, like-first_of, like-rest_of, like-give_value, like-with_members, like-with_these}
use Rattle.seq_plan.proofs.AlikeLists.{like-with_items}
use Rattle.seq_plan.specs.Nodes.{give_value}
use Rattle.seq_plan.proofs.AlikeStages.{like_reduces, like_gathers, like-with_stages, like-fresh, like-answer_of, like-outputs_of, like-enter, like-enter_each, like-enter_round, like-complete}
use Rattle.stage_rows.specs.Table.{transduce_rule, kept, replaced, make_pull, pulled, pull_round, last_outputs, after_pull, pull_term, stage_call, stage_round}

module _ {C D : Type 0} {R : Likeness C D} where
  like-transduce : {xs : List (Value C)} {ys : List (Value D)} → LikeList R xs ys → {f : Value C} {g : Value D} → Like R f g → {i : Value C} {j : Value D} → Like R i j → {c : Value C} {d : Value D} → Like R c d → LikePlan R (transduce_rule xs f i c) (transduce_rule ys g j d)
  like-transduce p f i c = like-enter_each p (like-fresh p) (like_reduces f i) c (λ us vs q s t r done.
      like-complete p q r (λ s t r. like_call f (like_item (like-answer_of r) like_end) (λ v w e. like_give e)))

  like-kept : {xs : List (Value C)} {ys : List (Value D)} → LikeList R xs ys → LikeList R (kept xs) (kept ys)
  like-kept like_end = like_end
  like-kept (like_item like_nil q) = like-kept q
  like-kept (like_item p q) = like_item p (like-kept q)

  like-replaced : {xs : List (Value C)} {ys : List (Value D)} → LikeList R xs ys → {us : List (Value C)} {vs : List (Value D)} → LikeList R us vs → LikeList R (replaced xs us) (replaced ys vs)
  like-replaced like_end r = like_end
  like-replaced (like_item like_nil q) r = like_item like_nil (like-replaced q r)
  like-replaced (like_item p q) like_end = like_item p (like-replaced q like_end)
  like-replaced (like_item p q) (like_item s r) = like_item s (like-replaced q r)

  like-make_pull : {f : Value C} {g : Value D} → Like R f g → {us : List (Value C)} {vs : List (Value D)} → LikeList R us vs → {c : Value C} {d : Value D} → Like R c d → {k : C → Plan C} {h : D → Plan D} → ((m : C) (n : D) → R.same m n → LikePlan R (k m) (h n)) → LikePlan R (make_pull f us c k) (make_pull g vs d h)
  like-make_pull f q c e = like-with_members (like_item f (like_item c (like-kept q))) (λ xs ys p. like_make (like_term p) e)

  like-pulled : (ended : Bool) {us : List (Value C)} {vs : List (Value D)} → LikeList R us vs → {xs : List (Value C)} {ys : List (Value D)} → LikeList R xs ys → {c : Value C} {d : Value D} → Like R c d → Like R (pulled ended us xs c) (pulled ended vs ys d)
  like-pulled ended q p c = like_vector (like_more like_bool (like_more (like_vector (like-values q)) (like_more (like_vector (like-values p)) (like_more c like_none))))

  like-enough : (size : ℤ) {xs : List (Value C)} {ys : List (Value D)} → LikeList R xs ys → {p q : Plan C} {p' q' : Plan D} → LikePlan R p p' → LikePlan R q q' → LikePlan R (cond (int_le size (pos (length xs))) p q) (cond (int_le size (pos (length ys))) p' q')
  like-enough size {xs = xs} {ys = ys} h p q =
      let e : length xs ≡ length ys = like-length h in
      rw (← e) (like-cond (int_le size (pos (length xs))) p q)

  like-pull_round : {xs : List (Value C)} {ys : List (Value D)} → LikeList R xs ys → LikeRound R (pull_round xs) (pull_round ys)
  like-pull_round (like_item (like_int {n = size}) (like_item (like_vector p) (like_item (like_vector q) (like_item (like_vector r) (like_item s like_end))))) = like-round_at s
      (like_ends_with (like-pulled true (like-list q) (like-list r) like_nil))
      (like_visits (like-enter (like-list p) (like-list q) (like_gathers (like-list r)) (like-first_of s) (λ us vs q a b r done.
      like-cond done
      (like_give (like-pulled true q (like-outputs_of r) like_nil))
      (like-enough size (like-outputs_of r)
      (like_give (like-pulled false q (like-outputs_of r) (like-rest_of s)))
      (like_seq (like-rest_of s) (λ v w e. like_go (like_item like_int (like_item (like_vector p) (like_item (like_vector (like-values q)) (like_item (like_vector (like-values (like-outputs_of r))) (like_item e like_end))))) (λ v w e. like_give e)))))))
  like-pull_round _ = like_fails

  like-last_outputs : {xs : List (Value C)} {ys : List (Value D)} → LikeList R xs ys → LikePlan R (last_outputs xs) (last_outputs ys)
  like-last_outputs like_end = like_give like_nil
  like-last_outputs (like_item p q) = like-with_these (like_item p q) (λ outputs. give_value (chunk (values outputs) empty)) (λ outputs. give_value (chunk (values outputs) empty)) (like-give_value (like_chunk (λ s. refl) (like-values (like_item p q)) like_empty))

  like-after_pull : {f : Value C} {g : Value D} → Like R f g → {xs : List (Value C)} {ys : List (Value D)} → LikeList R xs ys → {v : Value C} {w : Value D} → Like R v w → LikePlan R (after_pull f xs v) (after_pull g ys w)
  like-after_pull f p (like_vector (like_more (like_bool {b = true}) (like_more (like_vector q) (like_more (like_vector r) (like_more c like_none))))) =
      like-complete p (like-list q) (like_gathers (like-list r)) (λ s t h. like-last_outputs (like-outputs_of h))
  like-after_pull f p (like_vector (like_more (like_bool {b = false}) (like_more (like_vector q) (like_more (like_vector r) (like_more c like_none))))) =
      like-make_pull f (like-list q) c (λ m n e. like-with_members (like-list r) (λ xs ys h. like-give_value (like-with_items (like-values h) (λ s. refl) (like_cell e))))
  like-after_pull f p _ = like_throw

  pub like-pull_term : (size : ℕ) {xs : List (Value C)} {ys : List (Value D)} → LikeList R xs ys → LikePlan R (pull_term size xs) (pull_term size ys)
  like-pull_term size (like_item f (like_item c q)) = like-with_stages f (λ xs ys p. like_seq c (λ v w e.
      like_go (like_item like_int (like_item (like_vector (like-values p)) (like_item (like_vector (like-values (like-replaced (like-fresh p) q))) (like_item (like_vector like_none) (like_item e like_end))))) (λ v w e. like-after_pull f p e)))
  like-pull_term size _ = like_throw

  pub like-stage_call : (word : Builtin) {xs : List (Value C)} {ys : List (Value D)} → LikeList R xs ys → LikePlan R (stage_call word xs) (stage_call word ys)
  like-stage_call B.Transduce (like_item xf (like_item f (like_item c like_end))) = like-with_stages xf (λ xs ys p. like_call f like_end (λ v w e. like-transduce p f e c))
  like-stage_call B.Transduce (like_item xf (like_item f (like_item i (like_item c like_end)))) = like-with_stages xf (λ xs ys p. like-transduce p f i c)
  like-stage_call B.Into (like_item to (like_item xf (like_item c like_end))) = like-with_stages xf (λ xs ys p. like-transduce p (like_function like_none) to c)
  like-stage_call B.Sequence (like_item xf (like_item c like_end)) = like-with_stages xf (λ xs ys p. like-make_pull xf (like-fresh p) c (λ m n e. like_give (like_cell e)))
  like-stage_call _ _ = like_throw

  pub like-stage_round : (loop : Loop) {xs : List (Value C)} {ys : List (Value D)} → LikeList R xs ys → LikeRound R (stage_round loop xs) (stage_round loop ys)
  like-stage_round enter_from h = like-enter_round h
  like-stage_round pull_from h = like-pull_round h
  like-stage_round _ h = like_fails

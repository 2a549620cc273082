-- The small table looks at cells only to ask them.
use Rattle.std.proofs.Common.{refl, ℤ, pos, int_le, List, Option}
use Rattle.seq_values.specs.declared.words.Builtin.{Builtin}
use Rattle.seq_values.specs.declared.words.Builtin.TheVariants as B
use Rattle.seq_values.specs.declared.words.Op.{Op}
use Rattle.seq_values.specs.declared.words.Op.TheVariants as O
use Rattle.seq_values.specs.declared.words.Target.{Target}
use Rattle.seq_values.specs.declared.words.Target.TheVariants as T
use Rattle.seq_values.specs.Model.{Value}
use Rattle.seq_plan.specs.Plan.{Plan, Loop, reduce_from, print_value, print_rest}
use Rattle.seq_plan.specs.Alike.{Likeness, Like, like_nil, like_int, like_reduced, LikeList, like_end, like_item, LikePlan, like_call, like_give, like_throw, LikeRound, like_fails, LikeRules}
use Rattle.seq_plan.proofs.AlikeLists.{like-first_before, like-items_before}
use Rattle.seq_plan.proofs.AlikeNodes.{LikeChunk, like_unchunked, like_chunked, like-cond, like-append, like-range_at, made_alike}
use Rattle.seq_meaning.specs.SmallTable.{map_on, take_rule, term_rule, unless_reduced, reduce_round, word_rule, call_rule, loop_rule, small}
use Rattle.seq_meaning.proofs.AlikePrints.{like-value_round, like-rest_round, like-print_rule}

module _ {C D : Type 0} {R : Likeness C D} where
  like-map_on : {f s : Value C} {g t : Value D} → Like R f g → Like R s t → {c : Option (List (Value C) × Value C)} {d : Option (List (Value D) × Value D)} → LikeChunk R c d → LikePlan R (map_on f s c) (map_on g t d)
  like-map_on hf hs like_unchunked = search (made_alike, like-first_before) depth 12
  like-map_on hf hs (like_chunked hx hr) = search (made_alike, like-items_before) depth 12

  like-take_rule : (n : ℤ) {v : Value C} {w : Value D} → Like R v w → LikePlan R (take_rule n v) (take_rule n w)
  like-take_rule n h = like-cond (int_le n (pos 0)) (like_give like_nil) (search (made_alike, like-first_before) depth 12)

  like-term_rule : (op : Op) {xs : List (Value C)} {ys : List (Value D)} → LikeList R xs ys → LikePlan R (term_rule op xs) (term_rule op ys)
  like-term_rule O.Map (like_item f (like_item c like_end)) = search (made_alike, like-map_on) depth 12
  like-term_rule O.Take (like_item (like_int {n = n}) (like_item c like_end)) = like-take_rule n c
  like-term_rule O.Next (like_item f (like_item x like_end)) = search (made_alike, like-first_before) depth 12
  like-term_rule O.Call (like_item f (like_item x like_end)) = search made_alike depth 12
  like-term_rule _ _ = like_throw

  like-unless : {v : Value C} {w : Value D} {p : Plan C} {q : Plan D} → Like R v w → LikePlan R p q → LikePlan R (unless_reduced v p) (unless_reduced w q)
  like-unless (like_reduced h) k = like_give h
  like-unless like_nil k = k
  like-unless _ k = k

  like-reduce_round : {xs : List (Value C)} {ys : List (Value D)} → LikeList R xs ys → LikeRound R (reduce_round xs) (reduce_round ys)
  like-reduce_round (like_item f (like_item x (like_item s like_end))) = search (made_alike, like-unless) depth 14
  like-reduce_round _ = like_fails

  like-word_rule : (b : Builtin) {xs : List (Value C)} {ys : List (Value D)} → LikeList R xs ys → LikePlan R (word_rule b xs) (word_rule b ys)
  like-word_rule B.Inc (like_item (like_int {n = n}) like_end) = like-cond _ (like_give like_int) like_throw
  like-word_rule B.Inc (like_item _ like_end) = like_throw
  like-word_rule B.Plus like_end = like_give like_int
  like-word_rule B.Plus (like_item (like_int {n = m}) (like_item (like_int {n = n}) like_end)) = like-cond _ (like_give like_int) like_throw
  like-word_rule B.Plus (like_item _ (like_item _ like_end)) = like_throw
  like-word_rule B.Map (like_item f (like_item c like_end)) = search made_alike depth 12
  like-word_rule B.Take (like_item (like_int {n = n}) (like_item c like_end)) = search made_alike depth 12
  like-word_rule B.Take (like_item _ (like_item _ like_end)) = like_throw
  like-word_rule B.Iterate (like_item f (like_item x like_end)) = search (made_alike, like-first_before) depth 12
  like-word_rule B.Range (like_item (like_int {n = n}) like_end) = like_give (like-range_at (pos 0) (pos 0) n (λ s. refl))
  like-word_rule B.Range (like_item _ like_end) = like_throw
  like-word_rule B.First (like_item c like_end) = search made_alike depth 12
  like-word_rule B.Reduce (like_item f (like_item c like_end)) = search made_alike depth 14
  like-word_rule B.Reduce (like_item f (like_item i (like_item c like_end))) = search made_alike depth 14
  like-word_rule _ _ = like_throw

  like-call_rule : (t : Target) {bs : List (Value C)} {bs' : List (Value D)} → LikeList R bs bs' → {xs : List (Value C)} {ys : List (Value D)} → LikeList R xs ys → LikePlan R (call_rule t bs xs) (call_rule t bs' ys)
  like-call_rule (T.Builtin b) h k = like-word_rule b k
  like-call_rule T.Partial (like_item f bs) k = like_call f (like-append bs k) (λ v w e. like_give e)
  like-call_rule _ h k = like_throw

  like-loop_rule : (l : Loop) {xs : List (Value C)} {ys : List (Value D)} → LikeList R xs ys → LikeRound R (loop_rule l xs) (loop_rule l ys)
  like-loop_rule reduce_from h = like-reduce_round h
  like-loop_rule print_value h = like-value_round h
  like-loop_rule print_rest h = like-rest_round h
  like-loop_rule _ h = like_fails

  pub like-small : LikeRules R small small
  like-small = record {
    calls = λ t bs bs' xs ys h k. like-call_rule t h k;
    terms = λ op xs ys h. like-term_rule op h;
    loops = λ l xs ys h. like-loop_rule l h;
    prints = λ v w h. like-print_rule h;
  }

-- Stages do alike with like inputs.
use Rattle.std.proofs.Common.{◌≡◌, ℤ, pos, ◌-ℤ◌, int_le, Bool, true, false, cond, List, length, refl}
use Rattle.seq_values.specs.declared.words.Builtin.TheVariants as B
use Rattle.seq_values.specs.declared.words.Target.{Target}
use Rattle.seq_values.specs.declared.words.Target.TheVariants as T
use Rattle.seq_values.specs.declared.words.XfKind.TheVariants as X
use Rattle.seq_values.specs.declared.words.FolderKind.TheVariants as F
use Rattle.seq_values.specs.Model.{Value, vector, Values, no_values}
use Rattle.seq_plan.specs.Plan.{Plan}
use Rattle.seq_plan.specs.Alike.{Likeness, Like, like_nil, like_bool, like_int, like_vector, like_function, like_reduced, LikeAll, like_none, like_more, LikeList, like_end, like_item, LikePlan, like_seq, like_call, like_go, like_give, like_throw, LikeRound, like_ends_with, like_fails, like_visits}
use Rattle.seq_plan.specs.Stages.{Effect, passes, passes_last, passes_each, passes_nothing, is_done, Sink, reduces, gathers, Onward, is_transducer, are_transducers, stages_of, stages_of_all, is_some_stage, has_stages, with_stages, begins_with, fresh, take_one, group_one, on_input, stage_on, is_reduced, unwrapped, output, sink_values, answer_of, outputs_of, standing, entered, each_from, enter_each, with_state, with_last, by_effect, enter, each_round, enter_round, complete}
use Rattle.seq_plan.proofs.AlikeNodes.{like-list, like-values, like-append, like-length, like-cond, like-if_nil, like-if_true, like-round_at, like-first_of, like-rest_of, like-with_value, like-with_members}

pub data LikeEffect {C D : Type 0} (R : Likeness C D) : Effect C → Effect D → Type 0 where
  like_passes : {x : Value C} {y : Value D} → Like R x y → LikeEffect R (passes x) (passes y)
  like_passes_last : {x : Value C} {y : Value D} → Like R x y → LikeEffect R (passes_last x) (passes_last y)
  like_passes_each : {x : Value C} {y : Value D} → Like R x y → LikeEffect R (passes_each x) (passes_each y)
  like_passes_nothing : LikeEffect R passes_nothing passes_nothing
  like_is_done : LikeEffect R is_done is_done

pub data LikeSink {C D : Type 0} (R : Likeness C D) : Sink C → Sink D → Type 0 where
  like_reduces : {f x : Value C} {g y : Value D} → Like R f g → Like R x y → LikeSink R (reduces f x) (reduces g y)
  like_gathers : {xs : List (Value C)} {ys : List (Value D)} → LikeList R xs ys → LikeSink R (gathers xs) (gathers ys)

-- like plans go on, whatever like effects, or like sinks with like states, they are told
abbrev pub LikeEffects : {C D : Type 0} (R : Likeness C D) → (Value C → Effect C → Plan C) → (Value D → Effect D → Plan D) → Type 0
LikeEffects {C} {D} R k h = (v : Value C) (w : Value D) → Like R v w → (e : Effect C) (f : Effect D) → LikeEffect R e f → LikePlan R (k v e) (h w f)

abbrev pub LikeOnward : {C D : Type 0} (R : Likeness C D) → Onward C → Onward D → Type 0
LikeOnward {C} {D} R k h = (xs : List (Value C)) (ys : List (Value D)) → LikeList R xs ys → (s : Sink C) (t : Sink D) → LikeSink R s t → (done : Bool) → LikePlan R (k xs s done) (h ys t done)

module _ {C D : Type 0} {R : Likeness C D} where
  -- ## The stages of a transducer

  mutual
    pub like-is_transducer : {v : Value C} {w : Value D} → Like R v w → is_transducer v ≡ is_transducer w
    like-is_transducer (like_function {t = T.Comp} h) = like-are_transducers h
    like-is_transducer (like_function {t = T.Builtin B.Cat} h) = refl
    like-is_transducer (like_function {t = T.Builtin B.Identity} h) = refl
    like-is_transducer _ = refl

    like-are_transducers : {xs : Values C} {ys : Values D} → LikeAll R xs ys → are_transducers xs ≡ are_transducers ys
    like-are_transducers like_none = refl
    like-are_transducers (like_more p q) = rw (like-is_transducer p, like-are_transducers q)

  mutual
    pub like-stages_of : {v : Value C} {w : Value D} → Like R v w → LikeList R (stages_of v) (stages_of w)
    like-stages_of (like_function {t = T.Xf kind} h) = like_item (like_function h) like_end
    like-stages_of (like_function {t = T.Builtin B.Cat} h) = like_item (like_function like_none) like_end
    like-stages_of (like_function {t = T.Comp} h) = like-stages_of_all h
    like-stages_of _ = like_end

    like-stages_of_all : {xs : Values C} {ys : Values D} → LikeAll R xs ys → LikeList R (stages_of_all xs) (stages_of_all ys)
    like-stages_of_all like_none = like_end
    like-stages_of_all (like_more p q) = like-append (like-stages_of p) (like-stages_of_all q)

  like-some_stage : {xs : List (Value C)} {ys : List (Value D)} → LikeList R xs ys → is_some_stage xs ≡ is_some_stage ys
  like-some_stage like_end = refl
  like-some_stage (like_item p q) = refl

  pub like-has_stages : {v : Value C} {w : Value D} → Like R v w → has_stages v ≡ has_stages w
  like-has_stages p = rw (like-is_transducer p, like-some_stage (like-stages_of p))

  pub like-with_stages : {v : Value C} {w : Value D} → Like R v w → {k : List (Value C) → Plan C} {h : List (Value D) → Plan D} → ((xs : List (Value C)) (ys : List (Value D)) → LikeList R xs ys → LikePlan R (k xs) (h ys)) → LikePlan R (with_stages v k) (with_stages w h)
  like-with_stages {v = v} {w = w} p f =
      let e : is_transducer v ≡ is_transducer w = like-is_transducer p in
      rw (← e) (like-cond (is_transducer v) (like-with_members (like-stages_of p) f) like_throw)

  -- ## What a stage does

  like-begins_with : {v : Value C} {w : Value D} → Like R v w → Like R (begins_with v) (begins_with w)
  like-begins_with (like_function {t = T.Xf X.Take} (like_more n like_none)) = n
  like-begins_with (like_function {t = T.Xf X.Drop} (like_more n like_none)) = n
  like-begins_with (like_function {t = T.Xf X.DropWhile} (like_more p like_none)) = like_bool
  like-begins_with (like_function {t = T.Xf X.PartitionAll} (like_more n like_none)) = like_vector like_none
  like-begins_with (like_function {t = T.Folder F.Take} (like_more n like_none)) = n
  like-begins_with _ = like_nil

  pub like-fresh : {xs : List (Value C)} {ys : List (Value D)} → LikeList R xs ys → LikeList R (fresh xs) (fresh ys)
  like-fresh like_end = like_end
  like-fresh (like_item p q) = like_item (like-begins_with p) (like-fresh q)

  like-take_one : (left : ℤ) {x : Value C} {y : Value D} → Like R x y → {k : Value C → Effect C → Plan C} {h : Value D → Effect D → Plan D} → LikeEffects R k h → LikePlan R (take_one left x k) (take_one left y h)
  like-take_one left p f = like-cond (int_le left (pos 0)) (f _ _ like_int _ _ (like_passes_last p)) (f _ _ like_int _ _ (like_passes p))

  like-group_one : (n : ℤ) {xs : List (Value C)} {ys : List (Value D)} → LikeList R xs ys → {k : Value C → Effect C → Plan C} {h : Value D → Effect D → Plan D} → LikeEffects R k h → LikePlan R (group_one n xs k) (group_one n ys h)
  like-group_one n p {k = k} {h = h} f = like-with_members p (λ xs ys q. like-with_value (like_vector (like-values q)) (λ v w e. full xs ys (like-length q) e))
    where
      full : (xs : List (Value C)) (ys : List (Value D)) → length xs ≡ length ys → {v : Value C} {w : Value D} → Like R v w
          → LikePlan R (cond (int_le n (pos (length xs))) (k (vector no_values) (passes v)) (k v passes_nothing)) (cond (int_le n (pos (length ys))) (h (vector no_values) (passes w)) (h w passes_nothing))
      full xs ys e p = rw (← e) (like-cond (int_le n (pos (length xs))) (f _ _ (like_vector like_none) _ _ (like_passes p)) (f _ _ p _ _ like_passes_nothing))

  like-on_input : (t : Target) {bs : List (Value C)} {bs' : List (Value D)} → LikeList R bs bs' → {u : Value C} {v : Value D} → Like R u v → {x : Value C} {y : Value D} → Like R x y → {k : Value C → Effect C → Plan C} {h : Value D → Effect D → Plan D} → LikeEffects R k h → LikePlan R (on_input t bs u x k) (on_input t bs' v y h)
  like-on_input (T.Xf X.Map) (like_item f like_end) u x e = like_call f (like_item x like_end) (λ v w q. e _ _ u _ _ (like_passes q))
  like-on_input (T.Xf X.Filter) (like_item f like_end) u x e = like_call f (like_item x like_end) (λ v w q. like-if_true q (e _ _ u _ _ (like_passes x)) (e _ _ u _ _ like_passes_nothing))
  like-on_input (T.Xf X.Remove) (like_item f like_end) u x e = like_call f (like_item x like_end) (λ v w q. like-if_true q (e _ _ u _ _ like_passes_nothing) (e _ _ u _ _ (like_passes x)))
  like-on_input (T.Xf X.Keep) (like_item f like_end) u x e = like_call f (like_item x like_end) (λ v w q. like-if_nil q (e _ _ u _ _ like_passes_nothing) (e _ _ u _ _ (like_passes q)))
  like-on_input (T.Xf X.Take) (like_item n like_end) (like_int {n = left}) x e = like-cond (int_le left (pos 0)) (e _ _ like_int _ _ like_is_done) (like-take_one (left -ℤ pos 1) x e)
  like-on_input (T.Xf X.TakeWhile) (like_item f like_end) u x e = like_call f (like_item x like_end) (λ v w q. like-if_true q (e _ _ u _ _ (like_passes x)) (e _ _ u _ _ like_is_done))
  like-on_input (T.Xf X.Drop) (like_item n like_end) (like_int {n = left}) x e = like-cond (int_le left (pos 0)) (e _ _ like_int _ _ (like_passes x)) (e _ _ like_int _ _ like_passes_nothing)
  like-on_input (T.Xf X.DropWhile) (like_item f like_end) (like_bool {b = true}) x e = like_call f (like_item x like_end) (λ v w q. like-if_true q (e _ _ like_bool _ _ like_passes_nothing) (e _ _ like_bool _ _ (like_passes x)))
  like-on_input (T.Xf X.DropWhile) (like_item f like_end) (like_bool {b = false}) x e = e _ _ like_bool _ _ (like_passes x)
  like-on_input (T.Xf X.Mapcat) (like_item f like_end) u x e = like_call f (like_item x like_end) (λ v w q. e _ _ u _ _ (like_passes_each q))
  like-on_input (T.Xf X.Cat) like_end u x e = e _ _ u _ _ (like_passes_each x)
  like-on_input (T.Xf X.PartitionAll) (like_item (like_int {n = n}) like_end) (like_vector group) x e = like-group_one n (like-append (like-list group) (like_item x like_end)) e
  like-on_input (T.Folder F.Take) (like_item n like_end) (like_int {n = left}) x e = like-cond (int_le left (pos 0)) (e _ _ like_int _ _ like_is_done) (e _ _ like_int _ _ (like_passes x))
  like-on_input _ _ _ _ _ = like_throw

  like-stage_on : {f : Value C} {g : Value D} → Like R f g → {u : Value C} {v : Value D} → Like R u v → {x : Value C} {y : Value D} → Like R x y → {k : Value C → Effect C → Plan C} {h : Value D → Effect D → Plan D} → LikeEffects R k h → LikePlan R (stage_on f u x k) (stage_on g v y h)
  like-stage_on (like_function {t = t} bound) u x e = like-on_input t (like-list bound) u x e
  like-stage_on _ u x e = like_throw

  -- ## Through all stages

  like-answered : {f : Value C} {g : Value D} → Like R f g → {v : Value C} {w : Value D} → Like R v w → {k : Sink C → Bool → Plan C} {h : Sink D → Bool → Plan D} → ((s : Sink C) (t : Sink D) → LikeSink R s t → (done : Bool) → LikePlan R (k s done) (h t done)) → LikePlan R (k (reduces f (unwrapped v)) (is_reduced v)) (h (reduces g (unwrapped w)) (is_reduced w))
  like-answered hf (like_reduced e) q = q _ _ (like_reduces hf e) true
  like-answered hf e q = q _ _ (like_reduces hf e) false

  like-output : {s : Sink C} {t : Sink D} → LikeSink R s t → {x : Value C} {y : Value D} → Like R x y → {k : Sink C → Bool → Plan C} {h : Sink D → Bool → Plan D} → ((s : Sink C) (t : Sink D) → LikeSink R s t → (done : Bool) → LikePlan R (k s done) (h t done)) → LikePlan R (output s x k) (output t y h)
  like-output (like_reduces f a) x q = like_call f (like_item a (like_item x like_end)) (λ v w e. like-answered f e q)
  like-output (like_gathers xs) x q = q _ _ (like_gathers (like-append xs (like_item x like_end))) false

  like-sink_values : {s : Sink C} {t : Sink D} → LikeSink R s t → LikeList R (sink_values s) (sink_values t)
  like-sink_values (like_reduces f a) = like_item f (like_item a like_end)
  like-sink_values (like_gathers xs) = like_item (like_vector (like-values xs)) like_end

  pub like-answer_of : {s : Sink C} {t : Sink D} → LikeSink R s t → Like R (answer_of s) (answer_of t)
  like-answer_of (like_reduces f a) = a
  like-answer_of (like_gathers xs) = like_vector (like-values xs)

  pub like-outputs_of : {s : Sink C} {t : Sink D} → LikeSink R s t → LikeList R (outputs_of s) (outputs_of t)
  like-outputs_of (like_reduces f a) = like_item a like_end
  like-outputs_of (like_gathers xs) = xs

  like-standing : {xs : List (Value C)} {ys : List (Value D)} → LikeList R xs ys → {s : Sink C} {t : Sink D} → LikeSink R s t → (done : Bool) → Like R (standing xs s done) (standing ys t done)
  like-standing p q done = like_vector (like_more like_bool (like_more (like_vector (like-values p)) (like-values (like-sink_values q))))

  like-entered : {v : Value C} {w : Value D} → Like R v w → {k : Onward C} {h : Onward D} → LikeOnward R k h → LikePlan R (entered k v) (entered h w)
  like-entered (like_vector (like_more (like_bool {b = done}) (like_more (like_vector states) (like_more f (like_more a like_none))))) q = q _ _ (like-list states) _ _ (like_reduces f a) done
  like-entered (like_vector (like_more (like_bool {b = done}) (like_more (like_vector states) (like_more (like_vector xs) like_none)))) q = q _ _ (like-list states) _ _ (like_gathers (like-list xs)) done
  like-entered _ q = like_throw

  like-each_from : {xs : List (Value C)} {ys : List (Value D)} → LikeList R xs ys → {us : List (Value C)} {vs : List (Value D)} → LikeList R us vs → {s : Sink C} {t : Sink D} → LikeSink R s t → {v : Value C} {w : Value D} → Like R v w → {k : Value C → Plan C} {h : Value D → Plan D} → ((v : Value C) (w : Value D) → Like R v w → LikePlan R (k v) (h w)) → LikePlan R (each_from xs us s v k) (each_from ys vs t w h)
  like-each_from p q r e f = like_go (like_item (like_vector (like-values p)) (like_item (like_vector (like-values q)) (like_item e (like-sink_values r)))) f

  pub like-enter_each : {xs : List (Value C)} {ys : List (Value D)} → LikeList R xs ys → {us : List (Value C)} {vs : List (Value D)} → LikeList R us vs → {s : Sink C} {t : Sink D} → LikeSink R s t → {c : Value C} {d : Value D} → Like R c d → {k : Onward C} {h : Onward D} → LikeOnward R k h → LikePlan R (enter_each xs us s c k) (enter_each ys vs t d h)
  like-enter_each p q r e f = like_seq e (λ v w g. like-each_from p q r g (λ v w g. like-entered g f))

  like-with_state : {u : Value C} {v : Value D} → Like R u v → {k : Onward C} {h : Onward D} → LikeOnward R k h → LikeOnward R (with_state u k) (with_state v h)
  like-with_state e f = λ xs ys p s t q done. f _ _ (like_item e p) s t q done

  like-with_last : {u : Value C} {v : Value D} → Like R u v → {k : Onward C} {h : Onward D} → LikeOnward R k h → LikeOnward R (with_last u k) (with_last v h)
  like-with_last e f = λ xs ys p s t q done. f _ _ (like_item e p) s t q true

  like-by_effect : {one last each : Value C → Plan C} {nothing ends : Plan C} {one' last' each' : Value D → Plan D} {nothing' ends' : Plan D}
      → ((x : Value C) (y : Value D) → Like R x y → LikePlan R (one x) (one' y)) → ((x : Value C) (y : Value D) → Like R x y → LikePlan R (last x) (last' y)) → ((x : Value C) (y : Value D) → Like R x y → LikePlan R (each x) (each' y)) → LikePlan R nothing nothing' → LikePlan R ends ends'
      → {e : Effect C} {f : Effect D} → LikeEffect R e f → LikePlan R (by_effect one last each nothing ends e) (by_effect one' last' each' nothing' ends' f)
  like-by_effect a b c n d (like_passes p) = a _ _ p
  like-by_effect a b c n d (like_passes_last p) = b _ _ p
  like-by_effect a b c n d (like_passes_each p) = c _ _ p
  like-by_effect a b c n d like_passes_nothing = n
  like-by_effect a b c n d like_is_done = d

  pub like-enter : {xs : List (Value C)} {ys : List (Value D)} → LikeList R xs ys → {us : List (Value C)} {vs : List (Value D)} → LikeList R us vs → {s : Sink C} {t : Sink D} → LikeSink R s t → {x : Value C} {y : Value D} → Like R x y → {k : Onward C} {h : Onward D} → LikeOnward R k h → LikePlan R (enter xs us s x k) (enter ys vs t y h)
  like-enter like_end states sink x f = like-output sink x (λ s t q done. f _ _ like_end s t q done)
  like-enter (like_item stage later) (like_item state states) sink x f = like-stage_on stage state x (λ u v p e e' q. like-by_effect
      (λ x y h. like-enter later states sink h (like-with_state p f))
      (λ x y h. like-enter later states sink h (like-with_last p f))
      (λ x y h. like-enter_each later states sink h (like-with_state p f))
      (f _ _ (like_item p states) _ _ sink false)
      (f _ _ (like_item p states) _ _ sink true)
      q)
  like-enter (like_item stage later) like_end sink x f = like_throw

  like-each_round : {xs : List (Value C)} {ys : List (Value D)} → LikeList R xs ys → {us : List (Value C)} {vs : List (Value D)} → LikeList R us vs → {s : Sink C} {t : Sink D} → LikeSink R s t → {v : Value C} {w : Value D} → Like R v w → LikeRound R (each_round xs us s v) (each_round ys vs t w)
  like-each_round p q r e = like-round_at e (like_ends_with (like-standing q r false))
      (like_visits (like-enter p q r (like-first_of e) (λ us vs h s t g done. like-cond done (like_give (like-standing h g true)) (like_seq (like-rest_of e) (λ v w f. like-each_from p h g f (λ v w f. like_give f))))))

  pub like-enter_round : {xs : List (Value C)} {ys : List (Value D)} → LikeList R xs ys → LikeRound R (enter_round xs) (enter_round ys)
  like-enter_round (like_item (like_vector p) (like_item (like_vector q) (like_item s (like_item f (like_item a like_end))))) = like-each_round (like-list p) (like-list q) (like_reduces f a) s
  like-enter_round (like_item (like_vector p) (like_item (like_vector q) (like_item s (like_item (like_vector xs) like_end)))) = like-each_round (like-list p) (like-list q) (like_gathers (like-list xs)) s
  like-enter_round _ = like_fails

  pub like-complete : {xs : List (Value C)} {ys : List (Value D)} → LikeList R xs ys → {us : List (Value C)} {vs : List (Value D)} → LikeList R us vs → {s : Sink C} {t : Sink D} → LikeSink R s t → {k : Sink C → Plan C} {h : Sink D → Plan D} → ((s : Sink C) (t : Sink D) → LikeSink R s t → LikePlan R (k s) (h t)) → LikePlan R (complete xs us s k) (complete ys vs t h)
  like-complete like_end states sink f = f _ _ sink
  like-complete (like_item (like_function {t = T.Xf X.PartitionAll} bound) later) (like_item (like_vector (like_more x xs)) states) sink f =
      like-enter later states sink (like_vector (like_more x xs)) (λ us vs p s t q done. like-complete later p q f)
  like-complete (like_item stage later) (like_item state states) sink f = like-complete later states sink f
  like-complete (like_item stage later) like_end sink f = like_throw

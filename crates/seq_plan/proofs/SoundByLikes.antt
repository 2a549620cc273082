-- A likeness that asks for fit nodes relates sound values, and each of them to itself. So what is alike by it is sound.
use Rattle.std.proofs.Common.{◌≡◌, true, List, refl, ap, subst}
use Rattle.seq_values.specs.Model.{Value, vector, function, reduced, cell, vec_seq, Values}
use Rattle.seq_plan.specs.Plan.{Plan, Round, Rules}
use Rattle.seq_plan.specs.Sound.{Sound, sound_nil, sound_bool, sound_int, sound_keyword, sound_text, sound_vector, sound_function, sound_reduced, sound_cell, sound_empty, sound_cons, sound_chunk, sound_range, sound_vec_seq, SoundAll, sound_none, sound_more, SoundList, sound_end, sound_item, SoundPlan, sound_visit, sound_ask, sound_seq, sound_call, sound_go, sound_make, sound_give, sound_throw, SoundRound, sound_ends_with, sound_fails, sound_visits, sound_calls_for, SoundRules}
use Rattle.seq_plan.specs.Alike.{Likeness, Like, like_nil, like_bool, like_int, like_keyword, like_text, like_vector, like_function, like_reduced, like_cell, like_empty, like_cons, like_chunk, like_range, like_vec_seq, LikeAll, like_none, like_more, LikeList, like_end, like_item, like_term, LikePlan, like_visit, like_ask, like_seq, like_call, like_go, like_make, like_give, like_throw, LikeRound, like_ends_with, like_fails, like_visits, like_calls_for, LikeRules}

-- each cell is the same as itself alone, and nodes are fit
abbrev pub Itself : (C : Type 0) → Likeness C C
Itself C = record { same = λ c d. c ≡ d; sound = true }

module _ {C : Type 0} where
  mutual
    pub sound_value : {D : Type 0} {R : Likeness C D} → R.sound ≡ true → {v : Value C} {w : Value D} → Like R v w → Sound v
    sound_value s like_nil = sound_nil
    sound_value s like_bool = sound_bool
    sound_value s like_int = sound_int
    sound_value s like_keyword = sound_keyword
    sound_value s like_text = sound_text
    sound_value s (like_vector h) = sound_vector (sound_all s h)
    sound_value s (like_function h) = sound_function (sound_all s h)
    sound_value s (like_reduced h) = sound_reduced (sound_value s h)
    sound_value s (like_cell r) = sound_cell
    sound_value s like_empty = sound_empty
    sound_value s (like_cons n h k) = sound_cons (n s) (sound_all s h) (sound_value s k)
    sound_value s (like_chunk n h k) = sound_chunk (n s) (sound_all s h) (sound_value s k)
    sound_value s (like_range n) = sound_range (n s)
    sound_value s (like_vec_seq n h) = sound_vec_seq (n s) (sound_all s h)

    sound_all : {D : Type 0} {R : Likeness C D} → R.sound ≡ true → {xs : Values C} {ys : Values D} → LikeAll R xs ys → SoundAll xs
    sound_all s like_none = sound_none
    sound_all s (like_more h k) = sound_more (sound_value s h) (sound_all s k)

  pub sound_list : {D : Type 0} {R : Likeness C D} → R.sound ≡ true → {xs : List (Value C)} {ys : List (Value D)} → LikeList R xs ys → SoundList xs
  sound_list s like_end = sound_end
  sound_list s (like_item h k) = sound_item (sound_value s h) (sound_list s k)

  mutual
    pub value_itself : {v : Value C} → Sound v → Like (Itself C) v v
    value_itself sound_nil = like_nil
    value_itself sound_bool = like_bool
    value_itself sound_int = like_int
    value_itself sound_keyword = like_keyword
    value_itself sound_text = like_text
    value_itself (sound_vector h) = like_vector (all_itself h)
    value_itself (sound_function h) = like_function (all_itself h)
    value_itself (sound_reduced h) = like_reduced (value_itself h)
    value_itself sound_cell = like_cell refl
    value_itself sound_empty = like_empty
    value_itself (sound_cons n h k) = like_cons (λ s. n) (all_itself h) (value_itself k)
    value_itself (sound_chunk n h k) = like_chunk (λ s. n) (all_itself h) (value_itself k)
    value_itself (sound_range n) = like_range (λ s. n)
    value_itself (sound_vec_seq n h) = like_vec_seq (λ s. n) (all_itself h)

    all_itself : {xs : Values C} → SoundAll xs → LikeAll (Itself C) xs xs
    all_itself sound_none = like_none
    all_itself (sound_more h k) = like_more (value_itself h) (all_itself k)

  pub list_itself : {xs : List (Value C)} → SoundList xs → LikeList (Itself C) xs xs
  list_itself sound_end = like_end
  list_itself (sound_item h k) = like_item (value_itself h) (list_itself k)

  -- what is alike is one value
  mutual
    one_value : {v w : Value C} → Like (Itself C) v w → v ≡ w
    one_value like_nil = refl
    one_value like_bool = refl
    one_value like_int = refl
    one_value like_keyword = refl
    one_value like_text = refl
    one_value (like_vector h) = ap vector (one_all h)
    one_value (like_function {t = t} h) = ap (function t) (one_all h)
    one_value (like_reduced h) = ap reduced (one_value h)
    one_value (like_cell r) = ap cell r
    one_value like_empty = refl
    one_value (like_cons n h k) = rw (one_all h, one_value k)
    one_value (like_chunk n h k) = rw (one_all h, one_value k)
    one_value (like_range n) = refl
    one_value (like_vec_seq {at = at} n h) = ap (λ xs. vec_seq xs at) (one_all h)

    one_all : {xs ys : Values C} → LikeAll (Itself C) xs ys → xs ≡ ys
    one_all like_none = refl
    one_all (like_more h k) = rw (one_value h, one_all k)

  one_list : {xs ys : List (Value C)} → LikeList (Itself C) xs ys → xs ≡ ys
  one_list like_end = refl
  one_list (like_item h k) = rw (one_value h, one_list k)

  -- sound plans go on alike with like answers
  same_answer : (k : Value C → Plan C) → ((v : Value C) → Sound v → LikePlan (Itself C) (k v) (k v)) → (v w : Value C) → Like (Itself C) v w → LikePlan (Itself C) (k v) (k w)
  same_answer k f v w h = subst (λ u. LikePlan (Itself C) (k v) (k u)) (one_value h) (f v (sound_value refl h))

  plan_itself : {p : Plan C} → SoundPlan p → LikePlan (Itself C) p p
  plan_itself (sound_visit h) = like_visit (plan_itself h)
  plan_itself (sound_ask {k = k} h) = like_ask refl (same_answer k (λ v s. plan_itself (h v s)))
  plan_itself (sound_seq {k = k} x h) = like_seq (value_itself x) (same_answer k (λ v s. plan_itself (h v s)))
  plan_itself (sound_call {k = k} f xs h) = like_call (value_itself f) (list_itself xs) (same_answer k (λ v s. plan_itself (h v s)))
  plan_itself (sound_go {k = k} xs h) = like_go (list_itself xs) (same_answer k (λ v s. plan_itself (h v s)))
  plan_itself (sound_make {t = t} {k = k} xs h) = like_make (like_term (list_itself xs)) (λ c d r. subst (λ e. LikePlan (Itself C) (k c) (k e)) r (plan_itself (h c)))
  plan_itself (sound_give v) = like_give (value_itself v)
  plan_itself sound_throw = like_throw

  round_itself : {a : Round C} → SoundRound a → LikeRound (Itself C) a a
  round_itself (sound_ends_with v) = like_ends_with (value_itself v)
  round_itself sound_fails = like_fails
  round_itself (sound_visits h) = like_visits (plan_itself h)
  round_itself (sound_calls_for {k = k} f xs h) = like_calls_for (value_itself f) (list_itself xs) (same_answer k (λ v s. plan_itself (h v s)))

  call_itself : (call : List (Value C) → List (Value C) → Plan C) → ((bs xs : List (Value C)) → SoundList bs → SoundList xs → SoundPlan (call bs xs)) → {bs cs xs ys : List (Value C)} → LikeList (Itself C) bs cs → LikeList (Itself C) xs ys → LikePlan (Itself C) (call bs xs) (call cs ys)
  call_itself call f {bs = bs} {cs = cs} {xs = xs} {ys = ys} h k =
      let p = plan_itself (f bs xs (sound_list refl h) (sound_list refl k)) in
      subst (λ zs. LikePlan (Itself C) (call bs xs) (call zs ys)) (one_list h) (subst (λ zs. LikePlan (Itself C) (call bs xs) (call bs zs)) (one_list k) p)

  pub rules_themselves : {rules : Rules C} → SoundRules rules → LikeRules (Itself C) rules rules
  rules_themselves {rules = rules} s = record {
    calls = λ t bs cs xs ys h k. call_itself (rules.on_call t) (s.calls t) h k;
    terms = λ op xs ys h. subst (λ zs. LikePlan (Itself C) (rules.on_term op xs) (rules.on_term op zs)) (one_list h) (plan_itself (s.terms op xs (sound_list refl h)));
    loops = λ l xs ys h. subst (λ zs. LikeRound (Itself C) (rules.on_loop l xs) (rules.on_loop l zs)) (one_list h) (round_itself (s.loops l xs (sound_list refl h)));
    prints = λ v w h. subst (λ u. LikePlan (Itself C) (rules.on_print v) (rules.on_print u)) (one_value h) (plan_itself (s.prints v (sound_value refl h)));
  }

  pub sound_plan : {p q : Plan C} → LikePlan (Itself C) p q → SoundPlan p
  sound_plan (like_visit h) = sound_visit (sound_plan h)
  sound_plan (like_ask r h) = sound_ask (λ v s. sound_plan (h v v (value_itself s)))
  sound_plan (like_seq x h) = sound_seq (sound_value refl x) (λ v s. sound_plan (h v v (value_itself s)))
  sound_plan (like_call f xs h) = sound_call (sound_value refl f) (sound_list refl xs) (λ v s. sound_plan (h v v (value_itself s)))
  sound_plan (like_go xs h) = sound_go (sound_list refl xs) (λ v s. sound_plan (h v v (value_itself s)))
  sound_plan (like_make (like_term xs) h) = sound_make (sound_list refl xs) (λ c. sound_plan (h c c refl))
  sound_plan (like_give v) = sound_give (sound_value refl v)
  sound_plan like_throw = sound_throw

  sound_round : {a b : Round C} → LikeRound (Itself C) a b → SoundRound a
  sound_round (like_ends_with v) = sound_ends_with (sound_value refl v)
  sound_round like_fails = sound_fails
  sound_round (like_visits h) = sound_visits (sound_plan h)
  sound_round (like_calls_for f xs h) = sound_calls_for (sound_value refl f) (sound_list refl xs) (λ v s. sound_plan (h v v (value_itself s)))

  pub sound_rules : {rules others : Rules C} → LikeRules (Itself C) rules others → SoundRules rules
  sound_rules h = record {
    calls = λ t bs xs b x. sound_plan (h.calls t bs bs xs xs (list_itself b) (list_itself x));
    terms = λ op xs x. sound_plan (h.terms op xs xs (list_itself x));
    loops = λ l xs x. sound_round (h.loops l xs xs (list_itself x));
    prints = λ v s. sound_plan (h.prints v v (value_itself s));
  }

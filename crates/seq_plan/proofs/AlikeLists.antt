-- Lists of like elements are alike, and so is what goes on with them.
use Rattle.std.proofs.Common.{◌≡◌, ℤ, pos, int_lt, Bool, true, List, [], ◌∷◌, ◌++◌, reverse, refl}
use mathlib.Core.List.{reverse_aux}
use Rattle.seq_values.specs.declared.words.Op.{Op}
use Rattle.seq_plan.specs.Nodes.{with_items, with_value}
use Rattle.seq_plan.specs.Arguments.{of_value, at_least_one}
use Rattle.seq_values.specs.Model.{Value, cell, cons, Values, no_values, ◌&◌, list, values}
use Rattle.seq_plan.specs.Plan.{Plan}
use Rattle.seq_plan.specs.Sound.{are_some, ends_cons, ends_chunk}
use Rattle.seq_plan.proofs.FitLemmas.{fit_at_start, both, second_of_both}
use Rattle.seq_plan.specs.Lists.{list_of, give_list, put_before, with_first, lazily, first_and, items_and, with_seq}
use Rattle.seq_plan.specs.Alike.{Likeness, Like, like_nil, like_vector, like_cell, like_empty, like_cons, like_chunk, like_range, like_vec_seq, LikeAll, like_none, like_more, LikeList, like_end, like_item, like_term, LikePlan, like_seq, like_make, like_give, like_throw}
use Rattle.seq_plan.proofs.AlikeNodes.{like-list, like-values, like-append, like-cond, like-if_nil, like-with_value, like-give_value, like-with_members, like-with_these}

pub some_reversed : {C : Type 0} (xs : List (Value C)) (y : Value C) (ys : List (Value C)) → are_some (values (reverse_aux xs (y ∷ ys))) ≡ true
some_reversed [] y ys = refl
some_reversed (x ∷ xs) y ys = some_reversed xs x (y ∷ ys)

pub some_appended : {C : Type 0} (xs : List (Value C)) (y : Value C) (ys : List (Value C)) → are_some (values (xs ++ y ∷ ys)) ≡ true
some_appended [] y ys = refl
some_appended (x ∷ xs) y ys = refl

-- before what an element may be put
abbrev pub comes_behind : {C : Type 0} → Value C → Bool
comes_behind (cons xs r) = true
comes_behind v = ends_cons v

module _ {C D : Type 0} {R : Likeness C D} where
  like-reverse_aux : {xs : List (Value C)} {ys : List (Value D)} → LikeList R xs ys → {zs : List (Value C)} {us : List (Value D)} → LikeList R zs us → LikeList R (reverse_aux xs zs) (reverse_aux ys us)
  like-reverse_aux like_end h = h
  like-reverse_aux (like_item p q) h = like-reverse_aux q (like_item p h)

  pub like-reverse : {xs : List (Value C)} {ys : List (Value D)} → LikeList R xs ys → LikeList R (reverse xs) (reverse ys)
  like-reverse h = like-reverse_aux h like_end

  pub like-list_of : {xs : List (Value C)} {ys : List (Value D)} → LikeList R xs ys → Like R (list_of xs) (list_of ys)
  like-list_of like_end = like_empty
  like-list_of (like_item {x = x} {xs = xs} p q) = like_cons (λ s. both (some_reversed xs x []) refl) (like-values (like-reverse (like_item p q))) like_nil

  pub like-give_list : {xs : List (Value C)} {ys : List (Value D)} → LikeList R xs ys → LikePlan R (give_list xs) (give_list ys)
  like-give_list h = like-with_members h (λ vs ws e. like-with_value (like-list_of e) (λ v w i. like_give i))

  like-put_before : {x s : Value C} {y t : Value D} → Like R x y → Like R s t → (R.sound ≡ true → comes_behind s ≡ true) → {k : Value C → Plan C} {h : Value D → Plan D} → ((v : Value C) (w : Value D) → Like R v w → LikePlan R (k v) (h w)) → LikePlan R (put_before x s k) (put_before y t h)
  like-put_before {x = x} p (like_cons {xs = xs} {r = r} {s = r'} n q u) m {k = k} {h = h} f =
      let e = like-append (like-list q) (like_item p like_end) in
      like-with_these e (λ zs. with_value (cons (values zs) r) k) (λ zs. with_value (cons (values zs) r') h)
      (like-with_value (like_cons (λ s. both (some_appended (list xs) x []) (second_of_both (are_some xs) _ (n s))) (like-values e) u) f)
  like-put_before p like_nil m f = like-with_value (like_cons (λ s. refl) (like_more p like_none) like_nil) f
  like-put_before p q m f = like-with_value (like_cons m (like_more p like_none) q) f

  pub like-with_first : {x s : Value C} {y t : Value D} → Like R x y → Like R s t → {k : Value C → Plan C} {h : Value D → Plan D} → ((v : Value C) (w : Value D) → Like R v w → LikePlan R (k v) (h w)) → LikePlan R (with_first x s k) (with_first y t h)
  like-with_first p like_nil f = like-put_before p like_nil (λ s. refl) f
  like-with_first p (like_vector like_none) f = like-put_before p like_nil (λ s. refl) f
  like-with_first p (like_vector (like_more {x = x} {xs = xs} q r)) f = like-put_before p (like_vec_seq (λ s. fit_at_start x xs) (like_more q r)) (λ s. refl) f
  like-with_first p (like_cell r) f = like-put_before p (like_cell r) (λ s. refl) f
  like-with_first p like_empty f = like-put_before p like_empty (λ s. refl) f
  like-with_first p (like_cons n q r) f = like-put_before p (like_cons n q r) (λ s. refl) f
  like-with_first p (like_chunk n q r) f = like-put_before p (like_chunk n q r) (λ s. refl) f
  like-with_first p (like_range n) f = like-put_before p (like_range n) (λ s. refl) f
  like-with_first p (like_vec_seq n q) f = like-put_before p (like_vec_seq n q) (λ s. refl) f
  like-with_first p _ f = like_throw

  -- a chunk of the items, or the rest itself
  pub like-with_items : {xs : Values C} {ys : Values D} → LikeAll R xs ys → {v : Value C} {w : Value D} → (R.sound ≡ true → ends_chunk v ≡ true) → Like R v w → Like R (with_items xs v) (with_items ys w)
  like-with_items like_none n h = h
  like-with_items (like_more p q) n h = like_chunk n (like_more p q) h

  -- an element, or items, before a part
  pub like-first_before : {x : Value C} {y : Value D} → Like R x y → {c : C} {d : D} → R.same c d → Like R (cons (x & no_values) (cell c)) (cons (y & no_values) (cell d))
  like-first_before x r = like_cons (λ s. refl) (like_more x like_none) (like_cell r)

  pub like-items_before : {xs : Values C} {ys : Values D} → LikeAll R xs ys → {c : C} {d : D} → R.same c d → Like R (with_items xs (cell c)) (with_items ys (cell d))
  like-items_before h r = like-with_items h (λ s. refl) (like_cell r)

  pub like-lazily : (op : Op) {xs : List (Value C)} {ys : List (Value D)} → LikeList R xs ys → LikePlan R (lazily op xs) (lazily op ys)
  like-lazily op h = like_make (like_term h) (λ c d r. like_give (like_cell r))

  pub like-first_and : {x : Value C} {y : Value D} → Like R x y → (op : Op) {xs : List (Value C)} {ys : List (Value D)} → LikeList R xs ys → LikePlan R (first_and x op xs) (first_and y op ys)
  like-first_and x op h = like_make (like_term h) (λ c d r. like-give_value (like-first_before x r))

  pub like-items_and : {zs : List (Value C)} {us : List (Value D)} → LikeList R zs us → (op : Op) {xs : List (Value C)} {ys : List (Value D)} → LikeList R xs ys → LikePlan R (items_and zs op xs) (items_and us op ys)
  like-items_and z op h = like_make (like_term h) (λ c d r. like-give_value (like-items_before (like-values z) r))

  pub like-with_seq : {c : Value C} {d : Value D} → Like R c d → {k : Value C → Plan C} {h : Value D → Plan D} → ((v : Value C) (w : Value D) → Like R v w → LikePlan R (k v) (h w)) → LikePlan R (with_seq c k) (with_seq d h)
  like-with_seq c f = like_seq c (λ s t e. like-if_nil e (like_give like_nil) (f s t e))

  pub like-of_value : {k : Value C → Plan C} {h : Value D → Plan D} → ((v : Value C) (w : Value D) → Like R v w → LikePlan R (k v) (h w)) → {xs : List (Value C)} {ys : List (Value D)} → LikeList R xs ys → LikePlan R (of_value k xs) (of_value h ys)
  like-of_value f (like_item p like_end) = f _ _ p
  like-of_value f _ = like_throw

  pub like-at_least_one : (n : ℤ) {p : Plan C} {q : Plan D} → LikePlan R p q → LikePlan R (at_least_one n p) (at_least_one n q)
  like-at_least_one n h = like-cond (int_lt n (pos 1)) like_throw h

-- The rules of the words that force nothing look at cells only to ask them.
use Rattle.std.proofs.Common.{◌≡◌, ℤ, pos, ◌+ℤ◌, ◌-ℤ◌, ◌*ℤ◌, neg_ℤ, int_div, Bool, true, false, not, List, [], ◌∷◌, Option, Some, None, refl, ap, subst}
use Rattle.seq_values.specs.declared.words.Builtin.{Builtin}
use Rattle.seq_values.specs.declared.words.Builtin.TheVariants as B
use Rattle.seq_values.specs.declared.words.Target.{Target}
use Rattle.seq_values.specs.declared.words.Target.TheVariants as T
use Rattle.seq_values.specs.Model.{Value}
use Rattle.seq_plan.specs.Plan.{Plan}
use Rattle.seq_plan.specs.Alike.{Likeness, Like, like_nil, like_bool, like_int, like_keyword, like_text, like_vector, like_function, like_reduced, LikeList, like_end, like_item, LikePlan, like_call, like_give, like_throw}
use Rattle.seq_plan.proofs.AlikeNodes.{like-cond, like-values, like-append, like-give_value, like-with_members}
use Rattle.seq_plan.proofs.AlikeLists.{like-give_list, like-of_value}
use Rattle.seq_plan.proofs.AlikeTests.{like-is_nil, like-is_truthy, like-bools}
use Rattle.core_rows.specs.Arithmetic.{also, integers, on_integers, of_any, first_and_others, of_some, of_one, of_two, give_bool, give_int, from_left, minus, unless_zero}
use Rattle.seq_plan.proofs.AlikeStages.{like-has_stages}
use Rattle.core_rows.specs.Table.{is_true, is_false, is_number, is_keyword, is_text, is_vector, is_function, is_reduced, unreduced, tells, give_function, give_vector, binds_one, partial, comp, completing, monoid, core_call, composed, comp_call, completing_call, monoid_call, core_function}

module _ {C D : Type 0} {R : Likeness C D} where
  -- ## Numbers of arguments

  like-integers : {xs : List (Value C)} {ys : List (Value D)} → LikeList R xs ys → integers xs ≡ integers ys
  like-integers like_end = refl
  like-integers (like_item (like_int {n = n}) q) = ap (also n) (like-integers q)
  like-integers (like_item _ q) = refl

  like-on_integers : {k : List ℤ → Plan C} {h : List ℤ → Plan D} → ((ns : List ℤ) → LikePlan R (k ns) (h ns)) → (o : Option (List ℤ)) → LikePlan R (on_integers k o) (on_integers h o)
  like-on_integers f None = like_throw
  like-on_integers f (Some ns) = f ns

  like-of_any : {k : List ℤ → Plan C} {h : List ℤ → Plan D} → ((ns : List ℤ) → LikePlan R (k ns) (h ns)) → {xs : List (Value C)} {ys : List (Value D)} → LikeList R xs ys → LikePlan R (of_any k xs) (of_any h ys)
  like-of_any {k = k} {h = h} f {xs = xs} {ys = ys} q = subst (λ o. LikePlan R (on_integers k (integers xs)) (on_integers h o)) (like-integers q) (like-on_integers f (integers xs))

  like-first_and_others : {k : ℤ → List ℤ → Plan C} {h : ℤ → List ℤ → Plan D} → ((n : ℤ) (ns : List ℤ) → LikePlan R (k n ns) (h n ns)) → (ns : List ℤ) → LikePlan R (first_and_others k ns) (first_and_others h ns)
  like-first_and_others f [] = like_throw
  like-first_and_others f (n ∷ ns) = f n ns

  like-of_some : {k : ℤ → List ℤ → Plan C} {h : ℤ → List ℤ → Plan D} → ((n : ℤ) (ns : List ℤ) → LikePlan R (k n ns) (h n ns)) → {xs : List (Value C)} {ys : List (Value D)} → LikeList R xs ys → LikePlan R (of_some k xs) (of_some h ys)
  like-of_some f like_end = like_throw
  like-of_some f (like_item p q) = like-of_any (like-first_and_others f) (like_item p q)

  like-of_one : {k : ℤ → Plan C} {h : ℤ → Plan D} → ((n : ℤ) → LikePlan R (k n) (h n)) → {xs : List (Value C)} {ys : List (Value D)} → LikeList R xs ys → LikePlan R (of_one k xs) (of_one h ys)
  like-of_one f (like_item (like_int {n = n}) like_end) = f n
  like-of_one f (like_item _ like_end) = like_throw
  like-of_one f _ = like_throw

  like-of_two : {k : ℤ → ℤ → Plan C} {h : ℤ → ℤ → Plan D} → ((a b : ℤ) → LikePlan R (k a b) (h a b)) → {xs : List (Value C)} {ys : List (Value D)} → LikeList R xs ys → LikePlan R (of_two k xs) (of_two h ys)
  like-of_two f (like_item (like_int {n = a}) (like_item (like_int {n = b}) like_end)) = f a b
  like-of_two f (like_item _ (like_item _ like_end)) = like_throw
  like-of_two f _ = like_throw

  -- ## Answers

  like-give_int : (n : ℤ) → LikePlan R (give_int n) (give_int n)
  like-give_int n = like-cond _ (like_give like_int) like_throw

  like-from_left : (op : ℤ → ℤ → ℤ) (n : ℤ) (ns : List ℤ) → LikePlan R (from_left op n ns) (from_left op n ns)
  like-from_left op n [] = like_give like_int
  like-from_left op n (m ∷ ms) = like-cond _ (like-from_left op (op n m) ms) like_throw

  like-minus : (n : ℤ) (ns : List ℤ) → LikePlan R (minus n ns) (minus n ns)
  like-minus n [] = like-give_int (neg_ℤ n)
  like-minus n (m ∷ ms) = like-from_left ◌-ℤ◌ n (m ∷ ms)

  like-unless_zero : (b : ℤ) {p : Plan C} {q : Plan D} → LikePlan R p q → LikePlan R (unless_zero b p) (unless_zero b q)
  like-unless_zero b h = like-cond _ like_throw h

  like-give_bool : {a b : Bool} → a ≡ b → LikePlan R (give_bool a) (give_bool b)
  like-give_bool e = like_give (like-bools e)

  like-tells : {test : Value C → Bool} {other : Value D → Bool} → ((v : Value C) (w : Value D) → Like R v w → test v ≡ other w) → {xs : List (Value C)} {ys : List (Value D)} → LikeList R xs ys → LikePlan R (tells test xs) (tells other ys)
  like-tells f q = like-of_value (λ v w e. like-give_bool (f v w e)) q

  -- ## Values by kind

  like-is_true : (v : Value C) (w : Value D) → Like R v w → is_true v ≡ is_true w
  like-is_true v w like_bool = refl
  like-is_true v w _ = refl

  like-is_false : (v : Value C) (w : Value D) → Like R v w → is_false v ≡ is_false w
  like-is_false v w like_bool = refl
  like-is_false v w _ = refl

  like-is_number : (v : Value C) (w : Value D) → Like R v w → is_number v ≡ is_number w
  like-is_number v w like_int = refl
  like-is_number v w _ = refl

  like-is_keyword : (v : Value C) (w : Value D) → Like R v w → is_keyword v ≡ is_keyword w
  like-is_keyword v w like_keyword = refl
  like-is_keyword v w _ = refl

  like-is_text : (v : Value C) (w : Value D) → Like R v w → is_text v ≡ is_text w
  like-is_text v w like_text = refl
  like-is_text v w _ = refl

  like-is_vector : (v : Value C) (w : Value D) → Like R v w → is_vector v ≡ is_vector w
  like-is_vector v w (like_vector h) = refl
  like-is_vector v w _ = refl

  like-is_function : (v : Value C) (w : Value D) → Like R v w → is_function v ≡ is_function w
  like-is_function v w (like_function h) = refl
  like-is_function v w _ = refl

  like-is_reduced : (v : Value C) (w : Value D) → Like R v w → is_reduced v ≡ is_reduced w
  like-is_reduced v w (like_reduced h) = refl
  like-is_reduced v w _ = refl

  like-unreduced : {v : Value C} {w : Value D} → Like R v w → Like R (unreduced v) (unreduced w)
  like-unreduced (like_reduced h) = h
  like-unreduced like_nil = like_nil
  like-unreduced h = h

  -- ## Functions that the words make

  like-give_function : (t : Target) {xs : List (Value C)} {ys : List (Value D)} → LikeList R xs ys → LikePlan R (give_function t xs) (give_function t ys)
  like-give_function t h = like-with_members h (λ vs ws e. like-give_value (like_function {t = t} (like-values e)))

  like-give_vector : {xs : List (Value C)} {ys : List (Value D)} → LikeList R xs ys → LikePlan R (give_vector xs) (give_vector ys)
  like-give_vector h = like-with_members h (λ vs ws e. like-give_value (like_vector (like-values e)))

  like-binds_one : (t : Target) {xs : List (Value C)} {ys : List (Value D)} → LikeList R xs ys → LikePlan R (binds_one t xs) (binds_one t ys)
  like-binds_one t (like_item p like_end) = like-give_function t (like_item p like_end)
  like-binds_one t _ = like_throw

  like-partial : {xs : List (Value C)} {ys : List (Value D)} → LikeList R xs ys → LikePlan R (partial xs) (partial ys)
  like-partial like_end = like_throw
  like-partial (like_item p q) = like-give_function T.Partial (like_item p q)

  like-comp : {xs : List (Value C)} {ys : List (Value D)} → LikeList R xs ys → LikePlan R (comp xs) (comp ys)
  like-comp like_end = like-give_function (T.Builtin B.Identity) like_end
  like-comp (like_item p q) = like-give_function T.Comp (like_item p q)

  like-completing : {xs : List (Value C)} {ys : List (Value D)} → LikeList R xs ys → LikePlan R (completing xs) (completing ys)
  like-completing (like_item f like_end) = like-give_function T.Completing (like_item f like_end)
  like-completing (like_item f (like_item g like_end)) = like-give_function T.Completing (like_item f (like_item g like_end))
  like-completing _ = like_throw

  like-monoid : {xs : List (Value C)} {ys : List (Value D)} → LikeList R xs ys → LikePlan R (monoid xs) (monoid ys)
  like-monoid (like_item op (like_item ctor like_end)) = like-give_function T.Monoid (like_item op (like_item ctor like_end))
  like-monoid _ = like_throw

  pub like-core_call : (word : Builtin) {xs : List (Value C)} {ys : List (Value D)} → LikeList R xs ys → LikePlan R (core_call word xs) (core_call word ys)
  like-core_call B.Plus h = like-of_any (like-from_left ◌+ℤ◌ (pos 0)) h
  like-core_call B.Times h = like-of_any (like-from_left ◌*ℤ◌ (pos 1)) h
  like-core_call B.Minus h = like-of_some like-minus h
  like-core_call B.Inc h = like-of_one (λ n. like-give_int (n +ℤ pos 1)) h
  like-core_call B.Dec h = like-of_one (λ n. like-give_int (n -ℤ pos 1)) h
  like-core_call B.Quot h = like-of_two (λ a b. like-unless_zero b (like-give_int (int_div a b))) h
  like-core_call B.Rem h = like-of_two (λ a b. like-unless_zero b (like_give like_int)) h
  like-core_call B.Mod h = like-of_two (λ a b. like-unless_zero b (like_give like_int)) h
  like-core_call B.Min h = like-of_some (λ n ns. like_give like_int) h
  like-core_call B.Max h = like-of_some (λ n ns. like_give like_int) h
  like-core_call B.Less h = like-of_some (λ n ns. like_give like_bool) h
  like-core_call B.LessOrEqual h = like-of_some (λ n ns. like_give like_bool) h
  like-core_call B.Greater h = like-of_some (λ n ns. like_give like_bool) h
  like-core_call B.GreaterOrEqual h = like-of_some (λ n ns. like_give like_bool) h
  like-core_call B.IsZero h = like-of_one (λ n. like_give like_bool) h
  like-core_call B.IsPositive h = like-of_one (λ n. like_give like_bool) h
  like-core_call B.IsNegative h = like-of_one (λ n. like_give like_bool) h
  like-core_call B.IsEven h = like-of_one (λ n. like_give like_bool) h
  like-core_call B.IsOdd h = like-of_one (λ n. like_give like_bool) h
  like-core_call B.IsNil h = like-tells (λ v w e. like-is_nil e) h
  like-core_call B.IsSome h = like-tells (λ v w e. ap not (like-is_nil e)) h
  like-core_call B.IsTrue h = like-tells like-is_true h
  like-core_call B.IsFalse h = like-tells like-is_false h
  like-core_call B.Not h = like-tells (λ v w e. ap not (like-is_truthy e)) h
  like-core_call B.IsNumber h = like-tells like-is_number h
  like-core_call B.IsKeyword h = like-tells like-is_keyword h
  like-core_call B.IsString h = like-tells like-is_text h
  like-core_call B.IsVector h = like-tells like-is_vector h
  like-core_call B.IsFunction h = like-tells like-is_function h
  like-core_call B.Identity h = like-of_value (λ v w e. like_give e) h
  like-core_call B.Constantly h = like-binds_one T.Constantly h
  like-core_call B.Complement h = like-binds_one T.Complement h
  like-core_call B.Partial h = like-partial h
  like-core_call B.Comp h = like-comp h
  like-core_call B.Completing h = like-completing h
  like-core_call B.Monoid h = like-monoid h
  like-core_call B.Vector h = like-give_vector h
  like-core_call B.List h = like-give_list h
  like-core_call B.Reduced h = like-of_value (λ v w e. like-give_value (like_reduced e)) h
  like-core_call B.IsReduced h = like-tells like-is_reduced h
  like-core_call B.Unreduced h = like-of_value (λ v w e. like_give (like-unreduced e)) h
  like-core_call _ h = like_throw

  -- ## Calls of them

  like-composed : {fs : List (Value C)} {gs : List (Value D)} → LikeList R fs gs → {xs : List (Value C)} {ys : List (Value D)} → LikeList R xs ys → {k : Value C → Plan C} {h : Value D → Plan D} → ((v : Value C) (w : Value D) → Like R v w → LikePlan R (k v) (h w)) → LikePlan R (composed fs xs k) (composed gs ys h)
  like-composed like_end q f = like_throw
  like-composed (like_item p like_end) q f = like_call p q f
  like-composed (like_item p (like_item r s)) q f = like-composed (like_item r s) q (λ v w e. like_call p (like_item e like_end) f)

  like-comp_call : (staged : Bool) {fs : List (Value C)} {gs : List (Value D)} → LikeList R fs gs → {xs : List (Value C)} {ys : List (Value D)} → LikeList R xs ys → LikePlan R (comp_call staged fs xs) (comp_call staged gs ys)
  like-comp_call true p q = like_throw
  like-comp_call false p q = like-composed p q (λ v w e. like_give e)

  like-comp_function : {fs : List (Value C)} {gs : List (Value D)} → LikeList R fs gs → {xs : List (Value C)} {ys : List (Value D)} → LikeList R xs ys → LikePlan R (core_function T.Comp fs xs) (core_function T.Comp gs ys)
  like-comp_function {fs = fs} {gs = gs} p {xs = xs} {ys = ys} q = subst (λ b. LikePlan R (core_function T.Comp fs xs) (comp_call b gs ys)) (like-has_stages (like_function {t = T.Comp} (like-values p))) (like-comp_call _ p q)

  like-completing_call : {fs : List (Value C)} {gs : List (Value D)} → LikeList R fs gs → {xs : List (Value C)} {ys : List (Value D)} → LikeList R xs ys → LikePlan R (completing_call fs xs) (completing_call gs ys)
  like-completing_call (like_item f r) like_end = like_call f like_end (λ v w e. like_give e)
  like-completing_call (like_item f like_end) (like_item x like_end) = like_give x
  like-completing_call (like_item f (like_item g like_end)) (like_item x like_end) = like_call g (like_item x like_end) (λ v w e. like_give e)
  like-completing_call (like_item f r) (like_item x (like_item y like_end)) = like_call f (like_item x (like_item y like_end)) (λ v w e. like_give e)
  like-completing_call _ _ = like_throw

  like-monoid_call : {fs : List (Value C)} {gs : List (Value D)} → LikeList R fs gs → {xs : List (Value C)} {ys : List (Value D)} → LikeList R xs ys → LikePlan R (monoid_call fs xs) (monoid_call gs ys)
  like-monoid_call (like_item op (like_item ctor like_end)) like_end = like_call ctor like_end (λ v w e. like_give e)
  like-monoid_call (like_item op (like_item ctor like_end)) (like_item x (like_item y like_end)) = like_call op (like_item x (like_item y like_end)) (λ v w e. like_give e)
  like-monoid_call _ _ = like_throw

  pub like-core_function : (t : Target) {bs : List (Value C)} {cs : List (Value D)} → LikeList R bs cs → {xs : List (Value C)} {ys : List (Value D)} → LikeList R xs ys → LikePlan R (core_function t bs xs) (core_function t cs ys)
  like-core_function T.Partial (like_item f bs) q = like-with_members (like-append bs q) (λ vs ws e. like_call f e (λ v w i. like_give i))
  like-core_function T.Comp p q = like-comp_function p q
  like-core_function T.Complement (like_item f like_end) q = like_call f q (λ v w e. like-give_bool (ap not (like-is_truthy e)))
  like-core_function T.Constantly (like_item x like_end) q = like_give x
  like-core_function T.Completing p q = like-completing_call p q
  like-core_function T.Monoid p q = like-monoid_call p q
  like-core_function _ p q = like_throw

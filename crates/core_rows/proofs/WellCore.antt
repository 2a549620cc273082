-- The rules of the words that force nothing keep to well-formed values.
use Rattle.std.proofs.Common.{◌≡◌, ℤ, pos, ◌+ℤ◌, ◌-ℤ◌, ◌*ℤ◌, neg_ℤ, int_div, Bool, true, false, not, List, [], ◌∷◌, ◌++◌, Option, Some, None, refl}
use Rattle.seq_values.specs.WellFormed.{binds}
use Rattle.seq_values.specs.declared.words.Builtin.{Builtin}
use Rattle.seq_values.specs.declared.words.Builtin.TheVariants as B
use Rattle.seq_values.specs.declared.words.Target.{Target}
use Rattle.seq_values.specs.declared.words.Target.TheVariants as T
use Rattle.seq_values.specs.Model.{Value, vector, function, values}
use Rattle.seq_plan.specs.Plan.{Plan, call, give}
use Rattle.seq_plan.specs.Nodes.{is_truthy, is_nil, give_value}
use Rattle.seq_plan.specs.Stages.{has_stages}
use Rattle.seq_plan.specs.WellFormed.{sights, Well, well_nil, well_bool, well_int, well_vector, well_function, well_reduced, WellList, well_end, well_item}
use Rattle.seq_plan.specs.Keeping.{Keeps, keeps_call, keeps_give, keeps_throw}
use Rattle.seq_plan.proofs.WellNodes.{well-values, well-append, keeps-either, keeps-with_members, keeps-give_value}
use Rattle.seq_plan.proofs.WellLists.{keeps-give_list, keeps-of_value}
use Rattle.core_rows.specs.Arithmetic.{integers, on_integers, of_any, first_and_others, of_some, of_one, of_two, give_bool, give_int, from_left, minus, unless_zero}
use Rattle.core_rows.specs.Table.{is_true, is_false, is_number, is_keyword, is_text, is_vector, is_function, is_reduced, unreduced, tells, give_function, give_vector, binds_one, partial, comp, completing, monoid, core_call, composed, comp_call, completing_call, monoid_call, core_function}

module _ {C : Type 0} where
  -- ## Numbers of arguments

  keeps-on_integers : {k : List ℤ → Plan C} → ((ns : List ℤ) → Keeps Well (k ns)) → (o : Option (List ℤ)) → Keeps Well (on_integers k o)
  keeps-on_integers f None = keeps_throw
  keeps-on_integers f (Some ns) = f ns

  keeps-of_any : {k : List ℤ → Plan C} → ((ns : List ℤ) → Keeps Well (k ns)) → (xs : List (Value C)) → Keeps Well (of_any k xs)
  keeps-of_any f xs = keeps-on_integers f (integers xs)

  keeps-first_and_others : {k : ℤ → List ℤ → Plan C} → ((n : ℤ) (ns : List ℤ) → Keeps Well (k n ns)) → (ns : List ℤ) → Keeps Well (first_and_others k ns)
  keeps-first_and_others f [] = keeps_throw
  keeps-first_and_others f (n ∷ ns) = f n ns

  keeps-of_some : {k : ℤ → List ℤ → Plan C} → ((n : ℤ) (ns : List ℤ) → Keeps Well (k n ns)) → {xs : List (Value C)} → WellList xs → Keeps Well (of_some k xs)
  keeps-of_some f well_end = keeps_throw
  keeps-of_some f (well_item {x = x} {xs = xs} p q) = keeps-of_any (keeps-first_and_others f) (x ∷ xs)

  keeps-of_one : {k : ℤ → Plan C} → ((n : ℤ) → Keeps Well (k n)) → {xs : List (Value C)} → WellList xs → Keeps Well (of_one k xs)
  keeps-of_one f (well_item (well_int {n = n}) well_end) = f n
  keeps-of_one f (well_item _ well_end) = keeps_throw
  keeps-of_one f _ = keeps_throw

  keeps-of_two : {k : ℤ → ℤ → Plan C} → ((a b : ℤ) → Keeps Well (k a b)) → {xs : List (Value C)} → WellList xs → Keeps Well (of_two k xs)
  keeps-of_two f (well_item (well_int {n = a}) (well_item (well_int {n = b}) well_end)) = f a b
  keeps-of_two f (well_item _ (well_item _ well_end)) = keeps_throw
  keeps-of_two f _ = keeps_throw

  -- ## Answers

  keeps-give_int : (n : ℤ) → Keeps {C = C} Well (give_int n)
  keeps-give_int n = keeps-either _ (keeps_give well_int) keeps_throw

  keeps-from_left : (op : ℤ → ℤ → ℤ) (n : ℤ) (ns : List ℤ) → Keeps {C = C} Well (from_left op n ns)
  keeps-from_left op n [] = keeps_give well_int
  keeps-from_left op n (m ∷ ms) = keeps-either _ (keeps-from_left op (op n m) ms) keeps_throw

  keeps-minus : (n : ℤ) (ns : List ℤ) → Keeps {C = C} Well (minus n ns)
  keeps-minus n [] = keeps-give_int (neg_ℤ n)
  keeps-minus n (m ∷ ms) = keeps-from_left ◌-ℤ◌ n (m ∷ ms)

  keeps-unless_zero : (b : ℤ) {p : Plan C} → Keeps Well p → Keeps Well (unless_zero b p)
  keeps-unless_zero b h = keeps-either _ keeps_throw h

  keeps-tells : (test : Value C → Bool) {xs : List (Value C)} → WellList xs → Keeps Well (tells test xs)
  keeps-tells test h = keeps-of_value {k = λ x. give_bool (test x)} (λ v w. keeps_give well_bool) h

  well-unreduced : {v : Value C} → Well v → Well (unreduced v)
  well-unreduced (well_reduced d h) = h
  well-unreduced well_nil = well_nil
  well-unreduced h = h

  -- ## Functions that the words make

  keeps-give_function : (t : Target) {xs : List (Value C)} → WellList xs → binds t (sights (values xs)) ≡ true → Keeps Well (give_function t xs)
  keeps-give_function t {xs = xs} h b = keeps-with_members xs (λ ys. give_value (function t (values ys))) (keeps-give_value (λ d. well_function b d (well-values h)))

  keeps-give_vector : {xs : List (Value C)} → WellList xs → Keeps Well (give_vector xs)
  keeps-give_vector {xs = xs} h = keeps-with_members xs (λ ys. give_value (vector (values ys))) (keeps-give_value (λ d. well_vector d (well-values h)))

  keeps-constantly : {xs : List (Value C)} → WellList xs → Keeps Well (binds_one T.Constantly xs)
  keeps-constantly (well_item p well_end) = keeps-give_function T.Constantly (well_item p well_end) refl
  keeps-constantly _ = keeps_throw

  keeps-complement : {xs : List (Value C)} → WellList xs → Keeps Well (binds_one T.Complement xs)
  keeps-complement (well_item p well_end) = keeps-give_function T.Complement (well_item p well_end) refl
  keeps-complement _ = keeps_throw

  keeps-partial : {xs : List (Value C)} → WellList xs → Keeps Well (partial xs)
  keeps-partial well_end = keeps_throw
  keeps-partial (well_item p q) = keeps-give_function T.Partial (well_item p q) refl

  keeps-comp : {xs : List (Value C)} → WellList xs → Keeps Well (comp xs)
  keeps-comp well_end = keeps-give_function (T.Builtin B.Identity) well_end refl
  keeps-comp (well_item p q) = keeps-give_function T.Comp (well_item p q) refl

  keeps-completing : {xs : List (Value C)} → WellList xs → Keeps Well (completing xs)
  keeps-completing (well_item f well_end) = keeps-give_function T.Completing (well_item f well_end) refl
  keeps-completing (well_item f (well_item g well_end)) = keeps-give_function T.Completing (well_item f (well_item g well_end)) refl
  keeps-completing _ = keeps_throw

  keeps-monoid : {xs : List (Value C)} → WellList xs → Keeps Well (monoid xs)
  keeps-monoid (well_item op (well_item ctor well_end)) = keeps-give_function T.Monoid (well_item op (well_item ctor well_end)) refl
  keeps-monoid _ = keeps_throw

  pub keeps-core_call : (word : Builtin) {xs : List (Value C)} → WellList xs → Keeps Well (core_call word xs)
  keeps-core_call B.Plus {xs = xs} h = keeps-of_any (keeps-from_left ◌+ℤ◌ (pos 0)) xs
  keeps-core_call B.Times {xs = xs} h = keeps-of_any (keeps-from_left ◌*ℤ◌ (pos 1)) xs
  keeps-core_call B.Minus h = keeps-of_some keeps-minus h
  keeps-core_call B.Inc h = keeps-of_one (λ n. keeps-give_int (n +ℤ pos 1)) h
  keeps-core_call B.Dec h = keeps-of_one (λ n. keeps-give_int (n -ℤ pos 1)) h
  keeps-core_call B.Quot h = keeps-of_two (λ a b. keeps-unless_zero b (keeps-give_int (int_div a b))) h
  keeps-core_call B.Rem h = keeps-of_two (λ a b. keeps-unless_zero b (keeps_give well_int)) h
  keeps-core_call B.Mod h = keeps-of_two (λ a b. keeps-unless_zero b (keeps_give well_int)) h
  keeps-core_call B.Min h = keeps-of_some (λ n ns. keeps_give well_int) h
  keeps-core_call B.Max h = keeps-of_some (λ n ns. keeps_give well_int) h
  keeps-core_call B.Less h = keeps-of_some (λ n ns. keeps_give well_bool) h
  keeps-core_call B.LessOrEqual h = keeps-of_some (λ n ns. keeps_give well_bool) h
  keeps-core_call B.Greater h = keeps-of_some (λ n ns. keeps_give well_bool) h
  keeps-core_call B.GreaterOrEqual h = keeps-of_some (λ n ns. keeps_give well_bool) h
  keeps-core_call B.IsZero h = keeps-of_one (λ n. keeps_give well_bool) h
  keeps-core_call B.IsPositive h = keeps-of_one (λ n. keeps_give well_bool) h
  keeps-core_call B.IsNegative h = keeps-of_one (λ n. keeps_give well_bool) h
  keeps-core_call B.IsEven h = keeps-of_one (λ n. keeps_give well_bool) h
  keeps-core_call B.IsOdd h = keeps-of_one (λ n. keeps_give well_bool) h
  keeps-core_call B.IsNil h = keeps-tells is_nil h
  keeps-core_call B.IsSome h = keeps-tells (λ x. not (is_nil x)) h
  keeps-core_call B.IsTrue h = keeps-tells is_true h
  keeps-core_call B.IsFalse h = keeps-tells is_false h
  keeps-core_call B.Not h = keeps-tells (λ x. not (is_truthy x)) h
  keeps-core_call B.IsNumber h = keeps-tells is_number h
  keeps-core_call B.IsKeyword h = keeps-tells is_keyword h
  keeps-core_call B.IsString h = keeps-tells is_text h
  keeps-core_call B.IsVector h = keeps-tells is_vector h
  keeps-core_call B.IsFunction h = keeps-tells is_function h
  keeps-core_call B.Identity h = keeps-of_value (λ v w. keeps_give w) h
  keeps-core_call B.Constantly h = keeps-constantly h
  keeps-core_call B.Complement h = keeps-complement h
  keeps-core_call B.Partial h = keeps-partial h
  keeps-core_call B.Comp h = keeps-comp h
  keeps-core_call B.Completing h = keeps-completing h
  keeps-core_call B.Monoid h = keeps-monoid h
  keeps-core_call B.Vector h = keeps-give_vector h
  keeps-core_call B.List h = keeps-give_list h
  keeps-core_call B.Reduced h = keeps-of_value (λ v w. keeps-give_value (λ d. well_reduced d w)) h
  keeps-core_call B.IsReduced h = keeps-tells is_reduced h
  keeps-core_call B.Unreduced h = keeps-of_value (λ v w. keeps_give (well-unreduced w)) h
  keeps-core_call _ h = keeps_throw

  -- ## Calls of them

  keeps-composed : {fs : List (Value C)} → WellList fs → {xs : List (Value C)} → WellList xs → {k : Value C → Plan C} → ((v : Value C) → Well v → Keeps Well (k v)) → Keeps Well (composed fs xs k)
  keeps-composed well_end q f = keeps_throw
  keeps-composed (well_item p well_end) q f = keeps_call p q f
  keeps-composed (well_item p (well_item r s)) q f = keeps-composed (well_item r s) q (λ v w. keeps_call p (well_item w well_end) f)

  keeps-comp_call : (staged : Bool) {fs : List (Value C)} → WellList fs → {xs : List (Value C)} → WellList xs → Keeps Well (comp_call staged fs xs)
  keeps-comp_call true p q = keeps_throw
  keeps-comp_call false p q = keeps-composed p q (λ v w. keeps_give w)

  keeps-completing_call : {fs : List (Value C)} → WellList fs → {xs : List (Value C)} → WellList xs → Keeps Well (completing_call fs xs)
  keeps-completing_call (well_item f r) well_end = keeps_call f well_end (λ v w. keeps_give w)
  keeps-completing_call (well_item f well_end) (well_item x well_end) = keeps_give x
  keeps-completing_call (well_item f (well_item g well_end)) (well_item x well_end) = keeps_call g (well_item x well_end) (λ v w. keeps_give w)
  keeps-completing_call (well_item f r) (well_item x (well_item y well_end)) = keeps_call f (well_item x (well_item y well_end)) (λ v w. keeps_give w)
  keeps-completing_call _ _ = keeps_throw

  keeps-monoid_call : {fs : List (Value C)} → WellList fs → {xs : List (Value C)} → WellList xs → Keeps Well (monoid_call fs xs)
  keeps-monoid_call (well_item op (well_item ctor well_end)) well_end = keeps_call ctor well_end (λ v w. keeps_give w)
  keeps-monoid_call (well_item op (well_item ctor well_end)) (well_item x (well_item y well_end)) = keeps_call op (well_item x (well_item y well_end)) (λ v w. keeps_give w)
  keeps-monoid_call _ _ = keeps_throw

  pub keeps-core_function : (t : Target) {bs : List (Value C)} → WellList bs → {xs : List (Value C)} → WellList xs → Keeps Well (core_function t bs xs)
  keeps-core_function T.Partial (well_item {x = g} {xs = bs} f h) {xs = xs} q = keeps-with_members (bs ++ xs) (λ ys. call g ys give) (keeps_call f (well-append h q) (λ v w. keeps_give w))
  keeps-core_function T.Comp {bs = fs} p q = keeps-comp_call (has_stages (function T.Comp (values fs))) p q
  keeps-core_function T.Complement (well_item f well_end) q = keeps_call f q (λ v w. keeps_give well_bool)
  keeps-core_function T.Constantly (well_item x well_end) q = keeps_give x
  keeps-core_function T.Completing p q = keeps-completing_call p q
  keeps-core_function T.Monoid p q = keeps-monoid_call p q
  keeps-core_function _ p q = keeps_throw

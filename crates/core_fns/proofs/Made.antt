-- What is made of some values: a row that looks at how many there are, and then at how deep the whole is.
use Rattle.std.specs.declared.result.Result.{Result}
use Rattle.std.proofs.Common.{◌≡◌, ◌≢◌, ◌⊎◌, inl, inr, ℕ, suc, ◌+◌, ◌<◌, ◌≤◌, max, nat_le, Bool, true, false, List, [], ◌∷◌, ◌++◌, map, reverse, length, Ok, Err, IfOk, IfErr, ◌&&◌, IsTrue, refl, ap, sym, subst, ◌∙◌, arith, rules}
use Rattle.std.proofs.lemmas.List.{length-map, length-reverse, reverse-append}
use Rattle.seq_base.specs.declared.thrown.Thrown.{Thrown}
use Rattle.seq_base.specs.declared.thrown.Thrown.TheVariants as E
use Rattle.seq_values.specs.Model as M
use Rattle.seq_values.specs.Depth as D
use Rattle.seq_values.specs.Plain.{plain, plains}
use Rattle.seq_values.specs.WellFormed.{is_well_formed, is_well_formed_function, are_well_formed, sight_of, binds}
use Rattle.seq_values.specs.declared.value.FnValue.{FnValue}
use Rattle.seq_values.specs.declared.value.Value.{Value}
use Rattle.seq_values.specs.declared.value.Value.TheVariants as V
use Rattle.seq_values.specs.declared.value.Node.TheFolds.{the_lemmas}
use Rattle.seq_values.proofs.WellFormedLemmas.{reduced_in, as_function, well_joined, one_well}
use Rattle.seq_values.specs.declared.words.Builtin.TheVariants as B
use Rattle.seq_values.specs.declared.words.Target.{Target}
use Rattle.seq_values.specs.declared.words.Target.TheVariants as T
use Rattle.seq_values.specs.declared.term.CallStop.{CallStop}
use Rattle.seq_values.specs.declared.term.CallStop.TheVariants as S
use Rattle.seq_plan.specs.Plan.{Plan, give, throw}
use Rattle.seq_plan.specs.Nodes.{longest, depth, depths, with_members, give_value}
use Rattle.seq_plan.specs.Lists.{list_of, give_list}
use Rattle.seq_plan.specs.Arguments.{of_value}
use Rattle.seq_plan.proofs.Depths.{depth_agrees}
use Rattle.core_rows.specs.Table.{give_vector, give_function, binds_one, partial, comp, completing, monoid, unreduced}
use Rattle.core_fns.specs.Answering.{Answers, Refuses, Tells, told}

pub depths_plain : (xs : List Value) → depths (M.values (plains xs)) ≡ D.depth_of_all xs
depths_plain [] = refl
depths_plain (x ∷ xs) = rw (depth_agrees x, depths_plain xs) refl

is_le : (a b : ℕ) → a ≤ b → nat_le a b ≡ true
is_le a b h = search (rules, arith)

not_le : (a b : ℕ) → b < a → nat_le a b ≡ false
not_le a b h = search (rules, arith)

and_left : (a b : Bool) → (a && b) ≡ true → a ≡ true
and_left true b h = refl
and_left false b h = absurd cc

and_right : (a b : Bool) → (a && b) ≡ true → b ≡ true
and_right true b h = h
and_right false b h = absurd cc

module _ (xs : List (M.Value ℕ)) (ys : List Value) (m : List (M.Value ℕ) → M.Value ℕ) (as_long : length xs ≡ length ys) (as_deep : depth (m xs) ≡ suc (D.depth_of_all ys)) where
  made : length ys ≤ longest → D.depth_of_all ys ≤ 255 → with_members xs (λ zs. give_value (m zs)) ≡ give (m xs)
  made l d = rw (is_le (length xs) longest (omega (arith, as_long, l)), is_le (depth (m xs)) 256 (omega (arith, as_deep, d))) refl

  too_long : longest < length ys → with_members xs (λ zs. give_value (m zs)) ≡ throw E.Overflow
  too_long l = rw (not_le (length xs) longest (omega (arith, as_long, l))) refl

  too_deep : length ys ≤ longest → 255 < D.depth_of_all ys → with_members xs (λ zs. give_value (m zs)) ≡ throw E.Depth
  too_deep l d = rw (is_le (length xs) longest (omega (arith, as_long, l)), not_le (depth (m xs)) 256 (omega (arith, as_deep, d))) refl

  refused : (stop : CallStop) → Refuses stop ys → Answers (Err stop) (with_members xs (λ zs. give_value (m zs)))
  refused (S.Thrown E.Overflow) r = too_long r
  refused (S.Thrown E.Depth) r = too_deep r.0 r.1
  refused (S.Thrown E.Divide) r = absurd r
  refused (S.Thrown E.Arity) r = absurd r
  refused (S.Thrown E.BadType) r = absurd r
  refused (S.Thrown E.Index) r = absurd r
  refused (S.Thrown E.Steps) r = absurd r
  refused S.Memory r = tt

as_many : (xs : List Value) → length (plains xs) ≡ length xs
as_many xs = length-map xs plain

-- ## Vectors

pub vector_made : (args xs ys : List Value) (v : Value) → xs ≡ args → ys ≡ xs → length xs ≤ longest → D.depth_of_all xs ≤ 255 → plain v ≡ M.vector (M.values (plains ys)) → IsTrue (is_well_formed v) → Answers (Ok v) (give_vector (plains args))
vector_made args xs ys v p q l d e w = subst (λ zs. Answers (Ok v) (give_vector (plains zs))) p (made (plains xs) xs (λ zs. M.vector (M.values zs)) (as_many xs) (ap suc (depths_plain xs)) l d ∙ ap give (ap (λ zs. M.vector (M.values (plains zs))) (sym q) ∙ sym e), w)

pub vector_refused : (args xs : List Value) (stop : CallStop) → xs ≡ args → Refuses stop xs → Answers (Err stop) (give_vector (plains args))
vector_refused args xs stop p r = subst (λ zs. Answers (Err stop) (give_vector (plains zs))) p (refused (plains xs) xs (λ ys. M.vector (M.values ys)) (as_many xs) (ap suc (depths_plain xs)) stop r)

-- ## Functions

plain_function : (t : Target) (kept : ℕ) (xs : List Value) → plain (V.Function (record { target = t; depth = kept; bound = xs })) ≡ M.function t (M.values (plains xs))
plain_function t kept xs = search (rules, the_lemmas)

pub function_made : (t : Target) (args xs ys : List Value) (f : FnValue) → xs ≡ args → ys ≡ xs → length xs ≤ longest → D.depth_of_all xs ≤ 255 → f ≡ record { target = t; depth = D.depth_of_all ys + 1; bound = ys } → IsTrue (is_well_formed_function f) → Answers (Ok (V.Function f)) (give_function t (plains args))
function_made t args xs ys f p r l d e w =
    let q : plain (V.Function f) ≡ M.function t (M.values (plains xs)) = ap (λ g. plain (V.Function g)) e ∙ plain_function t (D.depth_of_all ys + 1) ys ∙ ap (λ zs. M.function t (M.values (plains zs))) r in
    subst (λ zs. Answers (Ok (V.Function f)) (give_function t (plains zs))) p (made (plains xs) xs (λ zs. M.function t (M.values zs)) (as_many xs) (ap suc (depths_plain xs)) l d ∙ ap give (sym q), as_function f ∙ w)

pub function_refused : (t : Target) (args xs : List Value) (stop : CallStop) → xs ≡ args → Refuses stop xs → Answers (Err stop) (give_function t (plains args))
function_refused t args xs stop p r = subst (λ zs. Answers (Err stop) (give_function t (plains zs))) p (refused (plains xs) xs (λ ys. M.function t (M.values ys)) (as_many xs) (ap suc (depths_plain xs)) stop r)

-- ## Lists

plains_join : (xs ys : List Value) → plains (xs ++ ys) ≡ plains xs ++ plains ys
plains_join [] ys = refl
plains_join (x ∷ xs) ys = ap (λ zs. plain x ∷ zs) (plains_join xs ys)

plains_back : (xs : List Value) → plains (reverse xs) ≡ reverse (plains xs)
plains_back [] = refl
plains_back (x ∷ xs) =
    ap plains (reverse-append (x ∷ []) xs)
    ∙ plains_join (reverse xs) (x ∷ [])
    ∙ ap (λ ys. ys ++ plain x ∷ []) (plains_back xs)
    ∙ sym (reverse-append (plain x ∷ []) (plains xs))

no_deeper : (n : ℕ) → suc (max n 0) ≡ suc n
no_deeper n = omega arith

list_is : (x : Value) (xs hs : List Value) → hs ≡ reverse (x ∷ xs) → list_of (plains (x ∷ xs)) ≡ M.cons (M.values (plains hs)) M.nil
list_is x xs hs h = ap (λ ys. M.cons (M.values ys) M.nil) (sym (plains_back (x ∷ xs)) ∙ ap plains (sym h))

list_depth : (x : Value) (xs hs : List Value) → hs ≡ reverse (x ∷ xs) → depth (list_of (plains (x ∷ xs))) ≡ suc (D.depth_of_all hs)
list_depth x xs hs h = ap depth (list_is x xs hs h) ∙ no_deeper (depths (M.values (plains hs))) ∙ ap suc (depths_plain hs)

list_length : (xs hs : List Value) → hs ≡ reverse xs → length (plains xs) ≡ length hs
list_length xs hs h = as_many xs ∙ sym (ap length h ∙ length-reverse xs)

pub list_none : (xs : List Value) → length xs ≡ 0 → give_list (plains xs) ≡ give M.empty
list_none [] e = refl
list_none (x ∷ xs) e = absurd cc

pub list_made : (xs vs hs : List Value) (v : Value) → vs ≡ reverse xs → hs ≡ vs → 0 < length xs → length vs ≤ longest → D.depth_of_all vs ≤ 255 → plain v ≡ M.cons (M.values (plains hs)) M.nil → IsTrue (is_well_formed v) → Answers (Ok v) (give_list (plains xs))
list_made [] vs hs v h q b l d e w = absurd (omega arith)
list_made (x ∷ xs) vs hs v h q b l d e w = (made (plains (x ∷ xs)) vs list_of (list_length (x ∷ xs) vs h) (list_depth x xs vs h) l d ∙ ap give (list_is x xs vs h ∙ ap (λ zs. M.cons (M.values (plains zs)) M.nil) (sym q) ∙ sym e), w)

pub list_refused : (xs vs : List Value) (stop : CallStop) → vs ≡ reverse xs → 0 < length xs → Refuses stop vs → Answers (Err stop) (give_list (plains xs))
list_refused [] vs stop h b r = absurd (omega arith)
list_refused (x ∷ xs) vs stop h b r = refused (plains (x ∷ xs)) vs list_of (list_length (x ∷ xs) vs h) (list_depth x xs vs h) stop r

pub well_reversed : (xs vs : List Value) → vs ≡ reverse xs → IsTrue (are_well_formed xs) → IsTrue (are_well_formed vs)
well_reversed xs vs h w = ap are_well_formed h ∙ turned xs w
  where
    turned : (xs : List Value) → are_well_formed xs ≡ true → are_well_formed (reverse xs) ≡ true
    turned [] w = refl
    turned (x ∷ xs) w = ap are_well_formed (reverse-append (x ∷ []) xs) ∙ well_joined (reverse xs) (x ∷ []) (turned xs (and_right (is_well_formed x) (are_well_formed xs) w)) (one_well x (and_left (is_well_formed x) (are_well_formed xs) w))

-- ## What the words bind

answers_same : (r : Result Value CallStop) (p q : Plan ℕ) → q ≡ p → Answers r p → Answers r q
answers_same r p q e h = subst (λ x. Answers r x) (sym e) h

one_binds : (t : Target) (xs : List Value) → length xs ≡ 1 → binds_one t (plains xs) ≡ give_function t (plains xs)
one_binds t [] e = absurd cc
one_binds t (x ∷ []) e = refl
one_binds t (x ∷ y ∷ ys) e = absurd (omega (arith, e))

pub one_answers : (t : Target) (xs : List Value) (r : Result Value CallStop) → length xs ≡ 1 → Answers r (give_function t (plains xs)) → Answers r (binds_one t (plains xs))
one_answers t xs r e h = answers_same r (give_function t (plains xs)) (binds_one t (plains xs)) (one_binds t xs e) h

pub one_refused : (t : Target) (xs : List Value) → length xs ≢ 1 → binds_one t (plains xs) ≡ throw E.Arity
one_refused t [] n = refl
one_refused t (x ∷ []) n = absurd (n refl)
one_refused t (x ∷ y ∷ ys) n = refl

pub constantly_binds : (xs : List Value) → length xs ≡ 1 → IsTrue (binds T.Constantly (map sight_of xs))
constantly_binds [] e = absurd cc
constantly_binds (x ∷ []) e = refl
constantly_binds (x ∷ y ∷ ys) e = absurd (omega (arith, e))

pub complement_binds : (xs : List Value) → length xs ≡ 1 → IsTrue (binds T.Complement (map sight_of xs))
complement_binds [] e = absurd cc
complement_binds (x ∷ []) e = refl
complement_binds (x ∷ y ∷ ys) e = absurd (omega (arith, e))

pub partial_answers : (xs : List Value) (r : Result Value CallStop) → 0 < length xs → Answers r (give_function T.Partial (plains xs)) → Answers r (partial (plains xs))
partial_answers [] r b h = absurd (omega arith)
partial_answers (x ∷ xs) r b h = h

pub partial_binds : (xs : List Value) → 0 < length xs → IsTrue (binds T.Partial (map sight_of xs))
partial_binds [] b = absurd (omega arith)
partial_binds (x ∷ xs) b = refl

pub partial_none : (xs : List Value) → length xs ≡ 0 → partial (plains xs) ≡ throw E.Arity
partial_none [] e = refl
partial_none (x ∷ xs) e = absurd cc

pub comp_answers : (xs : List Value) (r : Result Value CallStop) → 0 < length xs → Answers r (give_function T.Comp (plains xs)) → Answers r (comp (plains xs))
comp_answers [] r b h = absurd (omega arith)
comp_answers (x ∷ xs) r b h = h

pub comp_binds : (xs : List Value) → 0 < length xs → IsTrue (binds T.Comp (map sight_of xs))
comp_binds [] b = absurd (omega arith)
comp_binds (x ∷ xs) b = refl

pub comp_none : (xs : List Value) → length xs ≡ 0 → comp (plains xs) ≡ give (M.function (T.Builtin B.Identity) M.no_values)
comp_none [] e = refl
comp_none (x ∷ xs) e = absurd cc

pub completing_answers : (xs : List Value) (r : Result Value CallStop) → 0 < length xs → length xs ≤ 2 → Answers r (give_function T.Completing (plains xs)) → Answers r (completing (plains xs))
completing_answers [] r b m h = absurd (omega arith)
completing_answers (x ∷ []) r b m h = h
completing_answers (x ∷ y ∷ []) r b m h = h
completing_answers (x ∷ y ∷ z ∷ zs) r b m h = absurd (omega arith)

pub completing_binds : (xs : List Value) → 0 < length xs → length xs ≤ 2 → IsTrue (binds T.Completing (map sight_of xs))
completing_binds [] b m = absurd (omega arith)
completing_binds (x ∷ []) b m = refl
completing_binds (x ∷ y ∷ []) b m = refl
completing_binds (x ∷ y ∷ z ∷ zs) b m = absurd (omega arith)

pub completing_refused : (xs : List Value) → (length xs ≡ 0) ⊎ (2 < length xs) → completing (plains xs) ≡ throw E.Arity
completing_refused [] n = refl
completing_refused (x ∷ []) (inl n) = absurd cc
completing_refused (x ∷ []) (inr n) = absurd (omega arith)
completing_refused (x ∷ y ∷ []) (inl n) = absurd cc
completing_refused (x ∷ y ∷ []) (inr n) = absurd (omega arith)
completing_refused (x ∷ y ∷ z ∷ zs) n = refl

pub monoid_answers : (xs : List Value) (r : Result Value CallStop) → length xs ≡ 2 → Answers r (give_function T.Monoid (plains xs)) → Answers r (monoid (plains xs))
monoid_answers [] r e h = absurd cc
monoid_answers (x ∷ []) r e h = absurd (omega (arith, e))
monoid_answers (x ∷ y ∷ []) r e h = h
monoid_answers (x ∷ y ∷ z ∷ zs) r e h = absurd (omega (arith, e))

pub monoid_binds : (xs : List Value) → length xs ≡ 2 → IsTrue (binds T.Monoid (map sight_of xs))
monoid_binds [] e = absurd cc
monoid_binds (x ∷ []) e = absurd (omega (arith, e))
monoid_binds (x ∷ y ∷ []) e = refl
monoid_binds (x ∷ y ∷ z ∷ zs) e = absurd (omega (arith, e))

pub monoid_refused : (xs : List Value) → length xs ≢ 2 → monoid (plains xs) ≡ throw E.Arity
monoid_refused [] n = refl
monoid_refused (x ∷ []) n = refl
monoid_refused (x ∷ y ∷ []) n = absurd (n refl)
monoid_refused (x ∷ y ∷ z ∷ zs) n = refl

-- what is told of an answer
pub tells_told : (r : Result Value Thrown) (q : Result Value CallStop) (p : Plan ℕ) → q ≡ told r → Tells r p → Answers q p
tells_told r q p e h = subst (λ x. Answers x p) (sym e) (by r h)
  where
    by : (r : Result Value Thrown) → Tells r p → Answers (told r) p
    by (Ok v) h = h
    by (Err why) h = h

plain_reduced : (kept : ℕ) (held : Value) → plain (V.Reduced kept held) ≡ M.reduced (plain held)
plain_reduced kept held = search (rules, the_lemmas)

-- ## Words of one argument

pub of_only : (k : M.Value ℕ → Plan ℕ) (xs : List (M.Value ℕ)) (x : M.Value ℕ) (r : Result Value CallStop) → xs ≡ x ∷ [] → Answers r (k x) → Answers r (of_value k xs)
of_only k xs x r e h = subst (λ ys. Answers r (of_value k ys)) (sym e) h

pub well_only : (xs : List Value) (x : Value) → xs ≡ x ∷ [] → IsTrue (are_well_formed xs) → IsTrue (is_well_formed x)
well_only xs x e h = and_left (is_well_formed x) true (subst (λ ys. are_well_formed ys ≡ true) e h)

pub reduced_made : (v r : Value) → D.depth v ≤ 255 → plain r ≡ M.reduced (plain v) → give_value (M.reduced (plain v)) ≡ give (plain r)
reduced_made v r d e =
    let h : nat_le (suc (depth (plain v))) 256 ≡ true = is_le _ _ (omega (arith, depth_agrees v, d)) in
    rw h (ap give (sym e))

pub reduced_deep : (v : Value) → 255 < D.depth v → give_value (M.reduced (plain v)) ≡ throw E.Depth
reduced_deep v d =
    let h : nat_le (suc (depth (plain v))) 256 ≡ false = not_le _ _ (omega (arith, depth_agrees v, d)) in
    rw h refl

-- what was handed on, or no memory for it
given_as : (w : M.Value ℕ) (x : Value) (r : Result Value CallStop) → w ≡ plain x → IsTrue (is_well_formed x) → IfOk r (λ v. v ≡ x) → IfErr r (λ s. s ≡ S.Memory) → Answers r (give w)
given_as w x (Ok v) e h g f = (ap give (e ∙ sym (ap plain g)), subst (λ y. IsTrue (is_well_formed y)) (sym g) h)
given_as w x (Err s) e h g f = subst (λ y. Answers (Err y) (give w)) (sym f) tt

pub held_given : (v held : Value) (kept : ℕ) (r : Result Value CallStop) → v ≡ V.Reduced kept held → IsTrue (is_well_formed v) → IfOk r (λ x. x ≡ held) → IfErr r (λ s. s ≡ S.Memory) → Answers r (give (unreduced (plain v)))
held_given v held kept r e h g f = given_as (unreduced (plain v)) held r (ap (λ x. unreduced (plain x)) e ∙ ap unreduced (plain_reduced kept held)) (reduced_in v held kept e h) g f

pub itself_given : (v : Value) (r : Result Value CallStop) → unreduced (plain v) ≡ plain v → IsTrue (is_well_formed v) → IfOk r (λ x. x ≡ v) → IfErr r (λ s. s ≡ S.Memory) → Answers r (give (unreduced (plain v)))
itself_given v r e h g f = given_as (unreduced (plain v)) v r e h g f

-- What the arguments of a term are, by what its operation takes.
use Rattle.std.proofs.Common.{◌≡◌, ℕ, suc, ◌+◌, true, List, [], ◌∷◌, length, drop, None, refl, ap, sym, subst, ◌∙◌, arith}
use Rattle.std.specs.Prelude.{IsTrue}
use Rattle.seq_values.specs.Model as M
use Rattle.seq_values.specs.Model.{Value, nil, bool, int, keyword, text, vector, function, reduced, cell, empty, cons, chunk, range, vec_seq}
use Rattle.seq_values.specs.Plain.{plain, plains}
use Rattle.seq_values.specs.WellFormedTerms.{is_seq, is_sequence, takes, is_well_formed_term}
use Rattle.seq_values.specs.declared.term.Term.{Term}
use Rattle.seq_values.specs.declared.value.Value as V
use Rattle.seq_values.specs.declared.words.Op.TheVariants as O
use Rattle.seq_plan.specs.WellFormed.{sight, sights, WellTerm, well_term}
use Rattle.seq_plan.proofs.FitLemmas.{both, first_of_both, second_of_both}
use Rattle.seq_plan.proofs.WellNodes.{seq_is_sequence}
use Rattle.seq_plan.proofs.WellValues.{term_formed}
use Rattle.seq_turns.specs.Arguments.{part_in}

by_well : {t : M.Term ℕ} → WellTerm t → takes t.op (sights (M.values t.args)) ≡ true
by_well (well_term w e) = e

pub term_fits : (t : Term) → IsTrue (is_well_formed_term t) → takes t.op (sights (M.values (plains t.args))) ≡ true
term_fits t h = by_well (term_formed t h)

pub rets_two : (xs : List V.Value) → takes O.Rets (sights (M.values (plains xs))) ≡ true → length xs ≡ 2
rets_two [] e = absurd cc
rets_two (x ∷ []) e = absurd cc
rets_two (x ∷ y ∷ []) e = refl
rets_two (x ∷ y ∷ z ∷ zs) e = absurd cc

pub call_two : (xs : List V.Value) → takes O.Call (sights (M.values (plains xs))) ≡ true → length xs ≡ 2
call_two xs e = rets_two xs e

ahead_pair : (xs : List (Value ℕ)) → takes O.Ahead (sights (M.values xs)) ≡ true → length xs ≡ 2
ahead_pair (int n ∷ c ∷ []) e = refl
ahead_pair [] e = absurd cc
ahead_pair (int n ∷ []) e = absurd cc
ahead_pair (int n ∷ c ∷ d ∷ xs) e = absurd cc
ahead_pair (nil ∷ xs) e = absurd cc
ahead_pair (bool b ∷ xs) e = absurd cc
ahead_pair (keyword k ∷ xs) e = absurd cc
ahead_pair (text t ∷ xs) e = absurd cc
ahead_pair (vector ys ∷ xs) e = absurd cc
ahead_pair (function t ys ∷ xs) e = absurd cc
ahead_pair (reduced v ∷ xs) e = absurd cc
ahead_pair (cell m ∷ xs) e = absurd cc
ahead_pair (empty ∷ xs) e = absurd cc
ahead_pair (cons ys r ∷ xs) e = absurd cc
ahead_pair (chunk ys r ∷ xs) e = absurd cc
ahead_pair (range f a b ∷ xs) e = absurd cc
ahead_pair (vec_seq ys a ∷ xs) e = absurd cc

as_long : (xs : List V.Value) → length (plains xs) ≡ length xs
as_long [] = refl
as_long (x ∷ xs) = rw (as_long xs) refl

pub ahead_two : (xs : List V.Value) → takes O.Ahead (sights (M.values (plains xs))) ≡ true → length xs ≡ 2
ahead_two xs e = sym (as_long xs) ∙ ahead_pair (plains xs) e

pub derefs_one : (xs : List V.Value) → takes O.Derefs (sights (M.values (plains xs))) ≡ true → length xs ≡ 1
derefs_one [] e = absurd cc
derefs_one (x ∷ []) e = refl
derefs_one (x ∷ y ∷ zs) e = absurd cc

ahead_of_single : (xs : List (Value ℕ)) → takes O.AheadOf (sights (M.values xs)) ≡ true → length xs ≡ 1
ahead_of_single (cell m ∷ []) e = refl
ahead_of_single (cell m ∷ c ∷ xs) e = absurd cc
ahead_of_single [] e = absurd cc
ahead_of_single (int n ∷ xs) e = absurd cc
ahead_of_single (nil ∷ xs) e = absurd cc
ahead_of_single (bool b ∷ xs) e = absurd cc
ahead_of_single (keyword k ∷ xs) e = absurd cc
ahead_of_single (text t ∷ xs) e = absurd cc
ahead_of_single (vector ys ∷ xs) e = absurd cc
ahead_of_single (function t ys ∷ xs) e = absurd cc
ahead_of_single (reduced v ∷ xs) e = absurd cc
ahead_of_single (empty ∷ xs) e = absurd cc
ahead_of_single (cons ys r ∷ xs) e = absurd cc
ahead_of_single (chunk ys r ∷ xs) e = absurd cc
ahead_of_single (range f a b ∷ xs) e = absurd cc
ahead_of_single (vec_seq ys a ∷ xs) e = absurd cc

pub ahead_of_one : (xs : List V.Value) → takes O.AheadOf (sights (M.values (plains xs))) ≡ true → length xs ≡ 1
ahead_of_one xs e = sym (as_long xs) ∙ ahead_of_single (plains xs) e

near_pair : (c a : Value ℕ) → takes O.Near (sights (M.values (c ∷ a ∷ []))) ≡ true → part_in a ≡ None → ⊥
near_pair c (cell m) e p = cc
near_pair c (int n) e p = cc
near_pair c nil e p = cc
near_pair c (bool b) e p = cc
near_pair c (keyword k) e p = cc
near_pair c (text t) e p = cc
near_pair c (vector ys) e p = cc
near_pair c (function t ys) e p = cc
near_pair c (reduced v) e p = cc
near_pair c empty e p = cc
near_pair c (cons ys r) e p = cc
near_pair c (chunk ys r) e p = cc
near_pair c (range f a b) e p = cc
near_pair c (vec_seq ys a) e p = cc

pub near_part : (c a : Value ℕ) → takes O.Near (sights (M.values (c ∷ a ∷ []))) ≡ true → part_in a ≡ None → ⊥
near_part = near_pair

pub near_two : (xs : List V.Value) → takes O.Near (sights (M.values (plains xs))) ≡ true → length xs ≡ 2
near_two [] e = absurd cc
near_two (x ∷ []) e = absurd cc
near_two (x ∷ y ∷ []) e = refl
near_two (x ∷ y ∷ z ∷ zs) e = near_long (plain x) (plain y) (plain z) (plains zs) e
  where
    near_long : (c a d : Value ℕ) (xs : List (Value ℕ)) → takes O.Near (sights (M.values (c ∷ a ∷ d ∷ xs))) ≡ true → suc (suc (suc (length zs))) ≡ 2
    near_long c (cell m) d xs e = absurd cc
    near_long c _ d xs e = absurd cc

pub step_four : (xs : List V.Value) → takes O.Step (sights (M.values (plains xs))) ≡ true → length xs ≡ 4
step_four [] e = absurd cc
step_four (x ∷ []) e = absurd cc
step_four (x ∷ y ∷ []) e = absurd cc
step_four (x ∷ y ∷ z ∷ []) e = absurd cc
step_four (x ∷ y ∷ z ∷ u ∷ []) e = refl
step_four (x ∷ y ∷ z ∷ u ∷ w ∷ ws) e = absurd cc

-- what a step's arguments are, at their places
pub step_others : (xs : List V.Value) (x : V.Value) (ys : List V.Value) → takes O.Step (sights (M.values (plains xs))) ≡ true → drop 1 xs ≡ x ∷ ys → IsTrue (is_sequence (sight (plain x)))
step_others (a ∷ b ∷ c ∷ d ∷ []) x ys e p =
    let q : b ≡ x = cc in
    subst (λ v. is_sequence (sight (plain v)) ≡ true) q (seq_is_sequence (plain b) (first_of_both (is_seq (sight (plain b))) _ e))
step_others [] x ys e p = absurd cc
step_others (a ∷ []) x ys e p = absurd cc
step_others (a ∷ b ∷ []) x ys e p = absurd cc
step_others (a ∷ b ∷ c ∷ []) x ys e p = absurd cc
step_others (a ∷ b ∷ c ∷ d ∷ f ∷ fs) x ys e p = absurd cc

pub step_values : (xs : List V.Value) (x : V.Value) (ys : List V.Value) → takes O.Step (sights (M.values (plains xs))) ≡ true → drop 2 xs ≡ x ∷ ys → IsTrue (is_sequence (sight (plain x)))
step_values (a ∷ b ∷ c ∷ d ∷ []) x ys e p =
    let q : c ≡ x = cc in
    subst (λ v. is_sequence (sight (plain v)) ≡ true) q (first_of_both (is_sequence (sight (plain c))) _ (second_of_both (is_seq (sight (plain b))) _ e))
step_values [] x ys e p = absurd cc
step_values (a ∷ []) x ys e p = absurd cc
step_values (a ∷ b ∷ []) x ys e p = absurd cc
step_values (a ∷ b ∷ c ∷ []) x ys e p = absurd cc
step_values (a ∷ b ∷ c ∷ d ∷ f ∷ fs) x ys e p = absurd cc

-- arguments read place by place
pub four_read : (xs : List V.Value) (x y z u : V.Value) → length xs ≡ 4 → drop 0 xs ≡ x ∷ drop (0 + 1) xs → drop 1 xs ≡ y ∷ drop (1 + 1) xs → drop 2 xs ≡ z ∷ drop (2 + 1) xs → drop 3 xs ≡ u ∷ drop (3 + 1) xs → xs ≡ x ∷ y ∷ z ∷ u ∷ []
four_read (a ∷ b ∷ c ∷ d ∷ []) x y z u l e f g h = let p : a ≡ x = cc in let q : b ≡ y = cc in let r : c ≡ z = cc in let s : d ≡ u = cc in rw (p, q, r, s) refl
four_read [] x y z u l e f g h = absurd (omega (arith, l))
four_read (a ∷ []) x y z u l e f g h = absurd (omega (arith, l))
four_read (a ∷ b ∷ []) x y z u l e f g h = absurd (omega (arith, l))
four_read (a ∷ b ∷ c ∷ []) x y z u l e f g h = absurd (omega (arith, l))
four_read (a ∷ b ∷ c ∷ d ∷ f ∷ xs) x y z u l e f' g h = absurd (omega (arith, l))

-- what a step of `pmap` is made of
pub step_fits : (x o vs fs v f : V.Value) (args : List V.Value) → plains args ≡ plain x ∷ plain o ∷ plain vs ∷ plain fs ∷ [] → vs ≡ v → fs ≡ f → IsTrue (is_seq (sight (plain o))) → IsTrue (is_sequence (sight (plain v))) → IsTrue (is_sequence (sight (plain f))) → takes O.Step (sights (M.values (plains args))) ≡ true
step_fits x o vs fs v f args e p q a b c =
    ap (λ l. takes O.Step (sights (M.values l))) e ∙ both a (both (subst (λ w. is_sequence (sight (plain w)) ≡ true) (sym p) b) (subst (λ w. is_sequence (sight (plain w)) ≡ true) (sym q) c))

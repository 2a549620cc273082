-- Lists of well-formed values.
use Rattle.std.proofs.Common.{◌≡◌, ◌≢◌, ℕ, zero, suc, ◌+◌, ◌<◌, ◌≤◌, nat_le, true, false, List, [], ◌∷◌, ◌++◌, map, length, drop, reverse, slice_get, Some, None, refl, ap, sym, subst, ◌∙◌, rules, arith, length-append}
use Rattle.std.specs.Prelude.{IsTrue}
use Rattle.std.proofs.lemmas.List.{length-map, map-append, length-reverse, reverse-append}
use Rattle.seq_values.specs.Model as M
use Rattle.seq_values.specs.Plain.{plain, plains}
use Rattle.seq_values.specs.WellFormed.{is_well_formed, are_well_formed, sight_of}
use Rattle.seq_values.specs.WellFormedTerms.{takes}
use Rattle.seq_values.specs.declared.words.Op.{Op}
use Rattle.seq_values.specs.declared.value.Value.{Value}
use Rattle.seq_values.proofs.DepthLemmas.{and_parts, both}
use Rattle.seq_values.proofs.WellFormedLemmas.{one_well, well_joined, member_well}
use Rattle.seq_plan.specs.Nodes.{with_members, longest}
use Rattle.seq_turns.specs.Making.{Grows}
use Rattle.seq_turns.specs.declared.made.Grown.TheVariants as G
use Rattle.seq_turns.specs.declared.proper.Gathered.{Gathered}

pub two_well : (v w : Value) → IsTrue (is_well_formed v) → IsTrue (is_well_formed w) → IsTrue (are_well_formed (v ∷ w ∷ []))
two_well v w h k = both _ _ h (one_well w k)

pub more_well : (xs : List Value) (x : Value) → IsTrue (are_well_formed xs) → IsTrue (is_well_formed x) → IsTrue (are_well_formed (xs ++ x ∷ []))
more_well xs x h k = well_joined xs (x ∷ []) h (one_well x k)

pub more_long : (xs : List Value) (x : Value) → length xs < 4294967295 → length (xs ++ x ∷ []) ≤ 4294967295
more_long xs x h = omega (arith, length-append xs (x ∷ []))

-- ## Items

pub item_well : (xs : List Value) (k : ℕ) (x y : Value) → slice_get xs k ≡ Some x → y ≡ x → IsTrue (are_well_formed xs) → IsTrue (is_well_formed y)
item_well xs k x y p e h = subst (λ z. IsTrue (is_well_formed z)) (sym e) (member_well xs k x (sym p) h)

pub drop_none : (xs : List Value) (k : ℕ) → slice_get xs k ≡ None → drop k xs ≡ []
drop_none [] zero p = refl
drop_none [] (suc k) p = refl
drop_none (x ∷ xs) zero p = absurd cc
drop_none (x ∷ xs) (suc k) p = drop_none xs k p

pub drop_shared : (xs : List Value) (k : ℕ) (x y : Value) → slice_get xs k ≡ Some x → y ≡ x → drop k xs ≡ y ∷ drop (k + 1) xs
drop_shared [] k x y p q = absurd cc
drop_shared (z ∷ xs) zero x y p q = let e : z ≡ y = cc in ap (λ w. w ∷ xs) e
drop_shared (z ∷ xs) (suc k) x y p q =
    let e : suc k + 1 ≡ suc (k + 1) = omega arith in
    rw e (drop_shared xs k x y p q)

-- ## One more

is_le : (a b : ℕ) → a ≤ b → nat_le a b ≡ true
is_le a b h = search (rules, arith)

not_le : (a b : ℕ) → b < a → nat_le a b ≡ false
not_le a b h = search (rules, arith)

pub plains_more : (xs : List Value) (x : Value) → plains (xs ++ x ∷ []) ≡ plains xs ++ plain x ∷ []
plains_more xs x = map-append plain xs (x ∷ [])

long_more : (xs : List Value) (x : Value) → length (plains xs ++ plain x ∷ []) ≡ length xs + 1
long_more xs x = length-append (plains xs) (plain x ∷ []) ∙ ap (λ n. n + 1) (length-map xs plain)

pub grows_all : (xs : List Value) (x : Value) (all : Gathered) → length xs < 4294967295 → plains all.items.items ≡ plains xs ++ plain x ∷ [] → Grows (with_members (plains xs ++ plain x ∷ [])) (G.All all)
grows_all xs x all b e =
    let l : nat_le (length (plains xs ++ plain x ∷ [])) longest ≡ true = is_le _ _ (omega (arith, long_more xs x, b)) in
    record { goes = λ k. rw l (ap k (sym e)) }

pub grows_no_more : (xs : List Value) (x : Value) → 4294967295 ≤ length xs → Grows (with_members (plains xs ++ plain x ∷ [])) G.TooMany
grows_no_more xs x b =
    let l : nat_le (length (plains xs ++ plain x ∷ [])) longest ≡ false = not_le _ _ (omega (arith, long_more xs x, b)) in
    record { goes = λ k. rw l refl }

-- ## Turned round

pub turned_well : (xs : List Value) → IsTrue (are_well_formed xs) → IsTrue (are_well_formed (reverse xs))
turned_well [] w = refl
turned_well (x ∷ xs) w =
    let parts = and_parts (is_well_formed x) (are_well_formed xs) w in
    ap are_well_formed (reverse-append (x ∷ []) xs) ∙ well_joined (reverse xs) (x ∷ []) (turned_well xs parts.1) (one_well x parts.0)

pub turned_long : (xs : List Value) → length xs ≤ 4294967295 → length (reverse xs) ≤ 4294967295
turned_long xs h = omega (arith, length-reverse xs)

pub one_longer : (xs ys : List Value) (x : Value) (n : ℕ) → length xs ≡ n → ys ≡ xs ++ x ∷ [] → length ys ≡ n + 1
one_longer xs ys x n e p = ap length p ∙ length-append xs (x ∷ []) ∙ ap (λ m. m + 1) e

-- ## Terms

-- of the same arguments
pub takes_same : (op : Op) (xs ys : List Value) → ys ≡ xs → IsTrue (takes op (map sight_of xs)) → IsTrue (takes op (map sight_of ys))
takes_same op xs ys e h = subst (λ zs. IsTrue (takes op (map sight_of zs))) (sym e) h

pub term_same : (op : Op) (xs ys : List Value) (t : M.Term ℕ) → ys ≡ xs → t ≡ record { op = op; args = plains ys } → t ≡ record { op = op; args = plains xs }
term_same op xs ys t e h = h ∙ ap (λ zs. record { op = op; args = plains zs }) e

-- ## Lists of one and two

pub not_at_end : (xs : List Value) (at : ℕ) → at < length xs → drop at xs ≢ []
not_at_end [] at b e = absurd (omega arith)
not_at_end (x ∷ xs) zero b e = absurd cc
not_at_end (x ∷ xs) (suc at) b e = not_at_end xs at (omega arith) e

pub one_value : (xs : List Value) (x : Value) → length xs ≡ 1 → drop 0 xs ≡ x ∷ drop (0 + 1) xs → xs ≡ x ∷ []
one_value [] x l e = absurd cc
one_value (y ∷ []) x l e = e
one_value (y ∷ z ∷ ys) x l e = absurd (omega (arith, l))

pub two_values : (xs : List Value) (x y : Value) → length xs ≡ 2 → drop 0 xs ≡ x ∷ drop (0 + 1) xs → drop 1 xs ≡ y ∷ drop (1 + 1) xs → xs ≡ x ∷ y ∷ []
two_values [] x y l e q = absurd cc
two_values (a ∷ []) x y l e q = absurd (omega (arith, l))
two_values (a ∷ b ∷ []) x y l e q = e ∙ ap (λ zs. x ∷ zs) q
two_values (a ∷ b ∷ c ∷ zs) x y l e q = absurd (omega (arith, l))

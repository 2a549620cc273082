-- The least of several refusals.
use Rattle.std.proofs.Common.{◌≡◌, ℕ, ◌<◌, zero, suc, Bool, true, false, List, [], ◌∷◌, length, Some, None, refl, sym, ◌∙◌, ap, subst, arith}
use Rattle.std.specs.Prelude.{All, Contains, slice_index_or}
use Rattle.std.proofs.lemmas.Bool.Decides.{nat_tests}
use Rattle.std.proofs.lemmas.List.Elements.{All-contains}
use Rattle.clj_script.specs.declared.refusal.ScriptRefusal.{ScriptRefusal}
use Rattle.clj_script.proofs.ReadingLemmas.{none_some, some_same}
use Rattle.clj_script.specs.Refusals.{comes_before, IsLeast, earlier, earliest}

not_itself : (r : ScriptRefusal) → comes_before r r ≡ false
unfolding comes_before
not_itself r = grind (arith, nat_tests)

not_both_ways : (r s : ScriptRefusal) → comes_before r s ≡ true → comes_before s r ≡ false
unfolding comes_before
not_both_ways r s e = grind (arith, nat_tests)

-- what isn't before one that isn't before another
not_before : (r s t : ScriptRefusal) → comes_before s r ≡ false → comes_before t s ≡ false → comes_before t r ≡ false
unfolding comes_before
not_before r s t e f = grind (arith, nat_tests)

same_refusal : (r s : ScriptRefusal) → comes_before r s ≡ false → comes_before s r ≡ false → r ≡ s
unfolding comes_before
same_refusal r s e f = grind (arith, nat_tests)

all_both : {X : Type 0} (P : X → Type 0) (x : X) (xs : List X) → P x → All P xs → All P (x ∷ xs)
all_both P x xs p all zero d h = p
all_both P x xs p all (suc k) d h = all k d (omega arith)

all_first : {X : Type 0} (P : X → Type 0) (x : X) (xs : List X) → All P (x ∷ xs) → P x
all_first P x xs all = all 0 x (omega arith)

all_rest : {X : Type 0} (P : X → Type 0) (x : X) (xs : List X) → All P (x ∷ xs) → All P xs
all_rest P x xs all = λ k d h. all (suc k) d (omega arith)

-- what is least so far and of more is the least of all
record Finds (r : ScriptRefusal) (rs : List ScriptRefusal) : Type 0 where
  pub found : ScriptRefusal
  pub is : earliest (Some r) rs ≡ Some found
  pub least : IsLeast found (r ∷ rs)

contains_rest : {X : Type 0} (x y : X) (xs : List X) → Contains xs y → Contains (x ∷ xs) y
contains_rest x y xs c = (suc c.0, omega (arith, c.1), c.2)

first_or_rest : {X : Type 0} (x y z : X) (xs : List X) → Contains (x ∷ xs) z → Contains (x ∷ y ∷ xs) z
first_or_rest x y z xs c = by_place c.0 c.1 c.2 where
  by_place : (k : ℕ) → k < length (x ∷ xs) → slice_index_or (x ∷ xs) k z ≡ z → Contains (x ∷ y ∷ xs) z
  by_place zero h e = (0, omega arith, e)
  by_place (suc k) h e = (suc (suc k), omega arith, e)

earlier_first : (r s : ScriptRefusal) → comes_before s r ≡ true → earlier (Some r) s ≡ Some s
unfolding earlier
earlier_first r s e = rw e refl

earlier_stays : (r s : ScriptRefusal) → comes_before s r ≡ false → earlier (Some r) s ≡ Some r
unfolding earlier
earlier_stays r s e = rw e refl

finds_later : (r s : ScriptRefusal) (rs : List ScriptRefusal) → comes_before s r ≡ true → Finds s rs → Finds r (s ∷ rs)
finds_later r s rs e f =
    let first : comes_before s f.found ≡ false = all_first (λ t. comes_before t f.found ≡ false) s rs f.least.least in
    record {
      found = f.found;
      is = ap (λ o. earliest o rs) (earlier_first r s e) ∙ f.is;
      least = record {
        among = contains_rest r f.found (s ∷ rs) f.least.among;
        least = all_both (λ t. comes_before t f.found ≡ false) r (s ∷ rs) (not_before f.found s r first (not_both_ways s r e)) f.least.least;
      };
    }

finds_still : (r s : ScriptRefusal) (rs : List ScriptRefusal) → comes_before s r ≡ false → Finds r rs → Finds r (s ∷ rs)
finds_still r s rs e f =
    let first : comes_before r f.found ≡ false = all_first (λ t. comes_before t f.found ≡ false) r rs f.least.least in
    record {
      found = f.found;
      is = ap (λ o. earliest o rs) (earlier_stays r s e) ∙ f.is;
      least = record {
        among = first_or_rest r s f.found rs f.least.among;
        least = all_both (λ t. comes_before t f.found ≡ false) r (s ∷ rs) first (all_both (λ t. comes_before t f.found ≡ false) s rs (not_before f.found r s first e) (all_rest (λ t. comes_before t f.found ≡ false) r rs f.least.least));
      };
    }

finds_by : (r s : ScriptRefusal) (rs : List ScriptRefusal) (b : Bool) → comes_before s r ≡ b → Finds r rs → Finds s rs → Finds r (s ∷ rs)
finds_by r s rs true e f g = finds_later r s rs e g
finds_by r s rs false e f g = finds_still r s rs e f

finds : (r : ScriptRefusal) (rs : List ScriptRefusal) → Finds r rs
finds r [] = record { found = r; is = refl; least = record { among = (0, omega arith, refl); least = all_both (λ s. comes_before s r ≡ false) r [] (not_itself r) (λ k d h. absurd (omega arith)) } }
finds r (s ∷ rs) = finds_by r s rs (comes_before s r) refl (finds r rs) (finds s rs)

earlier_none : (r : ScriptRefusal) → earlier None r ≡ Some r
unfolding earlier
earlier_none r = refl

-- where none is the least, nothing is refused
pub none_refused : (rs : List ScriptRefusal) → earliest None rs ≡ None → rs ≡ []
none_refused [] e = refl
none_refused (r ∷ rs) e =
    let f : Finds r rs = finds r rs in
    absurd (none_some (sym (sym f.is ∙ ap (λ o. earliest o rs) (sym (earlier_none r)) ∙ e)))

-- what is the least so far is the least of all
pub least_refused : (rs : List ScriptRefusal) (r : ScriptRefusal) → earliest None rs ≡ Some r → IsLeast r rs
least_refused [] r e = absurd (none_some e)
least_refused (s ∷ rs) r e =
    let f : Finds s rs = finds s rs in
    let g : f.found ≡ r = some_same (sym f.is ∙ ap (λ o. earliest o rs) (sym (earlier_none s)) ∙ e) in
    subst (λ (q : ScriptRefusal). IsLeast q (s ∷ rs)) g f.least

-- one of several is the least
pub least_of_all : (r : ScriptRefusal) (rs : List ScriptRefusal) → (l : ScriptRefusal) × IsLeast l (r ∷ rs)
least_of_all r rs = let f : Finds r rs = finds r rs in (f.found, f.least)

-- several have one least
pub one_least : (r s : ScriptRefusal) (rs : List ScriptRefusal) → IsLeast r rs → IsLeast s rs → r ≡ s
one_least r s rs a b = same_refusal r s (All-contains (λ t. comes_before t s ≡ false) rs r b.least a.among) (All-contains (λ t. comes_before t r ≡ false) rs s a.least b.among)

pub least_of_none : (r : ScriptRefusal) → IsLeast r [] → ⊥
least_of_none r l = none_below l.among.0 l.among.1 where
  none_below : (k : ℕ) → k < 0 → ⊥
  none_below k h = omega arith

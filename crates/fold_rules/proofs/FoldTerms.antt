-- The term of a fold.
use Rattle.std.proofs.Common.{◌≡◌, ℕ, zero, suc, ◌+◌, ◌-◌, ◌≤◌, ◌<◌, ℤ, pos, ◌<ℤ◌, int_lt, ◌&&◌, true, List, [], ◌∷◌, ◌++◌, length, take, drop, refl, ap, sym, subst, ◌∙◌, arith, length-append}
use Rattle.std.specs.Prelude.{IsTrue}
use Rattle.std.proofs.lemmas.Int.{ints}
use Rattle.std.proofs.lemmas.List.{length-drop, length-take, drop_all, take_all, append_assoc, append-nil}
use Rattle.seq_values.specs.Model as M
use Rattle.seq_values.specs.Plain.{plain, plains}
use Rattle.seq_values.specs.Sight.{Sight, an_int, a_vector}
use Rattle.seq_values.specs.WellFormed.{is_well_formed, are_well_formed}
use Rattle.seq_values.specs.WellFormedTerms.{are_fold_stages, is_fold, is_well_formed_term, takes}
use Rattle.seq_values.specs.declared.term.Term.{Term}
use Rattle.seq_values.specs.declared.value.Value.{Value}
use Rattle.seq_values.specs.declared.words.Op.TheVariants as O
use Rattle.seq_values.proofs.DepthLemmas.{and_parts}
use Rattle.seq_values.proofs.WellFormedLemmas.{list_keeps, well_back, well_front}
use Rattle.seq_plan.specs.Plan.{give}
use Rattle.seq_plan.specs.WellFormed.{sight, sights, WellList, well_end, well_item, WellTerm, well_term}
use Rattle.seq_plan.proofs.CursorLemmas.{list_values}
use Rattle.seq_plan.proofs.FitLemmas.{both, first_of_both, second_of_both}
use Rattle.seq_plan.proofs.WellValues.{well_formed, term_formed, formed_term}
use Rattle.seq_turns.specs.Turning.{Takes}
use Rattle.seq_turns.specs.declared.next.Next.{Next}
use Rattle.fold_rows.specs.Table.{fold_items, fold_term}
use Rattle.fold_rules.specs.Left.{pended, running, second_half}
use Rattle.fold_rules.specs.Terms.{is_vector, is_some_size}
use Rattle.fold_rules.specs.declared.state.Fold.{Fold}
use Rattle.fold_rules.specs.declared.state.Half.{Half}
use Rattle.fold_rules.specs.declared.state.State.{State}
use Rattle.fold_rules.proofs.Taking.{takes_same}

-- ## What the arguments are

by_well : {t : M.Term ℕ} → WellTerm t → takes t.op (sights (M.values t.args)) ≡ true
by_well (well_term w e) = e

pub work_takes : (t : Term) → t.op ≡ O.Fold → IsTrue (is_well_formed_term t) → takes O.Fold (sights (M.values (plains t.args))) ≡ true
work_takes t e h = ap (λ o. takes o (sights (M.values (plains t.args)))) (sym e) ∙ by_well (term_formed t h)

not_one : (a : Sight) → is_fold (a ∷ []) ≡ true → ⊥
not_one (a_vector n) e = absurd cc
not_one _ e = absurd cc

not_two : (a b : Sight) → is_fold (a ∷ b ∷ []) ≡ true → ⊥
not_two (a_vector n) (an_int k) e = absurd cc
not_two (a_vector n) _ e = absurd cc
not_two _ b e = absurd cc

not_three : (a b c : Sight) → is_fold (a ∷ b ∷ c ∷ []) ≡ true → ⊥
not_three (a_vector n) (an_int k) c e = absurd cc
not_three (a_vector n) _ c e = absurd cc
not_three _ b c e = absurd cc

pub four_there : (xs : List Value) → takes O.Fold (sights (M.values (plains xs))) ≡ true → 4 ≤ length xs
four_there [] e = absurd cc
four_there (x ∷ []) e = absurd (not_one (sight (plain x)) e)
four_there (x ∷ y ∷ []) e = absurd (not_two (sight (plain x)) (sight (plain y)) e)
four_there (x ∷ y ∷ z ∷ []) e = absurd (not_three (sight (plain x)) (sight (plain y)) (sight (plain z)) e)
four_there (x ∷ y ∷ z ∷ w ∷ xs) e = omega arith

pub args_are : (xs : List Value) (v n c f : Value) (ss : List Value) → drop 0 xs ≡ v ∷ drop (0 + 1) xs → drop 1 xs ≡ n ∷ drop (1 + 1) xs → drop 2 xs ≡ c ∷ drop (2 + 1) xs → drop 3 xs ≡ f ∷ drop (3 + 1) xs → ss ≡ drop 4 xs → xs ≡ v ∷ n ∷ c ∷ f ∷ ss
args_are xs v n c f ss e q p o s = e ∙ ap (λ l. v ∷ l) (q ∙ ap (λ l. n ∷ l) (p ∙ ap (λ l. c ∷ l) (o ∙ ap (λ l. f ∷ l) (sym s))))

-- with the stages
pub args_with : (xs : List Value) (v n c f : Value) (ss : List Value) → xs ≡ v ∷ n ∷ c ∷ f ∷ drop 4 xs → ss ≡ drop 4 xs → xs ≡ v ∷ n ∷ c ∷ f ∷ ss
args_with xs v n c f ss e s = e ∙ ap (λ l. v ∷ n ∷ c ∷ f ∷ l) (sym s)

pub vector_there : (v n c f : M.Value ℕ) (ss : List (M.Value ℕ)) → takes O.Fold (sights (M.values (v ∷ n ∷ c ∷ f ∷ ss))) ≡ true → is_vector v ≡ true
vector_there (M.vector xs) n c f ss e = refl
vector_there _ n c f ss e = absurd cc

pub size_there : (xs : M.Values ℕ) (n c f : M.Value ℕ) (ss : List (M.Value ℕ)) → takes O.Fold (sights (M.values (M.vector xs ∷ n ∷ c ∷ f ∷ ss))) ≡ true → is_some_size n ≡ true
size_there xs (M.int k) c f ss e = first_of_both (int_lt (pos 0) k) _ e
size_there xs _ c f ss e = absurd cc

pub stages_there : (xs : M.Values ℕ) (k : ℤ) (c f : M.Value ℕ) (ss : List (M.Value ℕ)) → takes O.Fold (sights (M.values (M.vector xs ∷ M.int k ∷ c ∷ f ∷ ss))) ≡ true → are_fold_stages (sights (M.values ss)) ≡ true
stages_there xs k c f ss e = second_of_both (int_lt (pos 0) k) _ e

-- the row of the term
pub term_goes : (v n c f : M.Value ℕ) (ss : List (M.Value ℕ)) (k : ℤ) (items : List Value) (hs : List Half) (r : Next State) → v ≡ M.vector (M.values (plains items)) → n ≡ M.int k → hs ≡ [] → Takes running (fold_items k c f ss (plains items) (pended hs give)) r → Takes running (fold_term (v ∷ n ∷ c ∷ f ∷ ss)) r
term_goes v n c f ss k items hs r e q o t = takes_same ((λ i. fold_items k c f ss (sym (list_values (plains items)) i) (pended (o i) give)) ∙ (λ i. fold_term (sym e i ∷ sym q i ∷ c ∷ f ∷ ss))) t

-- ## Behind a place

pub behind_all : (xs ys : List Value) (at n : ℕ) → n ≡ length xs → ys ≡ take (n - at) (drop at xs) → ys ≡ drop at xs
behind_all xs ys at n l e = e ∙ take_all (n - at) (drop at xs) (omega (arith, length-drop at xs, l))

pub behind_well : (xs ys : List Value) (at n : ℕ) → ys ≡ take n (drop at xs) → IsTrue (are_well_formed xs) → IsTrue (are_well_formed ys)
behind_well xs ys at n e h = subst (λ zs. IsTrue (are_well_formed zs)) (sym e) (well_front (drop at xs) n (well_back xs at h))

pub behind_few : (xs ys : List Value) (at n : ℕ) → ys ≡ take n (drop at xs) → at ≤ length xs → length xs ≤ 4294967295 → length ys + at ≤ 4294967295
behind_few xs ys at n e b l = omega (arith, ap length e, length-take n (drop at xs), length-drop at xs)

-- ## The term of a second half

pub four_gathered : (a b c d : Value) (none one two three four : List Value) → none ≡ [] → one ≡ none ++ a ∷ [] → two ≡ one ++ b ∷ [] → three ≡ two ++ c ∷ [] → four ≡ three ++ d ∷ [] → four ≡ a ∷ b ∷ c ∷ d ∷ []
four_gathered a b c d none one two three four e p q o s = s ∙ ap (λ l. l ++ d ∷ []) (o ∙ ap (λ l. l ++ c ∷ []) (q ∙ ap (λ l. l ++ b ∷ []) (p ∙ ap (λ l. l ++ a ∷ []) e)))

pub one_more : (xs ys : List Value) (x : Value) (n : ℕ) → ys ≡ xs ++ x ∷ [] → length xs ≡ n → length ys ≡ n + 1
one_more xs ys x n e l = ap length e ∙ length-append xs (x ∷ []) ∙ ap (λ m. m + 1) l

-- values behind others, up to a place
pub record Joined (before more all : List Value) (at : ℕ) : Type 0 where
  pub same : all ++ drop at more ≡ before ++ more

pub joined_more : (before more all next : List Value) (v : Value) (at : ℕ) → drop at more ≡ v ∷ drop (at + 1) more → next ≡ all ++ v ∷ [] → Joined before more all at → Joined before more next (at + 1)
joined_more before more all next v at e q h = record { same = ap (λ l. l ++ drop (at + 1) more) q ∙ append_assoc all (v ∷ []) (drop (at + 1) more) ∙ ap (λ l. all ++ l) (sym e) ∙ h.same }

pub joined_short : (before more all : List Value) (v : Value) (at : ℕ) → drop at more ≡ v ∷ drop (at + 1) more → length before + length more ≤ 4294967295 → Joined before more all at → length all < 4294967295
joined_short before more all v at e b h =
    let whole : length all + length (drop at more) ≡ length before + length more = sym (length-append all (drop at more)) ∙ ap length h.same ∙ length-append before more in
    let some : length (drop at more) ≡ suc (length (drop (at + 1) more)) = ap length e in
    omega (arith, whole, some)

pub joined_all : (before more all : List Value) (at : ℕ) → length more ≤ at → Joined before more all at → all ≡ before ++ more
joined_all before more all at l h = sym (append-nil all) ∙ ap (λ l. all ++ l) (sym (drop_all at more l)) ∙ h.same

pub second_args : (xs first : List Value) (v n c f combine function : Value) (ss items : List Value) (k : ℤ) → xs ≡ first ++ ss → first ≡ v ∷ n ∷ c ∷ f ∷ [] → plain v ≡ M.vector (M.values (plains items)) → plain n ≡ M.int k → c ≡ combine → f ≡ function → plains xs ≡ M.vector (M.values (plains items)) ∷ M.int k ∷ plain combine ∷ plain function ∷ plains ss
second_args xs first v n c f combine function ss items k e q a b o p = (λ i. plains (e i)) ∙ (λ i. plains (q i ++ ss)) ∙ (λ i. a i ∷ b i ∷ plain (o i) ∷ plain (p i) ∷ plains ss)

all_well : (xs : List Value) → IsTrue (are_well_formed xs) → WellList (plains xs)
all_well [] h = well_end
all_well (x ∷ xs) h = let parts = and_parts (is_well_formed x) (are_well_formed xs) h in well_item (well_formed x parts.0) (all_well xs parts.1)

above : (n : ℤ) → pos 0 <ℤ n → int_lt (pos 0) n ≡ true
above n h = grind (arith, ints)

pub second_well : (f : Fold) (items args : List Value) → IsTrue (are_well_formed args) → plains args ≡ second_half f items → IsTrue (is_well_formed_term (record { op = O.Fold; args = args }))
second_well f items args w e = formed_term (record { op = O.Fold; args = args }) (list_keeps args w) (well_term (all_well args w) (ap (λ l. takes O.Fold (sights (M.values l))) e ∙ both (above f.size f.some) f.fit))

abbrev folds_of : List (M.Value ℕ) → M.Term ℕ
folds_of xs = record { op = O.Fold; args = xs }

pub term_with : {xs ys : List (M.Value ℕ)} → xs ≡ ys → folds_of xs ≡ folds_of ys
term_with e = ap folds_of e

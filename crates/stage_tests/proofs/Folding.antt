-- The stages of a fold, from one on.
use Rattle.std.proofs.Common.{◌≡◌, ℕ, zero, suc, ℤ, pos, true, List, [], ◌∷◌, drop, map, refl, ap, sym, ◌∙◌, arith}
use Rattle.std.specs.Prelude.{IsTrue}
use Rattle.seq_values.specs.Model as M
use Rattle.seq_values.specs.Plain.{plain, plains}
use Rattle.seq_values.specs.Sight.{Sight, a_nil, a_bool, an_int, a_vector, a_cell, an_empty, a_cons, a_chunked, a_function, another}
use Rattle.seq_values.specs.Depth.{Grade, flat, node_grade, value_grade, function_grade, graded}
use Rattle.seq_values.specs.declared.value.Node.TheFolds.{fold-roll-Value}
use Rattle.seq_values.specs.declared.value.Node.TheOpen.{Value-F}
use Rattle.seq_values.specs.WellFormed.{Seen, node_seen, value_seen, function_seen, seen, sight_of, is_well_formed, are_well_formed}
use Rattle.seq_values.specs.WellFormedTerms.{takes, is_fold, are_fold_stages, is_fold_stage}
use Rattle.seq_values.specs.declared.term.Term.{Term}
use Rattle.seq_values.specs.declared.value.Value.{Value}
use Rattle.seq_values.specs.declared.value.Value.TheVariants as V
use Rattle.seq_values.specs.declared.words.Op.TheVariants as O
use Rattle.seq_values.proofs.DepthLemmas.{and_parts, both}
use Rattle.seq_values.proofs.Rolls.{seen_vector}
use Rattle.seq_values.proofs.WellFormedLemmas.{vector_well, term_well}
use Rattle.seq_plan.specs.WellFormed.{sight, sights, WellTerm, well_term}
use Rattle.seq_plan.proofs.WellValues.{term_formed}

-- the stages among the arguments of a fold
stages_among : (a b c d : Sight) (ss : List Sight) → is_fold (a ∷ b ∷ c ∷ d ∷ ss) ≡ true → are_fold_stages ss ≡ true
stages_among (a_vector n) (an_int size) c d ss h = (and_parts _ (are_fold_stages ss) h).1
stages_among (a_vector n) a_nil c d ss h = absurd cc
stages_among (a_vector n) a_bool c d ss h = absurd cc
stages_among (a_vector n) (a_vector m) c d ss h = absurd cc
stages_among (a_vector n) a_cell c d ss h = absurd cc
stages_among (a_vector n) an_empty c d ss h = absurd cc
stages_among (a_vector n) a_cons c d ss h = absurd cc
stages_among (a_vector n) a_chunked c d ss h = absurd cc
stages_among (a_vector n) (a_function t k) c d ss h = absurd cc
stages_among (a_vector n) another c d ss h = absurd cc
stages_among a_nil b c d ss h = absurd cc
stages_among a_bool b c d ss h = absurd cc
stages_among (an_int n) b c d ss h = absurd cc
stages_among a_cell b c d ss h = absurd cc
stages_among an_empty b c d ss h = absurd cc
stages_among a_cons b c d ss h = absurd cc
stages_among a_chunked b c d ss h = absurd cc
stages_among (a_function t k) b c d ss h = absurd cc
stages_among another b c d ss h = absurd cc

by_well : {t : M.Term ℕ} → WellTerm t → takes t.op (sights (M.values t.args)) ≡ true
by_well (well_term w e) = e

int_seen : (n : ℤ) → seen (V.Int n) ≡ value_seen (Value-F.Int n)
int_seen n = ap seen (sym (V.rolls-Int n)) ∙ fold-roll-Value Seen Seen Seen node_seen value_seen function_seen (Value-F.Int n)

int_graded : (n : ℤ) → graded (V.Int n) ≡ flat
int_graded n = ap graded (sym (V.rolls-Int n)) ∙ fold-roll-Value Grade Grade Grade node_grade value_grade function_grade (Value-F.Int n)

int_well : (n : ℤ) → is_well_formed (V.Int n) ≡ true
int_well n = rw (int_seen n, int_graded n) refl

no_items_well : is_well_formed (V.Vector 1 []) ≡ true
no_items_well = vector_well [] 1 refl (omega arith) refl

-- as the arguments of a fold, behind an empty vector, a size and two values more
module _ (xs : List Value) where
  arguments : List Value
  arguments = V.Vector 1 [] ∷ V.Int (pos 1) ∷ V.Int (pos 1) ∷ V.Int (pos 1) ∷ xs

  arguments_well : are_well_formed xs ≡ true → are_well_formed arguments ≡ true
  unfolding arguments
  arguments_well w = both _ _ no_items_well (both _ _ (int_well (pos 1)) (both _ _ (int_well (pos 1)) (both _ _ (int_well (pos 1)) w)))

  arguments_fit : are_fold_stages (map sight_of xs) ≡ true → takes O.Fold (map sight_of arguments) ≡ true
  unfolding arguments
  arguments_fit h =
      ap (λ s. is_fold (s.sight ∷ map sight_of (V.Int (pos 1) ∷ V.Int (pos 1) ∷ V.Int (pos 1) ∷ xs))) (seen_vector [] 1)
      ∙ ap (λ s. is_fold (a_vector 0 ∷ s.sight ∷ map sight_of (V.Int (pos 1) ∷ V.Int (pos 1) ∷ xs))) (int_seen (pos 1)) ∙ h

  all_fit : are_well_formed xs ≡ true → are_fold_stages (map sight_of xs) ≡ true → are_fold_stages (sights (M.values (plains xs))) ≡ true
  unfolding arguments
  all_fit w h =
      let t : Term = record { op = O.Fold; args = arguments } in
      stages_among (sight (plain (V.Vector 1 []))) (sight (plain (V.Int (pos 1)))) (sight (plain (V.Int (pos 1)))) (sight (plain (V.Int (pos 1)))) (sights (M.values (plains xs))) (by_well (term_formed t (term_well t (arguments_well w) (arguments_fit h))))

pub fit_from : (at : ℕ) (xs : List Value) → IsTrue (are_well_formed xs) → IsTrue (are_fold_stages (map sight_of xs)) → are_fold_stages (sights (M.values (plains (drop at xs)))) ≡ true
fit_from zero xs w h = all_fit xs w h
fit_from (suc n) [] w h = refl
fit_from (suc n) (x ∷ xs) w h = fit_from n xs (and_parts (is_well_formed x) (are_well_formed xs) w).1 (and_parts (is_fold_stage (sight_of x)) (are_fold_stages (map sight_of xs)) h).1

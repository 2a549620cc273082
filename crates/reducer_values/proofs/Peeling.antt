-- Layers that are taken off one after the other, from the outermost inwards.
use Rattle.std.proofs.Common.{◌≡◌, ◌+◌, ◌≤◌, ◌<◌, true, false, List, [], ◌∷◌, ◌++◌, map, length, reverse, refl, ap, sym, ◌∙◌, arith, length-append}
use Rattle.std.proofs.lemmas.List.{length-reverse, map-append, reverse-append, append_assoc, append-nil}
use Rattle.std.specs.Prelude.{IsTrue}
use Rattle.seq_values.specs.Depth.{depth}
use Rattle.seq_values.specs.Model as M
use Rattle.seq_values.specs.Plain.{plain, plains}
use Rattle.seq_values.specs.Sight.{Sight}
use Rattle.seq_values.specs.WellFormed.{is_well_formed, sight_of}
use Rattle.seq_values.specs.WellFormedTerms.{is_fold_stage, are_fold_stages}
use Rattle.seq_values.specs.declared.value.Value.{Value}
use Rattle.seq_values.proofs.DepthLemmas.{and_parts, both}
use Rattle.seq_values.proofs.WellFormedLemmas.{within}
use Rattle.seq_plan.proofs.CursorLemmas.{list_values}
use Rattle.fold_rows.specs.Table.{bottom, reducer_stages, can_split, items_of}
use Rattle.reducer_values.specs.Layers.{Peels, IsFoldable}
use Rattle.reducer_values.specs.declared.shapes.Foldable.{Foldable}

-- ## Stages in a row

map_turned : {A B : Type 0} (f : A → B) (xs : List A) → map f (reverse xs) ≡ reverse (map f xs)
map_turned f [] = refl
map_turned f (x ∷ xs) = ap (map f) (reverse-append (x ∷ []) xs) ∙ map-append f (reverse xs) (x ∷ []) ∙ ap (λ l. l ++ f x ∷ []) (map_turned f xs) ∙ sym (reverse-append (f x ∷ []) (map f xs))

pub fits_more : (xs : List Sight) (x : Sight) → are_fold_stages xs ≡ true → is_fold_stage x ≡ true → are_fold_stages (xs ++ x ∷ []) ≡ true
fits_more [] x h k = both _ _ k refl
fits_more (y ∷ ys) x h k =
    let parts = and_parts (is_fold_stage y) (are_fold_stages ys) h in
    both _ _ parts.0 (fits_more ys x parts.1 k)

turned_sights : (xs : List Sight) → are_fold_stages xs ≡ true → are_fold_stages (reverse xs) ≡ true
turned_sights [] h = refl
turned_sights (x ∷ xs) h =
    let parts = and_parts (is_fold_stage x) (are_fold_stages xs) h in
    ap are_fold_stages (reverse-append (x ∷ []) xs) ∙ fits_more (reverse xs) x (turned_sights xs parts.1) parts.0

pub turned_fit : (xs ys : List Value) → ys ≡ reverse xs → are_fold_stages (map sight_of xs) ≡ true → IsTrue (are_fold_stages (map sight_of ys))
turned_fit xs ys e h = ap (λ l. are_fold_stages (map sight_of l)) e ∙ ap are_fold_stages (map_turned sight_of xs) ∙ turned_sights (map sight_of xs) h

pub turned_plain : (xs ys : List Value) → ys ≡ reverse xs → plains ys ≡ reverse (plains xs)
turned_plain xs ys e = ap plains e ∙ map_turned plain xs

pub turned_long : (xs ys : List Value) → ys ≡ reverse xs → length ys ≡ length xs
turned_long xs ys e = ap length e ∙ length-reverse xs

-- ## What was taken off

-- what is left of a collection, with the stages of the layers above it from the outermost inwards
pub record Peeling (whole here : Value) (outer : List Value) : Type 0 where
  pub stages_are : reducer_stages (plain whole) ≡ reducer_stages (plain here) ++ reverse (plains outer)
  pub bottom_is : bottom (plain whole) ≡ bottom (plain here)
  pub splits_as : can_split (plain whole) ≡ can_split (plain here)
  pub fits : are_fold_stages (map sight_of outer) ≡ true
  pub few : length outer + depth here ≤ 256

pub begins : (whole here : Value) (outer : List Value) → here ≡ whole → outer ≡ [] → IsTrue (is_well_formed whole) → Peeling whole here outer
begins whole here outer e o w = record {
  stages_are = sym (append-nil (reducer_stages (plain whole))) ∙ ap (λ v. reducer_stages (plain v) ++ []) (sym e) ∙ ap (λ l. reducer_stages (plain here) ++ reverse (plains l)) (sym o);
  bottom_is = ap (λ v. bottom (plain v)) (sym e);
  splits_as = ap (λ v. can_split (plain v)) (sym e);
  fits = ap (λ l. are_fold_stages (map sight_of l)) o;
  few = omega (arith, ap length o, ap depth e, within whole w);
}

turned_more : (outer : List Value) (s : Value) → plain s ∷ reverse (plains outer) ≡ reverse (plains (outer ++ s ∷ []))
turned_more outer s = sym (reverse-append (plains outer) (plain s ∷ [])) ∙ ap reverse (sym (map-append plain outer (s ∷ [])))

pub goes_on : (whole here stage inner : Value) (outer more : List Value) → Peeling whole here outer → Peels here stage inner → more ≡ outer ++ stage ∷ [] → Peeling whole inner more
goes_on whole here stage inner outer more p q e = record {
  stages_are = p.stages_are
      ∙ ap (λ l. l ++ reverse (plains outer)) q.stages_are
      ∙ append_assoc (reducer_stages (plain inner)) (plain stage ∷ []) (reverse (plains outer))
      ∙ ap (λ l. reducer_stages (plain inner) ++ l) (turned_more outer stage ∙ ap (λ l. reverse (plains l)) (sym e));
  bottom_is = p.bottom_is ∙ q.bottom_is;
  splits_as = p.splits_as ∙ q.splits_as;
  fits = ap (λ l. are_fold_stages (map sight_of l)) e ∙ ap are_fold_stages (map-append sight_of outer (stage ∷ [])) ∙ fits_more (map sight_of outer) (sight_of stage) p.fits q.fits;
  few = omega (arith, p.few, q.less, ap length e, length-append outer (stage ∷ []));
}

pub room : (whole here stage inner : Value) (outer : List Value) → Peeling whole here outer → Peels here stage inner → length outer < 4294967295
room whole here stage inner outer p q = omega (arith, p.few, q.less)

pub is_whole : (whole here : Value) (outer : List Value) → Peeling whole here outer → can_split (plain here) ≡ false → can_split (plain whole) ≡ false
is_whole whole here outer p h = p.splits_as ∙ h

pub is_foldable : (whole here : Value) (outer : List Value) (f : Foldable) → Peeling whole here outer → plain here ≡ M.vector (M.values (plains f.items.items)) → plains f.stages.items ≡ reverse (plains outer) → length f.stages.items ≡ length outer → IsFoldable (plain whole) f
is_foldable whole here outer f p h e l = record {
  splits = p.splits_as ∙ ap can_split h;
  stages_are = e ∙ ap (λ v. reducer_stages v ++ reverse (plains outer)) (sym h) ∙ sym p.stages_are;
  items_are = sym (list_values (plains f.items.items)) ∙ ap (λ v. items_of (bottom v)) (sym h) ∙ ap items_of (sym p.bottom_is);
  few = omega (arith, p.few, l);
}

-- The stages of reducer values, and of a fold.
use Rattle.std.proofs.Common.{◌≡◌, ◌≢◌, ℕ, zero, suc, ◌+◌, ◌≤◌, ◌<◌, Bool, true, false, ◌&&◌, List, [], ◌∷◌, ◌++◌, length, drop, map, reverse, Option, Some, None, IsTrue, refl, ap, sym, ◌∙◌, subst, arith, append_assoc, append-nil}
use Rattle.std.proofs.lemmas.List.{map_push, length-map, reverse-append, drop_all}
use Rattle.fold_rows.specs.Table.{bottom, reducer_stage, reducer_stages}
use Rattle.seq_values.specs.Model as M
use Rattle.seq_values.specs.Model.{◌&◌}
use Rattle.seq_values.specs.Plain.{plain, plains}
use Rattle.seq_values.specs.Sight.{Sight, a_nil, an_int}
use Rattle.seq_values.specs.WellFormed.{binds_folder, is_two, sight_of}
use Rattle.seq_values.specs.WellFormedTerms.{are_fold_stages, is_fold_stage}
use Rattle.seq_values.specs.declared.value.Value.{Value}
use Rattle.seq_values.specs.declared.words.FolderKind.{FolderKind}
use Rattle.seq_values.specs.declared.words.FolderKind.TheVariants as F
use Rattle.seq_values.specs.declared.words.Target.TheVariants as T
use Rattle.seq_plan.specs.Stages.{begins_with, fresh}
use Rattle.seq_plan.specs.WellFormed.{sight, sights}
use Rattle.xf_stages.specs.Left.{stage_value, state_value, stages_stand, states_stand}
use Rattle.xf_stages.specs.Parts.{Begins, FreshStages, extent, extents, is_function}
use Rattle.xf_stages.specs.Reducers.{BeginAll, Folds, Reduces, folder_in}
use Rattle.xf_stages.specs.declared.state.Stage.{Stage}
use Rattle.xf_stages.proofs.OpenTurns.{fresh_push}

-- ## One reducer value

pub folder_two : (kind : FolderKind) (ss : List Sight) → IsTrue (binds_folder kind ss) → length ss ≡ 2
folder_two F.Take (an_int n ∷ c ∷ []) h = refl
folder_two F.Map (f ∷ c ∷ []) h = refl
folder_two F.Filter (f ∷ c ∷ []) h = refl
folder_two F.Remove (f ∷ c ∷ []) h = refl
folder_two F.Mapcat (f ∷ c ∷ []) h = refl
folder_two F.TakeWhile (f ∷ c ∷ []) h = refl
folder_two _ _ h = absurd cc

pub folder_any : (kind : FolderKind) (f c : Sight) → IsTrue (binds_folder kind (f ∷ c ∷ [])) → IsTrue (binds_folder kind (f ∷ a_nil ∷ []))
folder_any F.Take (an_int n) c h = refl
folder_any F.Map f c h = refl
folder_any F.Filter f c h = refl
folder_any F.Remove f c h = refl
folder_any F.Mapcat f c h = refl
folder_any F.TakeWhile f c h = refl
folder_any F.Take _ c h = absurd cc

pub folds_as : (kind : FolderKind) (given collection : Value) (xs : List Value) (s : Stage) → xs ≡ given ∷ collection ∷ [] → Begins (reducer_stage kind (plain given)) s → Folds (M.function (T.Folder kind) (M.values (plains xs))) s (plain collection)
folds_as kind given collection xs s e h = subst (λ l. Folds (M.function (T.Folder kind) (M.values (plains l))) s (plain collection)) (sym e) (record {
  stages = ap (λ v. reducer_stages (plain collection) ++ v ∷ []) (sym h.stage);
  bottom = refl;
  begin = h.state ∙ ap begins_with (sym h.stage);
  smaller = omega arith;
})

pub no_folder : (v : M.Value ℕ) → folder_in v ≡ None → (reducer_stages v ≡ []) × (bottom v ≡ v)
no_folder (M.function (T.Folder kind) bound) e = absurd cc
no_folder _ e = (refl, refl)

-- ## All reducer values

-- what is found before the rest
pub record Unfolds (v : M.Value ℕ) (ss : List Stage) (here : M.Value ℕ) : Type 0 where
  pub stages : reducer_stages v ≡ reducer_stages here ++ reverse (stages_stand ss)
  pub bottom : bottom v ≡ bottom here
  pub begin : FreshStages ss

pub unfolds_none : (v : M.Value ℕ) (ss : List Stage) → ss ≡ [] → Unfolds v ss v
unfolds_none v ss e = subst (λ l. Unfolds v l v) (sym e) (record { stages = sym (append-nil (reducer_stages v)); bottom = refl; begin = refl })

pub unfolds_next : (v here c : M.Value ℕ) (ss ts : List Stage) (s : Stage) → Unfolds v ss here → Folds here s c → ts ≡ ss ++ s ∷ [] → Unfolds v ts c
unfolds_next v here c ss ts s u f e = subst (λ l. Unfolds v l c) (sym e) (record {
  stages =
      u.stages ∙ ap (λ l. l ++ reverse (stages_stand ss)) f.stages
      ∙ append_assoc (reducer_stages c) (stage_value s ∷ []) (reverse (stages_stand ss))
      ∙ ap (λ l. reducer_stages c ++ l) (sym (reverse-append (stages_stand ss) (stage_value s ∷ [])) ∙ ap reverse (sym (map_push stage_value ss s)));
  bottom = u.bottom ∙ f.bottom;
  begin = fresh_push ss s f.begin u.begin;
})

pub unfolds_end : (v here c : M.Value ℕ) (ss : List Stage) → Unfolds v ss here → c ≡ here → folder_in here ≡ None → Reduces v ss c
unfolds_end v here c ss u e n = record {
  stages = u.stages ∙ ap (λ l. l ++ reverse (stages_stand ss)) (no_folder here n).0;
  bottom = e ∙ sym (u.bottom ∙ (no_folder here n).1);
  begin = u.begin;
}

map_turned : {A B : Type 0} (f : A → B) (xs : List A) → map f (reverse xs) ≡ reverse (map f xs)
map_turned f [] = refl
map_turned f (x ∷ xs) = ap (map f) (reverse-append (x ∷ []) xs) ∙ map_push f (reverse xs) x ∙ ap (λ l. l ++ f x ∷ []) (map_turned f xs) ∙ sym (reverse-append (f x ∷ []) (map f xs))

-- ## The stages of a fold

pub no_function_folds : (v : M.Value ℕ) → is_function v ≡ false → is_fold_stage (sight v) ≡ true → ⊥
no_function_folds (M.function t bound) e h = absurd cc
no_function_folds _ e h = absurd cc

pub record Begun (vs : List (M.Value ℕ)) (ss : List Stage) (rest : List (M.Value ℕ)) : Type 0 where
  pub stages : stages_stand ss ++ rest ≡ vs
  pub begin : FreshStages ss
  pub fit : are_fold_stages (sights (M.values rest)) ≡ true

pub begun_none : (vs : List (M.Value ℕ)) (ss : List Stage) → ss ≡ [] → are_fold_stages (sights (M.values vs)) ≡ true → Begun vs ss vs
begun_none vs ss e f = subst (λ l. Begun vs l vs) (sym e) (record { stages = refl; begin = refl; fit = f })

first_true : (a b : Bool) → a && b ≡ true → (a ≡ true) × (b ≡ true)
first_true true b e = (refl, e)
first_true false b e = absurd cc

pub begun_fits : (vs : List (M.Value ℕ)) (ss : List Stage) (items : List Value) (here : ℕ) (v : Value) → drop here items ≡ v ∷ drop (here + 1) items → Begun vs ss (plains (drop here items)) → is_fold_stage (sight (plain v)) ≡ true
begun_fits vs ss items here v e b = (first_true _ _ (ap (λ l. are_fold_stages (sights (M.values (plains l)))) (sym e) ∙ b.fit)).0

pub begun_next : (vs : List (M.Value ℕ)) (ss ts : List Stage) (s : Stage) (items : List Value) (here : ℕ) (v : Value) → drop here items ≡ v ∷ drop (here + 1) items → Begins (plain v) s → ts ≡ ss ++ s ∷ [] → Begun vs ss (plains (drop here items)) → Begun vs ts (plains (drop (here + 1) items))
begun_next vs ss ts s items here v e h et b = subst (λ l. Begun vs l (plains (drop (here + 1) items))) (sym et) (record {
  stages =
      ap (λ l. l ++ plains (drop (here + 1) items)) (map_push stage_value ss s ∙ ap (λ x. stages_stand ss ++ x ∷ []) h.stage)
      ∙ append_assoc (stages_stand ss) (plain v ∷ []) (plains (drop (here + 1) items))
      ∙ ap (λ l. stages_stand ss ++ plains l) (sym e) ∙ b.stages;
  begin = fresh_push ss s (h.state ∙ ap begins_with (sym h.stage)) b.begin;
  fit = (first_true _ _ (ap (λ l. are_fold_stages (sights (M.values (plains l)))) (sym e) ∙ b.fit)).1;
})

pub begun_end : (vs : List (M.Value ℕ)) (ss : List Stage) (items : List Value) (here : ℕ) → length items ≤ here → Begun vs ss (plains (drop here items)) → BeginAll vs ss
begun_end vs ss items here n b = record { stages = sym (append-nil (stages_stand ss)) ∙ ap (λ l. stages_stand ss ++ plains l) (sym (drop_all here items n)) ∙ b.stages; begin = b.begin }

-- ## In the order of the stages

pub turned_stages : (v c : M.Value ℕ) (ss ts : List Stage) → Reduces v ss c → ts ≡ reverse ss → stages_stand ts ≡ reducer_stages v
turned_stages v c ss ts r e = ap stages_stand e ∙ map_turned stage_value ss ∙ sym r.stages

pub turned_fresh : (v c : M.Value ℕ) (ss ts : List Stage) → Reduces v ss c → ts ≡ reverse ss → FreshStages ts
turned_fresh v c ss ts r e = subst FreshStages (sym e) (map_turned state_value ss ∙ ap reverse r.begin ∙ sym (map_turned begins_with (stages_stand ss)) ∙ ap fresh (sym (map_turned stage_value ss)))

-- What a good book tells of a work on its run: all that it has is well formed, and the cell that it asks for was made.
use Rattle.std.proofs.Common.{◌≡◌, ℕ, zero, suc, ◌<◌, List, [], ◌∷◌, length, Option, Some, None, slice_get, ◌&&◌, refl, ap, sym, subst, ◌∙◌, arith}
use Rattle.std.specs.Prelude.{unwrap_or, IsTrue}
use Rattle.seq_values.specs.declared.value.Value.{Value as Coded}
use Rattle.seq_values.specs.declared.value.Value.TheVariants as V
use Rattle.seq_values.specs.declared.value.Node.TheOpen.{Value-F}
use Rattle.seq_values.specs.declared.value.Node.TheFolds.{fold-roll-Value}
use Rattle.seq_values.specs.Depth.{Grade, node_grade, value_grade, function_grade, graded}
use Rattle.seq_values.specs.WellFormed.{Seen, node_seen, value_seen, function_seen, seen, is_measured, is_well_formed, are_well_formed}
use Rattle.seq_values.specs.Model.{Value}
use Rattle.seq_values.proofs.DepthLemmas.{both}
use Rattle.clj_script.specs.Trees.{Program}
use Rattle.seq_plan.specs.Plan.{Plan, ask, Rules}
use Rattle.cell_book.specs.declared.cell.Cell.{Cell}
use Rattle.cell_book.specs.Account.{Account, Duty, cell_at}
use Rattle.cell_book.specs.Glimpses.{glimpse}
use Rattle.seq_meaning.specs.Names.{Name}
use Rattle.seq_lawful.specs.Renaming.{NamesRename}
use Rattle.seq_lawful.specs.Sites.{any_name, at_form}
use Rattle.seq_lawful.specs.Lawful.{cell_name, Lawful}
use Rattle.seq_lawful.specs.Runs.{IsBefore, is_before, Stands, stands_part, stands_form, OnRun}
use Rattle.seq_lawful.proofs.NextSteps.{NeedsCell, needs_cell}
use Rattle.seq_lawful.proofs.Named.{some_name}
use Rattle.seq_lawful.proofs.Premises.{on_needs}
use Rattle.seq_lawful.proofs.Works.{under_any, founded_work}
use Rattle.lawful_works.specs.Proper.{IsProper}

nil_seen : seen V.Nil ≡ value_seen Value-F.Nil
nil_seen = ap seen (sym V.rolls-Nil) ∙ fold-roll-Value Seen Seen Seen node_seen value_seen function_seen Value-F.Nil

nil_graded : graded V.Nil ≡ value_grade Value-F.Nil
nil_graded = ap graded (sym V.rolls-Nil) ∙ fold-roll-Value Grade Grade Grade node_grade value_grade function_grade Value-F.Nil

nil_well : IsTrue (is_well_formed V.Nil)
nil_well = λ i. (nil_seen i).stands && is_measured (nil_graded i)

each_well : (vs : List Coded) → ((i : ℕ) (v : Coded) → slice_get vs i ≡ Some v → IsTrue (is_well_formed v)) → IsTrue (are_well_formed vs)
each_well [] f = refl
each_well (v ∷ vs) f = both (is_well_formed v) (are_well_formed vs) (f zero v refl) (each_well vs (λ i w e. f (suc i) w e))

pub value_well : (o : Option Coded) → ((v : Coded) → o ≡ Some v → IsTrue (is_well_formed v)) → IsTrue (is_well_formed (unwrap_or o V.Nil))
value_well None f = nil_well
value_well (Some v) f = f v refl

module _ (rules : Rules ℕ) (program : Program) (limit : ℕ) (a : Account) (w : Duty) where
  before_well : IsProper a → (i : ℕ) (v : Coded) → slice_get w.outcomes i ≡ Some v → IsBefore (glimpse a) w.outcomes i → IsTrue (is_well_formed v)
  before_well s i v e (is_before f at ended q) =
      let z : unwrap_or f.value V.Nil ≡ v = cc in
      subst (λ x. IsTrue (is_well_formed x)) z (value_well f.value (λ u h. s.given i f u at h))

  place_within : (vs : List Coded) (i : ℕ) (v : Coded) → slice_get vs i ≡ Some v → i < length vs
  place_within [] i v e = absurd cc
  place_within (u ∷ vs) zero v e = omega arith
  place_within (u ∷ vs) (suc i) v e = let l = place_within vs i v e in omega arith

  -- the values of the forms before
  pub proper_outcomes : IsProper a → (n : ℕ) (p : Plan ℕ) → OnRun rules program limit (glimpse a) w n p → IsTrue (are_well_formed w.outcomes)
  proper_outcomes s n p r = go r.stands
    where
      go : {whole : Plan ℕ} → Stands rules program limit (glimpse a) w whole → IsTrue (are_well_formed w.outcomes)
      go (stands_part {id = id} p pl at ho tm kd oc) = subst (λ l. IsTrue (are_well_formed l)) oc (s.kept id p at)
      go (stands_form pl at top len before) = each_well w.outcomes (λ i v e. before_well s i v e (before i (subst (λ m. i < m) len (place_within w.outcomes i v e))))

module _ (numeric : Rules ℕ) (rules : Rules Name) (program : Program) (limit : ℕ) (alike : NamesRename numeric rules program limit) (a : Account) (law : Lawful rules program limit a) (w : Duty) where
  -- the cell that a run asks for
  pub asked_there : (n c : ℕ) (k : Value ℕ → Plan ℕ) → OnRun numeric program limit (glimpse a) w (suc n) (ask c k) → (p : Cell) × (cell_at a c ≡ Some p)
  asked_there n c k r = go (on_needs numeric rules program limit alike a any_name (at_form zero) (under_any numeric rules program limit alike a law w (suc n) (ask c k) r any_name m.1) c k n refl refl)
    where
      m : (e : Name) × Rattle.seq_lawful.specs.Lawful.ClaimName rules program limit a any_name w.claim e
      m = some_name rules program limit a (founded_work numeric rules program limit alike a law w (suc n) (ask c k) r)

      go : NeedsCell rules program limit a any_name c m.0 → (p : Cell) × (cell_at a c ≡ Some p)
      go (needs_cell nd (cell_name {p = p} at q)) = (p, at)

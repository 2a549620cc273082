-- Where a work begins.
use Rattle.std.specs.Prelude.{◌≡◌, ℕ, List, Some, drop, slice_get, IsTrue}
use Rattle.clj_script.specs.Trees.{Top}
use Rattle.clj_script.specs.Seen.{seen}
use Rattle.clj_script.specs.declared.program.Program.{Program}
use Rattle.seq_values.specs.declared.words.Kind.{Kind}
use Rattle.seq_values.specs.declared.term.Term.{Term}
use Rattle.seq_values.specs.declared.value.Value.{Value as Coded}
use Rattle.seq_values.specs.Model.{Value}
use Rattle.seq_values.specs.Plain.{plains, plain_term}
use Rattle.seq_values.specs.WellFormed.{are_well_formed}
use Rattle.seq_values.specs.WellFormedTerms.{is_well_formed_term}
use Rattle.seq_plan.specs.Plan.{Plan}
use Rattle.seq_meaning.specs.Evaluates.{term_plan, form_plan}
use Rattle.seq_meaning.specs.Referred.{referred}
use Rattle.cell_book.specs.declared.work.Place.TheVariants as P
use Rattle.cell_book.specs.Account.{Duty}
use Rattle.eval_frames.specs.Frames.{Ground, script_in}
use Rattle.eval_frames.specs.declared.state.Event.{Event}
use Rattle.eval_works.specs.Standing.{left_of, plan_of}

-- what of the values of the forms from a place on may be referred to
abbrev pub from_form : Program → List Coded → ℕ → List (Value ℕ)
from_form program outcomes n = referred (drop n (seen program).tops) (drop n (plains outcomes))

-- the work of a part, all of whose values are well formed
pub record IsPartWork (w : Duty) : Type 0 where
  pub cell : ℕ
  pub kind : Kind
  pub term : Term
  pub place : w.place ≡ P.Part cell kind term
  pub proper : IsTrue (is_well_formed_term term)
  pub kept : IsTrue (are_well_formed w.outcomes)

-- the event stands at this plan, with all own steps left
abbrev pub StandsAt : {S : Type 0} {b : _} → Ground S → ℕ → Plan ℕ → Event S b → Type 0
StandsAt by limit p e = (left_of e ≡ limit) × (plan_of by e ≡ p)

-- The work may begin: it is that of a part, or that of a form of the program, and all its values are well formed.
pub data IsNewWork (tops : List Top) (w : Duty) : Type 0 where
  new_part : IsPartWork w → IsNewWork tops w
  new_form : {number k : ℕ} {t : Top} → w.place ≡ P.Form number k → slice_get tops k ≡ Some t → IsTrue (are_well_formed w.outcomes) → IsNewWork tops w

module _ {S : Type 0} {b : _} (by : Ground S) (limit : ℕ) where
  -- the event stands at the start of the run of the form at this place
  abbrev pub StartsForm : ℕ → Event S b → Type 0
  StartsForm k e = (t : Top) → slice_get (seen by.code.program).tops k ≡ Some t → StandsAt by limit (form_plan (script_in by) t) e

  -- the event stands at the start of the work's run: that of its term, or of its form
  pub record StartsAt (w : Duty) (e : Event S b) : Type 0 where
    pub part : (cell : ℕ) (kind : Kind) (term : Term) → w.place ≡ P.Part cell kind term → StandsAt by limit (term_plan (script_in by) (plain_term term)) e
    pub form : (number k : ℕ) → w.place ≡ P.Form number k → StartsForm k e

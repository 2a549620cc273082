-- A work that was just opened stands at the event at which it begins.
use Rattle.std.proofs.Common.{◌≡◌, ℕ, List, Option, ap, sym, subst, ◌∙◌}
use Rattle.clj_script.specs.Seen.{seen}
use Rattle.seq_values.specs.Model.{Value}
use Rattle.seq_values.specs.Plain.{plain_term}
use Rattle.seq_plan.specs.Plan.{Rules, Plan}
use Rattle.seq_turns.specs.Turning.{Running}
use Rattle.seq_meaning.specs.Evaluates.{Script, term_plan, form_plan}
use Rattle.cell_book.specs.Account.{Duty}
use Rattle.cell_book.specs.Glimpses.{Glimpse, IsOpen}
use Rattle.seq_lawful.specs.Runs.{script_in}
use Rattle.seq_lawful.proofs.OnRuns.{on_open}
use Rattle.eval_frames.specs.Frames as F
use Rattle.eval_frames.specs.Frames.{Ground, ground}
use Rattle.eval_frames.specs.declared.state.Code.{Code}
use Rattle.eval_frames.specs.declared.state.Event.{Event}
use Rattle.lawful_works.specs.Basis.{Basis, RunsTo}
use Rattle.lawful_works.specs.Calls.{Opened}
use Rattle.lawful_works.specs.Evaluated.{IsBegun, begun_part, begun_form}
use Rattle.eval_works.specs.Standing.{GoesBy, basis, plan_of, EventOn}
use Rattle.eval_works.specs.Begins.{IsNewWork, new_part, new_form, StandsAt, StartsAt}
use Rattle.eval_stack.specs.declared.state.Setting.{Setting}
use Rattle.eval_stack.specs.Stack.{basis_of, IsCode}
use Rattle.eval_stack.proofs.Standing.{basis_same}

-- it may begin
pub new_work : (y : Basis) (g : Glimpse) (w : Duty) → IsBegun y g w → IsNewWork y.program.tops w
new_work y g w (begun_part {c = c} o) = new_part (record { cell = c; kind = o.on.kind; term = o.on.term; place = o.on.place; proper = o.proper; kept = o.kept })
new_work y g w (begun_form place top kept run) = new_form place top kept

-- and is open
pub begun_open : (y : Basis) (g : Glimpse) (w : Duty) → IsBegun y g w → IsOpen g w
begun_open y g w (begun_part o) = on_open y.rules y.program y.limit g w y.limit _ (o.starts y)
begun_open y g w (begun_form place top kept run) = on_open y.rules y.program y.limit g w y.limit _ run

pub opened_begun : (y : Basis) (g : Glimpse) (w : Duty) (asker : Option ℕ) (c : ℕ) → Opened g asker c w → IsBegun y g w
opened_begun y g w asker c o = begun_part o

module _ {S : Type 0} (by : Ground S) (limit : ℕ) (w : Duty) (goes : GoesBy by.code w) where
  abbrev y : Basis
  y = basis by limit

  abbrev script : List (Value ℕ) → Script ℕ
  script defs = record { rules = by.table by.code.processors; functions = (seen by.code.program).functions; bodies = (seen by.code.program).bodies; defs = defs }

  same_script : F.script_in by ≡ script_in y.rules y.program y.limit w.outcomes
  same_script = ap script goes

module _ {S : Type 0} {b : _} (by : Ground S) (limit : ℕ) (g : Glimpse) (w : Duty) (goes : GoesBy by.code w) where
  at_start : (p q : Plan ℕ) (e : Event S b) → StandsAt by limit p e → p ≡ q → RunsTo (basis by limit) g w limit q → EventOn by limit g w e
  at_start p q e st same r = subst (λ n. RunsTo (basis by limit) g w n (plan_of by e)) (sym st.0) (subst (λ z. RunsTo (basis by limit) g w limit z) (sym (st.1 ∙ same)) r)

  starts_on : (e : Event S b) → IsBegun (basis by limit) g w → StartsAt by limit w e → EventOn by limit g w e
  starts_on e (begun_part {c = c} o) st = at_start (term_plan (F.script_in by) (plain_term o.on.term)) (term_plan (script_in (by.table by.code.processors) (seen by.code.program) limit w.outcomes) (plain_term o.on.term)) e (st.part c o.on.kind o.on.term o.on.place) (ap (λ z. term_plan z (plain_term o.on.term)) (same_script by limit w goes)) (o.starts (basis by limit))
  starts_on e (begun_form {number = number} {k = k} {t = t} place top kept run) st = at_start (form_plan (F.script_in by) t) (form_plan (script_in (by.table by.code.processors) (seen by.code.program) limit w.outcomes) t) e (st.form number k place t top) (ap (λ z. form_plan z t) (same_script by limit w goes)) run

pub begins_on : {S : Type 0} {b : _} (running : Running S) (table : ℕ → Rules ℕ) (s : Setting) (code : Code) (g : Glimpse) (w : Duty) (e : Event S b) → IsCode s code w → IsBegun (basis_of table s) g w → StartsAt (ground running table code) s.limit w e → EventOn (ground running table code) s.limit g w e
begins_on running table s code g w e o begun st = starts_on (ground running table code) s.limit g w o.goes e (subst (λ (z : Basis). IsBegun z g w) (sym (basis_same running table s code w o)) begun) st

-- How the two works of the script go on by themselves, between the calls.
use Rattle.std.proofs.Common.{◌≡◌, ℕ, suc, ◌<◌, List, [], true, false, length, Contains, arith, Some, slice_get, refl, ap, sym, subst, ◌∙◌}
use Rattle.std.specs.Fmt.{digits}
use Rattle.seq_values.specs.declared.words.Kind.TheVariants.{Lazy}
use Rattle.seq_values.specs.declared.term.Term.{Term as CodedTerm}
use Rattle.seq_values.specs.Model.{Term}
use Rattle.seq_values.specs.Plain.{plain_term}
use Rattle.clj_script.specs.Trees.{Program}
use Rattle.seq_plan.specs.Plan.{Plan, seq, make, Rules}
use Rattle.seq_meaning.specs.Evaluates.{term_plan, form_plan}
use Rattle.seq_meaning.specs.Trail.{looped, visited, entered, at_once, sought}
use Rattle.cell_book.specs.declared.cell.Form.{Form}
use Rattle.cell_book.specs.Account.{Account, Duty, begun_in}
use Rattle.cell_book.specs.Glimpses.{Glimpse, glimpse}
use Rattle.seq_lawful.specs.Sites.{FormDone}
use Rattle.seq_lawful.specs.Runs.{script_in, OnRun, MayBegin}
use Rattle.seq_table.specs.Table.{language}
use Rattle.seq_lawful.proofs.New.{new_lawful}
use Rattle.seq_lawful.proofs.Going.{on_walked}
use Rattle.lawful_client.specs.OneMap.{the_form, one_map, steps, IsGood, KeepsGood, IsNew, table, whole_map, rest_map, form_calls, form_makes, prints_first, one_before, part_makes, form_gives, form_waits}

module _ (g : Glimpse) (w : Duty) where
  pub form_starts : OnRun table one_map steps g w 8 (form_plan (script_in table one_map steps w.outcomes) the_form) → OnRun table one_map steps g w 6 form_makes
  form_starts r = on_walked table one_map steps g w 8 6 (form_plan (script_in table one_map steps w.outcomes) the_form) form_makes r (entered (entered r.trail))

  pub form_asks : (c : ℕ) → OnRun table one_map steps g w 6 (form_calls c) → OnRun table one_map steps g w 5 (form_waits c)
  form_asks c r = on_walked table one_map steps g w 6 5 (form_calls c) (form_waits c) r (sought (entered r.trail) refl)

  pub form_ends : (d : ℕ) → OnRun table one_map steps g w 4 (seq (one_before d) prints_first) → OnRun table one_map steps g w 3 form_gives
  unfolding digits
  form_ends d r = on_walked table one_map steps g w 4 3 (seq (one_before d) prints_first) form_gives r (visited (looped (at_once r.trail refl)))

  pub part_starts : OnRun table one_map steps g w 8 (term_plan (script_in table one_map steps w.outcomes) whole_map) → OnRun table one_map steps g w 7 part_makes
  part_starts r = on_walked table one_map steps g w 8 7 (term_plan (script_in table one_map steps w.outcomes) whole_map) part_makes r (entered (at_once r.trail refl))

-- a book without forms may begin the form
pub may_begin : (a : Account) → a.forms ≡ [] → a.spent ≡ false → MayBegin table one_map steps (glimpse a) 1
may_begin a none unspent = record {
  top = the_form;
  next = ap (λ l. suc (length (begun_in l))) (sym none);
  is_top = subst (λ l. slice_get one_map.tops (length (begun_in l)) ≡ Some the_form) (sym none) refl;
  done = λ k f e. no_form k f (ap (λ l. slice_get l k) (sym none) ∙ e);
  unspent = unspent;
}
  where
    no_form : (k : ℕ) (f : Form) → slice_get [] k ≡ Some f → FormDone one_map k f
    no_form k f e = absurd cc

-- the term that is made is the plan's
pub make_so : (rules : Rules ℕ) (program : Program) (limit : ℕ) (g : Glimpse) (w : Duty) (n : ℕ) (k : ℕ → Plan ℕ) {t : Term ℕ} (u : CodedTerm) → plain_term u ≡ t → OnRun rules program limit g w n (make Lazy t k) → OnRun rules program limit g w n (make Lazy (plain_term u) k)
make_so rules program limit g w n k u e r = subst (λ x. OnRun rules program limit g w n (make Lazy x k)) (sym e) r

-- a new book
pub new_good : (a : Account) (cells : ℕ) → a ≡ record { limit = cells; cells = []; forms = []; spent = false; gave_up = false } → (law : Account → Type 0) → KeepsGood true law (λ b. b ≡ a)
new_good a cells new law = λ b e. subst IsGood (sym (e ∙ new)) (new_lawful (language 4) one_map steps cells)

pub new_book : (a : Account) (cells : ℕ) → a ≡ record { limit = cells; cells = []; forms = []; spent = false; gave_up = false } → IsNew (λ b. b ≡ a) (glimpse a)
new_book a cells new = record { book = a; known = refl; no_forms = ap (λ (x : Account). x.forms) new; unspent = ap (λ (x : Account). x.spent) new; none_seen = ap (λ (x : Account). begun_in x.forms) new }

pub none_in : (xs : List ℕ) (x : ℕ) → xs ≡ [] → ¬ (Contains xs x)
none_in xs x e (k, l, s) = let n : length xs ≡ 0 = ap length e in absurd (omega arith)

-- What the forms of a lawful book ended by, and the lines of the program's forms.
use Rattle.std.proofs.Common.{◌≡◌, ◌≢◌, ◌⊎◌, inl, inr, ℕ, zero, suc, ◌<◌, false, List, [], ◌∷◌, ◌++◌, length, Option, Some, None, slice_get, refl, ap, sym, subst, ◌∙◌, arith}
use Rattle.std.specs.Prelude.{unwrap_or}
use Rattle.std.proofs.lemmas.Option.{none-some, same_Some}
use Rattle.seq_base.specs.declared.thrown.Thrown.{Thrown}
use Rattle.seq_values.specs.declared.value.Value.{Value as Coded}
use Rattle.seq_values.specs.declared.value.Value.TheVariants as V
use Rattle.seq_values.specs.Model.{Value, text, Outcome, gave, threw}
use Rattle.seq_values.specs.Plain.{plain}
use Rattle.clj_script.specs.Trees.{Expr, Top, def, prn, Program}
use Rattle.seq_plan.specs.Plan.{Rules}
use Rattle.seq_plan.specs.Alike.{Likeness, Like, like_text, LikeOutcome, like_gave, like_threw}
use Rattle.cell_book.specs.declared.cell.ClaimEnd.TheVariants as E
use Rattle.cell_book.specs.declared.cell.Form.{Form}
use Rattle.cell_book.specs.Account.{Account, is_open}
use Rattle.cell_book.specs.Glimpses.{glimpse, Reaches}
use Rattle.cell_book.specs.Steps.{values_in}
use Rattle.cell_book.proofs.Lists.{get_last, get_longer, get_within, same_or}
use Rattle.seq_meaning.specs.Names.{Name, form}
use Rattle.seq_meaning.specs.Gives.{Gives, IsNoDef, defn_none, prn_none, ledger_none}
use Rattle.seq_meaning.proofs.Once.{one_gives}
use Rattle.seq_table.specs.Table.{language}
use Rattle.seq_table.specs.Outputs.{newline, error_line, Line, line_of_def, line_of_prn, line_of_failed_def, line_of_failed_prn, DefThrows, def_throws}
use Rattle.seq_lawful.specs.Sites.{own_name, at_form, on_form, ValueOf, value_open, value_gave, value_threw, value_given_up, FormDone, form_gave, form_threw}
use Rattle.seq_lawful.specs.Lawful.{called, GivesSo, gives_so, Lawful}
use Rattle.seq_lawful.specs.Rest.{AtRest}
use Rattle.seq_lawful.specs.Runs.{IsBefore, is_before}
use Rattle.seq_lawful.proofs.RestAnswers.{form_gives}
use Rattle.lawful_output.specs.Progress.{HasGiven, HasThrown, IsDoneAt}
use Rattle.lawful_output.proofs.Quiet.{over_closed}
use Rattle.lawful_output.proofs.Printed.{plain_text, is_text_of}
use Rattle.lawful_output.proofs.Texts.{IsText, is_text, prn_text}

-- ## How a form ended

by_value : {f : Form} {v : Coded} → ValueOf f → f.value ≡ Some v → f.attempt.end ≡ E.Value
by_value (value_open q n) s = absurd (none-some _ (sym n ∙ s))
by_value (value_gave u q n) s = q
by_value (value_threw q n) s = absurd (none-some _ (sym n ∙ s))
by_value (value_given_up q n) s = absurd (none-some _ (sym n ∙ s))

with_value : {f : Form} → ValueOf f → f.attempt.end ≡ E.Value → (v : Coded) × (f.value ≡ Some v)
with_value (value_open q n) z = absurd cc
with_value (value_gave v q n) z = (v, n)
with_value (value_threw q n) z = absurd cc
with_value (value_given_up q n) z = absurd cc

without_value : {f : Form} {why : Thrown} → ValueOf f → f.attempt.end ≡ E.Error why → f.value ≡ None
without_value (value_open q n) z = n
without_value (value_gave v q n) z = absurd cc
without_value (value_threw q n) z = n
without_value (value_given_up q n) z = n

pub thrown_is_done : (program : Program) (a : Account) (k : ℕ) (t : Top) (why : Thrown) → slice_get program.tops k ≡ Some t → IsNoDef t → HasThrown a k why → IsDoneAt program a k
thrown_is_done program a k t why top none (f, e, q) g at =
    let same : f ≡ g = same_Some f g (sym e ∙ at) in
    form_threw top none (subst (λ (x : Form). x.attempt.end ≡ E.Error why) same q)

pub error_stays : (a b : Account) → Reaches (glimpse a) (glimpse b) → (k : ℕ) (why : Thrown) → HasThrown a k why → HasThrown b k why
error_stays a b r k why (f, e, q) =
    let h = r.forms k f e in
    (h.0, h.1, h.2.attempt.ended (ap is_open q) ∙ q)

values_at : (fs : List Form) (i : ℕ) (f : Form) → slice_get fs i ≡ Some f → slice_get (values_in fs) i ≡ Some (unwrap_or f.value V.Nil)
values_at [] i f e = absurd cc
values_at (g ∷ fs) zero f e = let h : g ≡ f = cc in ap (λ (x : Form). Some (unwrap_or x.value V.Nil)) h
values_at (g ∷ fs) (suc i) f e = values_at fs i f e

pub values_stand : (a b : Account) → AtRest a → Reaches (glimpse a) (glimpse b) → (i : ℕ) → i < length a.forms → IsBefore (glimpse b) (values_in a.forms) i
values_stand a b rest r i h =
    let f = get_within a.forms i h in
    let closed : is_open f.0.attempt.end ≡ false = over_closed (rest.all_over (at_form i) f.0.attempt (on_form f.1 refl)) in
    let g = r.forms i f.0 f.1 in
    let same : g.0.value ≡ f.0.value = g.2.value closed in
    is_before g.0 g.1 (ap is_open (g.2.attempt.ended closed) ∙ closed) (values_at a.forms i f.0 f.1 ∙ ap (λ (o : Option Coded). Some (unwrap_or o V.Nil)) (sym same))

pub before_stays : (a b : Account) → Reaches (glimpse a) (glimpse b) → (outcomes : List Coded) (i : ℕ) → IsBefore (glimpse a) outcomes i → IsBefore (glimpse b) outcomes i
before_stays a b r outcomes i (is_before f e closed q) =
    let g = r.forms i f e in
    let same : g.0.value ≡ f.value = g.2.value closed in
    is_before g.0 g.1 (ap is_open (g.2.attempt.ended closed) ∙ closed) (q ∙ ap (λ (o : Option Coded). Some (unwrap_or o V.Nil)) (sym same))

-- with the value of one more form
one_more_value : (a : Account) (outcomes : List Coded) (f : Form) (v : Coded) → ((i : ℕ) → i < length outcomes → IsBefore (glimpse a) outcomes i) → slice_get a.forms (length outcomes) ≡ Some f → is_open f.attempt.end ≡ false → v ≡ unwrap_or f.value V.Nil → (i : ℕ) → i < suc (length outcomes) → IsBefore (glimpse a) (outcomes ++ v ∷ []) i
one_more_value a outcomes f v all e closed is i h = at (same_or i (length outcomes))
  where
    longer : IsBefore (glimpse a) outcomes i → IsBefore (glimpse a) (outcomes ++ v ∷ []) i
    longer (is_before g p c q) = is_before g p c (get_longer outcomes i v _ q)

    at : (i ≡ length outcomes) ⊎ (i ≢ length outcomes) → IsBefore (glimpse a) (outcomes ++ v ∷ []) i
    at (inl q) = subst (λ j. IsBefore (glimpse a) (outcomes ++ v ∷ []) j) (sym q) (is_before f e closed (get_last outcomes v (length outcomes) refl ∙ ap Some is))
    at (inr n) = longer (all i (omega (arith, h, n)))

-- ## What it gave

-- a value that is like a text is that text
text_like : {R : Likeness ℕ Name} {bytes : List ℕ} {w : Value Name} → Like R (text bytes) w → w ≡ text bytes
text_like like_text = refl

text_back : {R : Likeness ℕ Name} {v : Value ℕ} {bytes : List ℕ} → Like R v (text bytes) → v ≡ text bytes
text_back like_text = refl

not_def : {t : Top} {name : ℕ} {e : Expr} → IsNoDef t → t ≡ def name e → ⊥
not_def defn_none q = cc
not_def prn_none q = cc
not_def ledger_none q = cc

module _ (rules : Rules Name) (program : Program) (limit : ℕ) (a : Account) (law : Lawful rules program limit a) where
  pub given_is_done : (k : ℕ) (v : Coded) → HasGiven a k v → IsDoneAt program a k
  given_is_done k v (f, e, s) g at =
      let same : f ≡ g = same_Some f g (sym e ∙ at) in
      form_gave (subst (λ (x : Form). x.attempt.end ≡ E.Value) same (by_value (law.values k f e) s))

  pub value_stays : (b : Account) → Reaches (glimpse a) (glimpse b) → (k : ℕ) (v : Coded) → HasGiven a k v → HasGiven b k v
  value_stays b r k v (f, e, s) =
      let h = r.forms k f e in
      (h.0, h.1, h.2.value (ap is_open (by_value (law.values k f e) s)) ∙ s)

  pub one_more_before : (outcomes : List Coded) → ((i : ℕ) → i < length outcomes → IsBefore (glimpse a) outcomes i) → ((v : Coded) → HasGiven a (length outcomes) v → (i : ℕ) → i < suc (length outcomes) → IsBefore (glimpse a) (outcomes ++ v ∷ []) i) × ((why : Thrown) → HasThrown a (length outcomes) why → (i : ℕ) → i < suc (length outcomes) → IsBefore (glimpse a) (outcomes ++ V.Nil ∷ []) i)
  one_more_before outcomes all = (
    (λ v h. one_more_value a outcomes h.0 v all h.1 (ap is_open (by_value (law.values (length outcomes) h.0 h.1) h.2)) (ap (λ (o : Option Coded). unwrap_or o V.Nil) (sym h.2))),
    λ why h. one_more_value a outcomes h.0 V.Nil all h.1 (ap is_open h.2) (ap (λ (o : Option Coded). unwrap_or o V.Nil) (sym (without_value (law.values (length outcomes) h.0 h.1) h.2))),
  )

  named_of : (k : ℕ) (v : Coded) {o : Outcome ℕ} {r : Outcome Name} → o ≡ gave (plain v) → Gives rules program limit (form (suc k)) r → LikeOutcome (called rules program limit a own_name) o r → (w : Value Name) × Gives rules program limit (form (suc k)) (gave w) × Like (called rules program limit a own_name) (plain v) w
  named_of k v z g (like_gave {v = x} {w = w} l) = let q : x ≡ plain v = cc in (w, g, subst (λ y. Like (called rules program limit a own_name) y w) q l)
  named_of k v z g like_threw = absurd cc

  named : (k : ℕ) (v : Coded) → HasGiven a k v → (w : Value Name) × Gives rules program limit (form (suc k)) (gave w) × Like (called rules program limit a own_name) (plain v) w
  named k v (f, e, s) = at ((form_gives rules program limit a law k f e).0 v s)
    where
      at : GivesSo rules program limit a own_name (form (suc k)) (gave (plain v)) → (w : Value Name) × Gives rules program limit (form (suc k)) (gave w) × Like (called rules program limit a own_name) (plain v) w
      at (gives_so g l) = named_of k v refl g l

  throws : (k : ℕ) (why : Thrown) → HasThrown a k why → Gives rules program limit (form (suc k)) (threw why)
  throws k why (f, e, q) = (form_gives rules program limit a law k f e).1 why q

  gives_text : (k : ℕ) (bytes : List ℕ) → HasGiven a k (V.Text bytes) → Gives rules program limit (form (suc k)) (gave (text bytes))
  gives_text k bytes h =
      let n = named k (V.Text bytes) h in
      let l : Like (called rules program limit a own_name) (text bytes) n.0 = subst (λ y. Like (called rules program limit a own_name) y n.0) (plain_text bytes) n.2 in
      subst (λ w. Gives rules program limit (form (suc k)) (gave w)) (text_like l) n.1

  -- ## Lines

  pub line_of_text : (k : ℕ) (e : Expr) (bytes : List ℕ) → slice_get program.tops k ≡ Some (prn e) → HasGiven a k (V.Text bytes) → Line rules program limit (suc k) (bytes ++ newline)
  line_of_text k e bytes top h = line_of_prn top (gives_text k bytes h)

  pub line_of_value : (k name : ℕ) (e : Expr) (v : Coded) → slice_get program.tops k ≡ Some (def name e) → HasGiven a k v → Line rules program limit (suc k) []
  line_of_value k name e v top h = line_of_def top (named k v h).1

  pub line_of_thrown_prn : (k : ℕ) (e : Expr) (why : Thrown) → slice_get program.tops k ≡ Some (prn e) → HasThrown a k why → Line rules program limit (suc k) (error_line why)
  line_of_thrown_prn k e why top h = line_of_failed_prn top (throws k why h)

  pub line_of_thrown_def : (k name : ℕ) (e : Expr) (why : Thrown) → slice_get program.tops k ≡ Some (def name e) → HasThrown a k why → Line rules program limit (suc k) (error_line why)
  line_of_thrown_def k name e why top h = line_of_failed_def top (throws k why h)

  -- ## A `def` that throws

  pub def_throws_where : (k name : ℕ) (e : Expr) (why : Thrown) → slice_get program.tops k ≡ Some (def name e) → HasThrown a k why → DefThrows rules program limit (suc k)
  def_throws_where k name e why top h = def_throws refl top (throws k why h)

  gave_and_threw : (k : ℕ) (f : Form) (why : Thrown) → slice_get a.forms k ≡ Some f → f.attempt.end ≡ E.Value → Gives rules program limit (form (suc k)) (threw why) → ⊥
  gave_and_threw k f why e z g =
      let v = with_value (law.values k f e) z in
      let n = named k v.0 (f, e, v.1) in
      let s : gave n.0 ≡ threw why = one_gives rules program limit n.1 g in
      cc

  done_throws : (k i name : ℕ) (e : Expr) (why : Thrown) (f : Form) → k ≡ i → slice_get program.tops i ≡ Some (def name e) → slice_get a.forms k ≡ Some f → FormDone program k f → Gives rules program limit (form (suc k)) (threw why) → ⊥
  done_throws k i name e why f p top at (form_gave z) g = gave_and_threw k f why at z g
  done_throws k i name e why f p top at (form_threw {t = t} other none z) g =
      let here : slice_get program.tops k ≡ Some (def name e) = ap (slice_get program.tops) p ∙ top in
      not_def none (same_Some t (def name e) (sym other ∙ here))

  pub no_def_throws : (k : ℕ) → k < length a.forms → IsDoneAt program a k → ¬ (DefThrows rules program limit (suc k))
  no_def_throws k h done (def_throws {i = i} {name = name} {e = e} {x = why} p top g) =
      let f = get_within a.forms k h in
      let q : k ≡ i = omega (arith, p) in
      done_throws k i name e why f.0 q top f.1 (done f.0 f.1) g

module _ (processors : ℕ) (program : Program) (limit : ℕ) (a : Account) (law : Lawful (language processors) program limit a) where
  text_of : {R : Likeness ℕ Name} (v : Coded) (w : Value Name) → IsText w → Like R (plain v) w → (bytes : List ℕ) × (v ≡ V.Text bytes)
  text_of v w (is_text {bytes = b}) l = (b, is_text_of v b (text_back l))

  pub prn_gives_text : (k : ℕ) (e : Expr) (v : Coded) → slice_get program.tops k ≡ Some (prn e) → HasGiven a k v → (bytes : List ℕ) × (v ≡ V.Text bytes)
  prn_gives_text k e v top h =
      let n = named (language processors) program limit a law k v h in
      text_of v n.0 (prn_text processors program limit k e n.0 top n.1) n.2

-- The laws of a book at rest, put together.
use Rattle.std.proofs.Common.{◌≡◌, ◌≢◌, ℕ, suc, ◌≤◌, length, Some, None, slice_get, true, false, ◌↔◌, refl, sym, ◌∙◌, arith}
use Rattle.std.proofs.lemmas.Option.{none-some}
use Rattle.seq_base.specs.declared.thrown.Thrown.{Thrown}
use Rattle.seq_values.specs.declared.words.Kind.TheVariants.{Future}
use Rattle.seq_values.specs.declared.value.Value.{Value as Coded}
use Rattle.seq_values.specs.Model.{Outcome, gave, threw}
use Rattle.seq_values.specs.Plain.{plain}
use Rattle.clj_script.specs.Trees.{Program}
use Rattle.seq_plan.specs.Plan.{Rules}
use Rattle.seq_plan.specs.Alike.{like_threw}
use Rattle.cell_book.specs.declared.cell.State.TheVariants as S
use Rattle.cell_book.specs.declared.cell.ClaimEnd.{ClaimEnd}
use Rattle.cell_book.specs.declared.cell.ClaimEnd.TheVariants as E
use Rattle.cell_book.specs.declared.cell.Attempt.{Attempt}
use Rattle.cell_book.specs.declared.cell.Cell.{Cell}
use Rattle.cell_book.specs.declared.cell.Form.{Form}
use Rattle.cell_book.specs.Account.{Account, cell_at, is_open}
use Rattle.seq_meaning.specs.Counts.{Demand, MadeBy, Realised, Failed, FormsFit}
use Rattle.seq_meaning.specs.Gives.{Gives}
use Rattle.seq_meaning.specs.Names.{Name, form, part}
use Rattle.seq_lawful.specs.Sites.{Mode, own_name, Site, at_form, ClaimAt, on_form, Ended, ended_threw, ended_form, ValueOf, value_open, value_gave, value_threw, value_given_up}
use Rattle.seq_lawful.specs.Lawful.{CellName, cell_name, ClaimName, form_name, GivesSo, gives_so, Lawful}
use Rattle.seq_lawful.specs.Rest.{IsOver, over_value, over_error, AtRest, HasCell, HasDone, HasFailed}
use Rattle.seq_lawful.specs.Runs.{in_value, in_failed}
use Rattle.seq_lawful.proofs.Looking.{tells}
use Rattle.seq_lawful.proofs.Named.{gives_of, founded_of}
use Rattle.seq_lawful.proofs.Names.{one_cell, one_claim}
use Rattle.seq_lawful.proofs.RestNames.{own, ended_so}
use Rattle.seq_lawful.proofs.Sizes.{at_most}
use Rattle.seq_lawful.proofs.Counted.{made_size}
use Rattle.seq_lawful.proofs.Resting.{cells_made, made_all, done_are, realised_all, failed_all, all_failed}

module _ (rules : Rules Name) (program : Program) (limit : ℕ) (a : Account) (law : Lawful rules program limit a) where
  pub rests : ((s : Site) (x : Attempt) → ClaimAt a s x → is_open x.end ≡ false) → ((id : ℕ) (p : Cell) → cell_at a id ≡ Some p → p.kind ≡ Future → p.state ≢ S.Empty) → a.spent ≡ false → a.gave_up ≡ false → AtRest a
  rests closed futures spent gave_up = record { all_over = λ s x at. go s x at x.end refl (closed s x at); no_empty_future = futures; not_spent = spent }
    where
      go : (s : Site) (x : Attempt) → ClaimAt a s x → (end : ClaimEnd) → x.end ≡ end → is_open x.end ≡ false → IsOver x.end
      go s x at E.Open q h = absurd cc
      go s x at E.Value q h = rw q over_value
      go s x at (E.Error why) q h = rw q over_error
      go s x at E.GivenUp q h = let z = law.noted s x at q in absurd cc

  pub one_own_name : ((id : ℕ) (n m : Name) → CellName rules program limit a own_name id n → CellName rules program limit a own_name id m → n ≡ m) × ((c : ℕ) (n m : Name) → ClaimName rules program limit a own_name c n → ClaimName rules program limit a own_name c m → n ≡ m)
  one_own_name = ((λ id n m p q. one_cell rules program limit a law p q), (λ c n m p q. one_claim rules program limit a law p q))

  pub ended_gives : (mode : Mode) (s : Site) (x : Attempt) (o : Outcome ℕ) (e : Name) → ClaimAt a s x → Ended a s x o → ClaimName rules program limit a mode x.claim e → GivesSo rules program limit a mode e o
  ended_gives mode s x o e at q m = let r = gives_of rules program limit a (law.ended mode s x o e at q m) in gives_so r.1 r.2

  pub cell_gives : (mode : Mode) (id : ℕ) (p : Cell) (n : Name) → cell_at a id ≡ Some p → CellName rules program limit a mode id n → ((v : Coded) → p.state ≡ S.Done v → GivesSo rules program limit a mode n (gave (plain v))) × ((why : Thrown) → p.state ≡ S.Failed why → GivesSo rules program limit a mode n (threw why))
  cell_gives mode id p n e m = ((λ v s. (tells rules program limit a law mode {claim = 0} (in_value p e s) m).0), (λ why s. (tells rules program limit a law mode {claim = 0} (in_failed p e s) m).0))

  module _ (rest : AtRest a) where
    cell_has : (id : ℕ) (p : Cell) → cell_at a id ≡ Some p → (n : Name) × CellName rules program limit a own_name id n
    cell_has id p e = let r = own rules program limit a law rest (law.makers id p e) in (part r.name p.ordinal, cell_name e r.is_name)

    claim_has : (s : Site) (x : Attempt) → ClaimAt a s x → (e : Name) × ClaimName rules program limit a own_name x.claim e × Demand rules program limit (length a.forms) e
    claim_has s x at = let r = own rules program limit a law rest (founded_of rules program limit a law at) in (r.name, r.is_name, r.demand)

    pub named : ((id : ℕ) (p : Cell) → cell_at a id ≡ Some p → (n : Name) × CellName rules program limit a own_name id n) × ((s : Site) (x : Attempt) → ClaimAt a s x → (e : Name) × ClaimName rules program limit a own_name x.claim e × Demand rules program limit (length a.forms) e)
    named = (cell_has, claim_has)

    pub names : (n : Name) → (HasCell rules program limit a n ↔ MadeBy rules program limit (length a.forms) n) × (HasDone rules program limit a n ↔ Realised rules program limit (length a.forms) n) × (HasFailed rules program limit a n ↔ Failed rules program limit (length a.forms) n)
    names n = ((cells_made rules program limit a law rest, made_all rules program limit a law rest), (done_are rules program limit a law rest, realised_all rules program limit a law rest), (failed_all rules program limit a law rest, all_failed rules program limit a law rest))

    pub gives_there : (s : Site) (x : Attempt) → ClaimAt a s x → (o : Outcome ℕ) × (e : Name) × Ended a s x o × ClaimName rules program limit a own_name x.claim e × GivesSo rules program limit a own_name e o
    gives_there s x at =
        let z = ended_so rules program limit a law at (rest.all_over s x at) in
        let r = claim_has s x at in
        (z.0, r.0, z.1, r.1, ended_gives own_name s x z.0 r.0 at z.1 r.1)

  -- a form's claim has the form's name
  form_claim : {k : ℕ} {f : Form} → slice_get a.forms k ≡ Some f → ClaimName rules program limit a own_name f.attempt.claim (form (suc k))
  form_claim at = form_name at refl

  threw_so : {e : Name} {why : Thrown} → GivesSo rules program limit a own_name e (threw why) → Gives rules program limit e (threw why)
  threw_so (gives_so g like_threw) = g

  value_ended : {f : Form} {v : Coded} → ValueOf f → f.value ≡ Some v → f.attempt.end ≡ E.Value
  value_ended (value_open q n) s = absurd (none-some _ (sym n ∙ s))
  value_ended (value_gave u q n) s = q
  value_ended (value_threw q n) s = absurd (none-some _ (sym n ∙ s))
  value_ended (value_given_up q n) s = absurd (none-some _ (sym n ∙ s))

  pub form_gives : (k : ℕ) (f : Form) → slice_get a.forms k ≡ Some f → ((v : Coded) → f.value ≡ Some v → GivesSo rules program limit a own_name (form (suc k)) (gave (plain v))) × ((why : Thrown) → f.attempt.end ≡ E.Error why → Gives rules program limit (form (suc k)) (threw why))
  form_gives k f at = (
    (λ v s. ended_gives own_name (at_form k) f.attempt (gave (plain v)) (form (suc k)) (on_form at refl) (ended_form f (value_ended (law.values k f at) s) at s) (form_claim at)),
    λ why s. threw_so (ended_gives own_name (at_form k) f.attempt (threw why) (form (suc k)) (on_form at refl) (ended_threw s) (form_claim at)),
  )

  fits_at_rest : AtRest a → FormsFit rules program limit a.limit (length a.forms)
  fits_at_rest rest = λ xs d f. (let n : length xs ≤ length a.cells = at_most (made_size rules program limit a law rest) xs d f in let w = law.within in omega arith)

  pub spent_is_over : (a.spent ≡ true → ¬ (FormsFit rules program limit a.limit (length a.forms))) × (AtRest a → FormsFit rules program limit a.limit (length a.forms))
  spent_is_over = (law.spent_over, fits_at_rest)

-- What a make is to its work and to the others, how a form's work begins, and the value of a work that finished.
use Rattle.std.proofs.Common.{◌≡◌, ◌≢◌, ℕ, suc, ◌<◌, Bool, true, List, [], ◌∷◌, Some, None, slice_get, Ok, Err, refl, ap, sym, subst, ◌∙◌}
use Rattle.std.specs.Prelude.{IsTrue, IfOk, IfErr, unwrap_or}
use Rattle.seq_values.specs.declared.words.Kind.{Kind}
use Rattle.seq_values.specs.declared.term.Term.{Term as CodedTerm}
use Rattle.seq_values.specs.declared.value.Value.{Value as Coded}
use Rattle.seq_values.specs.declared.value.Value.TheVariants.{Nil}
use Rattle.seq_values.specs.Plain.{plain_term}
use Rattle.seq_values.specs.WellFormed.{is_well_formed, are_well_formed}
use Rattle.seq_values.proofs.DepthLemmas.{both}
use Rattle.cell_book.specs.declared.cell.State.TheVariants as S
use Rattle.cell_book.specs.declared.cell.ClaimEnd.TheVariants as E
use Rattle.cell_book.specs.declared.cell.Form.{Form}
use Rattle.cell_book.specs.declared.work.Place.{Place}
use Rattle.cell_book.specs.declared.work.Place.TheVariants as P
use Rattle.cell_book.specs.Account.{Account, Duty, closed}
use Rattle.cell_book.specs.Steps.{begun_form, values_in, Begins, BeginAnswer, Makes, MakeAnswer, Finishes}
use Rattle.cell_book.specs.Glimpses.{Glimpse, Holds, Fits, Sees, SeesCell, SeesPlace, after_open}
use Rattle.cell_book.proofs.Lists.{set_here}
use Rattle.cell_book.proofs.Laws.{opened_held, new_claim, still_held}
use Rattle.cell_book.proofs.Moves.{begins_onward, makes_onward, makes_holds, refused_own, ends_shown}
use Rattle.seq_lawful.proofs.Going.{on_makes}
use Rattle.seq_lawful.proofs.Begun.{on_begun_seen}
use Rattle.lawful_works.specs.Proper.{IsProper}
use Rattle.lawful_works.specs.Basis.{StaysOn}
use Rattle.lawful_works.specs.Calls.{Made, FormOpened, HasValue}
use Rattle.lawful_works.proofs.Works.{value_well}
use Rattle.lawful_works.proofs.Asking.{holds_over, stays_over}

pub still_same : (mine mine2 : ℕ → ℕ) (c : ℕ) → ((x : ℕ) → mine2 x ≡ mine x) → 0 < mine c → 0 < mine2 c
still_same mine mine2 c held own = subst (λ n. 0 < n) (sym (held c)) own

values_well : (fs : List Form) → ((k : ℕ) (f : Form) (v : Coded) → slice_get fs k ≡ Some f → f.value ≡ Some v → IsTrue (is_well_formed v)) → IsTrue (are_well_formed (values_in fs))
values_well [] s = refl
values_well (f ∷ fs) s = both (is_well_formed (unwrap_or f.value Nil)) (are_well_formed (values_in fs)) (value_well f.value (λ v e. s 0 f v refl e)) (values_well fs (λ k g v e q. s (suc k) g v e q))

-- one step, as it was seen
module _ (alone leads : Bool) (law noted : Account → Type 0) (g h : Glimpse) (mine mine2 : ℕ → ℕ) (a b : Account) (fits : Fits alone leads law noted g mine a) (sees : Sees leads mine2 g b h) where
  -- the maker
  pub makes_on : (w : Duty) (kind : Kind) (t : CodedTerm) (answer : MakeAnswer) → 0 < mine w.claim → ((x : ℕ) → mine2 x ≡ mine x) → Makes a w t kind answer b → IfOk answer (λ id. SeesCell id b h) → IfOk answer (λ id. Made g h w kind (plain_term t) id)
  makes_on w kind t (Ok id) own held s cell = λ y left k r. on_makes y.rules y.program y.limit alone leads law noted g h mine mine2 a b fits sees w own (still_same mine mine2 w.claim held own) left id kind t k r s cell
  makes_on w kind t (Err e) own held s cell = tt

  pub makes_not : (w : Duty) (kind : Kind) (t : CodedTerm) (answer : MakeAnswer) → 0 < mine w.claim → ((x : ℕ) → mine2 x ≡ mine x) → Makes a w t kind answer b → IfErr answer (λ _. StaysOn g h w)
  makes_not w kind t (Ok id) own held s = tt
  makes_not w kind t (Err r) own held s = stays_over alone leads law noted g h mine mine2 a b fits sees w own (still_same mine mine2 w.claim held own) (refused_own a b w t kind r w.claim s)

  pub others_make : (w : Duty) (kind : Kind) (t : CodedTerm) (answer : MakeAnswer) → ((x : ℕ) → mine2 x ≡ mine x) → Makes a w t kind answer b → (u : Duty) → 0 < mine u.claim → u.claim ≢ w.claim → StaysOn g h u
  others_make w kind t answer held s u own n = stays_over alone leads law noted g h mine mine2 a b fits sees u own (still_same mine mine2 u.claim held own) (makes_onward a b w t kind answer u.claim s n)

  pub holds_make : (w : Duty) (kind : Kind) (t : CodedTerm) (answer : MakeAnswer) → ((x : ℕ) → mine2 x ≡ mine x) → Makes a w t kind answer b → (c : ℕ) → 0 < mine c → Holds c g h
  holds_make w kind t answer held s c own = holds_over alone leads law noted g h mine mine2 a b fits sees c own (still_same mine mine2 c held own) (makes_holds a b w t kind answer c s)

  -- the work of a form
  pub opens_form : (number : ℕ) (answer : BeginAnswer) → IsProper a → leads ≡ true → ((x : ℕ) → mine2 x ≡ after_open mine answer x) → Begins a number answer b → IfOk answer (λ w. SeesPlace w.place b h) → IfOk answer (λ w. FormOpened g h w)
  opens_form number (Err e) s lead held q place = tt
  opens_form number (Ok w) s lead held q place = record {
    kept = subst (λ l. IsTrue (are_well_formed l)) (sym q.1) (values_well a.forms s.given);
    starts = λ y t top done. on_begun_seen y.rules y.program y.limit a b number w q alone leads law noted g h mine mine2 fits lead sees (opened_held mine mine2 w (held w.claim)) place t top done;
  }

  pub others_begin : (number : ℕ) (answer : BeginAnswer) → IfOk answer (λ w. mine w.claim ≡ 0) → ((x : ℕ) → mine2 x ≡ after_open mine answer x) → Begins a number answer b → (u : Duty) → 0 < mine u.claim → StaysOn g h u
  others_begin number (Ok w) fresh held s u own = stays_over alone leads law noted g h mine mine2 a b fits sees u own (still_held mine mine2 w u.claim (held u.claim) own) (begins_onward a b number (Ok w) u.claim s (new_claim mine w u.claim fresh own))
  others_begin number (Err e) fresh held s u own = stays_over alone leads law noted g h mine mine2 a b fits sees u own (subst (λ n. 0 < n) (sym (held u.claim)) own) (begins_onward a b number (Err e) u.claim s tt)

-- the value stands in the form or in the part
pub has_value : (a b : Account) (h : Glimpse) (w : Duty) (v : Coded) → Finishes a w v b → SeesPlace w.place b h → HasValue h w v
has_value a b h w v s place = go w.place refl
  where
    go : (x : Place) → w.place ≡ x → HasValue h w v
    go (P.Part id kind term) e =
        let q = ends_shown a b w E.Value (λ _. S.Done v) (Some v) id kind term e s in
        subst (λ x. HasValue h (record w { place = x }) v) (sym e) (q.0, subst (λ x. SeesPlace x b h) e place ∙ q.1, q.2.1)
    go (P.Form number k) e =
        let q = subst (λ x. Finishes a (record w { place = x }) v b) e s in
        let f : Form = record { number = number; attempt = closed w.claim None E.Value; value = Some v } in
        subst (λ x. HasValue h (record w { place = x }) v) (sym e) (f, subst (λ x. SeesPlace x b h) e place ∙ (ap (λ (z : Account). slice_get z.forms k) q.1 ∙ set_here a.forms k (begun_form number w.claim) f q.0), refl)

-- Each step leaves what a book holds well formed.
use Rattle.std.proofs.Common.{◌≡◌, ◌≢◌, ◌⊎◌, inl, inr, ℕ, zero, suc, [], ◌∷◌, ◌++◌, length, Option, Some, None, slice_get, Ok, Err, ap, sym, subst, ◌∙◌, true}
use Rattle.std.specs.Prelude.{IsTrue}
use Rattle.seq_base.specs.declared.thrown.Thrown.{Thrown}
use Rattle.seq_values.specs.declared.words.Kind.{Kind}
use Rattle.seq_values.specs.declared.words.Kind.TheVariants.{Lazy, Future}
use Rattle.seq_values.specs.declared.term.Term.{Term}
use Rattle.seq_values.specs.declared.value.Value.{Value}
use Rattle.seq_values.specs.WellFormed.{is_well_formed, are_well_formed}
use Rattle.seq_values.specs.WellFormedTerms.{is_well_formed_term}
use Rattle.cell_book.specs.declared.answers.MakeRefusal.TheVariants as M
use Rattle.cell_book.specs.declared.cell.State.{State}
use Rattle.cell_book.specs.declared.cell.State.TheVariants as S
use Rattle.cell_book.specs.declared.cell.ClaimEnd.{ClaimEnd}
use Rattle.cell_book.specs.declared.cell.ClaimEnd.TheVariants as E
use Rattle.cell_book.specs.declared.cell.Cell.{Cell}
use Rattle.cell_book.specs.declared.cell.Form.{Form}
use Rattle.cell_book.specs.declared.work.Place.{Place}
use Rattle.cell_book.specs.declared.work.Place.TheVariants as P
use Rattle.cell_book.specs.Account.{Account, Duty, cell_at, closed}
use Rattle.cell_book.specs.Steps.{with_cell, with_form, begun_form, new_cell, claimed, after_claim, failed_state, Begins, BeginAnswer, Makes, MakeAnswer, Claims, ClaimAnswer, Ends, Finishes, Fails, GivesUp}
use Rattle.cell_book.proofs.Lists.{get_set, get_snoc}
use Rattle.lawful_works.specs.Proper.{IsProper}

-- a cell of the book, or the last one
new_or_old : (a : Account) (q : Cell) (id : ℕ) (p : Cell) → cell_at (record a { cells = a.cells ++ q ∷ [] }) id ≡ Some p → (q ≡ p) ⊎ (cell_at a id ≡ Some p)
new_or_old a q zero p e = absurd cc
new_or_old a q (suc i) p e = go (get_snoc a.cells i q p e)
  where
    go : ((i ≡ length a.cells) × (q ≡ p)) ⊎ (slice_get a.cells i ≡ Some p) → (q ≡ p) ⊎ (slice_get a.cells i ≡ Some p)
    go (inl t) = inl t.1
    go (inr t) = inr t

-- a cell of the book, or the one that was written over
put_or_old : (a : Account) (id : ℕ) (q : Cell) (j : ℕ) (p : Cell) → cell_at (with_cell a id q) j ≡ Some p → (q ≡ p) ⊎ (cell_at a j ≡ Some p)
put_or_old a id q zero p e = absurd cc
put_or_old a zero q (suc j) p e = inr e
put_or_old a (suc i) q (suc j) p e = go (get_set a.cells i j q p e)
  where
    go : ((j ≡ i) × (q ≡ p)) ⊎ ((j ≢ i) × (slice_get a.cells j ≡ Some p)) → (q ≡ p) ⊎ (slice_get a.cells j ≡ Some p)
    go (inl t) = inl t.1
    go (inr t) = inr t.1

-- a cell that may stand in such a book
record IsProperCell (p : Cell) : Type 0 where
  pub term : IsTrue (is_well_formed_term p.term)
  pub kept : IsTrue (are_well_formed p.outcomes)
  pub done : (v : Value) → p.state ≡ S.Done v → IsTrue (is_well_formed v)

cell_of : (a : Account) → IsProper a → (id : ℕ) (p : Cell) → cell_at a id ≡ Some p → IsProperCell p
cell_of a s id p e = record { term = s.terms id p e; kept = s.kept id p e; done = λ v q. s.done id p v e q }

of_cells : (a : Account) → ((id : ℕ) (p : Cell) → cell_at a id ≡ Some p → IsProperCell p) → ((k : ℕ) (f : Form) (v : Value) → slice_get a.forms k ≡ Some f → f.value ≡ Some v → IsTrue (is_well_formed v)) → IsProper a
of_cells a cells forms = record {
  terms = λ id p e. (cells id p e).term;
  kept = λ id p e. (cells id p e).kept;
  done = λ id p v e q. (cells id p e).done v q;
  given = forms;
}

same_or_old : {q p : Cell} {old : Type 0} → IsProperCell q → (old → IsProperCell p) → (q ≡ p) ⊎ old → IsProperCell p
same_or_old new old (inl e) = subst IsProperCell e new
same_or_old new old (inr e) = old e

made_more : (a : Account) (q : Cell) → IsProper a → IsProperCell q → IsProper (record a { cells = a.cells ++ q ∷ [] })
made_more a q s c = of_cells (record a { cells = a.cells ++ q ∷ [] }) (λ id p e. same_or_old c (λ o. cell_of a s id p o) (new_or_old a q id p e)) s.given

put_over : (a : Account) (id : ℕ) (q : Cell) → IsProper a → IsProperCell q → IsProper (with_cell a id q)
put_over a id q s c = of_cells (with_cell a id q) (λ j p e. same_or_old c (λ o. cell_of a s j p o) (put_or_old a id q j p e)) s.given

noted : (a : Account) → IsProper a → IsProper (record a { spent = true })
noted a s = record { terms = s.terms; kept = s.kept; done = s.done; given = s.given }

noted_up : (a : Account) → IsProper a → IsProper (record a { gave_up = true })
noted_up a s = record { terms = s.terms; kept = s.kept; done = s.done; given = s.given }

-- the form with this value
form_more : (a : Account) (number claim : ℕ) → IsProper a → IsProper (record a { forms = a.forms ++ begun_form number claim ∷ [] })
form_more a number claim s = record { terms = s.terms; kept = s.kept; done = s.done; given = λ k f v e q. go k f v q (get_snoc a.forms k (begun_form number claim) f e) }
  where
    go : (k : ℕ) (f : Form) (v : Value) → f.value ≡ Some v → ((k ≡ length a.forms) × (begun_form number claim ≡ f)) ⊎ (slice_get a.forms k ≡ Some f) → IsTrue (is_well_formed v)
    go k f v q (inl t) = let z : None ≡ Some v = ap (λ (x : Form). x.value) t.1 ∙ q in absurd cc
    go k f v q (inr t) = s.given k f v t q

form_over : (a : Account) (k : ℕ) (g : Form) → IsProper a → ((v : Value) → g.value ≡ Some v → IsTrue (is_well_formed v)) → IsProper (with_form a k g)
form_over a k g s new = record { terms = s.terms; kept = s.kept; done = s.done; given = λ j f v e q. go j f v q (get_set a.forms k j g f e) }
  where
    go : (j : ℕ) (f : Form) (v : Value) → f.value ≡ Some v → ((j ≡ k) × (g ≡ f)) ⊎ ((j ≢ k) × (slice_get a.forms j ≡ Some f)) → IsTrue (is_well_formed v)
    go j f v q (inl t) = new v (ap (λ (x : Form). x.value) t.1 ∙ q)
    go j f v q (inr t) = s.given j f v t.1 q

pub proper_begins : (a b : Account) (number : ℕ) (answer : BeginAnswer) → IsProper a → Begins a number answer b → IsProper b
proper_begins a b number (Ok w) s (pl, oc, fresh, eq) = subst IsProper (sym eq) (form_more a number w.claim s)
proper_begins a b number (Err e) s eq = subst IsProper (sym eq) s

pub proper_makes : (a b : Account) (w : Duty) (t : Term) (kind : Kind) (answer : MakeAnswer) → IsProper a → IsTrue (is_well_formed_term t) → IsTrue (are_well_formed w.outcomes) → Makes a w t kind answer b → IsProper b
proper_makes a b w t kind (Ok id) s well kept (i, room, eq) = subst IsProper (sym eq) (made_more a (new_cell a w t kind) s (record { term = well; kept = kept; done = λ v e. absurd cc }))
proper_makes a b w t kind (Err (M.Spent back)) s well kept (i, full, eq) = subst IsProper (sym eq) (noted a s)
proper_makes a b w t kind (Err (M.Memory back)) s well kept (i, eq) = subst IsProper (sym eq) s

pub proper_claims : (a b : Account) (id : ℕ) (asker : Option ℕ) (answer : ClaimAnswer) → IsProper a → Claims a id asker answer b → IsProper b
proper_claims a b id asker (Ok w) s (bar, (p, at, empty, fresh, pl, oc, eq)) = subst IsProper (sym eq) (put_over a id (claimed p w.claim asker) s (record { term = s.terms id p at; kept = s.kept id p at; done = λ v e. absurd cc }))
proper_claims a b id asker (Err r) s (eq, o) = subst IsProper (sym eq) s

-- the end of a claim, where the value that it leaves is well formed
proper_ends : (a b : Account) (w : Duty) (end : ClaimEnd) (state : Kind → State) (value : Option Value) → IsProper a → ((k : Kind) (v : Value) → state k ≡ S.Done v → IsTrue (is_well_formed v)) → ((v : Value) → value ≡ Some v → IsTrue (is_well_formed v)) → Ends a w end state value b → IsProper b
proper_ends a b w end state value s done given h = at w.place h
  where
    at : (x : Place) → Ends a (record { place = x; claim = w.claim; outcomes = w.outcomes }) end state value b → IsProper b
    at (P.Form number k) (e, is) = subst IsProper (sym is) (form_over a k (record { number = number; attempt = closed w.claim None end; value = value }) s given)
    at (P.Part id kind term) (p, asker, past, e, o, is) = subst IsProper (sym is) (put_over a id (after_claim p w.claim asker past end (state p.kind)) s (record { term = s.terms id p e; kept = s.kept id p e; done = λ v q. done p.kind v q }))

pub proper_finishes : (a b : Account) (w : Duty) (u : Value) → IsProper a → IsTrue (is_well_formed u) → Finishes a w u b → IsProper b
proper_finishes a b w u s well h = proper_ends a b w E.Value (λ _. S.Done u) (Some u) s (λ k v e. (let z : u ≡ v = cc in subst (λ x. IsTrue (is_well_formed x)) z well)) (λ v e. (let z : u ≡ v = cc in subst (λ x. IsTrue (is_well_formed x)) z well)) h

no_value : (why : Thrown) (k : Kind) (v : Value) → failed_state why k ≡ S.Done v → IsTrue (is_well_formed v)
no_value why Lazy v e = absurd cc
no_value why Future v e = absurd cc

pub proper_fails : (a b : Account) (w : Duty) (why : Thrown) → IsProper a → Fails a w why b → IsProper b
proper_fails a b w why s h = proper_ends a b w (E.Error why) (failed_state why) None s (no_value why) (λ v e. absurd cc) h

pub proper_gives_up : (a b : Account) (w : Duty) → IsProper a → GivesUp a w b → IsProper b
proper_gives_up a b w s (m, h, e) = subst IsProper (sym e) (noted_up m (proper_ends a m w E.GivenUp (λ _. S.Empty) None s (λ k v q. absurd cc) (λ v q. absurd cc) h))

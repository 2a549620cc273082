-- The calls of a book in terms of what they read and write.
use Rattle.std.proofs.Common.{◌≡◌, ◌≢◌, ℕ, zero, suc, ◌+◌, ◌<◌, ◌≤◌, Bool, false, List, [], ◌∷◌, ◌++◌, length, get_or, Some, None, Option, refl, ap, sym, subst, ◌∙◌, arith, ◌⊎◌}
use Rattle.std.specs.Prelude.{slice_get, slice_set}
use Rattle.std.proofs.lemmas.Option.{none-some, same_Some, slice_get_within, slice_get_read}
use Rattle.seq_values.specs.declared.value.Value.{Value}
use Rattle.seq_values.specs.declared.term.Term.{Term}
use Rattle.seq_values.specs.declared.words.Kind.{Kind}
use Rattle.cell_book.specs.declared.answers.Look.TheVariants as L
use Rattle.cell_book.specs.declared.cell.State.{State}
use Rattle.cell_book.specs.declared.cell.State.TheVariants as S
use Rattle.cell_book.specs.declared.cell.ClaimEnd.{ClaimEnd}
use Rattle.cell_book.specs.declared.cell.Attempt.{Attempt}
use Rattle.cell_book.specs.declared.cell.Cell.{Cell}
use Rattle.cell_book.specs.declared.cell.Form.{Form}
use Rattle.cell_book.specs.declared.work.Place.{Place}
use Rattle.cell_book.specs.declared.work.Place.TheVariants as P
use Rattle.cell_book.specs.Account.{Account, Duty, cell_at, closed, is_open, forces, made_by, IsFresh}
use Rattle.cell_book.specs.Steps.{renumbered, with_cell, with_form, begun_form, new_cell, claimed, after_claim, shown, cell_counts, form_counts, HasCount, HasOpen, IsOpenIn, IsOpenAsker, asker_of, EndsForm}
use Rattle.cell_book.specs.Kept.{CountsMakes}
use Rattle.cell_book.proofs.Lists.{length_push}
use Rattle.cell_book.proofs.Keeping.{made_most, open_named}

pub made_within : (a : Account) (claim : ℕ) → length (made_by claim a) ≤ length a.cells
made_within a claim = made_most claim a.cells 1

-- a cell by its place
pub at_place : (a : Account) (id i : ℕ) (p : Cell) → i + 1 ≡ id → cell_at a id ≡ Some p → slice_get a.cells i ≡ Some p
at_place a id i p e at =
    let s : id ≡ suc i = omega arith in subst (λ n. cell_at a n ≡ Some p) s at

pub read_at : {X : Type 0} (xs : List X) (i : ℕ) (x : X) → i < length xs → x ≡ get_or xs i x → slice_get xs i ≡ Some x
read_at xs i x h e = slice_get_read xs (length xs) i x refl h e

-- the count of an open work on a part
pub part_makes : (a : Account) (cm fm : List ℕ) (w : Duty) (id i n : ℕ) (kind : Kind) (term : Term) → CountsMakes a cm fm → IsOpenIn a w → w.place ≡ P.Part id kind term → i + 1 ≡ id → n ≡ get_or cm i n → n ≡ length (made_by w.claim a)
part_makes a cm fm w id i n kind term m o e s g = at (subst (λ (x : Place). IsOpenIn a (record { place = x; claim = w.claim; outcomes = w.outcomes })) e o)
  where
    at : IsOpenIn a (record { place = P.Part id kind term; claim = w.claim; outcomes = w.outcomes }) → n ≡ length (made_by w.claim a)
    at (p, asker, past, f, h) =
        let c = at_place a id i p s f in
        let l = slice_get_within a.cells i p c in
        let k = m.cells_long in
        m.of_cells i w.claim n p c h.state (read_at cm i n (omega arith) g)

pub open_counted : (a : Account) (cm fm : List ℕ) (w : Duty) → CountsMakes a cm fm → IsOpenIn a w → HasCount w.place (cm ++ 0 ∷ []) fm
open_counted a cm fm w m o = at w.place o
  where
    at : (x : Place) → IsOpenIn a (record { place = x; claim = w.claim; outcomes = w.outcomes }) → HasCount x (cm ++ 0 ∷ []) fm
    at (P.Form number k) e = let l = slice_get_within a.forms k (begun_form number w.claim) e in let s = m.forms_long in omega arith
    at (P.Part zero kind term) (p, asker, past, f, h) = absurd (none-some p f)
    at (P.Part (suc i) kind term) (p, asker, past, f, h) =
        let l = slice_get_within a.cells i p f in
        let s = m.cells_long in
        let k = length_push cm 0 in omega arith

-- the empty cell that is read
pub is_empty_at : (a : Account) (id i : ℕ) (p : Cell) → i + 1 ≡ id → slice_get a.cells i ≡ Some p → shown (cell_at a id) ≡ L.Empty → (cell_at a id ≡ Some p) × (p.state ≡ S.Empty)
is_empty_at a id i p e g s =
    let h : id ≡ suc i = omega arith in
    let at : cell_at a id ≡ Some p = subst (λ n. cell_at a n ≡ Some p) (sym h) g in (at, state p.state (ap shown (sym at) ∙ s))
  where
    state : (x : State) → Rattle.cell_book.specs.Steps.shown_state x ≡ L.Empty → x ≡ S.Empty
    state S.Empty z = refl
    state (S.Forcing c) z = absurd cc
    state (S.Done v) z = absurd cc
    state (S.Failed w) z = absurd cc

pub empty_within : (a : Account) (id i : ℕ) → i + 1 ≡ id → shown (cell_at a id) ≡ L.Empty → i < length a.cells
empty_within a id i e s =
    let h : id ≡ suc i = omega arith in at (slice_get a.cells i) refl (subst (λ n. shown (cell_at a n) ≡ L.Empty) h s)
  where
    at : (o : Option Cell) → slice_get a.cells i ≡ o → shown o ≡ L.Empty → i < length a.cells
    at None g z = absurd cc
    at (Some p) g z = slice_get_within a.cells i p g

pub set_place : (a : Account) (id i : ℕ) (q : Cell) → i + 1 ≡ id → record a { cells = slice_set a.cells i q } ≡ with_cell a id q
set_place a id i q e = let h : id ≡ suc i = omega arith in subst (λ n. record a { cells = slice_set a.cells i q } ≡ with_cell a n q) (sym h) refl

-- an asker is named
pub asker_named : (a : Account) (by : Option Duty) (c : ℕ) → IsOpenAsker a by → IsFresh a c → asker_of by ≢ Some c
asker_named a None c o f = λ e. none-some c e
asker_named a (Some w) c o f = λ e. open_named a w c o f (same_Some w.claim c e)

-- the cell after its claim was ended in place
pub end_is : (a : Account) (id i claim : ℕ) (asker : Option ℕ) (past : List Attempt) (end : ClaimEnd) (state : State) (p old new : Cell) → i + 1 ≡ id → old ≡ get_or a.cells i old → ((c : ℕ) (asker : Option ℕ) (past : List Attempt) → HasOpen old c asker past → new ≡ after_claim old c asker past end state) →
    cell_at a id ≡ Some p → HasOpen p claim asker past → new ≡ after_claim p claim asker past end state
end_is a id i claim asker past end state p old new e g writes at h =
    let c = at_place a id i p e at in
    let l = slice_get_within a.cells i p c in
    let same : p ≡ old = same_Some p old (sym c ∙ read_at a.cells i old l g) in
    writes claim asker past (subst (λ (x : Cell). HasOpen x claim asker past) same h) ∙ ap (λ (x : Cell). after_claim x claim asker past end state) (sym same)

pub end_returns : (a : Account) (id i claim : ℕ) (asker : Option ℕ) (past : List Attempt) (end : ClaimEnd) (state : State) (p old new : Cell) → i + 1 ≡ id → old ≡ get_or a.cells i old → ((c : ℕ) (asker : Option ℕ) (past : List Attempt) → HasOpen old c asker past → new ≡ after_claim old c asker past end state) →
    cell_at a id ≡ Some p → HasOpen p claim asker past → record a { cells = slice_set a.cells i new } ≡ with_cell a id (after_claim p claim asker past end state)
end_returns a id i claim asker past end state p old new e g writes at h =
    ap (λ (x : Cell). record a { cells = slice_set a.cells i x }) (end_is a id i claim asker past end state p old new e g writes at h) ∙ set_place a id i (after_claim p claim asker past end state) e

pub form_is : (a : Account) (k number claim : ℕ) (end : ClaimEnd) (value : Option Value) (old new : Form) → slice_get a.forms k ≡ Some (begun_form number claim) → old ≡ get_or a.forms k old → new ≡ record old { attempt = record old.attempt { end = end }; value = value } → new ≡ record { number = number; attempt = closed claim None end; value = value }
form_is a k number claim end value old new at g w =
    let l = slice_get_within a.forms k (begun_form number claim) at in
    let same : begun_form number claim ≡ old = same_Some (begun_form number claim) old (sym at ∙ read_at a.forms k old l g) in
    w ∙ ap (λ (x : Form). record x { attempt = record x.attempt { end = end }; value = value }) (sym same)

-- the place of a cell that is forced
pub forced_within : (a : Account) (id i claim : ℕ) → i + 1 ≡ id → ((p : Cell) × (asker : Option ℕ) × (past : List Attempt) × (cell_at a id ≡ Some p) × HasOpen p claim asker past) → i < length a.cells
forced_within a id i claim e (p, asker, past, at, h) = slice_get_within a.cells i p (at_place a id i p e at)

-- Each step on a book keeps the law of sevens.
use Rattle.std.proofs.Common.{◌≡◌, ◌≢◌, ℕ, zero, suc, ◌++◌, ◌∷◌, [], List, length, Result, Ok, Err, Some, None, Option, Bool, refl, sym, ap, subst, ◌∙◌, ◌⊎◌, inl, inr, pos}
use Rattle.std.specs.Prelude.{slice_get, IfOk, IfSome}
use Rattle.std.proofs.lemmas.Option.{none-some}
use Rattle.seq_values.specs.declared.value.Value.{Value}
use Rattle.seq_values.specs.declared.value.Value.TheVariants.{Int}
use Rattle.seq_values.specs.declared.term.Term.{Term}
use Rattle.seq_values.specs.declared.words.Kind.{Kind}
use Rattle.seq_values.specs.declared.words.Kind.TheVariants.{Lazy, Future}
use Rattle.seq_base.specs.declared.thrown.Thrown.{Thrown}
use Rattle.cell_book.specs.declared.answers.MakeRefusal.TheVariants as M
use Rattle.cell_book.specs.declared.cell.State.TheVariants as S
use Rattle.cell_book.specs.declared.cell.ClaimEnd.TheVariants as E
use Rattle.cell_book.specs.declared.cell.Cell.{Cell}
use Rattle.cell_book.specs.declared.work.Place.{Place}
use Rattle.cell_book.specs.declared.work.Place.TheVariants as P
use Rattle.cell_book.specs.Account.{Account, Duty, cell_at}
use Rattle.cell_book.specs.Steps.{with_cell, claimed, after_claim, new_cell, shown, shown_state, LookAnswer, Looks, FutureAnswer, FindsFuture, failed_state, BeginAnswer, Begins, Makes, MakeAnswer, Claims, ClaimAnswer, Ends, Finishes, Fails, GivesUp}
use Rattle.cell_book.specs.Glimpses.{Glimpse, Fits, SeesCell, SeesPlace, Owns}
use Rattle.cell_book.proofs.Moves.{makes_here, fails_shown}
use Rattle.cell_book.proofs.Onwards.{fits_reaches}
use Rattle.cell_book.proofs.Laws.{new_claim}
use Rattle.cell_book.proofs.Stepping.{finds_same}
use Rattle.cell_book.proofs.Lists.{get_set, get_snoc}
use Rattle.cell_client.specs.Sevens.{IsSevens, IsOn, IsNew, IsWaiting}

empty_done : (v : Value) → S.Empty ≡ S.Done v → ⊥
empty_done v e = cc

forcing_done : (c : ℕ) (v : Value) → S.Forcing c ≡ S.Done v → ⊥
forcing_done c v e = cc

done_same : (u v : Value) → S.Done u ≡ S.Done v → u ≡ v
done_same u v e = cc

pub sevens_makes : (a b : Account) (by : Duty) (t : Term) (k : Kind) (answer : MakeAnswer) → IsSevens a → Makes a by t k answer b → IsSevens b
sevens_makes a b by t k (Ok id) s h = subst IsSevens (sym h.2) at
  where
    at : IsSevens (record a { cells = a.cells ++ new_cell a by t k ∷ [] })
    at zero p v e d = absurd (none-some p e)
    at (suc i) p v e d = case (get_snoc a.cells i (new_cell a by t k) p e)
      where
        case : ((i ≡ length a.cells) × (new_cell a by t k ≡ p)) ⊎ (slice_get a.cells i ≡ Some p) → v ≡ Int (pos 7)
        case (inl z) = absurd (empty_done v (ap (λ (x : Cell). x.state) z.1 ∙ d))
        case (inr z) = s (suc i) p v z d
sevens_makes a b by t k (Err (M.Spent back)) s h = subst IsSevens (sym h.2) s
sevens_makes a b by t k (Err (M.Memory back)) s h = subst IsSevens (sym h.1) s

-- one cell is written over
written : (a : Account) (i : ℕ) (q : Cell) → IsSevens a → ((v : Value) → q.state ≡ S.Done v → v ≡ Int (pos 7)) → IsSevens (with_cell a (suc i) q)
written a i q s good zero p v e d = absurd (none-some p e)
written a i q s good (suc j) p v e d = case (get_set a.cells i j q p e)
  where
    case : ((j ≡ i) × (q ≡ p)) ⊎ ((j ≢ i) × (slice_get a.cells j ≡ Some p)) → v ≡ Int (pos 7)
    case (inl z) = good v (ap (λ (x : Cell). x.state) z.1 ∙ d)
    case (inr z) = s (suc j) p v z.1 d

pub sevens_claims : (a b : Account) (id : ℕ) (asker : Option ℕ) (answer : ClaimAnswer) → IsSevens a → Claims a id asker answer b → IsSevens b
sevens_claims a b id asker (Err r) s h = subst IsSevens (sym h.0) s
sevens_claims a b zero asker (Ok w) s (n, (p, at, e, f, x, y, is)) = absurd (none-some p at)
sevens_claims a b (suc i) asker (Ok w) s (n, (p, at, e, f, x, y, is)) = subst IsSevens (sym is) (written a i (claimed p w.claim asker) s (λ v d. absurd (forcing_done w.claim v d)))

pub sevens_finishes : (a b : Account) (w : Duty) → IsSevens a → Finishes a w (Int (pos 7)) b → IsSevens b
sevens_finishes a b w s h = at w.place h
  where
    at : (x : Place) → Ends a (record { place = x; claim = w.claim; outcomes = w.outcomes }) E.Value (λ _. S.Done (Int (pos 7))) (Some (Int (pos 7))) b → IsSevens b
    at (P.Form number k) (e, is) = subst IsSevens (sym is) s
    at (P.Part zero kind term) (p, asker, past, e, o, is) = absurd (none-some p e)
    at (P.Part (suc i) kind term) (p, asker, past, e, o, is) = subst IsSevens (sym is) (written a i (after_claim p w.claim asker past E.Value (S.Done (Int (pos 7)))) s (λ v d. sym (done_same (Int (pos 7)) v d)))

pub sevens_begins : (a b : Account) (number : ℕ) (answer : BeginAnswer) → IsSevens a → Begins a number answer b → IsSevens b
sevens_begins a b number (Ok w) s h = subst IsSevens (sym h.3) s
sevens_begins a b number (Err r) s h = subst IsSevens (sym h) s

failed_done : (why : Thrown) (k : Kind) (v : Value) → failed_state why k ≡ S.Done v → ⊥
failed_done why Lazy v e = empty_done v e
failed_done why Future v e = cc

pub sevens_fails : (a b : Account) (w : Duty) (why : Thrown) → IsSevens a → Fails a w why b → IsSevens b
sevens_fails a b w why s h = at w.place h
  where
    at : (x : Place) → Ends a (record { place = x; claim = w.claim; outcomes = w.outcomes }) (E.Error why) (failed_state why) None b → IsSevens b
    at (P.Form number k) (e, is) = subst IsSevens (sym is) s
    at (P.Part zero kind term) (p, asker, past, e, o, is) = absurd (none-some p e)
    at (P.Part (suc i) kind term) (p, asker, past, e, o, is) = subst IsSevens (sym is) (written a i (after_claim p w.claim asker past (E.Error why) (failed_state why p.kind)) s (λ v d. absurd (failed_done why p.kind v d)))

pub sevens_gives_up : (a b : Account) (w : Duty) → IsSevens a → GivesUp a w b → IsSevens b
sevens_gives_up a b w s (m, h, n) = subst IsSevens (sym n) (at w.place h)
  where
    at : (x : Place) → Ends a (record { place = x; claim = w.claim; outcomes = w.outcomes }) E.GivenUp (λ _. S.Empty) None m → IsSevens m
    at (P.Form number k) (e, is) = subst IsSevens (sym is) s
    at (P.Part zero kind term) (p, asker, past, e, o, is) = absurd (none-some p e)
    at (P.Part (suc i) kind term) (p, asker, past, e, o, is) = subst IsSevens (sym is) (written a i (after_claim p w.claim asker past E.GivenUp S.Empty) s (λ v d. absurd (empty_done v d)))

-- a book without cells
pub sevens_new : (a : Account) → a.cells ≡ [] → IsSevens a
sevens_new a e zero p v at d = absurd (none-some p at)
sevens_new a e (suc i) p v at d = let f : slice_get [] i ≡ Some p = ap (λ (l : List Cell). slice_get l i) (sym e) ∙ at in absurd (none-some p f)

pub sevens_looks : (a b : Account) (id : ℕ) (answer : LookAnswer) → IsSevens a → Looks a id answer b → IsSevens b
sevens_looks a b id answer s h = subst IsSevens (sym h.0) s

pub looks_seen : (a b : Account) (id : ℕ) (answer : LookAnswer) (g : Glimpse) → Looks a id answer b → SeesCell id b g → IfOk answer (λ l. l ≡ shown (g.cells id))
looks_seen a b id (Ok l) g h e = h.1 ∙ ap shown (ap (λ (x : Account). cell_at x id) (sym h.0) ∙ sym e)
looks_seen a b id (Err r) g h e = tt

-- a new work has a claim of its own
pub new_claims : {E : Type 0} (mine : ℕ → ℕ) (g : Glimpse) (answer : Result Duty E) → IfOk answer (λ w. mine w.claim ≡ 0) → IfOk answer (λ w. (x : Duty) → Owns mine g x → x.claim ≢ w.claim)
new_claims mine g (Ok w) z = λ x o. new_claim mine w x.claim z o.0
new_claims mine g (Err r) z = tt

-- what was made
pub new_seen : (a b : Account) (by : Duty) (t : Term) (k : Kind) (answer : MakeAnswer) (g : Glimpse) → Makes a by t k answer b → IfOk answer (λ (id : ℕ). SeesCell id b g) → IfOk answer (λ (id : ℕ). IsNew by k (g.cells id))
new_seen a b by t k (Ok id) g h e = (new_cell a by t k, e ∙ makes_here a b by t k id h, refl, refl, refl)
new_seen a b by t k (Err r) g h e = tt

-- what an error left
pub thrown_seen : (alone leads : Bool) (law noted : Account → Type 0) (g h : Glimpse) (mine : ℕ → ℕ) (a b : Account) (w : Duty) (why : Thrown) (id : ℕ) (p : Cell) → Fits alone leads law noted g mine a → Fails a w why b → SeesPlace w.place b h → IsOn id w.place → g.cells id ≡ Some p → shown (h.cells id) ≡ shown_state (failed_state why p.kind)
thrown_seen alone leads law noted g h mine a b w why id p fits step sees (kind, term, place) at =
    let q = (fits_reaches alone leads law noted g mine a fits).cells id p at in
    let seen : h.cells id ≡ cell_at b id = subst (λ (x : Place). SeesPlace x b h) place sees in
    ap shown seen ∙ (fails_shown a b w why id kind term q.0 place step q.1 ∙ ap (λ (k : Kind). shown_state (failed_state why k)) q.2.kind)

-- the lowest empty future
pub sevens_finds : (a b : Account) (answer : FutureAnswer) → IsSevens a → FindsFuture a answer b → IsSevens b
sevens_finds a b answer s h = subst IsSevens (sym (finds_same a b answer h)) s

pub found_seen : (a b : Account) (answer : FutureAnswer) (g : Glimpse) → FindsFuture a answer b → IfSome answer (λ (id : ℕ). SeesCell id b g) → IfSome answer (λ (id : ℕ). IsWaiting (g.cells id))
found_seen a b None g h e = tt
found_seen a b (Some id) g (same, (p, at, future, empty), low) e = (p, e ∙ (ap (λ (x : Account). cell_at x id) same ∙ at), future, empty)

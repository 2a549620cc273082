-- What a look at a noted book shows.
use Rattle.std.proofs.Common.{◌≡◌, ℕ, Bool, true, false, Option, Some, None, Ok, Err, refl, ap, sym, subst, ◌∙◌}
use Rattle.std.specs.Prelude.{IfOk}
use Rattle.seq_values.specs.declared.value.Value.{Value}
use Rattle.seq_base.specs.declared.thrown.Thrown.{Thrown}
use Rattle.cell_book.specs.declared.answers.Look.{Look}
use Rattle.cell_book.specs.declared.answers.Look.TheVariants as L
use Rattle.cell_book.specs.declared.cell.State.{State}
use Rattle.cell_book.specs.declared.cell.State.TheVariants as S
use Rattle.cell_book.specs.declared.cell.Cell.{Cell}
use Rattle.cell_book.specs.Account.{Account, cell_at}
use Rattle.cell_book.specs.Steps.{LookAnswer, Looks, shown, shown_state}
use Rattle.cell_book.specs.Readers.{value_in, done_in}
use Rattle.cell_book.specs.Glimpses.{Glimpse, Fits}

-- the book of a step is the one that is noted
pub is_noted : (alone leads : Bool) (law noted : Account → Type 0) (g : Glimpse) (mine : ℕ → ℕ) (a b : Account) → leads ≡ true → ((x y : Account) → noted x → noted y → x ≡ y) → noted a → Fits alone leads law noted g mine b → b ≡ a
is_noted true leads law noted g mine a b l one n fits = one b a fits.0 n
is_noted false leads law noted g mine a b l one n fits = fits.whole l a n

pub looks_at : (a b c : Account) (id : ℕ) (answer : LookAnswer) → b ≡ a → Looks b id answer c → IfOk answer (λ l. l ≡ shown (cell_at a id))
looks_at a b c id (Ok l) p h = h.1 ∙ ap (λ x. shown (cell_at x id)) p
looks_at a b c id (Err r) p h = tt

done_state : (s : State) (v : Value) → L.Done v ≡ shown_state s → done_in s ≡ Some v
done_state S.Empty v q = absurd cc
done_state (S.Forcing c) v q = absurd cc
done_state (S.Done u) v q = let e : u ≡ v = cc in ap Some e
done_state (S.Failed why) v q = absurd cc

pub done_shown : (o : Option Cell) (v : Value) → L.Done v ≡ shown o → value_in o ≡ Some v
done_shown None v q = absurd cc
done_shown (Some p) v q = done_state p.state v q

state_done : (s : State) (v : Value) → done_in s ≡ Some v → shown_state s ≡ L.Done v
state_done S.Empty v q = absurd cc
state_done (S.Forcing c) v q = absurd cc
state_done (S.Done u) v q = let e : u ≡ v = cc in ap L.Done e
state_done (S.Failed why) v q = absurd cc

shown_done : (o : Option Cell) (v : Value) → value_in o ≡ Some v → shown o ≡ L.Done v
shown_done None v q = absurd cc
shown_done (Some p) v q = state_done p.state v q

pub empty_open : (o : Option Cell) (v : Value) → L.Empty ≡ shown o → value_in o ≡ Some v → ⊥
empty_open o v q d = let e : shown o ≡ L.Done v = shown_done o v d in cc

pub forcing_open : (o : Option Cell) (v : Value) (c : ℕ) → L.Forcing c ≡ shown o → value_in o ≡ Some v → ⊥
forcing_open o v c q d = let e : shown o ≡ L.Done v = shown_done o v d in cc

pub failed_open : (o : Option Cell) (v : Value) (why : Thrown) → L.Failed why ≡ shown o → value_in o ≡ Some v → ⊥
failed_open o v why q d = let e : shown o ≡ L.Done v = shown_done o v d in cc

pub unknown_open : (o : Option Cell) (v : Value) → L.Unknown ≡ shown o → value_in o ≡ Some v → ⊥
unknown_open o v q d = let e : shown o ≡ L.Done v = shown_done o v d in cc

-- What the calls on a book leave of the works on it.
use Rattle.std.proofs.Common.{◌≡◌, ℕ, Option, Some, None, Ok, Err, refl, ap, subst, ◌∙◌}
use Rattle.seq_values.specs.declared.value.Value.{Value}
use Rattle.seq_values.specs.declared.term.Term.{Term}
use Rattle.seq_values.specs.declared.words.Kind.{Kind}
use Rattle.cell_book.specs.declared.answers.Look.TheVariants as L
use Rattle.cell_book.specs.declared.cell.State.{State}
use Rattle.cell_book.specs.declared.cell.State.TheVariants as S
use Rattle.cell_book.specs.declared.cell.Cell.{Cell}
use Rattle.cell_book.specs.Account.{Account, Duty, cell_at}
use Rattle.cell_book.specs.Steps.{Begins, Makes, MakeAnswer, Claims, ClaimAnswer, Finishes, IsOpenIn, shown, shown_state}
use Rattle.cell_book.specs.Readers.{value_in, done_in}
use Rattle.cell_book.specs.Glimpses.{glimpse}
use Rattle.cell_book.proofs.Stepping.{begun_open, claims_open}
use Rattle.cell_book.proofs.Moves.{makes_holds, finishes_shown}
use Rattle.cell_book.proofs.Onwards.{open_onward}
use Rattle.ledger_tests.specs.Places.{IsOn}

pub begun_is_open : (a b : Account) (number : ℕ) (w : Duty) → Begins a number (Ok w) b → IsOpenIn b w
begun_is_open a b number w h = begun_open a b number w h

pub made_is_open : (a b : Account) (by : Duty) (t : Term) (k : Kind) (answer : MakeAnswer) → IsOpenIn a by → Makes a by t k answer b → IsOpenIn b by
made_is_open a b by t k answer o h = open_onward by (glimpse a) (glimpse b) (makes_holds a b by t k answer by.claim h) o

pub claimed_is_open : (a b : Account) (id : ℕ) (asker : Option ℕ) (answer : ClaimAnswer) (w : Duty) → answer ≡ Ok w → Claims a id asker answer b → IsOpenIn b w
claimed_is_open a b id asker answer w e h = claims_open a b id asker w (subst (λ (r : ClaimAnswer). Claims a id asker r b) e h)

on_it : (a b : Account) (id : ℕ) (asker : Option ℕ) (w : Duty) → Claims a id asker (Ok w) b → IsOn id w.place
on_it a b id asker w (n, (p, at, empty, fresh, place, kept, is)) = (p.kind, p.term, place)

pub claimed_is_on : (a b : Account) (id : ℕ) (asker : Option ℕ) (answer : ClaimAnswer) (w : Duty) → answer ≡ Ok w → Claims a id asker answer b → IsOn id w.place
claimed_is_on a b id asker answer w e h = on_it a b id asker w (subst (λ (r : ClaimAnswer). Claims a id asker r b) e h)

done_state : (s : State) (v : Value) → shown_state s ≡ L.Done v → done_in s ≡ Some v
done_state S.Empty v q = absurd cc
done_state (S.Forcing c) v q = absurd cc
done_state (S.Done u) v q = let e : u ≡ v = cc in ap Some e
done_state (S.Failed why) v q = absurd cc

has_value : (o : Option Cell) (v : Value) → shown o ≡ L.Done v → value_in o ≡ Some v
has_value None v q = absurd cc
has_value (Some p) v q = done_state p.state v q

pub finished_shows : (a b : Account) (w : Duty) (v : Value) (id : ℕ) → IsOn id w.place → Finishes a w v b → value_in (cell_at b id) ≡ Some v
finished_shows a b w v id (kind, term, place) h = has_value (cell_at b id) v (finishes_shown a b w v id kind term place h)

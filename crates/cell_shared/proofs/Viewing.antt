-- From what a pass knows to what a caller of its calls is told.
use Rattle.std.proofs.Common.{◌≡◌, ℕ, ◌+◌, ◌-◌, ◌<◌, ◌≤◌, ◌==◌, Bool, cond, List, [], ◌∷◌, length, Some, None, Ok, Err, Option, Result, sym, refl, ap, ◌∙◌, subst, arith, eq-eqb, ne_eqb}
use Rattle.std.specs.Prelude.{IfOk, IfSome}
use Rattle.std.proofs.lemmas.List.Sums.{sum_by-cons}
use mathlib.Core.Logic.{dite}
use native.Mathlib.Decide.{ℕ_discrete}
use Rattle.cell_book.specs.Account.{Account, Duty, opens}
use Rattle.cell_book.specs.Steps.{IsOpenIn, IsOpenAsker, MakeAnswer, BeginAnswer, FutureAnswer, Begins, FindsFuture}
use Rattle.cell_book.specs.Glimpses.{glimpse, Foresees, IsOpen, Owns, MayAsk, SeesCell, SeesPlace, at_claim}
use Rattle.cell_book.proofs.Opening.{at_claim_other}
use Rattle.cell_book.proofs.Onwards.{open_onward}
use Rattle.cell_book.proofs.Stepping.{sees_place, begun_open}
use Rattle.cell_shared.specs.Growing.{times, counted, IsQuiet, Knows, Noted}
use Rattle.cell_shared.specs.Known.{without}

pub foresees : (leads : Bool) (keeps : Account → Type 0) (seen : Account) (mine : ℕ → ℕ) (b : Account) → Knows leads keeps seen mine b → Foresees leads keeps (Noted leads seen) (glimpse seen) mine b
foresees leads keeps seen mine b k = record {
  law = k.law;
  sound = k.sound;
  grown = k.grown.reaches;
  opened = k.opened;
  own = k.own;
  begun = k.begun;
  whole = λ is a n. k.grown.quiet n.1 (ap length (k.begun is)) ∙ sym n.2;
}

-- what was noted stays noted where nothing changed
pub noted_stays : (leads : Bool) (keeps : Account → Type 0) (seen : Account) (mine : ℕ → ℕ) (a b : Account) → Knows leads keeps seen mine a → b ≡ a → (x : Account) → Noted leads seen x → Noted leads b x
noted_stays leads keeps seen mine a b k e x n = let same : b ≡ seen = e ∙ k.grown.quiet n.1 (ap length (k.begun n.0)) in (n.0, subst IsQuiet (sym same) n.1, n.2 ∙ sym same)

-- a work that it owns is open in the book
pub open_in : (leads : Bool) (keeps : Account → Type 0) (seen : Account) (mine : ℕ → ℕ) (a : Account) (w : Duty) → Knows leads keeps seen mine a → Owns mine (glimpse seen) w → IsOpenIn a w
open_in leads keeps seen mine a w k o = open_onward w (glimpse seen) (glimpse a) (k.own w.claim o.0).holds o.1

pub open_asker : (leads : Bool) (keeps : Account → Type 0) (seen : Account) (mine : ℕ → ℕ) (a : Account) (id : ℕ) (by : Option Duty) → Knows leads keeps seen mine a → MayAsk mine (glimpse seen) id by → IsOpenAsker a by
open_asker leads keeps seen mine a id None k may = tt
open_asker leads keeps seen mine a id (Some w) k may = open_in leads keeps seen mine a w k may

-- a new claim was not its own
pub if_fresh : {E : Type 0} (mine : ℕ → ℕ) (a : Account) (answer : Result Duty E) → ((c : ℕ) → mine c ≤ opens c a) → IfOk answer (λ (w : Duty). opens w.claim a ≡ 0) → IfOk answer (λ (w : Duty). mine w.claim ≡ 0)
if_fresh mine a (Ok w) opened f = let o = opened w.claim in omega arith
if_fresh mine a (Err r) opened f = tt

pub makes_sees : (answer : MakeAnswer) (b : Account) → IfOk answer (λ (id : ℕ). SeesCell id b (glimpse b))
makes_sees (Ok id) b = refl
makes_sees (Err r) b = tt

pub begins_sees : (answer : BeginAnswer) (b : Account) → IfOk answer (λ (w : Duty). SeesPlace w.place b (glimpse b))
begins_sees (Ok w) b = sees_place w.place b
begins_sees (Err r) b = tt

times_cons : (c d : ℕ) (ds : List ℕ) → times c (d ∷ ds) ≡ at_claim d c + times c ds
times_cons c d ds = sum_by-cons (λ (x : ℕ). cond (x == c) 1 0) d ds

times_without : (d c : ℕ) (ds : List ℕ) → 0 < times d ds → times c (without d ds) + at_claim d c ≡ times c ds
times_without d c [] h = absurd (omega arith)
times_without d c (e ∷ ds) h =
    let n = times_cons c e ds in
    let m = times_cons d e ds in dite (ℕ_discrete e d)
    (λ same. rw (eq-eqb e d same) (let k : at_claim e c ≡ at_claim d c = ap (λ (x : ℕ). at_claim x c) same in omega arith))
    (λ other. rw (ne_eqb e d other) (let t = at_claim_other e d other in let k = times_without d c ds (omega arith) in let l = times_cons c e (without d ds) in omega arith))

-- one that is in the list leaves it
pub without_one : (d : ℕ) (ds : List ℕ) (c : ℕ) → 0 < counted ds d → counted (without d ds) c ≡ counted ds c - at_claim d c
without_one d ds c h = let t = times_without d c ds h in omega arith

pub begins_open_if : (a b : Account) (number : ℕ) (answer : BeginAnswer) → Begins a number answer b → IfOk answer (λ (w : Duty). IsOpen (glimpse b) w)
begins_open_if a b number (Ok w) h = begun_open a b number w h
begins_open_if a b number (Err r) h = tt

pub finds_sees : (answer : FutureAnswer) (b : Account) → IfSome answer (λ (id : ℕ). SeesCell id b (glimpse b))
finds_sees (Some id) b = refl
finds_sees None b = tt

pub finds_same : (a b : Account) (answer : FutureAnswer) → FindsFuture a answer b → b ≡ a
finds_same a b (Some id) h = h.0
finds_same a b None h = h.0

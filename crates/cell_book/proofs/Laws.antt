-- A law P over each call: the book of the call meets it, what meets it is lawful, and after a step to a book that meets it all is as before.
use Rattle.std.proofs.Common.{◌≡◌, ◌≢◌, ℕ, Result, Ok, Err, ◌+◌, ◌-◌, ◌<◌, Bool, true, false, refl, ap, sym, subst, arith}
use Rattle.std.specs.Prelude.{IfOk}
use Rattle.cell_book.specs.Account.{Account, Duty}
use Rattle.cell_book.specs.Glimpses.{after_open, glimpse, Holds, Sees, Owns, Glimpse, Fits, LawIs, at_claim}
use Rattle.cell_book.proofs.Onwards.{fits_onward, holds_then, holds_seen, open_onward}
use Rattle.cell_book.proofs.Opening.{at_claim_same, at_claim_other}

pub meets_law : (alone leads : Bool) (law noted : Account → Type 0) (g : Glimpse) (mine : ℕ → ℕ) (P : Account → Type 0) (a : Account) → LawIs alone law noted P → Fits alone leads law noted g mine a → P a
meets_law true leads law noted g mine P a is f = is a f.0
meets_law false leads law noted g mine P a is f = (is a).0 f.law

pub lawful : (alone : Bool) (law noted P : Account → Type 0) (b : Account) → (alone ≡ true → law b) → LawIs alone law noted P → P b → law b
lawful true law noted P b free is p = free refl
lawful false law noted P b free is p = (is b).1 p

-- what a caller of a step owes, where the step keeps P
pub keeps_law : (alone leads : Bool) (law noted : Account → Type 0) (g : Glimpse) (mine : ℕ → ℕ) (P : Account → Type 0) (a b : Account) → (alone ≡ true → law b) → LawIs alone law noted P → (P a → P b) → Fits alone leads law noted g mine a → law b
keeps_law alone leads law noted g mine P a b free is step f = lawful alone law noted P b free is (step (meets_law alone leads law noted g mine P a is f))

still : (alone : Bool) (law law2 noted noted2 P : Account → Type 0) (b : Account) → ((c : Account) → (law c → law2 c) × (law2 c → law c)) → ((c d : Account) → noted2 c → noted2 d → c ≡ d) → (alone ≡ true → noted2 b) → P b → LawIs alone law noted P → LawIs alone law2 noted2 P
still true law law2 noted noted2 P b same one new p is = λ c n. subst P (one b c (new refl) n) p
still false law law2 noted noted2 P b same one new p is = λ c. ((λ l. (is c).0 ((same c).1 l)), λ q. (same c).0 ((is c).1 q))

pub still_lawful : (alone alone2 : Bool) (law law2 noted noted2 P : Account → Type 0) (b : Account) → alone2 ≡ alone → ((c : Account) → (law c → law2 c) × (law2 c → law c)) → ((c d : Account) → noted2 c → noted2 d → c ≡ d) → (alone ≡ true → noted2 b) → P b → LawIs alone law noted P → LawIs alone2 law2 noted2 P
still_lawful alone alone2 law law2 noted noted2 P b e same one new p is = subst (λ (x : Bool). LawIs x law2 noted2 P) (sym e) (still alone law law2 noted noted2 P b same one new p is)

-- the claims that are open after a call
pub opened_held : (mine mine2 : ℕ → ℕ) (w : Duty) → mine2 w.claim ≡ at_claim w.claim w.claim + mine w.claim → 0 < mine2 w.claim
opened_held mine mine2 w h = let t = at_claim_same w.claim w.claim refl in omega arith

pub still_held : (mine mine2 : ℕ → ℕ) (w : Duty) (c : ℕ) → mine2 c ≡ at_claim w.claim c + mine c → 0 < mine c → 0 < mine2 c
still_held mine mine2 w c h m = omega arith

-- a new work has another claim
pub new_claim : (mine : ℕ → ℕ) (w : Duty) (c : ℕ) → mine w.claim ≡ 0 → 0 < mine c → c ≢ w.claim
new_claim mine w c z m = λ e. (let k : mine c ≡ mine w.claim = ap mine e in absurd (omega arith))

pub apart_if : {E : Type 0} (mine : ℕ → ℕ) (answer : Result Duty E) (c : ℕ) → IfOk answer (λ (w : Duty). mine w.claim ≡ 0) → 0 < mine c → IfOk answer (λ (w : Duty). c ≢ w.claim)
apart_if mine (Ok w) c z m = new_claim mine w c z m
apart_if mine (Err r) c z m = tt

pub ended_held : (mine mine2 : ℕ → ℕ) (w : Duty) (c : ℕ) → mine2 c ≡ mine c - at_claim w.claim c → c ≢ w.claim → 0 < mine c → 0 < mine2 c
ended_held mine mine2 w c h n m = let t = at_claim_other w.claim c (λ e. n (sym e)) in omega arith

-- what it owns it owns after a step that holds it
pub still_owns : (alone leads : Bool) (law noted : Account → Type 0) (g h : Glimpse) (mine mine2 : ℕ → ℕ) (a b : Account) (w : Duty) → Owns mine g w → Fits alone leads law noted g mine a → Holds w.claim (glimpse a) (glimpse b) → Sees leads mine2 g b h → 0 < mine2 w.claim → Owns mine2 h w
still_owns alone leads law noted g h mine mine2 a b w o f x s m =
    (m, open_onward w g h (holds_seen leads mine2 w.claim g b h (holds_then w.claim g (glimpse a) (glimpse b) ((fits_onward alone leads law noted g mine a w.claim f o.0).holds) x) s m) o.1)

pub open_held : {E : Type 0} (mine : ℕ → ℕ) (answer : Result Duty E) (c : ℕ) → 0 < mine c → 0 < after_open mine answer c
open_held mine (Ok w) c m = omega arith
open_held mine (Err r) c m = m

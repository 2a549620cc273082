-- What an evaluation comes to on a book that nobody shares.
use Rattle.std.proofs.Common.{◌≡◌, ◌≢◌, ◌⊎◌, inl, inr, ℕ, ◌+◌, ◌<◌, ◌≤◌, true, List, [], Result, Ok, Err, refl, ap, sym, subst, ◌∙◌, arith}
use Rattle.clj_script.specs.declared.program.Program.{Program}
use Rattle.seq_values.specs.declared.value.Value.{Value as Coded}
use Rattle.seq_plan.specs.Plan.{Rules}
use Rattle.seq_meaning.specs.Names.{Name}
use Rattle.cell_book.specs.Account.{Account, Duty, opens}
use Rattle.cell_book.specs.Glimpses.{Glimpse, glimpse, at_claim, after_end}
use Rattle.cell_book.proofs.Lists.{same_or}
use Rattle.cell_book.proofs.Opening.{at_claim_same, at_claim_other}
use Rattle.lawful_works.specs.Basis.{Basis, IsGood, Governs}
use Rattle.lawful_works.specs.Evaluated.{IsOnly, Came, ComesTo}
use Rattle.lawful_works.specs.Alone.{Grows}
use Rattle.lawful_works.specs.declared.stop.Stop.{Stop}
use Rattle.lawful_works.specs.declared.stop.Stop.TheVariants as S
use Rattle.eval_stack.specs.declared.state.Waiting.{Waiting}
use Rattle.seq_turns.specs.Turning.{Running}
use Rattle.eval_stack.specs.declared.state.Setting.{Setting}
use Rattle.eval_stack.specs.Stack.{basis_in, all_claims, AreOwn, AreLinked, AreWaiting, StandsOver}
use Rattle.eval_stack.proofs.Claims.{claims_empty}
use Rattle.eval_stack.specs.Came.{Answered, EvaluationNotes, IsSomeGood}

pub grows_of : (r : Result Coded Stop) (a b : Account) → EvaluationNotes r a b → Grows a b
grows_of (Ok v) a b n = n.0
grows_of (Err (S.Thrown why)) a b n = n.0
grows_of (Err S.Spent) a b n = n.0
grows_of (Err S.GaveUp) a b n = n.0
grows_of (Err S.Memory) a b n = n

comes_of : (r : Result Coded Stop) (a b : Account) (w : Duty) → EvaluationNotes r a b → Answered (glimpse b) w r → ComesTo a b w r
comes_of (Ok v) a b w n h = (n.1, h)
comes_of (Err (S.Thrown why)) a b w n h = (n.1, h)
comes_of (Err S.Spent) a b w n h = n.1
comes_of (Err S.GaveUp) a b w n h = n.1
comes_of (Err S.Memory) a b w n h = tt

pub came_of : (y : Basis) (a b c : Account) (w : Duty) (r : Result Coded Stop) → c ≡ b → EvaluationNotes r a c → Answered (glimpse b) w r → ((d : ℕ) → opens d b ≡ 0) → (names : Rules Name) → IsGood names y b → Came names y a b w r
came_of y a b c w r e n h closed names good =
    let m = subst (λ (z : Account). EvaluationNotes r a z) e n in
    let g = grows_of r a b m in
    record { good = good; reaches = g.reaches; begun_same = g.begun_same; closed = closed; answer = comes_of r a b w m h }

-- one open claim
pub only_held : (a : Account) (w : Duty) → IsOnly a w → (c : ℕ) → opens c a ≡ at_claim w.claim c
only_held a w o c = go (same_or c w.claim)
  where
    go : (c ≡ w.claim) ⊎ (c ≢ w.claim) → opens c a ≡ at_claim w.claim c
    go (inl e) = ap (λ d. opens d a) e ∙ (o.own ∙ sym (at_claim_same w.claim c (sym e)))
    go (inr n) = o.others c n ∙ sym (at_claim_other w.claim c (λ e. n (sym e)))

pub only_own : (a : Account) (w : Duty) → IsOnly a w → 0 < opens w.claim a
only_own a w o = let e = o.own in omega arith

pub only_closed : (a b : Account) (w : Duty) → IsOnly a w → (c : ℕ) → opens c b ≡ after_end (λ d. opens d a) w c → opens c b ≡ 0
only_closed a b w o c e = let f = only_held a w o c in omega arith

pub some_governs : (y : Basis) (a : Account) (law : Account → Type 0) → IsSomeGood y a → Governs true law (λ b. b ≡ a) y
some_governs y a law o = record { names = o.names; alike = o.alike; is = λ b n. subst (IsGood o.names y) (sym n) o.good }

pub basis_at : (table : ℕ → Rules ℕ) (p q : Program) (processors limit : ℕ) → p ≡ q → basis_in table p processors limit ≡ basis_in table q processors limit
basis_at table p q processors limit e = λ i. basis_in table (e i) processors limit

-- nothing waits below the only work
pub own_alone : {S : Type 0} {b : _} (xs : List (Waiting S b)) → xs ≡ [] → (mine : ℕ → ℕ) (w : Duty) → ((c : ℕ) → mine c ≡ at_claim w.claim c) → AreOwn mine xs w
own_alone xs none mine w only = record { own = λ c. (let e = only c in let z = claims_empty xs c none in omega arith); once = λ c. at_most_one c (same_or c w.claim) }
  where
    at_most_one : (c : ℕ) → (c ≡ w.claim) ⊎ (c ≢ w.claim) → all_claims xs w c ≤ 1
    at_most_one c (inl e) = let t = at_claim_same w.claim c (sym e) in let z = claims_empty xs c none in omega arith
    at_most_one c (inr n) = let t = at_claim_other w.claim c (λ e. n (sym e)) in let z = claims_empty xs c none in omega arith

pub over_nothing : {S : Type 0} {b : _} (running : Running S) (table : ℕ → Rules ℕ) (s : Setting) (g : Glimpse) (xs : List (Waiting S b)) → xs ≡ [] → (mine : ℕ → ℕ) (w : Duty) → ((c : ℕ) → mine c ≡ at_claim w.claim c) → StandsOver running table s g mine xs w
over_nothing running table s g xs none mine w only = record { waiting = subst (λ l. AreWaiting running table s g l) (sym none) tt; linked = subst (λ l. AreLinked g l w) (sym none) tt; own = own_alone xs none mine w only }

-- nothing of it is open in the end
pub forced_held : {S : Type 0} {b : _} (xs : List (Waiting S b)) (w : Duty) (c : ℕ) → xs ≡ [] → (t a m : ℕ) → t + a ≡ m → a ≡ all_claims xs w c → m ≡ at_claim w.claim c → t ≡ 0
forced_held xs w c none t a m e f h = let z = claims_empty xs c none in omega arith

-- nothing waits below a work that begins
pub over_new : {S : Type 0} {b : _} (running : Running S) (table : ℕ → Rules ℕ) (s : Setting) (g : Glimpse) (xs : List (Waiting S b)) → xs ≡ [] → (mine : ℕ → ℕ) (w : Duty) → ((c : ℕ) → at_claim w.claim c ≤ mine c) → StandsOver running table s g mine xs w
over_new running table s g xs none mine w own = record {
  waiting = subst (λ l. AreWaiting running table s g l) (sym none) tt;
  linked = subst (λ l. AreLinked g l w) (sym none) tt;
  own = record { own = λ c. (let e = own c in let z = claims_empty xs c none in omega arith); once = (own_alone xs none (λ c. at_claim w.claim c) w (λ c. refl)).once };
}

-- What a call leaves of the works of a stack.
use Rattle.std.proofs.Common.{◌≡◌, ◌≢◌, ℕ, suc, ◌+◌, ◌<◌, List, [], ◌∷◌, ◌++◌, Bool, Option, Some, refl, sym, subst, arith}
use Rattle.clj_script.specs.Seen.{seen}
use Rattle.seq_base.specs.declared.thrown.Thrown.{Thrown}
use Rattle.seq_plan.specs.Plan.{Rules, Plan, throw}
use Rattle.seq_turns.specs.Turning.{Running}
use Rattle.cell_book.specs.Account.{Account, Duty}
use Rattle.cell_book.specs.Glimpses.{Glimpse, Holds, IsOpen, at_claim, after_end}
use Rattle.cell_book.proofs.Opening.{at_claim_same}
use Rattle.cell_book.proofs.Onwards.{open_onward, holds_same}
use Rattle.seq_lawful.proofs.OnRuns.{on_open}
use Rattle.eval_frames.specs.Frames.{ground, beneath, asking_plan, asker_plan}
use Rattle.eval_frames.specs.declared.state.Code.{Code}
use Rattle.lawful_works.specs.Basis.{Basis, RunsTo, Governs, StaysOn}
use Rattle.lawful_works.specs.Named.{StaysGood}
use Rattle.lawful_works.specs.Calls.{OnCell, OpenedFor, for_part, Opened, Throws}
use Rattle.eval_works.specs.Halts.{MakeHalts, ClaimHalts}
use Rattle.eval_works.specs.declared.state.Halt.{Halt}
use Rattle.eval_works.specs.declared.state.Halt.TheVariants as H
use Rattle.eval_stack.specs.Turned.{HaltSeen}
use Rattle.eval_works.specs.Standing.{GoesBy, basis, left_of, plan_of}
use Rattle.eval_stack.specs.declared.state.Setting.{Setting}
use Rattle.eval_stack.specs.declared.state.Waiting.{Waiting}
use Rattle.eval_stack.specs.declared.state.Stack.{Stack}
use Rattle.eval_stack.specs.Stack.{basis_of, IsCode, claims, AreOpen, IsOpenOver, IsWaiting, AreWaiting, StandsOver, StackOn}
use Rattle.eval_stack.proofs.Claims.{linked_push, linked_pop, linked_on, open_on, apart_below, held_below, held_all, held_top, own_same, own_push, held_popped, apart_popped, held_last, apart_last, other_asker, own_popped}

module _ {S : Type 0} (running : Running S) (table : ℕ → Rules ℕ) (s : Setting) where
  -- a work's code gives the basis of all
  pub basis_same : (code : Code) (w : Duty) → IsCode s code w → basis (ground running table code) s.limit ≡ basis_of table s
  basis_same code w o = λ i. record { rules = table (o.processors i); program = seen (o.program i); limit = s.limit }

  pub law_in : (alone : Bool) (law noted : Account → Type 0) (code : Code) (w : Duty) → IsCode s code w → Governs alone law noted (basis_of table s) → Governs alone law noted (basis (ground running table code) s.limit)
  law_in alone law noted code w o h = subst (λ (y : Basis). Governs alone law noted y) (sym (basis_same code w o)) h

  pub law_out : (alone : Bool) (law noted : Account → Type 0) (code : Code) (w : Duty) → IsCode s code w → Governs alone law noted (basis (ground running table code) s.limit) → Governs alone law noted (basis_of table s)
  law_out alone law noted code w o h = subst (λ (y : Basis). Governs alone law noted y) (basis_same code w o) h

  pub names_out : (alone alone2 : Bool) (law law2 noted noted2 : Account → Type 0) (code : Code) (w : Duty) → IsCode s code w → StaysGood alone law noted alone2 law2 noted2 (basis (ground running table code) s.limit) → StaysGood alone law noted alone2 law2 noted2 (basis_of table s)
  names_out alone alone2 law law2 noted noted2 code w o h = subst (λ (y : Basis). StaysGood alone law noted alone2 law2 noted2 y) (basis_same code w o) h

  -- a work that is on its run is open
  pub run_open : (code : Code) (g : Glimpse) (w : Duty) (n : ℕ) (p : Plan ℕ) → RunsTo (basis (ground running table code) s.limit) g w n p → IsOpen g w
  run_open code g w n p r = let y = basis (ground running table code) s.limit in on_open y.rules y.program y.limit g w n p r

module _ {S : Type 0} {b : _} (running : Running S) (table : ℕ → Rules ℕ) (s : Setting) where
  pub waiting_on : (g h : Glimpse) (x : Waiting S b) → StaysOn g h x.work → IsWaiting running table s g x → IsWaiting running table s h x
  waiting_on g h x k o = record { code = o.code; asks = k (basis (ground running table x.code) s.limit) (suc x.asker.rest.left) (asker_plan (ground running table x.code) x.asker) o.asks }

  pub all_waiting_on : (g h : Glimpse) (xs : List (Waiting S b)) → ((v : Duty) → 0 < claims xs v.claim → StaysOn g h v) → AreWaiting running table s g xs → AreWaiting running table s h xs
  all_waiting_on g h [] k o = tt
  all_waiting_on g h (x ∷ xs) k o = (waiting_on g h x (k x.work (let e = at_claim_same x.work.claim x.work.claim refl in omega arith)) o.0, all_waiting_on g h xs (λ v m. k v (omega arith)) o.1)

  pub waiting_push : (g : Glimpse) (xs : List (Waiting S b)) (x : Waiting S b) → AreWaiting running table s g xs → IsWaiting running table s g x → AreWaiting running table s g (xs ++ x ∷ [])
  waiting_push g [] x o k = (k, tt)
  waiting_push g (z ∷ xs) x o k = (o.0, waiting_push g xs x o.1 k)

  pub waiting_pop : (g : Glimpse) (xs : List (Waiting S b)) (x : Waiting S b) → AreWaiting running table s g (xs ++ x ∷ []) → AreWaiting running table s g xs × IsWaiting running table s g x
  waiting_pop g [] x o = (tt, o.0)
  waiting_pop g (z ∷ xs) x o = let r = waiting_pop g xs x o.1 in ((o.0, r.0), r.1)

  all_open : (g : Glimpse) (xs : List (Waiting S b)) → AreWaiting running table s g xs → AreOpen g xs
  all_open g [] o = tt
  all_open g (x ∷ xs) o = (run_open running table s x.code g x.work (suc x.asker.rest.left) (asker_plan (ground running table x.code) x.asker) o.0.asks, all_open g xs o.1)

  -- the top work took a step
  pub over_stays : (g h : Glimpse) (mine mine2 : ℕ → ℕ) (xs : List (Waiting S b)) (w : Duty) → StandsOver running table s g mine xs w → ((v : Duty) → 0 < mine v.claim → v.claim ≢ w.claim → StaysOn g h v) → ((c : ℕ) → 0 < mine c → Holds c g h) → ((c : ℕ) → mine2 c ≡ mine c) → StandsOver running table s h mine2 xs w
  over_stays g h mine mine2 xs w o others holds same = record {
    waiting = all_waiting_on g h xs (λ v m. others v (held_below mine xs w o.own v.claim m) (apart_below mine xs w o.own v.claim m)) o.waiting;
    linked = linked_on g h xs w (λ c m. holds c (held_all mine xs w o.own c m)) o.linked;
    own = own_same mine mine2 xs w o.own same;
  }

  -- and goes on no more
  pub over_open : (g h : Glimpse) (mine mine2 : ℕ → ℕ) (xs : List (Waiting S b)) (w : Duty) → StandsOver running table s g mine xs w → IsOpen g w → ((c : ℕ) → 0 < mine c → Holds c g h) → ((c : ℕ) → mine2 c ≡ mine c) → IsOpenOver h mine2 xs w
  over_open g h mine mine2 xs w o opened holds same = record {
    top = open_onward w g h (holds w.claim (held_top mine xs w o.own)) opened;
    rest = open_on g h xs (λ c m. holds c (held_below mine xs w o.own c m)) (all_open g xs o.waiting);
    own = own_same mine mine2 xs w o.own same;
  }

  -- whatever nobody called stays open
  pub over_open_now : (g : Glimpse) (mine : ℕ → ℕ) (xs : List (Waiting S b)) (w : Duty) → StandsOver running table s g mine xs w → IsOpen g w → IsOpenOver g mine xs w
  over_open_now g mine xs w o opened = over_open g g mine mine xs w o opened (λ c m. holds_same c g) (λ c. refl)

  pub stack_open : (g : Glimpse) (mine : ℕ → ℕ) (k : Stack S b) → StackOn running table s g mine k → IsOpenOver g mine k.below.items k.top.work
  stack_open g mine k o = over_open_now g mine k.below.items k.top.work o.over (run_open running table s k.top.code g k.top.work (left_of k.top.event) (plan_of (ground running table k.top.code) k.top.event) o.top.runs)

  -- a work was opened for the top one
  pub over_pushed : (g h : Glimpse) (mine mine2 : ℕ → ℕ) (xs : List (Waiting S b)) (x : Waiting S b) (v : Duty) → StandsOver running table s g mine xs x.work → ((u : Duty) → 0 < mine u.claim → u.claim ≢ x.work.claim → StaysOn g h u) → ((c : ℕ) → 0 < mine c → Holds c g h) → ((c : ℕ) → mine2 c ≡ at_claim v.claim c + mine c) → mine v.claim ≡ 0 → IsWaiting running table s h x → Opened h (Some x.work.claim) x.asker.cell v → StandsOver running table s h mine2 (xs ++ x ∷ []) v
  over_pushed g h mine mine2 xs x v o others holds more fresh waits opened =
      let z = over_stays g h mine mine xs x.work o others holds (λ c. refl) in
      record {
        waiting = waiting_push h xs x z.waiting waits;
        linked = linked_push h xs x v z.linked opened.on;
        own = own_push mine mine2 xs x v o.own more fresh;
      }

  -- the top work ended
  over_popped : (g h : Glimpse) (mine mine2 : ℕ → ℕ) (ys : List (Waiting S b)) (x : Waiting S b) (w : Duty) → StandsOver running table s g mine (ys ++ x ∷ []) w → ((v : Duty) → 0 < claims ys v.claim → StaysOn g h v) → ((c : ℕ) → 0 < mine c → c ≢ w.claim → Holds c g h) → ((c : ℕ) → mine2 c ≡ after_end mine w c) → StandsOver running table s h mine2 ys x.work
  over_popped g h mine mine2 ys x w o stays holds less = record {
    waiting = all_waiting_on g h ys stays (waiting_pop g ys x o.waiting).0;
    linked = linked_on g h ys x.work (λ c m. holds c (held_popped mine ys x w o.own c m) (apart_popped mine ys x w o.own c m)) (linked_pop g ys x w o.linked).0;
    own = own_popped mine ys x w o.own mine2 less;
  }

  -- with a value, as all others stay
  pub over_told : (g h : Glimpse) (mine mine2 : ℕ → ℕ) (ys : List (Waiting S b)) (x : Waiting S b) (w : Duty) → StandsOver running table s g mine (ys ++ x ∷ []) w → ((v : Duty) → 0 < mine v.claim → v.claim ≢ w.claim → StaysOn g h v) → ((c : ℕ) → 0 < mine c → c ≢ w.claim → Holds c g h) → ((c : ℕ) → mine2 c ≡ after_end mine w c) → StandsOver running table s h mine2 ys x.work
  over_told g h mine mine2 ys x w o others holds less = over_popped g h mine mine2 ys x w o (λ v m. others v (held_popped mine ys x w o.own v.claim (omega arith)) (apart_popped mine ys x w o.own v.claim (omega arith))) holds less

  -- and the one that asked asks again
  pub asks_again : (g h : Glimpse) (mine : ℕ → ℕ) (ys : List (Waiting S b)) (x : Waiting S b) (w : Duty) → StandsOver running table s g mine (ys ++ x ∷ []) w → ((v : Duty) → 0 < mine v.claim → v.claim ≢ w.claim → StaysOn g h v) → IsWaiting running table s h x
  asks_again g h mine ys x w o others = waiting_on g h x (others x.work (held_last mine ys x w o.own) (apart_last mine ys x w o.own)) (waiting_pop g ys x o.waiting).1

  -- for which claim the top work was opened
  opened_for : (g : Glimpse) (mine : ℕ → ℕ) (ys : List (Waiting S b)) (x : Waiting S b) (w : Duty) → StandsOver running table s g mine (ys ++ x ∷ []) w → OpenedFor g w (Some x.work.claim)
  opened_for g mine ys x w o = for_part (linked_pop g ys x w o.linked).1

  -- with an error, as all but the one that asked stay
  pub over_thrown : (g h : Glimpse) (mine mine2 : ℕ → ℕ) (ys : List (Waiting S b)) (x : Waiting S b) (w : Duty) → StandsOver running table s g mine (ys ++ x ∷ []) w → ((v : Duty) (asker : Option ℕ) → 0 < mine v.claim → v.claim ≢ w.claim → OpenedFor g w asker → asker ≢ Some v.claim → StaysOn g h v) → ((c : ℕ) → 0 < mine c → c ≢ w.claim → Holds c g h) → ((c : ℕ) → mine2 c ≡ after_end mine w c) → StandsOver running table s h mine2 ys x.work
  over_thrown g h mine mine2 ys x w o others holds less = over_popped g h mine mine2 ys x w o (λ v m. others v (Some x.work.claim) (held_popped mine ys x w o.own v.claim (omega arith)) (apart_popped mine ys x w o.own v.claim (omega arith)) (opened_for g mine ys x w o) (other_asker mine ys x w o.own v.claim m)) holds less

  -- and the one that asked throws the same
  pub throws_too : (g h : Glimpse) (mine : ℕ → ℕ) (ys : List (Waiting S b)) (x : Waiting S b) (w : Duty) (why : Thrown) → StandsOver running table s g mine (ys ++ x ∷ []) w → ((v : Duty) (c : ℕ) → 0 < mine v.claim → v.claim ≢ w.claim → OnCell g w (Some v.claim) c → Throws g h v c why) → RunsTo (basis (ground running table x.code) s.limit) h x.work x.asker.rest.left (throw why)
  throws_too g h mine ys x w why o asker =
      let by = ground running table x.code in
      let q = (waiting_pop g ys x o.waiting).1 in
      asker x.work x.asker.cell (held_last mine ys x w o.own) (apart_last mine ys x w o.own) (linked_pop g ys x w o.linked).1 (basis by s.limit) x.asker.rest.left (asking_plan by x.asker.asking (beneath by x.asker.rest)) q.asks

  pub last_code : (g : Glimpse) (mine : ℕ → ℕ) (ys : List (Waiting S b)) (x : Waiting S b) (w : Duty) → StandsOver running table s g mine (ys ++ x ∷ []) w → IsCode s x.code x.work
  last_code g mine ys x w o = (waiting_pop g ys x o.waiting).1.code

pub is_code : (s : Setting) (code : Code) (w : Duty) → code.program ≡ s.program → code.processors ≡ s.processors → GoesBy code w → IsCode s code w
is_code s code w p q r = record { program = p; processors = q; goes = r }

pub make_halted : (g : Glimpse) (h : Halt) → MakeHalts g h → HaltSeen g h
make_halted g H.Spent e = e
make_halted g H.GaveUp e = elim e [ ]
make_halted g H.Memory e = tt

pub claim_halted : (g : Glimpse) (h : Halt) → ClaimHalts g h → HaltSeen g h
claim_halted g H.Spent e = elim e [ ]
claim_halted g H.GaveUp e = e
claim_halted g H.Memory e = tt

-- How the demands of the calls on a book follow: what was seen of a run is so at the step, and the law is kept.
use Rattle.std.proofs.Common.{◌≡◌, ℕ, suc, ◌<◌, Bool, true, false, Option, Some, length, refl, ap, sym, subst, ◌∙◌}
use Rattle.std.specs.Prelude.{slice_get}
use Rattle.seq_base.specs.declared.thrown.Thrown.{Thrown}
use Rattle.seq_values.specs.Model.{Value}
use Rattle.seq_values.specs.declared.words.Kind.{Kind}
use Rattle.seq_values.specs.declared.words.Kind.TheVariants.{Future}
use Rattle.seq_values.specs.declared.term.Term.{Term as CodedTerm}
use Rattle.seq_values.specs.declared.value.Value.{Value as Coded}
use Rattle.seq_values.specs.Plain.{plain, plain_term}
use Rattle.clj_script.specs.Trees.{Program}
use Rattle.seq_plan.specs.Plan.{Plan, ask, make, give, throw, Rules}
use Rattle.cell_book.specs.declared.cell.Cell.{Cell}
use Rattle.cell_book.specs.Account.{Account, Duty}
use Rattle.cell_book.specs.Steps.{asker_of, Begins, BeginAnswer, Claims, ClaimAnswer, Finishes, Fails, GivesUp, Makes, MakeAnswer}
use Rattle.cell_book.specs.Glimpses.{Glimpse, glimpse, IsAll, IsOpen, Fits, LawIs}
use Rattle.cell_book.proofs.Laws.{meets_law, lawful}
use Rattle.cell_book.proofs.Onwards.{fits_onward, fits_open, fits_reaches}
use Rattle.seq_lawful.specs.Runs.{MayBegin, OnRun, Kept}
use Rattle.seq_lawful.proofs.OnRuns.{on_onward}

module _ (law noted : Account → Type 0) (P : Account → Type 0) where
  module _ (rules : Rules ℕ) (program : Program) (limit : ℕ) (kept : Kept rules program limit P) (alone leads : Bool) (g : Glimpse) (mine : ℕ → ℕ) (is : LawIs alone law noted P) (w : Duty) (own : 0 < mine w.claim) where
    -- what was seen of the run is so in the book at the step
    pub fits_run : (n : ℕ) (p : Plan ℕ) (a : Account) → OnRun rules program limit g w n p → Fits alone leads law noted g mine a → OnRun rules program limit (glimpse a) w n p
    fits_run n p a r f = on_onward rules program limit g (glimpse a) w n p r (fits_onward alone leads law noted g mine a w.claim f own)

    -- The book after each step is lawful, shared or not, and so the call's demand `keeps` is met.
    pub after_finish : (n : ℕ) (v : Coded) (a b : Account) → OnRun rules program limit g w n (give (plain v)) → Fits alone leads law noted g mine a → Finishes a w v b → P b
    after_finish n v a b r f s = kept.finish a b w n v (meets_law alone leads law noted g mine P a is f) (fits_run n (give (plain v)) a r f) s

    pub keeps_finish : ((b : Account) → alone ≡ true → law b) → (n : ℕ) (v : Coded) → OnRun rules program limit g w n (give (plain v)) → (a b : Account) → Fits alone leads law noted g mine a → Finishes a w v b → law b
    keeps_finish free n v r a b f s = lawful alone law noted P b (free b) is (after_finish n v a b r f s)

    pub after_make : (n : ℕ) (kind : Kind) (t : CodedTerm) (k : ℕ → Plan ℕ) (a b : Account) (answer : MakeAnswer) → OnRun rules program limit g w n (make kind (plain_term t) k) → Fits alone leads law noted g mine a → Makes a w t kind answer b → P b
    after_make n kind t k a b answer r f s = kept.make a b w n kind t k answer (meets_law alone leads law noted g mine P a is f) (fits_run n (make kind (plain_term t) k) a r f) s

    pub keeps_make : ((b : Account) → alone ≡ true → law b) → (n : ℕ) (kind : Kind) (t : CodedTerm) (k : ℕ → Plan ℕ) → OnRun rules program limit g w n (make kind (plain_term t) k) → (a b : Account) (answer : MakeAnswer) → Fits alone leads law noted g mine a → Makes a w t kind answer b → law b
    keeps_make free n kind t k r a b answer f s = lawful alone law noted P b (free b) is (after_make n kind t k a b answer r f s)

    -- the work asks for the part
    pub after_claim : (n c : ℕ) (k : Value ℕ → Plan ℕ) (a b : Account) (answer : ClaimAnswer) → OnRun rules program limit g w (suc n) (ask c k) → Fits alone leads law noted g mine a → Claims a c (asker_of (Some w)) answer b → P b
    after_claim n c k a b answer r f s = kept.claim a b w n c k answer (meets_law alone leads law noted g mine P a is f) (fits_run (suc n) (ask c k) a r f) s

    pub keeps_claim : ((b : Account) → alone ≡ true → law b) → (n c : ℕ) (k : Value ℕ → Plan ℕ) → OnRun rules program limit g w (suc n) (ask c k) → (a b : Account) (answer : ClaimAnswer) → Fits alone leads law noted g mine a → Claims a c (asker_of (Some w)) answer b → law b
    keeps_claim free n c k r a b answer f s = lawful alone law noted P b (free b) is (after_claim n c k a b answer r f s)

    pub after_fail : (n : ℕ) (why : Thrown) (a b : Account) → OnRun rules program limit g w n (throw why) → Fits alone leads law noted g mine a → Fails a w why b → P b
    after_fail n why a b r f s = kept.fail a b w n why (meets_law alone leads law noted g mine P a is f) (fits_run n (throw why) a r f) s

    pub keeps_fail : ((b : Account) → alone ≡ true → law b) → (n : ℕ) (why : Thrown) → OnRun rules program limit g w n (throw why) → (a b : Account) → Fits alone leads law noted g mine a → Fails a w why b → law b
    keeps_fail free n why r a b f s = lawful alone law noted P b (free b) is (after_fail n why a b r f s)

    -- the work is open, whatever its run has come to
    pub after_give_up : (a b : Account) → IsOpen g w → Fits alone leads law noted g mine a → GivesUp a w b → P b
    after_give_up a b o f s = kept.give_up a b w (meets_law alone leads law noted g mine P a is f) (fits_open alone leads law noted g mine a w f own o) s

    pub keeps_give_up : ((b : Account) → alone ≡ true → law b) → IsOpen g w → (a b : Account) → Fits alone leads law noted g mine a → GivesUp a w b → law b
    keeps_give_up free o a b f s = lawful alone law noted P b (free b) is (after_give_up a b o f s)

  -- the calls that need no work of one's own
  module _ (rules : Rules ℕ) (program : Program) (limit : ℕ) (kept : Kept rules program limit P) (alone leads : Bool) (g : Glimpse) (mine : ℕ → ℕ) (is : LawIs alone law noted P) where
    -- the part is a future, claimed by any asker or none
    pub after_claim_future : (c : ℕ) (p : Cell) (by : Option Duty) (a b : Account) (answer : ClaimAnswer) → g.cells c ≡ Some p → p.kind ≡ Future → Fits alone leads law noted g mine a → Claims a c (asker_of by) answer b → P b
    after_claim_future c p by a b answer at future f s =
        let q = (fits_reaches alone leads law noted g mine a f).cells c p at in
        kept.claim_future a b c q.0 (asker_of by) answer (meets_law alone leads law noted g mine P a is f) q.1 (q.2.kind ∙ future) s

    pub keeps_claim_future : ((b : Account) → alone ≡ true → law b) → (c : ℕ) (p : Cell) (by : Option Duty) → g.cells c ≡ Some p → p.kind ≡ Future → (a b : Account) (answer : ClaimAnswer) → Fits alone leads law noted g mine a → Claims a c (asker_of by) answer b → law b
    keeps_claim_future free c p by at future a b answer f s = lawful alone law noted P b (free b) is (after_claim_future c p by a b answer at future f s)

    -- a leader knows the whole book that it noted
    pub fits_noted : ((a b : Account) → noted a → noted b → a ≡ b) → leads ≡ true → (a m : Account) → noted m → Fits alone leads law noted g mine a → a ≡ m
    fits_noted one lead a m n f = go alone f
      where
        go : (t : Bool) → Fits t leads law noted g mine a → a ≡ m
        go true f = one a m f.0 n
        go false f = f.whole lead m n

    pub after_begin : ((a b : Account) → noted a → noted b → a ≡ b) → leads ≡ true → (number : ℕ) (m : Account) → noted m → MayBegin rules program limit (glimpse m) number → (a b : Account) (answer : BeginAnswer) → Fits alone leads law noted g mine a → Begins a number answer b → P b
    after_begin one lead number m n may a b answer f s = kept.begin_form a b number answer (meets_law alone leads law noted g mine P a is f) (subst (λ x. MayBegin rules program limit (glimpse x) number) (sym (fits_noted one lead a m n f)) may) s

    -- for a leader that noted the book
    pub keeps_begin : ((b : Account) → alone ≡ true → law b) → ((a b : Account) → noted a → noted b → a ≡ b) → leads ≡ true → (number : ℕ) (m : Account) → noted m → MayBegin rules program limit (glimpse m) number → (a b : Account) (answer : BeginAnswer) → Fits alone leads law noted g mine a → Begins a number answer b → law b
    keeps_begin free one lead number m n may a b answer f s = lawful alone law noted P b (free b) is (after_begin one lead number m n may a b answer f s)

    -- whoever sees the whole book may begin in it what it may by what it sees
    pub all_begins : (number : ℕ) (a : Account) → IsAll g mine a → MayBegin rules program limit g number → MayBegin rules program limit (glimpse a) number
    all_begins number a all m = record {
      top = m.top;
      next = m.next ∙ ap (λ l. suc (length l)) all.begun;
      is_top = subst (λ l. slice_get program.tops (length l) ≡ Some m.top) all.begun m.is_top;
      done = λ k f e. m.done k f (all.forms k ∙ e);
      unspent = sym all.spent ∙ m.unspent;
    }

    -- the same, for one who is alone, by what it sees
    pub keeps_begin_alone : ((b : Account) → alone ≡ true → law b) → alone ≡ true → (number : ℕ) → MayBegin rules program limit g number → (a b : Account) (answer : BeginAnswer) → Fits alone leads law noted g mine a → Begins a number answer b → law b
    keeps_begin_alone free is_alone number may a b answer f s =
        lawful alone law noted P b (free b) is (kept.begin_form a b number answer (meets_law alone leads law noted g mine P a is f) (all_begins number a (subst (λ t. Fits t leads law noted g mine a) is_alone f).1 may) s)

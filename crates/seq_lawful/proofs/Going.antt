-- A work's run over the calls, as one has it who sees the book part by part.
use Rattle.std.proofs.Common.{◌≡◌, ◌≢◌, ℕ, suc, ◌+◌, ◌<◌, Bool, List, [], ◌∷◌, length, map, Option, Some, Ok, refl, ap, sym, subst, ◌∙◌, arith}
use Rattle.seq_base.specs.declared.thrown.Thrown.{Thrown}
use Rattle.seq_values.specs.declared.words.Kind.{Kind}
use Rattle.seq_values.specs.declared.term.Term.{Term as CodedTerm}
use Rattle.seq_values.specs.declared.value.Value.{Value as Coded}
use Rattle.seq_values.specs.Model.{Value, Term, gave}
use Rattle.seq_values.specs.Plain.{plain, plain_term}
use Rattle.clj_script.specs.Trees.{Program}
use Rattle.seq_plan.specs.Plan.{Plan, ask, make, Rules}
use Rattle.cell_book.specs.declared.cell.State.TheVariants as S
use Rattle.cell_book.specs.declared.cell.ClaimEnd.TheVariants as E
use Rattle.cell_book.specs.declared.cell.Cell.{Cell}
use Rattle.cell_book.specs.declared.work.Place.TheVariants as P
use Rattle.cell_book.specs.Account.{Account, Duty, cell_at, closed, made_by}
use Rattle.cell_book.specs.Steps.{new_cell, claimed, Makes, Claims, Opens, Finishes}
use Rattle.cell_book.specs.Glimpses.{Glimpse, glimpse, Onward, Answered, MadeOne, IsForced, Fits, Sees, SeesCell, SeesPlace}
use Rattle.cell_book.proofs.Onwards.{onward_then, onward_made, onward_asked, onward_answered, onward_seen, asked_seen, made_seen, answered_seen, fits_onward}
use Rattle.cell_book.proofs.Moves.{makes_own, makes_here, claims_asked, finishes_answered, ends_shown}
use Rattle.seq_meaning.specs.Trail.{Trail}
use Rattle.seq_lawful.specs.Runs.{script_in, AnswerIn, in_value, MadeIn, OnRun}
use Rattle.seq_lawful.proofs.OnRuns.{on_onward, on_made, on_asked, on_ended, on_answer}
use Rattle.seq_lawful.proofs.Stepping.{put_same}

-- as many makes as numbers of cells
as_many : {A B : Type 0} (f : A → B) (xs : List A) → length (map f xs) ≡ length xs
as_many f [] = refl
as_many f (x ∷ xs) = ap suc (as_many f xs)

no_error : (why : Thrown) → ¬ (E.Value ≡ E.Error why)
no_error why e = cc

-- a claimed cell, as it was seen at the claim's step
pub forced_seen : (a b : Account) (c : ℕ) (asker : Option ℕ) (v : Duty) (h : Glimpse) → Claims a c asker (Ok v) b → SeesCell c b h → IsForced h c v.claim asker
forced_seen a b c asker v h (free, (p, at, empty, f, pl, oc, eq)) cell =
    record { cell = claimed p v.claim asker; past = p.attempts; at = cell ∙ (ap (λ (z : Account). cell_at z c) eq ∙ put_same a.cells c (claimed p v.claim asker) p at); has = record { state = refl; attempts = refl } }

module _ (rules : Rules ℕ) (program : Program) (limit : ℕ) where
  -- the run goes on by itself, without the book
  pub on_walked : (g : Glimpse) (w : Duty) (n m : ℕ) (p q : Plan ℕ) (r : OnRun rules program limit g w n p) → Trail (script_in rules program limit w.outcomes) limit r.whole m q r.asks r.mades → OnRun rules program limit g w m q
  on_walked g w n m p q r t = record { whole = r.whole; asks = r.asks; mades = r.mades; stands = r.stands; trail = t; answers = r.answers; numbers = r.numbers; cells = r.cells; all_asked = r.all_asked }

  -- one step, as it was seen, where the work's claim is open before and after
  module _ (alone leads : Bool) (law noted : Account → Type 0) (g h : Glimpse) (mine mine2 : ℕ → ℕ) (a b : Account) (fits : Fits alone leads law noted g mine a) (sees : Sees leads mine2 g b h) (w : Duty) (own : 0 < mine w.claim) (still : 0 < mine2 w.claim) where
    until : Onward w.claim g (glimpse a)
    until = fits_onward alone leads law noted g mine a w.claim fits own

    -- over a step that leaves the claim as it was
    pub on_beside : (n : ℕ) (p : Plan ℕ) → OnRun rules program limit g w n p → Onward w.claim (glimpse a) (glimpse b) → OnRun rules program limit h w n p
    on_beside n p r o = on_onward rules program limit g h w n p r (onward_seen leads mine2 w.claim g b h (onward_then w.claim g (glimpse a) (glimpse b) until o) sees still)

    -- over its own make
    pub on_makes : (n id : ℕ) (kind : Kind) (t : CodedTerm) (k : ℕ → Plan ℕ) → OnRun rules program limit g w n (make kind (plain_term t) k) → Makes a w t kind (Ok id) b → SeesCell id b h → OnRun rules program limit h w n (k id)
    on_makes n id kind t k r s cell = on_made rules program limit g h w n id kind (plain_term t) k r (made_seen leads mine2 w.claim id g b h (onward_made w.claim id g (glimpse a) (glimpse b) until (makes_own a b w t kind id s)) sees still) (record { cell = new_cell a w t kind; at = cell ∙ makes_here a b w t kind id s; maker = refl; ordinal = place; kind_is = refl; term = refl; outcomes = refl })
      where
        place : length (made_by w.claim a) + 1 ≡ suc (length r.mades)
        place =
            let e : length (made_by w.claim a) ≡ length (map (λ x. x.0) r.mades) = ap length (until.made ∙ r.numbers) in
            let l = as_many (λ x. x.0) r.mades in omega arith

    -- over a claim that it asked for
    pub on_claims : (n c : ℕ) (p : Plan ℕ) (v : Duty) → OnRun rules program limit g w n p → Claims a c (Some w.claim) (Ok v) b → w.claim ≢ v.claim → OnRun rules program limit h w n p
    on_claims n c p v r s apart = on_asked rules program limit g h w n c v.claim p r (asked_seen leads mine2 w.claim c v.claim g b h (onward_asked w.claim c v.claim g (glimpse a) (glimpse b) until (claims_asked a b c w.claim v s apart)) sees still)

    -- over the end of a part's work that it asked for: the value is its answer
    pub on_finished : (n c : ℕ) (k : Value ℕ → Plan ℕ) (v : Duty) (u : Coded) (kind : Kind) (t : CodedTerm) → OnRun rules program limit g w (suc n) (ask c k) → v.place ≡ P.Part c kind t → 0 < mine v.claim → w.claim ≢ v.claim → IsForced g c v.claim (Some w.claim) → Finishes a v u b → SeesPlace v.place b h → OnRun rules program limit h w n (k (plain u))
    on_finished n c k v u kind t r pl held apart forced s place = on_answer rules program limit h w n c k (plain u) over answer
      where
        end : Answered w.claim c (closed v.claim (Some w.claim) E.Value) (glimpse a) (glimpse b)
        end = finishes_answered a b v u w.claim c kind t pl s apart ((fits_onward alone leads law noted g mine a v.claim fits held).holds.forced c (Some w.claim) forced)

        over : OnRun rules program limit h w (suc n) (ask c k)
        over = on_ended rules program limit g h w (suc n) c (ask c k) (closed v.claim (Some w.claim) E.Value) r (answered_seen leads mine2 w.claim c (closed v.claim (Some w.claim) E.Value) g b h (onward_answered w.claim c (closed v.claim (Some w.claim) E.Value) g (glimpse a) (glimpse b) until end) sees still) (λ why e. no_error why e)

        answer : AnswerIn h w.claim c (gave (plain u))
        answer =
            let q = ends_shown a b v E.Value (λ k. S.Done u) (Some u) c kind t pl s in
            in_value q.0 (subst (λ x. SeesPlace x b h) pl place ∙ q.1) q.2.1

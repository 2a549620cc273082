-- How far an open claim's work has come, in the numbers of a book, as far as one has seen it. And what whoever runs works asks of a law of books.
use Rattle.std.specs.Prelude.{◌≡◌, ℕ, suc, ◌<◌, false, List, length, map, Option, Some, slice_get, unwrap_or}
use Rattle.seq_base.specs.declared.thrown.Thrown.{Thrown}
use Rattle.seq_values.specs.declared.words.Kind.{Kind}
use Rattle.seq_values.specs.declared.words.Kind.TheVariants.{Lazy, Future}
use Rattle.seq_values.specs.declared.term.Term.{Term as CodedTerm}
use Rattle.seq_values.specs.declared.value.Value.{Value as Coded}
use Rattle.seq_values.specs.declared.value.Value.TheVariants.{Nil}
use Rattle.seq_values.specs.Model.{Value, Term, Outcome, gave, threw}
use Rattle.seq_values.specs.Plain.{plain, plains, plain_term}
use Rattle.clj_script.specs.Trees.{Top, Program}
use Rattle.seq_plan.specs.Plan.{Plan, ask, make, give, throw, Rules}
use Rattle.cell_book.specs.declared.cell.State.TheVariants as S
use Rattle.cell_book.specs.declared.cell.ClaimEnd.TheVariants as E
use Rattle.cell_book.specs.declared.cell.Attempt.{Attempt}
use Rattle.cell_book.specs.declared.cell.Cell.{Cell}
use Rattle.cell_book.specs.declared.cell.Form.{Form}
use Rattle.cell_book.specs.declared.work.Place.TheVariants as P
use Rattle.cell_book.specs.Account.{Account, Duty, cell_at, is_open}
use Rattle.cell_book.specs.Steps.{HasOpen, begun_form, Begins, BeginAnswer, Makes, MakeAnswer, Claims, ClaimAnswer, Finishes, Fails, GivesUp, IsOpenIn}
use Rattle.cell_book.specs.Glimpses.{Glimpse, glimpse}
use Rattle.seq_meaning.specs.Counts.{IsIn}
use Rattle.seq_meaning.specs.Evaluates.{Script, term_plan, form_plan}
use Rattle.seq_meaning.specs.Trail.{Trail}
use Rattle.seq_meaning.specs.Walk.{Made, made}
use Rattle.seq_meaning.specs.Referred.{referred}
use Rattle.seq_lawful.specs.Sites.{FormDone}

-- what a claim's ask of the cell was answered by, as the book has it
pub data AnswerIn (g : Glimpse) (claim c : ℕ) : Outcome ℕ → Type 0 where
  in_value : {v : Coded} (p : Cell) → g.cells c ≡ Some p → p.state ≡ S.Done v → AnswerIn g claim c (gave (plain v))
  in_failed : {why : Thrown} (p : Cell) → g.cells c ≡ Some p → p.state ≡ S.Failed why → AnswerIn g claim c (threw why)
  in_attempt : {why : Thrown} (p : Cell) (x : Attempt) → g.cells c ≡ Some p → p.kind ≡ Lazy → IsIn x p.attempts → x.asker ≡ Some claim → x.end ≡ E.Error why → AnswerIn g claim c (threw why)

-- the cell is the j-th make of the work
pub record MadeIn (g : Glimpse) (w : Duty) (j c : ℕ) (kind : Kind) (t : Term ℕ) : Type 0 where
  pub cell : Cell
  pub at : g.cells c ≡ Some cell
  pub maker : cell.maker ≡ w.claim
  pub ordinal : cell.ordinal ≡ suc j
  pub kind_is : cell.kind ≡ kind
  pub term : plain_term cell.term ≡ t
  pub outcomes : cell.outcomes ≡ w.outcomes

-- the form at a place before ended, with this value or none
pub data IsBefore (g : Glimpse) (outcomes : List Coded) (i : ℕ) : Type 0 where
  is_before : (f : Form) → g.forms i ≡ Some f → is_open f.attempt.end ≡ false → slice_get outcomes i ≡ Some (unwrap_or f.value Nil) → IsBefore g outcomes i

module _ (rules : Rules ℕ) (program : Program) (limit : ℕ) where
  -- what a work with these values of the forms before goes by
  abbrev pub script_in : List Coded → Script ℕ
  script_in outcomes = record { rules = rules; functions = program.functions; bodies = program.bodies; defs = referred program.tops (plains outcomes) }

  -- the work's claim is open where it says, and this is its whole plan
  pub data Stands (g : Glimpse) (w : Duty) : Plan ℕ → Type 0 where
    stands_part : {id : ℕ} {kind : Kind} {term : CodedTerm} {asker : Option ℕ} {past : List Attempt} (p : Cell) → w.place ≡ P.Part id kind term → g.cells id ≡ Some p → HasOpen p w.claim asker past → p.term ≡ term → p.kind ≡ kind → p.outcomes ≡ w.outcomes → Stands g w (term_plan (script_in w.outcomes) (plain_term term))
    stands_form : {number k : ℕ} {t : Top} → w.place ≡ P.Form number k → g.forms k ≡ Some (begun_form number w.claim) → slice_get program.tops k ≡ Some t → length w.outcomes ≡ k → ((i : ℕ) → i < k → IsBefore g w.outcomes i) → Stands g w (form_plan (script_in w.outcomes) t)

  -- What of the work's run stands in the book: it has come to this plan, with so many own steps left.
  pub record OnRun (g : Glimpse) (w : Duty) (left : ℕ) (plan : Plan ℕ) : Type 0 where
    pub whole : Plan ℕ
    pub asks : List (ℕ × Outcome ℕ)
    pub mades : List (ℕ × Made ℕ)
    pub stands : Stands g w whole
    pub trail : Trail (script_in w.outcomes) limit whole left plan asks mades
    pub answers : (c : ℕ) (o : Outcome ℕ) → IsIn (c, o) asks → AnswerIn g w.claim c o
    -- all its makes in order, and no other
    pub numbers : g.made w.claim ≡ map (λ x. x.0) mades
    pub cells : (j c : ℕ) (kind : Kind) (t : Term ℕ) → slice_get mades j ≡ Some (c, made kind t) → MadeIn g w j c kind t
    -- each attempt that it asked for and that failed is among the answers
    pub all_asked : (c : ℕ) (x : Attempt) (why : Thrown) → IsIn x (g.asked w.claim c) → x.end ≡ E.Error why → IsIn (c, threw why) asks

  -- the form with this number may be begun
  pub record MayBegin (g : Glimpse) (number : ℕ) : Type 0 where
    pub top : Top
    pub next : number ≡ suc (length g.begun)
    pub is_top : slice_get program.tops (length g.begun) ≡ Some top
    pub done : (k : ℕ) (f : Form) → g.forms k ≡ Some f → FormDone program k f
    pub unspent : g.spent ≡ false

  -- what whoever runs works asks of the law of a book: each of its steps keeps it
  pub record Kept (law : Account → Type 0) : Type 0 where
    pub begin_form : (a b : Account) (number : ℕ) (answer : BeginAnswer) → law a → MayBegin (glimpse a) number → Begins a number answer b → law b
    pub make : (a b : Account) (w : Duty) (n : ℕ) (kind : Kind) (t : CodedTerm) (k : ℕ → Plan ℕ) (answer : MakeAnswer) → law a → OnRun (glimpse a) w n (make kind (plain_term t) k) → Makes a w t kind answer b → law b
    pub claim : (a b : Account) (w : Duty) (n c : ℕ) (k : Value ℕ → Plan ℕ) (answer : ClaimAnswer) → law a → OnRun (glimpse a) w (suc n) (ask c k) → Claims a c (Some w.claim) answer b → law b
    pub claim_future : (a b : Account) (c : ℕ) (p : Cell) (asker : Option ℕ) (answer : ClaimAnswer) → law a → cell_at a c ≡ Some p → p.kind ≡ Future → Claims a c asker answer b → law b
    pub finish : (a b : Account) (w : Duty) (n : ℕ) (v : Coded) → law a → OnRun (glimpse a) w n (give (plain v)) → Finishes a w v b → law b
    pub fail : (a b : Account) (w : Duty) (n : ℕ) (why : Thrown) → law a → OnRun (glimpse a) w n (throw why) → Fails a w why b → law b
    pub give_up : (a b : Account) (w : Duty) → law a → IsOpenIn a w → GivesUp a w b → law b

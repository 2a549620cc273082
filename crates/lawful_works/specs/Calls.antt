-- What a work's run has come to where a call is made for it, and what it comes to by the call.
use Rattle.std.specs.Prelude.{◌≡◌, ◌≢◌, ℕ, suc, ◌<◌, Bool, false, Option, Some, None, length, slice_get, IsTrue}
use Rattle.seq_base.specs.declared.thrown.Thrown.{Thrown}
use Rattle.clj_script.specs.Trees.{Top}
use Rattle.seq_values.specs.declared.words.Kind.{Kind}
use Rattle.seq_values.specs.declared.words.Kind.TheVariants.{Future}
use Rattle.seq_values.specs.declared.term.Term.{Term as CodedTerm}
use Rattle.seq_values.specs.declared.value.Value.{Value as Coded}
use Rattle.seq_values.specs.Model.{Value, Term}
use Rattle.seq_values.specs.Plain.{plain, plain_term}
use Rattle.seq_values.specs.WellFormed.{is_well_formed, are_well_formed}
use Rattle.seq_values.specs.WellFormedTerms.{is_well_formed_term}
use Rattle.seq_plan.specs.Plan.{Plan, ask, make, throw}
use Rattle.seq_meaning.specs.Evaluates.{term_plan, form_plan}
use Rattle.cell_book.specs.declared.answers.Look.{Look}
use Rattle.cell_book.specs.declared.answers.Look.TheVariants as L
use Rattle.cell_book.specs.declared.answers.ClaimRefusal.{ClaimRefusal}
use Rattle.cell_book.specs.declared.answers.ClaimRefusal.TheVariants as C
use Rattle.cell_book.specs.declared.cell.State.TheVariants as S
use Rattle.cell_book.specs.declared.cell.Cell.{Cell}
use Rattle.cell_book.specs.declared.cell.Form.{Form}
use Rattle.cell_book.specs.declared.work.Place.{Place}
use Rattle.cell_book.specs.declared.work.Place.TheVariants as P
use Rattle.cell_book.specs.Account.{Account, Duty, is_open}
use Rattle.cell_book.specs.Steps.{shown, begun_form}
use Rattle.cell_book.specs.Glimpses.{Glimpse, glimpse, IsForced}
use Rattle.seq_lawful.specs.Runs.{script_in, MayBegin}
use Rattle.lawful_works.specs.Basis.{Basis, RunsTo, Governs}

module _ (alone : Bool) (law noted : Account → Type 0) where
  -- the book is good
  pub record Governed : Type 0 where
    pub basis : Basis
    pub governs : Governs alone law noted basis

  -- the run has come to this plan
  pub record ComesTo (g : Glimpse) (w : Duty) (plan : Plan ℕ) : Type 0 where
    pub basis : Basis
    pub governs : Governs alone law noted basis
    pub left : ℕ
    pub run : RunsTo basis g w left plan

  -- it makes this part next
  pub record MakesNext (g : Glimpse) (w : Duty) (kind : Kind) (t : Term ℕ) : Type 0 where
    pub basis : Basis
    pub governs : Governs alone law noted basis
    pub left : ℕ
    pub after : ℕ → Plan ℕ
    pub run : RunsTo basis g w left (make kind t after)

  -- it asks for this cell next
  pub record AsksNext (g : Glimpse) (w : Duty) (c : ℕ) : Type 0 where
    pub basis : Basis
    pub governs : Governs alone law noted basis
    pub left : ℕ
    pub after : Value ℕ → Plan ℕ
    pub run : RunsTo basis g w (suc left) (ask c after)

  -- the cell is a future
  pub record IsFuture (g : Glimpse) (c : ℕ) : Type 0 where
    pub basis : Basis
    pub governs : Governs alone law noted basis
    pub cell : Cell
    pub at : g.cells c ≡ Some cell
    pub future : cell.kind ≡ Future

  -- the form may be begun in the book, which is known
  pub record FormNext (number : ℕ) : Type 0 where
    pub basis : Basis
    pub governs : Governs alone law noted basis
    pub book : Account
    pub known : noted book
    pub may : MayBegin basis.rules basis.program basis.limit (glimpse book) number

-- Whoever makes a part goes on with its number.
abbrev pub Made : Glimpse → Glimpse → Duty → Kind → Term ℕ → ℕ → Type 0
Made g h w kind t id = (y : Basis) (left : ℕ) (k : ℕ → Plan ℕ) → RunsTo y g w left (make kind t k) → RunsTo y h w left (k id)

-- Whoever asks goes on with the value of a part that is done, throws the error of a future that failed, and otherwise still asks.
abbrev pub GoesOn : Glimpse → Glimpse → Duty → ℕ → Look → Type 0
GoesOn g h w c (L.Done v) = IsTrue (is_well_formed v) × ((y : Basis) (left : ℕ) (k : Value ℕ → Plan ℕ) → RunsTo y g w (suc left) (ask c k) → RunsTo y h w left (k (plain v)))
GoesOn g h w c (L.Failed why) = (y : Basis) (left : ℕ) (k : Value ℕ → Plan ℕ) → RunsTo y g w (suc left) (ask c k) → RunsTo y h w left (throw why)
GoesOn g h w c L.Empty = Unit {0}
GoesOn g h w c (L.Forcing claim) = Unit {0}
GoesOn g h w c L.Unknown = ⊥

-- It is what the part was seen to show, and the part was made.
pub record Looked (g h : Glimpse) (w : Duty) (c : ℕ) (look : Look) : Type 0 where
  pub shows : look ≡ shown (h.cells c)
  pub goes : GoesOn g h w c look

-- a refused claim is a look at a part that isn't empty
abbrev pub Refused : Glimpse → Glimpse → Duty → ℕ → ClaimRefusal → Type 0
Refused g h w c (C.Seen look) = (look ≢ L.Empty) × Looked g h w c look
Refused g h w c C.GaveUp = Unit {0}
Refused g h w c C.Memory = Unit {0}

-- the work is on this cell, and was opened for the asker
pub record OnCell (g : Glimpse) (w : Duty) (asker : Option ℕ) (c : ℕ) : Type 0 where
  pub kind : Kind
  pub term : CodedTerm
  pub place : w.place ≡ P.Part c kind term
  pub forced : IsForced g c w.claim asker

-- for which claim the work was opened
pub data OpenedFor (g : Glimpse) (w : Duty) : Option ℕ → Type 0 where
  for_part : {c : ℕ} {asker : Option ℕ} → OnCell g w asker c → OpenedFor g w asker
  for_form : {number k : ℕ} → w.place ≡ P.Form number k → g.forms k ≡ Some (begun_form number w.claim) → OpenedFor g w None

-- The work is on this cell, and was opened for the asker. It is at the start of its run, and all that it has is well formed.
pub record Opened (h : Glimpse) (asker : Option ℕ) (c : ℕ) (w : Duty) : Type 0 where
  pub on : OnCell h w asker c
  pub proper : IsTrue (is_well_formed_term on.term)
  pub kept : IsTrue (are_well_formed w.outcomes)
  pub starts : (y : Basis) → RunsTo y h w y.limit (term_plan (script_in y.rules y.program y.limit w.outcomes) (plain_term on.term))

-- The work is at the start of its form's run, where the forms before were seen to have ended.
pub record FormOpened (g h : Glimpse) (w : Duty) : Type 0 where
  pub kept : IsTrue (are_well_formed w.outcomes)
  pub starts : (y : Basis) (t : Top) → slice_get y.program.tops (length g.begun) ≡ Some t → ((k : ℕ) → k < length g.begun → (f : Form) × (g.forms k ≡ Some f) × (is_open f.attempt.end ≡ false)) → RunsTo y h w y.limit (form_plan (script_in y.rules y.program y.limit w.outcomes) t)

-- Whoever asked for this cell throws the error.
abbrev pub Throws : Glimpse → Glimpse → Duty → ℕ → Thrown → Type 0
Throws g h w c why = (y : Basis) (left : ℕ) (k : Value ℕ → Plan ℕ) → RunsTo y g w (suc left) (ask c k) → RunsTo y h w left (throw why)

-- the form or the part of the work has this value
abbrev pub HasValue : Glimpse → Duty → Coded → Type 0
HasValue h w v = At w.place
  where
    At : Place → Type 0
    At (P.Form number k) = (f : Form) × (h.forms k ≡ Some f) × (f.value ≡ Some v)
    At (P.Part id kind term) = (p : Cell) × (h.cells id ≡ Some p) × (p.state ≡ S.Done v)

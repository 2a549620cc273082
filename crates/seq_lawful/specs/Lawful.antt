-- What the cells and claims of a book are called, and when a book is lawful.
use Rattle.std.specs.Prelude.{◌≡◌, ℕ, suc, ◌<◌, ◌≤◌, true, false, List, length, Some, slice_get}
use Rattle.seq_base.specs.declared.thrown.Thrown.{Thrown}
use Rattle.seq_values.specs.declared.words.Kind.TheVariants.{Lazy, Future}
use Rattle.seq_values.specs.declared.value.Value.{Value as Coded}
use Rattle.seq_values.specs.Model.{Value, Term, Outcome, gave, threw}
use Rattle.seq_values.specs.Plain.{plains, plain_term}
use Rattle.clj_script.specs.Trees.{Top, Program}
use Rattle.seq_plan.specs.Plan.{Plan, give, throw, Rules}
use Rattle.seq_plan.specs.Alike.{Likeness, by, LikeList, LikeTerm, LikeOutcome}
use Rattle.cell_book.specs.declared.cell.State.TheVariants as S
use Rattle.cell_book.specs.declared.cell.ClaimEnd.TheVariants as E
use Rattle.cell_book.specs.declared.cell.Attempt.{Attempt}
use Rattle.cell_book.specs.declared.cell.Cell.{Cell}
use Rattle.cell_book.specs.declared.cell.Form.{Form}
use Rattle.cell_book.specs.Account.{Account, cell_at}
use Rattle.seq_meaning.specs.Counts.{IsIn, Distinct, FormsFit}
use Rattle.seq_meaning.specs.Gives.{Work, work, Task, of_term, script_of, task_plan, run, Of, Part, True, Gives}
use Rattle.seq_meaning.specs.Names.{Name, form, part, retry}
use Rattle.seq_meaning.specs.Trail.{Trail, Calls}
use Rattle.seq_meaning.specs.Walk.{Made, needs}
use Rattle.seq_meaning.specs.Referred.{referred}
use Rattle.seq_lawful.specs.Refers.{Reaches}
use Rattle.seq_lawful.specs.Sites.{Mode, any_name, own_name, Site, ClaimAt, Founded, HasAsker, HasMade, Ended, StateOf, ValueOf, FormDone}

-- a plan that has come to its end
pub data AtEnd : Plan Name → Outcome Name → Type 0 where
  at_give : {v : Value Name} → AtEnd (give v) (gave v)
  at_throw : {why : Thrown} → AtEnd (throw why) (threw why)

module _ (rules : Rules Name) (program : Program) (limit : ℕ) where
  -- the part's name is its claims' name too
  pub data Keeps : Mode → Name → Type 0 where
    keeps_any : {n : Name} → Keeps any_name n
    keeps_own : {n : Name} → ((why : Thrown) → ¬ (Gives rules program limit n (threw why))) → Keeps own_name n

  -- the run of an evaluation needs the part
  pub data Needs (e n : Name) : Type 0 where
    needs_it : {w : Work} {os : List (Outcome Name)} {ms : List (Made Name)} → Of rules program limit e w → True rules program limit e os → run rules program limit e w os ≡ needs n ms → Needs e n

  module _ (a : Account) (mode : Mode) where
    mutual
      -- the name of the cell with a number: that of its maker, and its ordinal
      pub data CellName : ℕ → Name → Type 0 where
        cell_name : {id : ℕ} {p : Cell} {e : Name} → cell_at a id ≡ Some p → ClaimName p.maker e → CellName id (part e p.ordinal)

      -- The name of the claim with a number. A form's claim has the form's name, a future's the future's. A claim on a lazy part that gives an error is the retry of its asker, else it has the part's name.
      pub data ClaimName : ℕ → Name → Type 0 where
        form_name : {c k : ℕ} {f : Form} → slice_get a.forms k ≡ Some f → f.attempt.claim ≡ c → ClaimName c (form (suc k))
        future_name : {c id : ℕ} {p : Cell} {x : Attempt} {n : Name} → cell_at a id ≡ Some p → IsIn x p.attempts → x.claim ≡ c → p.kind ≡ Future → CellName id n → ClaimName c n
        failing_name : {c id b : ℕ} {p : Cell} {x : Attempt} {n m : Name} {why : Thrown} → cell_at a id ≡ Some p → IsIn x p.attempts → x.claim ≡ c → p.kind ≡ Lazy → x.asker ≡ Some b → CellName id n → Gives rules program limit n (threw why) → Needs m n → ClaimName b m → ClaimName c (retry m)
        other_name : {c id : ℕ} {p : Cell} {x : Attempt} {n : Name} → cell_at a id ≡ Some p → IsIn x p.attempts → x.claim ≡ c → p.kind ≡ Lazy → CellName id n → Keeps mode n → ClaimName c n

    -- which numbers of cells are which names
    abbrev pub called : Likeness ℕ Name
    called = by CellName

    -- the cell is the part of the name
    pub data IsPartOf (p : Cell) (n : Name) : Type 0 where
      is_part_of : {defs : List (Value Name)} {t : Term Name} → Part rules program limit n p.kind (work defs (of_term t)) → LikeTerm called (plain_term p.term) t → LikeList called (referred program.tops (plains p.outcomes)) defs → IsPartOf p n

    -- what the claim c asked stands in the book: a value, a failed future, or a failed attempt by c
    pub data Answered (c : ℕ) (n : Name) : Type 0 where
      by_value : {id : ℕ} {p : Cell} {v : Coded} → cell_at a id ≡ Some p → CellName id n → p.state ≡ S.Done v → Answered c n
      by_future : {id : ℕ} {p : Cell} {why : Thrown} → cell_at a id ≡ Some p → CellName id n → p.state ≡ S.Failed why → Answered c n
      by_attempt : {id : ℕ} {p : Cell} {x : Attempt} {why : Thrown} → cell_at a id ≡ Some p → CellName id n → p.kind ≡ Lazy → IsIn x p.attempts → x.asker ≡ Some c → x.end ≡ E.Error why → Answered c n

    -- a true answer that the book has
    pub data Told (c : ℕ) (n : Name) (u : Outcome Name) : Type 0 where
      told : Gives rules program limit n u → Answered c n → Told c n u

    -- the outcome of the name is that one
    pub data GivesSo (n : Name) (o : Outcome ℕ) : Type 0 where
      gives_so : {u : Outcome Name} → Gives rules program limit n u → LikeOutcome called o u → GivesSo n o

    -- The claim's run ends so under the name. All that it asked and made stands in the book.
    pub data EndsSo (c : ℕ) (e : Name) (o : Outcome ℕ) : Type 0 where
      ends_so : {defs : List (Value Name)} {task : Task} {left : ℕ} {q : Plan Name} {asks : List (Name × Outcome Name)} {makes : List (Name × Made Name)} {u : Outcome Name} → Of rules program limit e (work defs task) → Trail (script_of rules program limit defs) limit (task_plan rules program limit defs task) left q asks makes → Calls (λ j. part e j) makes → ((n : Name) (r : Outcome Name) → IsIn (n, r) asks → Told c n r) → AtEnd q u → LikeOutcome called o u → ((j : ℕ) (m : Name × Made Name) → slice_get makes j ≡ Some m → HasMade a c (suc j)) → EndsSo c e o

  module _ (a : Account) where
    -- A lawful book. It says nothing of how a book came about.
    pub record Lawful : Type 0 where
      -- Names are apart: no two cells have one name, and no two records of claims have one number.
      pub one_cell_each : (i j : ℕ) (n : Name) → CellName a own_name i n → CellName a own_name j n → i ≡ j
      pub one_claim_each : (s t : Site) (x y : Attempt) → ClaimAt a s x → ClaimAt a t y → x.claim ≡ y.claim → (s ≡ t) × (x ≡ y)
      -- Each cell is the part of each of its names.
      pub parts : (mode : Mode) (id : ℕ) (p : Cell) (n : Name) → cell_at a id ≡ Some p → CellName a mode id n → IsPartOf a mode p n
      -- Makers and askers are claims of the book, back to the forms. Whoever asked for a lazy part needs it.
      pub makers : (id : ℕ) (p : Cell) → cell_at a id ≡ Some p → Founded a p.maker
      pub askers : (id : ℕ) (p : Cell) (x : Attempt) → cell_at a id ≡ Some p → IsIn x p.attempts → p.kind ≡ Lazy → HasAsker a x
      pub asked : (id : ℕ) (p : Cell) (x : Attempt) (b : ℕ) (n e : Name) → cell_at a id ≡ Some p → IsIn x p.attempts → p.kind ≡ Lazy → x.asker ≡ Some b → CellName a own_name id n → ClaimName a own_name b e → Needs e n
      -- No two claims have one name, until a make was refused for the limit.
      pub claims_apart : a.spent ≡ false → (c d : ℕ) (e : Name) → ClaimName a own_name c e → ClaimName a own_name d e → c ≡ d
      -- What a claim ended by is what each of its names gives, and what it asked and made stands in the book.
      pub ended : (mode : Mode) (s : Site) (x : Attempt) (o : Outcome ℕ) (e : Name) → ClaimAt a s x → Ended a s x o → ClaimName a mode x.claim e → EndsSo a mode x.claim e o
      -- No attempt stands twice at a cell.
      pub attempts_once : (id : ℕ) (p : Cell) → cell_at a id ≡ Some p → Distinct p.attempts
      -- A claim's makes have the ordinals from 1 on without a gap.
      pub no_gaps : (id : ℕ) (p : Cell) (j : ℕ) → cell_at a id ≡ Some p → suc j < p.ordinal → HasMade a p.maker (suc j)
      -- The state of a cell and the value of a form are those that the claims left; whoever was given up is noted.
      pub states : (id : ℕ) (p : Cell) → cell_at a id ≡ Some p → StateOf p.kind p.attempts p.state
      pub values : (k : ℕ) (f : Form) → slice_get a.forms k ≡ Some f → ValueOf f
      pub noted : (s : Site) (x : Attempt) → ClaimAt a s x → x.end ≡ E.GivenUp → a.gave_up ≡ true
      -- The cells are within the limit, and a make was refused only where the forms begun make more parts than that.
      pub within : length a.cells ≤ a.limit
      pub spent_at_limit : a.spent ≡ true → a.limit ≤ length a.cells
      pub spent_over : a.spent ≡ true → ¬ (FormsFit rules program limit a.limit (length a.forms))
      -- The forms begun are the first ones of the program, in order, and all but the last are done.
      pub forms_are : (k : ℕ) (f : Form) → slice_get a.forms k ≡ Some f → (f.number ≡ suc k) × (t : Top) × (slice_get program.tops k ≡ Some t)
      pub forms_done : (k : ℕ) (f : Form) → slice_get a.forms k ≡ Some f → suc k < length a.forms → FormDone program k f
      -- No cell reaches itself.
      pub acyclic : (id : ℕ) → ¬ (Reaches program.tops a id id)

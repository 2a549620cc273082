-- What the run of an evaluation is, from its trail in numbers: for any relation of numbers and names.
use Rattle.std.specs.Prelude.{◌≡◌, ℕ, suc, List, length, Some, slice_get}
use Rattle.seq_base.specs.declared.thrown.Thrown.{Thrown}
use Rattle.seq_values.specs.declared.words.Kind.{Kind}
use Rattle.seq_values.specs.Model.{Value, Term, Outcome, gave, threw}
use Rattle.clj_script.specs.Trees.{Program}
use Rattle.seq_plan.specs.Plan.{Plan, ask, make, give, throw, Rules}
use Rattle.seq_plan.specs.Alike.{by, Like, LikeTerm, LikePlan}
use Rattle.seq_meaning.specs.Alike.{LikeScript}
use Rattle.seq_meaning.specs.Evaluates.{Script}
use Rattle.seq_meaning.specs.Follows.{Follows, HasLikes}
use Rattle.seq_meaning.specs.Gives.{Work, work, of_term, Task, script_of, task_plan, run, Of, Part, True, Gives}
use Rattle.seq_meaning.specs.Names.{Name, part}
use Rattle.seq_meaning.specs.Trail.{Trail, Calls}
use Rattle.seq_meaning.specs.TrueTrail.{TrueSo}
use Rattle.seq_meaning.specs.Walk.{Made, needs}

module _ (same : ℕ → Name → Type 0) (rules : Rules Name) (program : Program) (limit : ℕ) where
  -- A trail in numbers of the evaluation's work. What it asked is answered as the names of those parts give, whichever names they are; and what it made is called by the evaluation's own numbers.
  pub record TrailUnder (named : ℕ → Name) (e : Name) (defs : List (Value Name)) (task : Task) (left : ℕ) (plan : Plan ℕ) (asked : List (ℕ × Outcome ℕ)) (mades : List (ℕ × Made ℕ)) : Type 0 where
    pub script : Script ℕ
    pub whole : Plan ℕ
    pub of : Of rules program limit e (work defs task)
    pub like_script : LikeScript (by same) script (script_of rules program limit defs)
    pub like_whole : LikePlan (by same) whole (task_plan rules program limit defs task)
    pub trail : Trail script limit whole left plan asked mades
    pub likes : HasLikes (by same) named (Gives rules program limit) asked mades
    pub called : (i : ℕ) (x : ℕ × Made ℕ) → slice_get mades i ≡ Some x → named x.0 ≡ part e (suc i)

  -- it goes the same way in names, with true answers
  pub record GoesInNames (named : ℕ → Name) (e : Name) (defs : List (Value Name)) (task : Task) (left : ℕ) (plan : Plan ℕ) (asked : List (ℕ × Outcome ℕ)) (mades : List (ℕ × Made ℕ)) : Type 0 where
    pub follows : Follows (by same) named (Gives rules program limit) (script_of rules program limit defs) limit (task_plan rules program limit defs task) left plan asked mades
    pub is_true : TrueSo rules program limit e (work defs task) follows.asks
    -- its makes are called by the evaluation and their place
    pub calls : Calls (λ j. part e j) follows.makes

  -- the run needs a name of the cell
  pub data NeedsCell (e : Name) (w : Work) (c : ℕ) : Type 0 where
    needs_cell : {d : Name} {a : List (Outcome Name)} {ms : List (Made Name)} → same c d → True rules program limit e a → run rules program limit e w a ≡ needs d ms → NeedsCell e w c

  -- the evaluation gives a value that is alike
  pub data GivesLike (e : Name) (v : Value ℕ) : Type 0 where
    gives_like : {u : Value Name} → Like (by same) v u → Gives rules program limit e (gave u) → GivesLike e v

  -- the part is one of that kind, with a like term
  pub data IsLikePart (n : Name) (kind : Kind) (defs : List (Value Name)) (t : Term ℕ) : Type 0 where
    is_like_part : {u : Term Name} → LikeTerm (by same) t u → Part rules program limit n kind (work defs (of_term u)) → IsLikePart n kind defs t

module _ (same : ℕ → Name → Type 0) where
  -- A trail in numbers goes the same way in names.
  abbrev pub TrailInNames : Type 0
  TrailInNames = (rules : Rules Name) (program : Program) (limit : ℕ) (named : ℕ → Name) (e : Name) (defs : List (Value Name)) (task : Task) (left : ℕ) (plan : Plan ℕ) (asked : List (ℕ × Outcome ℕ)) (mades : List (ℕ × Made ℕ)) → TrailUnder same rules program limit named e defs task left plan asked mades → GoesInNames same rules program limit named e defs task left plan asked mades

  -- Where it comes to an ask, and a step is left, the run needs a name of that cell.
  abbrev pub NamedNeeds : Type 0
  NamedNeeds = (rules : Rules Name) (program : Program) (limit : ℕ) (named : ℕ → Name) (e : Name) (defs : List (Value Name)) (task : Task) (left c : ℕ) (k : Value ℕ → Plan ℕ) (asked : List (ℕ × Outcome ℕ)) (mades : List (ℕ × Made ℕ)) → TrailUnder same rules program limit named e defs task (suc left) (ask c k) asked mades → NeedsCell same rules program limit e (work defs task) c

  -- Where it comes to a value, the evaluation gives one that is alike.
  abbrev pub NamedGives : Type 0
  NamedGives = (rules : Rules Name) (program : Program) (limit : ℕ) (named : ℕ → Name) (e : Name) (defs : List (Value Name)) (task : Task) (left : ℕ) (v : Value ℕ) (asked : List (ℕ × Outcome ℕ)) (mades : List (ℕ × Made ℕ)) → TrailUnder same rules program limit named e defs task left (give v) asked mades → GivesLike same rules program limit e v

  -- Where it comes to an error, the evaluation throws it.
  abbrev pub NamedThrows : Type 0
  NamedThrows = (rules : Rules Name) (program : Program) (limit : ℕ) (named : ℕ → Name) (e : Name) (defs : List (Value Name)) (task : Task) (left : ℕ) (x : Thrown) (asked : List (ℕ × Outcome ℕ)) (mades : List (ℕ × Made ℕ)) → TrailUnder same rules program limit named e defs task left (throw x) asked mades → Gives rules program limit e (threw x)

  -- Where it comes to a make, the evaluation's next part is of that kind, with a like term.
  abbrev pub NamedMakes : Type 0
  NamedMakes = (rules : Rules Name) (program : Program) (limit : ℕ) (named : ℕ → Name) (e : Name) (defs : List (Value Name)) (task : Task) (left : ℕ) (kind : Kind) (t : Term ℕ) (k : ℕ → Plan ℕ) (asked : List (ℕ × Outcome ℕ)) (mades : List (ℕ × Made ℕ)) → TrailUnder same rules program limit named e defs task left (make kind t k) asked mades → IsLikePart same rules program limit (part e (suc (length mades))) kind defs t

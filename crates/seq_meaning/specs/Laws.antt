-- The laws over the definitions, as statements. They hold of every table of rules, but for those that ask that the rules rename.
use Rattle.std.specs.Prelude.{◌≡◌, ℕ, suc, Bool, true, List, ◌∷◌, ◌++◌, length, Some, slice_get, ◌⊎◌}
use Rattle.seq_base.specs.declared.thrown.Thrown.{Thrown}
use Rattle.seq_values.specs.declared.words.Kind.{Kind}
use Rattle.seq_values.specs.declared.words.Kind.TheVariants.{Lazy}
use Rattle.seq_values.specs.Model.{Value, Term, Outcome, gave, threw}
use Rattle.clj_script.specs.Trees.{Program}
use Rattle.seq_plan.specs.Plan.{Rules, Plan, ask, make, give, throw}
use Rattle.seq_plan.specs.Alike.{Tells, LikePlan}
use Rattle.seq_plan.specs.Silent.{Silently}
use Rattle.seq_plan.specs.Sound.{Sound, SoundList, SoundRules}
use Rattle.seq_plan.specs.WellFormed.{Well, WellList, WellTerm}
use Rattle.seq_plan.specs.Keeping.{KeepsRules}
use Rattle.seq_meaning.specs.Evaluates.{Script}
use Rattle.seq_meaning.specs.Walk.{Made, made, needs, ends, makes_of, walk}
use Rattle.seq_meaning.specs.Names.{Name, part, retry}
use Rattle.seq_meaning.specs.Gives.{Work, work, Task, of_term, script_of, task_plan, run, Of, Part, True, Gives, Before}
use Rattle.seq_meaning.specs.Alike.{LikeScript, LikeAnswers, LikeRun}
use Rattle.seq_meaning.specs.Twins.{TwinEval, twin_cells, LikeWork, Renames}
use Rattle.seq_meaning.specs.Counts.{IsIn}
use Rattle.seq_meaning.specs.Referred.{referred}
use Rattle.seq_meaning.specs.More.{OneMore, IsDefined}
use Rattle.seq_meaning.specs.Reached.{Reached}
use Rattle.seq_meaning.specs.Trail.{Trail, answers_of, mades_of, Calls}
use Rattle.seq_meaning.specs.TrueTrail.{TrueSo}

-- each name has at most one work
abbrev pub OneWork : Type 0
OneWork = (rules : Rules Name) (program : Program) (limit : ℕ) (e : Name) (w v : Work) → Of rules program limit e w → Of rules program limit e v → w ≡ v

-- each part is of one kind and has one work
abbrev pub OnePart : Type 0
OnePart = (rules : Rules Name) (program : Program) (limit : ℕ) (n : Name) (kind other : Kind) (w v : Work) → Part rules program limit n kind w → Part rules program limit n other v → (kind ≡ other) × (w ≡ v)

-- each name gives at most one outcome
abbrev pub OneOutcome : Type 0
OneOutcome = (rules : Rules Name) (program : Program) (limit : ℕ) (e : Name) (o p : Outcome Name) → Gives rules program limit e o → Gives rules program limit e p → o ≡ p

-- a name has at most one list of true answers of a length
abbrev pub OneAnswer : Type 0
OneAnswer = (rules : Rules Name) (program : Program) (limit : ℕ) (e : Name) (a b : List (Outcome Name)) → True rules program limit e a → True rules program limit e b → length a ≡ length b → a ≡ b

-- of two lists of true answers one is the other with more answers, the last one first
abbrev pub OneOrder : Type 0
OneOrder = (rules : Rules Name) (program : Program) (limit : ℕ) (e : Name) (a b : List (Outcome Name)) → True rules program limit e a → True rules program limit e b → ((more : List (Outcome Name)) × (a ≡ more ++ b)) ⊎ ((more : List (Outcome Name)) × (b ≡ more ++ a))

-- each list of answers has a run, which is over just where a run of fewer of them has ended
abbrev pub RunDefined : Type 0
RunDefined = (rules : Rules Name) (program : Program) (limit : ℕ) (e : Name) (w : Work) (a : List (Outcome Name)) → IsDefined (run rules program limit e w) a

-- what one more answer does to a run; an error ends it
abbrev pub RunGoesOn : Type 0
RunGoesOn = (rules : Rules Name) (program : Program) (limit : ℕ) (e : Name) (w : Work) (a : List (Outcome Name)) (o : Outcome Name) → OneMore o (run rules program limit e w a) (run rules program limit e w (o ∷ a))

-- after a thrown answer nothing is needed
abbrev pub NoneAfterThrow : Type 0
NoneAfterThrow = (rules : Rules Name) (program : Program) (limit : ℕ) (e : Name) (w : Work) (a more : List (Outcome Name)) (x : Thrown) (n : Name) (ms : List (Made Name)) → ¬ (run rules program limit e w (more ++ threw x ∷ a) ≡ needs n ms)

-- the makes under a longer list of true answers begin with those under a shorter one
abbrev pub MakesGrow : Type 0
MakesGrow = (rules : Rules Name) (program : Program) (limit : ℕ) (e : Name) (w : Work) (a more : List (Outcome Name)) → Of rules program limit e w → True rules program limit e (more ++ a) → (ms : List (Made Name)) × (makes_of (run rules program limit e w (more ++ a)) ≡ makes_of (run rules program limit e w a) ++ ms)

-- A run in numbers is like the run in names: like plans, walked with like answers and like names for the makes, run alike. The test tells which name a number has.
abbrev pub RunsRename : Type 0
RunsRename = (test : ℕ → Name → Bool) (s : Script ℕ) (t : Script Name) → LikeScript (Tells test) s t → (number_of : ℕ → ℕ) (name_of : ℕ → Name) → ((j : ℕ) → test (number_of j) (name_of j) ≡ true) → (n : ℕ) (p : Plan ℕ) (q : Plan Name) → LikePlan (Tells test) p q → (j : ℕ) (os : List (Outcome ℕ)) (ps : List (Outcome Name)) → LikeAnswers (Tells test) os ps → LikeRun (Tells test) (walk s number_of n p j os) (walk t name_of n q j ps)

-- two evaluations of one work run alike, where the rules rename
abbrev pub TwinsRunAlike : Type 0
TwinsRunAlike = (rules : Rules Name) → Renames rules → (program : Program) (limit : ℕ) (p q e f : Name) → TwinEval p q e f → (w v : Work) → LikeWork (twin_cells p q) w v → (a b : List (Outcome Name)) → LikeAnswers (twin_cells p q) a b → LikeRun (twin_cells p q) (run rules program limit e w a) (run rules program limit f v b)

-- An attempt at a lazy part that gives an error gives that error itself, where the rules rename.
abbrev pub RetryThrows : Type 0
RetryThrows = (rules : Rules Name) → Renames rules → (program : Program) (limit : ℕ) (e n : Name) (w v : Work) (a : List (Outcome Name)) (ms : List (Made Name)) (x : Thrown) → Of rules program limit e w → True rules program limit e a → run rules program limit e w a ≡ needs n ms → Part rules program limit n Lazy v → Gives rules program limit n (threw x) → Gives rules program limit (retry e) (threw x)

-- Where the rules keep to sound values, every evaluation that gives a value gives a sound one, and every part is of a term of sound values, with sound values of the forms before.
abbrev pub AllIsSound : Type 0
AllIsSound = (rules : Rules Name) → SoundRules rules → (program : Program) (limit : ℕ) → ((e : Name) (v : Value Name) → Gives rules program limit e (gave v) → Sound v) × ((n : Name) (kind : Kind) (defs : List (Value Name)) (t : Term Name) → Part rules program limit n kind (work defs (of_term t)) → SoundList defs × SoundList t.args)

-- Where the rules keep to well-formed values, every evaluation that gives a value gives a well-formed one, and every part is of a well-formed term, with well-formed values of the forms before.
abbrev pub AllIsWell : Type 0
AllIsWell = (rules : Rules Name) → KeepsRules rules → (program : Program) (limit : ℕ) → ((e : Name) (v : Value Name) → Gives rules program limit e (gave v) → Well v) × ((n : Name) (kind : Kind) (defs : List (Value Name)) (t : Term Name) → Part rules program limit n kind (work defs (of_term t)) → WellList defs × WellTerm t)

-- a trail is a part of the walk on its answers, however the further makes will be called
abbrev pub TrailRuns : Type 0
TrailRuns = (script : Script ℕ) (limit : ℕ) (whole : Plan ℕ) (n : ℕ) (p : Plan ℕ) (asked : List (ℕ × Outcome ℕ)) (mades : List (ℕ × Made ℕ)) → Trail script limit whole n p asked mades → (cell_of : ℕ → ℕ) → Calls cell_of mades → Reached script cell_of limit whole n p (suc (length mades)) (mades_of mades) (answers_of asked)

-- where a trail comes to an ask, and a step is left, the walk on its answers needs that part
abbrev pub TrailNeeds : Type 0
TrailNeeds = (script : Script ℕ) (limit : ℕ) (whole : Plan ℕ) (n c : ℕ) (k : Value ℕ → Plan ℕ) (asked : List (ℕ × Outcome ℕ)) (mades : List (ℕ × Made ℕ)) → Trail script limit whole (suc n) (ask c k) asked mades → (cell_of : ℕ → ℕ) → Calls cell_of mades → walk script cell_of limit whole 1 (answers_of asked) ≡ needs c (mades_of mades)

-- where it comes to a value or to an error, the walk ends by it
abbrev pub TrailGives : Type 0
TrailGives = (script : Script ℕ) (limit : ℕ) (whole : Plan ℕ) (n : ℕ) (v : Value ℕ) (asked : List (ℕ × Outcome ℕ)) (mades : List (ℕ × Made ℕ)) → Trail script limit whole n (give v) asked mades → (cell_of : ℕ → ℕ) → Calls cell_of mades → walk script cell_of limit whole 1 (answers_of asked) ≡ ends (gave v) (mades_of mades)

abbrev pub TrailThrows : Type 0
TrailThrows = (script : Script ℕ) (limit : ℕ) (whole : Plan ℕ) (n : ℕ) (x : Thrown) (asked : List (ℕ × Outcome ℕ)) (mades : List (ℕ × Made ℕ)) → Trail script limit whole n (throw x) asked mades → (cell_of : ℕ → ℕ) → Calls cell_of mades → walk script cell_of limit whole 1 (answers_of asked) ≡ ends (threw x) (mades_of mades)

-- a trail goes on over what a rule may pass over
abbrev pub TrailPasses : Type 0
TrailPasses = (script : Script ℕ) (limit : ℕ) (whole : Plan ℕ) (n : ℕ) (p q : Plan ℕ) (asked : List (ℕ × Outcome ℕ)) (mades : List (ℕ × Made ℕ)) → Trail script limit whole n p asked mades → Silently script.rules.on_loop p q → Trail script limit whole n q asked mades

-- A trail of an evaluation's work in its own names, whose answers are given by the parts that were asked, has true answers, and each came to the ask of such a part.
abbrev pub TrailIsTrue : Type 0
TrailIsTrue = (rules : Rules Name) (program : Program) (limit : ℕ) (e : Name) (defs : List (Value Name)) (task : Task) (n : ℕ) (p : Plan Name) (asked : List (Name × Outcome Name)) (mades : List (Name × Made Name)) → Of rules program limit e (work defs task) → Trail (script_of rules program limit defs) limit (task_plan rules program limit defs task) n p asked mades → Calls (λ j. part e j) mades → ((c : Name) (o : Outcome Name) → IsIn (c, o) asked → Gives rules program limit c o) → TrueSo rules program limit e (work defs task) asked

-- Where a trail comes to a make, the walk on its answers makes that next.
abbrev pub TrailMakes : Type 0
TrailMakes = (script : Script ℕ) (limit : ℕ) (whole : Plan ℕ) (n : ℕ) (kind : Kind) (t : Term ℕ) (k : ℕ → Plan ℕ) (asked : List (ℕ × Outcome ℕ)) (mades : List (ℕ × Made ℕ)) → Trail script limit whole n (make kind t k) asked mades → (cell_of : ℕ → ℕ) → Calls cell_of mades → slice_get (makes_of (walk script cell_of limit whole 1 (answers_of asked))) (length mades) ≡ Some (made kind t)

-- The values of the first k forms are k, and they are what references see of themselves.
abbrev pub BeforeIsReferred : Type 0
BeforeIsReferred = (rules : Rules Name) (program : Program) (limit k : ℕ) (defs : List (Value Name)) → Before rules program limit k defs → (length defs ≡ k) × (referred program.tops defs ≡ defs)

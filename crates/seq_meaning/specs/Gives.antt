-- What each evaluation is and gives: the least relations closed under these clauses. A part is evaluated anew at each use here, where the code keeps its value.
use Rattle.std.specs.Prelude.{◌≡◌, ℕ, suc, List, [], ◌∷◌, ◌++◌, Some, slice_get}
use Rattle.seq_base.specs.declared.thrown.Thrown.{Thrown}
use Rattle.seq_values.specs.declared.words.Kind.{Kind}
use Rattle.seq_values.specs.declared.words.Kind.TheVariants.{Lazy}
use Rattle.seq_values.specs.Model.{Value, nil, Term, Outcome, gave, threw}
use Rattle.clj_script.specs.Trees.{Expr, Top, def, defn, prn, ledger, Program}
use Rattle.seq_plan.specs.Plan.{Plan, Rules}
use Rattle.seq_meaning.specs.Evaluates.{Script, term_plan, form_plan}
use Rattle.seq_meaning.specs.Walk.{Made, made, Run, needs, ends, makes_of, walk}
use Rattle.seq_meaning.specs.Names.{Name, form, part, retry}

-- what an evaluation works on
pub data Task : Type 0 where
  of_form : Top → Task
  of_term : Term Name → Task

-- a task with the values of the forms before
pub data Work : Type 0 where
  work : List (Value Name) → Task → Work

-- the answers in the order in which they came: everywhere else the last one stands first
abbrev pub in_order : {A : Type 0} → List A → List A
in_order [] = []
in_order (x ∷ xs) = in_order xs ++ x ∷ []

-- a top form that defines nothing
pub data IsNoDef : Top → Type 0 where
  defn_none : IsNoDef defn
  prn_none : {e : Expr} → IsNoDef (prn e)
  ledger_none : IsNoDef ledger

module _ (rules : Rules Name) (program : Program) (limit : ℕ) where
  abbrev pub script_of : List (Value Name) → Script Name
  script_of defs = record { rules = rules; functions = program.functions; bodies = program.bodies; defs = defs }

  abbrev pub task_plan : List (Value Name) → Task → Plan Name
  task_plan defs (of_form t) = form_plan (script_of defs) t
  task_plan defs (of_term t) = term_plan (script_of defs) t

  -- The run of an evaluation with these answers to its asks. Its j-th make is the part (e, j).
  unfoldable pub run : Name → Work → List (Outcome Name) → Run Name
  run e (work defs t) a = walk (script_of defs) (λ j. part e j) limit (task_plan defs t) 1 (in_order a)

  mutual
    -- the evaluation has the work
    pub data Of : Name → Work → Type 0 where
      of_top : {k : ℕ} {defs : List (Value Name)} {t : Top} → Before k defs → slice_get program.tops k ≡ Some t → Of (form (suc k)) (work defs (of_form t))
      of_part : {e : Name} {j : ℕ} {kind : Kind} {w : Work} → Part (part e j) kind w → Of (part e j) w
      of_retry : {e n : Name} {w w' : Work} {a : List (Outcome Name)} {ms : List (Made Name)} {x : Thrown} → Of e w → True e a → run e w a ≡ needs n ms → Part n Lazy w' → Gives n (threw x) → Of (retry e) w'

    -- the part is of the kind, with the work. It keeps the values of the forms before its maker.
    pub data Part : Name → Kind → Work → Type 0 where
      part_of : {e : Name} {j : ℕ} {defs : List (Value Name)} {task : Task} {a : List (Outcome Name)} {kind : Kind} {t : Term Name} → Of e (work defs task) → True e a → slice_get (makes_of (run e (work defs task) a)) j ≡ Some (made kind t) → Part (part e (suc j)) kind (work defs (of_term t))

    -- these are the answers to the first asks of the evaluation
    pub data True : Name → List (Outcome Name) → Type 0 where
      no_answer : {e : Name} {w : Work} → Of e w → True e []
      one_more : {e n : Name} {w : Work} {a : List (Outcome Name)} {ms : List (Made Name)} {o : Outcome Name} → Of e w → True e a → run e w a ≡ needs n ms → Gives n o → True e (o ∷ a)

    -- the evaluation ends so
    pub data Gives : Name → Outcome Name → Type 0 where
      gives : {e : Name} {w : Work} {a : List (Outcome Name)} {ms : List (Made Name)} {o : Outcome Name} → Of e w → True e a → run e w a ≡ ends o ms → Gives e o

    -- the values of the first k forms in order, nil for one that is no `def`. Every `def` among them gives a value.
    pub data Before : ℕ → List (Value Name) → Type 0 where
      none_before : Before 0 []
      def_before : {k name : ℕ} {defs more : List (Value Name)} {e : Expr} {v : Value Name} → Before k defs → slice_get program.tops k ≡ Some (def name e) → Gives (form (suc k)) (gave v) → more ≡ defs ++ v ∷ [] → Before (suc k) more
      other_before : {k : ℕ} {defs more : List (Value Name)} {t : Top} → Before k defs → slice_get program.tops k ≡ Some t → IsNoDef t → more ≡ defs ++ nil ∷ [] → Before (suc k) more

-- How the compiler works through its tasks: what stands, what is to be done, and what it comes to.
use Rattle.std.specs.Prelude.{◌≡◌, ℕ, suc, ◌+◌, ◌-◌, ◌<◌, ◌≤◌, List, [], ◌∷◌, ◌++◌, length, map, take, drop, replicate, Option, Some, None, Result, Ok, Err, true, if◌then◌else◌}
use Rattle.std.specs.List.{list_any}
use Rattle.std.specs.Str.{bytes_eq}
use Rattle.clj_reader.specs.declared.place.Place.{Place}
use Rattle.clj_script.specs.declared.refusal.ScriptRefusal.{ScriptRefusal}
use Rattle.clj_script.specs.declared.source.Entry.{Entry}
use Rattle.clj_script.specs.declared.task.Build.{Build}
use Rattle.clj_script.specs.declared.task.Build.TheVariants.{Vector, Call, Let, If, And, Or, LazySeq, Nil}
use Rattle.clj_script.specs.declared.task.Task.{Task}
use Rattle.clj_script.specs.declared.task.Task.TheVariants as task
use Rattle.clj_script.specs.declared.machine.Machine.{Machine}
use Rattle.clj_script.specs.Trees.{Expr, exprs, empty_literal}
use Rattle.clj_script.specs.Trees as tree
use Rattle.clj_script.specs.Refusals.{refusal, earliest}
use Rattle.clj_script.specs.Sources.{Source, Sources, no_more, before, atom, symbol, round, square, listed}
use Rattle.clj_script.specs.Scopes.{Definitions, named, name_of, binding_refusals, is_unbindable, refused_if}
use Rattle.clj_script.specs.Locals.{all_but_last}
use Rattle.clj_script.specs.Readings.{Reading, reading, nothing, refused, stands_for, call, let_of, if_of, and_of, or_of, lazy_seq}
use Rattle.clj_script.specs.Judgements.{Judged, nil_expr}
use Rattle.clj_script.specs.Arena.{AllBelow, LowerFrom}
use Rattle.clj_script.specs.Nodes.{at, trees_of, parts_of, are_writable}
use Rattle.clj_script.specs.Entries.{IsLower, form_at}

-- What is to be done.
pub data Todo : Type 0 where
  -- a form becomes the last value
  look : Source → Todo
  -- a name is bound
  bind : Source → Todo
  -- an expression is built of the last values
  build : Build → Todo

-- What stands while an expression is compiled: the locals in scope, the bodies of `lazy-seq`s, the expressions that are parts of
-- others to come, the last at the end, and the least refusal.
pub record Now : Type 0 where
  pub locals : List (List ℕ)
  pub bodies : List Expr
  pub values : List Expr
  pub least : Option ScriptRefusal

-- how many values are taken
abbrev pub taking : Build → ℕ
taking (Vector n) = n
taking (Call n) = suc n
taking Let = 2
taking If = 3
taking (And n) = n
taking (Or n) = n
taking LazySeq = 1
taking Nil = 0

-- all but the last so many, and these
abbrev pub front : {X : Type 0} → ℕ → List X → List X
front n xs = take (length xs - n) xs

abbrev pub back : {X : Type 0} → ℕ → List X → List X
back n xs = drop (length xs - n) xs

-- The expression that is built of these values behind so many bodies. As many values stand as are taken.
abbrev pub made : Build → ℕ → List Expr → Expr
made (Vector n) count es = tree.vector_of (exprs es)
made (Call n) count (e ∷ es) = tree.call_of e (exprs es)
made Let count (e ∷ f ∷ []) = tree.let_in e f
made If count (t ∷ a ∷ z ∷ []) = tree.if_of t a z
made (And n) count es = tree.and_of (exprs es)
made (Or n) count es = tree.or_of (exprs es)
made LazySeq count es = tree.lazy_seq count
made _ count es = nil_expr

-- a binding ends
abbrev pub locals_behind : Build → List (List ℕ) → List (List ℕ)
locals_behind Let ls = all_but_last ls
locals_behind _ ls = ls

-- the value is a body
abbrev pub bodies_behind : Build → List Expr → List Expr → List Expr
bodies_behind LazySeq es bodies = bodies ++ es
bodies_behind _ es bodies = bodies

abbrev pub built : Build → Now → Now
built k m = record {
  locals = locals_behind k m.locals;
  bodies = bodies_behind k (back (taking k) m.values) m.bodies;
  values = front (taking k) m.values ++ made k (length m.bodies) (back (taking k) m.values) ∷ [];
  least = m.least;
}

abbrev pub bound : Source → Now → Now
bound s m = record { locals = m.locals ++ name_of s ∷ []; bodies = m.bodies; values = m.values; least = earliest m.least (binding_refusals s) }

-- with one more value
abbrev pub given : Expr → Now → Now
given e m = record { locals = m.locals; bodies = m.bodies; values = m.values ++ e ∷ []; least = m.least }

-- with more refused
abbrev pub refusing : List ScriptRefusal → Now → Now
refusing rs m = record { locals = m.locals; bodies = m.bodies; values = m.values; least = earliest m.least rs }

-- with a form's expression as the last value, these bodies, and all that is refused of the form
abbrev pub judged_so : Expr → List Expr → List ScriptRefusal → Now → Now
judged_so e b rs m = record { locals = m.locals; bodies = b; values = m.values ++ e ∷ []; least = earliest m.least rs }

-- What is to be done comes to this in the end, each form by its meaning.
abbrev pub Done : Definitions → Now → List Todo → Now → Type 0
Done d m [] n = m ≡ n
Done d m (look s ∷ ts) n = (e : Expr) × (b : List Expr) × (rs : List ScriptRefusal) × Judged d m.locals m.bodies s e b rs × Done d (judged_so e b rs m) ts n
Done d m (bind s ∷ ts) n = Done d (bound s m) ts n
Done d m (build k ∷ ts) n = Done d (built k m) ts n

-- What looking at a form comes to: an expression at once, or more to be done; and what is refused.
pub data Plan : Type 0 where
  gives : Expr → List ScriptRefusal → Plan
  asks : List Todo → List ScriptRefusal → Plan

abbrev pub looks : List Source → List Todo
looks ss = map look ss

-- each expression, and then its name
abbrev pub lets : List (Source × Source) → List Todo
lets [] = []
lets (p ∷ ps) = look p.1 ∷ bind p.0 ∷ lets ps

abbrev pub branches : Source → Source → Option Source → List Todo
branches test a (Some z) = look test ∷ look a ∷ look z ∷ build If ∷ []
branches test a None = look test ∷ look a ∷ build Nil ∷ build If ∷ []

abbrev pub plan_of_reading : Place → Reading → Plan
plan_of_reading p nothing = gives (tree.literal empty_literal) []
plan_of_reading p (refused n) = gives nil_expr (refusal n p ∷ [])
plan_of_reading p (stands_for s steps) = asks (look s ∷ []) steps
plan_of_reading p (call head args) = asks (look head ∷ looks args ++ build (Call (length args)) ∷ []) []
plan_of_reading p (let_of pairs body) = asks (lets pairs ++ look body ∷ replicate (length pairs) (build Let)) []
plan_of_reading p (if_of test a z) = asks (branches test a z) []
plan_of_reading p (and_of args) = asks (looks args ++ build (And (length args)) ∷ []) []
plan_of_reading p (or_of args) = asks (looks args ++ build (Or (length args)) ∷ []) []
plan_of_reading p (lazy_seq body) = asks (look body ∷ build LazySeq ∷ []) []

abbrev pub plan_of_name : Place → Result Expr ℕ → Plan
plan_of_name p (Ok e) = gives e []
plan_of_name p (Err n) = gives nil_expr (refusal n p ∷ [])

abbrev pub plan_of : Definitions → List (List ℕ) → Source → Plan
plan_of d ls (atom p l) = gives (tree.literal l) []
plan_of d ls (symbol p name) = plan_of_name p (named d ls name)
plan_of d ls (square p items) = asks (looks (listed items) ++ build (Vector (length (listed items))) ∷ []) []
plan_of d ls (round p items) = plan_of_reading p (reading (listed items))

abbrev pub asked_by : Plan → List Todo
asked_by (gives e rs) = []
asked_by (asks ts rs) = ts

abbrev pub after_plan : Plan → Now → Now
after_plan (gives e rs) m = given e (refusing rs m)
after_plan (asks ts rs) m = refusing rs m

-- what is to be done next, and what stands then
abbrev pub asked : Definitions → Now → Todo → List Todo
asked d m (look s) = asked_by (plan_of d m.locals s)
asked d m (bind s) = []
asked d m (build k) = []

abbrev pub after : Definitions → Now → Todo → Now
after d m (look s) = after_plan (plan_of d m.locals s) m
after d m (bind s) = bound s m
after d m (build k) = built k m

-- with so many values, each that is to be built finds as many as it takes
abbrev pub Enough : List Todo → ℕ → Type 0
Enough [] n = Unit {0}
Enough (look s ∷ ts) n = Enough ts (suc n)
Enough (bind s ∷ ts) n = Enough ts n
Enough (build k ∷ ts) n = (taking k ≤ n) × Enough ts (suc (n - taking k))

-- How long what is to be done may take. Threading written out is shorter by its word and brackets, and all else is taken apart.
abbrev mutual
  pub weight : Source → ℕ
  weight (atom p l) = 3
  weight (symbol p name) = 3
  weight (round p ss) = 2 + weight_headed ss
  weight (square p ss) = 2 + weight_all ss

  pub weight_all : Sources → ℕ
  weight_all no_more = 0
  weight_all (before s ss) = weight s + weight_all ss

  pub weight_headed : Sources → ℕ
  weight_headed no_more = 0
  weight_headed (before s ss) = weight_at_head s + weight_all ss

  -- a name at the head of a list, or looked at, is light
  pub weight_at_head : Source → ℕ
  weight_at_head (symbol p name) = 1
  weight_at_head (atom p l) = 3
  weight_at_head (round p ss) = 2 + weight_headed ss
  weight_at_head (square p ss) = 2 + weight_all ss

abbrev pub weight_of : Todo → ℕ
weight_of (look s) = weight_at_head s
weight_of (bind s) = 1
weight_of (build k) = 1

abbrev pub total : List Todo → ℕ
total [] = 0
total (t ∷ ts) = weight_of t + total ts

-- The code's tasks as what is to be done, the next first.
abbrev pub todo_at : List Entry → Task → Todo
todo_at entries (task.Look form) = look (form_at entries form)
todo_at entries (task.Bind name) = bind (form_at entries name)
todo_at entries (task.Build k) = build k

abbrev pub stacked : List Entry → List Todo → List Task → List Todo
stacked entries above [] = above
stacked entries above (t ∷ ts) = stacked entries (todo_at entries t ∷ above) ts

abbrev pub todos : List Entry → List Task → List Todo
todos entries tasks = stacked entries [] tasks

abbrev pub task_numbers : Task → List ℕ
task_numbers (task.Look form) = form ∷ []
task_numbers (task.Bind name) = name ∷ []
task_numbers (task.Build k) = []

-- the tasks name only forms below a number
abbrev pub AreWithin : ℕ → List Task → Type 0
AreWithin bound [] = Unit {0}
AreWithin bound (t ∷ ts) = AllBelow bound (task_numbers t) × AreWithin bound ts

-- tasks are pushed that name these forms, and stand for this
pub record Pushes (old new : List Task) (numbers : List ℕ) (pushed : List Entry → List Todo) : Type 0 where
  pub within : (bound : ℕ) → AreWithin bound old → AllBelow bound numbers → AreWithin bound new
  pub stand : (entries : List Entry) → todos entries new ≡ pushed entries ++ todos entries old

pub record HasMore {X : Type 0} (old new : List X) : Type 0 where
  pub more : List X
  pub grown : new ≡ old ++ more

abbrev pub trees : Machine → List Expr
trees m = trees_of m.nodes.items

abbrev pub now_of : Machine → Now
now_of m = record { locals = m.locals; bodies = map (at (trees m)) m.bodies.items; values = map (at (trees m)) m.values.items; least = m.least.found }

-- expressions name lower ones, their literals are values that a script can write, and all numbers of expressions are below their count
pub record IsSound (m : Machine) : Type 0 where
  pub lower : LowerFrom parts_of 0 m.nodes.items
  pub written : are_writable m.nodes.items ≡ true
  pub bodies : AllBelow (length m.nodes.items) m.bodies.items
  pub values : AllBelow (length m.nodes.items) m.values.items

-- nothing is being compiled
pub record IsIdle (m : Machine) : Type 0 where
  pub values : m.values.items ≡ []
  pub tasks : m.tasks.items ≡ []

-- the last values are taken, and all else stays
pub record Takes (old new : Machine) (taken : List ℕ) : Type 0 where
  pub values : old.values.items ≡ new.values.items ++ taken
  pub nodes : new.nodes ≡ old.nodes
  pub bodies : new.bodies ≡ old.bodies
  pub locals : new.locals ≡ old.locals
  pub least : new.least ≡ old.least
  pub tasks : new.tasks ≡ old.tasks

-- one more value stands
pub record HasGiven (old new : Machine) (e : Expr) : Type 0 where
  pub sound : IsSound new
  pub nodes : HasMore old.nodes.items new.nodes.items
  pub tasks : new.tasks ≡ old.tasks
  pub now : now_of new ≡ given e (now_of old)

-- an expression was built
pub record HasBuilt (old new : Machine) (k : Build) : Type 0 where
  pub sound : IsSound new
  pub nodes : HasMore old.nodes.items new.nodes.items
  pub tasks : new.tasks ≡ old.tasks
  pub now : now_of new ≡ built k (now_of old)

-- a name was bound
pub record HasBound (old new : Machine) (s : Source) : Type 0 where
  pub sound : IsSound new
  pub nodes : HasMore old.nodes.items new.nodes.items
  pub tasks : new.tasks ≡ old.tasks
  pub now : now_of new ≡ bound s (now_of old)

-- a parameter was bound
pub record HasParameter (old new : Machine) (s : Source) : Type 0 where
  pub nodes : new.nodes.items ≡ old.nodes.items
  pub bodies : new.bodies.items ≡ old.bodies.items
  pub values : new.values.items ≡ old.values.items
  pub tasks : new.tasks.items ≡ old.tasks.items
  pub locals : new.locals ≡ old.locals ++ name_of s ∷ []
  pub least : new.least.found ≡ earliest old.least.found (refused_if (if is_unbindable s then true else list_any (λ name. bytes_eq name (name_of s)) old.locals) 10 s)

-- A form was looked at that gives an expression at once.
pub record HasAnswered (old new : Machine) (plan : Plan) : Type 0 where
  pub sound : IsSound new
  pub nodes : HasMore old.nodes.items new.nodes.items
  pub tasks : new.tasks ≡ old.tasks
  pub asked : asked_by plan ≡ []
  pub now : now_of new ≡ after_plan plan (now_of old)

-- A form was looked at: what its plan asks for is to be done before the rest, and what it gives stands.
pub record HasLooked (es : List Entry) (old : Machine) (fs : List Entry) (new : Machine) (plan : Plan) : Type 0 where
  pub forms : HasMore es fs
  pub lower : IsLower fs
  pub sound : IsSound new
  pub within : AreWithin (length fs) new.tasks.items
  pub nodes : HasMore old.nodes.items new.nodes.items
  pub stand : todos fs new.tasks.items ≡ asked_by plan ++ todos es old.tasks.items
  pub now : now_of new ≡ after_plan plan (now_of old)

-- what was to be done next is done, or taken apart
pub record HasDone (d : Definitions) (es : List Entry) (old : Machine) (fs : List Entry) (new : Machine) (todo : Todo) : Type 0 where
  pub forms : HasMore es fs
  pub lower : IsLower fs
  pub sound : IsSound new
  pub within : AreWithin (length fs) new.tasks.items
  pub nodes : HasMore old.nodes.items new.nodes.items
  pub stand : todos fs new.tasks.items ≡ asked d (now_of old) todo ++ todos es old.tasks.items
  pub now : now_of new ≡ after d (now_of old) todo

-- a form was compiled to the expression with a number
pub record HasJudged (d : Definitions) (es : List Entry) (old : Machine) (fs : List Entry) (new : Machine) (s : Source) (n : ℕ) : Type 0 where
  pub forms : HasMore es fs
  pub lower : IsLower fs
  pub sound : IsSound new
  pub values : new.values.items ≡ old.values.items
  pub tasks : new.tasks.items ≡ old.tasks.items
  pub nodes : HasMore old.nodes.items new.nodes.items
  pub below : n < length new.nodes.items
  pub locals : new.locals ≡ old.locals
  pub refusals : List ScriptRefusal
  pub least : new.least.found ≡ earliest old.least.found refusals
  pub judged : Judged d old.locals (map (at (trees old)) old.bodies.items) s (at (trees new) n) (map (at (trees new)) new.bodies.items) refusals

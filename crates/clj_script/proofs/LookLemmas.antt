-- What looking at a form comes to.
use Rattle.std.proofs.Common.{◌≡◌, ℕ, ◌+◌, ◌≤◌, Bool, true, false, cond, ◌||◌, List, [], ◌∷◌, ◌++◌, length, map, Option, Some, None, refl, sym, ◌∙◌, ap, subst, arith, replicate, append-nil, length-append}
use Rattle.std.proofs.lemmas.List.{length-map}
use Rattle.std.specs.Prelude.{is_some}
use Rattle.std.specs.List.{list_any}
use Rattle.std.specs.Str.{bytes_eq}
use Rattle.std.specs.declared.vec.Vec.{Vec}
use Rattle.std.specs.declared.alloc.Global.{Global}
use Rattle.clj_reader.specs.declared.place.Place.{Place}
use Rattle.seq_values.specs.declared.value.Value as value
use Rattle.seq_values.specs.declared.value.Node as node_value
use Rattle.clj_script.specs.declared.refusal.ScriptRefusal.{ScriptRefusal}
use Rattle.clj_script.specs.declared.refusal.Least.{Least}
use Rattle.clj_script.specs.declared.expr.Expr.TheVariants as node
use Rattle.clj_script.specs.declared.machine.Machine.{Machine}
use Rattle.clj_script.specs.declared.source.Entry.{Entry}
use Rattle.clj_script.specs.declared.source.Content.TheVariants as content
use Rattle.clj_script.specs.declared.task.Build.{Build}
use Rattle.clj_script.specs.declared.task.Build.TheVariants.{Vector, Call, Let}
use Rattle.clj_script.specs.declared.task.Task.{Task}
use Rattle.clj_script.specs.declared.task.Task.TheVariants as task
use Rattle.clj_script.specs.Trees.{Expr}
use Rattle.clj_script.specs.Trees as tree
use Rattle.clj_script.specs.Arena.{AllBelow}
use Rattle.clj_script.specs.Nodes.{at, tree_over}
use Rattle.clj_script.specs.declared.atom.Atom.{Atom}
use Rattle.clj_script.specs.Literals.{literal_of, literal_of_atom}
use Rattle.clj_script.specs.Entries.{form_at, form_over, form_with, forms_of, parts_of, parts_of_content, IsLower, IsAdded}
use Rattle.clj_script.specs.Refusals.{refusal, earlier, earliest}
use Rattle.clj_script.specs.Scopes.{Definitions, innermost, innermost_from, or_else}
use Rattle.clj_script.specs.Sources.{Source, atom, symbol, round, square, listed, in_round, place_of}
use Rattle.clj_script.specs.Readings.{Reading, reading}
use Rattle.clj_script.specs.declared.reading.Reading.{Reading as Read}
use Rattle.clj_script.specs.Reads.{as_read}
use Rattle.clj_script.specs.Judgements.{nil_expr}
use Rattle.clj_script.specs.Machines.{Todo, look, bind, build, looks, lets, Plan, gives, asks, plan_of, plan_of_reading, IsSound, AreWithin, HasGiven, HasAnswered, HasLooked, Pushes, trees, todos, stacked, task_numbers}
use Rattle.clj_script.proofs.ArenaLemmas.{below_more}
use Rattle.clj_script.proofs.EntryLemmas.{form_at-kept, listed_sources}
use Rattle.clj_script.proofs.TaskLemmas.{todos-more, within_more}
use Rattle.clj_script.proofs.LiteralLemmas.{nil_is, empty_is}

-- an expression was given at once
pub answered_given : {old new : Machine} {e : Expr} → HasGiven old new e → HasAnswered old new (gives e [])
answered_given g = record { sound = g.sound; nodes = g.nodes; tasks = g.tasks; asked = refl; now = g.now }

-- the empty list was given
pub answered_empty : {old new : Machine} → HasGiven old new (tree_over (trees old) (node.Literal (value.Node node_value.Empty))) → HasAnswered old new (gives (tree.literal tree.empty_literal) [])
unfolding tree_over
answered_empty {old = old} {new = new} g = answered_given (subst (λ (l : tree.Literal). HasGiven old new (tree.literal l)) empty_is.0 g)

-- a literal was given
pub answered_literal : {old new : Machine} (v : value.Value) {l : tree.Literal} → literal_of v ≡ l → HasGiven old new (tree_over (trees old) (node.Literal v)) → HasAnswered old new (gives (tree.literal l) [])
unfolding tree_over
answered_literal {old = old} {new = new} v e g = answered_given (subst (λ (x : tree.Literal). HasGiven old new (tree.literal x)) e g)

abbrev pub with_least : Least → Machine → Machine
with_least least m = record { nodes = m.nodes; bodies = m.bodies; locals = m.locals; least = least; values = m.values; tasks = m.tasks }

-- nil was given for a form that is refused whole
pub answered_refused : {old new : Machine} (least : Least) (n : ℕ) (p : Place) → least ≡ record { found = earlier old.least.found (refusal n p) } → HasGiven (with_least least old) new (tree_over (trees old) (node.Literal value.Nil)) → HasAnswered old new (gives nil_expr (refusal n p ∷ []))
unfolding tree_over
answered_refused {old = old} least n p e g = record {
  sound = g.sound;
  nodes = g.nodes;
  tasks = g.tasks;
  asked = refl;
  now = g.now
      ∙ ap (λ (l : Least). record { locals = old.locals; bodies = map (at (trees old)) old.bodies.items; values = map (at (trees old)) old.values.items ++ tree.literal (literal_of value.Nil) ∷ []; least = l.found }) e
      ∙ ap (λ (l : tree.Literal). record { locals = old.locals; bodies = map (at (trees old)) old.bodies.items; values = map (at (trees old)) old.values.items ++ tree.literal l ∷ []; least = earlier old.least.found (refusal n p) }) nil_is.0;
}

pub looked_as : {es fs : List Entry} {old new : Machine} {plan wanted : Plan} → wanted ≡ plan → HasLooked es old fs new plan → HasLooked es old fs new wanted
looked_as {es = es} {fs = fs} {old = old} {new = new} e h = subst (λ (plan : Plan). HasLooked es old fs new plan) (sym e) h

-- the forms are the same where an expression is given at once
pub looked_answered : {es : List Entry} {old new : Machine} {plan : Plan} → IsLower es → AreWithin (length es) old.tasks.items → HasAnswered old new plan → HasLooked es old es new plan
looked_answered {es = es} {old = old} {new = new} l w a = record {
  forms = record { more = []; grown = sym (append-nil es) };
  lower = l;
  sound = a.sound;
  within = subst (λ ts. AreWithin (length es) ts.items) (sym a.tasks) w;
  nodes = a.nodes;
  stand = ap (λ ts. todos es ts.items) a.tasks ∙ ap (λ ts. ts ++ todos es old.tasks.items) (sym a.asked);
  now = a.now;
}

abbrev pub with_tasks : Vec Task Global → Machine → Machine
with_tasks tasks m = record { nodes = m.nodes; bodies = m.bodies; locals = m.locals; least = m.least; values = m.values; tasks = tasks }

-- more is to be done first
pub looked_pushed : {es : List Entry} {old : Machine} {tasks : Vec Task Global} {ns : List ℕ} {pushed : List Entry → List Todo} {wanted : List Todo} → IsSound old → IsLower es → AreWithin (length es) old.tasks.items → AllBelow (length es) ns → wanted ≡ pushed es → Pushes old.tasks.items tasks.items ns pushed → HasLooked es old es (with_tasks tasks old) (asks wanted [])
looked_pushed {es = es} {old = old} s l w b e p = record {
  forms = record { more = []; grown = sym (append-nil es) };
  lower = l;
  sound = record { lower = s.lower; written = s.written; bodies = s.bodies; values = s.values };
  within = p.within (length es) w b;
  nodes = record { more = []; grown = sym (append-nil old.nodes.items) };
  stand = p.stand es ∙ ap (λ ts. ts ++ todos es old.tasks.items) (sym e);
  now = refl;
}

stacked-kept : (es more : List Entry) (above : List Todo) (ts : List Task) → AreWithin (length es) ts → stacked (es ++ more) above ts ≡ stacked es above ts
stacked-kept es more above [] w = refl
stacked-kept es more above (task.Look n ∷ ts) w = ap (λ s. stacked (es ++ more) (look s ∷ above) ts) (form_at-kept es more n w.0.0) ∙ stacked-kept es more (look (form_at es n) ∷ above) ts w.1
stacked-kept es more above (task.Bind n ∷ ts) w = ap (λ s. stacked (es ++ more) (bind s ∷ above) ts) (form_at-kept es more n w.0.0) ∙ stacked-kept es more (bind (form_at es n) ∷ above) ts w.1
stacked-kept es more above (task.Build k ∷ ts) w = stacked-kept es more (build k ∷ above) ts w.1

-- what is to be done stays as forms come later
pub todos-kept : (es more : List Entry) (ts : List Task) → AreWithin (length es) ts → todos (es ++ more) ts ≡ todos es ts
todos-kept es more ts w = stacked-kept es more [] ts w

pub within_further : (m n : ℕ) (ts : List Task) → m ≤ n → AreWithin m ts → AreWithin n ts
within_further m n [] h w = tt
within_further m n (t ∷ ts) h w = (below_more m n (task_numbers t) h w.0, within_further m n ts h w.1)

abbrev pub with_least_and_tasks : Least → Vec Task Global → Machine → Machine
with_least_and_tasks least tasks m = record { nodes = m.nodes; bodies = m.bodies; locals = m.locals; least = least; values = m.values; tasks = tasks }

-- threading is written out, and what it stands for is looked at next
pub looked_threaded : {es fs : List Entry} {old : Machine} {least : Least} {tasks : Vec Task Global} (whole : ℕ) (form : Source) (rs : List ScriptRefusal) → IsSound old → AreWithin (length es) old.tasks.items → IsAdded es fs whole form → least.found ≡ earliest old.least.found rs → tasks.items ≡ old.tasks.items ++ task.Look whole ∷ [] → HasLooked es old fs (with_least_and_tasks least tasks old) (asks (look form ∷ []) rs)
looked_threaded {es = es} {fs = fs} {old = old} whole form rs s w a r t =
    let longer : length es ≤ length fs = omega (arith, ap length a.grown, length-append es a.more) in
    record {
      forms = record { more = a.more; grown = a.grown };
      lower = a.lower;
      sound = record { lower = s.lower; written = s.written; bodies = s.bodies; values = s.values };
      within = rw t (within_more (length fs) old.tasks.items (task.Look whole) (within_further (length es) (length fs) old.tasks.items longer w) (a.below, tt));
      nodes = record { more = []; grown = sym (append-nil old.nodes.items) };
      stand = ap (todos fs) t ∙ todos-more fs old.tasks.items (task.Look whole) ∙ ap (λ x. look x ∷ todos fs old.tasks.items) a.stands ∙ ap (λ es'. look form ∷ todos es' old.tasks.items) a.grown ∙ ap (λ ts. look form ∷ ts) (todos-kept es a.more old.tasks.items w);
      now = ap (λ (f : Option ScriptRefusal). record { locals = old.locals; bodies = map (at (trees old)) old.bodies.items; values = map (at (trees old)) old.values.items; least = f }) r;
    }

pub call_wanted : (f : ℕ → Source) (head : ℕ) (args : List ℕ) → look (f head) ∷ looks (map f args) ++ build (Call (length (map f args))) ∷ [] ≡ look (f head) ∷ looks (map f args) ++ build (Call (length args)) ∷ []
call_wanted f head args = ap (λ n. look (f head) ∷ looks (map f args) ++ build (Call n) ∷ []) (length-map args f)

pub all_wanted : (k : ℕ → Build) (f : ℕ → Source) (args : List ℕ) → looks (map f args) ++ build (k (length (map f args))) ∷ [] ≡ looks (map f args) ++ build (k (length args)) ∷ []
all_wanted k f args = ap (λ n. looks (map f args) ++ build (k n) ∷ []) (length-map args f)

pub let_wanted : (f : ℕ × ℕ → Source × Source) (pairs ps : List (ℕ × ℕ)) (body : Source) → ps ≡ pairs → lets (map f pairs) ++ look body ∷ replicate (length (map f pairs)) (build Let) ≡ lets (map f ps) ++ look body ∷ replicate (length ps) (build Let)
let_wanted f pairs ps body e = ap (λ qs. lets (map f qs) ++ look body ∷ replicate (length (map f qs)) (build Let)) (sym e) ∙ ap (λ n. lets (map f ps) ++ look body ∷ replicate n (build Let)) (length-map ps f)

module _ (d : Definitions) (ls : List (List ℕ)) (es : List Entry) (form : Source) (e : Entry) (is : form ≡ form_over (forms_of es) e) where
  pub plan_literal : (a : Atom) → e.content ≡ content.Literal a → plan_of d ls form ≡ gives (tree.literal (literal_of_atom a)) []
  plan_literal a f = ap (plan_of d ls) is ∙ ap (λ c. plan_of d ls (form_with (forms_of es) e.place c)) f

  pub plan_vector : (items : Vec ℕ Global) (ns : List ℕ) → e.content ≡ content.Vector items → ns ≡ items.items → plan_of d ls form ≡ asks (looks (map (form_at es) ns) ++ build (Vector (length ns)) ∷ []) []
  plan_vector items ns f g = ap (plan_of d ls) is ∙ ap (λ c. plan_of d ls (form_with (forms_of es) e.place c)) f ∙ ap (λ ss. asks (looks ss ++ build (Vector (length ss)) ∷ []) []) (listed_sources (map (form_at es) items.items)) ∙ ap (λ ms. asks (looks (map (form_at es) ms) ++ build (Vector (length (map (form_at es) ms))) ∷ []) []) (sym g) ∙ ap (λ ts. asks ts []) (all_wanted Vector (form_at es) ns)

pub below_vector : (es : List Entry) (e : Entry) (items : Vec ℕ Global) (ns : List ℕ) → e.content ≡ content.Vector items → ns ≡ items.items → AllBelow (length es) (parts_of e) → AllBelow (length es) ns
below_vector es e items ns f g b = rw g (subst (λ c. AllBelow (length es) (parts_of_content c)) f b)

plan_round : (d : Definitions) (ls : List (List ℕ)) (form : Source) (r : Reading) → is_some (in_round form) ≡ true → ((ss : List Source) → in_round form ≡ Some ss → r ≡ reading ss) → plan_of d ls form ≡ plan_of_reading (place_of form) r
plan_round d ls (round p items) r e f = ap (plan_of_reading p) (sym (f (listed items) refl))
plan_round d ls (atom p l) r e f = absurd (cc)
plan_round d ls (symbol p name) r e f = absurd (cc)
plan_round d ls (square p items) r e f = absurd (cc)

-- a list was looked at by what it asks for
pub looked_read : {es fs : List Entry} {old new : Machine} (form : Source) (p : Place) (r s : Read) → is_some (in_round form) ≡ true → p ≡ place_of form → ((ss : List Source) → in_round form ≡ Some ss → as_read es r ≡ reading ss) → r ≡ s → HasLooked es old fs new (plan_of_reading p (as_read es s)) → (d : Definitions) → HasLooked es old fs new (plan_of d old.locals form)
looked_read {es = es} {old = old} form p r s e f g i h d =
    looked_as (plan_round d old.locals form (as_read es r) e g ∙ ap (λ q. plan_of_reading q (as_read es r)) (sym f) ∙ ap (λ t. plan_of_reading p (as_read es t)) i) h

-- a local has a name exactly where some local is found
some_or_else : (o : Option ℕ) (b : Bool) (n : ℕ) (c : Bool) → is_some o ≡ c → is_some (or_else o (cond b (Some n) None)) ≡ (b || c)
some_or_else (Some k) true n c e = refl
some_or_else (Some k) false n c e = e
some_or_else None true n c e = refl
some_or_else None false n c e = e

found_from : (n : ℕ) (ls : List (List ℕ)) (name : List ℕ) → is_some (innermost_from n ls name) ≡ list_any (λ l. bytes_eq l name) ls
found_from n [] name = refl
found_from n (l ∷ ls) name = some_or_else (innermost_from (n + 1) ls name) (bytes_eq l name) n (list_any (λ k. bytes_eq k name) ls) (found_from (n + 1) ls name)

pub found_any : (ls : List (List ℕ)) (name : List ℕ) → is_some (innermost ls name) ≡ list_any (λ l. bytes_eq l name) ls
unfolding innermost
found_any ls name = found_from 0 ls name

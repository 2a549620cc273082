-- What the forms of a script have given so far, as the compiler keeps it.
use Rattle.std.specs.Prelude.{◌≡◌, ℕ, ◌<◌, List, [], ◌∷◌, length, map, Bool, true, false, Option, Some, None, if◌then◌else◌}
use Rattle.clj_reader.specs.declared.place.Place.{Place}
use Rattle.clj_script.specs.declared.refusal.ScriptRefusal.{ScriptRefusal}
use Rattle.clj_script.specs.declared.program.Body.{Body}
use Rattle.clj_script.specs.declared.program.Top.{Top}
use Rattle.clj_script.specs.declared.program.Top.TheVariants.{Def, Defn, Prn, Ledger}
use Rattle.clj_script.specs.declared.top.Tops.{Tops}
use Rattle.clj_script.specs.declared.words.Reserved.{Reserved}
use Rattle.clj_script.specs.declared.words.Reserved.TheVariants as reserved
use Rattle.clj_script.specs.declared.words.Special.TheVariants.{ThreadSecond, ThreadLast}
use Rattle.clj_script.specs.declared.thread.Way.{Way}
use Rattle.clj_script.specs.declared.thread.Way.TheVariants.{Second, Last}
use Rattle.clj_script.specs.Arena.{AllBelow}
use Rattle.clj_script.specs.declared.definitions.Meaning.{Meaning}
use Rattle.clj_script.specs.Entries.{IsLower, IsAdded}
use Rattle.clj_script.specs.Names.{defined}
use Rattle.clj_script.specs.Nodes.{at}
use Rattle.clj_script.specs.Numbered.{numbers_of_bodies, AreBodiesBelow, AreTopsBelow}
use Rattle.clj_script.specs.Refusals.{refusal, earlier, earliest}
use Rattle.clj_script.specs.Seen.{top_over, body_over}
use Rattle.clj_script.specs.Sources.{Source}
use Rattle.clj_script.specs.Trees.{Expr}
use Rattle.clj_script.specs.declared.machine.Machine.{Machine}
use Rattle.clj_script.specs.Scopes.{name_of}
use Rattle.clj_script.specs.Readings.{Clause, inside}
use Rattle.clj_script.specs.Reads.{is_threading}
use Rattle.clj_script.specs.Scripts.{TopReading, SoFar, JudgedTop, JudgedAtTop, JudgedClauses, top_reading, stands_for, is_new, with_definition, name_refusals, vector_refusals, parameter_refusals}
use Rattle.clj_script.specs.Machines.{IsSound, IsIdle, HasMore, HasJudged, trees, weight}

-- what the forms so far have given, with each expression as a tree
abbrev pub so_far : Tops → SoFar
so_far t = record {
  functions = map (λ bodies. map (body_over (trees t.machine)) bodies.items) t.functions.items;
  bodies = map (at (trees t.machine)) t.machine.bodies.items;
  definitions = defined t.definitions.entries;
  tops = map (top_over (trees t.machine)) t.tops.items;
}

-- the bodies of `lazy-seq`s, as trees
abbrev pub lazy_bodies : Machine → List Expr
lazy_bodies m = map (at (trees m)) m.bodies.items

abbrev pub with_least : Option ScriptRefusal → Machine → Machine
with_least least m = record { nodes = m.nodes; bodies = m.bodies; locals = m.locals; least = record { found = least }; values = m.values; tasks = m.tasks }

-- all that is kept holds together, with these locals in scope
pub record IsWhole (locals : List (List ℕ)) (t : Tops) : Type 0 where
  pub sound : IsSound t.machine
  pub idle : IsIdle t.machine
  pub scope : t.machine.locals ≡ locals
  pub lower : IsLower t.sources.items
  pub functions : AreBodiesBelow (length t.machine.nodes.items) (λ bodies. bodies.items) t.functions.items
  pub tops : AreTopsBelow (length t.machine.nodes.items) t.tops.items

-- forms and expressions were only added
pub record HasGrown (old new : Tops) : Type 0 where
  pub forms : HasMore old.sources.items new.sources.items
  pub nodes : HasMore old.machine.nodes.items new.machine.nodes.items

-- what the forms so far have given stays, but for bodies of `lazy-seq`s
pub record KeepsGiven (old new : Tops) : Type 0 where
  pub definitions : defined new.definitions.entries ≡ defined old.definitions.entries
  pub functions : new.functions.items ≡ old.functions.items
  pub tops : new.tops.items ≡ old.tops.items

-- the forms and all expressions stay
pub record KeepsTrees (old new : Tops) : Type 0 where
  pub forms : new.sources.items ≡ old.sources.items
  pub nodes : new.machine.nodes.items ≡ old.machine.nodes.items
  pub bodies : new.machine.bodies.items ≡ old.machine.bodies.items
  pub values : new.machine.values.items ≡ old.machine.values.items
  pub tasks : new.machine.tasks.items ≡ old.machine.tasks.items

-- a form was taken
pub record HasTaken (old new : Tops) (s : Source) : Type 0 where
  pub whole : IsWhole [] new
  pub forms : HasMore old.sources.items new.sources.items
  pub refusals : List ScriptRefusal
  pub least : new.machine.least.found ≡ earliest old.machine.least.found refusals
  pub judged : JudgedTop (so_far old) s (so_far new) refusals

-- a form that asks for this was taken
pub record HasTakenAs (old new : Tops) (s : Source) (r : TopReading) : Type 0 where
  pub whole : IsWhole [] new
  pub forms : HasMore old.sources.items new.sources.items
  pub refusals : List ScriptRefusal
  pub least : new.machine.least.found ≡ earliest old.machine.least.found refusals
  pub judged : JudgedAtTop (so_far old) s r (so_far new) refusals

-- only something was refused
abbrev pub IsRefused : Tops → Tops → ScriptRefusal → Type 0
IsRefused old new r = new ≡ record { sources = old.sources; machine = with_least (earlier old.machine.least.found r) old.machine; definitions = old.definitions; functions = old.functions; tops = old.tops }

-- where a word that heads a form puts what stands so far, if it is one of the two that thread
abbrev pub way_of : Option Reserved → Option Way
way_of (Some (reserved.Special ThreadSecond)) = Some Second
way_of (Some (reserved.Special ThreadLast)) = Some Last
way_of _ = None

-- a form that threads was written out as the form with a number
pub record HasWritten (old new : Tops) (s : Source) (n : ℕ) : Type 0 where
  pub whole : IsWhole [] new
  pub kept : so_far new ≡ so_far old
  pub form : Source
  pub steps : List ScriptRefusal
  pub reads : top_reading s ≡ stands_for form steps
  pub lighter : weight form < weight s
  pub added : IsAdded old.sources.items new.sources.items n form
  pub least : new.machine.least.found ≡ earliest old.machine.least.found steps

-- a form that threads was written out, and any other is left as it is
abbrev pub IsUnthreaded : Tops → Tops → Source → Option ℕ → Type 0
IsUnthreaded old new s None = (new ≡ old) × (is_threading (top_reading s) ≡ false)
IsUnthreaded old new s (Some n) = HasWritten old new s n

-- a form was compiled to the expression with a number
pub record HasCompiled (old new : Tops) (s : Source) (n : ℕ) : Type 0 where
  pub given : KeepsGiven old new
  pub compiled : HasJudged (defined old.definitions.entries) old.sources.items old.machine new.sources.items new.machine s n

-- a name was defined, or refused
pub record HasDefined (old new : Tops) (s : Source) (m : Meaning) (found : Option ℕ) : Type 0 where
  pub trees : KeepsTrees old new
  pub locals : new.machine.locals ≡ old.machine.locals
  pub functions : new.functions.items ≡ old.functions.items
  pub tops : new.tops.items ≡ old.tops.items
  pub number : found ≡ (if is_new (defined old.definitions.entries) (name_of s) then Some (length old.definitions.entries) else None)
  pub definitions : defined new.definitions.entries ≡ with_definition (name_of s) m (defined old.definitions.entries)
  pub least : new.machine.least.found ≡ earliest old.machine.least.found (name_refusals (defined old.definitions.entries) s)

abbrev pub refused_at : Bool → Place → List ScriptRefusal
refused_at true p = refusal 10 p ∷ []
refused_at false p = []

-- parameters of these names were bound
pub record HasNames (old new : Machine) (ss : List Source) : Type 0 where
  pub nodes : new.nodes.items ≡ old.nodes.items
  pub bodies : new.bodies.items ≡ old.bodies.items
  pub values : new.values.items ≡ old.values.items
  pub tasks : new.tasks.items ≡ old.tasks.items
  pub locals : new.locals ≡ map name_of ss
  pub least : new.least.found ≡ earliest old.least.found (parameter_refusals [] ss)

-- the parameters in a vector were bound
pub record HasParameters (old new : Tops) (s : Source) (n : ℕ) : Type 0 where
  pub trees : KeepsTrees old new
  pub given : KeepsGiven old new
  pub count : n ≡ length (inside s)
  pub locals : new.machine.locals ≡ map name_of (inside s)
  pub least : new.machine.least.found ≡ earliest old.machine.least.found (vector_refusals s)

-- how many parameters the bodies have
abbrev pub counts_of : List Body → List ℕ
counts_of bodies = map (λ b. b.parameters) bodies

-- clauses behind others with these numbers of parameters were compiled to bodies
pub record HasClauses (old new : Tops) (counts : List ℕ) (cs : List Clause) (bodies : List Body) : Type 0 where
  pub whole : IsWhole [] new
  pub grown : HasGrown old new
  pub given : KeepsGiven old new
  pub below : AllBelow (length new.machine.nodes.items) (numbers_of_bodies bodies)
  pub refusals : List ScriptRefusal
  pub least : new.machine.least.found ≡ earliest old.machine.least.found refusals
  pub judged : JudgedClauses (defined old.definitions.entries) counts (lazy_bodies old.machine) cs (map (body_over (trees new.machine)) bodies) (lazy_bodies new.machine) refusals

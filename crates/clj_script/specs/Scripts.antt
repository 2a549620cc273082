-- What the forms at the top of a script define and write, and all that is refused of the script.
use Rattle.std.specs.Prelude.{◌≡◌, ℕ, ◌+◌, Bool, true, false, List, [], ◌∷◌, ◌++◌, length, map, nat_lt, ◌==◌, Option, Some, None, if◌then◌else◌}
use Rattle.std.specs.List.{list_any}
use Rattle.std.specs.Str.{bytes_eq}
use Rattle.clj_reader.specs.declared.form.Form.{Form}
use Rattle.clj_script.specs.declared.words.Special.{Special}
use Rattle.clj_script.specs.declared.words.Special.TheVariants.{Def, Defn, Prn, Ledger, ThreadSecond, ThreadLast}
use Rattle.clj_script.specs.declared.words.Reserved.{Reserved}
use Rattle.clj_script.specs.declared.words.Reserved.TheVariants as reserved
use Rattle.clj_script.specs.declared.definitions.Meaning.{Meaning}
use Rattle.clj_script.specs.declared.definitions.Meaning.TheVariants as meaning
use Rattle.clj_script.specs.declared.refusal.ScriptRefusal.{ScriptRefusal}
use Rattle.clj_script.specs.declared.thread.Way.{Way}
use Rattle.clj_script.specs.declared.thread.Way.TheVariants.{Second, Last}
use Rattle.clj_script.specs.Trees.{Expr, Top, Program}
use Rattle.clj_script.specs.Trees as tree
use Rattle.clj_script.specs.Refusals.{refusal}
use Rattle.clj_script.specs.Sources.{Source, atom, symbol, round, square, listed, place_of, sources_of}
use Rattle.clj_script.specs.Threading.{written_out, refusals_of_steps}
use Rattle.clj_script.specs.Scopes.{Definitions, name_of, is_unfit, is_unbindable, is_taken, refused_if}
use Rattle.clj_script.specs.Readings.{Clause, heading, clauses, inside}
use Rattle.clj_script.specs.Judgements.{Judged}

-- What a form at the top asks for.
pub data TopReading : Type 0 where
  -- none of the four forms of the top, and no list
  stray : TopReading
  -- a list that isn't headed by one of the four words
  stray_list : TopReading
  -- it is headed by one of the four words, with wrong arguments
  wrong : TopReading
  -- it stands for this form, and these of its steps are refused
  stands_for : Source → List ScriptRefusal → TopReading
  def_of : Source → Source → TopReading
  defn_of : Source → List Clause → TopReading
  prn_of : Source → TopReading
  ledger_of : TopReading

abbrev pub defn_with : Source → Option (List Clause) → TopReading
defn_with name (Some cs) = defn_of name cs
defn_with name None = wrong

abbrev pub def_with : Source → Source → TopReading
def_with (symbol p name) value = def_of (symbol p name) value
def_with (atom p l) value = wrong
def_with (round p ss) value = wrong
def_with (square p ss) value = wrong

abbrev pub defn_named : Source → List Source → TopReading
defn_named (symbol p name) forms = defn_with (symbol p name) (clauses forms)
defn_named (atom p l) forms = wrong
defn_named (round p ss) forms = wrong
defn_named (square p ss) forms = wrong

-- a threading list without a form is looked at as it is
abbrev pub threaded_at_top : Way → List Source → TopReading
threaded_at_top way [] = stray_list
threaded_at_top way (x ∷ steps) = stands_for (written_out way x steps) (refusals_of_steps steps)

-- a row for each word
abbrev pub special_at_top : Special → List Source → TopReading
special_at_top Def (name ∷ value ∷ []) = def_with name value
special_at_top Def _ = wrong
special_at_top Defn (name ∷ forms) = defn_named name forms
special_at_top Defn _ = wrong
special_at_top Prn (value ∷ []) = prn_of value
special_at_top Prn _ = wrong
special_at_top Ledger [] = ledger_of
special_at_top Ledger _ = wrong
special_at_top ThreadSecond args = threaded_at_top Second args
special_at_top ThreadLast args = threaded_at_top Last args
special_at_top _ _ = stray_list

abbrev pub headed_at_top : Option Reserved → List Source → TopReading
headed_at_top (Some (reserved.Special special)) args = special_at_top special args
headed_at_top (Some reserved.Outside) args = stray_list
headed_at_top None args = stray_list

abbrev pub list_at_top : List Source → TopReading
list_at_top [] = stray_list
list_at_top (head ∷ args) = headed_at_top (heading head) args

unfoldable pub top_reading : Source → TopReading
top_reading (round p items) = list_at_top (listed items)
top_reading (atom p l) = stray
top_reading (symbol p name) = stray
top_reading (square p items) = stray

-- What the forms so far have given: the bodies of each function, each with its number of parameters, the bodies of the
-- `lazy-seq`s, the defined names and the forms.
pub record SoFar : Type 0 where
  pub functions : List (List (ℕ × Expr))
  pub bodies : List Expr
  pub definitions : Definitions
  pub tops : List Top

abbrev pub nothing_yet : SoFar
nothing_yet = record { functions = []; bodies = []; definitions = []; tops = [] }

abbrev pub with_bodies : List Expr → SoFar → SoFar
with_bodies b so = record { functions = so.functions; bodies = b; definitions = so.definitions; tops = so.tops }

abbrev pub with_top : Top → SoFar → SoFar
with_top t so = record { functions = so.functions; bodies = so.bodies; definitions = so.definitions; tops = so.tops ++ t ∷ [] }

abbrev pub with_function : List (ℕ × Expr) → SoFar → SoFar
with_function f so = record { functions = so.functions ++ f ∷ []; bodies = so.bodies; definitions = so.definitions; tops = so.tops }

-- Whether a name is new: neither defined nor built in. A new name that may not be bound is refused, and defined all the same, as a
-- parameter or a binding is bound all the same.
abbrev pub is_new : Definitions → List ℕ → Bool
is_new definitions name = if is_taken definitions name then false else true

-- what is refused of a name that is defined, the lowest number at its place
abbrev pub name_refusals : Definitions → Source → List ScriptRefusal
name_refusals definitions s = if is_taken definitions (name_of s) then refusal 8 (place_of s) ∷ [] else refused_if (is_unfit (name_of s)) 10 s

-- the definitions with one more, where its name is new
abbrev pub with_definition : List ℕ → Meaning → Definitions → Definitions
with_definition name m definitions = if is_new definitions name then definitions ++ (name, m) ∷ [] else definitions

abbrev pub defining : List ℕ → Meaning → SoFar → SoFar
defining name m so = record { functions = so.functions; bodies = so.bodies; definitions = with_definition name m so.definitions; tops = so.tops }

-- a `def` of a name as the value of an expression
abbrev pub after_def : List ℕ → Expr → SoFar → SoFar
after_def name e so =
    if is_new so.definitions name then with_top (tree.def (length so.definitions) e) (defining name (meaning.Form (length so.tops + 1)) so) else so

-- a `defn` of a name, which is defined already, with these bodies
abbrev pub after_defn : Bool → List (ℕ × Expr) → SoFar → SoFar
after_defn true bodies so = with_top tree.defn (with_function bodies so)
after_defn false bodies so = so

-- What is refused of parameters behind these names: a form that can't be bound, and the second of two equal ones.
abbrev pub parameter_refusals : List (List ℕ) → List Source → List ScriptRefusal
parameter_refusals names [] = []
parameter_refusals names (s ∷ ss) =
    refused_if (if is_unbindable s then true else list_any (λ name. bytes_eq name (name_of s)) names) 10 s ++ parameter_refusals (names ++ name_of s ∷ []) ss

-- what is refused of a parameter vector: more than 20 parameters, at the vector, and what is refused of them
abbrev pub vector_refusals : Source → List ScriptRefusal
vector_refusals s = refused_if (nat_lt 20 (length (inside s))) 10 s ++ parameter_refusals [] (inside s)

-- how many parameters a clause has, and their names
abbrev pub count_of : Clause → ℕ
count_of c = length (inside c.parameters)

abbrev pub names_of : Clause → List (List ℕ)
names_of c = map name_of (inside c.parameters)

-- what is refused of a clause behind clauses with these numbers of parameters: a second for as many
abbrev pub twice_refusals : List ℕ → Clause → List ScriptRefusal
twice_refusals counts c = refused_if (list_any (λ n. n == count_of c) counts) 10 c.whole

-- What clauses mean as bodies, behind clauses with these numbers of parameters. A second body for as many parameters is refused.
pub data JudgedClauses (definitions : Definitions) : List ℕ → List Expr → List Clause → List (ℕ × Expr) → List Expr → List ScriptRefusal → Type 0 where
  no_clause : {counts : List ℕ} {b : List Expr} → JudgedClauses definitions counts b [] [] b []
  one_more_clause : {counts : List ℕ} {b b' b'' : List Expr} {c : Clause} {cs : List Clause} {e : Expr} {fs : List (ℕ × Expr)} {rs rs' : List ScriptRefusal} → Judged definitions (names_of c) b c.body e b' rs → JudgedClauses definitions (counts ++ count_of c ∷ []) b' cs fs b'' rs' → JudgedClauses definitions counts b (c ∷ cs) ((count_of c, e) ∷ fs) b'' (vector_refusals c.parameters ++ rs ++ twice_refusals counts c ++ rs')

-- what the forms so far have given, with a function of the next number under a name
abbrev pub with_own : Source → SoFar → SoFar
with_own name so = defining (name_of name) (meaning.Function (length so.functions)) so

mutual
  -- behind what the forms so far have given, a form at the top gives this, and this is refused of it
  pub data JudgedTop : SoFar → Source → SoFar → List ScriptRefusal → Type 0 where
    of_top : {so so' : SoFar} {s : Source} {rs : List ScriptRefusal} → JudgedAtTop so s (top_reading s) so' rs → JudgedTop so s so' rs

  -- the same by what the form asks for
  pub data JudgedAtTop : SoFar → Source → TopReading → SoFar → List ScriptRefusal → Type 0 where
    of_stray : {so : SoFar} {s : Source} → JudgedAtTop so s stray so (refusal 10 (place_of s) ∷ [])
    of_stray_list : {so : SoFar} {s : Source} {e : Expr} {b : List Expr} {rs : List ScriptRefusal} → Judged so.definitions [] so.bodies s e b rs → JudgedAtTop so s stray_list (with_bodies b so) (refusal 10 (place_of s) ∷ rs)
    of_wrong : {so : SoFar} {s : Source} → JudgedAtTop so s wrong so (refusal 9 (place_of s) ∷ [])
    of_threading : {so so' : SoFar} {s t : Source} {steps rs : List ScriptRefusal} → JudgedTop so t so' rs → JudgedAtTop so s (stands_for t steps) so' (steps ++ rs)
    -- the name is known from the next form on
    of_def : {so : SoFar} {s name value : Source} {e : Expr} {b : List Expr} {rs : List ScriptRefusal} → Judged so.definitions [] so.bodies value e b rs → JudgedAtTop so s (def_of name value) (after_def (name_of name) e (with_bodies b so)) (rs ++ name_refusals so.definitions name)
    -- the name is known in its own bodies, also where it may not be bound
    of_defn : {so : SoFar} {s name : Source} {cs : List Clause} {fs : List (ℕ × Expr)} {b : List Expr} {rs : List ScriptRefusal} → JudgedClauses (with_own name so).definitions [] so.bodies cs fs b rs → JudgedAtTop so s (defn_of name cs) (after_defn (is_new so.definitions (name_of name)) fs (with_bodies b (with_own name so))) (name_refusals so.definitions name ++ rs)
    of_prn : {so : SoFar} {s value : Source} {e : Expr} {b : List Expr} {rs : List ScriptRefusal} → Judged so.definitions [] so.bodies value e b rs → JudgedAtTop so s (prn_of value) (with_top (tree.prn e) (with_bodies b so)) rs
    of_ledger : {so : SoFar} {s : Source} → JudgedAtTop so s ledger_of (with_top tree.ledger so) []

-- the same of the forms of a script from the first to the last
pub data JudgedTops : SoFar → List Source → SoFar → List ScriptRefusal → Type 0 where
  no_form : {so : SoFar} → JudgedTops so [] so []
  one_more_form : {so so' so'' : SoFar} {s : Source} {ss : List Source} {rs rs' : List ScriptRefusal} → JudgedTop so s so' rs → JudgedTops so' ss so'' rs' → JudgedTops so (s ∷ ss) so'' (rs ++ rs')

abbrev pub program_of : SoFar → Program
program_of so = record { functions = so.functions; bodies = so.bodies; names = map (λ d. d.0) so.definitions; tops = so.tops }

-- The forms of a script mean a program, and all this is refused of them. It is a script where nothing is.
pub record Means (forms : List Form) (program : Program) (refusals : List ScriptRefusal) : Type 0 where
  pub given : SoFar
  pub judged : JudgedTops nothing_yet (sources_of forms) given refusals
  pub shown : program ≡ program_of given

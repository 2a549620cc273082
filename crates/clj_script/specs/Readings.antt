-- What a list asks for, by the word that heads it and the number and kinds of its arguments.
use Rattle.std.specs.Prelude.{ℕ, Bool, true, false, List, [], ◌∷◌, Option, Some, None, is_some, ◌&&◌}
use Rattle.clj_script.specs.declared.words.Special.{Special}
use Rattle.clj_script.specs.declared.words.Special.TheVariants.{Def, Defn, Prn, Ledger, Let, If, When, And, Or, LazySeq, ThreadSecond, ThreadLast}
use Rattle.clj_script.specs.declared.words.Reserved.{Reserved}
use Rattle.clj_script.specs.declared.words.Reserved.TheVariants as reserved
use Rattle.clj_script.specs.declared.refusal.ScriptRefusal.{ScriptRefusal}
use Rattle.clj_script.specs.declared.thread.Way.{Way}
use Rattle.clj_script.specs.declared.thread.Way.TheVariants.{Second, Last}
use Rattle.clj_script.specs.Trees.{text_literal}
use Rattle.clj_script.specs.Words.{reserved_of}
use Rattle.clj_script.specs.Sources.{Source, atom, symbol, round, square, listed}
use Rattle.clj_script.specs.Threading.{written_out, refusals_of_steps}

-- the reserved word as which a form heads a list
abbrev pub heading : Source → Option Reserved
heading (symbol p name) = reserved_of name
heading (atom p l) = None
heading (round p ss) = None
heading (square p ss) = None

-- the reserved word that heads forms
abbrev pub heading_of : List Source → Option Reserved
heading_of [] = None
heading_of (head ∷ args) = heading head

-- A parameter vector at its place and a body. The whole is the form at which a second body for as many parameters is refused.
pub record Clause : Type 0 where
  pub whole : Source
  pub parameters : Source
  pub body : Source

abbrev pub is_vector : Source → Bool
is_vector (square p ss) = true
is_vector (atom p l) = false
is_vector (symbol p name) = false
is_vector (round p ss) = false

abbrev pub is_symbol : Source → Bool
is_symbol (symbol p name) = true
is_symbol (atom p l) = false
is_symbol (round p ss) = false
is_symbol (square p ss) = false

-- the forms in a vector
abbrev pub inside : Source → List Source
inside (square p ss) = listed ss
inside (atom p l) = []
inside (symbol p name) = []
inside (round p ss) = []

-- a parameter vector and one body, in a list of both
abbrev pub clause_of_pair : Source → List Source → Option Clause
clause_of_pair whole (square p ss ∷ body ∷ []) = Some (record { whole = whole; parameters = square p ss; body = body })
clause_of_pair whole _ = None

abbrev pub clause_of_list : Source → Option Clause
clause_of_list (round p ss) = clause_of_pair (round p ss) (listed ss)
clause_of_list (atom p l) = None
clause_of_list (symbol p name) = None
clause_of_list (square p ss) = None

abbrev pub and_all : Option Clause → Option (List Clause) → Option (List Clause)
and_all (Some c) (Some cs) = Some (c ∷ cs)
and_all (Some c) None = None
and_all None more = None

-- lists, each of a parameter vector and one body
abbrev pub clauses_of_lists : List Source → Option (List Clause)
clauses_of_lists [] = Some []
clauses_of_lists (s ∷ ss) = and_all (clause_of_list s) (clauses_of_lists ss)

-- one or more such lists
abbrev pub clauses_by_lists : List Source → Option (List Clause)
clauses_by_lists [] = None
clauses_by_lists (s ∷ ss) = clauses_of_lists (s ∷ ss)

-- either a parameter vector and one body, or one or more lists of both
abbrev pub clauses_behind : List Source → Option (List Clause)
clauses_behind (square p ss ∷ body ∷ []) = Some (record { whole = square p ss; parameters = square p ss; body = body } ∷ [])
clauses_behind forms = clauses_by_lists forms

-- the same behind a text, which is dropped
abbrev pub clauses : List Source → Option (List Clause)
clauses (atom p (text_literal t) ∷ forms) = clauses_behind forms
clauses forms = clauses_behind forms

-- whether these are arguments of a `def`, a `defn`, a `prn` or a `ledger`: a symbol and an expression; a symbol and clauses; one;
-- none
abbrev pub is_top_form : Special → List Source → Bool
is_top_form Def (name ∷ value ∷ []) = is_symbol name
is_top_form Defn (name ∷ forms) = is_symbol name && is_some (clauses forms)
is_top_form Prn (value ∷ []) = true
is_top_form Ledger [] = true
is_top_form _ _ = false

-- What a list asks for.
pub data Reading : Type 0 where
  -- `()`
  nothing : Reading
  -- it is refused whole with this number, and nothing inside is looked at
  refused : ℕ → Reading
  -- it stands for this form, and these of its steps are refused
  stands_for : Source → List ScriptRefusal → Reading
  call : Source → List Source → Reading
  -- names and expressions in pairs, and a body
  let_of : List (Source × Source) → Source → Reading
  if_of : Source → Source → Option Source → Reading
  and_of : List Source → Reading
  or_of : List Source → Reading
  lazy_seq : Source → Reading

abbrev pub elsewhere : Bool → Reading
elsewhere true = refused 11
elsewhere false = refused 9

abbrev pub threaded : Way → List Source → Reading
threaded way [] = refused 9
threaded way (x ∷ steps) = stands_for (written_out way x steps) (refusals_of_steps steps)

abbrev pub one_more : Source × Source → Option (List (Source × Source)) → Option (List (Source × Source))
one_more pair (Some pairs) = Some (pair ∷ pairs)
one_more pair None = None

-- forms in pairs, where their number is even
abbrev pub paired : List Source → Option (List (Source × Source))
paired [] = Some []
paired (name ∷ []) = None
paired (name ∷ value ∷ rest) = one_more (name, value) (paired rest)

abbrev pub let_with : Option (List (Source × Source)) → Source → Reading
let_with (Some pairs) body = let_of pairs body
let_with None body = refused 9

-- What a special form asks for, a row for each word. Other arguments than these are wrong.
abbrev pub special_reading : Special → List Source → Reading
special_reading Def args = elsewhere (is_top_form Def args)
special_reading Defn args = elsewhere (is_top_form Defn args)
special_reading Prn args = elsewhere (is_top_form Prn args)
special_reading Ledger args = elsewhere (is_top_form Ledger args)
special_reading Let (square p bindings ∷ body ∷ []) = let_with (paired (listed bindings)) body
special_reading If (test ∷ a ∷ []) = if_of test a None
special_reading If (test ∷ a ∷ b ∷ []) = if_of test a (Some b)
special_reading When (test ∷ a ∷ []) = if_of test a None
special_reading And args = and_of args
special_reading Or args = or_of args
special_reading LazySeq (body ∷ []) = lazy_seq body
special_reading ThreadSecond args = threaded Second args
special_reading ThreadLast args = threaded Last args
special_reading _ _ = refused 9

-- A list headed by a word that the language leaves out is refused whole.
abbrev pub headed : Option Reserved → Source → List Source → Reading
headed None head args = call head args
headed (Some reserved.Outside) head args = refused 10
headed (Some (reserved.Special special)) head args = special_reading special args

unfoldable pub reading : List Source → Reading
reading [] = nothing
reading (head ∷ args) = headed (heading head) head args

-- a list that isn't headed by a reserved word
abbrev pub called : List Source → Reading
called [] = nothing
called (head ∷ args) = call head args

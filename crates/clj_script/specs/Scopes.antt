-- What a symbol stands for where a value is wanted, and which names may be bound.
use Rattle.std.specs.Prelude.{ℕ, ◌+◌, Bool, true, false, ◌==◌, List, [], ◌∷◌, Option, Some, None, Result, Ok, Err, is_some, if◌then◌else◌}
use Rattle.std.specs.List.{list_any}
use Rattle.std.specs.Str.{bytes_eq}
use Rattle.seq_values.specs.declared.words.Builtin.{Builtin}
use Rattle.clj_script.specs.declared.definitions.Meaning.{Meaning}
use Rattle.clj_script.specs.declared.definitions.Meaning.TheVariants.{Form, Function}
use Rattle.clj_script.specs.declared.refusal.ScriptRefusal.{ScriptRefusal}
use Rattle.clj_script.specs.Trees.{Expr, word, function_of, defined, local}
use Rattle.clj_script.specs.Words.{spelled, reserved_of, built_in_of}
use Rattle.clj_script.specs.Refusals.{refusal}
use Rattle.clj_script.specs.Sources.{Source, atom, symbol, round, square, place_of}

-- the defined names in order, each with what it stands for
abbrev pub Definitions : Type 0
Definitions = List (List ℕ × Meaning)

abbrev pub or_else : {X : Type 0} → Option X → Option X → Option X
or_else (Some x) other = Some x
or_else None other = other

-- the number of the last name that is this one, where the first of them has the number n
abbrev pub innermost_from : ℕ → List (List ℕ) → List ℕ → Option ℕ
innermost_from n [] name = None
innermost_from n (l ∷ ls) name = or_else (innermost_from (n + 1) ls name) (if bytes_eq l name then Some n else None)

-- the number of the innermost local with a name, among the locals in scope, the outermost first
unfoldable pub innermost : List (List ℕ) → List ℕ → Option ℕ
innermost locals name = innermost_from 0 locals name

abbrev pub meant : Meaning → Expr
meant (Form form) = defined form
meant (Function function) = function_of function

abbrev pub by_word : Option Builtin → Result Expr ℕ
by_word (Some w) = Ok (word w)
by_word None = Err 7

abbrev pub by_definition : Option Meaning → Result Expr ℕ → Result Expr ℕ
by_definition (Some meaning) other = Ok (meant meaning)
by_definition None other = other

abbrev pub by_local : Option ℕ → Result Expr ℕ → Result Expr ℕ
by_local (Some n) other = Ok (local n)
by_local None other = other

-- What a symbol stands for, or the number of its refusal. A reserved word is no value. Else the innermost local with the name
-- comes first, then the definition, then the built-in word; and a name that is none of them isn't known.
unfoldable pub named : Definitions → List (List ℕ) → List ℕ → Result Expr ℕ
named definitions locals name =
    if is_some (reserved_of name) then Err 10
    else by_local (innermost locals name) (by_definition (spelled definitions name) (by_word (built_in_of name)))

-- whether a name may not be bound: it is reserved or has a `/`
unfoldable pub is_unfit : List ℕ → Bool
is_unfit name = if is_some (reserved_of name) then true else list_any (λ c. c == 47) name

-- whether a name is defined already or built in
unfoldable pub is_taken : Definitions → List ℕ → Bool
is_taken definitions name = if is_some (spelled definitions name) then true else is_some (built_in_of name)

abbrev pub refused_if : Bool → ℕ → Source → List ScriptRefusal
refused_if true number s = refusal number (place_of s) ∷ []
refused_if false number s = []

-- the name that a form binds: none where it is no symbol
abbrev pub name_of : Source → List ℕ
name_of (symbol p name) = name
name_of (atom p l) = []
name_of (round p ss) = []
name_of (square p ss) = []

-- whether a form can't be bound: it is no symbol, or the name may not be bound
abbrev pub is_unbindable : Source → Bool
is_unbindable (symbol p name) = is_unfit name
is_unbindable (atom p l) = true
is_unbindable (round p ss) = true
is_unbindable (square p ss) = true

-- what is refused of a parameter or binding
abbrev pub binding_refusals : Source → List ScriptRefusal
binding_refusals s = refused_if (is_unbindable s) 10 s

-- The text of a ledger, from a book, a program and the values of its `def` forms.
use Rattle.std.specs.Prelude.{◌≡◌, ℕ, Bool, true, false, List, [], ◌∷◌, ◌++◌, slice_get, Option, Some, None}
use Rattle.seq_values.specs.Model.{Value}
use Rattle.clj_script.specs.Trees.{Expr, Top, def, defn, prn, ledger, Program}
use Rattle.cell_book.specs.declared.answers.Totals.{Totals}
use Rattle.cell_book.specs.Account.{Account}
use Rattle.seq_table.specs.Outputs.{text_of, is_listed, definitions, front_line, totals_line}
use Rattle.seq_meaning.specs.Gives.{IsNoDef}
use Rattle.seq_ledger.specs.Walks.{FrontIn}

-- The names that are defined, with their values, in order; of the forms and the values of the `def` forms alone. The forms of which no value is given weren't run.
abbrev pub defined_by : {C : Type 0} → List (List ℕ) → List Top → List (Value C) → List (List ℕ × Value C)
defined_by names (def name e ∷ tops) (v ∷ vs) = (text_of (slice_get names name), v) ∷ defined_by names tops vs
defined_by names (def name e ∷ tops) [] = []
defined_by names (defn ∷ tops) vs = defined_by names tops vs
defined_by names (prn e ∷ tops) vs = defined_by names tops vs
defined_by names (ledger ∷ tops) vs = defined_by names tops vs
defined_by names [] vs = []

-- the values of the `def` forms among the values of the first forms
abbrev pub of_defs : {C : Type 0} → List Top → List (Value C) → List (Value C)
of_defs (def name e ∷ tops) (v ∷ vs) = v ∷ of_defs tops vs
of_defs (_ ∷ tops) (v ∷ vs) = of_defs tops vs
of_defs tops _ = []

-- a definition's line, or nothing
pub data LineIn (a : Account) (name : List ℕ) (v : Value ℕ) : List ℕ → Type 0 where
  listed : {n : ℕ} {ended : Bool} → is_listed v ≡ true → FrontIn a v n ended → LineIn a name v (front_line name n ended)
  unlisted : is_listed v ≡ false → LineIn a name v []

-- the lines of definitions, in order
pub data LinesIn (a : Account) : List (List ℕ × Value ℕ) → List ℕ → Type 0 where
  no_lines : LinesIn a [] []
  one_more : {name : List ℕ} {v : Value ℕ} {line bytes : List ℕ} {more : List (List ℕ × Value ℕ)} → LineIn a name v line → LinesIn a more bytes → LinesIn a ((name, v) ∷ more) (line ++ bytes)

-- bytes of this kind were appended
abbrev pub IsMore : (List ℕ → Type 0) → List ℕ → List ℕ → Type 0
IsMore P old new = (bytes : List ℕ) × P bytes × (new ≡ old ++ bytes)

-- the form at a place defines the name with this number, or none
abbrev pub DefinesAt : List Top → ℕ → Option ℕ → Type 0
DefinesAt tops at (Some name) = (e : Expr) × (slice_get tops at ≡ Some (def name e))
DefinesAt tops at None = (t : Top) × (slice_get tops at ≡ Some t) × IsNoDef t

-- the ledger: the lines of the definitions, and that of the totals
pub record LedgerIn (a : Account) (program : Program) (defs : List (Value ℕ)) (totals : Totals) (text : List ℕ) : Type 0 where
  pub lines : List ℕ
  pub of_definitions : LinesIn a (defined_by program.names program.tops defs) lines
  pub whole : text ≡ lines ++ totals_line totals.made totals.realised totals.failed

-- both readings of the definitions agree
abbrev pub ReadsAlike : Type 0
ReadsAlike = (names : List (List ℕ)) (tops : List Top) (values : List (Value ℕ)) → definitions names tops values ≡ defined_by names tops (of_defs tops values)

-- a book, a program, the values of its `def` forms and totals have one ledger
abbrev pub OneText : Type 0
OneText = (a : Account) (program : Program) (defs : List (Value ℕ)) (totals : Totals) (t u : List ℕ) → LedgerIn a program defs totals t → LedgerIn a program defs totals u → t ≡ u

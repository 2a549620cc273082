-- What a run of a program writes, form by form, and how it ends.
use Rattle.std.specs.Prelude.{◌≡◌, ℕ, suc, ◌<◌, ◌≤◌, pos, Bool, true, false, List, [], ◌∷◌, ◌++◌, length, Option, Some, None, slice_get, codes}
use Rattle.std.specs.Fmt.{signed_decimal}
use Rattle.seq_base.specs.declared.thrown.Thrown.{Thrown}
use Rattle.seq_base.specs.Words.{word}
use Rattle.seq_values.specs.Model.{Value, text, cell, empty, cons, chunk, range, vec_seq, gave, threw}
use Rattle.clj_script.specs.Trees.{Expr, Top, def, defn, prn, ledger, Program}
use Rattle.seq_plan.specs.Plan.{Rules}
use Rattle.seq_meaning.specs.Names.{Name, form}
use Rattle.seq_meaning.specs.Gives.{Gives, Before}
use Rattle.seq_meaning.specs.Counts.{MadeBy, Realised, Failed, HasSize, FormsFit}
use Rattle.seq_table.specs.Fronts.{Front}

-- how a run ends: every form was run, a `def` threw, or the parts passed the cell limit
pub data Ending : Type 0 where
  done def_threw spent : Ending

abbrev pub decimal : ℕ → List ℕ
decimal n = signed_decimal (pos n)

abbrev pub newline : List ℕ
newline = codes "\n"

abbrev pub text_of : Option (List ℕ) → List ℕ
text_of None = []
text_of (Some bytes) = bytes

-- ## The ledger

-- whether a definition has a line: its value is a cell or a node, and no vector
abbrev pub is_listed : {C : Type 0} → Value C → Bool
is_listed (cell c) = true
is_listed empty = true
is_listed (cons xs r) = true
is_listed (chunk xs r) = true
is_listed (range from at end) = true
is_listed (vec_seq xs at) = true
is_listed _ = false

-- the names that are defined, with their values, in order; of the forms and the values of the forms
abbrev pub definitions : {C : Type 0} → List (List ℕ) → List Top → List (Value C) → List (List ℕ × Value C)
definitions names (def name e ∷ tops) (v ∷ vs) = (text_of (slice_get names name), v) ∷ definitions names tops vs
definitions names (_ ∷ tops) (v ∷ vs) = definitions names tops vs
definitions names tops _ = []

-- the end of a line, where the end of the value is reached
abbrev pub end_mark : Bool → List ℕ
end_mark true = codes " end"
end_mark false = []

abbrev pub front_line : List ℕ → ℕ → Bool → List ℕ
front_line name n ended = name ++ codes " " ++ decimal n ++ end_mark ended ++ newline

-- an error that is thrown shows its word
abbrev pub error_line : Thrown → List ℕ
error_line x = codes "threw " ++ word x ++ newline

abbrev pub totals_line : ℕ → ℕ → ℕ → List ℕ
totals_line makes realises fails = codes "cells " ++ decimal makes ++ codes " realised " ++ decimal realises ++ codes " failed " ++ decimal fails ++ newline

module _ (rules : Rules Name) (program : Program) (limit : ℕ) where
  -- the front of a value after form k
  abbrev pub FrontAt : ℕ → Value Name → ℕ → Bool → Type 0
  FrontAt k v n ended = Front (Realised rules program limit k) (λ c u. Gives rules program limit c (gave u)) v n ended

  -- the lines of the definitions that have one
  pub data FrontLines (k : ℕ) : List (List ℕ × Value Name) → List ℕ → Type 0 where
    no_lines : FrontLines k [] []
    line_of : {name : List ℕ} {v : Value Name} {n : ℕ} {ended : Bool} {more : List (List ℕ × Value Name)} {bytes : List ℕ} → is_listed v ≡ true → FrontAt k v n ended → FrontLines k more bytes → FrontLines k ((name, v) ∷ more) (front_line name n ended ++ bytes)
    no_line_of : {name : List ℕ} {v : Value Name} {more : List (List ℕ × Value Name)} {bytes : List ℕ} → is_listed v ≡ false → FrontLines k more bytes → FrontLines k ((name, v) ∷ more) bytes

  -- the ledger after form k
  pub data Ledger (k : ℕ) : List ℕ → Type 0 where
    ledger_of : {defs : List (Value Name)} {lines : List ℕ} {makes realises fails : ℕ} → Before rules program limit k defs → FrontLines k (definitions program.names program.tops defs) lines → HasSize (MadeBy rules program limit k) makes → HasSize (Realised rules program limit k) realises → HasSize (Failed rules program limit k) fails → Ledger k (lines ++ totals_line makes realises fails)

  -- ## Lines

  -- the bytes that form k writes, from 1: the printed text, or the error that was thrown, or nothing, or the ledger
  pub data Line : ℕ → List ℕ → Type 0 where
    line_of_def : {k name : ℕ} {e : Expr} {v : Value Name} → slice_get program.tops k ≡ Some (def name e) → Gives rules program limit (form (suc k)) (gave v) → Line (suc k) []
    line_of_defn : {k : ℕ} → slice_get program.tops k ≡ Some defn → Line (suc k) []
    line_of_prn : {k : ℕ} {e : Expr} {bytes : List ℕ} → slice_get program.tops k ≡ Some (prn e) → Gives rules program limit (form (suc k)) (gave (text bytes)) → Line (suc k) (bytes ++ newline)
    line_of_failed_def : {k name : ℕ} {e : Expr} {x : Thrown} → slice_get program.tops k ≡ Some (def name e) → Gives rules program limit (form (suc k)) (threw x) → Line (suc k) (error_line x)
    line_of_failed_prn : {k : ℕ} {e : Expr} {x : Thrown} → slice_get program.tops k ≡ Some (prn e) → Gives rules program limit (form (suc k)) (threw x) → Line (suc k) (error_line x)
    line_of_ledger : {k : ℕ} {bytes : List ℕ} → slice_get program.tops k ≡ Some ledger → Ledger (suc k) bytes → Line (suc k) bytes

  -- the lines of the first k forms, joined
  pub data Output : ℕ → List ℕ → Type 0 where
    no_output : Output 0 []
    one_more_line : {k : ℕ} {so_far line : List ℕ} → Output k so_far → Line (suc k) line → Output (suc k) (so_far ++ line)

  -- ## Runs

  -- a `def` that throws
  pub data DefThrows (k : ℕ) : Type 0 where
    def_throws : {i name : ℕ} {e : Expr} {x : Thrown} → k ≡ suc i → slice_get program.tops i ≡ Some (def name e) → Gives rules program limit (form k) (threw x) → DefThrows k

  -- each form before form k fits, and none of them is a `def` that throws
  abbrev pub IsReached : ℕ → ℕ → Type 0
  IsReached cells k = (i : ℕ) → 1 ≤ i → i < k → FormsFit rules program limit cells i × (¬ (DefThrows i))

  -- how a run ends
  pub data Ran (cells : ℕ) : Ending → List ℕ → Type 0 where
    -- at form k the parts pass the cell limit: nothing is written for it
    ran_out : {k : ℕ} {bytes : List ℕ} → k < length program.tops → IsReached cells (suc k) → ¬ (FormsFit rules program limit cells (suc k)) → Output k bytes → Ran cells spent bytes
    -- form k is a `def` that throws, and fits: its line is the last one
    threw_at : {k : ℕ} {bytes : List ℕ} → IsReached cells k → FormsFit rules program limit cells k → DefThrows k → Output k bytes → Ran cells def_threw bytes
    -- every form fits, and no `def` throws
    ran_through : {bytes : List ℕ} → IsReached cells (suc (length program.tops)) → Output (length program.tops) bytes → Ran cells done bytes

  -- A prefix of what a run writes, as far as somebody has come: k forms were begun, each of them fits, none before the last is a `def` that throws, and the bytes begin their output.
  pub data RanPart (cells : ℕ) (bytes : List ℕ) : Type 0 where
    ran_part : {k : ℕ} {whole : List ℕ} (rest : List ℕ) → IsReached cells k → (0 < k → FormsFit rules program limit cells k) → Output k whole → whole ≡ bytes ++ rest → RanPart cells bytes

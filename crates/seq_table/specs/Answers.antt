-- What the program answers, by what its words ask for and the bytes of its script: a status and the text that is written. Which programs a text has, and how it is refused, is a parameter.
use Rattle.std.specs.Prelude.{◌≡◌, ℕ, cond, nat_eq, List, [], ◌∷◌, ◌++◌, length, Option, Some, None, codes}
use Rattle.clj_script.specs.Trees.{Program}
use Rattle.seq_table.specs.Table.{language}
use Rattle.seq_table.specs.Outputs.{Ending, done, decimal, newline, Ran}
use Rattle.seq_table.specs.Generated.{generated}

-- what the words ask for: to run the script, to look at it only, or to run a script made from a number
pub data Request : Type 0 where
  runs checks : Request
  generates : ℕ → Request

pub record Options : Type 0 where
  pub request : Request
  pub processors : ℕ
  pub cells : ℕ
  pub steps : ℕ

pub data Status : Type 0 where
  -- the words aren't in the grammar
  usage : Status
  script_refused : Status
  -- a script was run, and ended so; or it was looked at
  ended : Ending → Status

-- why a script is refused, and the line and column where
pub record Refusal : Type 0 where
  pub number : ℕ
  pub line : ℕ
  pub column : ℕ

abbrev pub refusal_line : Refusal → List ℕ
refusal_line r = codes "refused " ++ decimal r.number ++ codes " " ++ decimal r.line ++ codes ":" ++ decimal r.column ++ newline

abbrev pub forms_line : ℕ → List ℕ
forms_line n = codes "forms " ++ decimal n ++ newline

-- the lines of a text, each with its newline, after the bytes of a line so far; what stands behind the last newline is no line
abbrev pub lines_after : List ℕ → List ℕ → List (List ℕ)
lines_after line [] = []
lines_after line (b ∷ bytes) = cond (nat_eq b 10) ((line ++ b ∷ []) ∷ lines_after [] bytes) (lines_after (line ++ b ∷ []) bytes)

abbrev pub lines_of : List ℕ → List (List ℕ)
lines_of bytes = lines_after [] bytes

-- the last one, if there is one
abbrev pub last_of : List (List ℕ) → List ℕ
last_of [] = []
last_of (l ∷ []) = l
last_of (l ∷ m ∷ ls) = last_of (m ∷ ls)

-- of a script that was made: how many forms it has, how many lines its run wrote, and the last of them
abbrev pub summary : ℕ → List ℕ → List ℕ
summary forms bytes = forms_line forms ++ codes "lines " ++ decimal (length (lines_of bytes)) ++ newline ++ last_of (lines_of bytes)

module _ (Means : List ℕ → Program → Type 0) (Refuses : List ℕ → Refusal → Type 0) where
  -- what a script's run writes, and how it ends
  abbrev pub RanBy : Options → Program → Ending → List ℕ → Type 0
  RanBy options program ending bytes = Ran (language options.processors) program options.steps options.cells ending bytes

  pub data Answered (script : List ℕ) : Option Options → Status → List ℕ → Type 0 where
    no_options : Answered script None usage []
    -- a script that is made isn't refused, and nothing is read for it
    script_made : {n : ℕ} {options : Options} {program : Program} {ending : Ending} {bytes : List ℕ} → options.request ≡ generates n → Means (generated n) program → RanBy options program ending bytes → Answered script (Some options) (ended ending) (summary (length program.tops) bytes)
    refused_to_check : {options : Options} {r : Refusal} → options.request ≡ checks → Refuses script r → Answered script (Some options) script_refused (refusal_line r)
    refused_to_run : {options : Options} {r : Refusal} → options.request ≡ runs → Refuses script r → Answered script (Some options) script_refused (refusal_line r)
    looked_at : {options : Options} {program : Program} → options.request ≡ checks → Means script program → Answered script (Some options) (ended done) (forms_line (length program.tops))
    was_run : {options : Options} {program : Program} {ending : Ending} {bytes : List ℕ} → options.request ≡ runs → Means script program → RanBy options program ending bytes → Answered script (Some options) (ended ending) bytes

-- A program that reads scripts so answers in one way: where each text means one program at most, is refused in one way at most, and never both.
abbrev pub OneAnswered : (List ℕ → Program → Type 0) → (List ℕ → Refusal → Type 0) → Type 0
OneAnswered Means Refuses =
    ((bytes : List ℕ) (p q : Program) → Means bytes p → Means bytes q → p ≡ q)
    → ((bytes : List ℕ) (r s : Refusal) → Refuses bytes r → Refuses bytes s → r ≡ s)
    → ((bytes : List ℕ) (p : Program) (r : Refusal) → Means bytes p → ¬ (Refuses bytes r))
    → (script : List ℕ) (options : Option Options) (status other : Status) (text another : List ℕ) → Answered Means Refuses script options status text → Answered Means Refuses script options other another → (status ≡ other) × (text ≡ another)

-- What the line of a form does to what was written, and how a run ends after it.
use Rattle.std.specs.Prelude.{◌≡◌, ℕ, List, [], ◌∷◌, ◌++◌, Option, Some, None, Result, Ok, Err}
use Rattle.std.specs.Io.KnownBytes.{Appends}
use Rattle.seq_base.specs.declared.limits.Limits.{Limits}
use Rattle.seq_values.specs.declared.value.Value.{Value as Coded}
use Rattle.seq_values.specs.declared.value.Value.TheVariants as V
use Rattle.cell_book.specs.Account.{Account}
use Rattle.clj_script.specs.Trees.{Top, def, defn, prn, ledger, Program}
use Rattle.seq_meaning.specs.Gives.{IsNoDef}
use Rattle.seq_table.specs.Outputs.{newline, error_line, Ending, def_threw, spent, Ran, RanPart}
use Rattle.lone_run.specs.declared.ending.RunEnd.{RunEnd}
use Rattle.lone_run.specs.declared.ending.RunEnd.TheVariants as End
use Rattle.lone_run.specs.declared.given.Given.{Given}
use Rattle.lone_run.specs.declared.given.Given.TheVariants as G
use Rattle.lone_run.specs.Running.{names_of}
use Rattle.lone_run.specs.Stages.{RunAt}

-- the bytes of a line, if there is one
abbrev pub bytes_of : Option (List ℕ) → List ℕ
bytes_of None = []
bytes_of (Some bytes) = bytes

-- a `prn` gives a text, or throws
abbrev pub IsText : Given → Type 0
IsText (G.Gave (V.Text bytes)) = Unit {0}
IsText (G.Gave _) = ⊥
IsText (G.Threw why) = Unit {0}

-- the line of a `prn` that came to this
abbrev pub prn_text : Given → List ℕ
prn_text (G.Gave (V.Text bytes)) = bytes ++ newline
prn_text (G.Gave _) = []
prn_text (G.Threw why) = error_line why

-- and that of a `def`, if it threw
abbrev pub def_text : Given → List ℕ
def_text (G.Gave v) = []
def_text (G.Threw why) = error_line why

-- the values of the `def` forms after a form that gave this: one more where it is a `def`
abbrev pub Keeps : Top → Given → List Coded → List Coded → Type 0
Keeps (def name e) (G.Gave v) old new = new ≡ old ++ v ∷ []
Keeps (def name e) (G.Threw why) old new = ⊥
Keeps defn given old new = new ≡ old
Keeps (prn e) given old new = new ≡ old
Keeps ledger given old new = new ≡ old

-- a `def` that threw
abbrev pub IsThrownDef : Top → Given → Type 0
IsThrownDef (def name e) (G.Threw why) = Unit {0}
IsThrownDef _ _ = ⊥

-- why a line wasn't written whole
abbrev pub IsWriteEnd : RunEnd → Type 0
IsWriteEnd End.WriteFault = Unit {0}
IsWriteEnd End.NoMemory = Unit {0}
IsWriteEnd _ = ⊥

-- why the run ends after a form's line
abbrev pub IsLineEnd : Top → Given → RunEnd → Type 0
IsLineEnd top given End.DefThrew = IsThrownDef top given
IsLineEnd top given End.NoMemory = Unit {0}
IsLineEnd top given _ = ⊥

module _ (program : Program) (limits : Limits) where
  -- after what was written before, the run ends so
  pub record EndsWith (ending : Ending) (written : List ℕ) (old new : Option (List ℕ)) : Type 0 where
    pub line : List ℕ
    pub appended : Appends old new line
    pub ran : Ran (names_of limits) program limits.steps limits.cells ending (written ++ line)

  -- why the run ends at a form
  abbrev pub Ends : RunEnd → List ℕ → Option (List ℕ) → Option (List ℕ) → Type 0
  Ends End.Done written old new = ⊥
  Ends End.DefThrew written old new = EndsWith def_threw written old new
  Ends End.CellsSpent written old new = EndsWith spent written old new
  Ends End.WriteFault written old new = Unit {0}
  Ends End.NoMemory written old new = Unit {0}

  -- a prefix of what the run writes was appended to what was written before
  pub record GoesPart (written : List ℕ) (old new : Option (List ℕ)) : Type 0 where
    pub part : List ℕ
    pub appended : Appends old new part
    pub ran : RanPart (names_of limits) program limits.steps limits.cells (written ++ part)

  -- the output of one more form was appended
  pub record GoesOn (written : List ℕ) (k : ℕ) (a : Account) (defined : List Coded) (old new : Option (List ℕ)) : Type 0 where
    pub line : List ℕ
    pub appended : Appends old new line
    pub at : RunAt program limits a k (written ++ line) defined

  -- The output of the first k forms was appended, and the run has come past them.
  pub record Ongoing (k : ℕ) (a : Account) (defined : List Coded) (old new : Option (List ℕ)) : Type 0 where
    pub written : List ℕ
    pub appended : Appends old new written
    pub at : RunAt program limits a k written defined

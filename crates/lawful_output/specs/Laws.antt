-- What a run writes, from a lawful book: statements.
use Rattle.std.specs.Prelude.{◌≡◌, ℕ, suc, ◌<◌, false, true, List, [], ◌∷◌, ◌++◌, length, Option, Ok, Some, slice_get}
use Rattle.seq_base.specs.declared.thrown.Thrown.{Thrown}
use Rattle.seq_values.specs.declared.value.Value.{Value as Coded}
use Rattle.seq_values.specs.declared.value.Value.TheVariants as V
use Rattle.clj_script.specs.Trees.{Expr, Top, def, defn, prn, Program}
use Rattle.seq_plan.specs.Plan.{Rules}
use Rattle.cell_book.specs.Account.{Account, Duty, new_book, begun, opens}
use Rattle.cell_book.specs.Glimpses.{glimpse, Reaches}
use Rattle.cell_book.specs.Steps.{values_in, Begins, Claims, IsOpenFuture}
use Rattle.seq_meaning.specs.Names.{Name}
use Rattle.seq_meaning.specs.Gives.{IsNoDef}
use Rattle.seq_meaning.specs.Counts.{FormsFit}
use Rattle.seq_table.specs.Table.{language}
use Rattle.seq_table.specs.Outputs.{newline, error_line, done, def_threw, spent, Line, DefThrows, Ran, RanPart}
use Rattle.seq_lawful.specs.Lawful.{Lawful}
use Rattle.seq_lawful.specs.Rest.{AtRest}
use Rattle.seq_lawful.specs.Runs.{IsBefore, MayBegin}
use Rattle.lawful_works.specs.Evaluated.{IsOnly}
use Rattle.lawful_output.specs.Progress.{HasGiven, HasThrown, IsDoneAt, Rested, Reached}

-- ## The book

-- a book in which no claim is open and no future is empty, and of which nothing was noted, is at rest
abbrev pub QuietRests : Type 0
QuietRests = (rules : Rules Name) (program : Program) (limit : ℕ) (a : Account) → Lawful rules program limit a → ((c : ℕ) → opens c a ≡ 0) → ((id : ℕ) → ¬ (IsOpenFuture a id)) → a.spent ≡ false → a.gave_up ≡ false → AtRest a

-- and in a book at rest no claim is open
abbrev pub RestIsClosed : Type 0
RestIsClosed = (rules : Rules Name) (program : Program) (limit : ℕ) (a : Account) → Lawful rules program limit a → AtRest a → (c : ℕ) → opens c a ≡ 0

-- where a form is begun in a book in which no claim is open, its claim alone is open
abbrev pub BegunIsOnly : Type 0
BegunIsOnly = (a b : Account) (number : ℕ) (w : Duty) → ((c : ℕ) → opens c a ≡ 0) → Begins a number (Ok w) b → IsOnly b w

-- and so is that of a future which is claimed in such a book
abbrev pub ClaimedIsOnly : Type 0
ClaimedIsOnly = (a b : Account) (id : ℕ) (asker : Option ℕ) (w : Duty) → ((c : ℕ) → opens c a ≡ 0) → Claims a id asker (Ok w) b → IsOnly b w

-- the numbers of the forms begun tell how many forms there are
abbrev pub BegunCounts : Type 0
BegunCounts = (a b : Account) → begun b ≡ begun a → length b.forms ≡ length a.forms

-- after a run has come so far, the next form may be begun
abbrev pub NextMayBegin : Type 0
NextMayBegin = (numeric : Rules ℕ) (rules : Rules Name) (program : Program) (limit cells : ℕ) (a : Account) (k : ℕ) (written : List ℕ) (t : Top) → Reached rules program limit cells a k written → slice_get program.tops k ≡ Some t → MayBegin numeric program limit (glimpse a) (suc k)

-- ## Forms that ended

-- a form that gave a value is done
abbrev pub GivenIsDone : Type 0
GivenIsDone = (rules : Rules Name) (program : Program) (limit : ℕ) (a : Account) → Lawful rules program limit a → (k : ℕ) (v : Coded) → HasGiven a k v → IsDoneAt program a k

-- and so is one that threw and defines nothing
abbrev pub ThrownIsDone : Type 0
ThrownIsDone = (program : Program) (a : Account) (k : ℕ) (t : Top) (why : Thrown) → slice_get program.tops k ≡ Some t → IsNoDef t → HasThrown a k why → IsDoneAt program a k

-- a form keeps the value that it gave, however the book goes on
abbrev pub ValueStays : Type 0
ValueStays = (rules : Rules Name) (program : Program) (limit : ℕ) (a b : Account) → Lawful rules program limit a → Reaches (glimpse a) (glimpse b) → (k : ℕ) (v : Coded) → HasGiven a k v → HasGiven b k v

-- and the error that it threw
abbrev pub ErrorStays : Type 0
ErrorStays = (a b : Account) → Reaches (glimpse a) (glimpse b) → (k : ℕ) (why : Thrown) → HasThrown a k why → HasThrown b k why

-- the values of the forms of a book at rest are those before, however the book goes on
abbrev pub ValuesStand : Type 0
ValuesStand = (a b : Account) → AtRest a → Reaches (glimpse a) (glimpse b) → (i : ℕ) → i < length a.forms → IsBefore (glimpse b) (values_in a.forms) i

-- such values stay those before
abbrev pub BeforeStays : Type 0
BeforeStays = (a b : Account) → Reaches (glimpse a) (glimpse b) → (outcomes : List Coded) (i : ℕ) → IsBefore (glimpse a) outcomes i → IsBefore (glimpse b) outcomes i

-- and with what the next form ended by there is one more: its value, or nil where it threw
abbrev pub OneMoreBefore : Type 0
OneMoreBefore = (rules : Rules Name) (program : Program) (limit : ℕ) (a : Account) → Lawful rules program limit a → (outcomes : List Coded) → ((i : ℕ) → i < length outcomes → IsBefore (glimpse a) outcomes i) → ((v : Coded) → HasGiven a (length outcomes) v → (i : ℕ) → i < suc (length outcomes) → IsBefore (glimpse a) (outcomes ++ v ∷ []) i) × ((why : Thrown) → HasThrown a (length outcomes) why → (i : ℕ) → i < suc (length outcomes) → IsBefore (glimpse a) (outcomes ++ V.Nil ∷ []) i)

-- ## Lines

-- a `prn` gives a text
abbrev pub PrnGivesText : Type 0
PrnGivesText = (processors : ℕ) (program : Program) (limit : ℕ) (a : Account) → Lawful (language processors) program limit a → (k : ℕ) (e : Expr) (v : Coded) → slice_get program.tops k ≡ Some (prn e) → HasGiven a k v → (bytes : List ℕ) × (v ≡ V.Text bytes)

-- which is its line, but for the newline
abbrev pub LineOfPrn : Type 0
LineOfPrn = (rules : Rules Name) (program : Program) (limit : ℕ) (a : Account) → Lawful rules program limit a → (k : ℕ) (e : Expr) (bytes : List ℕ) → slice_get program.tops k ≡ Some (prn e) → HasGiven a k (V.Text bytes) → Line rules program limit (suc k) (bytes ++ newline)

-- a `def` that gives a value writes nothing
abbrev pub LineOfDef : Type 0
LineOfDef = (rules : Rules Name) (program : Program) (limit : ℕ) (a : Account) → Lawful rules program limit a → (k name : ℕ) (e : Expr) (v : Coded) → slice_get program.tops k ≡ Some (def name e) → HasGiven a k v → Line rules program limit (suc k) []

-- nor does a `defn`
abbrev pub LineOfDefn : Type 0
LineOfDefn = (rules : Rules Name) (program : Program) (limit k : ℕ) → slice_get program.tops k ≡ Some defn → Line rules program limit (suc k) []

-- the line of a `prn` that throws names the error
abbrev pub LineOfThrownPrn : Type 0
LineOfThrownPrn = (rules : Rules Name) (program : Program) (limit : ℕ) (a : Account) → Lawful rules program limit a → (k : ℕ) (e : Expr) (why : Thrown) → slice_get program.tops k ≡ Some (prn e) → HasThrown a k why → Line rules program limit (suc k) (error_line why)

-- and so does that of a `def` that throws
abbrev pub LineOfThrownDef : Type 0
LineOfThrownDef = (rules : Rules Name) (program : Program) (limit : ℕ) (a : Account) → Lawful rules program limit a → (k name : ℕ) (e : Expr) (why : Thrown) → slice_get program.tops k ≡ Some (def name e) → HasThrown a k why → Line rules program limit (suc k) (error_line why)

-- ## What fits, and what throws

-- the forms of a book at rest fit
abbrev pub FitsAtRest : Type 0
FitsAtRest = (rules : Rules Name) (program : Program) (limit cells : ℕ) (a : Account) (k : ℕ) → Rested rules program limit cells a k → FormsFit rules program limit cells k

-- those of a book in which a make was refused don't
abbrev pub OverWhereSpent : Type 0
OverWhereSpent = (rules : Rules Name) (program : Program) (limit cells : ℕ) (a : Account) (k : ℕ) → Lawful rules program limit a → a.limit ≡ cells → length a.forms ≡ k → a.spent ≡ true → ¬ (FormsFit rules program limit cells k)

-- a `def` form that ended by an error is a `def` that throws
abbrev pub DefThrowsWhere : Type 0
DefThrowsWhere = (rules : Rules Name) (program : Program) (limit : ℕ) (a : Account) → Lawful rules program limit a → (k name : ℕ) (e : Expr) (why : Thrown) → slice_get program.tops k ≡ Some (def name e) → HasThrown a k why → DefThrows rules program limit (suc k)

-- a form that is done is none
abbrev pub NoDefThrows : Type 0
NoDefThrows = (rules : Rules Name) (program : Program) (limit : ℕ) (a : Account) → Lawful rules program limit a → (k : ℕ) → k < length a.forms → IsDoneAt program a k → ¬ (DefThrows rules program limit (suc k))

-- ## How far a run has come

-- at the start
abbrev pub ReachedNew : Type 0
ReachedNew = (rules : Rules Name) (program : Program) (limit cells : ℕ) → Reached rules program limit cells (new_book cells) 0 []

-- after one more form, which is done, with its line
abbrev pub ReachedOn : Type 0
ReachedOn = (rules : Rules Name) (program : Program) (limit cells : ℕ) (a b : Account) (k : ℕ) (written line : List ℕ) → Reached rules program limit cells a k written → Rested rules program limit cells b (suc k) → IsDoneAt program b k → Line rules program limit (suc k) line → Reached rules program limit cells b (suc k) (written ++ line)

-- ## How it ends

-- after the last form
abbrev pub RanThrough : Type 0
RanThrough = (rules : Rules Name) (program : Program) (limit cells : ℕ) (a : Account) (k : ℕ) (written : List ℕ) → Reached rules program limit cells a k written → k ≡ length program.tops → Ran rules program limit cells done written

-- at a form for which a make was refused: nothing is written for it
abbrev pub RanOut : Type 0
RanOut = (rules : Rules Name) (program : Program) (limit cells : ℕ) (a b : Account) (k : ℕ) (written : List ℕ) → Reached rules program limit cells a k written → Lawful rules program limit b → b.limit ≡ cells → length b.forms ≡ suc k → b.spent ≡ true → Ran rules program limit cells spent written

-- at a `def` that throws: its line is the last one
abbrev pub ThrewAt : Type 0
ThrewAt = (rules : Rules Name) (program : Program) (limit cells : ℕ) (a b : Account) (k : ℕ) (written : List ℕ) → Reached rules program limit cells a k written → Rested rules program limit cells b (suc k) → (name : ℕ) (e : Expr) (why : Thrown) → slice_get program.tops k ≡ Some (def name e) → HasThrown b k why → Ran rules program limit cells def_threw (written ++ error_line why)

-- ## What was written so far

-- a prefix of the output of the forms so far is part of what the run writes
abbrev pub PartOf : Type 0
PartOf = (rules : Rules Name) (program : Program) (limit cells : ℕ) (a : Account) (k : ℕ) (written part rest : List ℕ) → Reached rules program limit cells a k written → written ≡ part ++ rest → RanPart rules program limit cells part

-- and so is one that ends in the line of the next form
abbrev pub PartOfNext : Type 0
PartOfNext = (rules : Rules Name) (program : Program) (limit cells : ℕ) (a b : Account) (k : ℕ) (written line part rest : List ℕ) → Reached rules program limit cells a k written → Rested rules program limit cells b (suc k) → Line rules program limit (suc k) line → written ++ line ≡ part ++ rest → RanPart rules program limit cells part

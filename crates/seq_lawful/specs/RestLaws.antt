-- What a lawful book says at rest, as statements.
use Rattle.std.specs.Prelude.{◌≡◌, ◌≢◌, ℕ, length, Some, true, false, suc, slice_get, ◌↔◌}
use Rattle.seq_base.specs.declared.thrown.Thrown.{Thrown}
use Rattle.seq_values.specs.declared.words.Kind.TheVariants.{Future}
use Rattle.seq_values.specs.declared.value.Value.{Value as Coded}
use Rattle.seq_values.specs.Model.{Outcome, gave, threw}
use Rattle.seq_values.specs.Plain.{plain}
use Rattle.clj_script.specs.Trees.{Program}
use Rattle.seq_plan.specs.Plan.{Rules}
use Rattle.cell_book.specs.declared.cell.State.TheVariants as S
use Rattle.cell_book.specs.declared.cell.Attempt.{Attempt}
use Rattle.cell_book.specs.declared.cell.ClaimEnd.TheVariants as E
use Rattle.cell_book.specs.declared.cell.Cell.{Cell}
use Rattle.cell_book.specs.declared.cell.Form.{Form}
use Rattle.cell_book.specs.Account.{Account, cell_at, is_open}
use Rattle.cell_book.specs.Counts.{totals_of}
use Rattle.seq_meaning.specs.Counts.{Demand, MadeBy, Realised, Failed, HasSize, FormsFit}
use Rattle.seq_meaning.specs.Gives.{Gives}
use Rattle.seq_meaning.specs.Names.{Name, form}
use Rattle.seq_lawful.specs.Sites.{Mode, own_name, Site, ClaimAt, Ended}
use Rattle.seq_lawful.specs.Lawful.{CellName, ClaimName, GivesSo, Lawful}
use Rattle.seq_lawful.specs.Rest.{AtRest, HasCell, HasDone, HasFailed}

-- where no claim is open, nothing was noted and no future is empty, a lawful book is at rest
abbrev pub Rests : Type 0
Rests = (rules : Rules Name) (program : Program) (limit : ℕ) (a : Account) → Lawful rules program limit a → ((s : Site) (x : Attempt) → ClaimAt a s x → is_open x.end ≡ false) → ((id : ℕ) (p : Cell) → cell_at a id ≡ Some p → p.kind ≡ Future → p.state ≢ S.Empty) → a.spent ≡ false → a.gave_up ≡ false → AtRest a

-- at any time a cell and a claim have at most one own name
abbrev pub OneOwnName : Type 0
OneOwnName = (rules : Rules Name) (program : Program) (limit : ℕ) (a : Account) → Lawful rules program limit a → ((id : ℕ) (n m : Name) → CellName rules program limit a own_name id n → CellName rules program limit a own_name id m → n ≡ m) × ((c : ℕ) (n m : Name) → ClaimName rules program limit a own_name c n → ClaimName rules program limit a own_name c m → n ≡ m)

-- at rest each has one, and a claim's is demanded
abbrev pub NamedAtRest : Type 0
NamedAtRest = (rules : Rules Name) (program : Program) (limit : ℕ) (a : Account) → Lawful rules program limit a → AtRest a → ((id : ℕ) (p : Cell) → cell_at a id ≡ Some p → (n : Name) × CellName rules program limit a own_name id n) × ((s : Site) (x : Attempt) → ClaimAt a s x → (e : Name) × ClaimName rules program limit a own_name x.claim e × Demand rules program limit (length a.forms) e)

-- the names of the cells, of the Done cells and of the failed attempts are the parts made, realised and failed
abbrev pub NamesAtRest : Type 0
NamesAtRest = (rules : Rules Name) (program : Program) (limit : ℕ) (a : Account) → Lawful rules program limit a → AtRest a → (n : Name) → (HasCell rules program limit a n ↔ MadeBy rules program limit (length a.forms) n) × (HasDone rules program limit a n ↔ Realised rules program limit (length a.forms) n) × (HasFailed rules program limit a n ↔ Failed rules program limit (length a.forms) n)

-- the book's totals are the numbers of the parts made, realised and failed
abbrev pub CountedAtRest : Type 0
CountedAtRest = (rules : Rules Name) (program : Program) (limit : ℕ) (a : Account) → Lawful rules program limit a → AtRest a → HasSize (MadeBy rules program limit (length a.forms)) (totals_of a.cells).made × HasSize (Realised rules program limit (length a.forms)) (totals_of a.cells).realised × HasSize (Failed rules program limit (length a.forms)) (totals_of a.cells).failed

-- at any time an ended claim gave what each of its names gives
abbrev pub EndedGives : Type 0
EndedGives = (rules : Rules Name) (program : Program) (limit : ℕ) (a : Account) → Lawful rules program limit a → (mode : Mode) (s : Site) (x : Attempt) (o : Outcome ℕ) (e : Name) → ClaimAt a s x → Ended a s x o → ClaimName rules program limit a mode x.claim e → GivesSo rules program limit a mode e o

-- and a cell that is Done or Failed has what each of its names gives
abbrev pub CellGives : Type 0
CellGives = (rules : Rules Name) (program : Program) (limit : ℕ) (a : Account) → Lawful rules program limit a → (mode : Mode) (id : ℕ) (p : Cell) (n : Name) → cell_at a id ≡ Some p → CellName rules program limit a mode id n → ((v : Coded) → p.state ≡ S.Done v → GivesSo rules program limit a mode n (gave (plain v))) × ((why : Thrown) → p.state ≡ S.Failed why → GivesSo rules program limit a mode n (threw why))

-- at rest each claim gave what its own name gives
abbrev pub GivesAtRest : Type 0
GivesAtRest = (rules : Rules Name) (program : Program) (limit : ℕ) (a : Account) → Lawful rules program limit a → AtRest a → (s : Site) (x : Attempt) → ClaimAt a s x → (o : Outcome ℕ) × (e : Name) × Ended a s x o × ClaimName rules program limit a own_name x.claim e × GivesSo rules program limit a own_name e o

-- at any time a form that ended by a value or an error gave what its evaluation gives
abbrev pub FormGives : Type 0
FormGives = (rules : Rules Name) (program : Program) (limit : ℕ) (a : Account) → Lawful rules program limit a → (k : ℕ) (f : Form) → slice_get a.forms k ≡ Some f → ((v : Coded) → f.value ≡ Some v → GivesSo rules program limit a own_name (form (suc k)) (gave (plain v))) × ((why : Thrown) → f.attempt.end ≡ E.Error why → Gives rules program limit (form (suc k)) (threw why))

-- A book in which a make was refused is one whose forms make more parts than the limit. A book at rest is one whose forms make no more. So whether the forms begun fit is told exactly.
abbrev pub SpentIsOver : Type 0
SpentIsOver = (rules : Rules Name) (program : Program) (limit : ℕ) (a : Account) → Lawful rules program limit a → (a.spent ≡ true → ¬ (FormsFit rules program limit a.limit (length a.forms))) × (AtRest a → FormsFit rules program limit a.limit (length a.forms))

-- What one has seen of a book cell by cell, maybe each cell at another step, and what one knows of the book from it.
use Rattle.std.specs.Prelude.{◌≡◌, ◌≢◌, ℕ, ◌+◌, ◌-◌, ◌<◌, ◌≤◌, ◌==◌, ◌⊎◌, ◌++◌, ◌∷◌, [], cond, Bool, true, false, List, Option, Some, None, Result, Ok, Err, slice_get}
use Rattle.seq_base.specs.declared.thrown.Thrown.{Thrown}
use Rattle.seq_values.specs.declared.value.Value.{Value}
use Rattle.seq_values.specs.declared.words.Kind.TheVariants.{Future}
use Rattle.cell_book.specs.declared.answers.MakeRefusal.{MakeRefusal}
use Rattle.cell_book.specs.declared.answers.MakeRefusal.TheVariants as M
use Rattle.cell_book.specs.declared.answers.ClaimRefusal.{ClaimRefusal}
use Rattle.cell_book.specs.declared.answers.ClaimRefusal.TheVariants as C
use Rattle.cell_book.specs.declared.cell.State.TheVariants as S
use Rattle.cell_book.specs.declared.cell.Attempt.{Attempt}
use Rattle.cell_book.specs.declared.cell.Cell.{Cell}
use Rattle.cell_book.specs.declared.cell.Form.{Form}
use Rattle.cell_book.specs.declared.work.Place.{Place}
use Rattle.cell_book.specs.declared.work.Place.TheVariants as P
use Rattle.cell_book.specs.Account.{Account, Duty, cell_at, opened, is_open, opens, made_by, asked_at, begun, IsSound}
use Rattle.cell_book.specs.Steps.{begun_form, HasOpen, IsOpenAt}

pub record Glimpse : Type 0 where
  pub limit : ℕ
  -- the cells by their numbers, and the forms by their places
  pub cells : ℕ → Option Cell
  pub forms : ℕ → Option Form
  -- the numbers of the forms begun, if one may begin forms
  pub begun : List ℕ
  -- of one's open claims: the numbers of the cells that each made, and at each cell the attempts that it asked for, ended or open
  pub made : ℕ → List ℕ
  pub asked : ℕ → ℕ → List Attempt
  -- the notes
  pub spent : Bool
  pub gave_up : Bool

-- what there is to see of a whole book
abbrev pub glimpse : Account → Glimpse
glimpse a = record {
  limit = a.limit;
  cells = λ id. cell_at a id;
  forms = λ k. slice_get a.forms k;
  begun = begun a;
  made = λ c. made_by c a;
  asked = λ c id. asked_at c (cell_at a id);
  spent = a.spent;
  gave_up = a.gave_up;
}

-- the record of a claim stays, but that an open claim may end
pub record Continues (x y : Attempt) : Type 0 where
  pub claim : y.claim ≡ x.claim
  pub asker : y.asker ≡ x.asker
  pub ended : is_open x.end ≡ false → y.end ≡ x.end

-- what stays of a cell
pub record Stays (p q : Cell) : Type 0 where
  pub term : q.term ≡ p.term
  pub kind : q.kind ≡ p.kind
  pub maker : q.maker ≡ p.maker
  pub ordinal : q.ordinal ≡ p.ordinal
  pub outcomes : q.outcomes ≡ p.outcomes
  pub done : (v : Value) → p.state ≡ S.Done v → q.state ≡ S.Done v
  pub failed : (why : Thrown) → p.state ≡ S.Failed why → q.state ≡ S.Failed why
  pub attempts : (i : ℕ) (x : Attempt) → slice_get p.attempts i ≡ Some x → (y : Attempt) × (slice_get q.attempts i ≡ Some y) × Continues x y

-- what stays of a form
pub record FormStays (f g : Form) : Type 0 where
  pub number : g.number ≡ f.number
  pub attempt : Continues f.attempt g.attempt
  pub value : is_open f.attempt.end ≡ false → g.value ≡ f.value

-- all that was seen is there, as far as it stays
pub record Reaches (g h : Glimpse) : Type 0 where
  pub limit : h.limit ≡ g.limit
  pub cells : (id : ℕ) (p : Cell) → g.cells id ≡ Some p → (q : Cell) × (h.cells id ≡ Some q) × Stays p q
  pub forms : (k : ℕ) (f : Form) → g.forms k ≡ Some f → (e : Form) × (h.forms k ≡ Some e) × FormStays f e
  pub spent : g.spent ≡ true → h.spent ≡ true
  pub gave_up : g.gave_up ≡ true → h.gave_up ≡ true

-- the cell is forced by the claim
pub record IsForced (g : Glimpse) (id claim : ℕ) (asker : Option ℕ) : Type 0 where
  pub cell : Cell
  pub past : List Attempt
  pub at : g.cells id ≡ Some cell
  pub has : HasOpen cell claim asker past

-- the work's claim is open, as far as one has seen
abbrev pub IsOpen : Glimpse → Duty → Type 0
IsOpen g w = IsOpenAt g.cells g.forms w

-- All that was seen stays, and the claim has the same cells and forms open in both.
pub record Holds (c : ℕ) (g h : Glimpse) : Type 0 where
  pub reaches : Reaches g h
  pub forced : (id : ℕ) (asker : Option ℕ) → IsForced g id c asker → IsForced h id c asker
  pub forced_back : (id : ℕ) (asker : Option ℕ) → IsForced h id c asker → IsForced g id c asker
  pub begun : (k number : ℕ) → g.forms k ≡ Some (begun_form number c) → h.forms k ≡ Some (begun_form number c)
  pub begun_back : (k number : ℕ) → h.forms k ≡ Some (begun_form number c) → g.forms k ≡ Some (begun_form number c)

-- As far as the open claim goes, nothing was lost and nothing of its own was added.
pub record Onward (c : ℕ) (g h : Glimpse) : Type 0 where
  pub holds : Holds c g h
  pub made : h.made c ≡ g.made c
  pub asked : (id : ℕ) → h.asked c id ≡ g.asked c id

-- As far as the open claim goes, nothing was lost and nothing was made; it asked for one more claim, on this cell.
pub record AskedOne (c : ℕ) (id : ℕ) (claim : ℕ) (g h : Glimpse) : Type 0 where
  pub holds : Holds c g h
  pub made : h.made c ≡ g.made c
  pub here : h.asked c id ≡ g.asked c id ++ opened claim (Some c) ∷ []
  pub elsewhere : (j : ℕ) → j ≢ id → h.asked c j ≡ g.asked c j

-- As far as the open claim goes, nothing was lost and nothing was made; the last attempt that it asked for on this cell ended, and is x now.
pub record Answered (c : ℕ) (id : ℕ) (x : Attempt) (g h : Glimpse) : Type 0 where
  pub holds : Holds c g h
  pub made : h.made c ≡ g.made c
  pub past : List Attempt
  pub was : g.asked c id ≡ past ++ opened x.claim x.asker ∷ []
  pub here : h.asked c id ≡ past ++ x ∷ []
  pub elsewhere : (j : ℕ) → j ≢ id → h.asked c j ≡ g.asked c j

-- As far as the open claim goes, nothing was lost, and it made one cell.
pub record MadeOne (c n : ℕ) (g h : Glimpse) : Type 0 where
  pub holds : Holds c g h
  pub made : h.made c ≡ g.made c ++ n ∷ []
  pub asked : (id : ℕ) → h.asked c id ≡ g.asked c id

-- What one knows of the book at the step of a call, who has seen so much and has these claims open: it meets the law, it has grown from what was seen, and of one's own claims it is known what they made and asked for. One who may begin forms knows which were begun, and the whole book, if it was noted at rest.
pub record Foresees (leads : Bool) (keeps noted : Account → Type 0) (g : Glimpse) (mine : ℕ → ℕ) (b : Account) : Type 0 where
  pub law : keeps b
  pub sound : IsSound b
  pub grown : Reaches g (glimpse b)
  pub opened : (c : ℕ) → mine c ≤ opens c b
  pub own : (c : ℕ) → 0 < mine c → Onward c g (glimpse b)
  pub begun : leads ≡ true → begun b ≡ g.begun
  pub whole : leads ≡ true → (a : Account) → noted a → b ≡ a

-- the book is the one that was seen, and all its open claims are one's own
pub record IsAll (g : Glimpse) (held : ℕ → ℕ) (b : Account) : Type 0 where
  pub limit : g.limit ≡ b.limit
  pub cells : (id : ℕ) → g.cells id ≡ cell_at b id
  pub forms : (k : ℕ) → g.forms k ≡ slice_get b.forms k
  pub begun : g.begun ≡ begun b
  pub made : (c : ℕ) → g.made c ≡ made_by c b
  pub asked : (c id : ℕ) → g.asked c id ≡ asked_at c (cell_at b id)
  pub spent : g.spent ≡ b.spent
  pub gave_up : g.gave_up ≡ b.gave_up
  pub mine : (c : ℕ) → held c ≡ opens c b

-- the book at the step of a call: for one who is alone the book that was noted, else one of which so much is known
abbrev pub Fits : Bool → Bool → (Account → Type 0) → (Account → Type 0) → Glimpse → (ℕ → ℕ) → Account → Type 0
Fits true leads law noted g mine b = noted b × IsAll g mine b
Fits false leads law noted g mine b = Foresees leads law noted g mine b

-- A cell was seen at a moment between what was seen before and the end of the step: it has grown from the one and grows to the other, and one's own claims on it are those of before.
pub record Passed (mine : ℕ → ℕ) (old new after : Option Cell) : Type 0 where
  pub cell : Cell
  pub is : new ≡ Some cell
  pub from : (p : Cell) → old ≡ Some p → Stays p cell
  pub to : (q : Cell) × (after ≡ Some q) × Stays cell q
  pub forced : (c : ℕ) (asker : Option ℕ) (p : Cell) (past : List Attempt) → 0 < mine c → old ≡ Some p → HasOpen p c asker past → HasOpen cell c asker past
  pub back : (c : ℕ) (asker : Option ℕ) (past : List Attempt) → 0 < mine c → HasOpen cell c asker past → (p : Cell) × (old ≡ Some p) × HasOpen p c asker past

-- the same of a form
pub record FormPassed (mine : ℕ → ℕ) (old new after : Option Form) : Type 0 where
  pub form : Form
  pub is : new ≡ Some form
  pub from : (f : Form) → old ≡ Some f → FormStays f form
  pub to : (e : Form) × (after ≡ Some e) × FormStays form e
  pub begun : (c number : ℕ) → 0 < mine c → old ≡ Some (begun_form number c) → form ≡ begun_form number c
  pub back : (c number : ℕ) → 0 < mine c → form ≡ begun_form number c → old ≡ Some (begun_form number c)

-- What was seen after a step that left the book b, with the claims that are open then: each cell as before, as in b, or as at a moment between, and of one's own claims all that they made and asked for.
pub record Sees (leads : Bool) (mine : ℕ → ℕ) (g : Glimpse) (b : Account) (h : Glimpse) : Type 0 where
  pub limit : h.limit ≡ b.limit
  pub cells : (id : ℕ) → (h.cells id ≡ g.cells id) ⊎ ((h.cells id ≡ cell_at b id) ⊎ Passed mine (g.cells id) (h.cells id) (cell_at b id))
  pub forms : (k : ℕ) → (h.forms k ≡ g.forms k) ⊎ ((h.forms k ≡ slice_get b.forms k) ⊎ FormPassed mine (g.forms k) (h.forms k) (slice_get b.forms k))
  pub begun : leads ≡ true → h.begun ≡ begun b
  pub made : (c : ℕ) → 0 < mine c → h.made c ≡ made_by c b
  pub asked : (c : ℕ) → 0 < mine c → (id : ℕ) → h.asked c id ≡ asked_at c (cell_at b id)
  pub spent : (h.spent ≡ g.spent) ⊎ (h.spent ≡ b.spent)
  pub gave_up : (h.gave_up ≡ g.gave_up) ⊎ (h.gave_up ≡ b.gave_up)

-- the same, and one who is alone notes the book
abbrev pub Saw : Bool → Bool → (Account → Type 0) → (ℕ → ℕ) → Glimpse → Account → Glimpse → Type 0
Saw alone leads noted mine g b h = Sees leads mine g b h × (alone ≡ true → noted b)

-- the cell was seen at this step
abbrev pub SeesCell : ℕ → Account → Glimpse → Type 0
SeesCell id b h = h.cells id ≡ cell_at b id

-- the cell or the form was seen at this step
abbrev pub SeesPlace : Place → Account → Glimpse → Type 0
SeesPlace (P.Form number k) b h = h.forms k ≡ slice_get b.forms k
SeesPlace (P.Part id kind term) b h = h.cells id ≡ cell_at b id

-- after one's own refusal for the limit its note was seen
abbrev pub SeesSpent : MakeRefusal → Glimpse → Type 0
SeesSpent (M.Spent term) h = h.spent ≡ true
SeesSpent (M.Memory term) h = Unit {0}

-- after one's own refusal for a give-up its note was seen
abbrev pub SeesGaveUp : ClaimRefusal → Glimpse → Type 0
SeesGaveUp (C.Seen look) h = Unit {0}
SeesGaveUp C.GaveUp h = h.gave_up ≡ true
SeesGaveUp C.Memory h = Unit {0}

-- it has the work open
abbrev pub Owns : (ℕ → ℕ) → Glimpse → Duty → Type 0
Owns mine g w = (0 < mine w.claim) × IsOpen g w

-- the asker is its own; without an asker the part is a future
abbrev pub MayAsk : (ℕ → ℕ) → Glimpse → ℕ → Option Duty → Type 0
MayAsk mine g id None = (p : Cell) × (g.cells id ≡ Some p) × (p.kind ≡ Future)
MayAsk mine g id (Some w) = Owns mine g w

-- 1 at the claim itself
abbrev pub at_claim : ℕ → ℕ → ℕ
at_claim claim c = cond (claim == c) 1 0

-- how often each claim is open after one was opened, or none
abbrev pub after_open : {E : Type 0} → (ℕ → ℕ) → Result Duty E → ℕ → ℕ
after_open mine (Ok w) c = at_claim w.claim c + mine c
after_open mine (Err r) c = mine c

-- how often each claim is open after one was ended
abbrev pub after_end : (ℕ → ℕ) → Duty → ℕ → ℕ
after_end mine w c = mine c - at_claim w.claim c

-- the law of a book is P, or one is alone over a book that meets P
abbrev pub LawIs : Bool → (Account → Type 0) → (Account → Type 0) → (Account → Type 0) → Type 0
LawIs true law noted P = (b : Account) → noted b → P b
LawIs false law noted P = (b : Account) → (law b → P b) × (P b → law b)

-- The rule of a shared book. One word says whether the book is at home, in the one slot, or out with the one pass that has the turn.
use Rattle.std.specs.Prelude.{◌≡◌, ℕ, ◌+◌, ◌<◌, ◌≤◌, ◌⊎◌, leb, Bool, true, false, cond, if◌then◌else◌, List, [], ◌∷◌, ◌++◌, length, sum_by, slice_get, Option, Some, None}
use mathlib.Core.Option.{none, some}
use lib.ListN.{get_elem?}
use Rattle.atomic_table.specs.Table.{State, Me, Step}
use Rattle.cell_book.specs.Account.{Account, opens, begun, IsSound}
use Rattle.cell_book.specs.Glimpses.{glimpse, Onward}
use Rattle.cell_shared.specs.Growing.{fresh, times, counted, Grows, Asks, Knows, Turns}
use Rattle.cell_shared.specs.declared.view.View.{View}

-- what a pass knows that has no turn
abbrev pub resting : Bool → Account → List ℕ → ℕ → View
resting leads b claims at = record { leads = leads; seen = b; claims = claims; at = at; noted = None; other = b; other_at = at; other_claims = []; gone = false }

-- the same pass once it has the turn, and notes the book
abbrev pub noting : View → Account → View
noting v b = record { leads = v.leads; seen = v.seen; claims = v.claims; at = v.at; noted = Some b; other = v.other; other_at = v.other_at; other_claims = v.other_claims; gone = v.gone }

-- two views in one: the longer of what was seen, and the claims of both. The other is kept until it is known that it grows to the longer
abbrev pub both : View → View → View
both v w = record {
  leads = v.leads;
  seen = if leb v.at w.at then w.seen else v.seen;
  claims = v.claims ++ w.claims;
  at = if leb v.at w.at then w.at else v.at;
  noted = v.noted;
  other = if leb v.at w.at then v.seen else w.seen;
  other_at = if leb v.at w.at then v.at else w.at;
  other_claims = if leb v.at w.at then v.claims else w.claims;
  gone = v.gone;
}

-- the view of a pass that another has taken in. The rule says nothing of it
abbrev pub spent : View
spent = record { leads = false; seen = fresh 0; claims = []; at = 0; noted = None; other = fresh 0; other_at = 0; other_claims = []; gone = true }

-- how often all views together have a claim
abbrev pub total : ℕ → List View → ℕ
total c views = sum_by (λ (v : View). times c v.claims) views

-- how many views may begin forms
abbrev pub leaders : List View → ℕ
leaders views = sum_by (λ (v : View). cond v.leads 1 0) views

-- what is true of one view, where `past` is each book that was at home, in order
pub record Fits (past : List Account) (v : View) : Type 0 where
  pub seen : slice_get past v.at ≡ Some v.seen
  pub other : slice_get past v.other_at ≡ Some v.other
  pub before : v.other_at ≤ v.at
  pub kept : (c : ℕ) → 0 < times c v.other_claims → Onward c (glimpse v.other) (glimpse v.seen)
  pub own : (c : ℕ) → 0 < times c v.claims → (j : ℕ) (a : Account) → v.at ≤ j → slice_get past j ≡ Some a → Onward c (glimpse v.seen) (glimpse a)
  pub formed : v.leads ≡ true → (j : ℕ) (a : Account) → v.at ≤ j → slice_get past j ≡ Some a → begun a ≡ begun v.seen

abbrev pub AtHome : State (Option Account) View → Account → Type 0
AtHome s b = (s.words ≡ 0 ∷ []) × (s.homes ≡ some (Some b) ∷ []) × ((i : ℕ) (v : View) → get_elem? s.views i ≡ some v → v.noted ≡ None)

-- one pass has the turn, and notes the book that was at home
abbrev pub Away : State (Option Account) View → Account → Type 0
Away s b = (s.words ≡ 1 ∷ []) × (s.homes ≡ none ∷ []) × ((h : ℕ) × ((v : View) × (get_elem? s.views h ≡ some v) × (v.noted ≡ Some b)) × ((i : ℕ) (v : View) → get_elem? s.views i ≡ some v → (v.noted ≡ None) ⊎ ((i ≡ h) × (v.noted ≡ Some b))))

pub record Kept (keeps : Account → Type 0) (s : State (Option Account) View) : Type 0 where
  pub past : List Account
  pub book : Account
  pub age : ℕ
  pub last : slice_get past age ≡ Some book
  pub ends : length past ≡ age + 1
  pub rising : (i j : ℕ) (a b : Account) → i ≤ j → slice_get past i ≡ Some a → slice_get past j ≡ Some b → Grows a b
  pub law : keeps book
  pub sound : IsSound book
  pub fits : (i : ℕ) (v : View) → get_elem? s.views i ≡ some v → v.gone ≡ false → Fits past v
  pub led : leaders s.views ≤ 1
  pub shared : (c : ℕ) → total c s.views ≡ opens c book
  pub asks : (i : ℕ) (v : View) → get_elem? s.views i ≡ some v → Asks (counted v.claims) book
  pub place : AtHome s book ⊎ Away s book

abbrev pub Sat : Type 0
Sat = Me (Option Account) View

-- the turn was taken, and the book with it; or nothing changed
abbrev pub takes : (Account → Type 0) → Step (Option Account) → Sat → ℕ → Sat → Type 0
takes meets st m r m2 =
    (r ≡ 0 → (b : Account) × (m2 ≡ (noting m.0 b, (0, Some b) ∷ m.1)) × Knows m.0.leads meets m.0.seen (counted m.0.claims) b)
    × (¬ (r ≡ 0) → m2 ≡ m)

-- the turn was given back, with the book
abbrev pub releases : List ℕ → Step (Option Account) → Sat → ℕ → Sat → Type 0
releases claims st m r m2 = (b : Account) → m.1 ≡ (0, Some b) ∷ [] → (at : ℕ) × (m2 ≡ (resting m.0.leads b claims at, []))

-- what was kept of the other is known to grow to what was seen, and its claims have in both the same
abbrev pub settles : Step (Option Account) → Sat → ℕ → Sat → Type 0
settles st m r m2 = Grows m.0.other m.0.seen × ((c : ℕ) → 0 < times c m.0.other_claims → Onward c (glimpse m.0.other) (glimpse m.0.seen)) × (m2 ≡ (resting m.0.leads m.0.seen m.0.claims m.0.at, m.1))

-- it has the turn, and may leave the book as b, with these claims open
abbrev pub HasTurn : (Account → Type 0) → Sat → Account → List ℕ → Type 0
HasTurn law me b claims =
    (a : Account) × (me.0.noted ≡ Some a) × (me.0.gone ≡ false) × (me.1 ≡ (0, None) ∷ []) × (law a → law b)
    × Turns me.0.leads (counted me.0.claims) a b (counted claims)

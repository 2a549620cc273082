-- What was pushed is what was handed out and what the pool holds, each job as often. A pass knows of a close only where the word is set.
use Rattle.std.specs.Prelude.{◌≡◌, ℕ, ◌+◌, ◌*◌, ◌<◌, ◌≤◌, ◌==◌, ◌⊎◌, Bool, true, List, [], ◌∷◌, ◌++◌, count_by, sum_by}
use mathlib.Core.Option.{some}
use lib.ListN.{get_elem?}
use Rattle.atomic_table.specs.Table.{State, Me, Step}
use Rattle.job_pool.specs.declared.rules.Hand.{Hand}
use Rattle.job_pool.specs.declared.rules.Heard.{Heard}

-- how often a job is in the list
abbrev pub times : ℕ → List ℕ → ℕ
times x xs = count_by (λ y. y == x) xs

abbrev pub hand : List ℕ → List ℕ → ℕ → ℕ → Hand
hand put taken part whole = record { put = put; taken = taken; part = part; whole = whole }

-- One pass weighs as much of all as its part is of the whole. Without a part it has done nothing.
pub record Weighs (all weight : ℕ) (v : Hand) : Type 0 where
  pub whole : 0 < v.whole
  pub share : weight * v.whole ≡ v.part * all
  pub idle : v.part ≡ 0 → (v.put ≡ []) × (v.taken ≡ [])

-- the same of each pass
abbrev pub Weighed : ℕ → List ℕ → List Hand → Type 0
Weighed all [] [] = Unit {0}
Weighed all [] (v ∷ vs) = ⊥
Weighed all (w ∷ ws) [] = ⊥
Weighed all (w ∷ ws) (v ∷ vs) = Weighs all w v × Weighed all ws vs

abbrev pub total : List ℕ → ℕ
total [] = 0
total (w ∷ ws) = w + total ws

pub record Balanced (items : List ℕ) (views : List Hand) : Type 0 where
  -- what was pushed was handed out or is there
  pub jobs : (x : ℕ) → sum_by (λ (v : Hand). times x v.put) views ≡ sum_by (λ (v : Hand). times x v.taken) views + times x items
  -- the parts of all passes together are the whole
  pub all : ℕ
  pub weights : List ℕ
  pub some_all : 0 < all
  pub weighed : Weighed all weights views
  pub total : total weights ≡ all

-- what one who has all parts knows of the jobs in the pool
abbrev pub IsLeft : Hand → List ℕ → Type 0
IsLeft v items = v.part ≡ v.whole → (x : ℕ) → times x v.put ≡ times x v.taken + times x items

abbrev pub puts : Hand → ℕ → Hand → Type 0
puts v x w = w ≡ hand (v.put ++ x ∷ []) v.taken v.part v.whole

abbrev pub gets : Hand → ℕ → Hand → Type 0
gets v x w = (w ≡ hand v.put (v.taken ++ x ∷ []) v.part v.whole) × (v.part ≡ v.whole → (y : ℕ) → times y w.taken ≤ times y w.put)

abbrev pub half : Hand → Hand
half v = hand v.put v.taken v.part (v.whole + v.whole)

abbrev pub other_half : Hand → Hand
other_half v = hand [] [] v.part (v.whole + v.whole)

abbrev pub together : Hand → Hand → Hand
together v w = hand (v.put ++ w.put) (v.taken ++ w.taken) (v.part * w.whole + w.part * v.whole) (v.whole * w.whole)

abbrev pub heard : Bool → Heard
heard knows = record { knows = knows }

-- the word is 0 or 1, and 1 where a pass knows of a close
abbrev pub Rings : State (Unit {0}) Heard → Type 0
Rings s = ((s.words ≡ 0 ∷ []) ⊎ (s.words ≡ 1 ∷ [])) × ((i : ℕ) (v : Heard) → get_elem? s.views i ≡ some v → v.knows ≡ true → s.words ≡ 1 ∷ [])

-- a load that finds 1 tells of a close
abbrev pub hears : Step (Unit {0}) → Me (Unit {0}) Heard → ℕ → Me (Unit {0}) Heard → Type 0
hears st m r k = (r ≡ 1 → k ≡ (heard true, m.1)) × (¬ (r ≡ 1) → k ≡ m)

abbrev pub calls : Step (Unit {0}) → Me (Unit {0}) Heard → ℕ → Me (Unit {0}) Heard → Type 0
calls st m r k = k ≡ (heard true, m.1)

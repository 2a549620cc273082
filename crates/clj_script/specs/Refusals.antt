-- Refusals of a script in the order of their places, and the least of several.
use Rattle.std.specs.Prelude.{◌≡◌, ℕ, Bool, true, false, List, [], ◌∷◌, Option, Some, None, nat_lt, if◌then◌else◌, All, Contains}
use Rattle.clj_reader.specs.declared.place.Place.{Place}
use Rattle.clj_script.specs.declared.refusal.ScriptRefusal.{ScriptRefusal}

abbrev pub refusal : ℕ → Place → ScriptRefusal
refusal number place = record { number = number; place = place }

-- Whether the first comes before the second: on an earlier line, or in an earlier column of the same line, or with a lower
-- number at the same place.
unfoldable pub comes_before : ScriptRefusal → ScriptRefusal → Bool
comes_before r s =
    if nat_lt r.place.line s.place.line then true
    else (if nat_lt s.place.line r.place.line then false
    else (if nat_lt r.place.column s.place.column then true
    else (if nat_lt s.place.column r.place.column then false
    else nat_lt r.number s.number)))

-- one of several before which none of them comes
pub record IsLeast (r : ScriptRefusal) (all : List ScriptRefusal) : Type 0 where
  pub among : Contains all r
  pub least : All (λ s. comes_before s r ≡ false) all

-- the earlier of what was least so far and one more
unfoldable pub earlier : Option ScriptRefusal → ScriptRefusal → Option ScriptRefusal
earlier None r = Some r
earlier (Some least) r = if comes_before r least then Some r else Some least

-- the same for several more
abbrev pub earliest : Option ScriptRefusal → List ScriptRefusal → Option ScriptRefusal
earliest least [] = least
earliest least (r ∷ rs) = earliest (earlier least r) rs

-- What digits stand for, up to a cap.
use Rattle.std.proofs.Common.{◌≡◌, ℕ, ◌+◌, ◌-◌, ◌*◌, ◌<◌, ◌≤◌, min, List, [], ◌∷◌, length, get_or, drop, sym, ◌∙◌, ap, ⊎_elim, arith}
use Rattle.std.proofs.lemmas.Bool.{cases_lt}
use Rattle.std.proofs.lemmas.List.{at_drop_more}
use Rattle.clj_reader.specs.Spellings.{decimal_from}

-- digits only add
decimal_from_grows : (n : ℕ) (ds : List ℕ) → n ≤ decimal_from n ds
decimal_from_grows n [] = omega arith
decimal_from_grows n (d ∷ ds) = omega (arith, decimal_from_grows (10 * n + (d - 48)) ds)

-- a number at the cap may stand for one above it
pub decimal_from_capped : (cap n : ℕ) (ds : List ℕ) → min (decimal_from (min n cap) ds) cap ≡ min (decimal_from n ds) cap
decimal_from_capped cap n ds = ⊎_elim
    (λ (h : n < cap). let e : min n cap ≡ n = omega arith in ap (λ m. min (decimal_from m ds) cap) e)
    (λ (h : cap ≤ n). let e : min n cap ≡ cap = omega arith in
    let a : cap ≤ decimal_from (min n cap) ds = omega (arith, decimal_from_grows (min n cap) ds) in
    let b : n ≤ decimal_from n ds = decimal_from_grows n ds in omega arith)
    (cases_lt n cap)

-- one more digit
pub decimal_from_more : (cap n : ℕ) (ds : List ℕ) (i : ℕ) → i < length ds → min (decimal_from (min (10 * n + (get_or ds i 0 - 48)) cap) (drop (i + 1) ds)) cap ≡ min (decimal_from n (drop i ds)) cap
decimal_from_more cap n ds i h = decimal_from_capped cap (10 * n + (get_or ds i 0 - 48)) (drop (i + 1) ds) ∙ ap (λ m. min m cap) (sym (at_drop_more (decimal_from n) ds i 0 h))

-- A line that was appended to begins as it did.
use Rattle.std.proofs.Common.{◌≡◌, sym, ap, ◌∙◌, ℕ, ◌≤◌, List, ◌++◌, take, length, arith}
use Rattle.std.proofs.Math.Seq.{take-length, take-append_seam}
use Rattle.std.proofs.lemmas.List.{length-append, take-take}

pub begins : (old more new : List ℕ) → new ≡ old ++ more → take (length old) new ≡ old
begins old more new e = ap (take (length old)) e ∙ take-append_seam old more

pub begins_alike : (old new : List ℕ) → new ≡ old → take (length old) new ≡ old
begins_alike old new e = ap (take (length old)) e ∙ take-length old

-- what begins with a line that was appended to begins with the line before
pub begins_through : (old more mid new : List ℕ) → mid ≡ old ++ more → take (length mid) new ≡ mid → take (length old) new ≡ old
begins_through old more mid new m h =
    let longer : length old ≤ length mid = omega (arith, ap length m, length-append old more) in
    sym (take-take (length old) (length mid) new longer) ∙ ap (take (length old)) h ∙ begins old more mid m

-- The lines of steps, one after the other.
use Rattle.std.proofs.Common.{◌≡◌, ℕ, suc, ◌+◌, ◌-◌, ◌<◌, ◌≤◌, List, [], ◌++◌, ap, sym, ◌∙◌, arith, append_assoc}
use Rattle.std.proofs.lemmas.List.{append-nil}
use Rattle.seq_table.specs.Generated.{lines_at, next_number, steps_from}

-- After `done` steps, of which the last had the number x: what was written, and what is still to write.
pub record SoFar (steps done x : ℕ) (old new : List ℕ) : Type 0 where
  pub whole : new ++ steps_from (steps - done) (done + 1) x ≡ old ++ steps_from steps 1 steps

pub no_steps : (steps x : ℕ) (old : List ℕ) → x ≡ steps → SoFar steps 0 x old old
no_steps steps x old is =
    let all : steps - 0 ≡ steps = omega arith in
    record { whole = ap (λ k. old ++ steps_from k 1 x) all ∙ ap (λ k. old ++ steps_from steps 1 k) is }

next_step : (left i x : ℕ) → steps_from (suc left) (i + 1) x ≡ lines_at (i + 1) (next_number x) ++ steps_from left (i + 1 + 1) (next_number x)
next_step left i x = let e : i + 1 + 1 ≡ suc (i + 1) = omega arith in ap (λ k. lines_at (i + 1) (next_number x) ++ steps_from left k (next_number x)) (sym e)

pub one_more_step : (steps done x : ℕ) (old before lines after : List ℕ) → done < steps → lines ≡ lines_at (done + 1) (next_number x) → after ≡ before ++ lines → SoFar steps done x old before → SoFar steps (done + 1) (next_number x) old after
one_more_step steps done x old before lines after fits are is so =
    let left = steps - (done + 1) in
    let size : suc left ≡ steps - done = omega arith in
    let rest = steps_from left (done + 1 + 1) (next_number x) in
    let next : lines ++ rest ≡ steps_from (steps - done) (done + 1) x = ap (λ l. l ++ rest) are ∙ (sym (next_step left done x) ∙ ap (λ k. steps_from k (done + 1) x) size) in
    let split : after ++ rest ≡ before ++ (lines ++ rest) = ap (λ a. a ++ rest) is ∙ append_assoc before lines rest in
    record { whole = split ∙ (ap (λ l. before ++ l) next ∙ so.whole) }

pub all_steps : (steps done x : ℕ) (old new : List ℕ) → steps ≤ done → SoFar steps done x old new → new ≡ old ++ steps_from steps 1 steps
all_steps steps done x old new past so =
    let none : steps - done ≡ 0 = omega arith in
    let nothing : steps_from (steps - done) (done + 1) x ≡ [] = ap (λ k. steps_from k (done + 1) x) none in
    sym (append-nil new) ∙ (ap (λ l. new ++ l) (sym nothing) ∙ so.whole)

-- ## The pieces of a line, from the left and from the right

pub seven_pieces : (t a b c d e f g : List ℕ) → t ++ (a ++ (b ++ (c ++ (d ++ (e ++ (f ++ g)))))) ≡ t ++ ((((((a ++ b) ++ c) ++ d) ++ e) ++ f) ++ g)
seven_pieces t a b c d e f g = simp append_assoc

pub nine_pieces : (t a b c d e f g h k : List ℕ) → t ++ (a ++ (b ++ (c ++ (d ++ (e ++ (f ++ (g ++ (h ++ k)))))))) ≡ t ++ ((((((((a ++ b) ++ c) ++ d) ++ e) ++ f) ++ g) ++ h) ++ k)
nine_pieces t a b c d e f g h k = simp append_assoc

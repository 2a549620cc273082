-- Scripts that are made from a number, for tests of speed and of all workers: one definition or fold for each step of a row of pseudo-random numbers.
use Rattle.std.specs.Prelude.{◌≡◌, ℕ, zero, suc, ◌+◌, ◌*◌, ◌/◌, ◌%◌, List, [], ◌++◌, codes}
use Rattle.seq_table.specs.Outputs.{decimal}

-- the number after x: those of the C library's classic generator
abbrev pub next_number : ℕ → ℕ
next_number x = ((x * 1103515245) + 12345) % 2147483648

-- the lines of kind 0 to 3, by the number of the name and a size
abbrev pub lines_of_kind : ℕ → ℕ → ℕ → List ℕ
lines_of_kind zero i a =
    codes "(def s" ++ decimal i ++ codes " (map inc (range " ++ decimal a ++ codes ")))\n(prn (reduce + (take " ++ decimal (a / 2) ++ codes " s" ++ decimal i ++ codes ")))\n"
lines_of_kind (suc zero) i a = codes "(def s" ++ decimal i ++ codes " (filter even? (map inc (range " ++ decimal a ++ codes "))))\n(prn (count s" ++ decimal i ++ codes "))\n"
lines_of_kind (suc (suc zero)) i a = codes "(def s" ++ decimal i ++ codes " (pmap inc (range " ++ decimal a ++ codes ")))\n(prn (first s" ++ decimal i ++ codes "))\n"
lines_of_kind _ i a = codes "(prn (r/fold 8 + + (vec (range " ++ decimal a ++ codes "))))\n"

-- the lines by the number x of step i: its upper bits give the kind, and the size from 1 to 100
abbrev pub lines_at : ℕ → ℕ → List ℕ
lines_at i x = let q = x / 65536 in lines_of_kind (q % 4) i (((q / 4) % 100) + 1)

-- so many steps, from step i on, by the number of the step before
abbrev pub steps_from : ℕ → ℕ → ℕ → List ℕ
steps_from zero i x = []
steps_from (suc n) i x = lines_at i (next_number x) ++ steps_from n (suc i) (next_number x)

-- the script of n steps, with the ledger at its end
abbrev pub generated : ℕ → List ℕ
generated n = steps_from n 1 n ++ codes "(ledger)\n"

-- the script of one step
abbrev pub OneGenerated : Type 0
OneGenerated = generated 1 ≡ codes "(def s1 (pmap inc (range 10)))\n(prn (first s1))\n(ledger)\n"

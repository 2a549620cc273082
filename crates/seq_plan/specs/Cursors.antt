-- What a cursor stands for: the node without the elements that are done.
use Rattle.std.specs.Prelude.{◌≡◌, ℕ, ◌-◌, ℤ, int_lt, cond, List, length, take, drop, IsTrue}
use Rattle.seq_values.specs.declared.value.Value.{Value}
use Rattle.seq_values.specs.Model as M
use Rattle.seq_values.specs.Plain.{plain, plains}
use Rattle.seq_values.specs.WellFormed.{is_well_formed}
use Rattle.seq_plan.specs.Nodes.{now, found}
use Rattle.seq_plan.specs.declared.cursor.Cursor.{Cursor}
use Rattle.seq_plan.specs.declared.cursor.Cursor.TheVariants as C
use Rattle.seq_plan.specs.declared.cursor.Walked.{Walked}
use Rattle.seq_plan.specs.declared.cursor.Walked.TheVariants as W

abbrev pub heads_stand : List Value → ℕ → Value → M.Value ℕ
heads_stand heads left rest = M.cons (M.values (plains (take left heads))) (plain rest)

abbrev pub items_stand : List Value → ℕ → Value → M.Value ℕ
items_stand items done rest = M.chunk (M.values (plains (drop done items))) (plain rest)

abbrev pub range_stand : ℤ → ℤ → ℤ → M.Value ℕ
range_stand from at end = M.range from at end

abbrev pub vector_stand : List Value → ℕ → M.Value ℕ
vector_stand items at = M.vec_seq (M.values (plains items)) at

abbrev pub stands : Cursor → M.Value ℕ
stands (C.Heads h) = heads_stand h.heads h.left h.rest
stands (C.Items i) = items_stand i.items i.done i.rest
stands (C.Range r) = range_stand r.from r.at r.end
stands (C.Vector v) = vector_stand v.items v.at

abbrev pub walked : Walked → M.Value ℕ
walked (W.Within c) = stands c
walked (W.Beyond v) = plain v

-- what stands behind a node is well formed
abbrev pub IsWalkedWell : Walked → Type 0
IsWalkedWell (W.Within c) = Unit {0}
IsWalkedWell (W.Beyond v) = IsTrue (is_well_formed v)

-- how many elements a node has of its own, or 1 for a range that isn't empty
abbrev pub own : M.Value ℕ → ℕ
own (M.cons xs r) = length (M.list xs)
own (M.chunk xs r) = length (M.list xs)
own (M.range from at end) = cond (int_lt at end) 1 0
own (M.vec_seq xs at) = length (M.list xs) - at
own _ = 0

-- `seq` of the value finds the value itself
abbrev pub IsFound : M.Value ℕ → Type 0
IsFound v = found v ≡ now v

-- The words whose rules run here, and what they look at in a value.
use Rattle.std.specs.Prelude.{ℕ, ◌-◌, ℤ, pos, ◌-ℤ◌, Bool, true, false, length, Option, Some, None}
use Rattle.seq_values.specs.declared.words.Builtin.{Builtin}
use Rattle.seq_values.specs.declared.words.Builtin.TheVariants as B
use Rattle.seq_values.specs.Model.{Value, nil, vector, reduced, range, vec_seq, list}

-- the words that walk a collection
abbrev pub is_walk_word : Builtin → Bool
is_walk_word B.Seq = true
is_walk_word B.First = true
is_walk_word B.Second = true
is_walk_word B.Rest = true
is_walk_word B.Next = true
is_walk_word B.Nth = true
is_walk_word B.Last = true
is_walk_word B.Count = true
is_walk_word B.IsEmpty = true
is_walk_word B.Cons = true
is_walk_word B.Conj = true
is_walk_word B.Vec = true
is_walk_word B.Reverse = true
is_walk_word B.Doall = true
is_walk_word B.IsEvery = true
is_walk_word B.Some = true
is_walk_word B.Apply = true
is_walk_word B.Equal = true
is_walk_word B.NotEqual = true
is_walk_word B.Reduce = true
is_walk_word B.Into = true
is_walk_word _ = false

-- what is looked at in a value
abbrev pub is_vector : Value ℕ → Bool
is_vector (vector xs) = true
is_vector _ = false

abbrev pub is_reduced : Value ℕ → Bool
is_reduced (reduced v) = true
is_reduced _ = false

-- what may be walked, and doesn't tell its length: neither nil nor a vector
abbrev pub is_another : Value ℕ → Bool
is_another nil = false
is_another (vector xs) = false
is_another _ = true

-- how many elements are left of a range, or of a vector's seq
abbrev pub range_left : Value ℕ → Option ℤ
range_left (range from at end) = Some (end -ℤ at)
range_left _ = None

abbrev pub vector_left : Value ℕ → Option ℤ
vector_left (vec_seq xs at) = Some (pos (length (list xs) - at))
vector_left _ = None

-- those of which it is known at once
abbrev pub left_at_once : Value ℕ → Option ℤ
left_at_once (range from at end) = Some (end -ℤ at)
left_at_once (vec_seq xs at) = Some (pos (length (list xs) - at))
left_at_once _ = None

-- What the rules look at when they ask of which kind a value is.
use Rattle.std.specs.Prelude.{ℕ, ℤ, List, [], ◌∷◌, ◌++◌}
use Rattle.std.specs.Prelude.{Option, Some, None}
use Rattle.seq_values.specs.declared.words.Builtin.TheVariants.{Identity, Cat as CatWord}
use Rattle.seq_values.specs.declared.words.Target.{Target}
use Rattle.seq_values.specs.declared.words.Target.TheVariants.{Builtin, Comp, Xf}
use Rattle.seq_values.specs.declared.words.XfKind.{XfKind}
use Rattle.seq_values.specs.declared.words.XfKind.TheVariants.{Take, Drop, DropWhile, PartitionAll}

-- What a transducer's stage keeps between two inputs.
pub data Kept : Type 0 where
  -- how many elements are left, of `take` and `drop`
  left : Kept
  -- whether it still drops, of `drop-while`
  dropping : Kept
  -- the elements of a group that isn't full, of `partition-all`, with the size of a full one
  group_of : ℤ → Kept

pub data Sight : Type 0 where
  a_nil : Sight
  a_bool : Sight
  an_int : ℤ → Sight
  -- with its length
  a_vector : ℕ → Sight
  a_cell : Sight
  -- `()`
  an_empty : Sight
  a_cons : Sight
  -- a chunk, a range or a sequence over a vector
  a_chunked : Sight
  -- what it calls, and of a transducer what its stages keep, in the order of the stages; nothing for another function
  a_function : Target → Option (List Kept) → Sight
  -- a keyword, a text or a reduced value
  another : Sight

-- what a stage keeps, given what is bound to it
abbrev pub kept_by : XfKind → List Sight → List Kept
kept_by Take _ = left ∷ []
kept_by Drop _ = left ∷ []
kept_by DropWhile _ = dropping ∷ []
kept_by PartitionAll (an_int size ∷ []) = group_of size ∷ []
kept_by _ _ = []

abbrev joined : List Kept → Option (List Kept) → Option (List Kept)
joined kept None = None
joined kept (Some more) = Some (kept ++ more)

-- what the stages of a composition keep: those of its first function come first, and it is a transducer only if each function is one
abbrev pub kept_by_all : List Sight → Option (List Kept)
kept_by_all [] = Some []
kept_by_all (a_function target (Some kept) ∷ others) = joined kept (kept_by_all others)
kept_by_all _ = None

-- Transducers (https://clojure.org/reference/transducers) are a word of lazy operations with one argument fewer, `cat` itself, a composition of transducers, and `identity`, which has no stage.
abbrev pub kept_by_function : Target → List Sight → Option (List Kept)
kept_by_function (Builtin Identity) [] = Some []
kept_by_function (Builtin CatWord) [] = Some []
kept_by_function Comp bound = kept_by_all bound
kept_by_function (Xf kind) bound = Some (kept_by kind bound)
kept_by_function _ _ = None

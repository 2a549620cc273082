-- Which words are those of lazy operations.
use Rattle.std.specs.Prelude.{Bool, true, false}
use Rattle.seq_values.specs.declared.words.Builtin.{Builtin}
use Rattle.seq_values.specs.declared.words.Builtin.TheVariants as B

abbrev pub is_lazy_word : Builtin → Bool
is_lazy_word B.Map = true
is_lazy_word B.Filter = true
is_lazy_word B.Keep = true
is_lazy_word B.Remove = true
is_lazy_word B.Take = true
is_lazy_word B.Drop = true
is_lazy_word B.TakeWhile = true
is_lazy_word B.DropWhile = true
is_lazy_word B.Concat = true
is_lazy_word B.Mapcat = true
is_lazy_word B.Iterate = true
is_lazy_word B.Range = true
is_lazy_word B.Repeat = true
is_lazy_word B.Cycle = true
is_lazy_word B.PartitionAll = true
is_lazy_word B.Cat = true
is_lazy_word _ = false

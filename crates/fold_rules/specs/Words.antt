-- Which words fold or reduce.
use Rattle.std.specs.Prelude.{Bool, true, false}
use Rattle.seq_values.specs.declared.words.Builtin.{Builtin}
use Rattle.seq_values.specs.declared.words.Builtin.TheVariants as B

abbrev pub is_fold_word : Builtin → Bool
is_fold_word B.Fold = true
is_fold_word B.Reduce = true
is_fold_word B.Into = true
is_fold_word _ = false

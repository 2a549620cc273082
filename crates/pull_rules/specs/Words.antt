-- Which words run the stages of a transducer.
use Rattle.std.specs.Prelude.{Bool, true, false}
use Rattle.seq_values.specs.declared.words.Builtin.{Builtin}
use Rattle.seq_values.specs.declared.words.Builtin.TheVariants as B

abbrev pub is_stage_word : Builtin → Bool
is_stage_word B.Transduce = true
is_stage_word B.Into = true
is_stage_word B.Sequence = true
is_stage_word _ = false

-- Which row a term has.
use Rattle.std.proofs.Common.{◌≡◌, ℕ, List, refl}
use Rattle.seq_values.specs.Model as M
use Rattle.seq_values.specs.declared.words.Op.{Op}
use Rattle.seq_values.specs.declared.words.Op.TheVariants as O
use Rattle.lazy_rows.specs.Table.{lazy_term}
use Rattle.seq_table.specs.Table.{on_term, chunk_size}

pub other_term : (op : Op) (xs : List (M.Value ℕ)) → ¬ (op ≡ O.Pull) → ¬ (op ≡ O.Fold) → ¬ (op ≡ O.Rets) → ¬ (op ≡ O.Step) → ¬ (op ≡ O.Derefs) → ¬ (op ≡ O.Call) → ¬ (op ≡ O.Ahead) → ¬ (op ≡ O.AheadOf) → ¬ (op ≡ O.Near) → lazy_term chunk_size op xs ≡ on_term chunk_size op xs
other_term O.Pull xs a b c d e f g h i = absurd (a refl)
other_term O.Fold xs a b c d e f g h i = absurd (b refl)
other_term O.Rets xs a b c d e f g h i = absurd (c refl)
other_term O.Step xs a b c d e f g h i = absurd (d refl)
other_term O.Derefs xs a b c d e f g h i = absurd (e refl)
other_term O.Call xs a b c d e f g h i = absurd (f refl)
other_term O.Ahead xs a b c d e f g h i = absurd (g refl)
other_term O.AheadOf xs a b c d e f g h i = absurd (h refl)
other_term O.Near xs a b c d e f g h i = absurd (i refl)
other_term _ xs a b c d e f g h i = refl

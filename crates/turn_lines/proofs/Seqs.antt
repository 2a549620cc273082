-- What `seq` gave is its own seq.
use Rattle.std.proofs.Common.{◌≡◌, ℕ, refl, sym, subst}
use Rattle.seq_values.specs.Model as M
use Rattle.seq_plan.proofs.CursorLemmas.{cursor_found}
use Rattle.seq_turns.specs.Seen.{seen}
use Rattle.seq_turns.specs.Turning.{IsSeq}
use Rattle.seq_turns.specs.declared.places.Seen.{Seen}
use Rattle.seq_turns.specs.declared.places.Seen.TheVariants as S

is_seq : (s : Seen) → IsSeq (seen s)
is_seq S.Nil = refl
is_seq (S.At c) = cursor_found c

pub seen_again : (s : Seen) (v : M.Value ℕ) → v ≡ seen s → IsSeq v
seen_again s v e = subst IsSeq (sym e) (is_seq s)

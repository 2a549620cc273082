-- Which answers fit what a rule waits for.
use Rattle.std.proofs.Common.{◌≡◌, ℕ, sym, subst}
use Rattle.std.specs.Prelude.{IsTrue}
use Rattle.seq_values.specs.Plain.{plain}
use Rattle.seq_values.specs.WellFormed.{is_well_formed}
use Rattle.seq_values.specs.declared.value.Value.{Value}
use Rattle.seq_values.specs.declared.term.Answer.TheVariants as A
use Rattle.seq_turns.specs.Turning.{Wait, a_step, a_seq, a_value, a_part, IsSeq, Fits}

pub step_fits : (w : Wait) → w ≡ a_step → Fits w A.Done
step_fits w e = subst (λ x. Fits x A.Done) (sym e) tt

pub seq_fits : (w : Wait) (v : Value) → w ≡ a_seq → IsSeq (plain v) → IsTrue (is_well_formed v) → Fits w (A.Got v)
seq_fits w v e s h = subst (λ x. Fits x (A.Got v)) (sym e) (s, h)

pub value_fits : (w : Wait) (v : Value) → w ≡ a_value → IsTrue (is_well_formed v) → Fits w (A.Got v)
value_fits w v e h = subst (λ x. Fits x (A.Got v)) (sym e) h

pub part_fits : (w : Wait) (m : ℕ) → w ≡ a_part → Fits w (A.Made m)
part_fits w m e = subst (λ x. Fits x (A.Made m)) (sym e) tt

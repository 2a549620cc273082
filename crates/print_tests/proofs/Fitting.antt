-- Answers that fit what a turn asked.
use Rattle.std.proofs.Common.{◌≡◌, subst, sym}
use Rattle.seq_values.specs.declared.term.Answer.{Answer}
use Rattle.seq_values.specs.declared.term.Answer.TheVariants as A
use Rattle.seq_turns.specs.Turning.{Wait, a_step, a_seq, Fits}

pub fits_visit : (w : Wait) → w ≡ a_step → Fits w A.Done
fits_visit w e = subst (λ u. Fits u A.Done) (sym e) tt

pub fits_seq : (w : Wait) (a : Answer) → w ≡ a_seq → Fits a_seq a → Fits w a
fits_seq w a e h = subst (λ u. Fits u a) (sym e) h

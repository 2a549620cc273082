use Rattle.std.proofs.Common.{ap, sym, ◌∙◌, ◌∷◌, ◌++◌, ◌+◌, length, drop, refl}
use Rattle.seq_values.specs.Plain.{plain, plains}
use Rattle.xf_stages.specs.Parts.{StepsTo, pending_in}
use Rattle.xf_stages.proofs.Leading.{in_ok}
use Rattle.xf_stages.proofs.OpenTurns.{steps_same, past_to}
use Rattle.xf_stages.proofs.opening.open_next.Goals as goal

pub returns-in-None : goal.returns-in-None
returns-in-None c = rw c.past.ensures (past_to c.args.work (drop c.args.frame.at c.args.frame.items.items) (rw c.in-None.is at c.in_ok-next.ensures))

pub returns-in-Some : goal.returns-in-Some
returns-in-Some c = in_ok c.open_behind.result (λ r h. steps_same (length c.args.work.frames.items + 1) (length c.args.work.frames.items + 1) c.args.work c.args.work _ (plains (drop c.args.frame.at c.args.frame.items.items) ++ pending_in c.args.work) r refl refl (ap (λ l. plains l ++ pending_in c.args.work) (sym (rw c.in-Some.is at c.in_ok-next.ensures))) h) c.open_behind.ensures

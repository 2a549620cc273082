use Rattle.std.proofs.Common.{◌∙◌}
use Rattle.std.proofs.lemmas.List.{append-nil}
use Rattle.seq_values.specs.Plain.{plain}
use Rattle.fold_rules.proofs.Pendings.{goes_half, goes_last}
use Rattle.fold_rules.proofs.pending.answered.Goals as goal

pub returns-in-None : goal.returns-in-None
returns-in-None c = goes_last c.args.pending.halves.items (plain c.args.answer.value) c.gives_last.result ((rw c.in-None.is at c.take-pending.ensures.halves) ∙ append-nil c.take-pending.result.pending.halves.items ∙ (rw c.in-None.is at c.take-pending.ensures.none)) c.gives_last.ensures

pub returns-in-Some : goal.returns-in-Some
returns-in-Some c = goes_half c.args.pending.halves.items c.take-pending.result.pending.halves.items c.in-Some.half (plain c.args.answer.value) c.asks_second.result (rw c.in-Some.is at c.take-pending.ensures.halves) c.asks_second.ensures

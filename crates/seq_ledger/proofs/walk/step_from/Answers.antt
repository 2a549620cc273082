use Rattle.std.proofs.Common.{◌≡◌, ap, sym, ◌∙◌}
use Rattle.seq_values.specs.Plain.{plain}
use Rattle.seq_ledger.specs.Walks.{met_as, more, part, next_of}
use Rattle.seq_ledger.proofs.Walking.{step_more, step_part}
use Rattle.seq_ledger.proofs.walk.step_from.Goals as goal

pub returns-in-More-clause-step : goal.returns-in-More-clause-step
returns-in-More-clause-step g c = λ a n. step_more a (plain c.args.value.now) c.in-More.count c.in-More.rest (sym (ap met_as c.in-More.is) ∙ c.in_ok-count.ensures)

pub returns-in_ok-then-in-Part-clause-step : goal.returns-in_ok-then-in-Part-clause-step
returns-in_ok-then-in-Part-clause-step g c = λ a n. step_part a (plain c.args.value.now) c.in-Part.id c.in_ok-then-in-Part.then (sym (ap met_as c.in-Part.is) ∙ c.in_ok-count.ensures) (c.in_ok-then-in-Part.ensures.behind a n)

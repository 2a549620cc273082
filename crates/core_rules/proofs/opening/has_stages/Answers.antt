use Rattle.std.proofs.Common.{◌∙◌}
use Rattle.seq_values.specs.Plain.{plains}
use Rattle.core_rules.specs.Opening.{finds}
use Rattle.core_rules.proofs.Openings.{finds_all}
use Rattle.core_rules.proofs.opening.has_stages.Goals as goal

pub returns : goal.returns
returns c = c.in_ok-holds.ensures ∙ (λ i. finds (c.in_ok-search.ensures.found i) (c.in_ok-search.ensures.pending i)) ∙ finds_all (plains c.args.functions.now.items)

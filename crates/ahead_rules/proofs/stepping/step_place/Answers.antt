use Rattle.std.proofs.Common.{sym, ◌∙◌}
use Rattle.seq_turns.proofs.Taking.{in_ok}
use Rattle.ahead_rules.specs.Left.{running}
use Rattle.ahead_rules.proofs.Moves.{step_takes, step_throws}
use Rattle.ahead_rules.proofs.stepping.step_place.Goals as goal

pub returns-in-None : goal.returns-in-None
returns-in-None c = step_throws c.args.element c.args.others c.args.values c.args.place c.no_element.result (sym c.as_part-part.ensures ∙ c.in-None.is) c.no_element.ensures

pub returns-in-Some : goal.returns-in-Some
returns-in-Some c = in_ok running c.step_asks.result (λ n h. step_takes c.args.element c.args.others c.args.values c.args.values c.args.place c.in-Some.id n (sym c.as_part-part.ensures ∙ c.in-Some.is) h) c.step_asks.ensures

use Rattle.std.proofs.Common.{◌++◌, subst}
use Rattle.seq_values.specs.Plain.{plains}
use Rattle.seq_plan.specs.Nodes.{with_members}
use Rattle.seq_turns.specs.Making.{Grows}
use Rattle.stage_rows.specs.Table.{kept}
use Rattle.xf_stages.specs.Left.{states_in}
use Rattle.xf_stages.specs.Opening.{IfGrown, AddsStates, kept_in}
use Rattle.pull_rules.proofs.PullTurns.{pull_takes, pull_too_long, pull_makes}
use Rattle.pull_rules.proofs.pulling.makes_pull.Goals as goal

pub makes_term-requires : goal.makes_term-requires
makes_term-requires c = pull_takes c.args.transducer.value c.args.source.value c.in_ok-both.both.items.items c.in-All.all.items.items c.args.stages c.in_ok-both.ensures (subst (λ g. IfGrown g (λ xs. AddsStates (kept_in c.args.stages) (plains c.in_ok-both.both.items.items) (plains xs))) c.in-All.is c.in_ok-grown.ensures.states) c.requires

pub returns-in-TooMany : goal.returns-in-TooMany
returns-in-TooMany c = pull_too_long c.args.transducer.value c.args.source.value c.in_ok-both.both.items.items c.args.stages c.args.next c.not_made.result c.in_ok-both.ensures (subst (λ g. Grows (with_members (plains c.in_ok-both.both.items.items ++ kept (states_in c.args.stages))) g) c.in-TooMany.is c.in_ok-grown.ensures.grows) c.not_made.ensures

pub returns-in_ok-turn-in-All : goal.returns-in_ok-turn-in-All
returns-in_ok-turn-in-All c = pull_makes c.args.transducer.value c.args.source.value c.in_ok-both.both.items.items c.args.stages c.args.next c.in-All.all c.in_ok-turn-in-All.turn c.in_ok-both.ensures (subst (λ g. Grows (with_members (plains c.in_ok-both.both.items.items ++ kept (states_in c.args.stages))) g) c.in-All.is c.in_ok-grown.ensures.grows) c.in_ok-turn-in-All.ensures

use Rattle.seq_values.specs.Plain.{plain}
use Rattle.core_rules.proofs.Openings.{looks_inner}
use Rattle.core_rules.proofs.opening.look_at.Goals as goal

pub returns-in_ok-more-in-Inner : goal.returns-in_ok-more-in-Inner
returns-in_ok-more-in-Inner c = looks_inner c.args.search c.in_ok-more-in-Inner.more (plain c.args.value.value) _ c.in-Inner.ensures c.in_ok-more-in-Inner.ensures.frames c.in_ok-more-in-Inner.ensures.found

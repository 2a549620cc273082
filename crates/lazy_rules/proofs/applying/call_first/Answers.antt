use Rattle.lazy_rules.proofs.ApplyTurns.{element_calls}
use Rattle.lazy_rules.proofs.applying.call_first.Goals as goal

pub returns : goal.returns
returns c = element_calls c.args.applying c.args.place c.in_ok-first.first.value c.in_ok-called.called.value c.in_ok-args.args.items c.calls.result c.in_ok-first.ensures c.in_ok-called.ensures c.in_ok-args.ensures.stands c.calls.ensures

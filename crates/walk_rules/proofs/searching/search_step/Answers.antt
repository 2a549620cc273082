use Rattle.walk_rules.proofs.Searches.{search_calls}
use Rattle.walk_rules.proofs.searching.search_step.Goals as goal

pub returns : goal.returns
returns c = search_calls c.args.quest c.args.test c.args.place c.in_ok-split.split.first c.in_ok-args.args.items c.in_ok-split.split.rest c.in_ok-called.called c.asks_call.result c.in_ok-split.ensures.first c.in_ok-split.ensures.rest c.in_ok-called.ensures c.in_ok-args.ensures.stands c.asks_call.ensures

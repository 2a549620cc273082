use Rattle.lazy_rules.proofs.BeginTurns.{map_all_begun}
use Rattle.lazy_rules.proofs.beginning.map_all_begins.Goals as goal

pub returns : goal.returns
returns c = map_all_begun c.args.chunk c.args.args.items c.in_ok-function.function.value c.new-seqs.result.items c.in_ok-next.next c.in_ok-function.ensures c.new-seqs.ensures.items c.in_ok-next.ensures

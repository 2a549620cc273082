use Rattle.lazy_rules.proofs.Taking.{in_ok}
use Rattle.lazy_rules.proofs.ConcatTurns.{concat_passed, concat_found}
use Rattle.lazy_rules.proofs.concatenating.concat_at.Goals as goal

pub returns-in-Nil : goal.returns-in-Nil
returns-in-Nil c = rw c.in-Nil.is (in_ok c.concat_from.result (λ n h. concat_passed c.args.collections n h) c.concat_from.ensures)

pub returns-in-At : goal.returns-in-At
returns-in-At c = rw c.in-At.is (in_ok c.concat_node.result (λ n h. concat_found c.args.collections c.in-At.place n h) c.concat_node.ensures)

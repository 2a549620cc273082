use Rattle.std.proofs.Common.{w64}
use Rattle.std.proofs.lemmas.Int.{to_z-of_z}
use Rattle.seq_turns.specs.Seen.{seen}
use Rattle.lazy_rules.proofs.Taking.{now_ok, asks_goes}
use Rattle.lazy_rules.specs.Left.{left_seq}
use Rattle.lazy_rules.proofs.DropTurns.{drop_counted, drop_asked}
use Rattle.lazy_rules.specs.declared.state.AtSeq.TheVariants as Q
use Rattle.lazy_rules.proofs.dropping.drop_step.Goals as goal

pub returns-in-Now : goal.returns-in-Now
returns-in-Now c = now_ok (λ t. left_seq (Q.Drop c.args.count) t) c.drop_at.result c.in_ok-rest.ensures (rw c.in-Now.is at c.seek_rest.ensures) (drop_counted c.args.count _ (seen c.in-Now.what) c.drop_at.result (to_z-of_z w64 c.args.count c.ranges.count) c.drop_at.ensures)

pub returns-in-Ask : goal.returns-in-Ask
returns-in-Ask c = let q = rw c.in-Ask.is at c.seek_rest.ensures in asks_goes (λ t. left_seq (Q.Drop c.args.count) t) c.in_ok-rest.ensures q.0 (drop_asked c.args.count _ _ _ (to_z-of_z w64 c.args.count c.ranges.count) c.seeks.ensures)

use Rattle.std.proofs.Common.{w64}
use Rattle.std.proofs.lemmas.Int.{to_z-of_z}
use Rattle.ahead_rules.specs.Left.{left_seq}
use Rattle.seq_values.specs.Model as M
use Rattle.seq_plan.specs.Cursors.{stands}
use Rattle.ahead_rules.specs.declared.state.AtSeq.TheVariants as Q
use Rattle.ahead_rules.proofs.Moves.{handed}
use Rattle.ahead_rules.proofs.taking.ahead_at.Goals as goal

pub returns-in-Nil : goal.returns-in-Nil
returns-in-Nil c = rw c.in-Nil.is (handed (λ n. left_seq (Q.Ahead n c.args.left) M.nil) c.args.count _ c.ahead_ends.result (to_z-of_z w64 c.args.count c.ranges.count) c.ahead_ends.ensures)

pub returns-in-At : goal.returns-in-At
returns-in-At c = rw c.in-At.is (handed (λ n. left_seq (Q.Ahead n c.args.left) (stands c.in-At.place)) c.args.count _ c.ahead_goes.result (to_z-of_z w64 c.args.count c.ranges.count) c.ahead_goes.ensures)

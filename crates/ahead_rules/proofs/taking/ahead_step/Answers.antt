use Rattle.seq_turns.proofs.Taking.{in_ok}
use Rattle.ahead_rules.specs.Left.{running}
use Rattle.std.proofs.Common.{rules, arith, w64, ◌∷◌, []}
use Rattle.std.proofs.lemmas.Int.{to_z-of_z}
use Rattle.seq_values.specs.Model as M
use Rattle.seq_plan.specs.Plan.{seq, go, give, ahead_from}
use Rattle.seq_turns.specs.Seen.{rested}
use Rattle.ahead_rules.proofs.Moves.{last_taken, more_taken, handed_ok}
use Rattle.ahead_rules.proofs.taking.ahead_step.Goals as goal

pub returns-then-count-le1 : goal.returns-then-count-le1
returns-then-count-le1 c = in_ok running c.given_rest.result (λ n h. last_taken c.args.count c.args.place (rested c.in_ok-rest.rest) n (search (rules, arith)) c.in_ok-rest.ensures h) c.given_rest.ensures

pub returns : goal.returns
returns c = in_ok running c.ahead_further.result (λ n h. more_taken c.args.count c.one_less-less.result c.args.place (rested c.in_ok-rest.rest) n (search (rules, arith)) (search (rules, arith)) c.in_ok-rest.ensures h) (handed_ok (λ k. seq (rested c.in_ok-rest.rest) (λ s. go ahead_from (M.int k ∷ rested c.in_ok-rest.rest ∷ s ∷ []) give)) c.one_less-less.result _ c.ahead_further.result (to_z-of_z w64 c.one_less-less.result (search (rules, arith))) c.ahead_further.ensures)

use Rattle.std.proofs.Common.{refl, arith}
use Rattle.eval_frames.specs.Frames.{ground, script_in}
use Rattle.eval_frames.specs.Weights.{rest_weight}
use Rattle.eval_frames.proofs.Moving.{once_moves, sought_moves, missed_moves}
use Rattle.eval_frames.proofs.Going.{comes_event, leads_from, leads_throws}
use Rattle.eval_frames.proofs.answering.seq_told.Goals as goal

pub returns-in-Now : goal.returns-in-Now
returns-in-Now g c =
    let by = ground g.R.Rule.running g.R.Rules.table c.args.code.now in
    record { goes = once_moves (script_in by) _ _ _ _ c.in-Now.ensures; took = refl; light = omega arith }

pub returns-in-Asks : goal.returns-in-Asks
returns-in-Asks g c =
    let by = ground g.R.Rule.running g.R.Rules.table c.args.code.now in
    comes_event by refl (omega arith) (leads_from by (sought_moves (script_in by) _ _ _ _ c.in-Asks.ensures) c.asks.ensures)

pub returns-in-NoSeq : goal.returns-in-NoSeq
returns-in-NoSeq g c =
    let by = ground g.R.Rule.running g.R.Rules.table c.args.code.now in
    comes_event by {v = rest_weight c.args.code.now c.args.rest} refl (omega arith) (leads_throws by c.no_seq.ensures (missed_moves (script_in by) _ _ _ c.in-NoSeq.ensures))

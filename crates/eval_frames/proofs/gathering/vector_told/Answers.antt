use Rattle.std.proofs.Common.{sym, ap, ◌∙◌, arith}
use Rattle.eval_frames.specs.Frames.{ground, beneath}
use Rattle.eval_frames.proofs.Going.{comes_on, comes_throws}
use Rattle.seq_turns.specs.Making.{made}
use Rattle.eval_frames.proofs.Splitting.{vector_goes}
use Rattle.eval_frames.proofs.gathering.vector_told.Goals as goal

pub returns-in-Value : goal.returns-in-Value
returns-in-Value g c =
    let by = ground g.R.Rule.running g.R.Rules.table c.args.code.now in
    comes_on by (sym (ap (λ m. made m (beneath by c.args.rest)) c.in-Value.is) ∙ vector_goes c.args.items.items _ (beneath by c.args.rest) c.requires c.vector_made.ensures) (omega arith) c.tells.ensures

pub returns-in-Thrown : goal.returns-in-Thrown
returns-in-Thrown g c =
    let by = ground g.R.Rule.running g.R.Rules.table c.args.code.now in
    comes_throws by c.stopped.ensures (sym (vector_goes c.args.items.items _ (beneath by c.args.rest) c.requires c.vector_made.ensures) ∙ ap (λ m. made m (beneath by c.args.rest)) c.in-Thrown.is)

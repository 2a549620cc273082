use Rattle.std.proofs.Common.{refl, arith}
use Rattle.eval_frames.specs.Frames.{ground}
use Rattle.seq_values.specs.Plain.{plain}
use Rattle.eval_frames.proofs.Tellings.{popped, ended, none_left}
use Rattle.eval_frames.proofs.Going.{ok_from}
use Rattle.eval_frames.proofs.telling.tell.Goals as goal

pub returns-in-None : goal.returns-in-None
returns-in-None g c =
    let by = ground g.R.Rule.running g.R.Rules.table c.args.code.now in
    ended by c.args.rest c.args.value (none_left c.args.rest.frames.items (λ h. c.in-None.ensures.variant.1 (let o = c.args.rest.frames.ok.0 in omega (arith, h, o))))

pub returns-in-Some : goal.returns-in-Some
returns-in-Some g c =
    let by = ground g.R.Rule.running g.R.Rules.table c.args.code.now in
    ok_from by _ _ _ _ _ _ c.frame_told.result (λ a h. popped by c.args.rest (record { left = c.args.rest.left; frames = c.pop.new.self }) c.in-Some.frame (plain c.args.value.value) a refl c.in-Some.ensures.items h) c.frame_told.ensures

use Rattle.eval_frames.proofs.Places.{value_there, no_value_there}
use Rattle.eval_frames.proofs.locals.value_in.Goals as goal

pub returns-in-Some : goal.returns-in-Some
returns-in-Some c = value_there c.args.values.now.items c.args.at _ _ (rw c.in-Some.is at c.in_ok-value.ensures)

pub returns-in-None : goal.returns-in-None
returns-in-None c = no_value_there c.args.values.now.items c.args.at _ (rw c.in-None.is at c.in_ok-value.ensures) c.nil.ensures.stands

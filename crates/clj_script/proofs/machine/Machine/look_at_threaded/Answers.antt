use Rattle.clj_script.proofs.LookLemmas.{looked_threaded}
use Rattle.clj_script.proofs.machine.Machine.look_at_threaded.Goals as goal

pub returns : goal.returns
returns c = looked_threaded c.in_ok-whole.whole _ _ c.requires.sound c.requires.within c.in_ok-whole.ensures.added c.in_ok-whole.ensures.refused c.in_ok-push.ensures.items

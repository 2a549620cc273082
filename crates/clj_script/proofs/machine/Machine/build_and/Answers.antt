use Rattle.clj_script.proofs.TaskLemmas.{on_ok}
use Rattle.clj_script.proofs.BuildLemmas.{takes_sound, takes_below, built_and}
use Rattle.clj_script.proofs.machine.Machine.build_and.Goals as goal

pub give-requires-clause-sound : goal.give-requires-clause-sound
give-requires-clause-sound c = takes_sound c.requires.sound c.in_ok-items.ensures.taken

pub give-requires-clause-below : goal.give-requires-clause-below
give-requires-clause-below c = rw c.of.ensures (takes_below c.requires.sound c.in_ok-items.ensures.taken)

pub returns : goal.returns
returns c = on_ok c.give.result (built_and _ _ _ c.in_ok-items.ensures.taken c.in_ok-items.ensures.count c.of.ensures) c.give.ensures

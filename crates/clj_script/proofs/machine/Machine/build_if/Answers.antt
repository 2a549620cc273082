use Rattle.clj_script.proofs.TaskLemmas.{on_ok}
use Rattle.clj_script.proofs.BuildLemmas.{takes_sound, takes_below, takes_both, built_if}
use Rattle.clj_script.proofs.machine.Machine.build_if.Goals as goal

pub give-requires-clause-sound : goal.give-requires-clause-sound
give-requires-clause-sound c = takes_sound c.requires.sound (takes_both (takes_both c.taken_one-no.ensures c.taken_one-yes.ensures) c.taken_one-test.ensures)

pub give-requires-clause-below : goal.give-requires-clause-below
give-requires-clause-below c = takes_below c.requires.sound (takes_both (takes_both c.taken_one-no.ensures c.taken_one-yes.ensures) c.taken_one-test.ensures)

pub returns : goal.returns
returns c =
    on_ok c.give.result (built_if _ _ _ (takes_both (takes_both c.taken_one-no.ensures c.taken_one-yes.ensures) c.taken_one-test.ensures)) c.give.ensures

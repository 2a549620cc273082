use Rattle.clj_script.proofs.TaskLemmas.{on_ok}
use Rattle.clj_script.proofs.BuildLemmas.{takes_sound, takes_below, takes_both, built_call}
use Rattle.clj_script.proofs.machine.Machine.build_call.Goals as goal

pub give-requires-clause-sound : goal.give-requires-clause-sound
give-requires-clause-sound c = takes_sound c.requires.sound (takes_both c.in_ok-args.ensures.taken c.taken_one-head.ensures)

pub give-requires-clause-below : goal.give-requires-clause-below
give-requires-clause-below c = rw c.of.ensures (takes_below c.requires.sound (takes_both c.in_ok-args.ensures.taken c.taken_one-head.ensures))

pub returns : goal.returns
returns c =
    on_ok c.give.result (built_call _ _ _ _ (takes_both c.in_ok-args.ensures.taken c.taken_one-head.ensures) c.in_ok-args.ensures.count c.of.ensures) c.give.ensures

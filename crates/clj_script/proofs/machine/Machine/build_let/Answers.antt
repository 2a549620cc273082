use Rattle.std.proofs.Common.{refl}
use Rattle.clj_script.specs.Machines.{IsSound}
use Rattle.clj_script.proofs.TaskLemmas.{on_ok}
use Rattle.clj_script.proofs.BuildLemmas.{takes_sound, takes_below, takes_both, built_let}
use Rattle.clj_script.proofs.machine.Machine.build_let.Goals as goal

pub give-requires-clause-sound : goal.give-requires-clause-sound
give-requires-clause-sound c =
    let s : IsSound c.taken_one-value.new.self = takes_sound c.requires.sound (takes_both c.taken_one-body.ensures c.taken_one-value.ensures) in
    record { lower = s.lower; written = s.written; bodies = s.bodies; values = s.values }

pub give-requires-clause-below : goal.give-requires-clause-below
give-requires-clause-below c = takes_below c.requires.sound (takes_both c.taken_one-body.ensures c.taken_one-value.ensures)

pub returns : goal.returns
returns c =
    on_ok c.give.result (built_let _ _ _ (takes_both c.taken_one-body.ensures c.taken_one-value.ensures) refl refl refl refl refl c.unbind.ensures) c.give.ensures

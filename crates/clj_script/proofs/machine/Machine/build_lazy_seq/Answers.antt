use Rattle.std.proofs.Common.{refl, rules, length}
use Rattle.clj_script.specs.Machines.{IsSound}
use Rattle.clj_script.proofs.ArenaLemmas.{below_both}
use Rattle.clj_script.proofs.TaskLemmas.{on_ok}
use Rattle.clj_script.proofs.BuildLemmas.{takes_sound, takes_below, built_lazy_seq}
use Rattle.clj_script.proofs.machine.Machine.build_lazy_seq.Goals as goal

pub give-requires-clause-sound : goal.give-requires-clause-sound
give-requires-clause-sound c =
    let s : IsSound c.taken_one-expr.new.self = takes_sound c.requires.sound c.taken_one-expr.ensures in
    let b = takes_below c.requires.sound c.taken_one-expr.ensures in
    record { lower = s.lower; written = s.written; bodies = rw c.in_ok-push.ensures.items (below_both (length c.taken_one-expr.new.self.nodes.items) c.taken_one-expr.new.self.bodies.items c.taken_one-expr.result s.bodies b.0); values = s.values }

pub returns : goal.returns
returns c =
    on_ok c.give.result (built_lazy_seq _ c.taken_one-expr.result c.in_ok-body.body c.taken_one-expr.ensures refl refl refl refl refl c.in_ok-push.ensures.items (search rules)) c.give.ensures

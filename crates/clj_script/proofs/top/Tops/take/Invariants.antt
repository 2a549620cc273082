use Rattle.clj_script.specs.Entries.{form_at}
use Rattle.clj_script.specs.Machines.{weight}
use Rattle.clj_script.proofs.StandingLemmas.{HasFollowed}
use Rattle.clj_script.proofs.top.Tops.take.Given as goal

abbrev pub invariant-loop-written : goal.invariant-loop-written
invariant-loop-written l = HasFollowed l.fn.self l.self (form_at l.fn.self.sources.items l.form) l.standing

abbrev pub decreases-loop-written : goal.decreases-loop-written
decreases-loop-written l = weight (form_at l.self.sources.items l.standing)

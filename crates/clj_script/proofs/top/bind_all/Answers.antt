use Rattle.clj_script.specs.Entries.{form_at}
use Rattle.clj_script.proofs.EntryLemmas.{number_got}
use Rattle.clj_script.proofs.ThreadLemmas.{below_at}
use Rattle.clj_script.proofs.BodyLemmas.{none_named, one_named}
use Rattle.clj_script.proofs.top.bind_all.Goals as goal

pub loop-name-init : goal.loop-name-init
loop-name-init c = none_named _ c.requires.scope

pub bind_parameter-requires-clause-below : goal.bind_parameter-requires-clause-below
bind_parameter-requires-clause-below c = below_at _ c.args.names.now c.loop-name.name-index _ c.requires.below (number_got c.args.names.now c.loop-name.name-index c.loop-name-test.true)

pub loop-name-preserved : goal.loop-name-preserved
loop-name-preserved c = one_named _ c.loop-name.machine _ (form_at c.args.sources.now) c.args.names.now c.loop-name.name-index _ c.loop-name.invariant (number_got c.args.names.now c.loop-name.name-index c.loop-name-test.true) c.in_ok-bind_parameter.ensures

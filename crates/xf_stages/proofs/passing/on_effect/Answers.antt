use Rattle.std.proofs.Common.{refl}
use Rattle.seq_turns.specs.Turning.{arrives}
use Rattle.xf_stages.proofs.passing.on_effect.Goals as goal

pub returns-in-Calls-clause-leads : goal.returns-in-Calls-clause-leads
returns-in-Calls-clause-leads c = rw c.in-Calls.is (record { goes = λ sink k. arrives; step = tt; rests = refl })

pub returns-in-Passes-clause-leads : goal.returns-in-Passes-clause-leads
returns-in-Passes-clause-leads c = rw c.in-Passes.is (record { goes = λ sink k. arrives; step = tt; rests = refl })

pub returns-in-PassesNothing-clause-leads : goal.returns-in-PassesNothing-clause-leads
returns-in-PassesNothing-clause-leads c = rw c.in-PassesNothing.is (record { goes = λ sink k. arrives; step = tt; rests = refl })

pub returns-in-Done-clause-leads : goal.returns-in-Done-clause-leads
returns-in-Done-clause-leads c = rw c.in-Done.is (record { goes = λ sink k. arrives; step = tt; rests = refl })

pub returns-in-PassesLast-clause-leads : goal.returns-in-PassesLast-clause-leads
returns-in-PassesLast-clause-leads c = rw c.in-PassesLast.is c.enters_last.ensures.leads

pub returns-in-PassesEach-clause-leads : goal.returns-in-PassesEach-clause-leads
returns-in-PassesEach-clause-leads c = rw c.in-PassesEach.is c.walk_on.ensures.leads

pub returns-in-Throws-clause-leads : goal.returns-in-Throws-clause-leads
returns-in-Throws-clause-leads c = rw (c.in-Throws.is, c.throws.ensures) (record { goes = λ sink k. arrives; step = tt; rests = tt })

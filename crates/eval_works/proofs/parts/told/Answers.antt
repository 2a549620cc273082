use Rattle.std.proofs.Common.{sym, subst}
use Rattle.eval_frames.specs.Frames.{ground}
use Rattle.eval_works.specs.declared.state.Asked.TheVariants as A
use Rattle.eval_works.specs.Asked.{Told, told_done, told_failed, told_empty, told_waits}
use Rattle.eval_works.proofs.parts.told.Goals as goal

pub returns-in-Ok-clause-told : goal.returns-in-Ok-clause-told
returns-in-Ok-clause-told g c = subst (λ l. Told (ground g.R.Rule.running g.R.Rules.table c.args.code.now) c.args.asker l (A.Comes c.in-Ok.event)) (sym c.in-Done.is) (told_done c.in-Ok.ensures.goes)

pub returns-in-Failed-clause-told : goal.returns-in-Failed-clause-told
returns-in-Failed-clause-told g c = subst (λ l. Told (ground g.R.Rule.running g.R.Rules.table c.args.code.now) c.args.asker l (A.Comes c.refused.result)) (sym c.in-Failed.is) (subst (λ e. Told (ground g.R.Rule.running g.R.Rules.table c.args.code.now) c.args.asker (Rattle.cell_book.specs.declared.answers.Look.TheVariants.Failed c.in-Failed.why) (A.Comes e)) (sym c.refused.ensures) told_failed)

pub returns-in-Empty-clause-told : goal.returns-in-Empty-clause-told
returns-in-Empty-clause-told g c = subst (λ l. Told (ground g.R.Rule.running g.R.Rules.table c.args.code.now) c.args.asker l (A.Empty c.args.asker)) (sym c.in-Empty.is) told_empty

pub returns-in-Forcing-clause-told : goal.returns-in-Forcing-clause-told
returns-in-Forcing-clause-told g c = subst (λ l. Told (ground g.R.Rule.running g.R.Rules.table c.args.code.now) c.args.asker l (A.Waits c.args.asker c.in-Forcing.claim)) (sym c.in-Forcing.is) told_waits

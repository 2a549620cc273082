use Rattle.xf_stages.specs.declared.state.Flow.{Flow}
use Rattle.seq_turns.specs.Seen.{seen, rested}
use Rattle.xf_stages.proofs.PassTurns.{asks_leads, now_leads}
use Rattle.std.proofs.Common.{refl}
use Rattle.xf_stages.proofs.passing.walk_on.Goals as goal

pub returns-in-Now-clause-leads : goal.returns-in-Now-clause-leads
returns-in-Now-clause-leads c = now_leads c.args.flow c.args.at (rested c.args.rest) (seen c.in-Now.what) c.walk_found.result (rw c.in-Now.is at c.seek_rest.ensures) c.walk_found.ensures.leads

pub returns-in-Ask-clause-leads : goal.returns-in-Ask-clause-leads
returns-in-Ask-clause-leads c = asks_leads _ (rested c.args.rest) (rested c.args.rest) c.in-Ask.value refl (rw c.in-Ask.is at c.seek_rest.ensures)

use Rattle.std.proofs.Common.{drop}
use Rattle.seq_values.specs.Plain.{plains}
use Rattle.xf_stages.proofs.RestoreTurns.{fits_back, all_back}
use Rattle.xf_stages.proofs.state.Stages.with_states.Goals as goal

pub restored_all-requires : goal.restored_all-requires
restored_all-requires c = fits_back c.args.self.stages.items c.turned-last_first.result.items (plains (drop c.args.at c.args.args.now.items)) c.turned-last_first.ensures c.requires

pub returns-clause-stages : goal.returns-clause-stages
returns-clause-stages c = (all_back c.args.self.stages.items c.turned-last_first.result.items c.in_ok-stages.stages.items (plains (drop c.args.at c.args.args.now.items)) c.turned-last_first.ensures c.in_ok-stages.ensures).stages

pub returns-clause-states : goal.returns-clause-states
returns-clause-states c = (all_back c.args.self.stages.items c.turned-last_first.result.items c.in_ok-stages.stages.items (plains (drop c.args.at c.args.args.now.items)) c.turned-last_first.ensures c.in_ok-stages.ensures).states

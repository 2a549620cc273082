use Rattle.std.proofs.Common.{drop, sym, ◌∙◌}
use Rattle.xf_stages.proofs.RestoreTurns.{restores_none}
use Rattle.seq_values.specs.Plain.{plains}
use Rattle.xf_stages.proofs.restoring.restored.Goals as goal

pub restored_from-requires-clause-keeps : goal.restored_from-requires-clause-keeps
restored_from-requires-clause-keeps c = sym c.keeps_state.ensures ∙ c.if-keeps_state.true

pub returns : goal.returns
returns c = restores_none c.args.stage (plains (drop c.args.at c.args.args.now.items)) c.keeps_state.result c.keeps_state.ensures c.if-keeps_state.false

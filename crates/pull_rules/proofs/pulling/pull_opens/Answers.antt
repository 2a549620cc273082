use Rattle.std.proofs.Common.{drop}
use Rattle.seq_values.specs.Plain.{plain, plains}
use Rattle.stage_rows.specs.Table.{replaced}
use Rattle.xf_stages.specs.Left.{stages_in, states_in}
use Rattle.pull_rules.proofs.PullTurns.{kept_fit, starts_same}
use Rattle.pull_rules.proofs.pulling.pull_opens.Goals as goal

pub with_states-requires : goal.with_states-requires
with_states-requires c = kept_fit c.args.args.now.items c.args.pull.transducer.value c.args.source.value c.args.stages c.requires.args c.requires.through c.requires.fit

pub returns : goal.returns
returns c = starts_same c.args.pull.enough (plain c.args.pull.transducer.value) (plain c.args.source.value) (stages_in c.args.stages) (stages_in c.in_ok-stages.stages) (replaced (states_in c.args.stages) (plains (drop 2 c.args.args.now.items))) (states_in c.in_ok-stages.stages) c.none-outputs.result.items.items c.in_ok-next.next c.in_ok-stages.ensures.stages c.in_ok-stages.ensures.states c.none-outputs.ensures c.in_ok-next.ensures

use Rattle.seq_values.specs.Plain.{plain}
use Rattle.seq_turns.specs.Seen.{rested}
use Rattle.xf_stages.specs.Left.{states_in}
use Rattle.pull_rules.proofs.PullTurns.{stops_same}
use Rattle.pull_rules.proofs.pulling.stops.Goals as goal

pub makes_pull-requires : goal.makes_pull-requires
makes_pull-requires c = c.args.pulling.through

pub returns : goal.returns
returns c = stops_same (plain c.args.pulling.pull.transducer.value) (states_in c.args.pulling.stages) c.args.pulling.outputs _ (rested c.args.rest) c.in_ok-next.next c.in_ok-source.ensures c.in_ok-next.ensures

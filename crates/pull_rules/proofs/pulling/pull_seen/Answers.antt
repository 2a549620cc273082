use Rattle.seq_values.specs.Plain.{plain, plains}
use Rattle.xf_stages.specs.Left.{stages_in, states_in}
use Rattle.pull_rules.proofs.PullTurns.{nothing_left, element_there}
use Rattle.pull_rules.proofs.pulling.pull_seen.Goals as goal

pub returns-in_ok-next-in-Nil : goal.returns-in_ok-next-in-Nil
returns-in_ok-next-in-Nil c = rw c.in-Nil.is (nothing_left c.args.pulling.pull.enough (plain c.args.pulling.pull.transducer.value) (stages_in c.args.pulling.stages) (states_in c.args.pulling.stages) (plains c.args.pulling.outputs.items.items) c.in_ok-next-in-Nil.next c.in_ok-next-in-Nil.ensures)

pub returns-in-At : goal.returns-in-At
returns-in-At c = rw c.in-At.is (element_there c.args.pulling c.in-At.place c.visits.result c.visits.ensures)

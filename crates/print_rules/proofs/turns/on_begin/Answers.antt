use Rattle.seq_values.specs.Plain.{plain}
use Rattle.print_rules.proofs.PrintTurns.{begins}
use Rattle.print_rules.proofs.turns.on_begin.Goals as goal

pub returns : goal.returns
returns c = begins (plain c.args.value.value) c.new.result c.visits.result c.new.ensures.text c.new.ensures.around c.visits.ensures

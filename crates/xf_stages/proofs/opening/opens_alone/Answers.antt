use Rattle.seq_values.specs.Model as M
use Rattle.seq_values.specs.Plain.{plains}
use Rattle.xf_stages.proofs.opening.opens_alone.Goals as goal

pub returns : goal.returns
returns c = c.opens_word.ensures (M.values (plains c.args.items.items))

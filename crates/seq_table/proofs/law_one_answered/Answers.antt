use Rattle.seq_table.proofs.OneAnswered.{one_answered}
use Rattle.seq_table.proofs.law_one_answered.Goals as goal

pub returns : goal.returns
returns g c = λ one_program one_refusal never_both script options status other text another a b. one_answered g.R.Reading.means g.R.Reading.refuses one_program one_refusal never_both a b

use Rattle.std.proofs.Common.{sym, ◌∙◌, arith}
use Rattle.seq_plan.proofs.CursorLemmas.{rest_last_of_vector, plain_empty}
use Rattle.seq_plan.proofs.cursor.step_vector.Goals as goal

pub returns-else-v-len-clause-same : goal.returns-else-v-len-clause-same
returns-else-v-len-clause-same c = plain_empty ∙ sym (rest_last_of_vector c.args.v.items c.args.v.at (omega (arith, c.if-v-len.false, c.len.ensures.same)))

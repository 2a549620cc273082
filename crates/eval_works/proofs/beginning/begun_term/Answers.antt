use Rattle.std.proofs.Common.{subst}
use Rattle.seq_values.specs.Plain.{plain_term}
use Rattle.seq_meaning.specs.Evaluates.{term_plan}
use Rattle.eval_frames.specs.Frames.{ground, script_in}
use Rattle.eval_works.specs.Begins.{StandsAt}
use Rattle.eval_works.proofs.beginning.begun_term.Goals as goal

pub returns : goal.returns
returns g c =
    let by = ground g.R.Rule.running g.R.Rules.table c.args.code.now in
    subst (λ t. StandsAt by c.args.limit (term_plan (script_in by) (plain_term t)) c.entered.result) c.in_ok-term.ensures (c.entered.ensures (term_plan (script_in by) (plain_term c.in_ok-term.term)) _ c.begin_part-begun.ensures)

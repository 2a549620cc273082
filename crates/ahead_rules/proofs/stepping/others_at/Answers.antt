use Rattle.ahead_rules.proofs.Fits.{step_fits}
use Rattle.seq_turns.specs.Seen.{seen}
use Rattle.ahead_rules.proofs.Moves.{others_made}
use Rattle.ahead_rules.proofs.stepping.others_at.Goals as goal

pub returns : goal.returns
returns c = others_made c.args.stepping c.args.first (seen c.args.what) c.in_ok-others.others.value c.proper-values.result.value c.proper-further.result.value c.after_answer-after.result c.in_ok-args.args.items c.makes_part.result c.in_ok-others.ensures.stands c.proper-values.ensures c.proper-further.ensures c.in_ok-args.ensures c.after_answer-after.ensures c.makes_part.ensures

pub makes_part-requires : goal.makes_part-requires
makes_part-requires c = step_fits c.args.first.value c.in_ok-others.others.value c.proper-values.result.value c.proper-further.result.value c.args.stepping.values.value c.args.stepping.further.value c.in_ok-args.args.items c.in_ok-args.ensures c.proper-values.ensures c.proper-further.ensures c.in_ok-others.ensures.seq c.args.stepping.values.sequence c.args.stepping.further.sequence

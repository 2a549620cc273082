use Rattle.std.proofs.Common.{◌+◌, sym, subst}
use Rattle.eval_frames.specs.Frames.{ground, beneath}
use Rattle.eval_frames.proofs.Callings.{no_call, enters_throws}
use Rattle.seq_meaning.specs.Evaluates.{called}
use Rattle.seq_plan.specs.Plan.{then}
use Rattle.seq_values.specs.Plain.{plain, plains}
use Rattle.eval_frames.specs.Frames.{script_in}
use Rattle.eval_frames.specs.Leads.{Enters}
use Rattle.eval_frames.specs.Weights.{rest_weight, heaviest}
use Rattle.clj_script.specs.Seen.{seen}
use Rattle.eval_frames.proofs.calls.enter.Goals as goal

pub returns-in-None : goal.returns-in-None
returns-in-None g c =
    let by = ground g.R.Rule.running g.R.Rules.table c.args.code.now in
    enters_throws by _ _ c.refused.ensures (no_call by _ _ (beneath by c.args.rest) (c.function_in.ensures.none c.in-None.is))

pub returns-in-Some : goal.returns-in-Some
returns-in-Some g c =
    let by = ground g.R.Rule.running g.R.Rules.table c.args.code.now in
    subst (λ v. Enters by c.args.rest.left (then (called (script_in by) (plain v) (plains c.args.args.items)) (beneath by c.args.rest)) (rest_weight c.args.code.now c.args.rest + (heaviest (seen c.args.code.now.program) + 1)) c.enter_function.result) (sym c.in-Some.ensures.some) c.enter_function.ensures

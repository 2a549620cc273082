use Rattle.std.proofs.Common.{ap, ◌∙◌, arith}
use Rattle.eval_frames.specs.Frames.{ground, beneath, gathered}
use Rattle.seq_values.specs.Plain.{plains}
use Rattle.eval_frames.proofs.Going.{comes_same}
use Rattle.eval_frames.specs.Parts.{tree, parts_in}
use Rattle.seq_meaning.specs.Evaluates.{evals}
use Rattle.eval_frames.specs.Weights.{weights}
use Rattle.eval_frames.proofs.Splitting.{first_come, first_locals}
use Rattle.eval_frames.specs.declared.state.Purpose.TheVariants as P
use Rattle.eval_frames.proofs.evaluating.eval_vector.Goals as goal

pub returns : goal.returns
returns g c =
    let by = ground g.R.Rule.running g.R.Rules.table c.args.code.now in
    let come = first_come c.args.code.now c.args.number c.args.locals _ c.parts_of.ensures in
    let scope = first_locals c.args.number c.args.locals _ c.parts_of.ensures in
    let w = ap weights come in
    let defs = plains c.args.code.now.values.items in
    let k = beneath by c.args.rest in
    comes_same by ((λ i. evals defs (come i) (scope i) (plains c.none-none.result.items.items) (gathered P.Vector k)) ∙ ap (λ xs. evals defs (parts_in (tree c.args.code.now c.args.number)) (plains c.args.locals.items) (plains xs) (gathered P.Vector k)) c.none-none.ensures) (omega (arith, w)) c.in_ok-all.ensures

use Rattle.std.proofs.Common.{refl, sym, ap, ◌∙◌}
use Rattle.std.specs.Prelude.{slice_get}
use Rattle.eval_frames.proofs.Shapes.{node_parts, part_of, part_not, part_none}
use Rattle.eval_frames.proofs.parts.part_at.Goals as goal

pub returns-in_default : goal.returns-in_default
returns-in_default c = part_none c.args.code.now _ _ (c.in_default.ensures.tree)

pub returns-in-Vector : goal.returns-in-Vector
returns-in-Vector c = part_of c.args.code.now _ _ _ _ c.in-Some.ensures.tree (c.get.ensures ∙ ap (λ x. slice_get (node_parts x) c.args.at) (sym c.in-Vector.is))

pub returns-in-Call : goal.returns-in-Call
returns-in-Call c = part_of c.args.code.now _ _ _ _ c.in-Some.ensures.tree (c.get-in-Call.ensures ∙ ap (λ x. slice_get (node_parts x) c.args.at) (sym c.in-Call.is))

pub returns-in-And : goal.returns-in-And
returns-in-And c = part_of c.args.code.now _ _ _ _ c.in-Some.ensures.tree (c.get-in-And.ensures ∙ ap (λ x. slice_get (node_parts x) c.args.at) (sym c.in-And.is))

pub returns-in-Or : goal.returns-in-Or
returns-in-Or c = part_of c.args.code.now _ _ _ _ c.in-Some.ensures.tree (c.get-in-Or.ensures ∙ ap (λ x. slice_get (node_parts x) c.args.at) (sym c.in-Or.is))

pub returns-in-Literal : goal.returns-in-Literal
returns-in-Literal c = part_not c.args.code.now _ _ _ _ c.in-Some.ensures.tree c.in-Literal.is refl

pub returns-in-Word : goal.returns-in-Word
returns-in-Word c = part_not c.args.code.now _ _ _ _ c.in-Some.ensures.tree c.in-Word.is refl

pub returns-in-Function : goal.returns-in-Function
returns-in-Function c = part_not c.args.code.now _ _ _ _ c.in-Some.ensures.tree c.in-Function.is refl

pub returns-in-Defined : goal.returns-in-Defined
returns-in-Defined c = part_not c.args.code.now _ _ _ _ c.in-Some.ensures.tree c.in-Defined.is refl

pub returns-in-Local : goal.returns-in-Local
returns-in-Local c = part_not c.args.code.now _ _ _ _ c.in-Some.ensures.tree c.in-Local.is refl

pub returns-in-Let : goal.returns-in-Let
returns-in-Let c = part_not c.args.code.now _ _ _ _ c.in-Some.ensures.tree c.in-Let.is refl

pub returns-in-If : goal.returns-in-If
returns-in-If c = part_not c.args.code.now _ _ _ _ c.in-Some.ensures.tree c.in-If.is refl

pub returns-in-LazySeq : goal.returns-in-LazySeq
returns-in-LazySeq c = part_not c.args.code.now _ _ _ _ c.in-Some.ensures.tree c.in-LazySeq.is refl

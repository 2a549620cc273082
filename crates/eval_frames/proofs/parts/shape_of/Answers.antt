use Rattle.eval_frames.proofs.Shapes.{shape_none, shape_literal, shape_word, shape_function, shape_defined, shape_local, shape_vector, shape_call, shape_let, shape_if, shape_and, shape_or, shape_lazy}
use Rattle.eval_frames.proofs.parts.shape_of.Goals as goal

pub returns-in_default : goal.returns-in_default
returns-in_default c = shape_none c.args.code.now _ _ c.in_default.ensures.tree c.nil.ensures.stands

pub returns-in_ok-value-in-Literal : goal.returns-in_ok-value-in-Literal
returns-in_ok-value-in-Literal c = shape_literal c.args.code.now _ _ c.in-Some.ensures.tree _ _ c.in-Literal.is c.in-Some.ensures.written c.in_ok-value-in-Literal.ensures

pub returns-in-Word : goal.returns-in-Word
returns-in-Word c = shape_word c.args.code.now _ _ c.in-Some.ensures.tree _ _ c.in-Word.is c.word_value.ensures.stands

pub returns-in-Function : goal.returns-in-Function
returns-in-Function c = shape_function c.args.code.now _ _ c.in-Some.ensures.tree _ _ c.in-Function.is c.function.ensures

pub returns-in-Defined : goal.returns-in-Defined
returns-in-Defined c = shape_defined c.args.code.now _ _ c.in-Some.ensures.tree _ c.in-Defined.is

pub returns-in-Local : goal.returns-in-Local
returns-in-Local c = shape_local c.args.code.now _ _ c.in-Some.ensures.tree _ c.in-Local.is

pub returns-in-Vector : goal.returns-in-Vector
returns-in-Vector c = shape_vector c.args.code.now _ _ c.in-Some.ensures.tree _ c.in-Vector.is

pub returns-in-Call : goal.returns-in-Call
returns-in-Call c = shape_call c.args.code.now _ _ c.in-Some.ensures.tree _ _ c.in-Call.is

pub returns-in-Let : goal.returns-in-Let
returns-in-Let c = shape_let c.args.code.now _ _ c.in-Some.ensures.tree _ _ c.in-Let.is

pub returns-in-If : goal.returns-in-If
returns-in-If c = shape_if c.args.code.now _ _ c.in-Some.ensures.tree _ _ _ c.in-If.is

pub returns-in-And : goal.returns-in-And
returns-in-And c = shape_and c.args.code.now _ _ c.in-Some.ensures.tree _ c.in-And.is

pub returns-in-Or : goal.returns-in-Or
returns-in-Or c = shape_or c.args.code.now _ _ c.in-Some.ensures.tree _ c.in-Or.is

pub returns-in-LazySeq : goal.returns-in-LazySeq
returns-in-LazySeq c = shape_lazy c.args.code.now _ _ c.in-Some.ensures.tree _ c.in-LazySeq.is

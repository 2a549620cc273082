use Rattle.std.proofs.Common.{sym, subst, arith, IfOk}
use Rattle.eval_frames.specs.Frames.{ground, beneath}
use Rattle.seq_values.specs.Plain.{plains}
use Rattle.eval_frames.proofs.Going.{comes_same}
use Rattle.eval_frames.specs.Parts.{tree, HasShape}
use Rattle.eval_frames.specs.Leads.{ExprComes}
use Rattle.eval_frames.proofs.Splitting.{weighs_some}
use Rattle.eval_frames.proofs.evaluating.eval.Goals as goal

pub returns-in-Value : goal.returns-in-Value
returns-in-Value g c =
    let by = ground g.R.Rule.running g.R.Rules.table c.args.code.now in
    let s = subst (HasShape c.args.code.now (tree c.args.code.now c.args.number)) c.in-Value.is c.in_ok-value.ensures in
    let w = weighs_some (tree c.args.code.now c.args.number) in
    comes_same by (sym (s (plains c.args.code.now.values.items) (plains c.args.locals.items) (beneath by c.args.rest))) (omega (arith, w)) c.gives.ensures

pub returns-in-Defined : goal.returns-in-Defined
returns-in-Defined g c =
    let by = ground g.R.Rule.running g.R.Rules.table c.args.code.now in
    let s = subst (HasShape c.args.code.now (tree c.args.code.now c.args.number)) c.in-Defined.is c.in_ok-value.ensures in
    subst (λ t. IfOk c.eval_defined.result (λ a. ExprComes by t (plains c.args.locals.items) c.args.rest a)) (sym s) c.eval_defined.ensures

pub returns-in-Local : goal.returns-in-Local
returns-in-Local g c =
    let by = ground g.R.Rule.running g.R.Rules.table c.args.code.now in
    let s = subst (HasShape c.args.code.now (tree c.args.code.now c.args.number)) c.in-Local.is c.in_ok-value.ensures in
    subst (λ t. IfOk c.eval_local.result (λ a. ExprComes by t (plains c.args.locals.items) c.args.rest a)) (sym s) c.eval_local.ensures

pub returns-in-Vector : goal.returns-in-Vector
returns-in-Vector g c =
    let by = ground g.R.Rule.running g.R.Rules.table c.args.code.now in
    let s = subst (HasShape c.args.code.now (tree c.args.code.now c.args.number)) c.in-Vector.is c.in_ok-value.ensures in
    subst (λ t. IfOk c.eval_vector.result (λ a. ExprComes by t (plains c.args.locals.items) c.args.rest a)) (sym s) c.eval_vector.ensures

pub returns-in-Call : goal.returns-in-Call
returns-in-Call g c =
    let by = ground g.R.Rule.running g.R.Rules.table c.args.code.now in
    let s = subst (HasShape c.args.code.now (tree c.args.code.now c.args.number)) c.in-Call.is c.in_ok-value.ensures in
    subst (λ t. IfOk c.eval_call.result (λ a. ExprComes by t (plains c.args.locals.items) c.args.rest a)) (sym s) c.eval_call.ensures

pub returns-in-Let : goal.returns-in-Let
returns-in-Let g c =
    let by = ground g.R.Rule.running g.R.Rules.table c.args.code.now in
    let s = subst (HasShape c.args.code.now (tree c.args.code.now c.args.number)) c.in-Let.is c.in_ok-value.ensures in
    subst (λ t. IfOk c.eval_let.result (λ a. ExprComes by t (plains c.args.locals.items) c.args.rest a)) (sym s) c.eval_let.ensures

pub returns-in-If : goal.returns-in-If
returns-in-If g c =
    let by = ground g.R.Rule.running g.R.Rules.table c.args.code.now in
    let s = subst (HasShape c.args.code.now (tree c.args.code.now c.args.number)) c.in-If.is c.in_ok-value.ensures in
    subst (λ t. IfOk c.eval_if.result (λ a. ExprComes by t (plains c.args.locals.items) c.args.rest a)) (sym s) c.eval_if.ensures

pub returns-in-And : goal.returns-in-And
returns-in-And g c =
    let by = ground g.R.Rule.running g.R.Rules.table c.args.code.now in
    let s = subst (HasShape c.args.code.now (tree c.args.code.now c.args.number)) c.in-And.is c.in_ok-value.ensures in
    subst (λ t. IfOk c.eval_and.result (λ a. ExprComes by t (plains c.args.locals.items) c.args.rest a)) (sym s) c.eval_and.ensures

pub returns-in-Or : goal.returns-in-Or
returns-in-Or g c =
    let by = ground g.R.Rule.running g.R.Rules.table c.args.code.now in
    let s = subst (HasShape c.args.code.now (tree c.args.code.now c.args.number)) c.in-Or.is c.in_ok-value.ensures in
    subst (λ t. IfOk c.eval_or.result (λ a. ExprComes by t (plains c.args.locals.items) c.args.rest a)) (sym s) c.eval_or.ensures

pub returns-in-LazySeq : goal.returns-in-LazySeq
returns-in-LazySeq g c =
    let by = ground g.R.Rule.running g.R.Rules.table c.args.code.now in
    let s = subst (HasShape c.args.code.now (tree c.args.code.now c.args.number)) c.in-LazySeq.is c.in_ok-value.ensures in
    subst (λ t. ExprComes by t (plains c.args.locals.items) c.args.rest c.eval_lazy.result) (sym s) c.eval_lazy.ensures

use Rattle.eval_stack.specs.Stack.{lowest}
use Rattle.eval_stack.specs.Turned.{TurnNotes}
use Rattle.eval_stack.specs.Came.{Concludes, EvaluationNotes}
use Rattle.eval_stack.proofs.Claims.{concluded_held}
use Rattle.eval_stack.proofs.Notes.{becomes_then, concluded_as}
use Rattle.eval_stack.proofs.forcing.evaluated.Goals as goal

pub concluded-requires-clause-ready : goal.concluded-requires-clause-ready
concluded-requires-clause-ready g c =
    let C = g.C.Cells in
    let s = c.args.cells.now in
    g.met.C.Cells.same_ready s c.turns-turned.new.cells c.turns-turned.ensures.same c.requires.ready

pub concluded-requires-clause-law : goal.concluded-requires-clause-law
concluded-requires-clause-law g c = record { basis = _; governs = c.turns-turned.ensures.law }

pub returns-clause-held : goal.returns-clause-held
returns-clause-held g c =
    let C = g.C.Cells in
    let s = c.args.cells.now in
    λ d. concluded_held (C.held s d) (C.held c.turns-turned.new.cells d) (C.held c.concluded.new.cells d) _ _ (c.turns-turned.ensures.held d) (c.concluded.ensures.held d)

pub returns-clause-law : goal.returns-clause-law
returns-clause-law g c = c.concluded.ensures.law _ c.turns-turned.ensures.law

pub returns-clause-names : goal.returns-clause-names
returns-clause-names g c = λ names alike is. c.concluded.ensures.names _ names alike (c.turns-turned.ensures.names names alike is)

pub returns-clause-quiet : goal.returns-clause-quiet
returns-clause-quiet g c =
    let C = g.C.Cells in
    let s = c.args.cells.now in
    let u = c.turns-turned.new.cells in
    let t = c.concluded.new.cells in
    let r = c.turns-turned.result in
    becomes_then (C.alone s) (C.alone u) (C.noted s) (C.noted u) (C.noted t) (TurnNotes r) (Concludes r) (EvaluationNotes c.concluded.result) (g.met.C.Cells.same_alone s u c.turns-turned.ensures.same) c.turns-turned.ensures.quiet c.concluded.ensures.quiet (concluded_as r c.concluded.result c.concluded.ensures.comes)

pub returns-clause-same : goal.returns-clause-same
returns-clause-same g c =
    let C = g.C.Cells in
    let s = c.args.cells.now in
    g.met.C.Cells.same_further s c.turns-turned.new.cells c.concluded.new.cells c.turns-turned.ensures.same c.concluded.ensures.same

pub returns-clause-answer : goal.returns-clause-answer
returns-clause-answer g c = c.concluded.ensures.ends (lowest c.args.stack.below.items c.args.stack.top.work) c.turns-turned.ensures.ends

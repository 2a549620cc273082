use Rattle.std.proofs.Common.{◌≡◌, ◌+◌, Option, Some, ap, sym, subst, ◌∙◌}
use Rattle.cell_book.specs.Account.{Duty}
use Rattle.eval_stack.specs.declared.state.Stack.{Stack}
use Rattle.eval_stack.specs.Stack.{lowest}
use Rattle.eval_stack.specs.Turned.{Ends, TurnNotes}
use Rattle.eval_stack.specs.Evaluating.{open_claims, IsOf, StepNotes, NotesAfter}
use Rattle.eval_stack.proofs.Claims.{held_on, lowest_stays}
use Rattle.eval_stack.proofs.Notes.{becomes_then}
use Rattle.eval_stack.proofs.evaluation.Evaluation.step.Goals as goal

pub returns-clause-shows : goal.returns-clause-shows
returns-clause-shows g c =
    let C = g.C.Cells in
    let u = c.turn-turned.new.cells in
    let k = c.in-Some.stack in
    let e : c.args.self.now.stack ≡ Some k = sym c.take.ensures.value ∙ c.in-Some.is in
    λ w h. c.shown-stack.ensures.shows w (subst (λ (v : Duty). Ends (C.seen u) v c.turn-turned.result) (subst (λ (o : Option (Stack g.row.R.Denot g.R.Rule)). IsOf w o) e h) c.turn-turned.ensures.ends)

pub returns-clause-of : goal.returns-clause-of
returns-clause-of g c =
    let k = c.in-Some.stack in
    let e : c.args.self.now.stack ≡ Some k = sym c.take.ensures.value ∙ c.in-Some.is in
    λ w h. subst (λ (o : Option (Stack g.row.R.Denot g.R.Rule)). IsOf w o) (sym c.stands.ensures.stack) (c.shown-stack.ensures.of w (lowest_stays (lowest k.below.items k.top.work) w c.turn-turned.result (subst (λ (o : Option (Stack g.row.R.Denot g.R.Rule)). IsOf w o) e h) c.turn-turned.ensures.lowest))

pub returns-clause-held : goal.returns-clause-held
returns-clause-held g c =
    let C = g.C.Cells in
    let s = c.args.cells.now in
    let u = c.turn-turned.new.cells in
    let t = c.shown-stack.new.cells in
    let k = c.in-Some.stack in
    let e : c.args.self.now.stack ≡ Some k = sym c.take.ensures.value ∙ c.in-Some.is in
    λ d. ap (λ (o : Option (Stack g.row.R.Denot g.R.Rule)). C.held t d + open_claims o d) e ∙ (held_on (C.held t d) (C.held u d) (C.held s d) _ _ _ (c.turn-turned.ensures.held d) (c.shown-stack.ensures.held d) ∙ ap (λ (o : Option (Stack g.row.R.Denot g.R.Rule)). C.held s d + open_claims o d) (sym c.stands.ensures.stack))

pub returns-clause-names : goal.returns-clause-names
returns-clause-names g c = λ names alike is. c.shown-stack.ensures.names names alike (c.turn-turned.ensures.names names alike is)

pub returns-clause-quiet : goal.returns-clause-quiet
returns-clause-quiet g c =
    let C = g.C.Cells in
    let s = c.args.cells.now in
    let u = c.turn-turned.new.cells in
    let t = c.shown-stack.new.cells in
    let r = c.turn-turned.result in
    becomes_then (C.alone s) (C.alone u) (C.noted s) (C.noted u) (C.noted t) (TurnNotes r) (NotesAfter r c.shown-stack.result.1) (StepNotes c.shown-stack.result.1) (g.met.C.Cells.same_alone s u c.turn-turned.ensures.same) c.turn-turned.ensures.quiet c.shown-stack.ensures.quiet (λ a d z f h. h a f)

pub returns-clause-same : goal.returns-clause-same
returns-clause-same g c = g.met.C.Cells.same_further c.args.cells.now c.turn-turned.new.cells c.shown-stack.new.cells c.turn-turned.ensures.same c.shown-stack.ensures.same

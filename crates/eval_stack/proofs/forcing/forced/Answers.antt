use Rattle.std.proofs.Common.{◌∙◌, subst}
use Rattle.cell_book.specs.Account.{Duty}
use Rattle.eval_stack.specs.Stack.{basis_of}
use Rattle.eval_stack.specs.Came.{Answered, Concludes, EvaluationNotes}
use Rattle.eval_stack.proofs.Claims.{lowest_empty}
use Rattle.eval_stack.proofs.Forced.{over_nothing, forced_held}
use Rattle.eval_stack.proofs.Notes.{becomes_as, concluded_as}
use Rattle.eval_stack.proofs.Starting.{new_work}
use Rattle.eval_stack.proofs.forcing.forced.Goals as goal

pub begun_over-requires : goal.begun_over-requires
begun_over-requires g c =
    let C = g.C.Cells in
    let s = c.args.cells.now in
    record { new = new_work (basis_of g.R.Rules.table c.args.setting.now) (C.seen s) c.args.work c.requires.begun }

pub evaluated-requires-clause-stack : goal.evaluated-requires-clause-stack
evaluated-requires-clause-stack g c =
    let C = g.C.Cells in
    let s = c.args.cells.now in
    c.in-On.ensures.stands (C.seen s) (C.held s) (over_nothing g.R.Rule.running g.R.Rules.table c.args.setting.now (C.seen s) c.new.result.items c.new.ensures.items (C.held s) c.args.work c.requires.only) c.requires.begun

pub concluded-requires : goal.concluded-requires
concluded-requires g c =
    let C = g.C.Cells in
    let s = c.args.cells.now in
    record { ready = c.requires.ready; law = record { basis = (basis_of g.R.Rules.table c.args.setting.now); governs = c.requires.law }; stands = c.begun_over.ensures.stands (C.seen s) (C.held s) (over_nothing g.R.Rule.running g.R.Rules.table c.args.setting.now (C.seen s) c.new.result.items c.new.ensures.items (C.held s) c.args.work c.requires.only) c.requires.begun }

pub returns-in-On-clause-answer : goal.returns-in-On-clause-answer
returns-in-On-clause-answer g c =
    let C = g.C.Cells in
    let s = c.args.cells.now in
    subst (λ (w : Duty). Answered (C.seen c.evaluated.new.cells) w c.evaluated.result) (c.in-On.ensures.lowest ∙ lowest_empty c.new.result.items c.args.work c.new.ensures.items) c.evaluated.ensures.answer

pub returns-in-On-clause-held : goal.returns-in-On-clause-held
returns-in-On-clause-held g c =
    let C = g.C.Cells in
    let s = c.args.cells.now in
    λ d. forced_held c.new.result.items c.args.work d c.new.ensures.items (C.held c.evaluated.new.cells d) _ (C.held s d) (c.evaluated.ensures.held d) (c.in-On.ensures.left d) (c.requires.only d)

pub returns-in_default : goal.returns-in_default
returns-in_default g c =
    let C = g.C.Cells in
    let s = c.args.cells.now in
    let t = c.concluded.new.cells in
    let f = c.concluded.ensures in
    let r = c.begun_over.result in
    record {
      answer = f.ends c.args.work (c.begun_over.ensures.ends (C.seen s) c.args.work);
      held = λ d. forced_held c.new.result.items c.args.work d c.new.ensures.items (C.held t d) _ (C.held s d) (f.held d) (c.begun_over.ensures.left d) (c.requires.only d);
      names = f.names (basis_of g.R.Rules.table c.args.setting.now);
      quiet = becomes_as (C.alone s) (C.noted s) (C.noted t) (Concludes r) (EvaluationNotes c.concluded.result) f.quiet (λ a b q. concluded_as r c.concluded.result f.comes a a b (c.begun_over.ensures.notes a) q);
      same = f.same;
    }

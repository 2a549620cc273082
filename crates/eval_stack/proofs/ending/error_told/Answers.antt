use Rattle.std.proofs.Common.{ℕ, [], ◌∷◌, ◌++◌, sym, subst}
use Rattle.seq_plan.specs.Plan.{throw}
use Rattle.eval_frames.specs.Frames.{ground}
use Rattle.lawful_works.specs.Basis.{RunsTo}
use Rattle.eval_works.specs.Standing.{basis}
use Rattle.eval_stack.proofs.Claims.{held_top, told_held}
use Rattle.eval_stack.proofs.Standing.{law_in, law_out, names_out, over_thrown, throws_too, last_code}
use Rattle.eval_stack.proofs.ending.error_told.Goals as goal

pub end_throw-requires-clause-law : goal.end_throw-requires-clause-law
end_throw-requires-clause-law g c =
    let C = g.C.Cells in
    let s = c.args.cells.now in
    law_in g.R.Rule.running g.R.Rules.table c.args.setting.now (C.alone s) (C.law s) (C.noted s) c.args.code c.args.work c.requires.code c.requires.law

pub end_throw-requires-clause-own : goal.end_throw-requires-clause-own
end_throw-requires-clause-own g c =
    let C = g.C.Cells in
    let s = c.args.cells.now in
    held_top (C.held s) (c.args.below.items ++ c.args.waiting ∷ []) c.args.work c.requires.over.own

pub returns-clause-stands : goal.returns-clause-stands
returns-clause-stands g c =
    let C = g.C.Cells in
    let s = c.args.cells.now in
    let t = c.end_throw.new.cells in
    let x = c.args.waiting in
    let run = throws_too g.R.Rule.running g.R.Rules.table c.args.setting.now (C.seen s) (C.seen t) (C.held s) c.args.below.items c.args.waiting c.args.work c.args.why c.requires.over c.end_throw.ensures.asker in
    let runs = subst (λ (n : ℕ). RunsTo (basis (ground g.R.Rule.running g.R.Rules.table x.code) c.args.setting.now.limit) (C.seen t) x.work n (throw c.args.why)) (sym c.steps_left-left.ensures) run in
    record { over = over_thrown g.R.Rule.running g.R.Rules.table c.args.setting.now (C.seen s) (C.seen t) (C.held s) (C.held t) c.args.below.items c.args.waiting c.args.work c.requires.over c.end_throw.ensures.others c.end_throw.ensures.holds c.end_throw.ensures.held; top = record { code = last_code g.R.Rule.running g.R.Rules.table c.args.setting.now (C.seen s) (C.held s) c.args.below.items c.args.waiting c.args.work c.requires.over; runs = runs } }

pub returns-clause-held : goal.returns-clause-held
returns-clause-held g c =
    let C = g.C.Cells in
    let s = c.args.cells.now in
    let t = c.end_throw.new.cells in
    λ d. told_held (C.held s) (C.held t) c.args.below.items c.args.waiting c.args.work d c.requires.over.own (c.end_throw.ensures.held d)

pub returns-clause-law : goal.returns-clause-law
returns-clause-law g c =
    let C = g.C.Cells in
    let s = c.args.cells.now in
    let t = c.end_throw.new.cells in
    law_out g.R.Rule.running g.R.Rules.table c.args.setting.now (C.alone t) (C.law t) (C.noted t) c.args.code c.args.work c.requires.code c.end_throw.ensures.law

pub returns-clause-names : goal.returns-clause-names
returns-clause-names g c =
    let C = g.C.Cells in
    let s = c.args.cells.now in
    let t = c.end_throw.new.cells in
    names_out g.R.Rule.running g.R.Rules.table c.args.setting.now (C.alone s) (C.alone t) (C.law s) (C.law t) (C.noted s) (C.noted t) c.args.code c.args.work c.requires.code c.end_throw.ensures.names

pub returns-clause-quiet : goal.returns-clause-quiet
returns-clause-quiet g c = c.end_throw.ensures.quiet

use Rattle.std.proofs.Common.{subst, sym}
use Rattle.seq_values.specs.Plain.{plain}
use Rattle.seq_plan.specs.Plan.{give}
use Rattle.lawful_works.specs.Calls.{HasValue}
use Rattle.eval_stack.specs.Turned.{TurnedOn}
use Rattle.eval_stack.proofs.Claims.{held_top, last_held}
use Rattle.eval_stack.proofs.Standing.{law_in, law_out, names_out, run_open, over_open_now}
use Rattle.eval_stack.proofs.ending.last_value.Goals as goal

pub end_value-requires-clause-law : goal.end_value-requires-clause-law
end_value-requires-clause-law g c =
    let C = g.C.Cells in
    let s = c.args.cells.now in
    law_in g.R.Rule.running g.R.Rules.table c.args.setting.now (C.alone s) (C.law s) (C.noted s) c.args.code c.args.work c.requires.code c.requires.law

pub end_value-requires-clause-own : goal.end_value-requires-clause-own
end_value-requires-clause-own g c =
    let C = g.C.Cells in
    let s = c.args.cells.now in
    held_top (C.held s) c.args.below.items c.args.work c.requires.over.own

pub returns-in-Ok-clause-ends : goal.returns-in-Ok-clause-ends
returns-in-Ok-clause-ends g c =
    let C = g.C.Cells in
    let s = c.args.cells.now in
    let t = c.end_value.new.cells in
    subst (λ v. HasValue (C.seen t) c.args.work v) (sym c.in-Ok.ensures) c.end_value.ensures.value

pub returns-in-Ok-clause-held : goal.returns-in-Ok-clause-held
returns-in-Ok-clause-held g c =
    let C = g.C.Cells in
    let s = c.args.cells.now in
    let t = c.end_value.new.cells in
    λ d. last_held (C.held s) (C.held t) c.args.below.items c.args.work d c.requires.over.own (c.end_value.ensures.held d)

pub returns-in-Ok-clause-law : goal.returns-in-Ok-clause-law
returns-in-Ok-clause-law g c =
    let C = g.C.Cells in
    let s = c.args.cells.now in
    let t = c.end_value.new.cells in
    law_out g.R.Rule.running g.R.Rules.table c.args.setting.now (C.alone t) (C.law t) (C.noted t) c.args.code c.args.work c.requires.code c.end_value.ensures.law

pub returns-in-Ok-clause-names : goal.returns-in-Ok-clause-names
returns-in-Ok-clause-names g c =
    let C = g.C.Cells in
    let s = c.args.cells.now in
    let t = c.end_value.new.cells in
    names_out g.R.Rule.running g.R.Rules.table c.args.setting.now (C.alone s) (C.alone t) (C.law s) (C.law t) (C.noted s) (C.noted t) c.args.code c.args.work c.requires.code c.end_value.ensures.names

pub returns-in-Ok-clause-quiet : goal.returns-in-Ok-clause-quiet
returns-in-Ok-clause-quiet g c = c.end_value.ensures.quiet

pub returns-clause-stands : goal.returns-clause-stands
returns-clause-stands g c =
    let C = g.C.Cells in
    let s = c.args.cells.now in
    subst (λ r. TurnedOn g.R.Rule.running g.R.Rules.table c.args.setting.now (C.seen s) (C.held s) r) (sym c.unshared.ensures) (over_open_now g.R.Rule.running g.R.Rules.table c.args.setting.now (C.seen s) (C.held s) c.args.below.items c.args.work c.requires.over (run_open g.R.Rule.running g.R.Rules.table c.args.setting.now c.args.code (C.seen s) c.args.work c.args.left (give (plain c.args.value.value)) c.requires.run), tt)

pub returns-clause-same : goal.returns-clause-same
returns-clause-same g c =
    let C = g.C.Cells in
    let s = c.args.cells.now in
    g.met.C.Cells.same_self s

use Rattle.std.proofs.Common.{[], ◌∷◌, ◌++◌}
use Rattle.eval_stack.proofs.Claims.{held_top, told_held}
use Rattle.eval_stack.proofs.Standing.{law_in, law_out, names_out, over_told, asks_again}
use Rattle.eval_stack.proofs.ending.value_told.Goals as goal

pub end_value-requires-clause-law : goal.end_value-requires-clause-law
end_value-requires-clause-law g c =
    let C = g.C.Cells in
    let s = c.args.cells.now in
    law_in g.R.Rule.running g.R.Rules.table c.args.setting.now (C.alone s) (C.law s) (C.noted s) c.args.code c.args.work c.requires.code c.requires.law

pub end_value-requires-clause-own : goal.end_value-requires-clause-own
end_value-requires-clause-own g c =
    let C = g.C.Cells in
    let s = c.args.cells.now in
    held_top (C.held s) (c.args.below.items ++ c.args.waiting ∷ []) c.args.work c.requires.over.own

pub returns-clause-stands : goal.returns-clause-stands
returns-clause-stands g c =
    let C = g.C.Cells in
    let s = c.args.cells.now in
    let t = c.end_value.new.cells in
    let q = asks_again g.R.Rule.running g.R.Rules.table c.args.setting.now (C.seen s) (C.seen t) (C.held s) c.args.below.items c.args.waiting c.args.work c.requires.over c.end_value.ensures.others in
    record { over = over_told g.R.Rule.running g.R.Rules.table c.args.setting.now (C.seen s) (C.seen t) (C.held s) (C.held t) c.args.below.items c.args.waiting c.args.work c.requires.over c.end_value.ensures.others c.end_value.ensures.holds c.end_value.ensures.held; top = record { code = q.code; runs = q.asks } }

pub returns-clause-held : goal.returns-clause-held
returns-clause-held g c =
    let C = g.C.Cells in
    let s = c.args.cells.now in
    let t = c.end_value.new.cells in
    λ d. told_held (C.held s) (C.held t) c.args.below.items c.args.waiting c.args.work d c.requires.over.own (c.end_value.ensures.held d)

pub returns-clause-law : goal.returns-clause-law
returns-clause-law g c =
    let C = g.C.Cells in
    let s = c.args.cells.now in
    let t = c.end_value.new.cells in
    law_out g.R.Rule.running g.R.Rules.table c.args.setting.now (C.alone t) (C.law t) (C.noted t) c.args.code c.args.work c.requires.code c.end_value.ensures.law

pub returns-clause-names : goal.returns-clause-names
returns-clause-names g c =
    let C = g.C.Cells in
    let s = c.args.cells.now in
    let t = c.end_value.new.cells in
    names_out g.R.Rule.running g.R.Rules.table c.args.setting.now (C.alone s) (C.alone t) (C.law s) (C.law t) (C.noted s) (C.noted t) c.args.code c.args.work c.requires.code c.end_value.ensures.names

pub returns-clause-quiet : goal.returns-clause-quiet
returns-clause-quiet g c = c.end_value.ensures.quiet

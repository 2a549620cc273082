use Rattle.lawful_works.specs.Alone.{Grows}
use Rattle.eval_stack.proofs.Claims.{held_top, open_on, apart_below, held_below, lost_own, lost_once, lost_held}
use Rattle.eval_stack.proofs.Notes.{becomes_then, grows_then}
use Rattle.eval_stack.proofs.losing.lose_all.Goals as goal

pub lose-requires-clause-own : goal.lose-requires-clause-own
lose-requires-clause-own g c =
    let C = g.C.Cells in
    let s = c.args.cells.now in
    held_top (C.held s) c.args.below.items c.args.work c.requires.open.own

pub lose_below-requires-clause-open : goal.lose_below-requires-clause-open
lose_below-requires-clause-open g c =
    let C = g.C.Cells in
    let s = c.args.cells.now in
    let t = c.lose.new.cells in
    let o = c.requires.open.own in
    open_on (C.seen s) (C.seen t) c.args.below.items (λ d m. c.lose.ensures.holds d (held_below (C.held s) c.args.below.items c.args.work o d m) (apart_below (C.held s) c.args.below.items c.args.work o d m)) c.requires.open.rest

pub lose_below-requires-clause-own : goal.lose_below-requires-clause-own
lose_below-requires-clause-own g c =
    let C = g.C.Cells in
    let s = c.args.cells.now in
    let t = c.lose.new.cells in
    λ d. lost_own (C.held s) (C.held t) c.args.below.items c.args.work d c.requires.open.own (c.lose.ensures.held d)

pub lose_below-requires-clause-once : goal.lose_below-requires-clause-once
lose_below-requires-clause-once g c =
    let C = g.C.Cells in
    let s = c.args.cells.now in
    λ d. lost_once (C.held s) c.args.below.items c.args.work d c.requires.open.own

pub lose_below-requires-clause-law : goal.lose_below-requires-clause-law
lose_below-requires-clause-law g c = record { basis = c.requires.law.basis; governs = c.lose.ensures.law c.requires.law.basis c.requires.law.governs }

pub returns-clause-held : goal.returns-clause-held
returns-clause-held g c =
    let C = g.C.Cells in
    let s = c.args.cells.now in
    let t = c.lose.new.cells in
    let u = c.lose_below.new.cells in
    λ d. lost_held (C.held s) (C.held t) (C.held u) c.args.below.items c.args.work d c.requires.open.own (c.lose.ensures.held d) (c.lose_below.ensures.held d)

pub returns-clause-law : goal.returns-clause-law
returns-clause-law g c = λ y h. c.lose_below.ensures.law y (c.lose.ensures.law y h)

pub returns-clause-names : goal.returns-clause-names
returns-clause-names g c = λ y names alike h. c.lose_below.ensures.names y names alike (c.lose.ensures.names y names alike h)

pub returns-clause-quiet : goal.returns-clause-quiet
returns-clause-quiet g c =
    let C = g.C.Cells in
    let s = c.args.cells.now in
    let t = c.lose.new.cells in
    let u = c.lose_below.new.cells in
    becomes_then (C.alone s) (C.alone t) (C.noted s) (C.noted t) (C.noted u) Grows Grows Grows (g.met.C.Cells.same_alone s t c.lose.ensures.same) c.lose.ensures.quiet c.lose_below.ensures.quiet grows_then

pub returns-clause-same : goal.returns-clause-same
returns-clause-same g c =
    let C = g.C.Cells in
    let s = c.args.cells.now in
    let t = c.lose.new.cells in
    let u = c.lose_below.new.cells in
    g.met.C.Cells.same_further s t u c.lose.ensures.same c.lose_below.ensures.same

pub lose_below-requires-clause-ready : goal.lose_below-requires-clause-ready
lose_below-requires-clause-ready g c =
    let C = g.C.Cells in
    let s = c.args.cells.now in
    g.met.C.Cells.same_ready s c.lose.new.cells c.lose.ensures.same c.requires.ready

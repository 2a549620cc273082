use Rattle.eval_stack.specs.declared.state.Turned.TheVariants as T
use Rattle.eval_stack.specs.Turned.{Ends}
use Rattle.eval_works.specs.Meanwhile.{HaltNotes}
use Rattle.cell_book.specs.Account.{Duty}
use Rattle.std.proofs.Common.{refl, ◌∙◌, subst}
use Rattle.lawful_works.specs.Alone.{Quiets, Grows}
use Rattle.eval_stack.proofs.Notes.{quiets_same, quiets_then, becomes_then, halts_then}
use Rattle.eval_stack.proofs.Claims.{held_on}
use Rattle.eval_stack.proofs.looping.turns.Goals as goal

pub loop-turn-init : goal.loop-turn-init
loop-turn-init g c =
    let C = g.C.Cells in
    let s = c.args.cells.now in
    record { ready = c.requires.ready; stack = c.requires.stack; lowest_same = refl; held = λ d. refl; law = c.requires.law; names = λ names alike is. is; quiet = λ is a n. (a, n, quiets_same a); same = g.met.C.Cells.same_self s }

pub loop-turn-preserved : goal.loop-turn-preserved
loop-turn-preserved g c =
    let C = g.C.Cells in
    let s = c.args.cells.now in
    let l = c.loop-turn in
    let inv = l.invariant in
    let u = l.cells in
    let t = c.turn.new.cells in
    let e = c.in-On.ensures in
    record {
      ready = g.met.C.Cells.same_ready u t e.same inv.ready;
      stack = e.stands;
      lowest_same = e.lowest ∙ inv.lowest_same;
      held = λ d. held_on (C.held t d) (C.held u d) (C.held s d) _ _ _ (inv.held d) (e.held d);
      law = e.law;
      names = λ names alike is. e.names names alike (inv.names names alike is);
      quiet = becomes_then (C.alone s) (C.alone u) (C.noted s) (C.noted u) (C.noted t) Quiets Quiets Quiets (g.met.C.Cells.same_alone s u inv.same) inv.quiet e.quiet quiets_then;
      same = g.met.C.Cells.same_further s u t inv.same e.same;
    }

pub returns-in-Waits-clause-held : goal.returns-in-Waits-clause-held
returns-in-Waits-clause-held g c =
    let C = g.C.Cells in
    let s = c.args.cells.now in
    let l = c.loop-turn in
    let inv = l.invariant in
    let u = l.cells in
    let t = c.turn.new.cells in
    let e = c.in-Waits.ensures in
    λ d. held_on (C.held t d) (C.held u d) (C.held s d) _ _ _ (inv.held d) (e.held d)

pub returns-in-Waits-clause-names : goal.returns-in-Waits-clause-names
returns-in-Waits-clause-names g c =
    let C = g.C.Cells in
    let s = c.args.cells.now in
    let l = c.loop-turn in
    let inv = l.invariant in
    let u = l.cells in
    let t = c.turn.new.cells in
    let e = c.in-Waits.ensures in
    λ names alike is. e.names names alike (inv.names names alike is)

pub returns-in-Waits-clause-same : goal.returns-in-Waits-clause-same
returns-in-Waits-clause-same g c =
    let C = g.C.Cells in
    let s = c.args.cells.now in
    let l = c.loop-turn in
    let inv = l.invariant in
    let u = l.cells in
    let t = c.turn.new.cells in
    let e = c.in-Waits.ensures in
    g.met.C.Cells.same_further s u t inv.same e.same

pub returns-in-Waits-clause-quiet : goal.returns-in-Waits-clause-quiet
returns-in-Waits-clause-quiet g c =
    let C = g.C.Cells in
    let s = c.args.cells.now in
    let l = c.loop-turn in
    let inv = l.invariant in
    let u = l.cells in
    let t = c.turn.new.cells in
    let e = c.in-Waits.ensures in
    becomes_then (C.alone s) (C.alone u) (C.noted s) (C.noted u) (C.noted t) Quiets Quiets Quiets (g.met.C.Cells.same_alone s u inv.same) inv.quiet e.quiet quiets_then

pub returns-in-Waits-clause-lowest : goal.returns-in-Waits-clause-lowest
returns-in-Waits-clause-lowest g c =
    let C = g.C.Cells in
    let s = c.args.cells.now in
    let l = c.loop-turn in
    let inv = l.invariant in
    let u = l.cells in
    let t = c.turn.new.cells in
    let e = c.in-Waits.ensures in
    e.lowest ∙ inv.lowest_same

pub returns-in-Over-clause-held : goal.returns-in-Over-clause-held
returns-in-Over-clause-held g c =
    let C = g.C.Cells in
    let s = c.args.cells.now in
    let l = c.loop-turn in
    let inv = l.invariant in
    let u = l.cells in
    let t = c.turn.new.cells in
    let e = c.in-Over.ensures in
    λ d. held_on (C.held t d) (C.held u d) (C.held s d) _ _ _ (inv.held d) (e.held d)

pub returns-in-Over-clause-names : goal.returns-in-Over-clause-names
returns-in-Over-clause-names g c =
    let C = g.C.Cells in
    let s = c.args.cells.now in
    let l = c.loop-turn in
    let inv = l.invariant in
    let u = l.cells in
    let t = c.turn.new.cells in
    let e = c.in-Over.ensures in
    λ names alike is. e.names names alike (inv.names names alike is)

pub returns-in-Over-clause-same : goal.returns-in-Over-clause-same
returns-in-Over-clause-same g c =
    let C = g.C.Cells in
    let s = c.args.cells.now in
    let l = c.loop-turn in
    let inv = l.invariant in
    let u = l.cells in
    let t = c.turn.new.cells in
    let e = c.in-Over.ensures in
    g.met.C.Cells.same_further s u t inv.same e.same

pub returns-in-Over-clause-quiet : goal.returns-in-Over-clause-quiet
returns-in-Over-clause-quiet g c =
    let C = g.C.Cells in
    let s = c.args.cells.now in
    let l = c.loop-turn in
    let inv = l.invariant in
    let u = l.cells in
    let t = c.turn.new.cells in
    let e = c.in-Over.ensures in
    becomes_then (C.alone s) (C.alone u) (C.noted s) (C.noted u) (C.noted t) Quiets Quiets Quiets (g.met.C.Cells.same_alone s u inv.same) inv.quiet e.quiet quiets_then

pub returns-in-Over-clause-ends : goal.returns-in-Over-clause-ends
returns-in-Over-clause-ends g c =
    let C = g.C.Cells in
    let s = c.args.cells.now in
    let l = c.loop-turn in
    let inv = l.invariant in
    let u = l.cells in
    let t = c.turn.new.cells in
    let e = c.in-Over.ensures in
    subst (λ (w : Duty). Ends {S = g.row.R.Denot} {b = g.R.Rule} (C.seen t) w (T.Over c.in-Over.answer)) inv.lowest_same e.ends

pub returns-in-Halts-clause-held : goal.returns-in-Halts-clause-held
returns-in-Halts-clause-held g c =
    let C = g.C.Cells in
    let s = c.args.cells.now in
    let l = c.loop-turn in
    let inv = l.invariant in
    let u = l.cells in
    let t = c.turn.new.cells in
    let e = c.in-Halts.ensures in
    λ d. held_on (C.held t d) (C.held u d) (C.held s d) _ _ _ (inv.held d) (e.held d)

pub returns-in-Halts-clause-names : goal.returns-in-Halts-clause-names
returns-in-Halts-clause-names g c =
    let C = g.C.Cells in
    let s = c.args.cells.now in
    let l = c.loop-turn in
    let inv = l.invariant in
    let u = l.cells in
    let t = c.turn.new.cells in
    let e = c.in-Halts.ensures in
    λ names alike is. e.names names alike (inv.names names alike is)

pub returns-in-Halts-clause-same : goal.returns-in-Halts-clause-same
returns-in-Halts-clause-same g c =
    let C = g.C.Cells in
    let s = c.args.cells.now in
    let l = c.loop-turn in
    let inv = l.invariant in
    let u = l.cells in
    let t = c.turn.new.cells in
    let e = c.in-Halts.ensures in
    g.met.C.Cells.same_further s u t inv.same e.same

pub returns-in-Halts-clause-quiet : goal.returns-in-Halts-clause-quiet
returns-in-Halts-clause-quiet g c =
    let C = g.C.Cells in
    let s = c.args.cells.now in
    let l = c.loop-turn in
    let inv = l.invariant in
    let u = l.cells in
    let t = c.turn.new.cells in
    let e = c.in-Halts.ensures in
    becomes_then (C.alone s) (C.alone u) (C.noted s) (C.noted u) (C.noted t) Quiets (λ a b. Grows a b × HaltNotes c.in-Halts.why a b) (λ a b. Grows a b × HaltNotes c.in-Halts.why a b) (g.met.C.Cells.same_alone s u inv.same) inv.quiet e.quiet (halts_then c.in-Halts.why)

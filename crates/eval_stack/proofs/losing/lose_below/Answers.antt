use Rattle.std.proofs.Common.{◌≡◌, ◌≢◌, ℕ, ◌+◌, ◌<◌, ◌≤◌, List, [], ◌∷◌, ◌++◌, ap, sym, subst, refl, ◌∙◌}
use Rattle.std.specs.Option.{option_to_list}
use Rattle.cell_book.specs.Account.{Duty}
use Rattle.cell_book.specs.Glimpses.{Holds, IsOpen, after_end}
use Rattle.lawful_works.specs.Alone.{Grows}
use Rattle.eval_stack.specs.declared.state.Waiting.{Waiting}
use Rattle.eval_stack.specs.Stack.{claims, AreOpen}
use Rattle.eval_stack.proofs.Notes.{grows_same, grows_then, becomes_then}
use Rattle.eval_stack.proofs.Claims.{open_pop, open_on, last_own, rest_held, rest_apart, rest_own, rest_once, rest_lost}
use Rattle.eval_stack.proofs.losing.lose_below.Goals as goal

pub loop-waiting-init : goal.loop-waiting-init
loop-waiting-init g c =
    let C = g.C.Cells in
    let s = c.args.cells.now in
    record { ready = c.requires.ready; opens = c.requires.open; own = c.requires.own; once = c.requires.once; held = λ d. refl; law = λ y h. h; names = λ y names alike is. is; quiet = λ is a n. (a, n, grows_same a); same = g.met.C.Cells.same_self s }

pub lose-requires-clause-own : goal.lose-requires-clause-own
lose-requires-clause-own g c =
    let C = g.C.Cells in
    let s = c.args.cells.now in
    let l = c.loop-waiting in
    let inv = l.invariant in
    let u = l.cells in
    let ys = c.pop.new.self.items in
    let x = c.in-Some.waiting in
    let e : l.below.items ≡ ys ++ x ∷ [] = c.pop.ensures.items ∙ ap (λ o. ys ++ option_to_list o) c.in-Some.is in
    let own = subst (λ (xs : List (Waiting _ _)). (d : ℕ) → claims xs d ≤ C.held u d) e inv.own in
    let once = subst (λ (xs : List (Waiting _ _)). (d : ℕ) → claims xs d ≤ 1) e inv.once in
    let opened = subst (λ (xs : List (Waiting _ _)). AreOpen (C.seen u) xs) e inv.opens in
    subst (λ (v : Duty). 0 < C.held u v.claim) (sym c.waiting_work.ensures) (last_own (C.held u) ys x own once)

pub lose-requires-clause-open : goal.lose-requires-clause-open
lose-requires-clause-open g c =
    let C = g.C.Cells in
    let s = c.args.cells.now in
    let l = c.loop-waiting in
    let inv = l.invariant in
    let u = l.cells in
    let ys = c.pop.new.self.items in
    let x = c.in-Some.waiting in
    let e : l.below.items ≡ ys ++ x ∷ [] = c.pop.ensures.items ∙ ap (λ o. ys ++ option_to_list o) c.in-Some.is in
    let own = subst (λ (xs : List (Waiting _ _)). (d : ℕ) → claims xs d ≤ C.held u d) e inv.own in
    let once = subst (λ (xs : List (Waiting _ _)). (d : ℕ) → claims xs d ≤ 1) e inv.once in
    let opened = subst (λ (xs : List (Waiting _ _)). AreOpen (C.seen u) xs) e inv.opens in
    subst (λ (v : Duty). IsOpen (C.seen u) v) (sym c.waiting_work.ensures) (open_pop (C.seen u) ys x opened).1

pub lose-requires-clause-law : goal.lose-requires-clause-law
lose-requires-clause-law g c =
    let C = g.C.Cells in
    let s = c.args.cells.now in
    record { basis = c.requires.law.basis; governs = c.loop-waiting.invariant.law c.requires.law.basis c.requires.law.governs }

pub loop-waiting-preserved : goal.loop-waiting-preserved
loop-waiting-preserved g c =
    let C = g.C.Cells in
    let s = c.args.cells.now in
    let l = c.loop-waiting in
    let inv = l.invariant in
    let u = l.cells in
    let ys = c.pop.new.self.items in
    let x = c.in-Some.waiting in
    let e : l.below.items ≡ ys ++ x ∷ [] = c.pop.ensures.items ∙ ap (λ o. ys ++ option_to_list o) c.in-Some.is in
    let own = subst (λ (xs : List (Waiting _ _)). (d : ℕ) → claims xs d ≤ C.held u d) e inv.own in
    let once = subst (λ (xs : List (Waiting _ _)). (d : ℕ) → claims xs d ≤ 1) e inv.once in
    let opened = subst (λ (xs : List (Waiting _ _)). AreOpen (C.seen u) xs) e inv.opens in
    let t = c.lose.new.cells in
    let f = c.lose.ensures in
    let less = subst (λ (v : Duty). (d : ℕ) → C.held t d ≡ after_end (C.held u) v d) c.waiting_work.ensures f.held in
    let holds = subst (λ (v : Duty). (d : ℕ) → 0 < C.held u d → d ≢ v.claim → Holds d (C.seen u) (C.seen t)) c.waiting_work.ensures f.holds in
    let counts = subst (λ (xs : List (Waiting _ _)). (d : ℕ) → C.held u d + claims c.args.below.items d ≡ C.held s d + claims xs d) e inv.held in
    record {
      ready = g.met.C.Cells.same_ready u t f.same inv.ready;
      opens = open_on (C.seen u) (C.seen t) ys (λ d m. holds d (rest_held (C.held u) ys x own once d m) (rest_apart (C.held u) ys x own once d m)) (open_pop (C.seen u) ys x opened).0;
      own = λ d. rest_own (C.held u) ys x own once (C.held t) d (less d);
      once = rest_once (C.held u) ys x own once;
      held = λ d. rest_lost (C.held u) ys x own once (C.held s) (C.held t) c.args.below.items d (less d) (counts d);
      law = λ y h. f.law y (inv.law y h);
      names = λ y names alike is. f.names y names alike (inv.names y names alike is);
      quiet = becomes_then (C.alone s) (C.alone u) (C.noted s) (C.noted u) (C.noted t) Grows Grows Grows (g.met.C.Cells.same_alone s u inv.same) inv.quiet f.quiet grows_then;
      same = g.met.C.Cells.same_further s u t inv.same f.same;
    }

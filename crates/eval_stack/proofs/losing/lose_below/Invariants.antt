use Rattle.std.proofs.Common.{◌≡◌, ℕ, ◌+◌, ◌≤◌, vec_len}
use Rattle.lawful_works.specs.Basis.{Basis, Governs}
use Rattle.lawful_works.specs.Named.{StaysGood}
use Rattle.lawful_works.specs.Alone.{Becomes, Grows}
use Rattle.eval_stack.specs.Stack.{claims, AreOpen}
use Rattle.eval_stack.proofs.losing.lose_below.Given as goal

abbrev pub invariant-loop-waiting : goal.invariant-loop-waiting
invariant-loop-waiting g l =
    let C = g.C.Cells in
    let s = l.initial.cells in
    let t = l.cells in
    record {
      ready : C.ready t;
      opens : AreOpen (C.seen t) l.below.items;
      own : (c : ℕ) → claims l.below.items c ≤ C.held t c;
      once : (c : ℕ) → claims l.below.items c ≤ 1;
      held : (c : ℕ) → C.held t c + claims l.initial.below.items c ≡ C.held s c + claims l.below.items c;
      law : (y : Basis) → Governs (C.alone s) (C.law s) (C.noted s) y → Governs (C.alone t) (C.law t) (C.noted t) y;
      names : (y : Basis) → StaysGood (C.alone s) (C.law s) (C.noted s) (C.alone t) (C.law t) (C.noted t) y;
      quiet : Becomes (C.alone s) (C.noted s) (C.noted t) Grows;
      same : C.same s t;
    }

abbrev pub decreases-loop-waiting : goal.decreases-loop-waiting
decreases-loop-waiting g l = vec_len l.below

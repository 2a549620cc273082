use Rattle.std.proofs.Common.{◌≡◌, ℕ, ◌+◌}
use Rattle.lawful_works.specs.Basis.{Governs}
use Rattle.lawful_works.specs.Named.{StaysGood}
use Rattle.lawful_works.specs.Alone.{Becomes, Quiets}
use Rattle.eval_stack.specs.Stack.{basis_of, stack_claims, lowest, StackOn}
use Rattle.eval_stack.proofs.looping.turns.Given as goal

abbrev pub invariant-loop-turn : goal.invariant-loop-turn
invariant-loop-turn g l =
    let C = g.C.Cells in
    let s = l.initial.cells in
    let t = l.cells in
    let table = g.R.Rules.table in
    record {
      ready : C.ready t;
      stack : StackOn g.R.Rule.running table l.setting (C.seen t) (C.held t) l.stack;
      lowest_same : lowest l.stack.below.items l.stack.top.work ≡ lowest l.initial.stack.below.items l.initial.stack.top.work;
      held : (c : ℕ) → C.held t c + stack_claims l.initial.stack c ≡ C.held s c + stack_claims l.stack c;
      law : Governs (C.alone t) (C.law t) (C.noted t) (basis_of table l.setting);
      names : StaysGood (C.alone s) (C.law s) (C.noted s) (C.alone t) (C.law t) (C.noted t) (basis_of table l.setting);
      quiet : Becomes (C.alone s) (C.noted s) (C.noted t) Quiets;
      same : C.same s t;
    }

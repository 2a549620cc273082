use Rattle.std.proofs.Common.{◌≡◌, ℕ, ◌+◌, Bool, refl, sym, subst, ◌∙◌, arith}
use Rattle.cell_book.specs.Account.{Account}
use Rattle.seq_values.specs.Plain.{plain}
use Rattle.seq_ledger.specs.Walks.{FrontIn}
use Rattle.seq_ledger.proofs.Walking.{Leaves, passed_none, passed_more, leaves_all, leaves_less, leaves_some, short_at, within_more}
use Rattle.seq_ledger.proofs.walk.front.Goals as goal

pub loop-taken-init : goal.loop-taken-init
loop-taken-init g c =
    record {
      ready = c.requires.ready;
      leads = c.requires.leads;
      noted = λ a n. n;
      held = λ k. refl;
      same = g.met.C.Cells.same_self c.args.cells.now;
      within = omega arith;
      passed = λ a n. passed_none a c.args.value.now c.in_ok-at.at c.in_ok-at.ensures;
      left = leaves_all (g.C.Cells.noted c.args.cells.now) c.args.value.now c.in_ok-at.at c.in_ok-at.ensures c.requires.ends;
    }

pub loop-taken-preserved : goal.loop-taken-preserved
loop-taken-preserved g c =
    let inv = c.loop-taken.invariant in
    let s = c.in_ok-step.step in
    let next = c.in-At.next in
    let at = c.loop-taken.at in
    let took = c.in_ok-step.ensures in
    let count = c.loop-taken.count in
    record {
      ready = g.met.C.Cells.same_ready c.loop-taken.cells c.step_from.new.cells took.same inv.ready;
      leads = g.met.C.Cells.same_leads c.loop-taken.cells c.step_from.new.cells took.same ∙ inv.leads;
      noted = λ a n. took.noted a (inv.noted a n);
      held = λ k. took.held k ∙ inv.held k;
      same = g.met.C.Cells.same_further c.args.cells.now c.loop-taken.cells c.step_from.new.cells inv.same took.same;
      within = within_more count s.count c.loop-taken._taken inv.within (short_at s next c.in-At.is took.short);
      passed = λ a n. subst (λ u. (k : ℕ) (ended : Bool) → FrontIn a (plain u) k ended → FrontIn a (plain c.args.value.now) (count + s.count + k) ended) (sym c.in-At.next-is) (passed_more a (plain c.args.value.now) (plain at) s next count c.in-At.is (took.step a (inv.noted a n)) (inv.passed a n));
      left = subst (λ u. Leaves (g.C.Cells.noted c.args.cells.now) (plain u) (c.loop-taken._taken + 1)) (sym c.in-At.next-is) (leaves_less (g.C.Cells.noted c.args.cells.now) (plain at) s next c.loop-taken._taken c.in-At.is (λ a n. took.step a (inv.noted a n)) inv.left);
    }

pub unreachable-requires : goal.unreachable-requires
unreachable-requires g c = leaves_some (g.C.Cells.noted c.args.cells.now) (plain c.loop-taken.at) c.loop-taken._taken c.loop-taken-test.false c.loop-taken.invariant.left

use Rattle.std.proofs.Common.{◌≡◌, ℕ, ◌+◌, ◌≤◌, Some, None, sym, subst, ap, ◌∙◌, arith}
use Rattle.std.specs.Prelude.{slice_get}
use Rattle.std.specs.Option.{option_copied}
use Rattle.clj_script.specs.Seen.{seen}
use Rattle.seq_values.specs.Plain.{plain, plains}
use Rattle.cell_book.specs.Account.{Account}
use Rattle.seq_ledger.specs.Ledgers.{DefinesAt}
use Rattle.seq_ledger.proofs.Lines.{SoFar, all_forms, all_values, one_form_more, one_line_more, plain_at, plain_past}
use Rattle.seq_ledger.proofs.text.append_definitions.Goals as goal
use Rattle.seq_ledger.proofs.text.append_definitions.Goals.{in-Some+in-Some-get+in_ok-append_definition-in-Some-get, in_default}

pub returns-in-None-clause-lines : goal.returns-in-None-clause-lines
returns-in-None-clause-lines g c =
    λ a n.
    let p = seen c.args.program.now in
    let at = subst (λ o. DefinesAt p.tops c.loop-before.before o) c.in-Some.is c.defined_at.ensures in
    let past : slice_get c.args.defined.now c.loop-before.done ≡ None = sym c.get.ensures ∙ ap option_copied c.in-None.is in
    all_values a p.names p.tops (plains c.args.defined.now) c.args.line.now c.loop-before.line c.loop-before.before c.loop-before.done c.in-Some.name at.0 at.1 (plain_past c.args.defined.now c.loop-before.done past) (c.loop-before.invariant.lines a n)

pub loop-before-preserved : goal.loop-before-preserved
loop-before-preserved g c =
    let inv = c.loop-before.invariant in
    let p = seen c.args.program.now in
    let vs = plains c.args.defined.now in
    let C = g.C.Cells in
    let old = c.args.line.now in
    let forms = c.loop-before.before in
    let done = c.loop-before.done in
    elim c.match-defined_at.branch [
      | in-Some+in-Some-get+in_ok-append_definition-in-Some-get w ↦
          let is = w.cells-is in
          let new = w.append_definition.new.cells in
          let took = w.append_definition.ensures in
          let ok = w.in_ok-append_definition-in-Some-get.ensures in
          let at = subst (λ o. DefinesAt p.tops forms o) w.in-Some.is c.defined_at.ensures in
          let v = w.in-Some-get.value.now in
          let here : slice_get c.args.defined.now done ≡ Some v = sym w.get.ensures ∙ ap option_copied w.in-Some-get.is in
          record {
            ready = subst (λ x. C.ready x) (sym is) (g.met.C.Cells.same_ready c.loop-before.cells new took.same inv.ready);
            leads = ap C.leads is ∙ (g.met.C.Cells.same_leads c.loop-before.cells new took.same ∙ inv.leads);
            noted = λ a n. subst (λ x. C.noted x a) (sym is) (took.noted a (inv.noted a n));
            held = λ k. ap (λ x. C.held x k) is ∙ (took.held k ∙ inv.held k);
            same = subst (λ x. C.same c.args.cells.now x) (sym is) (g.met.C.Cells.same_further c.args.cells.now c.loop-before.cells new inv.same took.same);
            few = omega arith;
            lines = λ a n.
                let so = one_line_more a p.names p.tops vs old c.loop-before.line w.append_definition.new.line forms done w.in-Some.name at.0 (plain v) at.1 (plain_at c.args.defined.now done v here) (ok.lines a (inv.noted a n)) (inv.lines a n) in
                subst (λ l. SoFar a p.names p.tops vs old l (forms + 1) c.match-defined_at.done) (sym w.line-is) (subst (λ d. SoFar a p.names p.tops vs old w.append_definition.new.line (forms + 1) d) (sym w.done-is) so);
          }
      | in_default w ↦
          let is = w.cells-is in
          let at = subst (λ o. DefinesAt p.tops forms o) w.in_default.is c.defined_at.ensures in
          record {
            ready = subst (λ x. C.ready x) (sym is) inv.ready;
            leads = ap C.leads is ∙ inv.leads;
            noted = λ a n. subst (λ x. C.noted x a) (sym is) (inv.noted a n);
            held = λ k. ap (λ x. C.held x k) is ∙ inv.held k;
            same = subst (λ x. C.same c.args.cells.now x) (sym is) inv.same;
            few = omega arith;
            lines = λ a n.
                let so = one_form_more a p.names p.tops vs old c.loop-before.line forms done at.0 at.1 at.2 (inv.lines a n) in
                subst (λ l. SoFar a p.names p.tops vs old l (forms + 1) c.match-defined_at.done) (sym w.line-is) (subst (λ d. SoFar a p.names p.tops vs old c.loop-before.line (forms + 1) d) (sym w.done-is) so);
          }
    ]

pub returns-clause-lines : goal.returns-clause-lines
returns-clause-lines g c = λ a n. all_forms a (seen c.args.program.now).names (seen c.args.program.now).tops (plains c.args.defined.now) c.args.line.now c.loop-before.line c.loop-before.before c.loop-before.done (omega arith) (c.loop-before.invariant.lines a n)

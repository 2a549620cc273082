use Rattle.std.proofs.Common.{◌++◌, ◌∷◌, [], length, sym, ap, ◌∙◌, arith}
use Rattle.std.specs.Prelude.{unwrap_or}
use Rattle.seq_values.specs.declared.value.Value.TheVariants.{Nil}
use Rattle.cell_book.proofs.Lists.{length_push}
use Rattle.cell_book.proofs.Values.{take_next}
use Rattle.cell_book.proofs.settled.outcomes_of.Goals as goal

pub loop-at-preserved : goal.loop-at-preserved
loop-at-preserved c =
    let f = c.index-forms-at.result in
    let v = unwrap_or f.value Nil in
    let e = c.in_ok-outcomes-2.ensures in
    let i = c.loop-at.invariant in
    let l0 = i.long in
    let l1 = length_push c.loop-at.outcomes v in
    let l2 = ap length e in record {
      long = omega arith;
      first = e ∙ (ap (λ l. l ++ v ∷ []) i.first ∙ sym (take_next c.args.forms.now c.loop-at.at f c.loop-at-test.true c.index-forms-at.is));
    }

use Rattle.std.proofs.Common.{◌≡◌, ◌-◌, ◌∷◌, ◌++◌, [], length, refl, sym, ap, ◌∙◌, arith, Some}
use Rattle.std.specs.Prelude.{slice_get, slice_set}
use Rattle.std.proofs.lemmas.Option.{slice_get_read, same_Some}
use Rattle.cell_book.specs.declared.cell.Attempt.{Attempt as Record}
use Rattle.cell_book.proofs.Lists.{set_last, get_last, length_push}
use Rattle.cell_book.proofs.attempts.Attempts.end_last.Goals as goal

pub returns-then-count-gt0 : goal.returns-then-count-gt0
returns-then-count-gt0 c = λ past last e. (
    let v = c.self.view_is in
    let n = c.len-count.result - 1 in
    let is : c.self.inside.items.items ≡ past ++ last ∷ [] = v ∙ e in
    let l = length_push past last in
    let k : length c.self.inside.items.items ≡ length (past ++ last ∷ []) = ap length is in
    let w = c.len-count.ensures in
    let m : n ≡ length past = omega arith in
    let x = c.index_mut.result.now in
    let r : slice_get c.self.inside.items.items n ≡ Some x = slice_get_read c.self.inside.items.items (length c.self.inside.items.items) n x refl (omega arith) c.index_mut.ensures.value in
    let s : x ≡ last = same_Some x last (sym r ∙ (ap (λ z. slice_get z n) is ∙ get_last past last n m)) in
    let y : Record = record { claim = x.claim; asker = x.asker; end = c.args.end } in
    ap (λ z. slice_set z n y) is ∙ (set_last past last y n m ∙ ap (λ (z : Record). past ++ record { claim = z.claim; asker = z.asker; end = c.args.end } ∷ []) s))

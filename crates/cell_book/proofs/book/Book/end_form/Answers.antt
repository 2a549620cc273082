use Rattle.std.proofs.Common.{◌≡◌, ℕ, Some, sym, ap, ◌∙◌, subst}
use Rattle.std.specs.Prelude.{slice_get, slice_set}
use Rattle.cell_book.specs.declared.cell.Form.{Form}
use Rattle.cell_book.specs.Account.{Account, closed}
use Rattle.cell_book.specs.Steps.{with_form, begun_form}
use Rattle.cell_book.proofs.Calls.{form_is}
use Rattle.cell_book.proofs.Wholes.{form_whole_as}
use Rattle.cell_book.proofs.book.Book.end_form.Goals as goal

pub invariant_of-self : goal.invariant_of-self
invariant_of-self c =
    let v = c.self.view_is in
    let b = subst (λ (z : Account). (number : ℕ) × (slice_get z.forms c.args.at ≡ Some (begun_form number c.args.claim))) (sym v) c.requires.begun in
    form_whole_as _ _ _ _ _ _ _ _ _ _ c.args.at c.args.claim c.args.end c.args.value c.index_mut.result.now c.end.new.self c.self.invariant b c.requires.ended c.index_mut.ensures.value c.end.ensures c.forget_from.ensures c.close.ensures

pub returns : goal.returns
returns c = λ number at. (
    let v = c.self.view_is in
    let claim = c.args.claim in
    let at2 = subst (λ (z : Account). slice_get z.forms c.args.at ≡ Some (begun_form number claim)) (sym v) at in
    let e = form_is (record { limit = c.self.inside.limit; cells = c.self.inside.cells.items; forms = c.self.inside.forms.items; spent = c.self.inside.spent; gave_up = c.self.inside.gave_up }) c.args.at number claim c.args.end c.args.value c.index_mut.result.now c.end.new.self at2 c.index_mut.ensures.value c.end.ensures in
    (at, ap (λ (x : Form). record { limit = c.self.inside.limit; cells = c.self.inside.cells.items; forms = slice_set c.self.inside.forms.items c.args.at x; spent = c.self.inside.spent; gave_up = c.self.inside.gave_up }) e ∙ ap (λ (z : Account). with_form z c.args.at (record { number = number; attempt = closed claim Rattle.std.specs.Prelude.None c.args.end; value = c.args.value })) v))

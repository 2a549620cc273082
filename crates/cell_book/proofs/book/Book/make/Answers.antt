use Rattle.std.proofs.Common.{◌≡◌, ◌++◌, ◌∷◌, [], ℕ, List, ◌+◌, length, sym, ap, ◌∙◌, subst, arith}
use Rattle.cell_book.specs.Account.{Account, Duty, made_by}
use Rattle.cell_book.specs.Steps.{fresh_cell, HasCount, IsOpenIn}
use Rattle.cell_book.proofs.Calls.{open_counted}
use Rattle.cell_book.proofs.Wholes.{noted_whole, made_whole_as}
use Rattle.cell_book.proofs.book.Book.make.Goals as goal

pub invariant_of-self : goal.invariant_of-self
invariant_of-self c = noted_whole _ _ _ _ _ _ _ _ _ _ c.self.invariant

pub count_make-requires : goal.count_make-requires
count_make-requires c =
    let v = c.self.view_is in
    let u = c.by.view_is in
    let s = c.self.inside in
    let o = subst (λ (z : Account × Duty). IsOpenIn z.0 z.1) (λ i. (sym v i, sym u i)) c.requires.open in
    subst (λ (l : List ℕ). HasCount c.by.inside.place l s.form_makes.items) (sym (c.in_ok-add_cell.ensures.ok.1)) (open_counted _ s.cell_makes.items s.form_makes.items (record { place = c.by.inside.place; claim = c.by.inside.claim; outcomes = c.by.inside.outcomes }) c.self.invariant.kept.makes o)

pub invariant_of-self-2 : goal.invariant_of-self-2
invariant_of-self-2 c =
    let v = c.self.view_is in
    let u = c.by.view_is in
    let s = c.self.inside in
    let n = c.made_so_far-made.result in
    let o = subst (λ (z : Account × Duty). IsOpenIn z.0 z.1) (λ i. (sym v i, sym u i)) c.requires.open in
    let m = subst (λ (z : Account × Duty). n ≡ length (made_by z.1.claim z.0)) (λ i. (sym v i, sym u i)) c.made_so_far-made.ensures in
    let w = c.self.invariant.kept.sound.within in
    let l = c.len-count.ensures in
    let d = c.if-count-self.false in
    let ok = c.in_ok-add_cell.ensures.ok in
    let cell = c.in_ok-cell.ensures ∙ (ap (λ (x : Duty). fresh_cell x c.args.term c.args.kind (n + 1)) (sym u) ∙ ap (λ (k : ℕ). fresh_cell (record { place = c.by.inside.place; claim = c.by.inside.claim; outcomes = c.by.inside.outcomes }) c.args.term c.args.kind (k + 1)) m) in
    made_whole_as _ s.cell_makes.items s.form_makes.items s.settled s.claims s.first_future s.realised s.failed (n + 1) (record { place = c.by.inside.place; claim = c.by.inside.claim; outcomes = c.by.inside.outcomes }) c.args.term c.args.kind _ _ _ _ c.self.invariant o (omega arith) (ap (λ (k : ℕ). k + 1) m)
    (ok.0 ∙ ap (λ x. s.cells.items ++ x ∷ []) cell) ok.1 c.count_make.ensures.cells c.count_make.ensures.forms

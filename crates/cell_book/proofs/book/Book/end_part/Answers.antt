use Rattle.std.proofs.Common.{◌≡◌, ◌+◌, ℕ, List, Option, Some, sym, ap, ◌∙◌, subst, arith, refl}
use Rattle.cell_book.specs.declared.cell.Cell.{Cell}
use Rattle.cell_book.specs.declared.cell.Attempt.{Attempt}
use Rattle.cell_book.specs.Account.{Account, cell_at}
use Rattle.cell_book.specs.Counts.{is_done, is_error}
use Rattle.cell_book.specs.Steps.{with_cell, after_claim, HasOpen}
use Rattle.cell_book.proofs.Calls.{end_returns, forced_within}
use Rattle.cell_book.proofs.Counting.{one_most, failed_most}
use Rattle.cell_book.proofs.Wholes.{ended_whole_as, forced_room}
use Rattle.cell_book.proofs.book.Book.end_part.Goals as goal

pub overflow_add-self : goal.overflow_add-self
overflow_add-self c =
    let f = subst (λ (z : Account). (p : Cell) × (asker : Option ℕ) × (past : List Attempt) × (cell_at z c.args.id ≡ Some p) × HasOpen p c.args.claim asker past) (sym c.self.view_is) c.requires.forced in
    let r = forced_room _ _ _ _ _ _ _ _ c.args.id c.place_of-at.result c.args.claim c.self.invariant c.place_of-at.ensures f in
    let e = c.realised.ensures in
    let o = one_most (is_done c.args.state) in omega (arith, r, e, o)

pub overflow_add-self-2 : goal.overflow_add-self-2
overflow_add-self-2 c =
    let r = failed_most _ _ _ _ c.self.invariant.counted in
    let e = c.failed.ensures in
    let o = one_most (is_error c.args.end) in
    let n = c.len-claims.ensures in omega (arith, r, e, o, n)

pub index-requires : goal.index-requires
index-requires c =
    let f = subst (λ (z : Account). (p : Cell) × (asker : Option ℕ) × (past : List Attempt) × (cell_at z c.args.id ≡ Some p) × HasOpen p c.args.claim asker past) (sym c.self.view_is) c.requires.forced in
    let h = forced_within (record { limit = c.self.inside.limit; cells = c.self.inside.cells.items; forms = c.self.inside.forms.items; spent = c.self.inside.spent; gave_up = c.self.inside.gave_up }) c.args.id c.place_of-at.result c.args.claim c.place_of-at.ensures f in omega (arith, h)

pub index_mut-requires : goal.index_mut-requires
index_mut-requires c =
    let f = subst (λ (z : Account). (p : Cell) × (asker : Option ℕ) × (past : List Attempt) × (cell_at z c.args.id ≡ Some p) × HasOpen p c.args.claim asker past) (sym c.self.view_is) c.requires.forced in
    let h = forced_within (record { limit = c.self.inside.limit; cells = c.self.inside.cells.items; forms = c.self.inside.forms.items; spent = c.self.inside.spent; gave_up = c.self.inside.gave_up }) c.args.id c.place_of-at.result c.args.claim c.place_of-at.ensures f in omega (arith, h)

pub invariant_of-self : goal.invariant_of-self
invariant_of-self c =
    let f = subst (λ (z : Account). (p : Cell) × (asker : Option ℕ) × (past : List Attempt) × (cell_at z c.args.id ≡ Some p) × HasOpen p c.args.claim asker past) (sym c.self.view_is) c.requires.forced in
    ended_whole_as _ _ _ _ _ _ _ _ _ _ _ _ c.args.id c.place_of-at.result c.args.claim c.args.end c.args.state c.index.result.now c.index_mut.result.now c.end.new.self c.self.invariant c.place_of-at.ensures c.index.ensures c.index_mut.ensures.value c.end.ensures f c.requires.idle (ap (λ (n : ℕ). c.self.inside.realised + n) c.realised.ensures) (ap (λ (n : ℕ). c.self.inside.failed + n) c.failed.ensures) c.lowered-self-inside.ensures c.close.ensures

pub returns : goal.returns
returns c = λ p asker past at h. (
    let v = c.self.view_is in
    let e = end_returns _ c.args.id c.place_of-at.result c.args.claim asker past c.args.end c.args.state p c.index_mut.result.now c.end.new.self c.place_of-at.ensures c.index_mut.ensures.value c.end.ensures (subst (λ (z : Account). cell_at z c.args.id ≡ Some p) (sym v) at) h in
    e ∙ ap (λ (z : Account). with_cell z c.args.id (after_claim p c.args.claim asker past c.args.end c.args.state)) v)

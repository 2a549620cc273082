use Rattle.std.proofs.Common.{◌≡◌, ◌≢◌, ℕ, List, Some, sym, ap, ◌∙◌, subst, le_refl, get_or, length}
use Rattle.std.proofs.lemmas.Option.{same_Some}
use Rattle.seq_values.specs.declared.term.Term.{Term}
use Rattle.cell_book.specs.declared.work.Place.TheVariants as P
use Rattle.cell_book.specs.declared.answers.Look.TheVariants as L
use Rattle.cell_book.specs.declared.cell.Cell.{Cell}
use Rattle.cell_book.specs.Account.{Account, cell_at, IsFresh}
use Rattle.cell_book.specs.Steps.{with_cell, claimed, shown}
use Rattle.cell_book.proofs.Calls.{read_at, empty_within, is_empty_at, set_place}
use Rattle.cell_book.proofs.Wholes.{claimed_whole_as}
use Rattle.cell_book.proofs.book.Book.open.Goals as goal

pub invariant_of-self-2 : goal.invariant_of-self-2
invariant_of-self-2 c =
    let v = c.self.view_is in
    let s = c.self.inside in
    let a : Account = record { limit = c.self.inside.limit; cells = c.self.inside.cells.items; forms = c.self.inside.forms.items; spent = c.self.inside.spent; gave_up = c.self.inside.gave_up } in
    let e = subst (λ (z : Account). shown (cell_at z c.args.id) ≡ L.Empty) (sym v) c.requires.empty in
    let n = subst (λ (z : Account). (k : ℕ) → IsFresh z k → c.args.asker ≢ Some k) (sym v) c.requires.asker in
    let p = c.index.result.now in
    let at = read_at s.cells.items c.place_of-at.result p (empty_within a c.args.id c.place_of-at.result c.place_of-at.ensures e) c.index.ensures in
    let k = is_empty_at a c.args.id c.place_of-at.result p c.place_of-at.ensures at e in
    let ok = c.in_ok-open_cell.ensures.ok p at in
    claimed_whole_as a _ _ _ s.claims _ _ _ c.args.id c.place_of-at.result c.args.asker p _ _ c.self.invariant c.place_of-at.ensures at k.1 n (ok.0 ∙ ap (λ (z : Account). z.cells) (set_place a c.args.id c.place_of-at.result (claimed p (length s.claims) c.args.asker) c.place_of-at.ensures)) ok.1

pub returns : goal.returns
returns c =
    let v = c.self.view_is in
    let s = c.self.inside in
    let a : Account = record { limit = c.self.inside.limit; cells = c.self.inside.cells.items; forms = c.self.inside.forms.items; spent = c.self.inside.spent; gave_up = c.self.inside.gave_up } in
    let e = subst (λ (z : Account). shown (cell_at z c.args.id) ≡ L.Empty) (sym v) c.requires.empty in
    let p = c.index.result.now in
    let at = read_at s.cells.items c.place_of-at.result p (empty_within a c.args.id c.place_of-at.result c.place_of-at.ensures e) c.index.ensures in
    let k = is_empty_at a c.args.id c.place_of-at.result p c.place_of-at.ensures at e in
    let ok = c.in_ok-open_cell.ensures.ok p at in
    let i = c.place_of-at.result in
    let again = λ (x : Cell) (h : x ≡ get_or s.cells.items i x). same_Some x p (sym (read_at s.cells.items i x (empty_within a c.args.id i c.place_of-at.ensures e) h) ∙ at) in
    let f = c.self.invariant.kept.fresh (length s.claims) (le_refl (length s.claims)) in
    let n = c.len-claim.result in
    let is : n ≡ length s.claims = c.len-claim.ensures in
    let q : Cell = claimed p (length s.claims) c.args.asker in
    let b : record a { cells = c.open_cell.new.cells.items } ≡ with_cell a c.args.id q = ap (λ (l : List Cell). record a { cells = l }) ok.0 ∙ set_place a c.args.id i q c.place_of-at.ensures in (
      p,
      subst (λ (z : Account). cell_at z c.args.id ≡ Some p) v k.0,
      k.1,
      subst (λ (z : Account). IsFresh z n) v (subst (λ (m : ℕ). IsFresh a m) (sym is) f),
      ap (λ (t : Term). P.Part c.args.id p.kind t) (c.in_ok-term.ensures ∙ ap (λ (x : Cell). x.term) (again c.index-2.result.now c.index-2.ensures)),
      c.in_ok-outcomes.ensures ∙ ap (λ (x : Cell). x.outcomes) (again c.index-3.result.now c.index-3.ensures),
      b ∙ (ap (λ (m : ℕ). with_cell a c.args.id (claimed p m c.args.asker)) (sym is) ∙ ap (λ (z : Account). with_cell z c.args.id (claimed p n c.args.asker)) v),
    )

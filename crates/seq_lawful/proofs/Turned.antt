-- Turned steps leave no lawful book.
use Rattle.std.proofs.Common.{◌≡◌, ℕ, true, false, List, [], ◌∷◌, ◌++◌, Some, None, slice_get, refl, ap, sym, subst, ◌∙◌}
use Rattle.seq_base.specs.declared.thrown.Thrown.{Thrown}
use Rattle.seq_values.specs.declared.words.Kind.{Kind}
use Rattle.seq_values.specs.declared.words.Kind.TheVariants.{Lazy, Future}
use Rattle.clj_script.specs.Trees.{Program}
use Rattle.seq_plan.specs.Plan.{Rules}
use Rattle.cell_book.specs.declared.cell.State.{State}
use Rattle.cell_book.specs.declared.cell.State.TheVariants as S
use Rattle.cell_book.specs.declared.cell.ClaimEnd.TheVariants as E
use Rattle.cell_book.specs.declared.cell.Attempt.{Attempt}
use Rattle.cell_book.specs.declared.cell.Cell.{Cell}
use Rattle.cell_book.specs.declared.cell.Form.{Form}
use Rattle.cell_book.specs.declared.work.Place.{Place}
use Rattle.cell_book.specs.declared.work.Place.TheVariants as P
use Rattle.cell_book.specs.Account.{Account, Duty, cell_at, closed}
use Rattle.cell_book.specs.Steps.{begun_form, with_cell, with_form, after_claim, Ends, EndsPart, EndsForm}
use Rattle.cell_book.proofs.Lists.{set_here}
use Rattle.seq_meaning.specs.Names.{Name}
use Rattle.seq_meaning.specs.Counts.{IsIn}
use Rattle.seq_meaning.proofs.TrailsAlike.{at_back}
use Rattle.seq_lawful.specs.Sites.{at_form, at_cell, ClaimAt, on_form, on_cell, StateOf, so_empty, so_forcing, so_done, so_failed}
use Rattle.seq_lawful.specs.Lawful.{Lawful}
use Rattle.seq_lawful.proofs.Stepping.{put_same}

module _ (rules : Rules Name) (program : Program) (limit : ℕ) where
  abbrev Good : Account → Type 0
  Good a = Lawful rules program limit a

  unnoted_form : (a : Account) (k number claim : ℕ) → a.gave_up ≡ false → slice_get a.forms k ≡ Some (begun_form number claim) → ¬ (Good (with_form a k (record { number = number; attempt = closed claim None E.GivenUp; value = None })))
  unnoted_form a k number claim e at law =
      let f : Form = record { number = number; attempt = closed claim None E.GivenUp; value = None } in
      let z : a.gave_up ≡ true = law.noted (at_form k) (closed claim None E.GivenUp) (on_form (set_here a.forms k (begun_form number claim) f at) refl) refl in
      cc

  unnoted_part : (a : Account) (id claim : ℕ) (p q : Cell) (past : List Attempt) (x : Attempt) → a.gave_up ≡ false → cell_at a id ≡ Some p → q.attempts ≡ past ++ x ∷ [] → x.end ≡ E.GivenUp → ¬ (Good (with_cell a id q))
  unnoted_part a id claim p q past x e at is end law =
      let z : a.gave_up ≡ true = law.noted (at_cell id) x (on_cell (put_same a.cells id q p at) (subst (λ l. IsIn x l) (sym is) (at_back past x))) end in
      cc

  pub unnoted : (a b : Account) (w : Duty) → a.gave_up ≡ false → Ends a w E.GivenUp (λ k. S.Empty) None b → ¬ (Good b)
  unnoted a b w e ends law = go w.place ends
    where
      go : (x : Place) → Ends a (record w { place = x }) E.GivenUp (λ k. S.Empty) None b → ⊥
      go (P.Form number k) (at, eq) = unnoted_form a k number w.claim e at (subst Good eq law)
      go (P.Part id kind term) (p, asker, past, at, has, eq) = unnoted_part a id w.claim p (after_claim p w.claim asker past E.GivenUp S.Empty) past (closed w.claim asker E.GivenUp) e at refl refl (subst Good eq law)

  -- only a future fails for good
  is_future : {kind : Kind} {xs : List Attempt} {s : State} {why : Thrown} → StateOf kind xs s → s ≡ S.Failed why → kind ≡ Future
  is_future (so_empty all) e = absurd cc
  is_future (so_forcing past x is lost end) e = absurd cc
  is_future (so_done past x is lost end) e = absurd cc
  is_future (so_failed past x is lost future end) e = future

  pub stays_failed : (a b : Account) (id claim : ℕ) (p : Cell) (why : Thrown) → cell_at a id ≡ Some p → p.kind ≡ Lazy → EndsPart a id claim (E.Error why) (λ k. S.Failed why) b → ¬ (Good b)
  stays_failed a b id claim p why at lazy (q, asker, past, there, has, eq) law =
      let same : p ≡ q = (let x = there in cc) in
      let r : Cell = after_claim q claim asker past (E.Error why) (S.Failed why) in
      let future : q.kind ≡ Future = is_future ((subst Good eq law).states id r (put_same a.cells id r q there)) refl in
      let k : q.kind ≡ Lazy = ap (λ (z : Cell). z.kind) (sym same) ∙ lazy in
      cc

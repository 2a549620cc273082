-- A lawful book in which no claim is open.
use Rattle.std.proofs.Common.{◌≡◌, ◌⊎◌, inl, inr, ℕ, suc, ◌==◌, Bool, true, false, cond, List, length, Option, Some, Ok, slice_get, refl, ap, sym, subst, ◌∙◌, arith, eq-eqb}
use Rattle.seq_values.specs.declared.words.Kind.{Kind}
use Rattle.clj_script.specs.Trees.{Program}
use Rattle.seq_plan.specs.Plan.{Rules}
use Rattle.cell_book.specs.declared.cell.State.{State}
use Rattle.cell_book.specs.declared.cell.State.TheVariants as S
use Rattle.cell_book.specs.declared.cell.ClaimEnd.{ClaimEnd}
use Rattle.cell_book.specs.declared.cell.ClaimEnd.TheVariants as E
use Rattle.cell_book.specs.declared.cell.Attempt.{Attempt}
use Rattle.cell_book.specs.declared.cell.Cell.{Cell}
use Rattle.cell_book.specs.declared.cell.Form.{Form}
use Rattle.cell_book.specs.Account.{Account, Duty, cell_at, is_open, forces, runs, opens, begun}
use Rattle.cell_book.specs.Steps.{Begins, Claims, IsOpenFuture}
use Rattle.cell_book.proofs.Lists.{counts_one, counts_none}
use Rattle.cell_book.proofs.Opening.{at_claim_same, at_claim_other, numbered_some}
use Rattle.cell_book.proofs.Stepping.{begins_opens, claims_opens}
use Rattle.seq_meaning.specs.Names.{Name}
use Rattle.seq_meaning.specs.Counts.{IsIn}
use Rattle.seq_lawful.specs.Sites.{Site, at_form, at_cell, ClaimAt, on_form, on_cell, Lost, lost_given_up, lost_failed, StateOf, so_empty, so_forcing, so_done, so_failed}
use Rattle.seq_lawful.specs.Lawful.{Lawful}
use Rattle.seq_lawful.specs.Rest.{IsOver, over_value, over_error, AtRest}
use Rattle.seq_lawful.proofs.Begun.{begun_long}
use Rattle.seq_lawful.proofs.Looking.{last_is, in_split}
use Rattle.seq_lawful.proofs.RestAnswers.{rests}
use Rattle.lawful_works.specs.Evaluated.{IsOnly}

pub over_closed : {e : ClaimEnd} → IsOver e → is_open e ≡ false
over_closed over_value = refl
over_closed over_error = refl

lost_closed : {kind : Kind} {x : Attempt} → Lost kind x → is_open x.end ≡ true → ⊥
lost_closed (lost_given_up q) z = let y = ap is_open q in cc
lost_closed (lost_failed k q) z = let y = ap is_open q in cc

ended_closed : {x y : Attempt} (e : ClaimEnd) → y ≡ x → y.end ≡ e → is_open e ≡ false → is_open x.end ≡ true → ⊥
ended_closed e same q c z = let y = ap (λ (w : Attempt). is_open w.end) same in let u = ap is_open q in cc

-- an open attempt forces its cell
forces_cell : {kind : Kind} {attempts : List Attempt} {s : State} (x : Attempt) → StateOf kind attempts s → IsIn x attempts → is_open x.end ≡ true → s ≡ S.Forcing x.claim
forces_cell x (so_empty lost) h z = absurd (lost_closed (lost x h) z)
forces_cell {kind = kind} x (so_forcing past y p lost q) h z = at (in_split past y x (subst (λ l. IsIn x l) p h))
  where
    at : IsIn x past ⊎ (y ≡ x) → S.Forcing y.claim ≡ S.Forcing x.claim
    at (inl k) = absurd (lost_closed (lost x k) z)
    at (inr same) = ap (λ (w : Attempt). S.Forcing w.claim) same
forces_cell x (so_done {v = v} past y p lost q) h z = at (in_split past y x (subst (λ l. IsIn x l) p h))
  where
    at : IsIn x past ⊎ (y ≡ x) → S.Done v ≡ S.Forcing x.claim
    at (inl k) = absurd (lost_closed (lost x k) z)
    at (inr same) = absurd (ended_closed E.Value same q refl z)
forces_cell x (so_failed {why = why} past y p lost k q) h z = at (in_split past y x (subst (λ l. IsIn x l) p h))
  where
    at : IsIn x past ⊎ (y ≡ x) → S.Failed why ≡ S.Forcing x.claim
    at (inl j) = absurd (lost_closed (lost x j) z)
    at (inr same) = absurd (ended_closed (E.Error why) same q refl z)

module _ (rules : Rules Name) (program : Program) (limit : ℕ) (a : Account) (law : Lawful rules program limit a) where
  module _ (closed : (c : ℕ) → opens c a ≡ 0) where
    form_counted : (k : ℕ) (f : Form) (x : Attempt) → slice_get a.forms k ≡ Some f → f.attempt ≡ x → is_open x.end ≡ true → ⊥
    form_counted k f x e q z =
        let r : runs x.claim f.attempt ≡ true = ap (runs x.claim) q ∙ (ap (λ (b : Bool). cond b (x.claim == x.claim) false) z ∙ eq-eqb x.claim x.claim refl) in
        let n = counts_one (λ (g : Form). runs x.claim g.attempt) a.forms k f e r in
        let o = closed x.claim in
        absurd (omega arith)

    cell_counted : (id : ℕ) (p : Cell) (x : Attempt) → cell_at a id ≡ Some p → IsIn x p.attempts → is_open x.end ≡ true → ⊥
    cell_counted id p x e h z =
        let s : p.state ≡ S.Forcing x.claim = forces_cell x (law.states id p e) h z in
        let i = numbered_some a.cells id p e in
        let n = counts_one (λ (q : Cell). forces x.claim q.state) a.cells i.0 p i.2 (ap (forces x.claim) s ∙ eq-eqb x.claim x.claim refl) in
        let o = closed x.claim in
        absurd (omega arith)

    claim_open : (s : Site) (x : Attempt) → ClaimAt a s x → is_open x.end ≡ true → ⊥
    claim_open s x (on_form {k = k} {f = f} e q) z = form_counted k f x e q z
    claim_open s x (on_cell {id = id} {p = p} e h) z = cell_counted id p x e h z

    not_true : (b : Bool) → (b ≡ true → ⊥) → b ≡ false
    not_true true n = absurd (n refl)
    not_true false n = refl

    pub quiet_rests : ((id : ℕ) → ¬ (IsOpenFuture a id)) → a.spent ≡ false → a.gave_up ≡ false → AtRest a
    quiet_rests none spent gave_up = rests rules program limit a law (λ s x h. not_true (is_open x.end) (claim_open s x h)) (λ id p e k s. none id (p, e, k, s)) spent gave_up

  module _ (rest : AtRest a) where
    not_forced : (c : ℕ) (id : ℕ) (p : Cell) (s : State) → cell_at a id ≡ Some p → StateOf p.kind p.attempts s → forces c s ≡ false
    not_forced c id p _ e (so_empty lost) = refl
    not_forced c id p _ e (so_forcing past x q lost o) =
        let h : IsIn x p.attempts = subst (λ l. IsIn x l) (sym q) (last_is past x) in
        let y = over_closed (rest.all_over (at_cell id) x (on_cell e h)) in
        let z = ap is_open o in
        absurd cc
    not_forced c id p _ e (so_done past x q lost o) = refl
    not_forced c id p _ e (so_failed past x q lost k o) = refl

    pub rest_closed : (c : ℕ) → opens c a ≡ 0
    rest_closed c =
        let x = counts_none (λ (p : Cell). forces c p.state) a.cells (λ i p e. not_forced c (suc i) p p.state e (law.states (suc i) p e)) in
        let y = counts_none (λ (f : Form). runs c f.attempt) a.forms (λ k f e. ap (λ (b : Bool). cond b (f.attempt.claim == c) false) (over_closed (rest.all_over (at_form k) f.attempt (on_form e refl)))) in
        omega arith

-- the claim of a work that is opened in such a book is the only open one
pub begun_only : (a b : Account) (number : ℕ) (w : Duty) → ((c : ℕ) → opens c a ≡ 0) → Begins a number (Ok w) b → IsOnly b w
begun_only a b number w closed s = record {
  own = (let x = begins_opens a b number (Ok w) s w.claim in let y = closed w.claim in let z = at_claim_same w.claim w.claim refl in omega arith);
  others = λ c n. (let x = begins_opens a b number (Ok w) s c in let y = closed c in let z = at_claim_other w.claim c (λ e. n (sym e)) in omega arith);
}

pub claimed_only : (a b : Account) (id : ℕ) (asker : Option ℕ) (w : Duty) → ((c : ℕ) → opens c a ≡ 0) → Claims a id asker (Ok w) b → IsOnly b w
claimed_only a b id asker w closed s = record {
  own = (let x = claims_opens a b id asker (Ok w) s w.claim in let y = closed w.claim in let z = at_claim_same w.claim w.claim refl in omega arith);
  others = λ c n. (let x = claims_opens a b id asker (Ok w) s c in let y = closed c in let z = at_claim_other w.claim c (λ e. n (sym e)) in omega arith);
}

pub begun_counts : (a b : Account) → begun b ≡ begun a → length b.forms ≡ length a.forms
begun_counts a b e = sym (begun_long b.forms) ∙ (ap length e ∙ begun_long a.forms)

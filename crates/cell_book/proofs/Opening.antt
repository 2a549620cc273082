-- How often claims are open after each step, and that books stay sound.
use Rattle.std.proofs.Common.{◌≡◌, ◌≢◌, ℕ, zero, suc, ◌+◌, ◌<◌, ◌≤◌, ◌==◌, Bool, true, false, cond, List, [], ◌∷◌, ◌++◌, length, Some, None, Option, refl, ap, subst, ◌∙◌, arith, ◌⊎◌, inl, inr, eq-eqb, ne_eqb}
use Rattle.std.specs.Prelude.{slice_get}
use Rattle.std.proofs.lemmas.Option.{none-some}
use Rattle.seq_values.specs.declared.value.Value.{Value}
use Rattle.seq_values.specs.declared.term.Term.{Term}
use Rattle.seq_values.specs.declared.words.Kind.{Kind}
use Rattle.cell_book.specs.declared.cell.State.{State}
use Rattle.cell_book.specs.declared.cell.State.TheVariants as S
use Rattle.cell_book.specs.declared.cell.ClaimEnd.{ClaimEnd}
use Rattle.cell_book.specs.declared.cell.Attempt.{Attempt}
use Rattle.cell_book.specs.declared.cell.Cell.{Cell}
use Rattle.cell_book.specs.declared.cell.Form.{Form}
use Rattle.cell_book.specs.Account.{Account, Duty, numbered, cell_at, closed, is_open, forces, runs, opens, made_by, made_from, is_asker, asked_by, asked_at, IsFresh, IsSound}
use Rattle.cell_book.specs.Steps.{renumbered, with_cell, with_form, begun_form, new_cell, claimed, after_claim, HasOpen}
use Rattle.cell_book.specs.Glimpses.{at_claim}
use Rattle.cell_book.proofs.Lists.{count_push, count_set, counts_one, counts_two, counts_none, is_one, is_none, length_set, length_push}

pub at_claim_same : (d c : ℕ) → d ≡ c → at_claim d c ≡ 1
at_claim_same d c e = is_one (d == c) (eq-eqb d c e)

pub at_claim_other : (d c : ℕ) → d ≢ c → at_claim d c ≡ 0
at_claim_other d c n = is_none (d == c) (ne_eqb d c n)

abbrev cells_open : ℕ → Cell → Bool
cells_open c p = forces c p.state

abbrev forms_open : ℕ → Form → Bool
forms_open c f = runs c f.attempt

-- the place of a cell with a number
pub numbered_some : (cells : List Cell) (id : ℕ) (p : Cell) → numbered cells id ≡ Some p → (i : ℕ) × (id ≡ suc i) × (slice_get cells i ≡ Some p)
numbered_some cells zero p e = absurd (none-some p e)
numbered_some cells (suc i) p e = (i, refl, e)

pub begun_opens : (a : Account) (number claim c : ℕ) → opens c (record a { forms = a.forms ++ begun_form number claim ∷ [] }) ≡ at_claim claim c + opens c a
begun_opens a number claim c = let e = count_push (forms_open c) a.forms (begun_form number claim) in omega arith

pub made_opens : (a : Account) (by : Duty) (t : Term) (k : Kind) (c : ℕ) → opens c (record a { cells = a.cells ++ new_cell a by t k ∷ [] }) ≡ opens c a
made_opens a by t k c = let e = count_push (cells_open c) a.cells (new_cell a by t k) in omega arith

pub claimed_opens : (a : Account) (id claim : ℕ) (asker : Option ℕ) (p : Cell) (c : ℕ) → cell_at a id ≡ Some p → p.state ≡ S.Empty → opens c (with_cell a id (claimed p claim asker)) ≡ at_claim claim c + opens c a
claimed_opens a zero claim asker p c at e = absurd (none-some p at)
claimed_opens a (suc i) claim asker p c at e =
    let k = count_set (cells_open c) a.cells i p (claimed p claim asker) at in
    let z = is_none (forces c p.state) (ap (forces c) e) in omega arith

pub ended_opens : (a : Account) (id claim : ℕ) (asker : Option ℕ) (past : List Attempt) (end : ClaimEnd) (state : State) (p : Cell) (c : ℕ) → cell_at a id ≡ Some p → HasOpen p claim asker past → forces c state ≡ false →
    opens c (with_cell a id (after_claim p claim asker past end state)) + at_claim claim c ≡ opens c a
ended_opens a zero claim asker past end state p c at h n = absurd (none-some p at)
ended_opens a (suc i) claim asker past end state p c at h n =
    let k = count_set (cells_open c) a.cells i p (after_claim p claim asker past end state) at in
    let z = is_none (forces c state) n in
    let o : ◌≡◌ {A = ℕ} (cond (forces c p.state) 1 0) (at_claim claim c) = ap (λ (s : State). cond (forces c s) 1 0) h.state in omega arith

pub form_opens : (a : Account) (k number claim : ℕ) (end : ClaimEnd) (value : Option Value) (c : ℕ) → slice_get a.forms k ≡ Some (begun_form number claim) → is_open end ≡ false →
    opens c (with_form a k (record { number = number; attempt = closed claim None end; value = value })) + at_claim claim c ≡ opens c a
form_opens a k number claim end value c at n =
    let q : Form = record { number = number; attempt = closed claim None end; value = value } in
    let e = count_set (forms_open c) a.forms k (begun_form number claim) q at in
    let z = is_none (runs c q.attempt) (ap (λ (b : Bool). cond b (claim == c) false) n) in omega arith

-- a fresh number
pub forces_other : (c : ℕ) (s : State) → s ≢ S.Forcing c → forces c s ≡ false
forces_other c S.Empty n = refl
forces_other c (S.Forcing d) n = ne_eqb d c (λ e. n (ap S.Forcing e))
forces_other c (S.Done v) n = refl
forces_other c (S.Failed why) n = refl

pub forces_same : (c d : ℕ) → d ≡ c → forces c (S.Forcing d) ≡ true
forces_same c d e = eq-eqb d c e

runs_other : (b : Bool) (d c : ℕ) → d ≢ c → cond b (d == c) false ≡ false
runs_other true d c n = ne_eqb d c n
runs_other false d c n = refl

pub fresh_opens : (a : Account) (c : ℕ) → IsFresh a c → opens c a ≡ 0
fresh_opens a c f =
    let x = counts_none (cells_open c) a.cells (λ i p e. forces_other c p.state ((f.cells i p e).state)) in
    let y = counts_none (forms_open c) a.forms (λ k g e. runs_other (is_open g.attempt.end) g.attempt.claim c ((f.forms k g e).0)) in omega arith

fresh_from : (c n : ℕ) (cells : List Cell) → ((i : ℕ) (p : Cell) → slice_get cells i ≡ Some p → p.maker ≢ c) → made_from c cells n ≡ []
fresh_from c n [] f = refl
fresh_from c n (p ∷ ps) f =
    let e = fresh_from c (suc n) ps (λ i q h. f (suc i) q h) in
    ap (λ (t : Bool). cond t (n ∷ made_from c ps (suc n)) (made_from c ps (suc n))) (ne_eqb p.maker c (f 0 p refl)) ∙ e

pub fresh_made : (a : Account) (c : ℕ) → IsFresh a c → made_by c a ≡ []
fresh_made a c f = fresh_from c 1 a.cells (λ i p e. (f.cells i p e).maker)

asked_none : (c : ℕ) (xs : List Attempt) → ((i : ℕ) (x : Attempt) → slice_get xs i ≡ Some x → x.asker ≢ Some c) → asked_by c xs ≡ []
asked_none c [] f = refl
asked_none c (x ∷ xs) f =
    let e = asked_none c xs (λ i y h. f (suc i) y h) in
    ap (λ (t : Bool). cond t (x ∷ asked_by c xs) (asked_by c xs)) (asker_other x.asker (f 0 x refl)) ∙ e
  where
    asker_other : (o : Option ℕ) → o ≢ Some c → is_asker c o ≡ false
    asker_other None n = refl
    asker_other (Some d) n = ne_eqb d c (λ e. n (ap Some e))

-- a fresh claim asked for nothing
pub fresh_asked : (a : Account) (c : ℕ) → IsFresh a c → (id : ℕ) → asked_at c (cell_at a id) ≡ []
fresh_asked a c f zero = refl
fresh_asked a c f (suc i) = at (slice_get a.cells i) refl
  where
    at : (o : Option Cell) → slice_get a.cells i ≡ o → asked_at c o ≡ []
    at None e = refl
    at (Some p) e = asked_none c p.attempts (λ j x h. ((f.cells i p e).attempts j x h).1)

-- two places that one claim has open
pub one_cell : (a : Account) (c i j : ℕ) (p q : Cell) → IsSound a → slice_get a.cells i ≡ Some p → slice_get a.cells j ≡ Some q → p.state ≡ S.Forcing c → q.state ≡ S.Forcing c → i ≢ j → ⊥
one_cell a c i j p q s e g x y n =
    let k = counts_two (cells_open c) a.cells i j p q n e g (ap (forces c) x ∙ forces_same c c refl) (ap (forces c) y ∙ forces_same c c refl) in
    let o = s.once c in absurd (omega arith)

pub one_form : (a : Account) (c i j : ℕ) (n m : ℕ) → IsSound a → slice_get a.forms i ≡ Some (begun_form n c) → slice_get a.forms j ≡ Some (begun_form m c) → i ≢ j → ⊥
one_form a c i j n m s e g x =
    let k = counts_two (forms_open c) a.forms i j (begun_form n c) (begun_form m c) x e g (eq-eqb c c refl) (eq-eqb c c refl) in
    let o = s.once c in absurd (omega arith)

pub cell_or_form : (a : Account) (c i k n : ℕ) (p : Cell) → IsSound a → slice_get a.cells i ≡ Some p → p.state ≡ S.Forcing c → slice_get a.forms k ≡ Some (begun_form n c) → ⊥
cell_or_form a c i k n p s e x g =
    let u = counts_one (cells_open c) a.cells i p e (ap (forces c) x ∙ forces_same c c refl) in
    let v = counts_one (forms_open c) a.forms k (begun_form n c) g (eq-eqb c c refl) in
    let o = s.once c in absurd (omega arith)

-- books stay sound
pub begun_sound : (a : Account) (number claim : ℕ) → IsFresh a claim → IsSound a → IsSound (record a { forms = a.forms ++ begun_form number claim ∷ [] })
begun_sound a number claim f s = record { once = λ c. once c (same c); within = s.within }
  where
    same : (c : ℕ) → (claim ≡ c) ⊎ (claim ≢ c)
    same c = Rattle.cell_book.proofs.Lists.same_or claim c

    once : (c : ℕ) → (claim ≡ c) ⊎ (claim ≢ c) → opens c (record a { forms = a.forms ++ begun_form number claim ∷ [] }) ≤ 1
    once c (inl e) =
        let k = begun_opens a number claim c in
        let z = at_claim_same claim c e in
        let o : opens c a ≡ 0 = subst (λ (d : ℕ). opens d a ≡ 0) e (fresh_opens a claim f) in omega arith
    once c (inr n) =
        let k = begun_opens a number claim c in
        let z = at_claim_other claim c n in
        let o = s.once c in omega arith

pub made_sound : (a : Account) (by : Duty) (t : Term) (k : Kind) → length a.cells < a.limit → IsSound a → IsSound (record a { cells = a.cells ++ new_cell a by t k ∷ [] })
made_sound a by t k l s = record {
  once = λ c. (let e = made_opens a by t k c in let o = s.once c in omega arith);
  within = let e = length_push a.cells (new_cell a by t k) in omega arith;
}

pub renumbered_long : (cells : List Cell) (id : ℕ) (q : Cell) → length (renumbered cells id q) ≡ length cells
renumbered_long cells zero q = refl
renumbered_long cells (suc i) q = length_set cells i q

pub claimed_sound : (a : Account) (id claim : ℕ) (asker : Option ℕ) (p : Cell) → cell_at a id ≡ Some p → p.state ≡ S.Empty → IsFresh a claim → IsSound a → IsSound (with_cell a id (claimed p claim asker))
claimed_sound a id claim asker p at e f s = record { once = λ c. once c (Rattle.cell_book.proofs.Lists.same_or claim c); within = let l = renumbered_long a.cells id (claimed p claim asker) in let w = s.within in omega arith }
  where
    once : (c : ℕ) → (claim ≡ c) ⊎ (claim ≢ c) → opens c (with_cell a id (claimed p claim asker)) ≤ 1
    once c (inl g) =
        let k = claimed_opens a id claim asker p c at e in
        let z = at_claim_same claim c g in
        let o : opens c a ≡ 0 = subst (λ (d : ℕ). opens d a ≡ 0) g (fresh_opens a claim f) in omega arith
    once c (inr n) =
        let k = claimed_opens a id claim asker p c at e in
        let z = at_claim_other claim c n in
        let o = s.once c in omega arith

pub ended_sound : (a : Account) (id claim : ℕ) (asker : Option ℕ) (past : List Attempt) (end : ClaimEnd) (state : State) (p : Cell) → cell_at a id ≡ Some p → HasOpen p claim asker past → ((c : ℕ) → forces c state ≡ false) → IsSound a →
    IsSound (with_cell a id (after_claim p claim asker past end state))
ended_sound a id claim asker past end state p at h n s = record {
  once = λ c. (let k = ended_opens a id claim asker past end state p c at h (n c) in let o = s.once c in omega arith);
  within = let l = renumbered_long a.cells id (after_claim p claim asker past end state) in let w = s.within in omega arith;
}

pub form_sound : (a : Account) (k number claim : ℕ) (end : ClaimEnd) (value : Option Value) → slice_get a.forms k ≡ Some (begun_form number claim) → is_open end ≡ false → IsSound a →
    IsSound (with_form a k (record { number = number; attempt = closed claim None end; value = value }))
form_sound a k number claim end value at n s = record {
  once = λ c. (let e = form_opens a k number claim end value c at n in let o = s.once c in omega arith);
  within = s.within;
}

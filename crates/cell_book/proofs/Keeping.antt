-- What a book keeps beside what is seen of it, over each step.
use Rattle.std.proofs.Common.{◌≡◌, ◌≢◌, ℕ, zero, suc, ◌+◌, ◌<◌, ◌≤◌, ◌==◌, Bool, true, false, cond, List, [], ◌∷◌, ◌++◌, length, take, Some, None, Option, refl, ap, sym, subst, ◌∙◌, arith, ◌⊎◌, inl, inr, eq-eqb, ne_eqb, le_refl}
use Rattle.std.specs.Prelude.{slice_get, slice_set}
use Rattle.std.proofs.lemmas.Option.{none-some, same_Some, slice_get_within}
use Rattle.std.proofs.Math.Seq.{take-length}
use Rattle.seq_values.specs.declared.value.Value.{Value}
use Rattle.seq_values.specs.declared.term.Term.{Term}
use Rattle.seq_values.specs.declared.words.Kind.{Kind}
use Rattle.cell_book.specs.declared.cell.State.{State}
use Rattle.cell_book.specs.declared.cell.State.TheVariants as S
use Rattle.cell_book.specs.declared.cell.ClaimEnd.{ClaimEnd}
use Rattle.cell_book.specs.declared.cell.Attempt.{Attempt}
use Rattle.cell_book.specs.declared.cell.Cell.{Cell}
use Rattle.cell_book.specs.declared.cell.Form.{Form}
use Rattle.cell_book.specs.declared.work.Place.{Place}
use Rattle.cell_book.specs.declared.work.Place.TheVariants as P
use Rattle.cell_book.specs.Account.{Account, Duty, opened, closed, is_open, forces, made_by, made_from, IsUnnamed, IsFresh, IsSound}
use Rattle.cell_book.specs.Steps.{with_cell, with_form, begun_form, new_cell, claimed, after_claim, values_in, cell_counts, form_counts, HasOpen, IsOpenIn}
use Rattle.cell_book.specs.Kept.{CountsMakes, IsKept}
use Rattle.cell_book.proofs.Lists.{get_snoc, get_set, get_last, get_longer, length_push, length_set}
use Rattle.cell_book.proofs.Values.{values_long, take_push, settled_set}
use Rattle.cell_book.proofs.Opening.{numbered_some, fresh_made, begun_sound, made_sound, claimed_sound, ended_sound, form_sound, one_cell, one_form, cell_or_form}

-- the claim of an open work is named in the book
pub open_named : (a : Account) (w : Duty) (c : ℕ) → IsOpenIn a w → IsFresh a c → w.claim ≢ c
open_named a w c o f = at w.place o
  where
    at : (x : Place) → IsOpenIn a (record { place = x; claim = w.claim; outcomes = w.outcomes }) → w.claim ≢ c
    at (P.Form number k) g = (f.forms k (begun_form number w.claim) g).0
    at (P.Part id kind term) (p, asker, past, e, h) =
        let n = numbered_some a.cells id p e in
        let u = f.cells n.0 p n.2 in λ same. u.state (h.state ∙ ap S.Forcing same)

-- numbers that no claim has
pub begun_fresh : (a : Account) (number claim c : ℕ) → IsFresh a c → claim ≢ c → IsFresh (record a { forms = a.forms ++ begun_form number claim ∷ [] }) c
begun_fresh a number claim c f n = record { cells = f.cells; forms = λ k g e. at k g (get_snoc a.forms k (begun_form number claim) g e) }
  where
    at : (k : ℕ) (g : Form) → ((k ≡ length a.forms) × (begun_form number claim ≡ g)) ⊎ (slice_get a.forms k ≡ Some g) → (g.attempt.claim ≢ c) × (g.attempt.asker ≢ Some c)
    at k g (inl t) = ((λ e. n (ap (λ (x : Form). x.attempt.claim) t.1 ∙ e)), (λ e. none-some c (ap (λ (x : Form). x.attempt.asker) t.1 ∙ e)))
    at k g (inr t) = f.forms k g t

pub made_fresh : (a : Account) (by : Duty) (t : Term) (kind : Kind) (c : ℕ) → IsFresh a c → by.claim ≢ c → IsFresh (record a { cells = a.cells ++ new_cell a by t kind ∷ [] }) c
made_fresh a by t kind c f n = record { cells = λ i p e. at i p (get_snoc a.cells i (new_cell a by t kind) p e); forms = f.forms }
  where
    empty : S.Empty ≡ S.Forcing c → ⊥
    empty e = cc

    here : IsUnnamed c (new_cell a by t kind)
    here = record { maker = n; state = empty; attempts = λ i x e. absurd (none-some x e) }

    at : (i : ℕ) (p : Cell) → ((i ≡ length a.cells) × (new_cell a by t kind ≡ p)) ⊎ (slice_get a.cells i ≡ Some p) → IsUnnamed c p
    at i p (inl s) = subst (IsUnnamed c) s.1 here
    at i p (inr s) = f.cells i p s

-- a cell with other attempts and another state
written_fresh : (a : Account) (i c : ℕ) (q : Cell) → IsFresh a c → IsUnnamed c q → IsFresh (with_cell a (suc i) q) c
written_fresh a i c q f u = record { cells = λ j p e. at j p (get_set a.cells i j q p e); forms = f.forms }
  where
    at : (j : ℕ) (p : Cell) → ((j ≡ i) × (q ≡ p)) ⊎ ((j ≢ i) × (slice_get a.cells j ≡ Some p)) → IsUnnamed c p
    at j p (inl s) = subst (IsUnnamed c) s.1 u
    at j p (inr s) = f.cells j p s.1

pub claimed_fresh : (a : Account) (i claim : ℕ) (asker : Option ℕ) (p : Cell) (c : ℕ) → slice_get a.cells i ≡ Some p → IsFresh a c → claim ≢ c → asker ≢ Some c → IsFresh (with_cell a (suc i) (claimed p claim asker)) c
claimed_fresh a i claim asker p c e f n m = written_fresh a i c (claimed p claim asker) f (record { maker = u.maker; state = λ s. n (same s); attempts = λ j x g. at j x (get_snoc p.attempts j (opened claim asker) x g) })
  where
    u : IsUnnamed c p
    u = f.cells i p e

    same : S.Forcing claim ≡ S.Forcing c → claim ≡ c
    same s = cc

    at : (j : ℕ) (x : Attempt) → ((j ≡ length p.attempts) × (opened claim asker ≡ x)) ⊎ (slice_get p.attempts j ≡ Some x) → (x.claim ≢ c) × (x.asker ≢ Some c)
    at j x (inl s) = ((λ g. n (ap (λ (y : Attempt). y.claim) s.1 ∙ g)), (λ g. m (ap (λ (y : Attempt). y.asker) s.1 ∙ g)))
    at j x (inr s) = u.attempts j x s

pub ended_fresh : (a : Account) (i claim : ℕ) (asker : Option ℕ) (past : List Attempt) (end : ClaimEnd) (state : State) (p : Cell) (c : ℕ) → slice_get a.cells i ≡ Some p → HasOpen p claim asker past → state ≢ S.Forcing c → IsFresh a c →
    IsFresh (with_cell a (suc i) (after_claim p claim asker past end state)) c
ended_fresh a i claim asker past end state p c e h s f = written_fresh a i c (after_claim p claim asker past end state) f (record { maker = u.maker; state = s; attempts = λ j x g. at j x (get_snoc past j (closed claim asker end) x g) })
  where
    u : IsUnnamed c p
    u = f.cells i p e

    old : (j : ℕ) (x : Attempt) → slice_get (past ++ opened claim asker ∷ []) j ≡ Some x → (x.claim ≢ c) × (x.asker ≢ Some c)
    old j x g = u.attempts j x (ap (λ l. slice_get l j) h.attempts ∙ g)

    at : (j : ℕ) (x : Attempt) → ((j ≡ length past) × (closed claim asker end ≡ x)) ⊎ (slice_get past j ≡ Some x) → (x.claim ≢ c) × (x.asker ≢ Some c)
    at j x (inl t) =
        let o = old (length past) (opened claim asker) (get_last past (opened claim asker) (length past) refl) in
        ((λ g. o.0 (ap (λ (y : Attempt). y.claim) t.1 ∙ g)), (λ g. o.1 (ap (λ (y : Attempt). y.asker) t.1 ∙ g)))
    at j x (inr t) = old j x (get_longer past j (opened claim asker) x t)

pub form_fresh : (a : Account) (k number claim : ℕ) (end : ClaimEnd) (value : Option Value) (c : ℕ) → slice_get a.forms k ≡ Some (begun_form number claim) → IsFresh a c → IsFresh (with_form a k (record { number = number; attempt = closed claim None end; value = value })) c
form_fresh a k number claim end value c e f = record { cells = f.cells; forms = λ j g h. at j g (get_set a.forms k j _ g h) }
  where
    q : Form
    q = record { number = number; attempt = closed claim None end; value = value }

    at : (j : ℕ) (g : Form) → ((j ≡ k) × (q ≡ g)) ⊎ ((j ≢ k) × (slice_get a.forms j ≡ Some g)) → (g.attempt.claim ≢ c) × (g.attempt.asker ≢ Some c)
    at j g (inl t) =
        let o = f.forms k (begun_form number claim) e in
        ((λ h. o.0 (ap (λ (y : Form). y.attempt.claim) t.1 ∙ h)), (λ h. none-some c (ap (λ (y : Form). y.attempt.asker) t.1 ∙ h)))
    at j g (inr t) = f.forms j g t.1

-- the cells that a claim made, with one more
pub made_push : (c : ℕ) (xs : List Cell) (x : Cell) (n : ℕ) → made_from c (xs ++ x ∷ []) n ≡ made_from c xs n ++ cond (x.maker == c) ((n + length xs) ∷ []) []
made_push c [] x n = let e : n ≡ n + 0 = omega arith in ap (λ (m : ℕ). cond (x.maker == c) (m ∷ []) []) e
made_push c (y ∷ xs) x n =
    let e : suc n + length xs ≡ n + suc (length xs) = omega arith in
    let r : made_from c (xs ++ x ∷ []) (suc n) ≡ made_from c xs (suc n) ++ cond (x.maker == c) ((n + suc (length xs)) ∷ []) [] = made_push c xs x (suc n) ∙ ap (λ (m : ℕ). made_from c xs (suc n) ++ cond (x.maker == c) (m ∷ []) []) e in
    at (y.maker == c) _ _ _ r
  where
    at : (t : Bool) (m i k : List ℕ) → m ≡ i ++ k → cond t (n ∷ m) m ≡ cond t (n ∷ i) i ++ k
    at true m i k r = ap (λ l. n ∷ l) r
    at false m i k r = r

pub made_set : (c : ℕ) (xs : List Cell) (i n : ℕ) (p q : Cell) → slice_get xs i ≡ Some p → q.maker ≡ p.maker → made_from c (slice_set xs i q) n ≡ made_from c xs n
made_set c [] i n p q e m = refl
made_set c (x ∷ xs) zero n p q e m = ap (λ k. cond (k == c) (n ∷ made_from c xs (suc n)) (made_from c xs (suc n))) (m ∙ ap (λ (y : Cell). y.maker) (sym (same_Some x p e)))
made_set c (x ∷ xs) (suc i) n p q e m = ap (λ l. cond (x.maker == c) (n ∷ l) l) (made_set c xs i (suc n) p q e m)

pub append_none : {X : Type 0} (xs : List X) → xs ++ [] ≡ xs
append_none [] = refl
append_none (x ∷ xs) = ap (λ l. x ∷ l) (append_none xs)

-- another claim's make
pub made_else : (a : Account) (by : Duty) (t : Term) (kind : Kind) (c : ℕ) → by.claim ≢ c → made_by c (record a { cells = a.cells ++ new_cell a by t kind ∷ [] }) ≡ made_by c a
made_else a by t kind c n =
    made_push c a.cells (new_cell a by t kind) 1 ∙ (ap (λ b. made_by c a ++ cond b ((1 + length a.cells) ∷ []) []) (ne_eqb by.claim c n) ∙ append_none (made_by c a))

-- one's own make
pub made_own : (a : Account) (by : Duty) (t : Term) (kind : Kind) (c : ℕ) → by.claim ≡ c → made_by c (record a { cells = a.cells ++ new_cell a by t kind ∷ [] }) ≡ made_by c a ++ suc (length a.cells) ∷ []
made_own a by t kind c e =
    let s : 1 + length a.cells ≡ suc (length a.cells) = omega arith in
    made_push c a.cells (new_cell a by t kind) 1 ∙ (ap (λ b. made_by c a ++ cond b ((1 + length a.cells) ∷ []) []) (eq-eqb by.claim c e) ∙ ap (λ n. made_by c a ++ n ∷ []) s)

-- a claim made no more cells than there are
pub made_most : (c : ℕ) (xs : List Cell) (n : ℕ) → length (made_from c xs n) ≤ length xs
made_most c [] n = le_refl 0
made_most c (x ∷ xs) n = at (x.maker == c) (made_most c xs (suc n))
  where
    at : (t : Bool) → length (made_from c xs (suc n)) ≤ length xs → length (cond t (n ∷ made_from c xs (suc n)) (made_from c xs (suc n))) ≤ suc (length xs)
    at true h = omega arith
    at false h = omega arith

-- a form is begun
pub begun_kept : (a : Account) (cm fm : List ℕ) (settled : List Value) (next number : ℕ) → IsKept a cm fm settled next →
    IsKept (record a { forms = a.forms ++ begun_form number next ∷ [] }) cm (fm ++ 0 ∷ []) (values_in a.forms) (next + 1)
begun_kept a cm fm settled next number k = record {
  sound = begun_sound a number next (k.fresh next (le_refl next)) k.sound;
  fresh = λ c h. begun_fresh a number next c (k.fresh c (omega arith)) (λ e. (let g : next ≡ c = e in absurd (omega arith)));
  makes = record {
    cells_long = m.cells_long;
    forms_long = length_push fm 0 ∙ (ap suc m.forms_long ∙ sym (length_push a.forms (begun_form number next)));
    of_cells = m.of_cells;
    of_forms = λ i n c x e g. forms i n c x e (get_snoc a.forms i (begun_form number next) (begun_form n c) e) g (get_snoc fm i 0 x g);
  };
  settled_first = sym (take_push a.forms (begun_form number next) (length (values_in a.forms)) (let l = values_long a.forms in omega arith) ∙ take-length (values_in a.forms));
}
  where
    m : CountsMakes a cm fm
    m = k.makes

    forms : (i n c x : ℕ) → slice_get (a.forms ++ begun_form number next ∷ []) i ≡ Some (begun_form n c) → ((i ≡ length a.forms) × (begun_form number next ≡ begun_form n c)) ⊎ (slice_get a.forms i ≡ Some (begun_form n c)) →
        slice_get (fm ++ 0 ∷ []) i ≡ Some x → ((i ≡ length fm) × (0 ≡ x)) ⊎ (slice_get fm i ≡ Some x) → x ≡ length (made_by c a)
    forms i n c x e (inl s) g (inl t) =
        let same : next ≡ c = ap (λ (f : Form). f.attempt.claim) s.1 in
        let z : made_by c a ≡ [] = subst (λ (d : ℕ). made_by d a ≡ []) same (fresh_made a next (k.fresh next (le_refl next))) in
        sym t.1 ∙ sym (ap length z)
    forms i n c x e (inl s) g (inr t) =
        let w = slice_get_within fm i x t in
        let s0 = s.0 in
        let l = m.forms_long in absurd (omega arith)
    forms i n c x e (inr s) g (inl t) =
        let w = slice_get_within a.forms i (begun_form n c) s in
        let t0 = t.0 in
        let l = m.forms_long in absurd (omega arith)
    forms i n c x e (inr s) g (inr t) = m.of_forms i n c x s t

empty_forcing : (c : ℕ) → S.Empty ≡ S.Forcing c → ⊥
empty_forcing c e = cc

forcing_same : (c d : ℕ) → S.Forcing c ≡ S.Forcing d → c ≡ d
forcing_same c d e = cc

begun_same : (n m c d : ℕ) → begun_form n c ≡ begun_form m d → c ≡ d
begun_same n m c d e = ap (λ (f : Form). f.attempt.claim) e

module _ (a : Account) (cm fm : List ℕ) (m : CountsMakes a cm fm) (sound : IsSound a) (t : Term) (kind : Kind) (claim : ℕ) (outcomes : List Value) (n : ℕ) (next_make : n ≡ suc (length (made_by claim a))) where
  abbrev by : Place → Duty
  by x = record { place = x; claim = claim; outcomes = outcomes }

  abbrev after : Place → Account
  after x = record a { cells = a.cells ++ new_cell a (by x) t kind ∷ [] }

  own : (x : Place) (c : ℕ) → claim ≡ c → n ≡ length (made_by c (after x))
  own x c e =
      let z = ap length (made_own a (by x) t kind c e) in
      let y = length_push (made_by c a) (suc (length a.cells)) in
      let w = ap (λ d. length (made_by d a)) e in omega arith

  else : (x : Place) (c y : ℕ) → claim ≢ c → y ≡ length (made_by c a) → y ≡ length (made_by c (after x))
  else x c y d e = e ∙ sym (ap length (made_else a (by x) t kind c d))

  -- a count that was there before
  old_count : (i y : ℕ) → i < length a.cells → slice_get (cm ++ 0 ∷ []) i ≡ Some y → slice_get cm i ≡ Some y
  old_count i y h g = at (get_snoc cm i 0 y g)
    where
      at : ((i ≡ length cm) × (0 ≡ y)) ⊎ (slice_get cm i ≡ Some y) → slice_get cm i ≡ Some y
      at (inl s) = let s0 = s.0 in let l = m.cells_long in absurd (omega arith)
      at (inr s) = s

  long : (x : Place) → length (cm ++ 0 ∷ []) ≡ length (a.cells ++ new_cell a (by x) t kind ∷ [])
  long x = let u = length_push cm 0 in let v = length_push a.cells (new_cell a (by x) t kind) in let w = m.cells_long in omega arith

  old_cell : (x : Place) (i c : ℕ) (p : Cell) → slice_get (a.cells ++ new_cell a (by x) t kind ∷ []) i ≡ Some p → p.state ≡ S.Forcing c → slice_get a.cells i ≡ Some p
  old_cell x i c p e s = at (get_snoc a.cells i (new_cell a (by x) t kind) p e)
    where
      at : ((i ≡ length a.cells) × (new_cell a (by x) t kind ≡ p)) ⊎ (slice_get a.cells i ≡ Some p) → slice_get a.cells i ≡ Some p
      at (inl z) = absurd (empty_forcing c (ap (λ (q : Cell). q.state) z.1 ∙ s))
      at (inr z) = z

  module _ (number k : ℕ) (begun : slice_get a.forms k ≡ Some (begun_form number claim)) where
    form_cells : (i c y : ℕ) (p : Cell) → slice_get (a.cells ++ new_cell a (by (P.Form number k)) t kind ∷ []) i ≡ Some p → p.state ≡ S.Forcing c → slice_get (cm ++ 0 ∷ []) i ≡ Some y → y ≡ length (made_by c (after (P.Form number k)))
    form_cells i c y p e s g =
        let o = old_cell (P.Form number k) i c p e s in
        else (P.Form number k) c y (λ h. cell_or_form a c i k number p sound o s (begun ∙ ap (λ d. Some (begun_form number d)) h)) (m.of_cells i c y p o s (old_count i y (slice_get_within a.cells i p o) g))

    form_forms : (i v c y : ℕ) → slice_get a.forms i ≡ Some (begun_form v c) → slice_get (slice_set fm k n) i ≡ Some y → y ≡ length (made_by c (after (P.Form number k)))
    form_forms i v c y e g = at (get_set fm k i n y g)
      where
        at : ((i ≡ k) × (n ≡ y)) ⊎ ((i ≢ k) × (slice_get fm i ≡ Some y)) → y ≡ length (made_by c (after (P.Form number k)))
        at (inl s) = sym s.1 ∙ own (P.Form number k) c (begun_same number v claim c (same_Some (begun_form number claim) (begun_form v c) (sym begun ∙ (ap (slice_get a.forms) (sym s.0) ∙ e))))
        at (inr s) = else (P.Form number k) c y (λ h. one_form a c i k v number sound e (begun ∙ ap (λ d. Some (begun_form number d)) h) s.0) (m.of_forms i v c y e s.1)

    form_counts_makes : CountsMakes (after (P.Form number k)) (cm ++ 0 ∷ []) (slice_set fm k n)
    form_counts_makes = record { cells_long = long (P.Form number k); forms_long = length_set fm k n ∙ m.forms_long; of_cells = form_cells; of_forms = form_forms }

  module _ (j : ℕ) (pk : Kind) (pt : Term) (p : Cell) (at : slice_get a.cells j ≡ Some p) (forced : p.state ≡ S.Forcing claim) where
    abbrev here : Place
    here = P.Part (suc j) pk pt

    part_cells : (i c y : ℕ) (q : Cell) → slice_get (a.cells ++ new_cell a (by here) t kind ∷ []) i ≡ Some q → q.state ≡ S.Forcing c → slice_get (slice_set (cm ++ 0 ∷ []) j n) i ≡ Some y → y ≡ length (made_by c (after here))
    part_cells i c y q e s g = case (get_set (cm ++ 0 ∷ []) j i n y g)
      where
        o : slice_get a.cells i ≡ Some q
        o = old_cell here i c q e s

        case : ((i ≡ j) × (n ≡ y)) ⊎ ((i ≢ j) × (slice_get (cm ++ 0 ∷ []) i ≡ Some y)) → y ≡ length (made_by c (after here))
        case (inl z) =
            let same : p ≡ q = same_Some p q (sym at ∙ (ap (slice_get a.cells) (sym z.0) ∙ o)) in
            sym z.1 ∙ own here c (forcing_same claim c (sym forced ∙ (ap (λ (x : Cell). x.state) same ∙ s)))
        case (inr z) = else here c y (λ h. one_cell a c i j q p sound o at s (forced ∙ ap S.Forcing h) z.0) (m.of_cells i c y q o s (old_count i y (slice_get_within a.cells i q o) z.1))

    part_forms : (i v c y : ℕ) → slice_get a.forms i ≡ Some (begun_form v c) → slice_get fm i ≡ Some y → y ≡ length (made_by c (after here))
    part_forms i v c y e g = else here c y (λ h. cell_or_form a c j i v p sound at (forced ∙ ap S.Forcing h) e) (m.of_forms i v c y e g)

    part_counts_makes : CountsMakes (after here) (slice_set (cm ++ 0 ∷ []) j n) fm
    part_counts_makes = record { cells_long = length_set (cm ++ 0 ∷ []) j n ∙ long here; forms_long = m.forms_long; of_cells = part_cells; of_forms = part_forms }

  makes_counted : (x : Place) → IsOpenIn a (by x) → CountsMakes (after x) (cell_counts x (cm ++ 0 ∷ []) n) (form_counts x fm n)
  makes_counted (P.Form number k) o = form_counts_makes number k o
  makes_counted (P.Part zero pk pt) (p, asker, past, e, h) = absurd (none-some p e)
  makes_counted (P.Part (suc j) pk pt) (p, asker, past, e, h) = part_counts_makes j pk pt p e h.state

-- a work makes a cell
pub made_kept : (a : Account) (cm fm : List ℕ) (settled : List Value) (next n : ℕ) (by : Duty) (t : Term) (kind : Kind) → IsKept a cm fm settled next → IsOpenIn a by → length a.cells < a.limit → n ≡ suc (length (made_by by.claim a)) →
    IsKept (record a { cells = a.cells ++ new_cell a by t kind ∷ [] }) (cell_counts by.place (cm ++ 0 ∷ []) n) (form_counts by.place fm n) settled next
made_kept a cm fm settled next n by t kind k o h e = record {
  sound = made_sound a by t kind h k.sound;
  fresh = λ c l. made_fresh a by t kind c (k.fresh c l) (open_named a by c o (k.fresh c l));
  makes = makes_counted a cm fm k.makes k.sound t kind by.claim by.outcomes n e by.place o;
  settled_first = k.settled_first;
}

-- the makes of a claim, where a cell's claims change
pub written_made : (a : Account) (i c : ℕ) (p q : Cell) → slice_get a.cells i ≡ Some p → q.maker ≡ p.maker → made_by c (with_cell a (suc i) q) ≡ made_by c a
written_made a i c p q e s = made_set c a.cells i 1 p q e s

-- a claim is opened
pub claimed_kept : (a : Account) (cm fm : List ℕ) (settled : List Value) (next i : ℕ) (asker : Option ℕ) (p : Cell) → IsKept a cm fm settled next → slice_get a.cells i ≡ Some p → p.state ≡ S.Empty → ((c : ℕ) → next ≤ c → asker ≢ Some c) →
    IsKept (with_cell a (suc i) (claimed p next asker)) (slice_set cm i 0) fm settled (next + 1)
claimed_kept a cm fm settled next i asker p k e s named = record {
  sound = claimed_sound a (suc i) next asker p e s (k.fresh next (le_refl next)) k.sound;
  fresh = λ c h. claimed_fresh a i next asker p c e (k.fresh c (omega arith)) (λ g. (let g2 : next ≡ c = g in absurd (omega arith))) (named c (omega arith));
  makes = record {
    cells_long = length_set cm i 0 ∙ (m.cells_long ∙ sym (length_set a.cells i (claimed p next asker)));
    forms_long = m.forms_long;
    of_cells = λ j c y q f x g. cells j c y q x (get_set a.cells i j (claimed p next asker) q f) (get_set cm i j 0 y g);
    of_forms = λ j v c y f g. m.of_forms j v c y f g ∙ sym (ap length (same c));
  };
  settled_first = k.settled_first;
}
  where
    m : CountsMakes a cm fm
    m = k.makes

    same : (c : ℕ) → made_by c (with_cell a (suc i) (claimed p next asker)) ≡ made_by c a
    same c = written_made a i c p (claimed p next asker) e refl

    cells : (j c y : ℕ) (q : Cell) → q.state ≡ S.Forcing c → ((j ≡ i) × (claimed p next asker ≡ q)) ⊎ ((j ≢ i) × (slice_get a.cells j ≡ Some q)) → ((j ≡ i) × (0 ≡ y)) ⊎ ((j ≢ i) × (slice_get cm j ≡ Some y)) → y ≡ length (made_by c (with_cell a (suc i) (claimed p next asker)))
    cells j c y q x (inl u) (inl v) =
        let d : next ≡ c = forcing_same next c (ap (λ (z : Cell). z.state) u.1 ∙ x) in
        let z : made_by c a ≡ [] = subst (λ (w : ℕ). made_by w a ≡ []) d (fresh_made a next (k.fresh next (le_refl next))) in
        sym v.1 ∙ sym (ap length (same c ∙ z))
    cells j c y q x (inl u) (inr v) = absurd (v.0 u.0)
    cells j c y q x (inr u) (inl v) = absurd (u.0 v.0)
    cells j c y q x (inr u) (inr v) = m.of_cells j c y q u.1 x v.1 ∙ sym (ap length (same c))

-- a claim on a cell ends
pub ended_kept : (a : Account) (cm fm : List ℕ) (settled : List Value) (next i claim : ℕ) (asker : Option ℕ) (past : List Attempt) (end : ClaimEnd) (state : State) (p : Cell) → IsKept a cm fm settled next → slice_get a.cells i ≡ Some p → HasOpen p claim asker past → ((c : ℕ) → forces c state ≡ false) →
    IsKept (with_cell a (suc i) (after_claim p claim asker past end state)) cm fm settled next
ended_kept a cm fm settled next i claim asker past end state p k e h idle = record {
  sound = ended_sound a (suc i) claim asker past end state p e h idle k.sound;
  fresh = λ c l. ended_fresh a i claim asker past end state p c e h (other c) (k.fresh c l);
  makes = record {
    cells_long = m.cells_long ∙ sym (length_set a.cells i q);
    forms_long = m.forms_long;
    of_cells = λ j c y x f s g. cells j c y x s g (get_set a.cells i j q x f);
    of_forms = λ j v c y f g. m.of_forms j v c y f g ∙ sym (ap length (same c));
  };
  settled_first = k.settled_first;
}
  where
    m : CountsMakes a cm fm
    m = k.makes

    q : Cell
    q = after_claim p claim asker past end state

    other : (c : ℕ) → state ≢ S.Forcing c
    other c s = let u = sym (idle c) ∙ (ap (forces c) s ∙ eq-eqb c c refl) in absurd cc

    same : (c : ℕ) → made_by c (with_cell a (suc i) q) ≡ made_by c a
    same c = written_made a i c p q e refl

    cells : (j c y : ℕ) (x : Cell) → x.state ≡ S.Forcing c → slice_get cm j ≡ Some y → ((j ≡ i) × (q ≡ x)) ⊎ ((j ≢ i) × (slice_get a.cells j ≡ Some x)) → y ≡ length (made_by c (with_cell a (suc i) q))
    cells j c y x s g (inl u) = absurd (other c (ap (λ (z : Cell). z.state) u.1 ∙ s))
    cells j c y x s g (inr u) = m.of_cells j c y x u.1 s g ∙ sym (ap length (same c))

-- the claim on a form ends; of the values that are there already those of the forms before it stay
pub form_kept : (a : Account) (cm fm : List ℕ) (settled settled2 : List Value) (next k number claim : ℕ) (end : ClaimEnd) (value : Option Value) → IsKept a cm fm settled next → slice_get a.forms k ≡ Some (begun_form number claim) → is_open end ≡ false →
    settled2 ≡ take k settled → IsKept (with_form a k (record { number = number; attempt = closed claim None end; value = value })) cm fm settled2 next
form_kept a cm fm settled settled2 next k number claim end value kept e n s = record {
  sound = form_sound a k number claim end value e n kept.sound;
  fresh = λ c l. form_fresh a k number claim end value c e (kept.fresh c l);
  makes = record { cells_long = m.cells_long; forms_long = m.forms_long ∙ sym (length_set a.forms k q); of_cells = m.of_cells; of_forms = λ j v c y f g. forms j v c y g (get_set a.forms k j q (begun_form v c) f) };
  settled_first = first s;
}
  where
    m : CountsMakes a cm fm
    m = kept.makes

    q : Form
    q = record { number = number; attempt = closed claim None end; value = value }

    forms : (j v c y : ℕ) → slice_get fm j ≡ Some y → ((j ≡ k) × (q ≡ begun_form v c)) ⊎ ((j ≢ k) × (slice_get a.forms j ≡ Some (begun_form v c))) → y ≡ length (made_by c a)
    forms j v c y g (inl u) = let z = sym n ∙ ap (λ (f : Form). is_open f.attempt.end) u.1 in absurd cc
    forms j v c y g (inr u) = m.of_forms j v c y u.1 g

    first : settled2 ≡ take k settled → settled2 ≡ take (length settled2) (values_in (slice_set a.forms k q))
    first u = subst (λ (l : List Value). l ≡ take (length l) (values_in (slice_set a.forms k q))) (sym u) (settled_set a.forms k q settled kept.settled_first)

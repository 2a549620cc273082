-- What each step leaves of what one knows: of the claims of others, and of one's own.
use Rattle.std.proofs.Common.{◌≡◌, ◌≢◌, ℕ, zero, suc, Bool, true, false, cond, List, [], ◌∷◌, ◌++◌, length, Some, None, Option, Ok, Err, refl, ap, sym, subst, ◌∙◌, arith, ◌⊎◌, inl, inr, eq-eqb, ne_eqb}
use Rattle.std.specs.Prelude.{slice_get, slice_set, IfOk}
use Rattle.std.proofs.lemmas.Option.{none-some, same_Some}
use Rattle.seq_base.specs.declared.thrown.Thrown.{Thrown}
use Rattle.seq_values.specs.declared.value.Value.{Value}
use Rattle.seq_values.specs.declared.term.Term.{Term}
use Rattle.seq_values.specs.declared.words.Kind.{Kind}
use Rattle.seq_values.specs.declared.words.Kind.TheVariants.{Lazy, Future}
use Rattle.cell_book.specs.declared.answers.Look.TheVariants as L
use Rattle.cell_book.specs.declared.answers.MakeRefusal.TheVariants as M
use Rattle.cell_book.specs.declared.answers.ClaimRefusal.{ClaimRefusal}
use Rattle.cell_book.specs.declared.cell.State.{State}
use Rattle.cell_book.specs.declared.cell.State.TheVariants as S
use Rattle.cell_book.specs.declared.cell.ClaimEnd.{ClaimEnd}
use Rattle.cell_book.specs.declared.cell.ClaimEnd.TheVariants as E
use Rattle.cell_book.specs.declared.cell.Attempt.{Attempt}
use Rattle.cell_book.specs.declared.cell.Cell.{Cell}
use Rattle.cell_book.specs.declared.cell.Form.{Form}
use Rattle.cell_book.specs.declared.work.Place.{Place}
use Rattle.cell_book.specs.declared.work.Place.TheVariants as P
use Rattle.cell_book.specs.Account.{Account, Duty, cell_at, opened, closed, is_open, forces, is_asker, asked_by, asked_at}
use Rattle.cell_book.specs.Steps.{with_cell, with_form, begun_form, new_cell, claimed, after_claim, BeginAnswer, MakeAnswer, LookAnswer, KindAnswer, FutureAnswer, ClaimAnswer, HasOpen, Begins, Makes, Looks, Kinds, FindsFuture, Claims, Ends, Finishes, Fails, GivesUp, failed_state, shown, shown_state}
use Rattle.cell_book.specs.Glimpses.{glimpse, Continues, Stays, FormStays, Reaches, IsForced, Holds, Onward, AskedOne, Answered, MadeOne}
use Rattle.cell_book.proofs.Lists.{get_longer, get_last, get_snoc, get_set, set_here, set_other, same_or}
use Rattle.cell_book.proofs.Keeping.{made_else, made_own, written_made, append_none}
use Rattle.cell_book.proofs.Onwards.{continues_same, stays_same, form_stays_same, reaches_same, holds_then, onward_same, onward_then, answered_onward}

-- only notes change, and they stay
module _ (a : Account) (spent gave_up : Bool) (s : a.spent ≡ true → spent ≡ true) (u : a.gave_up ≡ true → gave_up ≡ true) where
  abbrev noted : Account
  noted = record { limit = a.limit; cells = a.cells; forms = a.forms; spent = spent; gave_up = gave_up }

  pub noted_holds : (c : ℕ) → Holds c (glimpse a) (glimpse noted)
  noted_holds c = record {
    reaches = record { limit = refl; cells = λ id p e. (p, e, stays_same p); forms = λ k f e. (f, e, form_stays_same f); spent = s; gave_up = u };
    forced = λ id asker f. record { cell = f.cell; past = f.past; at = f.at; has = f.has };
    forced_back = λ id asker f. record { cell = f.cell; past = f.past; at = f.at; has = f.has };
    begun = λ k n e. e;
    begun_back = λ k n e. e;
  }

  pub noted_onward : (c : ℕ) → Onward c (glimpse a) (glimpse noted)
  noted_onward c = record { holds = noted_holds c; made = refl; asked = λ id. refl }

pub looks_onward : (a b : Account) (id : ℕ) (answer : LookAnswer) (c : ℕ) → Looks a id answer b → Onward c (glimpse a) (glimpse b)
looks_onward a b id answer c l = subst (λ (x : Account). Onward c (glimpse a) (glimpse x)) (sym l.0) (onward_same c (glimpse a))

pub finds_onward : (a b : Account) (answer : FutureAnswer) (c : ℕ) → FindsFuture a answer b → Onward c (glimpse a) (glimpse b)
finds_onward a b None c l = subst (λ (x : Account). Onward c (glimpse a) (glimpse x)) (sym l.0) (onward_same c (glimpse a))
finds_onward a b (Some id) c l = subst (λ (x : Account). Onward c (glimpse a) (glimpse x)) (sym l.0) (onward_same c (glimpse a))

pub kinds_onward : (a b : Account) (id : ℕ) (answer : KindAnswer) (c : ℕ) → Kinds a id answer b → Onward c (glimpse a) (glimpse b)
kinds_onward a b id answer c l = subst (λ (x : Account). Onward c (glimpse a) (glimpse x)) (sym l.0) (onward_same c (glimpse a))

-- a form is begun
module _ (a : Account) (number claim : ℕ) where
  abbrev with_begun : Account
  with_begun = record a { forms = a.forms ++ begun_form number claim ∷ [] }

  pub begun_reaches : Reaches (glimpse a) (glimpse with_begun)
  begun_reaches = record { limit = refl; cells = λ id p e. (p, e, stays_same p); forms = λ k f e. (f, get_longer a.forms k (begun_form number claim) f e, form_stays_same f); spent = λ e. e; gave_up = λ e. e }

  begun_holds : (c : ℕ) → c ≢ claim → Holds c (glimpse a) (glimpse with_begun)
  begun_holds c d = record {
    reaches = begun_reaches;
    forced = λ id asker f. record { cell = f.cell; past = f.past; at = f.at; has = f.has };
    forced_back = λ id asker f. record { cell = f.cell; past = f.past; at = f.at; has = f.has };
    begun = λ k n e. get_longer a.forms k (begun_form number claim) (begun_form n c) e;
    begun_back = λ k n e. old k n (get_snoc a.forms k (begun_form number claim) (begun_form n c) e);
  }
    where
      old : (k n : ℕ) → ((k ≡ length a.forms) × (begun_form number claim ≡ begun_form n c)) ⊎ (slice_get a.forms k ≡ Some (begun_form n c)) → slice_get a.forms k ≡ Some (begun_form n c)
      old k n (inl t) = absurd (d (sym (ap (λ (f : Form). f.attempt.claim) t.1)))
      old k n (inr t) = t

pub begins_reaches : (a b : Account) (number : ℕ) (answer : BeginAnswer) → Begins a number answer b → Reaches (glimpse a) (glimpse b)
begins_reaches a b number (Err r) h = subst (λ (x : Account). Reaches (glimpse a) (glimpse x)) (sym h) (reaches_same (glimpse a))
begins_reaches a b number (Ok w) h = subst (λ (x : Account). Reaches (glimpse a) (glimpse x)) (sym h.3) (begun_reaches a number w.claim)

pub begins_onward : (a b : Account) (number : ℕ) (answer : BeginAnswer) (c : ℕ) → Begins a number answer b → IfOk answer (λ (w : Duty). c ≢ w.claim) → Onward c (glimpse a) (glimpse b)
begins_onward a b number (Err r) c h d = subst (λ (x : Account). Onward c (glimpse a) (glimpse x)) (sym h) (onward_same c (glimpse a))
begins_onward a b number (Ok w) c h d = subst (λ (x : Account). Onward c (glimpse a) (glimpse x)) (sym h.3) (record { holds = begun_holds a number w.claim c d; made = refl; asked = λ id. refl })

-- states apart
empty_done : (v : Value) → S.Empty ≡ S.Done v → ⊥
empty_done v e = cc

empty_failed : (w : Thrown) → S.Empty ≡ S.Failed w → ⊥
empty_failed w e = cc

empty_forcing : (c : ℕ) → S.Empty ≡ S.Forcing c → ⊥
empty_forcing c e = cc

forcing_same : (c d : ℕ) → S.Forcing c ≡ S.Forcing d → c ≡ d
forcing_same c d e = cc

-- a cell is made
cell_longer : (a : Account) (x : Cell) (id : ℕ) (p : Cell) → cell_at a id ≡ Some p → cell_at (record a { cells = a.cells ++ x ∷ [] }) id ≡ Some p
cell_longer a x zero p e = absurd (none-some p e)
cell_longer a x (suc i) p e = get_longer a.cells i x p e

asked_push : (c : ℕ) (xs : List Cell) (x : Cell) (i : ℕ) → x.attempts ≡ [] → asked_at c (slice_get (xs ++ x ∷ []) i) ≡ asked_at c (slice_get xs i)
asked_push c [] x zero e = ap (asked_by c) e
asked_push c [] x (suc i) e = refl
asked_push c (y ∷ xs) x zero e = refl
asked_push c (y ∷ xs) x (suc i) e = asked_push c xs x i e

made_asked : (a : Account) (by : Duty) (t : Term) (k : Kind) (c id : ℕ) → asked_at c (cell_at (record a { cells = a.cells ++ new_cell a by t k ∷ [] }) id) ≡ asked_at c (cell_at a id)
made_asked a by t k c zero = refl
made_asked a by t k c (suc i) = asked_push c a.cells (new_cell a by t k) i refl

pub made_reaches : (a : Account) (by : Duty) (t : Term) (k : Kind) → Reaches (glimpse a) (glimpse (record a { cells = a.cells ++ new_cell a by t k ∷ [] }))
made_reaches a by t k = record { limit = refl; cells = λ id p e. (p, cell_longer a (new_cell a by t k) id p e, stays_same p); forms = λ i f e. (f, e, form_stays_same f); spent = λ e. e; gave_up = λ e. e }

made_holds : (a : Account) (by : Duty) (t : Term) (k : Kind) (c : ℕ) → Holds c (glimpse a) (glimpse (record a { cells = a.cells ++ new_cell a by t k ∷ [] }))
made_holds a by t k c = record {
  reaches = made_reaches a by t k;
  forced = λ id asker f. record { cell = f.cell; past = f.past; at = cell_longer a (new_cell a by t k) id f.cell f.at; has = f.has };
  forced_back = λ id asker f. record { cell = f.cell; past = f.past; at = old id f.cell f.at f.has.state; has = f.has };
  begun = λ i n e. e;
  begun_back = λ i n e. e;
}
  where
    old : (id : ℕ) (p : Cell) → cell_at (record a { cells = a.cells ++ new_cell a by t k ∷ [] }) id ≡ Some p → p.state ≡ S.Forcing c → cell_at a id ≡ Some p
    old zero p e s = absurd (none-some p e)
    old (suc i) p e s = by_case (get_snoc a.cells i (new_cell a by t k) p e)
      where
        by_case : ((i ≡ length a.cells) × (new_cell a by t k ≡ p)) ⊎ (slice_get a.cells i ≡ Some p) → slice_get a.cells i ≡ Some p
        by_case (inl z) = absurd (empty_forcing c (ap (λ (x : Cell). x.state) z.1 ∙ s))
        by_case (inr z) = z

pub makes_onward : (a b : Account) (by : Duty) (t : Term) (k : Kind) (answer : MakeAnswer) (c : ℕ) → Makes a by t k answer b → c ≢ by.claim → Onward c (glimpse a) (glimpse b)
makes_onward a b by t k (Ok id) c h n = subst (λ (x : Account). Onward c (glimpse a) (glimpse x)) (sym h.2) (record { holds = made_holds a by t k c; made = made_else a by t k c (λ e. n (sym e)); asked = λ id. made_asked a by t k c id })
makes_onward a b by t k (Err (M.Spent back)) c h n = subst (λ (x : Account). Onward c (glimpse a) (glimpse x)) (sym h.2) (noted_onward a true a.gave_up (λ e. refl) (λ e. e) c)
makes_onward a b by t k (Err (M.Memory back)) c h n = subst (λ (x : Account). Onward c (glimpse a) (glimpse x)) (sym h.1) (onward_same c (glimpse a))

-- the maker's own claim
pub makes_own : (a b : Account) (by : Duty) (t : Term) (k : Kind) (id : ℕ) → Makes a by t k (Ok id) b → MadeOne by.claim id (glimpse a) (glimpse b)
makes_own a b by t k id h =
    let e : suc (length a.cells) ≡ id = let g = h.0 in omega arith in
    subst (λ (z : Account × ℕ). MadeOne by.claim z.1 (glimpse a) (glimpse z.0)) (λ i. (sym h.2 i, e i)) (record { holds = made_holds a by t k by.claim; made = made_own a by t k by.claim refl; asked = λ j. made_asked a by t k by.claim j })

pub refused_own : (a b : Account) (by : Duty) (t : Term) (k : Kind) (r : _) (c : ℕ) → Makes a by t k (Err r) b → Onward c (glimpse a) (glimpse b)
refused_own a b by t k (M.Spent back) c h = subst (λ (x : Account). Onward c (glimpse a) (glimpse x)) (sym h.2) (noted_onward a true a.gave_up (λ e. refl) (λ e. e) c)
refused_own a b by t k (M.Memory back) c h = subst (λ (x : Account). Onward c (glimpse a) (glimpse x)) (sym h.1) (onward_same c (glimpse a))

pub makes_here : (a b : Account) (by : Duty) (t : Term) (k : Kind) (id : ℕ) → Makes a by t k (Ok id) b → cell_at b id ≡ Some (new_cell a by t k)
makes_here a b by t k id h =
    let e : suc (length a.cells) ≡ id = let g = h.0 in omega arith in
    subst (λ (z : Account × ℕ). cell_at z.0 z.1 ≡ Some (new_cell a by t k)) (λ i. (sym h.2 i, e i)) (get_last a.cells (new_cell a by t k) (length a.cells) refl)

pub makes_holds : (a b : Account) (by : Duty) (t : Term) (k : Kind) (answer : MakeAnswer) (c : ℕ) → Makes a by t k answer b → Holds c (glimpse a) (glimpse b)
makes_holds a b by t k (Ok id) c h = subst (λ (x : Account). Holds c (glimpse a) (glimpse x)) (sym h.2) (made_holds a by t k c)
makes_holds a b by t k (Err r) c h = (refused_own a b by t k r c h).holds

pub makes_reaches : (a b : Account) (by : Duty) (t : Term) (k : Kind) (answer : MakeAnswer) → Makes a by t k answer b → Reaches (glimpse a) (glimpse b)
makes_reaches a b by t k answer h = (makes_holds a b by t k answer 0 h).reaches

-- one cell's claims change
module _ (a : Account) (i c : ℕ) (p q : Cell) (at : slice_get a.cells i ≡ Some p) where
  written_here : cell_at (with_cell a (suc i) q) (suc i) ≡ Some q
  written_here = set_here a.cells i p q at

  written_other : (id : ℕ) → id ≢ suc i → cell_at (with_cell a (suc i) q) id ≡ cell_at a id
  written_other zero n = refl
  written_other (suc j) n = set_other a.cells i j q (λ e. n (ap suc e))

  pub written_reaches : Stays p q → Reaches (glimpse a) (glimpse (with_cell a (suc i) q))
  written_reaches s = record { limit = refl; cells = λ id x f. cell id x f (same_or id (suc i)); forms = λ k f e. (f, e, form_stays_same f); spent = λ e. e; gave_up = λ e. e }
    where
      cell : (id : ℕ) (x : Cell) → cell_at a id ≡ Some x → (id ≡ suc i) ⊎ (id ≢ suc i) → (y : Cell) × (cell_at (with_cell a (suc i) q) id ≡ Some y) × Stays x y
      cell id x f (inl g) =
          let h : p ≡ x = same_Some p x (sym at ∙ (ap (λ k. cell_at a k) (sym g) ∙ f)) in
          (q, ap (λ k. cell_at (with_cell a (suc i) q) k) g ∙ written_here, subst (λ z. Stays z q) h s)
      cell id x f (inr n) = (x, written_other id n ∙ f, stays_same x)

  written_forced : (p.state ≢ S.Forcing c) → (id : ℕ) (asker : Option ℕ) → IsForced (glimpse a) id c asker → IsForced (glimpse (with_cell a (suc i) q)) id c asker
  written_forced never id asker f = by (same_or id (suc i))
    where
      by : (id ≡ suc i) ⊎ (id ≢ suc i) → IsForced (glimpse (with_cell a (suc i) q)) id c asker
      by (inl g) =
          let h : p ≡ f.cell = same_Some p f.cell (sym at ∙ (ap (λ k. cell_at a k) (sym g) ∙ f.at)) in
          absurd (never (ap (λ (y : Cell). y.state) h ∙ f.has.state))
      by (inr n) = record { cell = f.cell; past = f.past; at = written_other id n ∙ f.at; has = f.has }

  written_back : (q.state ≢ S.Forcing c) → (id : ℕ) (asker : Option ℕ) → IsForced (glimpse (with_cell a (suc i) q)) id c asker → IsForced (glimpse a) id c asker
  written_back never id asker f = by (same_or id (suc i))
    where
      by : (id ≡ suc i) ⊎ (id ≢ suc i) → IsForced (glimpse a) id c asker
      by (inl g) =
          let h : q ≡ f.cell = same_Some q f.cell (sym written_here ∙ (ap (λ k. cell_at (with_cell a (suc i) q) k) (sym g) ∙ f.at)) in
          absurd (never (ap (λ (y : Cell). y.state) h ∙ f.has.state))
      by (inr n) = record { cell = f.cell; past = f.past; at = sym (written_other id n) ∙ f.at; has = f.has }

  pub written_holds : Stays p q → p.state ≢ S.Forcing c → q.state ≢ S.Forcing c → Holds c (glimpse a) (glimpse (with_cell a (suc i) q))
  written_holds s never later = record { reaches = written_reaches s; forced = written_forced never; forced_back = written_back later; begun = λ k n e. e; begun_back = λ k n e. e }

  written_asked : asked_by c q.attempts ≡ asked_by c p.attempts → (id : ℕ) → asked_at c (cell_at (with_cell a (suc i) q) id) ≡ asked_at c (cell_at a id)
  written_asked t id = by (same_or id (suc i))
    where
      by : (id ≡ suc i) ⊎ (id ≢ suc i) → asked_at c (cell_at (with_cell a (suc i) q) id) ≡ asked_at c (cell_at a id)
      by (inl g) = ap (λ k. asked_at c (cell_at (with_cell a (suc i) q) k)) g ∙ (ap (asked_at c) written_here ∙ (t ∙ (ap (asked_at c) (sym at) ∙ ap (λ k. asked_at c (cell_at a k)) (sym g))))
      by (inr n) = ap (asked_at c) (written_other id n)

  pub written_onward : Stays p q → p.state ≢ S.Forcing c → q.state ≢ S.Forcing c → asked_by c q.attempts ≡ asked_by c p.attempts → Onward c (glimpse a) (glimpse (with_cell a (suc i) q))
  written_onward s never later t = record { holds = written_holds s never later; made = written_made a i c p q at s.maker; asked = written_asked t }

asked_more : (c : ℕ) (xs : List Attempt) (x : Attempt) → asked_by c (xs ++ x ∷ []) ≡ asked_by c xs ++ cond (is_asker c x.asker) (x ∷ []) []
asked_more c [] x = refl
asked_more c (y ∷ xs) x = at (is_asker c y.asker) _ _ _ (asked_more c xs x)
  where
    at : (t : Bool) (m n k : List Attempt) → m ≡ n ++ k → cond t (y ∷ m) m ≡ cond t (y ∷ n) n ++ k
    at true m n k r = ap (λ l. y ∷ l) r
    at false m n k r = r

not_asker : (c : ℕ) (o : Option ℕ) → o ≢ Some c → is_asker c o ≡ false
not_asker c None k = refl
not_asker c (Some x) k = ne_eqb x c (λ e. k (ap Some e))

asked_else : (c : ℕ) (xs : List Attempt) (x : Attempt) → x.asker ≢ Some c → asked_by c (xs ++ x ∷ []) ≡ asked_by c xs
asked_else c xs x n = asked_more c xs x ∙ (ap (λ (t : Bool). asked_by c xs ++ cond t (x ∷ []) []) (not_asker c x.asker n) ∙ append_none (asked_by c xs))

asked_own : (c : ℕ) (xs : List Attempt) (x : Attempt) → x.asker ≡ Some c → asked_by c (xs ++ x ∷ []) ≡ asked_by c xs ++ x ∷ []
asked_own c xs x e = asked_more c xs x ∙ ap (λ (t : Bool). asked_by c xs ++ cond t (x ∷ []) []) (ap (is_asker c) e ∙ eq-eqb c c refl)

-- a claim is opened
pub claimed_stays : (p : Cell) (claim : ℕ) (asker : Option ℕ) → p.state ≡ S.Empty → Stays p (claimed p claim asker)
claimed_stays p claim asker s = record {
  term = refl;
  kind = refl;
  maker = refl;
  ordinal = refl;
  outcomes = refl;
  done = λ v e. absurd (empty_done v (sym s ∙ e));
  failed = λ w e. absurd (empty_failed w (sym s ∙ e));
  attempts = λ i x e. (x, get_longer p.attempts i (opened claim asker) x e, continues_same x);
}

pub claims_refused : (a b : Account) (id : ℕ) (asker : Option ℕ) (r : ClaimRefusal) (c : ℕ) → Claims a id asker (Err r) b → Onward c (glimpse a) (glimpse b)
claims_refused a b id asker r c h = subst (λ (x : Account). Onward c (glimpse a) (glimpse x)) (sym h.0) (onward_same c (glimpse a))

pub claims_reaches : (a b : Account) (id : ℕ) (asker : Option ℕ) (answer : ClaimAnswer) → Claims a id asker answer b → Reaches (glimpse a) (glimpse b)
claims_reaches a b id asker (Err r) h = subst (λ (x : Account). Reaches (glimpse a) (glimpse x)) (sym h.0) (reaches_same (glimpse a))
claims_reaches a b zero asker (Ok w) (n, (p, at, s, f, x, y, is)) = absurd (none-some p at)
claims_reaches a b (suc i) asker (Ok w) (n, (p, at, s, f, x, y, is)) =
    subst (λ (z : Account). Reaches (glimpse a) (glimpse z)) (sym is) (written_reaches a i 0 p (claimed p w.claim asker) at (claimed_stays p w.claim asker s))

pub claims_holds : (a b : Account) (id : ℕ) (asker : Option ℕ) (answer : ClaimAnswer) (c : ℕ) → Claims a id asker answer b → IfOk answer (λ (w : Duty). c ≢ w.claim) → Holds c (glimpse a) (glimpse b)
claims_holds a b id asker (Err r) c h d = (claims_refused a b id asker r c h).holds
claims_holds a b zero asker (Ok w) c (n, (p, at, s, f, x, y, is)) d = absurd (none-some p at)
claims_holds a b (suc i) asker (Ok w) c (n, (p, at, s, f, x, y, is)) d =
    subst (λ (z : Account). Holds c (glimpse a) (glimpse z)) (sym is)
    (written_holds a i c p (claimed p w.claim asker) at (claimed_stays p w.claim asker s) (λ e. empty_forcing c (sym s ∙ e)) (λ e. d (sym (forcing_same w.claim c e))))

-- of one who isn't the asker
pub claims_onward : (a b : Account) (id : ℕ) (asker : Option ℕ) (answer : ClaimAnswer) (c : ℕ) → Claims a id asker answer b → IfOk answer (λ (w : Duty). c ≢ w.claim) → asker ≢ Some c → Onward c (glimpse a) (glimpse b)
claims_onward a b id asker (Err r) c h d k = claims_refused a b id asker r c h
claims_onward a b zero asker (Ok w) c (n, (p, at, s, f, x, y, is)) d k = absurd (none-some p at)
claims_onward a b (suc i) asker (Ok w) c (n, (p, at, s, f, x, y, is)) d k =
    subst (λ (z : Account). Onward c (glimpse a) (glimpse z)) (sym is)
    (written_onward a i c p (claimed p w.claim asker) at (claimed_stays p w.claim asker s) (λ e. empty_forcing c (sym s ∙ e)) (λ e. d (sym (forcing_same w.claim c e))) (asked_else c p.attempts (opened w.claim asker) k))

-- of the asker
pub claims_asked : (a b : Account) (id c : ℕ) (w : Duty) → Claims a id (Some c) (Ok w) b → c ≢ w.claim → AskedOne c id w.claim (glimpse a) (glimpse b)
claims_asked a b zero c w (n, (p, at, s, f, x, y, is)) d = absurd (none-some p at)
claims_asked a b (suc i) c w (n, (p, at, s, f, x, y, is)) d =
    let q : Cell = claimed p w.claim (Some c) in
    subst (λ (z : Account). AskedOne c (suc i) w.claim (glimpse a) (glimpse z)) (sym is) (record {
      holds = written_holds a i c p q at (claimed_stays p w.claim (Some c) s) (λ e. empty_forcing c (sym s ∙ e)) (λ e. d (sym (forcing_same w.claim c e)));
      made = written_made a i c p q at refl;
      here = ap (asked_at c) (written_here a i c p q at) ∙ (asked_own c p.attempts (opened w.claim (Some c)) refl ∙ ap (λ (l : List Attempt). l ++ opened w.claim (Some c) ∷ []) (ap (asked_at c) (sym at)));
      elsewhere = λ j k. ap (asked_at c) (written_other a i c p q at j k);
    })

-- a claim on a cell ends
forcing_done : (c : ℕ) (v : Value) → S.Forcing c ≡ S.Done v → ⊥
forcing_done c v e = cc

forcing_failed : (c : ℕ) (w : Thrown) → S.Forcing c ≡ S.Failed w → ⊥
forcing_failed c w e = cc

pub after_stays : (p : Cell) (claim : ℕ) (asker : Option ℕ) (past : List Attempt) (end : ClaimEnd) (state : State) → HasOpen p claim asker past → Stays p (after_claim p claim asker past end state)
after_stays p claim asker past end state h = record {
  term = refl;
  kind = refl;
  maker = refl;
  ordinal = refl;
  outcomes = refl;
  done = λ v e. absurd (forcing_done claim v (sym h.state ∙ e));
  failed = λ w e. absurd (forcing_failed claim w (sym h.state ∙ e));
  attempts = λ i x e. at i x (get_snoc past i (opened claim asker) x (ap (λ l. slice_get l i) (sym h.attempts) ∙ e));
}
  where
    still : true ≡ false → ⊥
    still e = cc

    at : (i : ℕ) (x : Attempt) → ((i ≡ length past) × (opened claim asker ≡ x)) ⊎ (slice_get past i ≡ Some x) → (y : Attempt) × (slice_get (past ++ closed claim asker end ∷ []) i ≡ Some y) × Continues x y
    at i x (inl s) = (closed claim asker end, get_last past (closed claim asker end) i s.0, subst (λ (z : Attempt). Continues z (closed claim asker end)) s.1 (record { claim = refl; asker = refl; ended = λ e. absurd (still e) }))
    at i x (inr s) = (x, get_longer past i (closed claim asker end) x s, continues_same x)

-- an idle state forces nothing
idle_apart : (c : ℕ) (x : State) → forces c x ≡ false → x ≢ S.Forcing c
idle_apart c x n e = at (sym (ap (forces c) e ∙ eq-eqb c c refl) ∙ n)
  where
    at : true ≡ false → ⊥
    at t = cc

form_stays : (number claim : ℕ) (end : ClaimEnd) (value : Option Value) → FormStays (begun_form number claim) (record { number = number; attempt = closed claim None end; value = value })
form_stays number claim end value = record { number = refl; attempt = record { claim = refl; asker = refl; ended = λ e. absurd (still e) }; value = λ e. absurd (still e) }
  where
    still : true ≡ false → ⊥
    still e = cc

-- a claim on a form ends
pub form_onward : (a : Account) (k number claim : ℕ) (end : ClaimEnd) (value : Option Value) (c : ℕ) → slice_get a.forms k ≡ Some (begun_form number claim) → is_open end ≡ false → c ≢ claim → Onward c (glimpse a) (glimpse (with_form a k (record { number = number; attempt = closed claim None end; value = value })))
form_onward a k number claim end value c at closes n = record {
  holds = record {
    reaches = record { limit = refl; cells = λ id p e. (p, e, stays_same p); forms = λ j f e. form j f e (same_or j k); spent = λ e. e; gave_up = λ e. e };
    forced = λ id asker f. record { cell = f.cell; past = f.past; at = f.at; has = f.has };
    forced_back = λ id asker f. record { cell = f.cell; past = f.past; at = f.at; has = f.has };
    begun = λ j m e. begun j m e (same_or j k);
    begun_back = λ j m e. back j m (get_set a.forms k j q (begun_form m c) e);
  };
  made = refl;
  asked = λ id. refl;
}
  where
    q : Form
    q = record { number = number; attempt = closed claim None end; value = value }

    form : (j : ℕ) (f : Form) → slice_get a.forms j ≡ Some f → (j ≡ k) ⊎ (j ≢ k) → (g : Form) × (slice_get (slice_set a.forms k q) j ≡ Some g) × FormStays f g
    form j f e (inl s) =
        let h : begun_form number claim ≡ f = same_Some (begun_form number claim) f (sym at ∙ (ap (slice_get a.forms) (sym s) ∙ e)) in
        (q, ap (slice_get (slice_set a.forms k q)) s ∙ set_here a.forms k (begun_form number claim) q at, subst (λ z. FormStays z q) h (form_stays number claim end value))
    form j f e (inr d) = (f, set_other a.forms k j q d ∙ e, form_stays_same f)

    begun : (j m : ℕ) → slice_get a.forms j ≡ Some (begun_form m c) → (j ≡ k) ⊎ (j ≢ k) → slice_get (slice_set a.forms k q) j ≡ Some (begun_form m c)
    begun j m e (inl s) = absurd (n (ap (λ (f : Form). f.attempt.claim) (same_Some (begun_form m c) (begun_form number claim) (sym e ∙ (ap (slice_get a.forms) s ∙ at)))))
    begun j m e (inr d) = set_other a.forms k j q d ∙ e

    apart : false ≡ true → ⊥
    apart e = cc

    back : (j m : ℕ) → ((j ≡ k) × (q ≡ begun_form m c)) ⊎ ((j ≢ k) × (slice_get a.forms j ≡ Some (begun_form m c))) → slice_get a.forms j ≡ Some (begun_form m c)
    back j m (inl t) = absurd (apart (sym closes ∙ ap (λ (f : Form). is_open f.attempt.end) t.1))
    back j m (inr t) = t.1

module _ (a b : Account) (w : Duty) (end : ClaimEnd) (state : Kind → State) (value : Option Value) (c : ℕ) (n : is_open end ≡ false) (idle : (k : Kind) (d : ℕ) → forces d (state k) ≡ false) where
  -- what the others have open stays open
  pub ends_holds : Ends a w end state value b → c ≢ w.claim → Holds c (glimpse a) (glimpse b)
  ends_holds h d = at w.place h
    where
      at : (x : Place) → Ends a (record { place = x; claim = w.claim; outcomes = w.outcomes }) end state value b → Holds c (glimpse a) (glimpse b)
      at (P.Form number k) (e, is) = subst (λ (z : Account). Holds c (glimpse a) (glimpse z)) (sym is) ((form_onward a k number w.claim end value c e n d).holds)
      at (P.Part zero kind term) (p, asker, past, e, o, is) = absurd (none-some p e)
      at (P.Part (suc i) kind term) (p, asker, past, e, o, is) =
          subst (λ (y : Account). Holds c (glimpse a) (glimpse y)) (sym is) (written_holds a i c p (after_claim p w.claim asker past end (state p.kind)) e (after_stays p w.claim asker past end (state p.kind) o) (λ s. d (forcing_same c w.claim (sym s ∙ o.state))) (idle_apart c (state p.kind) (idle p.kind c)))

  -- c didn't ask for the claim that ends
  pub ends_onward : Ends a w end state value b → c ≢ w.claim → ((id : ℕ) → ¬ IsForced (glimpse a) id w.claim (Some c)) → Onward c (glimpse a) (glimpse b)
  ends_onward h d never = at w.place h
    where
      at : (x : Place) → Ends a (record { place = x; claim = w.claim; outcomes = w.outcomes }) end state value b → Onward c (glimpse a) (glimpse b)
      at (P.Form number k) (e, is) = subst (λ (z : Account). Onward c (glimpse a) (glimpse z)) (sym is) (form_onward a k number w.claim end value c e n d)
      at (P.Part zero kind term) (p, asker, past, e, o, is) = absurd (none-some p e)
      at (P.Part (suc i) kind term) (p, asker, past, e, o, is) =
          let other : asker ≢ Some c = λ s. never (suc i) (record { cell = p; past = past; at = e; has = subst (λ (y : Option ℕ). HasOpen p w.claim y past) s o }) in
          let z : asked_by c (past ++ closed w.claim asker end ∷ []) ≡ asked_by c p.attempts = asked_else c past (closed w.claim asker end) other ∙ (sym (asked_else c past (opened w.claim asker) other) ∙ ap (asked_by c) (sym o.attempts)) in
          subst (λ (y : Account). Onward c (glimpse a) (glimpse y)) (sym is)
          (written_onward a i c p (after_claim p w.claim asker past end (state p.kind)) e (after_stays p w.claim asker past end (state p.kind) o) (λ s. d (forcing_same c w.claim (sym s ∙ o.state))) (idle_apart c (state p.kind) (idle p.kind c)) z)

  -- the claim that c asked for ends
  pub ends_answered : (id : ℕ) (kind : Kind) (term : Term) → w.place ≡ P.Part id kind term → Ends a w end state value b → c ≢ w.claim → IsForced (glimpse a) id w.claim (Some c) → Answered c id (closed w.claim (Some c) end) (glimpse a) (glimpse b)
  ends_answered id kind term place h d f = at id f (subst (λ (x : Place). Ends a (record { place = x; claim = w.claim; outcomes = w.outcomes }) end state value b) place h)
    where
      last_same : (xs ys : List Attempt) (x y : Attempt) → xs ++ x ∷ [] ≡ ys ++ y ∷ [] → x ≡ y
      last_same [] [] x y e = cc
      last_same [] (z ∷ []) x y e = absurd cc
      last_same [] (z ∷ (u ∷ ys)) x y e = absurd cc
      last_same (z ∷ []) [] x y e = absurd cc
      last_same (z ∷ (u ∷ xs)) [] x y e = absurd cc
      last_same (z ∷ xs) (u ∷ ys) x y e = let t : xs ++ x ∷ [] ≡ ys ++ y ∷ [] = cc in last_same xs ys x y t

      at : (j : ℕ) → IsForced (glimpse a) j w.claim (Some c) → Ends a (record { place = P.Part j kind term; claim = w.claim; outcomes = w.outcomes }) end state value b → Answered c j (closed w.claim (Some c) end) (glimpse a) (glimpse b)
      at zero g (p, asker, past, e, o, is) = absurd (none-some p e)
      at (suc i) g (p, asker, past, e, o, is) =
          let same : p ≡ g.cell = same_Some p g.cell (sym e ∙ g.at) in
          let open_same : opened w.claim asker ≡ opened w.claim (Some c) = last_same past g.past (opened w.claim asker) (opened w.claim (Some c)) (sym o.attempts ∙ (ap (λ (x : Cell). x.attempts) same ∙ g.has.attempts)) in
          let who : asker ≡ Some c = ap (λ (x : Attempt). x.asker) open_same in
          let q = after_claim p w.claim asker past end (state p.kind) in
          let old : asked_by c p.attempts ≡ asked_by c past ++ opened w.claim (Some c) ∷ [] = ap (asked_by c) o.attempts ∙ (asked_own c past (opened w.claim asker) who ∙ ap (λ (y : Option ℕ). asked_by c past ++ opened w.claim y ∷ []) who) in
          let new : asked_by c q.attempts ≡ asked_by c past ++ closed w.claim (Some c) end ∷ [] = asked_own c past (closed w.claim asker end) who ∙ ap (λ (y : Option ℕ). asked_by c past ++ closed w.claim y end ∷ []) who in
          subst (λ (y : Account). Answered c (suc i) (closed w.claim (Some c) end) (glimpse a) (glimpse y)) (sym is) (record {
            holds = written_holds a i c p q e (after_stays p w.claim asker past end (state p.kind) o) (λ s. d (forcing_same c w.claim (sym s ∙ o.state))) (idle_apart c (state p.kind) (idle p.kind c));
            made = written_made a i c p q e refl;
            past = asked_by c past;
            was = ap (asked_at c) e ∙ old;
            here = ap (asked_at c) (written_here a i c p q e) ∙ new;
            elsewhere = λ j k. ap (asked_at c) (written_other a i c p q e j k);
          })

-- the three ways in which a claim ends
pub failed_idle : (why : Thrown) (k : Kind) (c : ℕ) → forces c (failed_state why k) ≡ false
failed_idle why Lazy c = refl
failed_idle why Future c = refl

pub finishes_holds : (a b : Account) (w : Duty) (v : Value) (c : ℕ) → Finishes a w v b → c ≢ w.claim → Holds c (glimpse a) (glimpse b)
finishes_holds a b w v c h d = ends_holds a b w E.Value (λ _. S.Done v) (Some v) c refl (λ k e. refl) h d

pub finishes_onward : (a b : Account) (w : Duty) (v : Value) (c : ℕ) → Finishes a w v b → c ≢ w.claim → ((id : ℕ) → ¬ IsForced (glimpse a) id w.claim (Some c)) → Onward c (glimpse a) (glimpse b)
finishes_onward a b w v c h d never = ends_onward a b w E.Value (λ _. S.Done v) (Some v) c refl (λ k e. refl) h d never

pub finishes_answered : (a b : Account) (w : Duty) (v : Value) (c id : ℕ) (kind : Kind) (term : Term) → w.place ≡ P.Part id kind term → Finishes a w v b → c ≢ w.claim → IsForced (glimpse a) id w.claim (Some c) → Answered c id (closed w.claim (Some c) E.Value) (glimpse a) (glimpse b)
finishes_answered a b w v c id kind term place h d f = ends_answered a b w E.Value (λ _. S.Done v) (Some v) c refl (λ k e. refl) id kind term place h d f

pub fails_holds : (a b : Account) (w : Duty) (why : Thrown) (c : ℕ) → Fails a w why b → c ≢ w.claim → Holds c (glimpse a) (glimpse b)
fails_holds a b w why c h d = ends_holds a b w (E.Error why) (failed_state why) None c refl (failed_idle why) h d

pub fails_onward : (a b : Account) (w : Duty) (why : Thrown) (c : ℕ) → Fails a w why b → c ≢ w.claim → ((id : ℕ) → ¬ IsForced (glimpse a) id w.claim (Some c)) → Onward c (glimpse a) (glimpse b)
fails_onward a b w why c h d never = ends_onward a b w (E.Error why) (failed_state why) None c refl (failed_idle why) h d never

pub fails_answered : (a b : Account) (w : Duty) (why : Thrown) (c id : ℕ) (kind : Kind) (term : Term) → w.place ≡ P.Part id kind term → Fails a w why b → c ≢ w.claim → IsForced (glimpse a) id w.claim (Some c) → Answered c id (closed w.claim (Some c) (E.Error why)) (glimpse a) (glimpse b)
fails_answered a b w why c id kind term place h d f = ends_answered a b w (E.Error why) (failed_state why) None c refl (failed_idle why) id kind term place h d f

pub gives_up_holds : (a b : Account) (w : Duty) (c : ℕ) → GivesUp a w b → c ≢ w.claim → Holds c (glimpse a) (glimpse b)
gives_up_holds a b w c (m, h, e) d =
    subst (λ (z : Account). Holds c (glimpse a) (glimpse z)) (sym e) (holds_then c (glimpse a) (glimpse m) (glimpse (record m { gave_up = true })) (ends_holds a m w E.GivenUp (λ _. S.Empty) None c refl (λ k e. refl) h d) (noted_holds m m.spent true (λ x. x) (λ x. refl) c))

pub gives_up_onward : (a b : Account) (w : Duty) (c : ℕ) → GivesUp a w b → c ≢ w.claim → ((id : ℕ) → ¬ IsForced (glimpse a) id w.claim (Some c)) → Onward c (glimpse a) (glimpse b)
gives_up_onward a b w c (m, h, e) d never =
    subst (λ (z : Account). Onward c (glimpse a) (glimpse z)) (sym e) (onward_then c (glimpse a) (glimpse m) (glimpse (record m { gave_up = true })) (ends_onward a m w E.GivenUp (λ _. S.Empty) None c refl (λ k e. refl) h d never) (noted_onward m m.spent true (λ x. x) (λ x. refl) c))

pub gives_up_answered : (a b : Account) (w : Duty) (c id : ℕ) (kind : Kind) (term : Term) → w.place ≡ P.Part id kind term → GivesUp a w b → c ≢ w.claim → IsForced (glimpse a) id w.claim (Some c) → Answered c id (closed w.claim (Some c) E.GivenUp) (glimpse a) (glimpse b)
gives_up_answered a b w c id kind term place (m, h, e) d f =
    subst (λ (z : Account). Answered c id (closed w.claim (Some c) E.GivenUp) (glimpse a) (glimpse z)) (sym e) (answered_onward c id (closed w.claim (Some c) E.GivenUp) (glimpse a) (glimpse m) (glimpse (record m { gave_up = true })) (ends_answered a m w E.GivenUp (λ _. S.Empty) None c refl (λ k e. refl) id kind term place h d f) (noted_onward m m.spent true (λ x. x) (λ x. refl) c))

-- growth by a step that ends a claim
pub ends_reaches : (a b : Account) (w : Duty) (end : ClaimEnd) (state : Kind → State) (value : Option Value) → is_open end ≡ false → ((k : Kind) (c : ℕ) → forces c (state k) ≡ false) → Ends a w end state value b → Reaches (glimpse a) (glimpse b)
ends_reaches a b w end state value n idle h = (ends_holds a b w end state value (suc w.claim) n idle h (λ e. absurd (omega arith))).reaches

pub finishes_reaches : (a b : Account) (w : Duty) (v : Value) → Finishes a w v b → Reaches (glimpse a) (glimpse b)
finishes_reaches a b w v h = ends_reaches a b w E.Value (λ _. S.Done v) (Some v) refl (λ k e. refl) h

pub fails_reaches : (a b : Account) (w : Duty) (why : Thrown) → Fails a w why b → Reaches (glimpse a) (glimpse b)
fails_reaches a b w why h = ends_reaches a b w (E.Error why) (failed_state why) None refl (failed_idle why) h

pub gives_up_reaches : (a b : Account) (w : Duty) → GivesUp a w b → Reaches (glimpse a) (glimpse b)
gives_up_reaches a b w h = (gives_up_holds a b w (suc w.claim) h (λ e. absurd (omega arith))).reaches

-- what a part shows after its claim ended
pub ends_shown : (a b : Account) (w : Duty) (end : ClaimEnd) (state : Kind → State) (value : Option Value) (id : ℕ) (kind : Kind) (term : Term) → w.place ≡ P.Part id kind term → Ends a w end state value b → (p : Cell) × (cell_at b id ≡ Some p) × ((k : Kind) × (p.state ≡ state k))
ends_shown a b w end state value id kind term place h = at id (subst (λ (x : Place). Ends a (record { place = x; claim = w.claim; outcomes = w.outcomes }) end state value b) place h)
  where
    at : (j : ℕ) → Ends a (record { place = P.Part j kind term; claim = w.claim; outcomes = w.outcomes }) end state value b → (p : Cell) × (cell_at b j ≡ Some p) × ((k : Kind) × (p.state ≡ state k))
    at zero (p, asker, past, e, o, is) = absurd (none-some p e)
    at (suc i) (p, asker, past, e, o, is) =
        let q = after_claim p w.claim asker past end (state p.kind) in
        (q, ap (λ (z : Account). cell_at z (suc i)) is ∙ set_here a.cells i p q e, (p.kind, refl))

-- the cell after its claim ended, by the cell before
pub ends_cell : (a b : Account) (w : Duty) (end : ClaimEnd) (state : Kind → State) (value : Option Value) (id : ℕ) (kind : Kind) (term : Term) (p : Cell) → w.place ≡ P.Part id kind term → Ends a w end state value b → cell_at a id ≡ Some p → (asker : Option ℕ) × (past : List Attempt) × HasOpen p w.claim asker past × (cell_at b id ≡ Some (after_claim p w.claim asker past end (state p.kind)))
ends_cell a b w end state value id kind term p place h g = at id (subst (λ (x : Place). Ends a (record { place = x; claim = w.claim; outcomes = w.outcomes }) end state value b) place h) g
  where
    at : (j : ℕ) → Ends a (record { place = P.Part j kind term; claim = w.claim; outcomes = w.outcomes }) end state value b → cell_at a j ≡ Some p → (asker : Option ℕ) × (past : List Attempt) × HasOpen p w.claim asker past × (cell_at b j ≡ Some (after_claim p w.claim asker past end (state p.kind)))
    at zero (q, asker, past, e, o, is) f = absurd (none-some q e)
    at (suc i) (q, asker, past, e, o, is) f =
        let same : q ≡ p = same_Some q p (sym e ∙ f) in
        (asker, past, subst (λ (x : Cell). HasOpen x w.claim asker past) same o, ap (λ (z : Account). cell_at z (suc i)) is ∙ (set_here a.cells i q (after_claim q w.claim asker past end (state q.kind)) e ∙ ap (λ (x : Cell). Some (after_claim x w.claim asker past end (state x.kind))) same))

pub fails_shown : (a b : Account) (w : Duty) (why : Thrown) (id : ℕ) (kind : Kind) (term : Term) (p : Cell) → w.place ≡ P.Part id kind term → Fails a w why b → cell_at a id ≡ Some p → shown (cell_at b id) ≡ shown_state (failed_state why p.kind)
fails_shown a b w why id kind term p place h g = ap shown ((ends_cell a b w (E.Error why) (failed_state why) None id kind term p place h g).3)

pub finishes_shown : (a b : Account) (w : Duty) (v : Value) (id : ℕ) (kind : Kind) (term : Term) → w.place ≡ P.Part id kind term → Finishes a w v b → shown (cell_at b id) ≡ L.Done v
finishes_shown a b w v id kind term place h =
    let s = ends_shown a b w E.Value (λ _. S.Done v) (Some v) id kind term place h in
    ap shown s.1 ∙ ap shown_state s.2.1

-- What the readers of forms and claims find.
use Rattle.std.proofs.Common.{◌≡◌, ◌≢◌, ℕ, zero, suc, ◌+◌, ◌<◌, ◌≤◌, Bool, true, false, cond, List, [], ◌∷◌, length, get_or, Some, None, Option, refl, ap, sym, subst, ◌∙◌, arith, ◌⊎◌, inl, inr}
use Rattle.std.specs.Prelude.{slice_get, option_map}
use Rattle.std.proofs.lemmas.Option.{none-some, same_Some, slice_get_within, slice_get_read}
use Rattle.seq_values.specs.declared.value.Value.{Value}
use Rattle.cell_book.specs.declared.cell.Attempt.{Attempt}
use Rattle.cell_book.specs.declared.cell.Cell.{Cell}
use Rattle.cell_book.specs.declared.cell.Form.{Form}
use Rattle.cell_book.specs.declared.claims.Spot.{Spot}
use Rattle.cell_book.specs.declared.claims.Spot.TheVariants as At
use Rattle.cell_book.specs.declared.claims.Entry.{Entry}
use Rattle.cell_book.specs.Account.{Account, cell_at, opens, IsFresh}
use Rattle.cell_book.specs.Registers.{spot_of, EndedBefore, IsLowest, WasOpened, IsRegistered}
use Rattle.cell_book.specs.Readers.{IsLowestOpen, IsClaim, IsAskerOf, FindsForm, IsFormClaim, form_value_in, IsFormValue}
use Rattle.cell_book.proofs.Lists.{get_within, same_or, below_or}
use Rattle.cell_book.proofs.Opening.{fresh_opens}

-- forms by their numbers
pub forms_next : (fs : List Form) (n number : ℕ) (y : Form) → ((k : ℕ) (f : Form) → k < n → slice_get fs k ≡ Some f → f.number ≢ number) → n < length fs → y ≡ get_or fs n y → y.number ≢ number → (k : ℕ) (f : Form) → k < n + 1 → slice_get fs k ≡ Some f → f.number ≢ number
forms_next fs n number y b h g d k f l e = at (same_or k n)
  where
    below : k ≢ n → k < n + 1 → k < n
    below u v = omega arith

    at : (k ≡ n) ⊎ (k ≢ n) → f.number ≢ number
    at (inl s) = subst (λ (x : Form). x.number ≢ number) (same_Some y f (sym (slice_get_read fs (length fs) n y refl h g) ∙ (ap (slice_get fs) (sym s) ∙ e))) d
    at (inr u) = b k f (below u l) e

pub forms_found : (fs : List Form) (n number : ℕ) (y : Form) → n < length fs → y ≡ get_or fs n y → y.number ≡ number → (f : Form) → slice_get fs n ≡ Some f → f.number ≡ number
forms_found fs n number y h g t f e = ap (λ (x : Form). x.number) (same_Some f y (sym e ∙ slice_get_read fs (length fs) n y refl h g)) ∙ t

pub forms_past : (fs : List Form) (n number : ℕ) → length fs ≤ n → (f : Form) → slice_get fs n ≡ Some f → f.number ≡ number
forms_past fs n number h f e = let w = slice_get_within fs n f e in absurd (omega arith)

pub finds_at : (fs : List Form) (k number : ℕ) (f : Form) → slice_get fs k ≡ Some f → f.number ≡ number → FindsForm fs number (Some f)
finds_at fs k number f e n = (n, (k, e))

pub finds_first : (fs : List Form) (k number : ℕ) → ((j : ℕ) (f : Form) → j < k → slice_get fs j ≡ Some f → f.number ≢ number) → ((f : Form) → slice_get fs k ≡ Some f → f.number ≡ number) → FindsForm fs number (slice_get fs k)
finds_first fs k number b h = at (slice_get fs k) refl
  where
    at : (o : Option Form) → slice_get fs k ≡ o → FindsForm fs number o
    at (Some f) e = (h f e, (k, e))
    at None e = λ j f g. b j f (below j f g (below_or j k)) g
      where
        below : (j : ℕ) (f : Form) → slice_get fs j ≡ Some f → (j < k) ⊎ (k ≤ j) → j < k
        below j f g (inl l) = l
        below j f g (inr l) =
            let w = slice_get_within fs j f g in
            let x = get_within fs k (omega arith) in absurd (none-some x.0 (sym e ∙ x.1))

pub claim_found : (a : Account) (number : ℕ) (f : Form) → FindsForm a.forms number (Some f) → IsFormClaim a number (Some (f.attempt.claim, f.attempt.end))
claim_found a number f h = (Some f, h, refl)

pub value_found : (a : Account) (number : ℕ) (found : Option Form) (answer : Option Value) → FindsForm a.forms number found → answer ≡ form_value_in found → IsFormValue a number answer
value_found a number found answer h e = (found, h, e)

-- the lowest open claim
pub lowest_open : (a : Account) (claims : List Entry) (answer : Option ℕ) → IsRegistered a claims → ((c : ℕ) → length claims ≤ c → IsFresh a c) → IsLowest claims answer → IsLowestOpen a answer
lowest_open a claims answer r fresh = at answer
  where
    ended : (c : ℕ) → (c < length claims → (x : Entry) → slice_get claims c ≡ Some x → x.ended ≡ true) → opens c a ≡ 0
    ended c e = by (below_or c (length claims))
      where
        by : (c < length claims) ⊎ (length claims ≤ c) → opens c a ≡ 0
        by (inl l) = let x = get_within claims c l in r.often c x.0 x.1 ∙ ap (λ (b : Bool). cond b 0 1) (e l x.0 x.1)
        by (inr l) = fresh_opens a c (fresh c l)

    at : (o : Option ℕ) → IsLowest claims o → IsLowestOpen a o
    at None b = λ c. ended c (λ l x e. b c x l e)
    at (Some n) (x, e, is, b) =
        let o : opens n a ≡ 1 = r.often n x e ∙ ap (λ (y : Bool). cond y 0 1) is in
        (omega arith, λ d l. ended d (λ h y i. b d y l i))

-- who asked for a claim
pub none_asks : (a : Account) (claims : List Entry) (c : ℕ) → ((n : ℕ) → length claims ≤ n → IsFresh a n) → option_map spot_of (slice_get claims c) ≡ None → IsAskerOf a c None
none_asks a claims c fresh none x (e, s) = at s
  where
    past : length claims ≤ c
    past = by (below_or c (length claims))
      where
        by : (c < length claims) ⊎ (length claims ≤ c) → length claims ≤ c
        by (inl l) = let y = get_within claims c l in absurd (none-some y.0.spot (sym none ∙ ap (option_map spot_of) y.1))
        by (inr l) = l

    f : IsFresh a c
    f = fresh c past

    at : ((k : ℕ) × (g : Form) × (slice_get a.forms k ≡ Some g) × (g.attempt ≡ x)) ⊎ ((id : ℕ) × (p : Cell) × (k : ℕ) × (cell_at a id ≡ Some p) × (slice_get p.attempts k ≡ Some x)) → ⊥
    at (inl (k, g, i, s)) = (f.forms k g i).0 (ap (λ (y : Attempt). y.claim) s ∙ e)
    at (inr (zero, p, k, g, i)) = none-some p g
    at (inr (suc j, p, k, g, i)) = ((f.cells j p g).attempts k x i).0 e

pub spotted : (a : Account) (claims : List Entry) (c : ℕ) (s : Spot) → IsRegistered a claims → option_map spot_of (slice_get claims c) ≡ Some s → WasOpened a c s
spotted a claims c s r e = at (slice_get claims c) refl e
  where
    at : (o : Option Entry) → slice_get claims c ≡ o → option_map spot_of o ≡ Some s → WasOpened a c s
    at None g h = absurd (none-some s h)
    at (Some x) g h = subst (WasOpened a c) (same_Some x.spot s h) (r.spots c x g)

pub form_is_there : (a : Account) (c k : ℕ) → WasOpened a c (At.Form k) → slice_get a.forms k ≡ None → ⊥
form_is_there a c k w e = none-some w.0 (sym e ∙ w.1)

pub form_asks : (a : Account) (c k : ℕ) (f : Form) → WasOpened a c (At.Form k) → slice_get a.forms k ≡ Some f → IsAskerOf a c (Some f.attempt.asker)
form_asks a c k f w e = (f.attempt, (ap (λ (x : Form). x.attempt.claim) (same_Some f w.0 (sym e ∙ w.1)) ∙ w.2, inl (k, f, e, refl)), refl)

pub part_is_there : (a : Account) (c id k : ℕ) → WasOpened a c (At.Part id k) → cell_at a id ≡ None → ⊥
part_is_there a c id k w e = none-some w.0 (sym e ∙ w.2)

pub attempt_is_there : (a : Account) (c id k : ℕ) (p : Cell) → WasOpened a c (At.Part id k) → cell_at a id ≡ Some p → slice_get p.attempts k ≡ None → ⊥
attempt_is_there a c id k p w e g = none-some w.1 (sym g ∙ (ap (λ (q : Cell). slice_get q.attempts k) (same_Some p w.0 (sym e ∙ w.2)) ∙ w.3))

pub part_asks : (a : Account) (c id k : ℕ) (p : Cell) (x : Attempt) → WasOpened a c (At.Part id k) → cell_at a id ≡ Some p → slice_get p.attempts k ≡ Some x → IsAskerOf a c (Some x.asker)
part_asks a c id k p x w e g =
    let same : p ≡ w.0 = same_Some p w.0 (sym e ∙ w.2) in
    let here : x ≡ w.1 = same_Some x w.1 (sym g ∙ (ap (λ (q : Cell). slice_get q.attempts k) same ∙ w.3)) in
    (x, (ap (λ (y : Attempt). y.claim) here ∙ w.4, inr (id, p, k, e, g)), refl)

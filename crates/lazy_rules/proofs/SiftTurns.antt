-- Turns over the elements of a chunk, and what is kept of them.
use Rattle.std.proofs.Common.{◌≡◌, ℕ, zero, suc, ◌+◌, ◌<◌, Bool, true, false, if◌then◌else◌, List, [], ◌∷◌, ◌++◌, length, drop, refl, ap, sym, ◌∙◌, append-nil, arith}
use Rattle.seq_values.specs.Model as M
use Rattle.seq_values.specs.Plain.{plain, plains, plain_term}
use Rattle.seq_values.specs.declared.term.Term.{Term}
use Rattle.seq_values.specs.declared.value.Value.{Value}
use Rattle.seq_values.specs.declared.words.Kind.TheVariants.{Lazy}
use Rattle.seq_values.specs.declared.words.Op.{Op}
use Rattle.seq_plan.specs.Plan.{call, make}
use Rattle.seq_plan.specs.Nodes.{is_truthy, is_nil, give_value, with_items}
use Rattle.seq_plan.specs.Lists.{items_and}
use Rattle.seq_turns.specs.declared.next.Next.{Next}
use Rattle.lazy_rules.specs.Arguments.{chosen}
use Rattle.lazy_rules.specs.Left.{kept_of, kept_in, sift_op, sift_left, sift_answered, Takes}
use Rattle.lazy_rules.specs.declared.choosing.Chosen.{Chosen}
use Rattle.lazy_rules.specs.declared.choosing.Chosen.TheVariants as C
use Rattle.lazy_rules.specs.declared.state.Keeps.{Keeps}
use Rattle.lazy_rules.specs.declared.state.Keeps.TheVariants as K
use Rattle.lazy_rules.specs.declared.state.State.{State}
use Rattle.lazy_rules.proofs.Taking.{takes_same, calls_same}

pub elements_chosen : (b : Bool) (c : Chosen) (x y : M.Value ℕ) → b ≡ is_truthy y → c ≡ (if b then C.Element else C.Neither) → kept_of K.Elements x y ≡ chosen c x y
elements_chosen true c x y e q = rw (sym e, q) refl
elements_chosen false c x y e q = rw (sym e, q) refl

pub answers_chosen : (b : Bool) (c : Chosen) (x y : M.Value ℕ) → b ≡ is_nil y → c ≡ (if b then C.Neither else C.Answer) → kept_of K.SomeAnswers x y ≡ chosen c x y
answers_chosen true c x y e q = rw (sym e, q) refl
answers_chosen false c x y e q = rw (sym e, q) refl

pub chunk_ends : (k : Keeps) (f : M.Value ℕ) (kept : List (M.Value ℕ)) (all : List Value) (rest : M.Value ℕ) (r : Next State) → all ≡ [] → Takes (items_and kept (sift_op k) (f ∷ rest ∷ [])) r → Takes (sift_left k f kept (plains all) rest) r
chunk_ends k f kept all rest r e h = rw e h

pub item_calls : (k : Keeps) (f called : Value) (kept : List (M.Value ℕ)) (all : List Value) (rest : M.Value ℕ) (x : Value) (xs : List Value) (args : List Value) (r : Next State) → all ≡ x ∷ xs → called ≡ f → plains args ≡ plain x ∷ [] → Takes (call (plain called) (plains args) (λ y. sift_answered k (plain f) kept (plains all) rest y)) r → Takes (sift_left k (plain f) kept (plains all) rest) r
item_calls k f called kept all rest x xs args r e e2 e3 h =
    let j : Takes (call (plain called) (plains args) (λ y. sift_answered k (plain f) kept (plains (x ∷ xs)) rest y)) r = takes_same (λ i. call (plain called) (plains args) (λ y. sift_answered k (plain f) kept (plains (e i)) rest y)) h in
    rw e (calls_same f called args (plain x ∷ []) (λ y. sift_answered k (plain f) kept (plains (x ∷ xs)) rest y) e2 e3 j)

pub items_make : (k : Keeps) (f rest : M.Value ℕ) (kept items : List Value) (t : Term) (op : Op) (r : Next State) → items ≡ kept → op ≡ sift_op k → plain_term t ≡ record { op = op; args = f ∷ rest ∷ [] } → Takes (make Lazy (plain_term t) (λ m. give_value (with_items (M.values (plains items)) (M.cell m)))) r → Takes (items_and (plains kept) (sift_op k) (f ∷ rest ∷ [])) r
items_make k f rest kept items t op r e o q h =
    let p : plain_term t ≡ record { op = sift_op k; args = f ∷ rest ∷ [] } = q ∙ ap (λ x. record { op = x; args = f ∷ rest ∷ [] }) o in
    takes_same (λ i. make Lazy (p i) (λ m. give_value (with_items (M.values (plains (e i))) (M.cell m)))) h

place : (xs : List Value) (k : ℕ) → k < length xs → (x : Value) × (drop k xs ≡ x ∷ drop (k + 1) xs)
place [] k b = absurd (omega arith)
place (x ∷ xs) zero b = (x, refl)
place (x ∷ xs) (suc k) b =
    let e : suc k + 1 ≡ suc (k + 1) = omega arith in
    let p = place xs k (omega arith) in
    (p.0, rw e p.1)

by_first : (k : Keeps) (f : M.Value ℕ) (kept ks : List (M.Value ℕ)) (all xs : List Value) (x : Value) (rest y : M.Value ℕ) → all ≡ x ∷ xs → ks ≡ kept ++ kept_in k (plains all) y → sift_left k f ks (plains xs) rest ≡ sift_answered k f kept (plains all) rest y
by_first k f kept ks all xs x rest y e q =
    let p : ks ≡ kept ++ kept_of k (plain x) y = q ∙ ap (λ l. kept ++ kept_in k (plains l) y) e in
    ap (λ l. sift_left k f l (plains xs) rest) p ∙ sym (ap (λ l. sift_answered k f kept (plains l) rest y) e)

-- what is left after an answer
pub answered : (k : Keeps) (f : M.Value ℕ) (kept ks : List (M.Value ℕ)) (items : List Value) (at : ℕ) (rest y : M.Value ℕ) → at < length items → ks ≡ kept ++ kept_in k (plains (drop at items)) y → sift_left k f ks (plains (drop (at + 1) items)) rest ≡ sift_answered k f kept (plains (drop at items)) rest y
answered k f kept ks items at rest y b q =
    let p = place items at b in
    by_first k f kept ks (drop at items) (drop (at + 1) items) p.0 rest y p.1 q

-- what is kept of the first of some elements, by what was chosen
pub kept_answer : (k : Keeps) (c : Chosen) (kept all : List (M.Value ℕ)) (items : List Value) (at : ℕ) (y : M.Value ℕ) → at < length items → ((x : M.Value ℕ) → kept_of k x y ≡ chosen c x y) → c ≡ C.Answer → all ≡ kept ++ y ∷ [] → all ≡ kept ++ kept_in k (plains (drop at items)) y
kept_answer k c kept all items at y b h e q =
    let p = place items at b in
    q ∙ sym (ap (λ l. kept ++ kept_in k (plains l) y) p.1 ∙ ap (λ l. kept ++ l) (h (plain p.0) ∙ ap (λ d. chosen d (plain p.0) y) e))

pub kept_element : (k : Keeps) (c : Chosen) (kept all : List (M.Value ℕ)) (items : List Value) (at : ℕ) (y : M.Value ℕ) → at < length items → ((x : M.Value ℕ) → kept_of k x y ≡ chosen c x y) → c ≡ C.Element → ((x : Value) → drop at items ≡ x ∷ drop (at + 1) items → all ≡ kept ++ plain x ∷ []) → all ≡ kept ++ kept_in k (plains (drop at items)) y
kept_element k c kept all items at y b h e q =
    let p = place items at b in
    q p.0 p.1 ∙ sym (ap (λ l. kept ++ kept_in k (plains l) y) p.1 ∙ ap (λ l. kept ++ l) (h (plain p.0) ∙ ap (λ d. chosen d (plain p.0) y) e))

pub kept_neither : (k : Keeps) (c : Chosen) (kept : List (M.Value ℕ)) (items : List Value) (at : ℕ) (y : M.Value ℕ) → at < length items → ((x : M.Value ℕ) → kept_of k x y ≡ chosen c x y) → c ≡ C.Neither → kept ≡ kept ++ kept_in k (plains (drop at items)) y
kept_neither k c kept items at y b h e =
    let p = place items at b in
    sym (ap (λ l. kept ++ kept_in k (plains l) y) p.1 ∙ ap (λ l. kept ++ l) (h (plain p.0) ∙ ap (λ d. chosen d (plain p.0) y) e) ∙ append-nil kept)

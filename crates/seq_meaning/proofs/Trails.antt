-- A trail is a part of a run.
use Rattle.std.proofs.Common.{◌≡◌, ℕ, zero, suc, List, [], ◌∷◌, ◌++◌, refl, ap, sym, subst, ◌∙◌, append_assoc, length, map, Some, slice_get}
use Rattle.seq_base.specs.declared.thrown.Thrown.{Thrown}
use Rattle.seq_base.specs.declared.thrown.Thrown.TheVariants.{BadType, Steps}
use Rattle.seq_values.specs.Model.{Value, Outcome, gave, threw}
use Rattle.seq_plan.specs.Plan.{Plan, ask, seq, give, throw}
use Rattle.seq_plan.specs.Nodes.{now, asks_for, no_seq, found}
use Rattle.seq_plan.specs.Silent.{Silently, arrives, opens, finds}
use Rattle.seq_meaning.specs.Evaluates.{Script}
use Rattle.seq_meaning.specs.Walk.{at_found, Made, made, needs, ends, walk, finish, asks, walk_by, meets_answer, spent}
use Rattle.seq_meaning.specs.Reached.{also_all, Reached}
use Rattle.seq_meaning.specs.Trail.{Trail, starts, looped, visited, entered, at_once, sought, missed, tired, answered, refused, made_part, IsDue, due_visit, due_ask, due_call, answers_of, mades_of, Calls}
use Rattle.seq_meaning.proofs.Reaching.{begins, at_opened, after_visit, after_call, after_make, after_answer, at_ask, at_give, at_throw}

-- a member of a list is one with another behind it, and the other stands at the end
pub old_at : {A : Type 0} (xs : List A) (y : A) (i : ℕ) (x : A) → slice_get xs i ≡ Some x → slice_get (xs ++ y ∷ []) i ≡ Some x
old_at [] y i x p = absurd cc
old_at (z ∷ xs) y zero x p = p
old_at (z ∷ xs) y (suc i) x p = old_at xs y i x p

pub new_at : {A : Type 0} (xs : List A) (y : A) → slice_get (xs ++ y ∷ []) (length xs) ≡ Some y
new_at [] y = refl
new_at (z ∷ xs) y = new_at xs y

pub map-push : {A B : Type 0} (f : A → B) (xs : List A) (x : A) → map f (xs ++ x ∷ []) ≡ map f xs ++ f x ∷ []
map-push f [] x = refl
map-push f (y ∷ xs) x = ap (λ l. f y ∷ l) (map-push f xs x)

pub length-push : {A : Type 0} (xs : List A) (x : A) → length (xs ++ x ∷ []) ≡ suc (length xs)
length-push [] x = refl
length-push (y ∷ xs) x = ap suc (length-push xs x)

pub fewer : {C : Type 0} (cell_of : ℕ → C) (ms : List (C × Made C)) (m : C × Made C) → Calls cell_of (ms ++ m ∷ []) → Calls cell_of ms
fewer cell_of ms m k i x p = k i x (old_at ms m i x p)

module _ {C : Type 0} (script : Script C) (cell_of : ℕ → C) where
  -- the walks of two plans are the same
  abbrev Alike : ℕ → Plan C → Plan C → Type 0
  Alike n p q = (j : ℕ) (os : List (Outcome C)) → walk script cell_of n p j os ≡ walk script cell_of n q j os

  moved : {limit n j : ℕ} {whole p : Plan C} {ms : List (Made C)} {a : List (Outcome C)} (q : Plan C) → Reached script cell_of limit whole n p j ms a → Alike n p q → Reached script cell_of limit whole n q j ms a
  moved {j = j} {ms = ms} q h e = record { goes_on = λ os. h.goes_on os ∙ ap (also_all ms) (e j os) }

  seq_alike : (n : ℕ) (v : Value C) (k : Value C → Plan C) (w : Value C) → found v ≡ now w → Alike n (seq v k) (k w)
  unfolding walk
  seq_alike zero v k w e j os = ap (at_found (λ w. walk_by script cell_of (spent script cell_of) (k w) j os) (λ c. spent script cell_of (asks c (λ w. seq w k)) j os) (finish (threw BadType) os)) e
  seq_alike (suc n) v k w e j os = ap (at_found (λ w. walk_by script cell_of (meets_answer script cell_of (walk script cell_of n)) (k w) j os) (λ c. meets_answer script cell_of (walk script cell_of n) (asks c (λ w. seq w k)) j os) (finish (threw BadType) os)) e

  ask_alike : (n : ℕ) (v : Value C) (k : Value C → Plan C) (c : C) → found v ≡ asks_for c → Alike n (seq v k) (ask c (λ w. seq w k))
  unfolding walk
  ask_alike zero v k c e j os = ap (at_found (λ w. walk_by script cell_of (spent script cell_of) (k w) j os) (λ c. spent script cell_of (asks c (λ w. seq w k)) j os) (finish (threw BadType) os)) e
  ask_alike (suc n) v k c e j os = ap (at_found (λ w. walk_by script cell_of (meets_answer script cell_of (walk script cell_of n)) (k w) j os) (λ c. meets_answer script cell_of (walk script cell_of n) (asks c (λ w. seq w k)) j os) (finish (threw BadType) os)) e

  miss_alike : (n : ℕ) (v : Value C) (k : Value C → Plan C) → found v ≡ no_seq → Alike n (seq v k) (throw BadType)
  unfolding walk
  miss_alike zero v k e j os = ap (at_found (λ w. walk_by script cell_of (spent script cell_of) (k w) j os) (λ c. spent script cell_of (asks c (λ w. seq w k)) j os) (finish (threw BadType) os)) e
  miss_alike (suc n) v k e j os = ap (at_found (λ w. walk_by script cell_of (meets_answer script cell_of (walk script cell_of n)) (k w) j os) (λ c. meets_answer script cell_of (walk script cell_of n) (asks c (λ w. seq w k)) j os) (finish (threw BadType) os)) e

  tired_alike : (p : Plan C) → IsDue p → Alike 0 p (throw Steps)
  unfolding walk
  tired_alike p due_visit j os = refl
  tired_alike p due_ask j os = refl
  tired_alike p due_call j os = refl

  throw_alike : (n m : ℕ) (e : Thrown) (j : ℕ) (os : List (Outcome C)) → finish (threw e) os ≡ walk script cell_of n (throw e) j os
  unfolding walk
  throw_alike zero m e j os = refl
  throw_alike (suc n) m e j os = refl

  after_refusal : {limit n j : ℕ} {whole : Plan C} {ms : List (Made C)} {a : List (Outcome C)} {c : C} {k : Value C → Plan C} → Reached script cell_of limit whole (suc n) (ask c k) j ms a → (e : Thrown) → Reached script cell_of limit whole n (throw e) j ms (a ++ threw e ∷ [])
  unfolding walk
  after_refusal {limit = limit} {n = n} {j = j} {whole = whole} {ms = ms} {a = a} h e = record { goes_on = λ os. ap (λ l. walk script cell_of limit whole 1 l) (append_assoc a (threw e ∷ []) os) ∙ h.goes_on (threw e ∷ os) ∙ ap (also_all ms) (throw_alike n n e j os) }

  pub trails : (limit : ℕ) (whole : Plan C) (n : ℕ) (p : Plan C) (asked : List (C × Outcome C)) (mades : List (C × Made C)) → Trail script limit whole n p asked mades → Calls cell_of mades → Reached script cell_of limit whole n p (suc (length mades)) (mades_of mades) (answers_of asked)
  trails limit whole n p asked mades starts k = begins script cell_of
  trails limit whole n p asked mades (looped t) k = at_opened script cell_of (trails limit whole _ _ _ _ t k)
  trails limit whole n p asked mades (visited t) k = after_visit script cell_of (trails limit whole _ _ _ _ t k)
  trails limit whole n p asked mades (entered t) k = after_call script cell_of (trails limit whole _ _ _ _ t k)
  trails limit whole n p asked mades (at_once t e) k = moved _ (trails limit whole _ _ _ _ t k) (seq_alike n _ _ _ e)
  trails limit whole n p asked mades (sought t e) k = moved _ (trails limit whole _ _ _ _ t k) (ask_alike n _ _ _ e)
  trails limit whole n p asked mades (missed t e) k = moved _ (trails limit whole _ _ _ _ t k) (miss_alike n _ _ e)
  trails limit whole n p asked mades (tired t d) k = moved _ (trails limit whole _ _ _ _ t k) (tired_alike _ d)
  trails limit whole n p asked mades (answered {c = c} {asked = a0} t v) k = subst (λ l. Reached script cell_of limit whole n p (suc (length mades)) (mades_of mades) l) (sym (map-push (λ x. x.1) a0 (c, gave v))) (after_answer script cell_of (trails limit whole _ _ _ _ t k) v)
  trails limit whole n p asked mades (refused {c = c} {asked = a0} t e) k = subst (λ l. Reached script cell_of limit whole n p (suc (length mades)) (mades_of mades) l) (sym (map-push (λ x. x.1) a0 (c, threw e))) (after_refusal (trails limit whole _ _ _ _ t k) e)
  trails limit whole n p asked mades (made_part {kind = kind} {t = u} {k = h} {mades = ms} t c) k =
      let r = after_make script cell_of (trails limit whole n _ asked ms t (fewer cell_of ms (c, made kind u) k)) in
      let e : cell_of (suc (length ms)) ≡ c = k (length ms) (c, made kind u) (new_at ms (c, made kind u)) in
      let r1 : Reached script cell_of limit whole n (h c) (suc (suc (length ms))) (mades_of ms ++ made kind u ∷ []) (answers_of asked) = subst (λ d. Reached script cell_of limit whole n (h d) (suc (suc (length ms))) (mades_of ms ++ made kind u ∷ []) (answers_of asked)) e r in
      let r2 = subst (λ l. Reached script cell_of limit whole n (h c) (suc (suc (length ms))) l (answers_of asked)) (sym (map-push (λ x. x.1) ms (c, made kind u))) r1 in
      subst (λ l. Reached script cell_of limit whole n (h c) (suc l) (mades_of (ms ++ (c, made kind u) ∷ [])) (answers_of asked)) (sym (length-push ms (c, made kind u))) r2

  all_needs : (c : C) (ms : List (Made C)) → also_all ms (needs c []) ≡ needs c ms
  all_needs c [] = refl
  all_needs c (m ∷ ms) = rw (all_needs c ms)

  all_ends : (o : Outcome C) (ms : List (Made C)) → also_all ms (ends o []) ≡ ends o ms
  all_ends o [] = refl
  all_ends o (m ∷ ms) = rw (all_ends o ms)

  pub trail_needs : (limit : ℕ) (whole : Plan C) (n : ℕ) (c : C) (k : Value C → Plan C) (asked : List (C × Outcome C)) (mades : List (C × Made C)) → Trail script limit whole (suc n) (ask c k) asked mades → Calls cell_of mades → walk script cell_of limit whole 1 (answers_of asked) ≡ needs c (mades_of mades)
  trail_needs limit whole n c k asked mades t h = at_ask script cell_of (trails limit whole (suc n) (ask c k) asked mades t h) ∙ all_needs c (mades_of mades)

  pub trail_gives : (limit : ℕ) (whole : Plan C) (n : ℕ) (v : Value C) (asked : List (C × Outcome C)) (mades : List (C × Made C)) → Trail script limit whole n (give v) asked mades → Calls cell_of mades → walk script cell_of limit whole 1 (answers_of asked) ≡ ends (gave v) (mades_of mades)
  trail_gives limit whole n v asked mades t h = at_give script cell_of (trails limit whole n (give v) asked mades t h) ∙ all_ends (gave v) (mades_of mades)

  pub trail_throws : (limit : ℕ) (whole : Plan C) (n : ℕ) (x : Thrown) (asked : List (C × Outcome C)) (mades : List (C × Made C)) → Trail script limit whole n (throw x) asked mades → Calls cell_of mades → walk script cell_of limit whole 1 (answers_of asked) ≡ ends (threw x) (mades_of mades)
  trail_throws limit whole n x asked mades t h = at_throw script cell_of (trails limit whole n (throw x) asked mades t h) ∙ all_ends (threw x) (mades_of mades)

  pub trail_passes : {limit n : ℕ} {whole p q : Plan C} {asked : List (C × Outcome C)} {mades : List (C × Made C)} → Trail script limit whole n p asked mades → Silently script.rules.on_loop p q → Trail script limit whole n q asked mades
  trail_passes t arrives = t
  trail_passes t (opens s) = trail_passes (looped t) s
  trail_passes t (finds e s) = trail_passes (at_once t e) s

-- One step of a walk, and what is left behind it.
use Rattle.std.proofs.Common.{◌≡◌, ℕ, suc, ◌+◌, ◌-◌, ◌*◌, ◌<◌, ◌≤◌, ◌^◌, Bool, true, false, Option, Some, length, refl, ap, sym, subst, ◌∙◌, arith, add-zero, zero-add, add_assoc}
use Rattle.seq_values.specs.declared.value.Value.{Value}
use Rattle.seq_values.specs.Model as M
use Rattle.seq_values.specs.Model.{list}
use Rattle.seq_values.specs.Plain.{plain}
use Rattle.cell_book.specs.Account.{Account, cell_at}
use Rattle.cell_book.specs.Readers.{value_in}
use Rattle.seq_table.specs.Fronts.{HoldsNone, no_bool, no_int, no_keyword, no_text, no_function, no_reduced, Front, front_nil, front_empty, front_vector, front_range, front_vec_seq, front_cons, front_chunk, front_behind, front_unrealised, front_no_list}
use Rattle.seq_ledger.specs.declared.state.Onward.{Onward}
use Rattle.seq_ledger.specs.declared.state.Onward.TheVariants as On
use Rattle.seq_ledger.specs.declared.state.Step.{Step}
use Rattle.seq_ledger.specs.Walks.{IsDone, Shows, FrontIn, steps, Next, last, more, part, nothing, next_of, IsBehind, IsLeft, Passes, IsStep, IsShort, ComesToEnd}

-- ## The walk goes on from what is met

none_last : {v : M.Value ℕ} (n : ℕ) → HoldsNone v → next_of v ≡ last n → ⊥
none_last n no_bool q = cc
none_last n no_int q = cc
none_last n no_keyword q = cc
none_last n no_text q = cc
none_last n no_function q = cc
none_last n no_reduced q = cc

none_more : {v : M.Value ℕ} (n : ℕ) (r : M.Value ℕ) → HoldsNone v → next_of v ≡ more n r → ⊥
none_more n r no_bool q = cc
none_more n r no_int q = cc
none_more n r no_keyword q = cc
none_more n r no_text q = cc
none_more n r no_function q = cc
none_more n r no_reduced q = cc

none_part : {v : M.Value ℕ} (id : ℕ) → HoldsNone v → next_of v ≡ part id → ⊥
none_part id no_bool q = cc
none_part id no_int q = cc
none_part id no_keyword q = cc
none_part id no_text q = cc
none_part id no_function q = cc
none_part id no_reduced q = cc

module _ (a : Account) where
  counted : (v : M.Value ℕ) (k n : ℕ) → last k ≡ last n → FrontIn a v k true → FrontIn a v n true
  counted v k n q w = let e : k ≡ n = cc in subst (λ j. FrontIn a v j true) e w

  last_passes : (v : M.Value ℕ) (n : ℕ) → next_of v ≡ last n → FrontIn a v n true
  last_passes M.nil n q = counted M.nil 0 n q front_nil
  last_passes M.empty n q = counted M.empty 0 n q front_empty
  last_passes (M.vector xs) n q = counted (M.vector xs) _ n q front_vector
  last_passes (M.range from at end) n q = counted (M.range from at end) _ n q front_range
  last_passes (M.vec_seq xs at) n q = counted (M.vec_seq xs at) _ n q front_vec_seq
  last_passes (M.bool b) n q = absurd cc
  last_passes (M.int b) n q = absurd cc
  last_passes (M.keyword b) n q = absurd cc
  last_passes (M.text b) n q = absurd cc
  last_passes (M.function t xs) n q = absurd cc
  last_passes (M.reduced v) n q = absurd cc
  last_passes (M.cell c) n q = absurd cc
  last_passes (M.cons xs r) n q = absurd cc
  last_passes (M.chunk xs r) n q = absurd cc

  last_left : {v : M.Value ℕ} {m : ℕ} {e : Bool} (n : ℕ) → FrontIn a v m e → next_of v ≡ last n → (m ≡ n) × (e ≡ true)
  last_left n front_nil q = (cc, refl)
  last_left n front_empty q = (cc, refl)
  last_left n front_vector q = (cc, refl)
  last_left n front_range q = (cc, refl)
  last_left n front_vec_seq q = (cc, refl)
  last_left n (front_cons w) q = absurd cc
  last_left n (front_chunk w) q = absurd cc
  last_left n (front_behind r s w) q = absurd cc
  last_left n (front_unrealised r) q = absurd cc
  last_left n (front_no_list h) q = absurd (none_last n h q)

  nothing_passes : (v : M.Value ℕ) → next_of v ≡ nothing → FrontIn a v 0 false
  nothing_passes (M.bool b) q = front_no_list no_bool
  nothing_passes (M.int b) q = front_no_list no_int
  nothing_passes (M.keyword b) q = front_no_list no_keyword
  nothing_passes (M.text b) q = front_no_list no_text
  nothing_passes (M.function t xs) q = front_no_list no_function
  nothing_passes (M.reduced v) q = front_no_list no_reduced
  nothing_passes M.nil q = absurd cc
  nothing_passes M.empty q = absurd cc
  nothing_passes (M.vector xs) q = absurd cc
  nothing_passes (M.range from at end) q = absurd cc
  nothing_passes (M.vec_seq xs at) q = absurd cc
  nothing_passes (M.cell c) q = absurd cc
  nothing_passes (M.cons xs r) q = absurd cc
  nothing_passes (M.chunk xs r) q = absurd cc

  nothing_left : {v : M.Value ℕ} {m : ℕ} {e : Bool} → FrontIn a v m e → next_of v ≡ nothing → (m ≡ 0) × (e ≡ false)
  nothing_left front_nil q = absurd cc
  nothing_left front_empty q = absurd cc
  nothing_left front_vector q = absurd cc
  nothing_left front_range q = absurd cc
  nothing_left front_vec_seq q = absurd cc
  nothing_left (front_cons w) q = absurd cc
  nothing_left (front_chunk w) q = absurd cc
  nothing_left (front_behind r s w) q = absurd cc
  nothing_left (front_unrealised r) q = absurd cc
  nothing_left (front_no_list h) q = (refl, refl)

  -- a walk from a value is one from an equal value
  moved : {u : M.Value ℕ} {n : ℕ} {e : Bool} (v : M.Value ℕ) → u ≡ v → (w : FrontIn a u n e) → (z : FrontIn a v n e) × (steps z ≡ steps w)
  moved {n = n} {e = e} v p w = subst (λ x. (z : FrontIn a x n e) × (steps z ≡ steps w)) p (w, refl)

  before : (v s r : M.Value ℕ) (k n m : ℕ) (e : Bool) → more k s ≡ more n r → FrontIn a r m e → (FrontIn a s m e → FrontIn a v (k + m) e) → FrontIn a v (n + m) e
  before v s r k n m e q w f =
      let p : s ≡ r = cc in
      let l : k ≡ n = cc in
      subst (λ j. FrontIn a v (j + m) e) l (f (subst (λ x. FrontIn a x m e) (sym p) w))

  more_passes : (v : M.Value ℕ) (n : ℕ) (r : M.Value ℕ) → next_of v ≡ more n r → (m : ℕ) (e : Bool) → FrontIn a r m e → FrontIn a v (n + m) e
  more_passes (M.cons xs s) n r q m e w = before (M.cons xs s) s r _ n m e q w (λ x. front_cons x)
  more_passes (M.chunk xs s) n r q m e w = before (M.chunk xs s) s r _ n m e q w (λ x. front_chunk x)
  more_passes (M.bool b) n r q m e w = absurd cc
  more_passes (M.int b) n r q m e w = absurd cc
  more_passes (M.keyword b) n r q m e w = absurd cc
  more_passes (M.text b) n r q m e w = absurd cc
  more_passes (M.function t xs) n r q m e w = absurd cc
  more_passes (M.reduced v) n r q m e w = absurd cc
  more_passes M.nil n r q m e w = absurd cc
  more_passes M.empty n r q m e w = absurd cc
  more_passes (M.vector xs) n r q m e w = absurd cc
  more_passes (M.range from at end) n r q m e w = absurd cc
  more_passes (M.vec_seq xs at) n r q m e w = absurd cc
  more_passes (M.cell c) n r q m e w = absurd cc

  -- what is left of a walk behind so many elements
  Behind : ℕ → M.Value ℕ → ℕ → Bool → ℕ → Type 0
  Behind n r m e bound = (k : ℕ) × (m ≡ n + k) × ((z : FrontIn a r k e) × (steps z < bound))

  behind_more : (s r : M.Value ℕ) (j n k : ℕ) (e : Bool) → more j s ≡ more n r → (w : FrontIn a s k e) → Behind n r (j + k) e (suc (steps w))
  unfolding Behind
  behind_more s r j n k e q w =
      let p : s ≡ r = cc in
      let l : j ≡ n = cc in
      let z : (z : FrontIn a r k e) × (steps z ≡ steps w) = moved r p w in
      (k, ap (λ x. x + k) l, (z.0, omega (arith, z.1)))

  more_left : {v : M.Value ℕ} {m : ℕ} {e : Bool} (n : ℕ) (r : M.Value ℕ) (w : FrontIn a v m e) → next_of v ≡ more n r → Behind n r m e (steps w)
  more_left n r (front_cons {r = s} {n = k} {ended = e} w) q = behind_more s r _ n k e q w
  more_left n r (front_chunk {r = s} {n = k} {ended = e} w) q = behind_more s r _ n k e q w
  more_left n r front_nil q = absurd cc
  more_left n r front_empty q = absurd cc
  more_left n r front_vector q = absurd cc
  more_left n r front_range q = absurd cc
  more_left n r front_vec_seq q = absurd cc
  more_left n r (front_behind x s w) q = absurd cc
  more_left n r (front_unrealised x) q = absurd cc
  more_left n r (front_no_list h) q = absurd (none_more n r h q)

  -- ## Behind a part

  part_passes : (v : M.Value ℕ) (id : ℕ) (o : Onward) → next_of v ≡ part id → IsBehind a id o → Passes a v 0 o
  part_passes (M.cell c) id (On.At u) q b =
      let p : id ≡ c = cc in
      let at : value_in (cell_at a c) ≡ Some u = subst (λ i. value_in (cell_at a i) ≡ Some u) p b in
      λ n e w. subst (λ j. FrontIn a (M.cell c) j e) (sym (zero-add n)) (front_behind (u, at) (u, at, refl) w)
  part_passes (M.cell c) id (On.Over e) q b =
      let p : id ≡ c = cc in
      subst (λ x. FrontIn a (M.cell c) 0 x) (sym b.1) (front_unrealised (subst (λ i. ¬ IsDone a i) p b.0))
  part_passes (M.bool b) id o q h = absurd cc
  part_passes (M.int b) id o q h = absurd cc
  part_passes (M.keyword b) id o q h = absurd cc
  part_passes (M.text b) id o q h = absurd cc
  part_passes (M.function t xs) id o q h = absurd cc
  part_passes (M.reduced v) id o q h = absurd cc
  part_passes M.nil id o q h = absurd cc
  part_passes M.empty id o q h = absurd cc
  part_passes (M.vector xs) id o q h = absurd cc
  part_passes (M.range from at end) id o q h = absurd cc
  part_passes (M.vec_seq xs at) id o q h = absurd cc
  part_passes (M.cons xs r) id o q h = absurd cc
  part_passes (M.chunk xs r) id o q h = absurd cc

  -- what is left behind a part
  Rest : Onward → ℕ → Bool → ℕ → Type 0
  Rest o m e bound = (k : ℕ) × (m ≡ 0 + k) × IsLeft a o k e bound

  shown_rest : (c id : ℕ) (u : M.Value ℕ) (x : Value) (n : ℕ) (e : Bool) → c ≡ id → Shows a c u → value_in (cell_at a id) ≡ Some x → (w : FrontIn a u n e) → Rest (On.At x) n e (suc (steps w))
  unfolding Rest
  shown_rest c id u x n e p (y, at, is) b w =
      let here : Some y ≡ Some x = sym at ∙ (ap (λ i. value_in (cell_at a i)) p ∙ b) in
      let yx : y ≡ x = cc in
      let z : (z : FrontIn a (plain x) n e) × (steps z ≡ steps w) = moved (plain x) (is ∙ ap plain yx) w in
      (n, sym (zero-add n), (z.0, omega (arith, z.1)))

  behind_rest : (c id : ℕ) (u : M.Value ℕ) (n : ℕ) (e : Bool) (o : Onward) → c ≡ id → IsDone a c → Shows a c u → IsBehind a id o → (w : FrontIn a u n e) → Rest o n e (suc (steps w))
  behind_rest c id u n e (On.At x) p done s b w = shown_rest c id u x n e p s b w
  behind_rest c id u n e (On.Over x) p done s b w = absurd (b.0 (subst (λ i. IsDone a i) p done))

  open_rest : (c id bound : ℕ) (o : Onward) → c ≡ id → ¬ (IsDone a c) → IsBehind a id o → Rest o 0 false bound
  unfolding Rest
  open_rest c id bound (On.At x) p none b = absurd (none (subst (λ i. IsDone a i) (sym p) (x, b)))
  open_rest c id bound (On.Over x) p none b = (0, refl, (refl, sym b.1))

  part_left : {v : M.Value ℕ} {m : ℕ} {e : Bool} (id : ℕ) (o : Onward) (w : FrontIn a v m e) → next_of v ≡ part id → IsBehind a id o → Rest o m e (steps w)
  part_left id o (front_behind {c = c} {v = u} {n = n} {ended = e} done s w) q b = behind_rest c id u n e o (cc) done s b w
  part_left id o (front_unrealised {c = c} none) q b = open_rest c id 1 o (cc) none b
  part_left id o front_nil q b = absurd cc
  part_left id o front_empty q b = absurd cc
  part_left id o front_vector q b = absurd cc
  part_left id o front_range q b = absurd cc
  part_left id o front_vec_seq q b = absurd cc
  part_left id o (front_cons w) q b = absurd cc
  part_left id o (front_chunk w) q b = absurd cc
  part_left id o (front_no_list h) q b = absurd (none_part id h q)

  -- ## Steps

  pub step_last : (v : M.Value ℕ) (n : ℕ) → last n ≡ next_of v → IsStep a v (record { count = n; then = On.Over true })
  step_last v n q = record { passes = last_passes v n (sym q); left = λ m e w. (0, (last_left n w (sym q)).0 ∙ sym (add-zero n), (refl, (last_left n w (sym q)).1)) }

  pub step_nothing : (v : M.Value ℕ) → nothing ≡ next_of v → IsStep a v (record { count = 0; then = On.Over false })
  step_nothing v q = record { passes = nothing_passes v (sym q); left = λ m e w. (0, (nothing_left w (sym q)).0, (refl, (nothing_left w (sym q)).1)) }

  pub step_more : (v : M.Value ℕ) (n : ℕ) (r : Value) → more n (plain r) ≡ next_of v → IsStep a v (record { count = n; then = On.At r })
  unfolding Behind
  step_more v n r q = record { passes = more_passes v n (plain r) (sym q); left = λ m e w. more_left n (plain r) w (sym q) }

  pub step_part : (v : M.Value ℕ) (id : ℕ) (o : Onward) → part id ≡ next_of v → IsBehind a id o → IsStep a v (record { count = 0; then = o })
  unfolding Rest
  step_part v id o q b = record { passes = part_passes v id o (sym q) b; left = λ m e w. part_left id o w (sym q) b }

  -- ## The whole walk

  pub some_step : {v : M.Value ℕ} {n : ℕ} {e : Bool} (w : FrontIn a v n e) → 0 < steps w
  some_step front_nil = omega arith
  some_step front_empty = omega arith
  some_step front_vector = omega arith
  some_step front_range = omega arith
  some_step front_vec_seq = omega arith
  some_step (front_cons w) = omega arith
  some_step (front_chunk w) = omega arith
  some_step (front_behind r s w) = omega arith
  some_step (front_unrealised r) = omega arith
  some_step (front_no_list h) = omega arith

  -- a step before a value
  pub is_left : (v : M.Value ℕ) (s : Step) (next : Value) → s.then ≡ On.At next → IsStep a v s → (n : ℕ) (ended : Bool) (w : FrontIn a v n ended) → (m : ℕ) × ((z : FrontIn a (plain next) m ended) × (steps z < steps w))
  is_left v s next e is n ended w =
      let x : (m : ℕ) × (n ≡ s.count + m) × IsLeft a s.then m ended (steps w) = is.left n ended w in
      (x.0, subst (λ o. IsLeft a o x.0 ended (steps w)) e x.2)

  pub passed_more : (t v : M.Value ℕ) (s : Step) (next : Value) (count : ℕ) → s.then ≡ On.At next → IsStep a v s → ((n : ℕ) (ended : Bool) → FrontIn a v n ended → FrontIn a t (count + n) ended) → (n : ℕ) (ended : Bool) → FrontIn a (plain next) n ended → FrontIn a t (count + s.count + n) ended
  passed_more t v s next count e is before n ended w =
      let goes : Passes a v s.count (On.At next) = subst (λ o. Passes a v s.count o) e is.passes in
      subst (λ k. FrontIn a t k ended) (sym (add_assoc count s.count n)) (before (s.count + n) ended (goes n ended w))

  pub passed_none : (u v : Value) → v ≡ u → (n : ℕ) (ended : Bool) → FrontIn a (plain v) n ended → FrontIn a (plain u) (0 + n) ended
  passed_none u v e n ended w = subst (λ k. FrontIn a (plain u) k ended) (sym (zero-add n)) (subst (λ x. FrontIn a (plain x) n ended) e w)

-- so much of a walk is left, in a book that is noted
abbrev pub Leaves : (Account → Type 0) → M.Value ℕ → ℕ → Type 0
Leaves Noted v taken = (a : Account) × Noted a × (n : ℕ) × (ended : Bool) × (walk : FrontIn a v n ended) × (steps walk + taken < 2 ^ 64)

pub leaves_all : (Noted : Account → Type 0) (u v : Value) → v ≡ u → (a : Account) × Noted a × ComesToEnd a (plain u) → Leaves Noted (plain v) 0
leaves_all Noted u v e (a, n, ends) =
    let z : (z : FrontIn a (plain v) ends.count ends.ended) × (steps z ≡ steps ends.walk) = moved a (plain v) (ap plain (sym e)) ends.walk in
    let few : steps ends.walk < 2 ^ 64 = ends.few in
    (a, n, ends.count, ends.ended, z.0, omega (arith, z.1, few))

pub leaves_less : (Noted : Account → Type 0) (v : M.Value ℕ) (s : Step) (next : Value) (taken : ℕ) → s.then ≡ On.At next → ((a : Account) → Noted a → IsStep a v s) → Leaves Noted v taken → Leaves Noted (plain next) (taken + 1)
leaves_less Noted v s next taken e is (a, n, count, ended, walk, few) =
    let z : (m : ℕ) × ((z : FrontIn a (plain next) m ended) × (steps z < steps walk)) = is_left a v s next e (is a n) count ended walk in
    (a, n, z.0, ended, z.1.0, omega (arith, z.1.1, few))

pub leaves_some : (Noted : Account → Type 0) (v : M.Value ℕ) (taken : ℕ) → 2 ^ 64 - 1 ≤ taken → Leaves Noted v taken → ⊥
leaves_some Noted v taken over (a, n, count, ended, walk, few) = omega (arith, some_step a walk, few)

pub short_at : (s : Step) (next : Value) → s.then ≡ On.At next → IsShort s → s.count < 2 ^ 32
short_at s next e h = subst (λ o. IsShort (record { count = s.count; then = o })) e h

pub within_more : (count step taken : ℕ) → count ≤ taken * 2 ^ 32 → step < 2 ^ 32 → count + step ≤ (taken + 1) * 2 ^ 32
within_more count step taken a b = omega arith

-- ## One front

module _ (a : Account) where
  none_here : {v : M.Value ℕ} {n : ℕ} {e : Bool} → FrontIn a v n e → HoldsNone v → (n ≡ 0) × (e ≡ false)
  none_here (front_no_list h) k = (refl, refl)
  none_here front_nil k = elim k [ ]
  none_here front_empty k = elim k [ ]
  none_here front_vector k = elim k [ ]
  none_here front_range k = elim k [ ]
  none_here front_vec_seq k = elim k [ ]
  none_here (front_cons w) k = elim k [ ]
  none_here (front_chunk w) k = elim k [ ]
  none_here (front_behind r s w) k = elim k [ ]
  none_here (front_unrealised r) k = elim k [ ]

  one_shown : (c : ℕ) (u v : M.Value ℕ) → Shows a c u → Shows a c v → u ≡ v
  one_shown c u v (x, at, is) (y, here, same) =
      let e : Some x ≡ Some y = sym at ∙ here in
      let p : x ≡ y = cc in
      is ∙ (ap plain p ∙ sym same)

  pub one_front : {v : M.Value ℕ} {n m : ℕ} {e f : Bool} → FrontIn a v n e → FrontIn a v m f → (n ≡ m) × (e ≡ f)
  one_front front_nil z = let x = last_left a 0 z refl in (sym x.0, sym x.1)
  one_front front_empty z = let x = last_left a 0 z refl in (sym x.0, sym x.1)
  one_front front_vector z = let x = last_left a _ z refl in (sym x.0, sym x.1)
  one_front front_range z = let x = last_left a _ z refl in (sym x.0, sym x.1)
  one_front front_vec_seq z = let x = last_left a _ z refl in (sym x.0, sym x.1)
  one_front (front_cons {xs = xs} w) (front_cons z) = let x = one_front w z in (ap (λ k. length (list xs) + k) x.0, x.1)
  one_front (front_chunk {xs = xs} w) (front_chunk z) = let x = one_front w z in (ap (λ k. length (list xs) + k) x.0, x.1)
  one_front (front_behind {c = c} {v = v} r s w) (front_behind {v = u} q t z) = one_front w ((moved a v (one_shown c u v t s) z).0)
  one_front (front_behind r s w) (front_unrealised q) = absurd (q r)
  one_front (front_unrealised r) (front_behind q t z) = absurd (r q)
  one_front (front_unrealised r) (front_unrealised q) = (refl, refl)
  one_front (front_no_list h) z = let x = none_here z h in (sym x.0, sym x.1)
  one_front (front_cons w) (front_no_list h) = elim h [ ]
  one_front (front_chunk w) (front_no_list h) = elim h [ ]
  one_front (front_behind r s w) (front_no_list h) = elim h [ ]
  one_front (front_unrealised r) (front_no_list h) = elim h [ ]

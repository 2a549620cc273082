-- In a book where no part reaches itself each walk comes to its end.
use Rattle.std.proofs.Common.{◌≡◌, ℕ, zero, suc, ◌+◌, ◌-◌, ◌*◌, ◌<◌, ◌≤◌, ◌^◌, Bool, true, false, List, [], ◌∷◌, length, Option, Some, None, refl, ap, sym, subst, ◌∙◌, arith, zero-add, add_assoc}
use Rattle.std.specs.Prelude.{slice_get, max}
use Rattle.seq_values.specs.declared.value.Value.{Value as Coded}
use Rattle.seq_values.specs.Model as M
use Rattle.seq_values.specs.Model.{list}
use Rattle.seq_values.specs.Plain.{plain}
use Rattle.clj_script.specs.Trees.{Top}
use Rattle.seq_plan.specs.Nodes.{depth, depths}
use Rattle.cell_book.specs.declared.cell.State.{State}
use Rattle.cell_book.specs.declared.cell.State.TheVariants as S
use Rattle.cell_book.specs.declared.cell.Cell.{Cell}
use Rattle.cell_book.specs.Account.{Account, cell_at}
use Rattle.cell_book.specs.Readers.{value_in, done_in}
use Rattle.seq_meaning.specs.Counts.{IsIn, here, there, Distinct, none_twice, once_more}
use Rattle.seq_table.specs.Fronts.{no_bool, no_int, no_keyword, no_text, no_function, no_reduced, front_nil, front_empty, front_vector, front_range, front_vec_seq, front_cons, front_chunk, front_behind, front_unrealised, front_no_list}
use Rattle.seq_lawful.specs.Refers.{InValue, in_cons_rest, in_chunk_rest, in_cell, Refers, by_done, Reaches, reach_one, reach_more}
use Rattle.seq_ledger.specs.Walks.{IsDone, FrontIn, steps, ComesToEnd}

-- ## A value that is done

done_of : (s : State) (v : Coded) → done_in s ≡ Some v → s ≡ S.Done v
done_of S.Empty v q = absurd cc
done_of (S.Forcing c) v q = absurd cc
done_of (S.Done u) v q = let e : u ≡ v = cc in ap S.Done e
done_of (S.Failed why) v q = absurd cc

pub cell_of : (o : Option Cell) (v : Coded) → value_in o ≡ Some v → (p : Cell) × (o ≡ Some p) × (p.state ≡ S.Done v)
cell_of None v q = absurd cc
cell_of (Some p) v q = (p, refl, done_of p.state v q)

-- ## Numbers up to one

pub up_to : ℕ → List ℕ
up_to zero = []
up_to (suc n) = suc n ∷ up_to n

up_long : (n : ℕ) → length (up_to n) ≡ n
unfolding up_to
up_long zero = refl
up_long (suc n) = ap suc (up_long n)

in_either : (n i x y : ℕ) → i - n ≡ x → n - i ≡ y → i < suc n → (i < n → IsIn (suc i) (up_to n)) → IsIn (suc i) (suc n ∷ up_to n)
in_either n i x zero p q h more = let e : i ≡ n = omega (arith, p, q, h) in subst (λ k. IsIn (suc k) (suc n ∷ up_to n)) (sym e) here
in_either n i x (suc y) p q h more = there (more (omega (arith, q)))

in_up : (n i : ℕ) → i < n → IsIn (suc i) (up_to n)
unfolding up_to
in_up zero i h = absurd (omega arith)
in_up (suc n) i h = in_either n i (i - n) (n - i) refl refl h (λ q. in_up n i q)

within : {A : Type 0} (xs : List A) (i : ℕ) (x : A) → slice_get xs i ≡ Some x → i < length xs
within [] i x e = absurd cc
within (y ∷ ys) zero x e = omega arith
within (y ∷ ys) (suc i) x e = let h : i < length ys = within ys i x e in omega arith

module _ (tops : List Top) (a : Account) where
  numbered : (d : ℕ) (p : Cell) → cell_at a d ≡ Some p → IsIn d (up_to (length a.cells))
  numbered zero p e = absurd cc
  numbered (suc i) p e = in_up (length a.cells) i (within a.cells i p e)

  reach_further : {i j k : ℕ} → Reaches tops a i j → Refers tops a j k → Reaches tops a i k
  reach_further (reach_one r) s = reach_more r (reach_one s)
  reach_further (reach_more r q) s = reach_more r (reach_further q s)

  recounted : {v : M.Value ℕ} {n : ℕ} {e : Bool} (m : ℕ) → n ≡ m → (w : FrontIn a v n e) → (z : FrontIn a v m e) × (steps z ≡ steps w)
  recounted {v = v} {e = e} m p w = subst (λ k. (z : FrontIn a v k e) × (steps z ≡ steps w)) p (w, refl)

  revalued : {u : M.Value ℕ} {n : ℕ} {e : Bool} (v : M.Value ℕ) → u ≡ v → (w : FrontIn a u n e) → (z : FrontIn a v n e) × (steps z ≡ steps w)
  revalued {n = n} {e = e} v p w = subst (λ x. (z : FrontIn a x n e) × (steps z ≡ steps w)) p (w, refl)

  -- the walk of a value ends in the value, or comes to a part in it
  data Goes (v : M.Value ℕ) : Type 0 where
    stops : (count : ℕ) (ended : Bool) (w : FrontIn a v count ended) → steps w ≤ suc (depth v) → Goes v
    leads : (c more : ℕ) → InValue c v → ((n : ℕ) (e : Bool) (w : FrontIn a (M.cell c) n e) → (z : FrontIn a v (more + n) e) × (steps z ≤ steps w + depth v)) → Goes v

  behind_cons : (xs : M.Values ℕ) (r : M.Value ℕ) → Goes r → Goes (M.cons xs r)
  behind_cons xs r (stops count ended w h) = stops (length (list xs) + count) ended (front_cons w) (omega (arith, h))
  behind_cons xs r (leads c more i f) = leads c (length (list xs) + more) (in_cons_rest i) (λ n e w.
      let z : (z : FrontIn a r (more + n) e) × (steps z ≤ steps w + depth r) = f n e w in
      let y = recounted (length (list xs) + more + n) (sym (add_assoc (length (list xs)) more n)) (front_cons {xs = xs} z.0) in
      (y.0, omega (arith, y.1, z.1)))

  behind_chunk : (xs : M.Values ℕ) (r : M.Value ℕ) → Goes r → Goes (M.chunk xs r)
  behind_chunk xs r (stops count ended w h) = stops (length (list xs) + count) ended (front_chunk w) (omega (arith, h))
  behind_chunk xs r (leads c more i f) = leads c (length (list xs) + more) (in_chunk_rest i) (λ n e w.
      let z : (z : FrontIn a r (more + n) e) × (steps z ≤ steps w + depth r) = f n e w in
      let y = recounted (length (list xs) + more + n) (sym (add_assoc (length (list xs)) more n)) (front_chunk {xs = xs} z.0) in
      (y.0, omega (arith, y.1, z.1)))

  goes : (v : M.Value ℕ) → Goes v
  goes M.nil = stops 0 true front_nil (omega arith)
  goes M.empty = stops 0 true front_empty (omega arith)
  goes (M.vector xs) = stops _ true front_vector (omega arith)
  goes (M.range from at end) = stops _ true front_range (omega arith)
  goes (M.vec_seq xs at) = stops _ true front_vec_seq (omega arith)
  goes (M.cons xs r) = behind_cons xs r (goes r)
  goes (M.chunk xs r) = behind_chunk xs r (goes r)
  goes (M.bool b) = stops 0 false (front_no_list no_bool) (omega arith)
  goes (M.int n) = stops 0 false (front_no_list no_int) (omega arith)
  goes (M.keyword t) = stops 0 false (front_no_list no_keyword) (omega arith)
  goes (M.text t) = stops 0 false (front_no_list no_text) (omega arith)
  goes (M.function t xs) = stops 0 false (front_no_list no_function) (omega arith)
  goes (M.reduced v) = stops 0 false (front_no_list no_reduced) (omega arith)
  goes (M.cell c) = leads c 0 in_cell (λ n e w. let y = recounted (0 + n) (sym (zero-add n)) w in (y.0, omega (arith, y.1)))

  -- a front that takes so many steps at most
  abbrev Ends : M.Value ℕ → ℕ → Type 0
  Ends v bound = (count : ℕ) × (ended : Bool) × (w : FrontIn a v count ended) × (steps w ≤ bound)

  module _ (shallow : (c : ℕ) (v : Coded) → value_in (cell_at a c) ≡ Some v → depth (plain v) ≤ 256) (acyclic : (c : ℕ) → ¬ (Reaches tops a c c))
      (longest : (vs : List ℕ) → Distinct vs → ((d : ℕ) → IsIn d vs → IsIn d (up_to (length a.cells))) → length vs ≤ length (up_to (length a.cells))) where
    refers : (c d : ℕ) (u : Coded) → value_in (cell_at a c) ≡ Some u → InValue d (plain u) → Refers tops a c d
    refers c d u e i = let p = cell_of (cell_at a c) u e in by_done p.0 u p.1 p.2 i

    visited : (vs : List ℕ) (c : ℕ) → IsDone a c → ((d : ℕ) → IsIn d vs → IsDone a d) → (d : ℕ) → IsIn d (c ∷ vs) → IsDone a d
    visited vs c done all d here = done
    visited vs c done all d (there i) = all d i

    behind : (vs : List ℕ) (c e : ℕ) → Refers tops a c e → ((d : ℕ) → IsIn d vs → Reaches tops a d c) → (d : ℕ) → IsIn d (c ∷ vs) → Reaches tops a d e
    behind vs c e r all d here = reach_one r
    behind vs c e r all d (there i) = reach_further (all d i) r

    few : (vs : List ℕ) → Distinct vs → ((d : ℕ) → IsIn d vs → IsDone a d) → length vs ≤ length a.cells
    few vs distinct all =
        let h : length vs ≤ length (up_to (length a.cells)) = longest vs distinct (λ d i. let x = all d i in let p = cell_of (cell_at a d) x.0 x.1 in numbered d p.0 p.1) in
        omega (arith, h, up_long (length a.cells))

    -- with so many parts that may still be met
    abbrev Within : ℕ → Type 0
    Within m = (vs : List ℕ) (c : ℕ) → Distinct vs → ((d : ℕ) → IsIn d vs → Reaches tops a d c) → ((d : ℕ) → IsIn d vs → IsDone a d) → length a.cells < length vs + m → Ends (M.cell c) (m * 258)

    by_going : (m : ℕ) → Within m → (vs : List ℕ) (c : ℕ) (u : Coded) → value_in (cell_at a c) ≡ Some u → Goes (plain u) → Distinct vs → ((d : ℕ) → IsIn d vs → Reaches tops a d c) → ((d : ℕ) → IsIn d vs → IsDone a d) → length a.cells < length vs + suc m → Ends (M.cell c) (suc m * 258)
    by_going m next vs c u q (stops count ended w h) distinct reach done room = (count, ended, front_behind (u, q) (u, q, refl) w, omega (arith, h, shallow c u q))
    by_going m next vs c u q (leads d more i f) distinct reach done room =
        let apart : ¬ (IsIn c vs) = λ j. acyclic c (reach c j) in
        let rest : Ends (M.cell d) (m * 258) = next (c ∷ vs) d (once_more apart distinct) (behind vs c d (refers c d u q i) reach) (visited vs c (u, q) done) (omega (arith, room)) in
        let z = f rest.0 rest.1 rest.2 in
        (more + rest.0, rest.1, front_behind (u, q) (u, q, refl) z.0, omega (arith, z.1, rest.3, shallow c u q))

    by_value : (m : ℕ) (vs : List ℕ) (c : ℕ) (o : Option Coded) → value_in (cell_at a c) ≡ o → Distinct vs → ((d : ℕ) → IsIn d vs → Reaches tops a d c) → ((d : ℕ) → IsIn d vs → IsDone a d) → length a.cells < length vs + m → Ends (M.cell c) (m * 258)
    by_value zero vs c o q distinct reach done room = absurd (let h : length vs ≤ length a.cells = few vs distinct done in omega (arith, h, room))
    by_value (suc m) vs c None q distinct reach done room = (0, false, front_unrealised (λ d. let e : None ≡ Some d.0 = sym q ∙ d.1 in cc), omega arith)
    by_value (suc m) vs c (Some u) q distinct reach done room = by_going m (λ ws d apart r k left. by_value m ws d (value_in (cell_at a d)) refl apart r k left) vs c u q (goes (plain u)) distinct reach done room

    whole : (v : M.Value ℕ) → depth v ≤ 256 → length a.cells < 2 ^ 32 → Goes v → ComesToEnd a v
    whole v deep small (stops count ended w h) = record { count = count; ended = ended; walk = w; few = omega (arith, h, deep) }
    whole v deep small (leads c more i f) =
        let next : Ends (M.cell c) (suc (length a.cells) * 258) = by_value (suc (length a.cells)) [] c (value_in (cell_at a c)) refl none_twice (λ d j. elim j [ ]) (λ d j. elim j [ ]) (omega arith) in
        let z = f next.0 next.1 next.2 in
        record { count = more + next.0; ended = next.1; walk = z.0; few = omega (arith, z.1, next.3, deep, small) }

    pub ends : (v : M.Value ℕ) → depth v ≤ 256 → length a.cells < 2 ^ 32 → ComesToEnd a v
    ends v deep small = whole v deep small (goes v)

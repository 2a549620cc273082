-- Rows that walk in a loop: Drop and DropWhile.
use Rattle.std.proofs.Common.{◌≡◌, refl, ap, sym, subst, ℕ, zero, suc, ◌+◌, ℤ, pos, ◌-ℤ◌, int_le, Bool, true, false, cond, List, [], ◌∷◌, arith}
use Rattle.seq_values.specs.declared.words.Op.TheVariants as O
use Rattle.seq_values.specs.Model.{Value, nil, int}
use Rattle.clj_script.specs.Trees.{Program}
use Rattle.seq_plan.specs.Plan.{Plan, call, visit, seq, go, give, plan_of, Round, ends_with, visits, calls_for, drop_from, drop_while_from}
use Rattle.seq_plan.specs.Nodes.{first_of, rest_of, is_truthy, is_nil, if_true, now, found}
use Rattle.lazy_rows.specs.Terms.{drop_rule, drop_round, drop_while_rule, drop_while_round}
use Rattle.seq_meaning.specs.Names.{Name}
use Rattle.seq_table.specs.Table.{language}
use Rattle.seq_table.specs.World.{World, names_world, Read, cut, done, ◌▸◌, Comes, comes_seq, comes_go, CallTo, Begins, not_read, asked, at_end, element}
use Rattle.seq_table.specs.Lists.{Dropped, dropped_cut, dropped_none, dropped_done, dropped_more, DroppedWhile, until_cut, until_done, until_in, until_out, Meant, of_drop, of_drop_while, At, is_rest}
use Rattle.seq_table.proofs.Seqs.{given, seq_found, of_seq, NilOr, it_is, it_isnt, nil_or}
use Rattle.seq_table.proofs.Counted.{ComesIn, in_visit, in_seq, in_call, in_go, in_all, counted, given_in}

module _ (processors : ℕ) (program : Program) (limit : ℕ) (defs : List (Value Name)) where
  abbrev here : World Name
  here = names_world (language processors) program limit

  abbrev In : ℕ → Plan Name → Value Name → Type 0
  In n p v = ComesIn here defs n p v

  -- what nil begins with
  data NilBegins : Read Name → Type 0 where
    nil_cut : NilBegins cut
    nil_done : NilBegins done

  nil_begins : {v : Value Name} {l : Read Name} → found v ≡ now nil → Begins here v l → NilBegins l
  nil_begins e not_read = nil_cut
  nil_begins e (at_end q) = nil_done
  nil_begins e (asked q g b) = absurd cc
  nil_begins e (element q m b) = absurd (m (cc))

  -- ## Drop

  abbrev again : ℤ → Value Name → Round Name
  again n s = visits (seq (rest_of s) (λ t. go drop_from (int (n -ℤ pos 1) ∷ t ∷ []) give))

  -- what is left after the loop was walked
  abbrev Left : ℤ → Value Name → Read Name → Type 0
  Left n s l = (l' : Read Name) × Begins here s l' × Dropped n l' l

  none_left : (n : ℤ) (s : Value Name) {l : Read Name} → s ≡ nil → NilBegins l → Left n s l
  none_left n s e nil_cut = (cut, not_read, dropped_cut)
  none_left n s e nil_done = (done, at_end (ap found e), dropped_done)

  drop_at : (k : ℕ) (n : ℤ) (s : Value Name) {v : Value Name} {l : Read Name} → ((m : ℕ) → k ≡ suc (suc (suc m)) → (t : Value Name) → found t ≡ now t → In m (plan_of (drop_round (int (n -ℤ pos 1) ∷ t ∷ []))) v → Left (n -ℤ pos 1) t l) → found s ≡ now s → In k (plan_of (drop_round (int n ∷ s ∷ []))) v → Begins here v l → Left n s l
  drop_at k n s {v = v} {l = l} ih q d b = by (nil_or s)
    where
      walks : int_le n (pos 0) ≡ false → ¬ (s ≡ nil) → {m : ℕ} → k ≡ m → In m (visit (seq (rest_of s) (λ t. go drop_from (int (n -ℤ pos 1) ∷ t ∷ []) give))) v → Left n s l
      walks e i u (in_visit (in_seq {s = t} r (in_go {n = m} {y = y} a g))) =
          let z = given_in here defs g in
          let h = ih m u t (seq_found here r) (subst (λ x. In m (plan_of (drop_round (int (n -ℤ pos 1) ∷ t ∷ []))) x) z a) in
          (first_of s ▸ h.0, element q i (of_seq here r h.1), dropped_more e h.2)

      some : ¬ (s ≡ nil) → (c : Bool) → int_le n (pos 0) ≡ c → In k (plan_of (cond c (ends_with s) (again n s))) v → Left n s l
      some i true e d = (l, subst (λ x. Begins here x l) (sym (given_in here defs d)) b, dropped_none e)
      some i false e d = walks e i refl d

      by : NilOr s → Left n s l
      by (it_is e) =
          let z = given_in here defs (subst (λ x. In k (plan_of (cond (is_nil x) (ends_with nil) (cond (int_le n (pos 0)) (ends_with s) (again n s)))) v) e d) in
          none_left n s e (nil_begins refl (subst (λ x. Begins here x l) (sym z) b))
      by (it_isnt i e) = some i (int_le n (pos 0)) refl (subst (λ c. In k (plan_of (cond c (ends_with nil) (cond (int_le n (pos 0)) (ends_with s) (again n s)))) v) e d)

  drop_loop : (k : ℕ) (n : ℤ) (s : Value Name) {v : Value Name} {l : Read Name} → found s ≡ now s → In k (plan_of (drop_round (int n ∷ s ∷ []))) v → Begins here v l → Left n s l
  drop_loop zero n s q d b = drop_at 0 n s (λ m e. absurd cc) q d b
  drop_loop (suc k) n s {v = v} q d b =
      drop_at (suc k) n s (λ m e t q' d'. let u : 2 + m ≡ k = omega (arith, e) in drop_loop k (n -ℤ pos 1) t q' (subst (λ i. In i (plan_of (drop_round (int (n -ℤ pos 1) ∷ t ∷ []))) v) u (in_all here defs 2 d')) b) q d b

  pub drop_row : (n : ℤ) (c : Value Name) {v : Value Name} → Comes here defs (drop_rule n c) v → At here defs (record { op = O.Drop; args = int n ∷ c ∷ [] }) [] v
  drop_row n c {v = v} (comes_seq {s = s} q (comes_go {y = y} a g)) = is_rest on
    where
      on : (l : Read Name) → Begins here v l → Meant here defs (record { op = O.Drop; args = int n ∷ c ∷ [] }) l
      on l b =
          let d = counted here defs a in
          let h = drop_loop d.0 n s (seq_found here q) (subst (λ x. In d.0 (plan_of (drop_round (int n ∷ s ∷ []))) x) (given here g) d.1) b in
          of_drop (of_seq here q h.1) h.2

  -- ## DropWhile

  abbrev on_answer : Value Name → Value Name → Value Name → Plan Name
  on_answer p s y = if_true y (seq (rest_of s) (λ t. go drop_while_from (p ∷ t ∷ []) give)) (give s)

  abbrev LeftOf : Value Name → Value Name → Read Name → Type 0
  LeftOf p s l = (l' : Read Name) × Begins here s l' × DroppedWhile here defs p l' l

  none_left_of : (p s : Value Name) {l : Read Name} → s ≡ nil → NilBegins l → LeftOf p s l
  none_left_of p s e nil_cut = (cut, not_read, until_cut)
  none_left_of p s e nil_done = (done, at_end (ap found e), until_done)

  -- the elements of a node, the first of which isn't dropped
  kept_from : (p s : Value Name) {y : Value Name} {l : Read Name} → found s ≡ now s → ¬ (s ≡ nil) → CallTo here defs p (first_of s ∷ []) y → is_truthy y ≡ false → Begins here s l → LeftOf p s l
  kept_from p s q i a e not_read = (cut, not_read, until_cut)
  kept_from p s q i a e (at_end q') = absurd (i (cc))
  kept_from p s q i a e (asked q' g b) = absurd cc
  kept_from p s {y = y} q i a e (element {s = s'} {l = l} q' n b) =
      let z : s ≡ s' = cc in
      (first_of s' ▸ l, element q' n b, until_out (subst (λ x. CallTo here defs p (first_of x ∷ []) y) z a) e)

  while_at : (k : ℕ) (p s : Value Name) {v : Value Name} {l : Read Name} → ((m : ℕ) → k ≡ suc (suc (suc m)) → (t : Value Name) → found t ≡ now t → In m (plan_of (drop_while_round (p ∷ t ∷ []))) v → LeftOf p t l) → found s ≡ now s → In k (plan_of (drop_while_round (p ∷ s ∷ []))) v → Begins here v l → LeftOf p s l
  while_at k p s {v = v} {l = l} ih q d b = by (nil_or s)
    where
      answers : ¬ (s ≡ nil) → {y : Value Name} → CallTo here defs p (first_of s ∷ []) y → (c : Bool) → is_truthy y ≡ c → {m : ℕ} → k ≡ suc m → In m (cond c (seq (rest_of s) (λ t. go drop_while_from (p ∷ t ∷ []) give)) (give s)) v → LeftOf p s l
      answers i a true e u (in_seq {s = t} r (in_go {n = m} g h)) =
          let z = given_in here defs h in
          let f = ih m (cc) t (seq_found here r) (subst (λ x. In m (plan_of (drop_while_round (p ∷ t ∷ []))) x) z g) in
          (first_of s ▸ f.0, element q i (of_seq here r f.1), until_in a e f.2)
      answers i a false e u d = kept_from p s q i a e (subst (λ x. Begins here x l) (sym (given_in here defs d)) b)

      some : ¬ (s ≡ nil) → {m : ℕ} → k ≡ m → In m (call p (first_of s ∷ []) (on_answer p s)) v → LeftOf p s l
      some i u (in_call {y = y} a d) = answers i a (is_truthy y) refl u d

      by : NilOr s → LeftOf p s l
      by (it_is e) =
          let z = given_in here defs (subst (λ x. In k (plan_of (cond (is_nil x) (ends_with nil) (calls_for p (first_of s ∷ []) (on_answer p s)))) v) e d) in
          none_left_of p s e (nil_begins refl (subst (λ x. Begins here x l) (sym z) b))
      by (it_isnt i e) = some i refl (subst (λ c. In k (plan_of (cond c (ends_with nil) (calls_for p (first_of s ∷ []) (on_answer p s)))) v) e d)

  while_loop : (k : ℕ) (p s : Value Name) {v : Value Name} {l : Read Name} → found s ≡ now s → In k (plan_of (drop_while_round (p ∷ s ∷ []))) v → Begins here v l → LeftOf p s l
  while_loop zero p s q d b = while_at 0 p s (λ m e. absurd cc) q d b
  while_loop (suc k) p s {v = v} q d b =
      while_at (suc k) p s (λ m e t q' d'. let u : 2 + m ≡ k = omega (arith, e) in while_loop k p t q' (subst (λ i. In i (plan_of (drop_while_round (p ∷ t ∷ []))) v) u (in_all here defs 2 d')) b) q d b

  pub drop_while_row : (p c : Value Name) {v : Value Name} → Comes here defs (drop_while_rule p c) v → At here defs (record { op = O.DropWhile; args = p ∷ c ∷ [] }) [] v
  drop_while_row p c {v = v} (comes_seq {s = s} q (comes_go {y = y} a g)) = is_rest on
    where
      on : (l : Read Name) → Begins here v l → Meant here defs (record { op = O.DropWhile; args = p ∷ c ∷ [] }) l
      on l b =
          let d = counted here defs a in
          let h = while_loop d.0 p s (seq_found here q) (subst (λ x. In d.0 (plan_of (drop_while_round (p ∷ s ∷ []))) x) (given here g) d.1) b in
          of_drop_while (of_seq here q h.1) h.2

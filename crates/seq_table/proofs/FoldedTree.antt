-- What a fold comes to is its tree.
use Rattle.std.proofs.Common.{◌≡◌, ℕ, zero, suc, ◌/◌, ◌<◌, ◌≤◌, pos, int_le, Bool, true, false, cond, List, [], ◌∷◌, length, take, drop, refl, sym, subst, arith}
use Rattle.std.proofs.Math.Arith.{half_le}
use Rattle.std.proofs.lemmas.Bool.Decides.{nat_tests}
use Rattle.std.proofs.lemmas.Int.{ints}
use Rattle.std.proofs.lemmas.List.{length-take, length-drop}
use Rattle.seq_values.specs.declared.words.Kind.TheVariants.{Future}
use Rattle.seq_values.specs.declared.words.Op.TheVariants as O
use Rattle.seq_values.specs.Model.{Value, int, vector, values, Term, gave}
use Rattle.clj_script.specs.Trees.{Program}
use Rattle.seq_plan.specs.Plan.{Plan, ask, call, give}
use Rattle.seq_plan.specs.Nodes.{make_term}
use Rattle.seq_plan.specs.Stages.{fresh, reduces, answer_of}
use Rattle.seq_plan.proofs.StageLoops.{list_values}
use Rattle.seq_plan.proofs.StageThens.{then_enter_each}
use Rattle.fold_rows.specs.Table.{reduce_through, fold_group, fold_at_most, fold_items}
use Rattle.seq_meaning.specs.Names.{Name}
use Rattle.seq_meaning.specs.Gives.{work, of_term, Part, Gives}
use Rattle.seq_table.specs.Table.{language}
use Rattle.seq_table.specs.World.{World, names_world, Comes, comes_ask, comes_call, comes_make, comes_give}
use Rattle.seq_table.specs.FoldTrees.{FoldTree, of_none, of_group, of_halves}
use Rattle.seq_table.proofs.Replay.{split, comes_of, open_part}

within : (a b : ℕ) → int_le (pos a) (pos b) ≡ true → a ≤ b
within a b h = grind (arith, nat_tests, ints)

over : (a b : ℕ) → int_le (pos a) (pos b) ≡ false → b < a
over a b h = grind (arith, nat_tests, ints)

half_is_some : (a : ℕ) → 2 ≤ a → 1 ≤ a / 2
half_is_some a h = omega arith

module _ (processors : ℕ) (program : Program) (limit : ℕ) (defs : List (Value Name)) (size : ℕ) (some : 1 ≤ size) (combine f : Value Name) (stages : List (Value Name)) where
  abbrev here : World Name
  here = names_world (language processors) program limit

  abbrev Tree : List (Value Name) → Value Name → Type 0
  Tree items y = FoldTree here defs size combine f stages items y

  -- the tree of the items, and what goes on with its value
  abbrev TreeThen : List (Value Name) → (Value Name → Plan Name) → Value Name → Type 0
  TreeThen items k v = (y : Value Name) × Tree items y × Comes here defs (k y) v

  reduced_then : (init c : Value Name) (k : Value Name → Plan Name) {v : Value Name} → Comes here defs (reduce_through stages f init c k) v → (y : Value Name) × Comes here defs (reduce_through stages f init c give) y × Comes here defs (k y) v
  reduced_then init c k {v = v} d = split here (reduce_through stages f init c give) {k = k} (subst (λ p. Comes here defs p v) (sym (then_enter_each k stages (fresh stages) (reduces f init) c (λ states sink done. give (answer_of sink)))) d)

  group : (items : List (Value Name)) (k : Value Name → Plan Name) {v : Value Name} → length items ≤ size → Comes here defs (fold_group combine f stages items k) v → TreeThen items k v
  group [] k h (comes_call {y = y} a d) = (y, of_none a, d)
  group (x ∷ xs) k h (comes_call {y = first} a d) =
      let r = reduced_then first (vector (values (x ∷ xs))) k d in
      (r.0, of_group (omega arith) h a r.1, r.2)

  abbrev fold_of : List (Value Name) → Term Name
  fold_of items = record { op = O.Fold; args = vector (values items) ∷ int (pos size) ∷ combine ∷ f ∷ stages }

  -- the future's value is what the fold of its items comes to
  opened : (items : List (Value Name)) (m : Name) (y : Value Name) → Part (language processors) program limit m Future (work defs (of_term (fold_of items))) → Gives (language processors) program limit m (gave y) → Comes here defs (fold_items (pos size) combine f stages items give) y
  opened items m y p g = subst (λ l. Comes here defs (fold_items (pos size) combine f stages l give) y) (list_values items) (comes_of (language processors) program limit m defs (of_term (fold_of items)) y g (open_part (language processors) program limit p))

  abbrev halved : ℕ → List (Value Name) → (Value Name → Plan Name) → Plan Name
  halved n items k =
      make_term Future O.Fold (vector (values (drop (length items / 2) items)) ∷ int (pos size) ∷ combine ∷ f ∷ stages) (λ m.
      fold_at_most n (pos size) combine f stages (take (length items / 2) items) (λ left. ask m (λ right. call combine (left ∷ right ∷ []) k)))

  abbrev firsts : List (Value Name) → List (Value Name)
  firsts items = take (length items / 2) items

  abbrev others : List (Value Name) → List (Value Name)
  others items = drop (length items / 2) items

  -- what folds the items by at most m halvings comes to their tree
  abbrev Treed : ℕ → List (Value Name) → Type 0
  Treed m items = (k : Value Name → Plan Name) (v : Value Name) → Comes here defs (fold_at_most m (pos size) combine f stages items k) v → TreeThen items k v

  same : {x y : Value Name} → Comes here defs (give x) y → x ≡ y
  same comes_give = refl

  no_items : (m : ℕ) (b : Bool) → int_le (pos 0) (pos size) ≡ b → (k : Value Name → Plan Name) (v : Value Name) → Comes here defs (cond b (fold_group combine f stages [] k) (halved m [] k)) v → TreeThen [] k v
  no_items m true e k v d = group [] k (within 0 size e) d
  no_items m false e k v d = absurd (let r = over 0 size e in omega arith)

  last : (items : List (Value Name)) → size < length items → (left : Value Name) → Tree (firsts items) left → (c : Name) → Part (language processors) program limit c Future (work defs (of_term (fold_of (others items)))) → Treed (length (others items)) (others items) → (k : Value Name → Plan Name) (v : Value Name) → Comes here defs (ask c (λ right. call combine (left ∷ right ∷ []) k)) v → TreeThen items k v
  last items q left tl c p right k v (comes_ask {u = r} s (comes_call {y = y} a e)) =
      let u = right give r (opened (others items) c r p s) in
      (y, of_halves q tl (subst (λ x. Tree (others items) x) (same u.2) u.1) a, e)

  halves : (n m : ℕ) (items : List (Value Name)) → size < length items → length items ≤ suc n → length items ≤ suc m → (length (firsts items) ≤ n → length (firsts items) ≤ m → Treed m (firsts items)) → (length (others items) ≤ n → Treed (length (others items)) (others items)) → (k : Value Name → Plan Name) (v : Value Name) → Comes here defs (halved m items k) v → TreeThen items k v
  halves n m items q h g left right k v (comes_make {c = c} p d) =
      let a : length items / 2 ≤ n = half_le h in
      let b : length items / 2 ≤ m = half_le g in
      let s = half_is_some (length items) (omega arith) in
      let t = left (rw (length-take (length items / 2) items) (omega (arith, a))) (rw (length-take (length items / 2) items) (omega (arith, b))) (λ left. ask c (λ right. call combine (left ∷ right ∷ []) k)) v d in
      last items q t.0 t.1 c p (right (rw (length-drop (length items / 2) items) (omega (arith, s, h)))) k v t.2

  some_items : (n m : ℕ) (items : List (Value Name)) → length items ≤ suc n → length items ≤ suc m → (length (firsts items) ≤ n → length (firsts items) ≤ m → Treed m (firsts items)) → (length (others items) ≤ n → Treed (length (others items)) (others items)) → (b : Bool) → int_le (pos (length items)) (pos size) ≡ b → (k : Value Name → Plan Name) (v : Value Name) → Comes here defs (cond b (fold_group combine f stages items k) (halved m items k)) v → TreeThen items k v
  some_items n m items h g left right true e k v d = group items k (within (length items) size e) d
  some_items n m items h g left right false e k v d = halves n m items (over (length items) size e) h g left right k v d

  tree : (n m : ℕ) (items : List (Value Name)) → length items ≤ n → length items ≤ m → Treed m items
  tree n zero [] h g k v d = group [] k (omega arith) d
  tree n zero (x ∷ xs) h g k v d = absurd (omega arith)
  tree zero (suc m) [] h g k v d = no_items m (int_le (pos 0) (pos size)) refl k v d
  tree zero (suc m) (x ∷ xs) h g k v d = absurd (omega arith)
  tree (suc n) (suc m) items h g k v d = some_items n m items h g (tree n m (firsts items)) (λ l. tree n (length (others items)) (others items) l (omega arith)) (int_le (pos (length items)) (pos size)) refl k v d

  pub folded : (items : List (Value Name)) (y : Value Name) → Comes here defs (fold_items (pos size) combine f stages items give) y → Tree items y
  folded items y d =
      let t = tree (length items) (length items) items (omega arith) (omega arith) give y d in
      subst (λ x. Tree items x) (same t.2) t.1

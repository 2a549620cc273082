-- A level of a vector, whatever its items hold: it shows every item in order, and what is true of it turns on lengths alone.
use mathlib.Core.Path.{◌≡◌, refl, sym, ap, subst, ◌∙◌}
use mathlib.Core.List.{List, [], ◌∷◌, ◌++◌, map}
use mathlib.Core.Former.{Former, Count, Row, const, pair, list, via}
use Prim.Native.Nat.{ℕ, ◌≤◌}
use native.Mathlib.Bridge.{le_prop}
use lib.ListN.{length, length-map}
use denote.Model.Placed.{Held}
use Rattle.seq_vector.specs.declared.blocks.Deep.{Deep}
use Rattle.seq_vector.specs.Blocks.{joined, AreFull, deep_items, IsDeep}

-- what x holds, before what follows
abbrev pub before : (f : Former {0}) (X : Type 0) → f.Of X → Held X → Held X
before f X x rest = (f.count (f.shape X x) rest.0, f.put X x rest.0 rest.1)

append_held : (b : Former {0}) (X : Type 0) (xs ys : List (b.Of X)) (rest : Held X) → before (list b) X (xs ++ ys) rest ≡ before (list b) X xs (before (list b) X ys rest)
append_held b X [] ys rest = refl
append_held b X (x ∷ xs) ys rest = ap (before b X x) (append_held b X xs ys rest)

joined_held : (b : Former {0}) (X : Type 0) (all : List (List (b.Of X))) (rest : Held X) → before (list b) X (joined all) rest ≡ before (list (list b)) X all rest
joined_held b X [] rest = refl
joined_held b X (xs ∷ more) rest = append_held b X xs (joined more) rest ∙ ap (before (list b) X xs) (joined_held b X more rest)

map_append : {A B : Type 0} (k : A → B) (xs ys : List A) → map k (xs ++ ys) ≡ map k xs ++ map k ys
map_append k [] ys = refl
map_append k (x ∷ xs) ys = ap (λ l. k x ∷ l) (map_append k xs ys)

map_joined : {A B : Type 0} (k : A → B) (all : List (List A)) → joined (map (map k) all) ≡ map k (joined all)
map_joined k [] = refl
map_joined k (xs ∷ more) = ap (λ l. map k xs ++ l) (map_joined k more) ∙ sym (map_append k xs (joined more))

full_map : {A B : Type 0} (k : A → B) (up : List (List A)) → AreFull up → AreFull (map (map k) up)
full_map k [] f = tt
full_map k (xs ∷ up) f = (subst (λ (n : ℕ). (n ≤ 32) × (32 ≤ n)) (sym (length-map xs k)) f.0, full_map k up f.1)

full_unmap : {A B : Type 0} (k : A → B) (up : List (List A)) → AreFull (map (map k) up) → AreFull up
full_unmap k [] f = tt
full_unmap k (xs ∷ up) f = (subst (λ (n : ℕ). (n ≤ 32) × (32 ≤ n)) (length-map xs k) f.0, full_unmap k up f.1)

full_prop : {A : Type 0} (up : List (List A)) (p q : AreFull up) → p ≡ q
full_prop [] p q = refl
full_prop (xs ∷ up) p q = λ i. ((le_prop p.0.0 q.0.0 i, le_prop p.0.1 q.0.1 i), full_prop up p.1 q.1 i)

-- a type u of levels over blocks of type b
pub record Level (b u : Former {0}) : Type 1 where
  pub above : (X : Type 0) → u.Of X → List (b.Of X)
  pub IsGood : (X : Type 0) → u.Of X → Type 0
  pub natural : (X Y : Type 0) (h : X → Y) (x : u.Of X) → above Y (u.map X Y h x) ≡ map (b.map X Y h) (above X x)
  pub keeps : (X : Type 0) (x : u.Of X) (rest : Held X) → before (list b) X (above X x) rest ≡ before u X x rest
  pub one : (X : Type 0) (x : u.Of X) (p q : IsGood X x) → p ≡ q
  pub to : (X Y : Type 0) (h : X → Y) (x : u.Of X) → IsGood X x → IsGood Y (u.map X Y h x)
  pub from : (X Y : Type 0) (h : X → Y) (x : u.Of X) → IsGood Y (u.map X Y h x) → IsGood X x

abbrev pub top : (b : Former {0}) → Level b (list b)
top b = record {
  above = λ X xs. xs;
  IsGood = λ X xs. Unit {0};
  natural = λ X Y h xs. refl;
  keeps = λ X xs rest. refl;
  one = λ X xs p q. refl;
  to = λ X Y h xs g. tt;
  from = λ X Y h xs g. tt;
}

abbrev pub deep_former : Former {0} → Former {0} → Former {0}
deep_former b u = via (pair (const ℕ) (pair (list b) (pair u (list b)))) (λ X. Deep (b.Of X) (u.Of X)) (λ X d. (d.count, (d.left, (d.upper, d.right))))
    (λ X v. record { count = v.0; left = v.1.0; upper = v.1.1.0; right = v.1.1.1 }) (λ X d. refl) (λ X v. refl)

module _ (b u : Former {0}) (v : Level (list b) u) where
  pub deep_natural : (X Y : Type 0) (h : X → Y) (d : Deep (b.Of X) (u.Of X))
      → deep_items (v.above Y) ((deep_former b u).map X Y h d) ≡ map (b.map X Y h) (deep_items (v.above X) d)
  deep_natural X Y h d =
      let k : b.Of X → b.Of Y = b.map X Y h in
      ap (λ z. map k d.left ++ (joined z ++ map k d.right)) (v.natural X Y h d.upper)
      ∙ ap (λ z. map k d.left ++ (z ++ map k d.right)) (map_joined k (v.above X d.upper))
      ∙ ap (λ z. map k d.left ++ z) (sym (map_append k (joined (v.above X d.upper)) d.right))
      ∙ sym (map_append k d.left (joined (v.above X d.upper) ++ d.right))

  pub deep_keeps : (X : Type 0) (d : Deep (b.Of X) (u.Of X)) (rest : Held X) → before (list b) X (deep_items (v.above X) d) rest ≡ before (deep_former b u) X d rest
  deep_keeps X d rest =
      append_held b X d.left (joined (v.above X d.upper) ++ d.right) rest
      ∙ ap (before (list b) X d.left) (append_held b X (joined (v.above X d.upper)) d.right rest
      ∙ joined_held b X (v.above X d.upper) (before (list b) X d.right rest) ∙ v.keeps X d.upper (before (list b) X d.right rest))

  length_same : (X Y : Type 0) (h : X → Y) (d : Deep (b.Of X) (u.Of X)) → length (deep_items (v.above Y) ((deep_former b u).map X Y h d)) ≡ length (deep_items (v.above X) d)
  length_same X Y h d = ap length (deep_natural X Y h d) ∙ length-map (deep_items (v.above X) d) (b.map X Y h)

  pub deep_to : (X Y : Type 0) (h : X → Y) (d : Deep (b.Of X) (u.Of X)) → IsDeep (v.above X) (v.IsGood X) d → IsDeep (v.above Y) (v.IsGood Y) ((deep_former b u).map X Y h d)
  deep_to X Y h d g = record {
    upper = v.to X Y h d.upper g.upper;
    full = subst AreFull (sym (v.natural X Y h d.upper)) (full_map (b.map X Y h) (v.above X d.upper) g.full);
    few = subst (λ (n : ℕ). n ≤ 32) (sym (length-map d.right (b.map X Y h))) g.few;
    most = subst (λ (n : ℕ). d.count ≤ n) (sym (length_same X Y h d)) g.most;
    least = subst (λ (n : ℕ). n ≤ d.count) (sym (length_same X Y h d)) g.least;
  }

  pub deep_from : (X Y : Type 0) (h : X → Y) (d : Deep (b.Of X) (u.Of X)) → IsDeep (v.above Y) (v.IsGood Y) ((deep_former b u).map X Y h d) → IsDeep (v.above X) (v.IsGood X) d
  deep_from X Y h d g = record {
    upper = v.from X Y h d.upper g.upper;
    full = full_unmap (b.map X Y h) (v.above X d.upper) (subst AreFull (v.natural X Y h d.upper) g.full);
    few = subst (λ (n : ℕ). n ≤ 32) (length-map d.right (b.map X Y h)) g.few;
    most = subst (λ (n : ℕ). d.count ≤ n) (length_same X Y h d) g.most;
    least = subst (λ (n : ℕ). n ≤ d.count) (length_same X Y h d) g.least;
  }

  pub deep_one : (X : Type 0) (d : Deep (b.Of X) (u.Of X)) (p q : IsDeep (v.above X) (v.IsGood X) d) → p ≡ q
  deep_one X d p q = λ i. record {
    upper = v.one X d.upper p.upper q.upper i;
    full = full_prop (v.above X d.upper) p.full q.full i;
    few = le_prop p.few q.few i;
    most = le_prop p.most q.most i;
    least = le_prop p.least q.least i;
  }

  abbrev pub deep : Level b (deep_former b u)
  deep = record {
    above = λ X. deep_items (v.above X);
    IsGood = λ X. IsDeep (v.above X) (v.IsGood X);
    natural = deep_natural;
    keeps = deep_keeps;
    one = deep_one;
    to = deep_to;
    from = deep_from;
  }

-- The locals in scope, after one more is bound and after the last is taken out.
use Rattle.std.proofs.Common.{◌≡◌, ℕ, ◌+◌, Bool, true, false, List, [], ◌∷◌, ◌++◌, length, Option, Some, None, cond, refl, sym, ◌∙◌, ap, subst, arith, append_assoc, append-nil, suc}
use Rattle.std.specs.Str.{bytes_eq}
use Rattle.std.specs.HashMap.{HashMap, UpdatesBy}
use Rattle.std.specs.Map.{KeepsOthers}
use Rattle.std.proofs.lemmas.Slice.Eq.{bytes_eq-Decides}
use Rattle.std.specs.declared.vec.Vec.{Vec}
use Rattle.std.specs.declared.alloc.Global.{Global}
use Rattle.clj_script.specs.declared.locals.Local.{Local}
use Rattle.clj_script.specs.Scopes.{or_else, innermost_from, innermost}
use Rattle.clj_script.specs.Locals.{names, held, IsShadowing, IsKept, all_but_last}

same_name : (a b : List ℕ) → bytes_eq a b ≡ true → a ≡ b
same_name a b = (bytes_eq-Decides a b).0

name_is_same : (a b : List ℕ) → a ≡ b → bytes_eq a b ≡ true
name_is_same a b = (bytes_eq-Decides a b).1

true_or_false : {C : Type 0} (b : Bool) → (b ≡ true → C) → (b ≡ false → C) → C
true_or_false true f g = f refl
true_or_false false f g = g refl

not_both : {b : Bool} → b ≡ true → b ≡ false → ⊥
not_both e f = (cc)

pub turned : (a b : List ℕ) → bytes_eq a b ≡ bytes_eq b a
turned a b = true_or_false (bytes_eq a b)
    (λ e. e ∙ sym (name_is_same b a (sym (same_name a b e))))
    (λ e. true_or_false (bytes_eq b a) (λ f. absurd (not_both (name_is_same a b (sym (same_name b a f))) e)) (λ f. e ∙ sym f))

-- the innermost local with a name, once one more is bound
innermost_from_bound : (n : ℕ) (ls : List (List ℕ)) (l name : List ℕ) → innermost_from n (ls ++ l ∷ []) name ≡ cond (bytes_eq l name) (Some (n + length ls)) (innermost_from n ls name)
innermost_from_bound n [] l name =
    let e : n ≡ n + 0 = omega arith in
    ap (λ (m : ℕ). cond (bytes_eq l name) (Some m) None) e
innermost_from_bound n (k ∷ ls) l name =
    let e : innermost_from (n + 1) (ls ++ l ∷ []) name ≡ cond (bytes_eq l name) (Some (n + 1 + length ls)) (innermost_from (n + 1) ls name) = innermost_from_bound (n + 1) ls l name in
    let f : n + 1 + length ls ≡ n + length (k ∷ ls) = omega arith in
    rw (e, f) (chosen (bytes_eq l name) (n + length (k ∷ ls)) (innermost_from (n + 1) ls name) (cond (bytes_eq k name) (Some n) None)) where
      chosen : (b : Bool) (m : ℕ) (inner other : Option ℕ) → or_else (cond b (Some m) inner) other ≡ cond b (Some m) (or_else inner other)
      chosen true m inner other = refl
      chosen false m inner other = refl

pub innermost-bound : (ls : List (List ℕ)) (l name : List ℕ) → innermost (ls ++ l ∷ []) name ≡ cond (bytes_eq l name) (Some (length ls)) (innermost ls name)
unfolding innermost
innermost-bound ls l name = innermost_from_bound 0 ls l name ∙ ap (λ n. cond (bytes_eq l name) (Some n) (innermost_from 0 ls name)) (omega arith)

vec_eq : Vec ℕ Global → Vec ℕ Global → Bool
vec_eq x y = bytes_eq x.items y.items

module _ {X S : Type 0} where
  -- a map after a change at a name has for each other what it had
  keeps_others : (bs : List ℕ) (m n : HashMap (Vec ℕ Global) X S) → KeepsOthers (λ (x y : Vec ℕ Global). bytes_eq x.items y.items) (λ k. bytes_eq bs k.items) m.entries n.entries → (cs : List ℕ) → bytes_eq bs cs ≡ false → held n cs ≡ held m cs
  unfolding KeepsOthers
  keeps_others bs m n keeps cs e = keeps (λ k. bytes_eq cs k.items)
      (λ x y f. ap (λ (ds : List ℕ). bytes_eq ds y.items) (same_name cs x.items f))
      (λ k f. true_or_false (bytes_eq cs k.items) (λ g. absurd (not_both (name_is_same bs cs (same_name bs k.items f ∙ sym (same_name cs k.items g))) e)) (λ g. g))

  -- what a map has for a name after a change at another or the same
  pub held_after : (bs : List ℕ) (m n : HashMap (Vec ℕ Global) X S) (w : Option X) → UpdatesBy (λ (x y : Vec ℕ Global). bytes_eq x.items y.items) (λ k. bytes_eq bs k.items) m n w → (cs : List ℕ) → held n cs ≡ cond (bytes_eq bs cs) w (held m cs)
  held_after bs m n w u cs = true_or_false (bytes_eq bs cs)
      (λ e. subst (λ (ds : List ℕ). held n ds ≡ cond (bytes_eq bs ds) w (held m ds)) (same_name bs cs e) (rw (name_is_same bs bs refl) u.1))
      (λ e. rw e (keeps_others bs m n u.3 cs e))

-- behind these names, one more local knows what it shadows
shadowing_more : (before : List (List ℕ)) (ls : List Local) (l : Local) → IsShadowing before ls → l.shadowed ≡ innermost (before ++ names ls) l.name.items → IsShadowing before (ls ++ l ∷ [])
shadowing_more before [] l s e = (rw (append-nil before) at e, tt)
shadowing_more before (k ∷ ls) l s e = (s.0, shadowing_more (before ++ k.name.items ∷ []) ls l s.1 (rw append_assoc e))

shadowing_fewer : (before : List (List ℕ)) (ls : List Local) (l : Local) → IsShadowing before (ls ++ l ∷ []) → IsShadowing before ls × (l.shadowed ≡ innermost (before ++ names ls) l.name.items)
shadowing_fewer before [] l s = (tt, rw append-nil s.0)
shadowing_fewer before (k ∷ ls) l s =
    let t : IsShadowing (before ++ k.name.items ∷ []) ls × (l.shadowed ≡ innermost ((before ++ k.name.items ∷ []) ++ names ls) l.name.items) = shadowing_fewer (before ++ k.name.items ∷ []) ls l s.1 in
    ((s.0, t.0), rw append_assoc at t.1)

names_more : (ls : List Local) (l : Local) → names (ls ++ l ∷ []) ≡ names ls ++ l.name.items ∷ []
names_more [] l = refl
names_more (k ∷ ls) l = ap (λ (ns : List (List ℕ)). k.name.items ∷ ns) (names_more ls l)

names_length : (ls : List Local) → length (names ls) ≡ length ls
names_length [] = refl
names_length (k ∷ ls) = ap suc (names_length ls)

at_name : {p q r t : Option ℕ} {b d : Bool} {number len len' : ℕ} → p ≡ cond b (Some number) q → q ≡ r → t ≡ cond d (Some len) r → len ≡ len' → b ≡ d → number ≡ len' → p ≡ t
at_name i j h k f e = (cc)

nothing_found : (name : List ℕ) → None ≡ innermost [] name
unfolding innermost
nothing_found name = refl

module _ {S : Type 0} where
  -- no local, and an empty map
  pub kept_none : (ls : List Local) (m : HashMap (Vec ℕ Global) ℕ S) → ls ≡ [] → m.entries ≡ [] → IsKept ls m
  kept_none ls m e f = record { found = λ name. rw (e, f) (nothing_found name); shadowing = rw e tt }

  -- the map after one more local is bound
  pub kept_bound : (ls : List Local) (l : Local) (m n : HashMap (Vec ℕ Global) ℕ S) (bs : List ℕ) (number : ℕ) → IsKept ls m → UpdatesBy (λ (x y : Vec ℕ Global). bytes_eq x.items y.items) (λ k. bytes_eq bs k.items) m n (Some number) → number ≡ length ls → bs ≡ l.name.items → l.shadowed ≡ held m l.name.items → IsKept (ls ++ l ∷ []) n
  kept_bound ls l m n bs number kept u e f g = record {
    found = λ name.
        let h : innermost (names ls ++ l.name.items ∷ []) name ≡ cond (bytes_eq l.name.items name) (Some (length (names ls))) (innermost (names ls) name) = innermost-bound (names ls) l.name.items name in
        let i : held n name ≡ cond (bytes_eq bs name) (Some number) (held m name) = held_after bs m n (Some number) u name in
        let j : held m name ≡ innermost (names ls) name = kept.found name in
        let k : length (names ls) ≡ length ls = names_length ls in
        rw (names_more ls l) (at_name i j h k (ap (λ (ds : List ℕ). bytes_eq ds name) f) e);
    shadowing = shadowing_more [] ls l kept.shadowing (g ∙ kept.found l.name.items);
  }

  -- the map after the last local is taken out
  pub kept_freed : (ls : List Local) (l : Local) (m n : HashMap (Vec ℕ Global) ℕ S) (bs : List ℕ) (w : Option ℕ) → IsKept (ls ++ l ∷ []) m → UpdatesBy (λ (x y : Vec ℕ Global). bytes_eq x.items y.items) (λ k. bytes_eq bs k.items) m n w → w ≡ l.shadowed → bs ≡ l.name.items → IsKept ls n
  kept_freed ls l m n bs w kept u v f =
      let t : IsShadowing [] ls × (l.shadowed ≡ innermost (names ls) l.name.items) = shadowing_fewer [] ls l kept.shadowing in
      record {
        found = λ name. held_after bs m n w u name ∙ freed name (v ∙ t.1);
        shadowing = t.0;
      } where
        without : (name : List ℕ) → held m name ≡ innermost (names (ls ++ l ∷ [])) name → bytes_eq l.name.items name ≡ false → held m name ≡ innermost (names ls) name
        without name e g =
            let h : innermost (names ls ++ l.name.items ∷ []) name ≡ cond (bytes_eq l.name.items name) (Some (length (names ls))) (innermost (names ls) name) = innermost-bound (names ls) l.name.items name in
            let i : innermost (names ls ++ l.name.items ∷ []) name ≡ innermost (names ls) name = rw g at h in
            rw (names_more ls l) at e ∙ i

        freed : (name : List ℕ) → w ≡ innermost (names ls) l.name.items → cond (bytes_eq bs name) w (held m name) ≡ innermost (names ls) name
        freed name e = true_or_false (bytes_eq bs name)
            (λ g. rw g (e ∙ ap (λ (ds : List ℕ). innermost (names ls) ds) (sym f ∙ same_name bs name g)))
            (λ g. rw g (without name (kept.found name) (ap (λ (ds : List ℕ). bytes_eq ds name) (sym f) ∙ g)))

  -- where the last local shadows another, the map has its name
  pub has_name : (ls : List Local) (l : Local) (m : HashMap (Vec ℕ Global) ℕ S) → IsKept (ls ++ l ∷ []) m → held m l.name.items ≡ Some (length ls)
  has_name ls l m kept =
      let h : innermost (names ls ++ l.name.items ∷ []) l.name.items ≡ cond (bytes_eq l.name.items l.name.items) (Some (length (names ls))) (innermost (names ls) l.name.items) = innermost-bound (names ls) l.name.items l.name.items in
      let i : innermost (names ls ++ l.name.items ∷ []) l.name.items ≡ Some (length ls) = rw (name_is_same l.name.items l.name.items refl, names_length ls) at h in
      let e : held m l.name.items ≡ innermost (names ls ++ l.name.items ∷ []) l.name.items = rw (names_more ls l) at (kept.found l.name.items) in
      e ∙ i

pub last_taken : {X : Type 0} (xs : List X) (x : X) → all_but_last (xs ++ x ∷ []) ≡ xs
last_taken [] x = refl
last_taken (y ∷ []) x = refl
last_taken (y ∷ z ∷ xs) x = ap (λ ws. y ∷ ws) (last_taken (z ∷ xs) x)

pub not_none : {X : Type 0} {o : Option X} {x : X} → o ≡ Some x → o ≡ None → ⊥
not_none e f = (cc)

-- the names of all but the last
pub names_taken : (all ls : List Local) (l : Local) → all ≡ ls ++ l ∷ [] → names ls ≡ all_but_last (names all)
names_taken all ls l e = rw (e, names_more ls l) (sym (last_taken (names ls) l.name.items))

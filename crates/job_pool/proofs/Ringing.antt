-- Each call keeps the rule of the closing word.
use Rattle.std.proofs.Common.{◌≡◌, ◌≢◌, ℕ, Bool, true, false, true≢false, ◌||◌, List, [], ◌∷◌, get_or, set, sym, refl, ap, ◌∙◌, subst, ⊎_elim, ◌⊎◌, inl, inr, arith}
use mathlib.Core.Logic.{dite}
use mathlib.Core.Option.{none, some}
use native.Mathlib.Decide.{ℕ_discrete}
use lib.ListN.{get_elem?}
use lib.Seq.{set-get_or}
use Rattle.atomic_table.specs.Table.{State, Me, keeps, step, Allows, Splits, Joins}
use Rattle.atomic_table.proofs.Lists.{at_set, set_again, set_else, at_snoc}
use Rattle.job_pool.specs.declared.rules.Heard.{Heard}
use Rattle.job_pool.specs.Pooling.{heard, Rings, hears, calls}

all_set : {A : Type 0} (F : ℕ → A → Type 0) (l : List A) (i : ℕ) (w : A) → F i w → ((j : ℕ) (u : A) → j ≢ i → get_elem? l j ≡ some u → F j u) → (j : ℕ) (u : A) → get_elem? (set l i w) j ≡ some u → F j u
all_set {A} F l i w mine others j u e = ⊎_elim (λ (x : (j ≡ i) × (w ≡ u)). subst (λ (y : ℕ × A). F y.0 y.1) (λ k. (sym x.0 k, x.1 k)) mine)
    (λ (x : (j ≢ i) × (get_elem? l j ≡ some u)). others j u x.0 x.1) (at_set l i j w u e)

one_is : (s : State (Unit {0}) Heard) → Rings s → get_or s.words 0 0 ≡ 1 → s.words ≡ 1 ∷ []
one_is s r e = ⊎_elim (λ t. (let z : get_or s.words 0 0 ≡ 0 = ap (λ (l : List ℕ). get_or l 0 0) t in absurd (omega arith))) (λ t. t) r.0

-- a view whose knowledge is true where the word is 1
heard_view : (s : State (Unit {0}) Heard) (id : ℕ) (v w : Heard) → Rings s → get_elem? s.views id ≡ some v → (w.knows ≡ true → s.words ≡ 1 ∷ []) → Rings record { words = set s.words 0 (get_or s.words 0 0); homes = s.homes; views = set s.views id w }
heard_view s id v w r at ok = subst (λ (ws : List ℕ). Rings record { words = ws; homes = s.homes; views = set s.views id w }) (sym (set-get_or s.words 0 0))
    (r.0, all_set (λ _ (u : Heard). u.knows ≡ true → s.words ≡ 1 ∷ []) s.views id w ok (λ j u _ e. r.1 j u e))

pub hears_bell : (slots id : ℕ) (me : Me (Unit {0}) Heard) → Allows Rings slots id me 0 (λ x. x) (hears (step slots 0 0 0 none) me)
hears_bell slots id me s r _ at _ = dite (ℕ_discrete (get_or s.words 0 0) 1)
    (λ one. (heard true, keeps, tt, heard_view s id me.0 (heard true) r at (λ _. one_is s r one), ((λ _. refl), λ n. absurd (n one))))
    (λ not. (me.0, keeps, tt, heard_view s id me.0 me.0 r at (λ k. r.1 id me.0 at k), ((λ one. absurd (not one)), λ _. refl)))

set_one : (s : State (Unit {0}) Heard) → Rings s → set s.words 0 1 ≡ 1 ∷ []
set_one s r = ⊎_elim (λ t. ap (λ (l : List ℕ). set l 0 1) t) (λ t. ap (λ (l : List ℕ). set l 0 1) t) r.0

pub calls_bell : (slots id : ℕ) (me : Me (Unit {0}) Heard) → Allows Rings slots id me 0 (λ _. 1) (λ _. calls (step slots 0 1 0 none) me 1)
calls_bell slots id me s r _ at _ = let e = set_one s r in (heard true, keeps, tt, (inr e, λ i v _ _. e), refl)

pub splits_bell : (id : ℕ) (v : Heard) → Splits Rings id v v v
splits_bell id v s r at = (r.0, λ j u e is. ⊎_elim (λ t. r.1 j u (subst (λ (l : List Heard). get_elem? l j ≡ some u) (set_again s.views id v at) t) is) (λ (t : v ≡ u). r.1 id v at (ap (λ (x : Heard). x.knows) t ∙ is)) (at_snoc (set s.views id v) v u j e))

or_true : (a b : Bool) → a || b ≡ true → (a ≡ true) ⊎ (b ≡ true)
or_true true b e = inl refl
or_true false b e = inr e

pub joins_bell : (id : ℕ) (v : Heard) (other : ℕ) (w : Heard) → Joins Rings id v other w (heard (v.knows || w.knows)) (heard false)
joins_bell id v other w s r at apart there =
    let u : Heard = heard (v.knows || w.knows) in
    let was : get_elem? s.views other ≡ some w = sym (set_else s.views id other u apart) ∙ there in (
      r.0,
      all_set (λ _ (x : Heard). x.knows ≡ true → s.words ≡ 1 ∷ []) (set s.views id u) other (heard false) (λ no. absurd (true≢false (sym no)))
          (λ j x _ e. all_set (λ _ (x : Heard). x.knows ≡ true → s.words ≡ 1 ∷ []) s.views id u (λ is. ⊎_elim (λ t. r.1 id v at t) (λ t. r.1 other w was t) (or_true v.knows w.knows is)) (λ j x _ e. r.1 j x e) j x e),
    )

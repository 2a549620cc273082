-- The parts of all passes together are one whole.
use Rattle.std.proofs.Common.{◌≡◌, ℕ, zero, suc, ◌+◌, ◌*◌, ◌/◌, ◌<◌, ◌≤◌, List, [], ◌∷◌, ◌++◌, set, sym, refl, ap, ◌∙◌, subst, suc-mul, arith}
use Rattle.std.specs.Prelude.{sum_by}
use Rattle.std.proofs.Math.Nat.{add-mul, mul-add, zero-mul, mul_assoc, mul_comm, mul_right_comm, mul-div_cancel, mul-div_cancel_left}
use Rattle.std.proofs.lemmas.List.Sums.{sum_by-cons}
use mathlib.Core.Option.{some, some-injective, some-ne-none}
use lib.ListN.{get_elem?}
use Rattle.job_pool.specs.declared.rules.Hand.{Hand}
use Rattle.job_pool.specs.Pooling.{Weighs, Weighed, total}

abbrev pub doubled : List ℕ → List ℕ
doubled [] = []
doubled (w ∷ ws) = (w + w) ∷ doubled ws

pub total_doubled : (ws : List ℕ) → total (doubled ws) ≡ total ws + total ws
total_doubled [] = refl
total_doubled (w ∷ ws) = let t = total_doubled ws in omega arith

pub total_snoc : (ws : List ℕ) (w : ℕ) → total (ws ++ w ∷ []) ≡ total ws + w
total_snoc [] w = omega arith
total_snoc (x ∷ ws) w = let t = total_snoc ws w in omega arith

pub halved : (w q p d : ℕ) → w * q ≡ p * d → w * (q + q) ≡ p * (d + d)
halved w q p d e = mul-add w q q ∙ (λ i. e i + e i) ∙ sym (mul-add p d d)

pub more : (w q p d : ℕ) → w * q ≡ p * d → (w + w) * q ≡ p * (d + d)
more w q p d e = add-mul w w q ∙ (λ i. e i + e i) ∙ sym (mul-add p d d)

one_share : (w q p r d : ℕ) → w * q ≡ p * d → w * (q * r) ≡ p * r * d
one_share w q p r d e = sym (mul_assoc w q r) ∙ ap (λ (x : ℕ). x * r) e ∙ mul_right_comm p d r

pub summed : (w q p v r s d : ℕ) → w * q ≡ p * d → v * r ≡ s * d → (w + v) * (q * r) ≡ (p * r + s * q) * d
summed w q p v r s d e f =
    add-mul w v (q * r) ∙ (λ i. one_share w q p r d e i + (ap (λ (x : ℕ). v * x) (mul_comm q r) ∙ one_share v r s q d f) i) ∙ sym (add-mul (p * r) (s * q) d)

pub whole_is : (w q d : ℕ) → 0 < q → w * q ≡ q * d → w ≡ d
whole_is w q d h e = sym (mul-div_cancel w {n = q} h) ∙ ap (λ (x : ℕ). x / q) e ∙ mul-div_cancel_left d {n = q} h

pub same_weight : (v w q : ℕ) → 0 < q → v * q ≡ w * q → v ≡ w
same_weight v w q h e = sym (mul-div_cancel v {n = q} h) ∙ ap (λ (x : ℕ). x / q) e ∙ mul-div_cancel w {n = q} h

no_part : (p d : ℕ) → 0 < d → 0 ≡ p * d → p ≡ 0
no_part zero d h e = refl
no_part (suc p) d h e = let k = suc-mul p d in absurd (omega arith)

pub product_some : (p q : ℕ) → 0 < p → 0 < q → 0 < p * q
product_some zero q h k = absurd (omega arith)
product_some (suc p) q h k = let e = suc-mul p q in omega arith

-- a function that is 0 for a pass that has done nothing
abbrev pub Idles : (Hand → ℕ) → Type 0
Idles f = (u : Hand) → u.put ≡ [] → u.taken ≡ [] → f u ≡ 0

idle_view : (f : Hand → ℕ) → Idles f → (all w : ℕ) (u : Hand) → 0 < all → Weighs all w u → w ≡ 0 → f u ≡ 0
idle_view f idle all w u plus h z =
    let e : 0 ≡ u.part * all = sym (let k : w * u.whole ≡ 0 * u.whole = ap (λ (x : ℕ). x * u.whole) z in let n : 0 * u.whole ≡ 0 = zero-mul u.whole in sym h.share ∙ k ∙ n) in
    let i = h.idle (no_part u.part all plus e) in idle u i.0 i.1

idle_views : (f : Hand → ℕ) → Idles f → (all : ℕ) (ws : List ℕ) (vs : List Hand) → 0 < all → Weighed all ws vs → total ws ≡ 0 → sum_by f vs ≡ 0
idle_views f idle all [] [] plus h z = refl
idle_views f idle all [] (v ∷ vs) plus h z = absurd h
idle_views f idle all (w ∷ ws) [] plus h z = absurd h
idle_views f idle all (w ∷ ws) (v ∷ vs) plus h z =
    let c = sum_by-cons f v vs in let a = idle_view f idle all w v plus h.0 (omega arith) in let b = idle_views f idle all ws vs plus h.1 (omega arith) in omega arith

pub twice_weighed : (all : ℕ) (ws : List ℕ) (vs : List Hand) → Weighed all ws vs → Weighed (all + all) (doubled ws) vs
twice_weighed all [] [] h = tt
twice_weighed all [] (v ∷ vs) h = absurd h
twice_weighed all (w ∷ ws) [] h = absurd h
twice_weighed all (w ∷ ws) (v ∷ vs) h = (record { whole = h.0.whole; share = more w v.whole v.part all h.0.share; idle = h.0.idle }, twice_weighed all ws vs h.1)

pub snoc_weighed : (all : ℕ) (ws : List ℕ) (vs : List Hand) (w : ℕ) (v : Hand) → Weighed all ws vs → Weighs all w v → Weighed all (ws ++ w ∷ []) (vs ++ v ∷ [])
snoc_weighed all [] [] w v h n = (n, tt)
snoc_weighed all [] (u ∷ vs) w v h n = absurd h
snoc_weighed all (x ∷ ws) [] w v h n = absurd h
snoc_weighed all (x ∷ ws) (u ∷ vs) w v h n = (h.0, snoc_weighed all ws vs w v h.1 n)

-- one pass among all
pub record Focus (all : ℕ) (ws : List ℕ) (vs : List Hand) (i : ℕ) (v : Hand) : Type 0 where
  pub weight : ℕ
  pub is : Weighs all weight v
  pub within : weight ≤ total ws
  pub swap : (w : ℕ) (u : Hand) → Weighs all w u → Weighed all (set ws i w) (set vs i u)
  pub sums : (w : ℕ) → total (set ws i w) + weight ≡ total ws + w
  pub twice : (w : ℕ) (u : Hand) → Weighs (all + all) w u → Weighed (all + all) (set (doubled ws) i w) (set vs i u)
  pub sums_twice : (w : ℕ) → total (set (doubled ws) i w) + (weight + weight) ≡ total ws + total ws + w
  pub only : (f : Hand → ℕ) → Idles f → 0 < all → total ws ≤ weight → sum_by f vs ≡ f v

pub focus : (all : ℕ) (ws : List ℕ) (vs : List Hand) (i : ℕ) (v : Hand) → Weighed all ws vs → get_elem? vs i ≡ some v → Focus all ws vs i v
focus all [] [] i v h e = absurd (some-ne-none v (sym e))
focus all [] (u ∷ vs) i v h e = absurd h
focus all (w ∷ ws) [] i v h e = absurd h
focus all (w ∷ ws) (u ∷ vs) zero v h e =
    let s : u ≡ v = some-injective u v e in record {
      weight = w;
      is = subst (λ (x : Hand). Weighs all w x) s h.0;
      within = omega arith;
      swap = λ x y n. (n, h.1);
      sums = λ x. omega arith;
      twice = λ x y n. (n, twice_weighed all ws vs h.1);
      sums_twice = λ x. (let t = total_doubled ws in omega arith);
      only = λ f idle plus le. (let c = sum_by-cons f u vs in let z = idle_views f idle all ws vs plus h.1 (omega arith) in let k : f u ≡ f v = ap f s in omega arith);
    }
focus all (w ∷ ws) (u ∷ vs) (suc i) v h e =
    let r = focus all ws vs i v h.1 e in
    let m = r.within in record {
      weight = r.weight;
      is = r.is;
      within = omega arith;
      swap = λ x y n. (h.0, r.swap x y n);
      sums = λ x. (let t = r.sums x in omega arith);
      twice = λ x y n. (record { whole = h.0.whole; share = more w u.whole u.part all h.0.share; idle = h.0.idle }, r.twice x y n);
      sums_twice = λ x. (let t = r.sums_twice x in omega arith);
      only = λ f idle plus le. (let c = sum_by-cons f u vs in let z = idle_view f idle all w u plus h.0 (omega arith) in let k = r.only f idle plus (omega arith) in omega arith);
    }

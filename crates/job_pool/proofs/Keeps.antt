-- Each call keeps the rule of the queue.
use Rattle.std.proofs.Common.{◌≡◌, ℕ, ◌+◌, ◌*◌, ◌<◌, ◌==◌, cond, List, [], ◌∷◌, ◌++◌, length, get_or, set, sym, refl, ap, ◌∙◌, subst, zero, suc, arith}
use Rattle.std.specs.Prelude.{sum_by}
use Rattle.std.proofs.lemmas.List.Sums.{sum_by-set, sum_by_push, sum_by-append}
use Rattle.std.proofs.Math.Nat.{zero-mul}
use mathlib.Core.Option.{some, some-injective, some-ne-none}
use lib.ListN.{get_elem?}
use Rattle.atomic_table.proofs.Lists.{set_else}
use Rattle.crossbeam_queue.specs.Fifo.{Pushes, Pops, Forks, Merges, Learns}
use Rattle.job_pool.specs.declared.rules.Hand.{Hand}
use Rattle.job_pool.specs.Pooling.{times, hand, Weighs, Balanced, IsLeft, puts, gets, half, other_half, together}
use Rattle.job_pool.proofs.Weighing.{doubled, total_snoc, halved, summed, whole_is, same_weight, product_some, snoc_weighed, Idles, focus}

elem : {A : Type 0} (l : List A) (i : ℕ) (a : A) → get_elem? l i ≡ some a → (i < length l) × (get_or l i a ≡ a)
elem [] i a e = absurd (some-ne-none a (sym e))
elem (x ∷ xs) zero a e = (omega arith, some-injective x a e)
elem (x ∷ xs) (suc i) a e = let t = elem xs i a e in let l = t.0 in (omega arith, t.1)

sum_set : {A : Type 0} (f : A → ℕ) (l : List A) (i : ℕ) (v w : A) → get_elem? l i ≡ some v → sum_by f (set l i w) + f v ≡ sum_by f l + f w
sum_set {A} f l i v w e = let t = elem l i v e in subst (λ (x : A). sum_by f (set l i w) + f x ≡ sum_by f l + f w) t.1 (sum_by-set f l i w v t.0)

times_append : (x : ℕ) (xs ys : List ℕ) → times x (xs ++ ys) ≡ times x xs + times x ys
times_append x xs ys = sum_by-append (λ (y : ℕ). cond (y == x) 1 0) xs ys

times_cons : (x y : ℕ) (ys : List ℕ) → times x (y ∷ ys) ≡ times x (y ∷ []) + times x ys
times_cons x y ys = times_append x (y ∷ []) ys

abbrev put_of : ℕ → Hand → ℕ
put_of x v = times x v.put

abbrev taken_of : ℕ → Hand → ℕ
taken_of x v = times x v.taken

idle_put : (x : ℕ) → Idles (put_of x)
idle_put x u p t = ap (times x) p

idle_taken : (x : ℕ) → Idles (taken_of x)
idle_taken x u p t = ap (times x) t

busy : (n : ℕ) (X : Type 0) → 0 < n → n ≡ 0 → X
busy n X h z = absurd (omega arith)

-- who has all parts knows what is in the pool
pub left_over : (items : List ℕ) (views : List Hand) (port : ℕ) (v : Hand) → Balanced items views → get_elem? views port ≡ some v → IsLeft v items
left_over items views port v b at all x =
    let f = focus b.all b.weights views port v b.weighed at in
    let w : f.weight ≡ b.all = whole_is f.weight v.whole b.all f.is.whole (f.is.share ∙ ap (λ (n : ℕ). n * b.all) all) in
    let t = b.total in
    let p = f.only (put_of x) (idle_put x) b.some_all (omega arith) in
    let q = f.only (taken_of x) (idle_taken x) b.some_all (omega arith) in
    let e = b.jobs x in omega arith

pub learns : (port : ℕ) (v : Hand) → Learns Balanced port v (IsLeft v)
learns port v items views b at = left_over items views port v b at

pub pushes : (n port : ℕ) (v : Hand) (x : ℕ) → 0 < v.part → Pushes Balanced n port v x (puts v x)
pushes n port v x part items views room b at =
    let w : Hand = hand (v.put ++ x ∷ []) v.taken v.part v.whole in
    let f = focus b.all b.weights views port v b.weighed at in (
      w,
      record {
        jobs = λ y. (
            let p = sum_set (put_of y) views port v w at in
            let t = sum_set (taken_of y) views port v w at in
            let e = b.jobs y in
            let a = times_append y v.put (x ∷ []) in
            let c = times_append y items (x ∷ []) in omega arith);
        all = b.all;
        weights = set b.weights port f.weight;
        some_all = b.some_all;
        weighed = f.swap f.weight w record { whole = f.is.whole; share = f.is.share; idle = λ z. busy v.part _ part z };
        total = (let s = f.sums f.weight in let t = b.total in omega arith);
      },
      refl,
    )

pub pops : (port : ℕ) (v : Hand) → 0 < v.part → Pops Balanced port v (gets v)
pops port v part x items views b at =
    let w : Hand = hand v.put (v.taken ++ x ∷ []) v.part v.whole in
    let f = focus b.all b.weights views port v b.weighed at in (
      w,
      record {
        jobs = λ y. (
            let p = sum_set (put_of y) views port v w at in
            let t = sum_set (taken_of y) views port v w at in
            let e = b.jobs y in
            let a = times_append y v.taken (x ∷ []) in
            let c = times_cons y x items in omega arith);
        all = b.all;
        weights = set b.weights port f.weight;
        some_all = b.some_all;
        weighed = f.swap f.weight w record { whole = f.is.whole; share = f.is.share; idle = λ z. busy v.part _ part z };
        total = (let s = f.sums f.weight in let t = b.total in omega arith);
      },
      (
        refl,
        λ all y. (
            let e = left_over (x ∷ items) views port v b at all y in
            let a = times_append y v.taken (x ∷ []) in
            let c = times_cons y x items in omega arith),
      ),
    )

pub forks : (port : ℕ) (v : Hand) → 0 < v.part → Forks Balanced port v (half v) (other_half v)
forks port v part items views b at =
    let f = focus b.all b.weights views port v b.weighed at in
    let z : List Hand = set views port (half v) in
    let q = f.is.whole in
    let s : f.weight * (v.whole + v.whole) ≡ v.part * (b.all + b.all) = halved f.weight v.whole v.part b.all f.is.share in record {
      jobs = λ y. (
          let p = sum_set (put_of y) views port v (half v) at in
          let t = sum_set (taken_of y) views port v (half v) at in
          let p2 = sum_by_push (put_of y) z (other_half v) in
          let t2 = sum_by_push (taken_of y) z (other_half v) in
          let e = b.jobs y in omega arith);
      all = b.all + b.all;
      weights = set (doubled b.weights) port f.weight ++ f.weight ∷ [];
      some_all = let n = b.some_all in omega arith;
      weighed = snoc_weighed (b.all + b.all) (set (doubled b.weights) port f.weight) z f.weight (other_half v)
          (f.twice f.weight (half v) record { whole = omega arith; share = s; idle = λ n. busy v.part _ part n })
          record { whole = omega arith; share = s; idle = λ n. (refl, refl) };
      total = (let n = f.sums_twice f.weight in let t = b.total in let k = total_snoc (set (doubled b.weights) port f.weight) f.weight in omega arith);
    }

pub both_part : (v w : Hand) → 0 < v.part → 0 < w.whole → 0 < v.part * w.whole + w.part * v.whole
both_part v w p q = let n = product_some v.part w.whole p q in omega arith

pub merges : (port : ℕ) (v : Hand) (other : ℕ) (w : Hand) → 0 < v.part → Merges Balanced port v other w (together v w) (hand [] [] 0 1)
merges port v other w part items views b at apart there =
    let u : Hand = together v w in
    let z : List Hand = set views port u in
    let was : get_elem? views other ≡ some w = sym (set_else views port other u apart) ∙ there in
    let f = focus b.all b.weights views port v b.weighed at in
    let g = focus b.all b.weights views other w b.weighed was in
    let weighs : Weighs b.all (f.weight + g.weight) u = record {
      whole = product_some v.whole w.whole f.is.whole g.is.whole;
      share = summed f.weight v.whole v.part g.weight w.whole w.part b.all f.is.share g.is.share;
      idle = λ n. busy u.part _ (both_part v w part g.is.whole) n;
    } in
    let first = f.swap (f.weight + g.weight) u weighs in
    let ws : List ℕ = set b.weights port (f.weight + g.weight) in
    let h = focus b.all ws z other w first there in
    let same : h.weight ≡ g.weight = same_weight h.weight g.weight w.whole g.is.whole (h.is.share ∙ sym g.is.share) in record {
      jobs = λ y. (
          let p = sum_set (put_of y) views port v u at in
          let t = sum_set (taken_of y) views port v u at in
          let p2 = sum_set (put_of y) z other w (hand [] [] 0 1) there in
          let t2 = sum_set (taken_of y) z other w (hand [] [] 0 1) there in
          let a = times_append y v.put w.put in
          let c = times_append y v.taken w.taken in
          let e = b.jobs y in omega arith);
      all = b.all;
      weights = set ws other 0;
      some_all = b.some_all;
      weighed = h.swap 0 (hand [] [] 0 1) record { whole = omega arith; share = sym (zero-mul b.all); idle = λ _. (refl, refl) };
      total = (let s = f.sums (f.weight + g.weight) in let k = h.sums 0 in let t = b.total in omega arith);
    }

pub starts : Balanced [] (hand [] [] 1 1 ∷ [])
starts = record {
  jobs = λ x. refl;
  all = 1;
  weights = 1 ∷ [];
  some_all = omega arith;
  weighed = (record { whole = omega arith; share = refl; idle = λ _. (refl, refl) }, tt);
  total = refl;
}

pub no_more : (a b : ℕ) → a ≡ b + 0 → a ≡ b
no_more a b e = omega arith

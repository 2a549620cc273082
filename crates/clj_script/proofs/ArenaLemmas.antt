-- Trees in a row, each made of some before it.
use Rattle.std.proofs.Common.{◌≡◌, ℕ, ◌+◌, ◌<◌, ◌≤◌, zero, suc, map, List, [], ◌∷◌, ◌++◌, length, Some, None, refl, sym, ◌∙◌, ap, subst, arith, append_assoc, append-nil, length-append}
use Rattle.std.specs.Prelude.{slice_get}
use Rattle.clj_script.specs.Arena.{at, AllBelow, trees_behind, LowerFrom}

module _ {T : Type 0} (other : T) where
  pub at-kept : (ts more : List T) (n : ℕ) → n < length ts → at other (ts ++ more) n ≡ at other ts n
  at-kept [] more n h = absurd (omega arith)
  at-kept (t ∷ ts) more zero h = refl
  at-kept (t ∷ ts) more (suc n) h = at-kept ts more n (omega arith)

  pub at-last : (ts : List T) (t : T) (n : ℕ) → n ≡ length ts → at other (ts ++ t ∷ []) n ≡ t
  at-last [] t n e = rw e refl
  at-last (x ∷ ts) t n e = rw e (at-last ts t (length ts) refl)

  pub all_at-kept : (ts more : List T) (ns : List ℕ) → AllBelow (length ts) ns → map (at other (ts ++ more)) ns ≡ map (at other ts) ns
  all_at-kept ts more [] h = refl
  all_at-kept ts more (n ∷ ns) h =
      let e : at other (ts ++ more) n ≡ at other ts n = at-kept ts more n h.0 in
      let f : map (at other (ts ++ more)) ns ≡ map (at other ts) ns = all_at-kept ts more ns h.1 in
      (cc)

pub below_more : (m n : ℕ) (ns : List ℕ) → m ≤ n → AllBelow m ns → AllBelow n ns
below_more m n [] h b = tt
below_more m n (k ∷ ns) h b = (omega (arith, b.0), below_more m n ns h b.1)

pub below_both : (m : ℕ) (ns : List ℕ) (k : ℕ) → AllBelow m ns → k < m → AllBelow m (ns ++ k ∷ [])
below_both m [] k b h = (h, tt)
below_both m (n ∷ ns) k b h = (b.0, below_both m ns k b.1 h)

pub no_item_there : {E : Type 0} (n : ℕ) → slice_get {X = E} [] n ≡ None
no_item_there n = refl

pub no_item : {E : Type 0} (n : ℕ) (e : E) → slice_get [] n ≡ Some e → ⊥
no_item n e f = (cc)

pub lower_more : {E : Type 0} (parts : E → List ℕ) (n : ℕ) (es : List E) (e : E) → LowerFrom parts n es → AllBelow (n + length es) (parts e) → LowerFrom parts n (es ++ e ∷ [])
lower_more parts n [] e l b = (subst (λ (m : ℕ). AllBelow m (parts e)) (omega arith) b, tt)
lower_more parts n (x ∷ es) e l b = (l.0, lower_more parts (n + 1) es e l.1 (subst (λ (m : ℕ). AllBelow m (parts e)) (omega arith) b))

module _ {E T : Type 0} (over : List T → E → T) (parts : E → List ℕ) where
  pub trees_behind-append : (ts : List T) (es : List E) (e : E) → trees_behind over ts (es ++ e ∷ []) ≡ trees_behind over ts es ++ over (trees_behind over ts es) e ∷ []
  trees_behind-append ts [] e = refl
  trees_behind-append ts (x ∷ es) e = trees_behind-append (ts ++ over ts x ∷ []) es e

  -- trees behind trees are as many more as elements
  pub trees-length : (ts : List T) (es : List E) → length (trees_behind over ts es) ≡ length ts + length es
  trees-length ts [] = omega arith
  trees-length ts (e ∷ es) =
      let h : length (trees_behind over (ts ++ over ts e ∷ []) es) ≡ length (ts ++ over ts e ∷ []) + length es = trees-length (ts ++ over ts e ∷ []) es in
      let k : length (ts ++ over ts e ∷ []) ≡ length ts + 1 = length-append ts (over ts e ∷ []) in
      omega (arith, h, k)

  -- the trees so far stay
  pub record Keeps (ts all : List T) : Type 0 where
    pub more : List T
    pub kept : all ≡ ts ++ more

  -- elements that come later leave the trees so far
  pub trees_behind-join : (ts : List T) (es fs : List E) → trees_behind over ts (es ++ fs) ≡ trees_behind over (trees_behind over ts es) fs
  trees_behind-join ts [] fs = refl
  trees_behind-join ts (e ∷ es) fs = trees_behind-join (ts ++ over ts e ∷ []) es fs

  pub trees_keep : (ts : List T) (es : List E) → Keeps ts (trees_behind over ts es)
  trees_keep ts [] = record { more = []; kept = sym (append-nil ts) }
  trees_keep ts (e ∷ es) =
      let k : Keeps (ts ++ over ts e ∷ []) (trees_behind over (ts ++ over ts e ∷ []) es) = trees_keep (ts ++ over ts e ∷ []) es in
      record { more = over ts e ∷ k.more; kept = k.kept ∙ append_assoc ts (over ts e ∷ []) k.more }

  module _ (other : T) (stays : (ts more : List T) (e : E) → AllBelow (length ts) (parts e) → over (ts ++ more) e ≡ over ts e) where
    -- an element's tree is made of the trees of all
    pub read_behind : (ts : List T) (es : List E) (n : ℕ) (e : E) → LowerFrom parts (length ts) es → slice_get es n ≡ Some e → at other (trees_behind over ts es) (length ts + n) ≡ over (trees_behind over ts es) e
    read_behind ts [] n e l f = absurd (no_item n e f)
    read_behind ts (x ∷ es) zero e l f =
        let all : List T = trees_behind over (ts ++ over ts x ∷ []) es in
        let k : Keeps (ts ++ over ts x ∷ []) all = trees_keep (ts ++ over ts x ∷ []) es in
        let g : x ≡ e = (cc) in
        let a : all ≡ ts ++ over ts x ∷ k.more = k.kept ∙ append_assoc ts (over ts x ∷ []) k.more in
        let m : length ts + 0 ≡ length ts = omega arith in
        let h : at other ((ts ++ over ts x ∷ []) ++ k.more) (length ts) ≡ at other (ts ++ over ts x ∷ []) (length ts) = at-kept other (ts ++ over ts x ∷ []) k.more (length ts) (omega (arith, length-append ts (over ts x ∷ []))) in
        let i : at other (ts ++ over ts x ∷ []) (length ts) ≡ over ts x = at-last other ts (over ts x) (length ts) refl in
        let s : over (ts ++ over ts x ∷ k.more) x ≡ over ts x = stays ts (over ts x ∷ k.more) x l.0 in
        ap (λ (us : List T). at other us (length ts + 0)) k.kept ∙ ap (λ (n : ℕ). at other ((ts ++ over ts x ∷ []) ++ k.more) n) m ∙ h ∙ i ∙ sym s ∙ ap (λ (us : List T). over us x) (sym a) ∙ ap (λ (y : E). over all y) g
    read_behind ts (x ∷ es) (suc n) e l f =
        let len : length (ts ++ over ts x ∷ []) ≡ length ts + 1 = length-append ts (over ts x ∷ []) in
        let m : length ts + suc n ≡ length (ts ++ over ts x ∷ []) + n = omega (arith, len) in
        ap (λ (i : ℕ). at other (trees_behind over (ts ++ over ts x ∷ []) es) i) m ∙ read_behind (ts ++ over ts x ∷ []) es n e (subst (λ (i : ℕ). LowerFrom parts i es) (sym len) l.1) f

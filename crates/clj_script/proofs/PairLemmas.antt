-- Forms in pairs, and clauses in a row, as loops read them.
use Rattle.std.proofs.Common.{◌≡◌, ℕ, ◌-◌, ◌<◌, ◌≤◌, List, [], ◌∷◌, ◌++◌, length, map, take, drop, slice_index_or, Option, Some, None, refl, sym, ◌∙◌, ap, arith, append-nil, append_assoc}
use Rattle.std.proofs.lemmas.List.{take_all}
use Rattle.clj_script.specs.declared.source.Entry.{Entry}
use Rattle.clj_script.specs.Arena.{AllBelow}
use Rattle.clj_script.specs.Sources.{Source}
use Rattle.clj_script.specs.Entries.{form_at}
use Rattle.clj_script.specs.Readings.{paired, one_more}
use Rattle.clj_script.specs.Reads.{pair_at, numbers_of_pairs}
use Rattle.clj_script.proofs.EntryLemmas.{map-one}

-- these, and what there may be behind them
abbrev pub behind : {X : Type 0} → List X → Option (List X) → Option (List X)
behind xs (Some ys) = Some (xs ++ ys)
behind xs None = None

pub behind_none : {X : Type 0} (o : Option (List X)) → behind [] o ≡ o
behind_none (Some ys) = refl
behind_none None = refl

pub behind_one : (pairs : List (Source × Source)) (p : Source × Source) (o : Option (List (Source × Source))) → behind (pairs ++ p ∷ []) o ≡ behind pairs (one_more p o)
behind_one pairs p (Some ys) = ap (λ zs. Some zs) (append_assoc pairs (p ∷ []) ys)
behind_one pairs p None = refl

-- of these numbers of forms, the rest is still to be paired
pub record ArePaired (items rest : List ℕ) (pairs : List (ℕ × ℕ)) : Type 0 where
  pub stand : (es : List Entry) → behind (map (pair_at es) pairs) (paired (map (form_at es) rest)) ≡ paired (map (form_at es) items)
  pub below : (bound : ℕ) → AllBelow bound items → AllBelow bound (numbers_of_pairs pairs) × AllBelow bound rest

pub none_paired : (items : List ℕ) (pairs : List (ℕ × ℕ)) → pairs ≡ [] → ArePaired items items pairs
none_paired items pairs e = rw e (record { stand = λ es. behind_none (paired (map (form_at es) items)); below = λ bound b. (tt, b) })

pairs_below : (bound : ℕ) (pairs : List (ℕ × ℕ)) (m n : ℕ) → AllBelow bound (numbers_of_pairs pairs) → m < bound → n < bound → AllBelow bound (numbers_of_pairs (pairs ++ (m, n) ∷ []))
pairs_below bound [] m n b h k = (h, (k, tt))
pairs_below bound (p ∷ pairs) m n b h k = (b.0, (b.1.0, pairs_below bound pairs m n b.1.1 h k))

pub one_pair : (items rest : List ℕ) (pairs new : List (ℕ × ℕ)) → ArePaired items rest pairs → 2 ≤ length rest → new ≡ pairs ++ (slice_index_or rest 0 0, slice_index_or rest 1 0) ∷ [] → ArePaired items (take (length rest - 2) (drop 2 rest)) new
one_pair items [] pairs new a h e = absurd (omega arith)
one_pair items (m ∷ []) pairs new a h e = absurd (omega arith)
one_pair items (m ∷ n ∷ rest) pairs new a h e =
    let t : take (length (m ∷ n ∷ rest) - 2) rest ≡ rest = take_all (length (m ∷ n ∷ rest) - 2) rest (omega arith) in
    rw (e, t) (record {
      stand = λ es. ap (λ ps. behind ps (paired (map (form_at es) rest))) (map-one (pair_at es) pairs (m, n)) ∙ behind_one (map (pair_at es) pairs) (form_at es m, form_at es n) (paired (map (form_at es) rest)) ∙ a.stand es;
      below = λ bound b. let c = a.below bound b in (pairs_below bound pairs m n c.0 c.1.0 c.1.1.0, c.1.1.1);
    })

pub all_paired : (items rest : List ℕ) (pairs : List (ℕ × ℕ)) → ArePaired items rest pairs → length rest ≡ 0 → (es : List Entry) → Some (map (pair_at es) pairs) ≡ paired (map (form_at es) items)
all_paired items [] pairs a h es = ap (λ ps. Some ps) (sym (append-nil (map (pair_at es) pairs))) ∙ a.stand es
all_paired items (n ∷ ns) pairs a h es = absurd (omega arith)

pub one_left : (items rest : List ℕ) (pairs : List (ℕ × ℕ)) → ArePaired items rest pairs → length rest ≡ 1 → (es : List Entry) → None ≡ paired (map (form_at es) items)
one_left items [] pairs a h es = absurd (omega arith)
one_left items (n ∷ []) pairs a h es = a.stand es
one_left items (m ∷ n ∷ ns) pairs a h es = absurd (omega arith)

-- The work of the parts of lazy operations keeps to well-formed values.
use Rattle.std.proofs.Common.{◌≡◌, ℕ, suc, ◌+◌, nat_le, ℤ, pos, ◌-ℤ◌, int_le, int_lt, Bool, true, false, cond, ◌&&◌, List, [], ◌∷◌, ◌++◌, map, length, Option, refl, ap, sym, ◌∙◌, arith}
use Rattle.seq_values.specs.Sight.{Sight}
use Rattle.seq_values.specs.WellFormedTerms.{takes}
use Rattle.seq_values.specs.declared.words.Op.{Op}
use Rattle.seq_values.specs.declared.words.Op.TheVariants as O
use Rattle.seq_values.specs.Model.{Value, list, values}
use Rattle.seq_plan.specs.Plan.{Plan}
use Rattle.seq_plan.specs.Nodes.{deepest, first_of, rest_of, is_nil, is_truthy}
use Rattle.seq_plan.specs.WellFormed.{sights, Well, well_nil, well_int, well_cell, well_cons, well_none, well_more, WellList, well_end, well_item, well_term}
use Rattle.seq_plan.specs.Keeping.{Grouping, grouping, Keeps, keeps_seq, keeps_call, keeps_go, keeps_make, keeps_give, KeepsRound, keeps_end, keeps_fail, keeps_visits, keeps_calls_for}
use Rattle.seq_plan.proofs.ShallowLemmas.{one_less, left_of}
use Rattle.seq_plan.proofs.WellNodes.{WellChunk, well_unchunked, well_chunked, well-list, well-values, well-append, well-first_of, well-rest_of, well-chunk_of, keeps-either, keeps-if_nil, keeps-if_true, keeps-cond_round, keeps-round_at, keeps-with_members, keeps-give_value, keeps-call_each}
use Rattle.seq_plan.proofs.WellLists.{well-list_of, keeps-lazily, keeps-first_and, keeps-items_and, keeps-with_seq}
use Rattle.lazy_rows.specs.Terms.{map_on, map_rule, seq_each, unless_nil_among, map_all_rule, where_true, where_some, sift, one_or_cell, sift_on, filter_rule, keep_rule, take_rule, take_while_rule, drop_rule, drop_round, drop_while_rule, drop_while_round, concat_on, concat_rule, mapcat_rule, next_one_rule, repeat_rule, cycle_on, cycle_rule, parts_end, parts_on, parts_round, parts_rule}

-- an operation on a function and a collection
abbrev TakesTwo : Op → Type 0
TakesTwo op = (f c : Sight) → takes op (f ∷ c ∷ []) ≡ true

module _ {C : Type 0} where
  -- ## Map, MapN

  keeps-map_on : {f s : Value C} → Well f → Well s → {c : Option (List (Value C) × Value C)} → WellChunk c → Keeps Well (map_on f s c)
  keeps-map_on f s well_unchunked = keeps_call f (well_item (well-first_of s) well_end) (λ y w. keeps-first_and w O.Map (well_item f (well_item (well-rest_of s) well_end)) refl)
  keeps-map_on f s (well_chunked x r i) = keeps-call_each f x well_end (λ ys w. keeps-items_and w O.Map (well_item f (well_item r well_end)) refl)

  pub keeps-map_rule : (size : ℕ) {f c : Value C} → Well f → Well c → Keeps Well (map_rule size f c)
  keeps-map_rule size f c = keeps-with_seq c (λ s w. keeps-map_on f w (well-chunk_of size w))

  one_more : (ss : List (Value C)) (s : Value C) (n : ℕ) → length (ss ++ s ∷ []) + n ≡ length ss + suc n
  one_more [] s n = omega arith
  one_more (x ∷ ss) s n = let e = one_more ss s n in omega (arith, e)

  -- as many seqs as there are collections
  keeps-seq_each : {cs : List (Value C)} → WellList cs → {ss : List (Value C)} → WellList ss → (n : ℕ) → length ss + length cs ≡ n → {k : List (Value C) → Plan C} → ((zs : List (Value C)) → WellList zs → length zs ≡ n → Keeps Well (k zs)) → Keeps Well (seq_each ss cs k)
  keeps-seq_each well_end {ss = ss} z n e f = f ss z (omega (arith, e))
  keeps-seq_each (well_item {xs = cs} p q) {ss = ss} z n e f = keeps_seq p (λ s w i. keeps-seq_each q (well-append z (well_item w well_end)) n (one_more ss s (length cs) ∙ e) f)

  keeps-unless_nil_among : (ss : List (Value C)) {p : Plan C} → Keeps Well p → Keeps Well (unless_nil_among ss p)
  keeps-unless_nil_among [] h = h
  keeps-unless_nil_among (s ∷ ss) h = keeps-if_nil s (keeps_give well_nil) (keeps-unless_nil_among ss h)

  well-firsts : {xs : List (Value C)} → WellList xs → WellList (map first_of xs)
  well-firsts well_end = well_end
  well-firsts (well_item p q) = well_item (well-first_of p) (well-firsts q)

  well-rests : {xs : List (Value C)} → WellList xs → WellList (map rest_of xs)
  well-rests well_end = well_end
  well-rests (well_item p q) = well_item (well-rest_of p) (well-rests q)

  -- as many are seen
  as_many : (xs : List (Value C)) → length (sights (values xs)) ≡ length xs
  as_many [] = refl
  as_many (x ∷ xs) = ap suc (as_many xs)

  as_many_rests : (xs : List (Value C)) → length (sights (values (map rest_of xs))) ≡ length xs
  as_many_rests [] = refl
  as_many_rests (x ∷ xs) = ap suc (as_many_rests xs)

  pub keeps-map_all_rule : {f : Value C} → Well f → {cs : List (Value C)} → WellList cs → takes O.MapN (sights (values (f ∷ cs))) ≡ true → Keeps Well (map_all_rule f cs)
  keeps-map_all_rule f {cs = cs} h t = keeps-seq_each h well_end (length cs) (omega arith) (λ ss w e. keeps-unless_nil_among ss (keeps_call f (well-firsts w) (λ y u. keeps-first_and u O.MapN (well_item f (well-rests w)) (ap (λ n. nat_le 3 (suc n) && nat_le (suc n) 5) (as_many_rests ss ∙ e ∙ sym (as_many cs)) ∙ t))))

  -- ## Filter, Keep

  -- what is kept of an element and what f gives of it
  abbrev KeepsSome : (Value C → Value C → List (Value C)) → Type 0
  KeepsSome keeps = (x : Value C) → Well x → (y : Value C) → Well y → WellList (keeps x y)

  well-where_true : KeepsSome where_true
  well-where_true x p y well_nil = well_end
  well-where_true x p y w = by (is_truthy y)
    where
      by : (b : Bool) → WellList (cond b (x ∷ []) [])
      by true = well_item p well_end
      by false = well_end

  well-where_some : KeepsSome where_some
  well-where_some x p y w = by (is_nil y)
    where
      by : (b : Bool) → WellList (cond b [] (y ∷ []))
      by true = well_end
      by false = well_item w well_end

  keeps-sift : {keeps : Value C → Value C → List (Value C)} → KeepsSome keeps → {f : Value C} → Well f → {xs : List (Value C)} → WellList xs → {ys : List (Value C)} → WellList ys → {k : List (Value C) → Plan C} → ((zs : List (Value C)) → WellList zs → Keeps Well (k zs)) → Keeps Well (sift f keeps ys xs k)
  keeps-sift l f well_end z k = k _ z
  keeps-sift l f (well_item p q) z k = keeps_call f (well_item p well_end) (λ y w. keeps-sift l f q (well-append z (l _ p y w)) k)

  keeps-one_or_cell : {ys : List (Value C)} → WellList ys → (op : Op) {xs : List (Value C)} → WellList xs → takes op (sights (values xs)) ≡ true → Keeps Well (one_or_cell ys op xs)
  keeps-one_or_cell well_end op h t = keeps-lazily op h t
  keeps-one_or_cell (well_item p q) op h t = keeps-first_and p op h t

  keeps-sift_on : (op : Op) → TakesTwo op → {keeps : Value C → Value C → List (Value C)} → KeepsSome keeps → {f s : Value C} → Well f → Well s → {c : Option (List (Value C) × Value C)} → WellChunk c → Keeps Well (sift_on op keeps f s c)
  keeps-sift_on op t l f s well_unchunked = keeps_call f (well_item (well-first_of s) well_end) (λ y w. keeps-one_or_cell (l _ (well-first_of s) y w) op (well_item f (well_item (well-rest_of s) well_end)) (t _ _))
  keeps-sift_on op t l f s (well_chunked x r i) = keeps-sift l f x well_end (λ ys w. keeps-items_and w op (well_item f (well_item r well_end)) (t _ _))

  pub keeps-filter_rule : (size : ℕ) {f c : Value C} → Well f → Well c → Keeps Well (filter_rule size f c)
  keeps-filter_rule size f c = keeps-with_seq c (λ s w. keeps-sift_on O.Filter (λ f c. refl) well-where_true f w (well-chunk_of size w))

  pub keeps-keep_rule : (size : ℕ) {f c : Value C} → Well f → Well c → Keeps Well (keep_rule size f c)
  keeps-keep_rule size f c = keeps-with_seq c (λ s w. keeps-sift_on O.Keep (λ f c. refl) well-where_some f w (well-chunk_of size w))

  -- ## Take, TakeWhile, Drop, DropWhile

  pub keeps-take_rule : (n : ℤ) {c : Value C} → Well c → Keeps Well (take_rule n c)
  keeps-take_rule n c = keeps-either (int_le n (pos 0)) (keeps_give well_nil) (keeps-with_seq c (λ s w. keeps-first_and (well-first_of w) O.Take (well_item well_int (well_item (well-rest_of w) well_end)) refl))

  pub keeps-take_while_rule : {f c : Value C} → Well f → Well c → Keeps Well (take_while_rule f c)
  keeps-take_while_rule f c = keeps-with_seq c (λ s w. keeps_call f (well_item (well-first_of w) well_end) (λ y u. keeps-if_true y (keeps-first_and (well-first_of w) O.TakeWhile (well_item f (well_item (well-rest_of w) well_end)) refl) (keeps_give well_nil)))

  pub keeps-drop_rule : (n : ℤ) {c : Value C} → Well c → Keeps Well (drop_rule n c)
  keeps-drop_rule n c = keeps_seq c (λ s w e. keeps_go (well_item well_int (well_item w well_end)) (λ v g. keeps_give g))

  pub keeps-drop_round : {xs : List (Value C)} → WellList xs → KeepsRound Well (drop_round xs)
  keeps-drop_round (well_item (well_int {n = n}) (well_item {x = s} w well_end)) =
      keeps-round_at s
      (keeps_end well_nil)
      (keeps-cond_round (int_le n (pos 0))
      (keeps_end w)
      (keeps_visits (keeps_seq (well-rest_of w) (λ t u e. keeps_go (well_item well_int (well_item u well_end)) (λ v g. keeps_give g)))))
  keeps-drop_round _ = keeps_fail

  pub keeps-drop_while_rule : {f c : Value C} → Well f → Well c → Keeps Well (drop_while_rule f c)
  keeps-drop_while_rule f c = keeps_seq c (λ s w e. keeps_go (well_item f (well_item w well_end)) (λ v g. keeps_give g))

  pub keeps-drop_while_round : {xs : List (Value C)} → WellList xs → KeepsRound Well (drop_while_round xs)
  keeps-drop_while_round (well_item p (well_item {x = s} w well_end)) =
      keeps-round_at s
      (keeps_end well_nil)
      (keeps_calls_for p (well_item (well-first_of w) well_end) (λ y i. keeps-if_true y (keeps_seq (well-rest_of w) (λ t u e. keeps_go (well_item p (well_item u well_end)) (λ v g. keeps_give g))) (keeps_give w)))
  keeps-drop_while_round _ = keeps_fail

  -- ## Concat, Mapcat

  keeps-concat_on : {s : Value C} → Well s → {cs : List (Value C)} → WellList cs → {c : Option (List (Value C) × Value C)} → WellChunk c → Keeps Well (concat_on s cs c)
  keeps-concat_on s h well_unchunked = keeps-first_and (well-first_of s) O.Concat (well_item (well-rest_of s) h) refl
  keeps-concat_on s h (well_chunked x r i) = keeps-items_and x O.Concat (well_item r h) refl

  pub keeps-concat_rule : (size : ℕ) {cs : List (Value C)} → WellList cs → Keeps Well (concat_rule size cs)
  keeps-concat_rule size well_end = keeps_give well_nil
  keeps-concat_rule size (well_item p well_end) = keeps_give p
  keeps-concat_rule size (well_item p (well_item q h)) = keeps_seq p (λ s w e. keeps-if_nil s (keeps-concat_rule size (well_item q h)) (keeps-concat_on w (well_item q h) (well-chunk_of size w)))

  pub keeps-mapcat_rule : {f c : Value C} → Well f → Well c → Keeps Well (mapcat_rule f c)
  keeps-mapcat_rule f c =
      keeps-with_seq c (λ s w.
      keeps_call f (well_item (well-first_of w) well_end) (λ y u.
      keeps_make (well_term (well_item f (well_item (well-rest_of w) well_end)) refl) (λ m.
      keeps-lazily O.Concat (well_item u (well_item well_cell well_end)) refl)))

  -- ## Next, Repeat, Cycle

  pub keeps-next_one_rule : {f x : Value C} → Well f → Well x → Keeps Well (next_one_rule f x)
  keeps-next_one_rule f x = keeps_call f (well_item x well_end) (λ y w. keeps-first_and w O.Next (well_item f (well_item w well_end)) refl)

  pub keeps-repeat_rule : {x : Value C} → Well x → Keeps Well (repeat_rule x)
  keeps-repeat_rule x = keeps-first_and x O.Repeat (well_item x well_end) refl

  keeps-cycle_on : {c s : Value C} → Well c → Well s → Keeps Well (cycle_on c s)
  keeps-cycle_on c s = keeps-first_and (well-first_of s) O.Cycle (well_item c (well_item (well-rest_of s) well_end)) refl

  pub keeps-cycle_rule : {c s : Value C} → Well c → Well s → Keeps Well (cycle_rule c s)
  keeps-cycle_rule c h = keeps_seq h (λ s w e. keeps-if_nil s (keeps-with_seq c (λ t u. keeps-cycle_on c u)) (keeps-cycle_on c w))

  -- ## Parts

  keeps-parts_end : (n : ℤ) → int_lt (pos 0) n ≡ true → {xs : List (Value C)} → WellList xs → {s : Value C} → Well s → Keeps Well (parts_end n xs s)
  keeps-parts_end n b h w = keeps_make (well_term (well_item well_int (well_item (well-rest_of w) well_end)) b) (λ c.
      keeps-give_value (λ d. well_cons refl d (well_more (well-list_of h (left_of _ _ deepest (left_of _ _ deepest (one_less _ deepest d)))) well_none) well_cell))

  keeps-parts_on : (n left : ℤ) → int_lt (pos 0) n ≡ true → {xs : List (Value C)} → WellList xs → {s : Value C} → Well s → Keeps Well (parts_on n left xs s)
  keeps-parts_on n left b h w =
      keeps-either (int_le left (pos 0))
      (keeps-parts_end n b h w)
      (keeps_seq (well-rest_of w) (λ t u e. keeps-if_nil t (keeps-parts_end n b h w) (keeps_go (grouping b (well-values h) u) (λ v g. keeps_give g))))

  pub keeps-parts_round : {xs : List (Value C)} → Grouping xs → KeepsRound Well (parts_round xs)
  keeps-parts_round (grouping {n = n} {left = left} {xs = xs} {s = s} b h w) =
      keeps_visits (keeps-with_members (list xs ++ first_of s ∷ []) (λ ys. parts_on n (left -ℤ pos 1) ys s) (keeps-parts_on n (left -ℤ pos 1) b (well-append (well-list h) (well_item (well-first_of w) well_end)) w))

  pub keeps-parts_rule : (n : ℤ) → int_lt (pos 0) n ≡ true → {c : Value C} → Well c → Keeps Well (parts_rule n c)
  keeps-parts_rule n b c = keeps-with_seq c (λ s w. keeps_go (grouping b well_none w) (λ v g. keeps_give g))

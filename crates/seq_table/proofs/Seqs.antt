-- What a seq comes to, and the elements of its collection.
use Rattle.std.proofs.Common.{◌≡◌, refl, ap, subst, ◌∙◌, nat_le, Bool, true, false, cond, List}
use Rattle.seq_values.specs.Model.{Value, nil, bool, int, keyword, text, vector, function, reduced, cell, empty, cons, chunk, range, vec_seq, no_values, ◌&◌}
use Rattle.seq_plan.specs.Plan.{Plan, give, throw}
use Rattle.seq_base.specs.declared.thrown.Thrown.TheVariants.{Depth}
use Rattle.seq_plan.specs.Nodes.{first_of, rest_of, depth, deepest, is_nil, if_nil, give_value, now, found}
use Rattle.seq_plan.specs.Sound.{Sound}
use Rattle.seq_plan.proofs.SoundNodes.{found_sound}
use Rattle.seq_table.specs.Lists.{ShowsSound}
use Rattle.seq_table.specs.World.{World, Read, done, ◌▸◌, SeqTo, seq_now, seq_asked, Comes, comes_give, Begins, not_read, asked, at_end, element}

module _ {C : Type 0} where
  -- what `seq` finds is its own seq
  pub found_now : (v : Value C) {s : Value C} → found v ≡ now s → found s ≡ now s
  found_now nil {s = s} q = let e : nil ≡ s = cc in subst (λ x. found x ≡ now x) e refl
  found_now empty {s = s} q = let e : nil ≡ s = cc in subst (λ x. found x ≡ now x) e refl
  found_now (vector no_values) {s = s} q = let e : nil ≡ s = cc in subst (λ x. found x ≡ now x) e refl
  found_now (vector (x & xs)) {s = s} q = let e : vec_seq (x & xs) 0 ≡ s = cc in subst (λ x. found x ≡ now x) e refl
  found_now (cons xs r) {s = s} q = let e : cons xs r ≡ s = cc in subst (λ x. found x ≡ now x) e refl
  found_now (chunk xs r) {s = s} q = let e : chunk xs r ≡ s = cc in subst (λ x. found x ≡ now x) e refl
  found_now (range from at end) {s = s} q = let e : range from at end ≡ s = cc in subst (λ x. found x ≡ now x) e refl
  found_now (vec_seq xs at) {s = s} q = let e : vec_seq xs at ≡ s = cc in subst (λ x. found x ≡ now x) e refl
  found_now (bool b) q = absurd cc
  found_now (int n) q = absurd cc
  found_now (keyword n) q = absurd cc
  found_now (text n) q = absurd cc
  found_now (function t xs) q = absurd cc
  found_now (reduced v) q = absurd cc
  found_now (cell c) q = absurd cc

  pub data NilOr (s : Value C) : Type 0 where
    it_is : s ≡ nil → NilOr s
    it_isnt : ¬ (s ≡ nil) → is_nil s ≡ false → NilOr s

  pub nil_or : (s : Value C) → NilOr s
  nil_or nil = it_is refl
  nil_or empty = it_isnt (λ e. cc) refl
  nil_or (vector xs) = it_isnt (λ e. cc) refl
  nil_or (cons xs r) = it_isnt (λ e. cc) refl
  nil_or (chunk xs r) = it_isnt (λ e. cc) refl
  nil_or (range from at end) = it_isnt (λ e. cc) refl
  nil_or (vec_seq xs at) = it_isnt (λ e. cc) refl
  nil_or (bool b) = it_isnt (λ e. cc) refl
  nil_or (int n) = it_isnt (λ e. cc) refl
  nil_or (keyword n) = it_isnt (λ e. cc) refl
  nil_or (text n) = it_isnt (λ e. cc) refl
  nil_or (function t xs) = it_isnt (λ e. cc) refl
  nil_or (reduced v) = it_isnt (λ e. cc) refl
  nil_or (cell c) = it_isnt (λ e. cc) refl

module _ {C : Type 0} (w : World C) where
  pub given : {defs : List (Value C)} {x v : Value C} → Comes w defs (give x) v → x ≡ v
  given comes_give = refl

  -- a value that isn't too deep
  pub given_value : {defs : List (Value C)} (x : Value C) {v : Value C} → Comes w defs (give_value x) v → x ≡ v
  given_value {defs = defs} x {v = v} d = by (nat_le (depth x) deepest) d
    where
      by : (b : Bool) → Comes w defs (cond b (give x) (throw Depth)) v → x ≡ v
      by true d = given d
      by false d = elim d [ ]

  pub seq_found : {x s : Value C} → SeqTo w x s → found s ≡ now s
  seq_found (seq_now {v = v} q) = found_now v q
  seq_found (seq_asked q s r) = seq_found r

  -- the seq of a sound collection is sound
  pub seq_sound : ShowsSound w → {x s : Value C} → SeqTo w x s → Sound x → Sound s
  seq_sound shown (seq_now q) h = found_sound h q
  seq_sound shown (seq_asked q s r) h = seq_sound shown r (shown _ _ s)

  -- the elements of a seq are those of its collection
  pub of_seq : {x s : Value C} {l : Read C} → SeqTo w x s → Begins w s l → Begins w x l
  of_seq (seq_asked q sh r) b = asked q sh (of_seq r b)
  of_seq (seq_now q) not_read = not_read
  of_seq (seq_now {v = v} {s = s} q) (at_end q') =
      let e = found_now v q in
      let d : s ≡ nil = cc in
      at_end (q ∙ ap now d)
  of_seq (seq_now {v = v} {s = s} q) (element {s = s'} {l = l} q' n b) =
      let e = found_now v q in
      let d : s ≡ s' = cc in
      element (q ∙ ap now d) n b
  of_seq (seq_now {v = v} q) (asked q' s b) = let e = found_now v q in absurd cc

  pub done_of : {x s : Value C} → SeqTo w x s → s ≡ nil → Begins w x done
  done_of q e = of_seq q (at_end (seq_found q ∙ ap now e))

  pub front : {x s : Value C} {l : Read C} → SeqTo w x s → ¬ (s ≡ nil) → Begins w (rest_of s) l → Begins w x (first_of s ▸ l)
  front q n b = of_seq q (element (seq_found q) n b)

  -- the two cases of a row that begins with a seq
  pub data SeqCases (defs : List (Value C)) (c : Value C) (p : Plan C) (k : Value C → Plan C) (v : Value C) : Type 0 where
    at_none : Begins w c done → Comes w defs p v → SeqCases defs c p k v
    at_some : {s : Value C} → SeqTo w c s → ¬ (s ≡ nil) → Comes w defs (k s) v → SeqCases defs c p k v

  pub seq_cases : {defs : List (Value C)} {c v : Value C} (p : Plan C) (k : Value C → Plan C) (s : Value C) → SeqTo w c s → Comes w defs (if_nil s p (k s)) v → SeqCases defs c p k v
  seq_cases {defs = defs} {c = c} {v = v} p k s q d = by (nil_or s)
    where
      by : NilOr s → SeqCases defs c p k v
      by (it_is e) = at_none (done_of q e) (subst (λ x. Comes w defs (cond (is_nil x) p (k s)) v) e d)
      by (it_isnt n e) = at_some q n (subst (λ b. Comes w defs (cond b p (k s)) v) e d)

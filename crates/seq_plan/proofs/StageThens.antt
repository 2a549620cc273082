-- What goes on after stages goes on after each of their ends.
use Rattle.std.proofs.Common.{◌≡◌, nat_le, ℤ, pos, ◌-ℤ◌, int_le, Bool, true, false, cond, List, [], ◌∷◌, ◌++◌, length, refl, ap, ◌∙◌}
use Rattle.seq_base.specs.declared.thrown.Thrown.TheVariants.{Overflow, Depth}
use Rattle.seq_values.specs.declared.words.Target.{Target}
use Rattle.seq_values.specs.declared.words.Target.TheVariants as T
use Rattle.seq_values.specs.declared.words.XfKind.TheVariants as X
use Rattle.seq_values.specs.declared.words.FolderKind.TheVariants as F
use Rattle.seq_values.specs.Model.{Value, bool, int, vector, function, no_values, ◌&◌, list, values}
use Rattle.seq_plan.specs.Plan.{Plan, seq, call, throw, then}
use Rattle.seq_plan.specs.Nodes.{is_truthy, is_nil, if_nil, if_true, with_value, depth, deepest, longest}
use Rattle.seq_plan.specs.Stages.{Effect, passes, passes_last, passes_each, passes_nothing, is_done, Sink, reduces, gathers, Onward, take_one, group_one, on_input, stage_on, output, entered, each_from, enter_each, with_state, with_last, by_effect, enter, complete}

module _ {C : Type 0} (h : Value C → Plan C) where
  -- the same, and then h
  abbrev pub before : Onward C → Onward C
  before k = λ states sink done. then (k states sink done) h

  abbrev before_effect : (Value C → Effect C → Plan C) → Value C → Effect C → Plan C
  before_effect k = λ state effect. then (k state effect) h

  then_cond : (b : Bool) (p q : Plan C) → then (cond b p q) h ≡ cond b (then p h) (then q h)
  then_cond true p q = refl
  then_cond false p q = refl

  then_take_one : (left : ℤ) (x : Value C) (k : Value C → Effect C → Plan C) → then (take_one left x k) h ≡ take_one left x (before_effect k)
  then_take_one left x k = then_cond (int_le left (pos 0)) (k (int left) (passes_last x)) (k (int left) (passes x))

  then_if_true : (v : Value C) (p q : Plan C) → then (if_true v p q) h ≡ if_true v (then p h) (then q h)
  then_if_true v p q = then_cond (is_truthy v) p q

  then_if_nil : (v : Value C) (p q : Plan C) → then (if_nil v p q) h ≡ if_nil v (then p h) (then q h)
  then_if_nil v p q = then_cond (is_nil v) p q

  then_group_one : (n : ℤ) (group : List (Value C)) (k : Value C → Effect C → Plan C) → then (group_one n group k) h ≡ group_one n group (before_effect k)
  then_group_one n group k = long (nat_le (length group) longest)
    where
      full : Bool → Plan C
      full b = cond b (k (vector no_values) (passes (vector (values group)))) (k (vector (values group)) passes_nothing)

      deep : Bool → Plan C
      deep b = cond b (full (int_le n (pos (length group)))) (throw Depth)

      then_deep : (b : Bool) → then (deep b) h ≡ cond b (cond (int_le n (pos (length group))) (then (k (vector no_values) (passes (vector (values group)))) h) (then (k (vector (values group)) passes_nothing) h)) (throw Depth)
      then_deep true = then_cond (int_le n (pos (length group))) (k (vector no_values) (passes (vector (values group)))) (k (vector (values group)) passes_nothing)
      then_deep false = refl

      long : (b : Bool) → then (cond b (deep (nat_le (depth (vector (values group))) deepest)) (throw Overflow)) h ≡ cond b (with_value (vector (values group)) (λ v. cond (int_le n (pos (length group))) (then (k (vector no_values) (passes v)) h) (then (k v passes_nothing) h))) (throw Overflow)
      long true = then_deep (nat_le (depth (vector (values group))) deepest)
      long false = refl

  then_on_input : (t : Target) (bs : List (Value C)) (state x : Value C) (k : Value C → Effect C → Plan C) → then (on_input t bs state x k) h ≡ on_input t bs state x (before_effect k)
  then_on_input (T.Xf X.Map) (f ∷ []) state x k = refl
  then_on_input (T.Xf X.Filter) (p ∷ []) state x k = λ i. call p (x ∷ []) (λ y. then_if_true y (k state (passes x)) (k state passes_nothing) i)
  then_on_input (T.Xf X.Remove) (p ∷ []) state x k = λ i. call p (x ∷ []) (λ y. then_if_true y (k state passes_nothing) (k state (passes x)) i)
  then_on_input (T.Xf X.Keep) (f ∷ []) state x k = λ i. call f (x ∷ []) (λ y. then_if_nil y (k state passes_nothing) (k state (passes y)) i)
  then_on_input (T.Xf X.Take) (n ∷ []) (int left) x k =
      then_cond (int_le left (pos 0)) (k (int left) is_done) (take_one (left -ℤ pos 1) x k)
      ∙ ap (λ p. cond (int_le left (pos 0)) (then (k (int left) is_done) h) p) (then_take_one (left -ℤ pos 1) x k)
  then_on_input (T.Xf X.TakeWhile) (p ∷ []) state x k = λ i. call p (x ∷ []) (λ y. then_if_true y (k state (passes x)) (k state is_done) i)
  then_on_input (T.Xf X.Drop) (n ∷ []) (int left) x k = then_cond (int_le left (pos 0)) (k (int left) (passes x)) (k (int (left -ℤ pos 1)) passes_nothing)
  then_on_input (T.Xf X.DropWhile) (p ∷ []) (bool true) x k = λ i. call p (x ∷ []) (λ y. then_if_true y (k (bool true) passes_nothing) (k (bool false) (passes x)) i)
  then_on_input (T.Xf X.DropWhile) (p ∷ []) (bool false) x k = refl
  then_on_input (T.Xf X.Mapcat) (f ∷ []) state x k = refl
  then_on_input (T.Xf X.Cat) [] state x k = refl
  then_on_input (T.Xf X.PartitionAll) (int n ∷ []) (vector group) x k = then_group_one n (list group ++ x ∷ []) k
  then_on_input (T.Folder F.Take) (n ∷ []) (int left) x k = then_cond (int_le left (pos 0)) (k (int left) is_done) (k (int (left -ℤ pos 1)) (passes x))
  then_on_input _ _ _ _ _ = refl

  then_stage_on : (stage state x : Value C) (k : Value C → Effect C → Plan C) → then (stage_on stage state x k) h ≡ stage_on stage state x (before_effect k)
  then_stage_on (function t bound) state x k = then_on_input t (list bound) state x k
  then_stage_on _ state x k = refl

  then_output : (sink : Sink C) (x : Value C) (k : Sink C → Bool → Plan C) → then (output sink x k) h ≡ output sink x (λ after done. then (k after done) h)
  then_output (reduces f answer) x k = refl
  then_output (gathers xs) x k = refl

  then_entered : (k : Onward C) (v : Value C) → then (entered k v) h ≡ entered (before k) v
  then_entered k (vector (bool done & vector states & f & answer & no_values)) = refl
  then_entered k (vector (bool done & vector states & vector xs & no_values)) = refl
  then_entered k _ = refl

  pub then_enter_each : (stages states : List (Value C)) (sink : Sink C) (c : Value C) (k : Onward C) → then (enter_each stages states sink c k) h ≡ enter_each stages states sink c (before k)
  then_enter_each stages states sink c k = λ i. seq c (λ s. each_from stages states sink s (λ v. then_entered k v i))

  then_by_effect : (one last each : Value C → Plan C) (nothing ends : Plan C) (one' last' each' : Value C → Plan C)
      → ((y : Value C) → then (one y) h ≡ one' y) → ((y : Value C) → then (last y) h ≡ last' y) → ((c : Value C) → then (each c) h ≡ each' c)
      → (e : Effect C) → then (by_effect one last each nothing ends e) h ≡ by_effect one' last' each' (then nothing h) (then ends h) e
  then_by_effect one last each nothing ends one' last' each' a b c (passes x) = a x
  then_by_effect one last each nothing ends one' last' each' a b c (passes_last x) = b x
  then_by_effect one last each nothing ends one' last' each' a b c (passes_each x) = c x
  then_by_effect one last each nothing ends one' last' each' a b c passes_nothing = refl
  then_by_effect one last each nothing ends one' last' each' a b c is_done = refl

  pub then_enter : (stages states : List (Value C)) (sink : Sink C) (x : Value C) (k : Onward C) → then (enter stages states sink x k) h ≡ enter stages states sink x (before k)
  then_enter [] states sink x k = then_output sink x (λ after done. k [] after done)
  then_enter (stage ∷ later) (state ∷ states) sink x k =
      then_stage_on stage state x (λ new. by_effect (λ y. enter later states sink y (with_state new k)) (λ y. enter later states sink y (with_last new k)) (λ c. enter_each later states sink c (with_state new k)) (k (new ∷ states) sink false) (k (new ∷ states) sink true))
      ∙ (λ i. stage_on stage state x (λ new e. then_by_effect
      (λ y. enter later states sink y (with_state new k)) (λ y. enter later states sink y (with_last new k)) (λ c. enter_each later states sink c (with_state new k))
      (k (new ∷ states) sink false) (k (new ∷ states) sink true)
      (λ y. enter later states sink y (with_state new (before k))) (λ y. enter later states sink y (with_last new (before k))) (λ c. enter_each later states sink c (with_state new (before k)))
      (λ y. then_enter later states sink y (with_state new k)) (λ y. then_enter later states sink y (with_last new k)) (λ c. then_enter_each later states sink c (with_state new k)) e i))
  then_enter (stage ∷ later) [] sink x k = refl

  pub then_complete : (stages states : List (Value C)) (sink : Sink C) (k : Sink C → Plan C) → then (complete stages states sink k) h ≡ complete stages states sink (λ after. then (k after) h)
  then_complete [] states sink k = refl
  then_complete (function (T.Xf X.PartitionAll) bound ∷ later) (vector (x & xs) ∷ states) sink k =
      then_enter later states sink (vector (x & xs)) (λ new after done. complete later new after k)
      ∙ (λ i. enter later states sink (vector (x & xs)) (λ new after done. then_complete later new after k i))
  then_complete (stage ∷ later) (state ∷ states) sink k = then_complete later states sink k
  then_complete (stage ∷ later) [] sink k = refl

-- Rows whose values begin as the lists of their terms.
use Rattle.std.proofs.Common.{◌≡◌, refl, subst, ℤ, pos, ◌-ℤ◌, int_le, Bool, true, false, cond, List, [], ◌∷◌}
use Rattle.seq_values.specs.declared.words.Op.{Op}
use Rattle.seq_values.specs.declared.words.Op.TheVariants as O
use Rattle.seq_values.specs.Model.{Value, nil, int, cell, cons, no_values, ◌&◌, Term}
use Rattle.seq_plan.specs.Plan.{Plan, give, call}
use Rattle.seq_plan.specs.Nodes.{first_of, rest_of, is_truthy, if_true}
use Rattle.seq_plan.specs.Lists.{first_and, with_seq}
use Rattle.lazy_rows.specs.Terms.{take_rule, take_while_rule, next_one_rule, repeat_rule, cycle_on, cycle_rule}
use Rattle.seq_table.specs.World.{World, Read, done, ◌▸◌, SeqTo, Comes, comes_seq, comes_call, comes_make, CallTo, Begins, not_read}
use Rattle.seq_table.specs.Lists.{taken_all, taken_done, taken_more, while_done, while_in, while_out, iterated_more, repeated_more, cycled_more, cycled_again, cycled_none, Meant, of_take, of_take_while, of_next, of_repeat, of_cycle, HasList, has_take, has_take_while, has_next, has_repeat, has_cycle, At, stops, shows, leads}
use Rattle.seq_table.proofs.Seqs.{given, given_value, front, SeqCases, at_none, at_some, seq_cases}

module _ {C : Type 0} (w : World C) where
  -- an element before the part for the rest
  pub one_before : {defs : List (Value C)} {t : Term C} (x : Value C) (op : Op) (xs : List (Value C)) {v : Value C} → HasList (record { op = op; args = xs }) → ((l : Read C) → Meant w defs (record { op = op; args = xs }) l → Meant w defs t (x ▸ l)) → Comes w defs (first_and x op xs) v → At w defs t [] v
  one_before {defs = defs} {t = t} x op xs i f (comes_make {c = m} part d) = subst (λ v. At w defs t [] v) (given_value w (cons (x & no_values) (cell m)) d) (shows refl (λ e. cc) (leads refl part i f))

  pub nothing : {defs : List (Value C)} {t : Term C} {v : Value C} → Meant w defs t done → Comes w defs (give nil) v → At w defs t [] v
  nothing {defs = defs} {t = t} m d = subst (λ v. At w defs t [] v) (given w d) (stops refl m)

  abbrev take_of : ℤ → Value C → Term C
  take_of n c = record { op = O.Take; args = int n ∷ c ∷ [] }

  pub take_row : (n : ℤ) (c : Value C) (defs : List (Value C)) {v : Value C} → Comes w defs (take_rule n c) v → At w defs (take_of n c) [] v
  take_row n c defs {v = v} d = by (int_le n (pos 0)) refl d
    where
      next : Value C → Plan C
      next s = first_and (first_of s) O.Take (int (n -ℤ pos 1) ∷ rest_of s ∷ [])

      go : int_le n (pos 0) ≡ false → SeqCases w defs c (give nil) next v → At w defs (take_of n c) [] v
      go e (at_none b d) = nothing (of_take b (taken_done e)) d
      go e (at_some {s = s} q i d) = one_before (first_of s) O.Take (int (n -ℤ pos 1) ∷ rest_of s ∷ []) has_take on d
        where
          on : (l : Read C) → Meant w defs (take_of (n -ℤ pos 1) (rest_of s)) l → Meant w defs (take_of n c) (first_of s ▸ l)
          on l (of_take b h) = of_take (front w q i b) (taken_more e h)

      some : int_le n (pos 0) ≡ false → Comes w defs (with_seq c next) v → At w defs (take_of n c) [] v
      some e (comes_seq {s = s} q d) = go e (seq_cases w (give nil) next s q d)

      by : (b : Bool) → int_le n (pos 0) ≡ b → Comes w defs (cond b (give nil) (with_seq c next)) v → At w defs (take_of n c) [] v
      by true e d = nothing (of_take not_read (taken_all e)) d
      by false e d = some e d

  abbrev take_while_of : Value C → Value C → Term C
  take_while_of p c = record { op = O.TakeWhile; args = p ∷ c ∷ [] }

  pub take_while_row : (p c : Value C) (defs : List (Value C)) {v : Value C} → Comes w defs (take_while_rule p c) v → At w defs (take_while_of p c) [] v
  take_while_row p c defs {v = v} (comes_seq {s = s} q d) = go (seq_cases w (give nil) next s q d)
    where
      more : Value C → Plan C
      more s = first_and (first_of s) O.TakeWhile (p ∷ rest_of s ∷ [])

      next : Value C → Plan C
      next s = call p (first_of s ∷ []) (λ y. if_true y (more s) (give nil))

      by : {s y : Value C} → SeqTo w c s → ¬ (s ≡ nil) → CallTo w defs p (first_of s ∷ []) y → (b : Bool) → is_truthy y ≡ b → Comes w defs (cond b (more s) (give nil)) v → At w defs (take_while_of p c) [] v
      by {s = s} q i a true e d = one_before (first_of s) O.TakeWhile (p ∷ rest_of s ∷ []) has_take_while on d
        where
          on : (l : Read C) → Meant w defs (take_while_of p (rest_of s)) l → Meant w defs (take_while_of p c) (first_of s ▸ l)
          on l (of_take_while b h) = of_take_while (front w q i b) (while_in a e h)
      by q i a false e d = nothing (of_take_while (front w q i not_read) (while_out a e)) d

      go : SeqCases w defs c (give nil) next v → At w defs (take_while_of p c) [] v
      go (at_none b d) = nothing (of_take_while b while_done) d
      go (at_some {s = s} q i (comes_call {y = y} a d)) = by q i a (is_truthy y) refl d

  abbrev next_of : Value C → Value C → Term C
  next_of f x = record { op = O.Next; args = f ∷ x ∷ [] }

  pub next_row : (f x : Value C) (defs : List (Value C)) {v : Value C} → Comes w defs (next_one_rule f x) v → At w defs (next_of f x) [] v
  next_row f x defs {v = v} (comes_call {y = y} a d) = one_before y O.Next (f ∷ y ∷ []) has_next on d
    where
      on : (l : Read C) → Meant w defs (next_of f y) l → Meant w defs (next_of f x) (y ▸ l)
      on l (of_next h) = of_next (iterated_more a h)

  pub repeat_row : (x : Value C) (defs : List (Value C)) {v : Value C} → Comes w defs (repeat_rule x) v → At w defs (record { op = O.Repeat; args = x ∷ [] }) [] v
  repeat_row x defs d = one_before x O.Repeat (x ∷ []) has_repeat on d
    where
      on : (l : Read C) → Meant w defs (record { op = O.Repeat; args = x ∷ [] }) l → Meant w defs (record { op = O.Repeat; args = x ∷ [] }) (x ▸ l)
      on l (of_repeat h) = of_repeat (repeated_more h)

  abbrev cycle_of : Value C → Value C → Term C
  cycle_of whole c = record { op = O.Cycle; args = whole ∷ c ∷ [] }

  pub cycle_row : (whole c : Value C) (defs : List (Value C)) {v : Value C} → Comes w defs (cycle_rule whole c) v → At w defs (cycle_of whole c) [] v
  cycle_row whole c defs {v = v} (comes_seq {s = s} q d) = go (seq_cases w (with_seq whole (cycle_on whole)) (cycle_on whole) s q d)
    where
      again : Begins w c done → SeqCases w defs whole (give nil) (cycle_on whole) v → At w defs (cycle_of whole c) [] v
      again e (at_none b d) = nothing (of_cycle e (cycled_none b)) d
      again e (at_some {s = s} q i d) = one_before (first_of s) O.Cycle (whole ∷ rest_of s ∷ []) has_cycle on d
        where
          on : (l : Read C) → Meant w defs (cycle_of whole (rest_of s)) l → Meant w defs (cycle_of whole c) (first_of s ▸ l)
          on l (of_cycle b h) = of_cycle e (cycled_again (front w q i b) (cycled_more h))

      whole_seq : Begins w c done → Comes w defs (with_seq whole (cycle_on whole)) v → At w defs (cycle_of whole c) [] v
      whole_seq e (comes_seq {s = s} q d) = again e (seq_cases w (give nil) (cycle_on whole) s q d)

      go : SeqCases w defs c (with_seq whole (cycle_on whole)) (cycle_on whole) v → At w defs (cycle_of whole c) [] v
      go (at_none b d) = whole_seq b d
      go (at_some {s = s} q i d) = one_before (first_of s) O.Cycle (whole ∷ rest_of s ∷ []) has_cycle on d
        where
          on : (l : Read C) → Meant w defs (cycle_of whole (rest_of s)) l → Meant w defs (cycle_of whole c) (first_of s ▸ l)
          on l (of_cycle b h) = of_cycle (front w q i b) (cycled_more h)

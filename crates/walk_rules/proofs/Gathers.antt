-- Turns of `vec`, `reverse` and `apply`.
use Rattle.std.proofs.Common.{◌≡◌, ℕ, zero, suc, ◌+◌, ◌-◌, ◌<◌, ◌≤◌, Bool, true, false, cond, nat_le, List, [], ◌∷◌, ◌++◌, length, drop, refl, ap, sym, ◌∙◌, append_assoc, arith}
use Rattle.std.proofs.lemmas.List.{map-append, append-nil}
use Rattle.seq_base.specs.declared.thrown.Thrown.TheVariants.{Arity, Overflow}
use Rattle.seq_values.specs.Model as M
use Rattle.seq_values.specs.Plain.{plain, plains}
use Rattle.seq_values.specs.declared.value.Value.{Value}
use Rattle.seq_plan.specs.Plan.{Plan, visit, seq, go, call, give, throw, then, gather_from}
use Rattle.seq_plan.specs.Nodes.{first_of, rest_of, with_members, longest}
use Rattle.seq_plan.specs.Cursors.{stands}
use Rattle.seq_plan.specs.declared.cursor.Cursor.{Cursor}
use Rattle.seq_plan.proofs.CursorLemmas.{list_values}
use Rattle.lazy_rows.specs.Walks.{vec_rule, reverse_rule, apply_call, apply_rule, gather, members}
use Rattle.seq_turns.specs.declared.next.Next.{Next}
use Rattle.seq_turns.specs.declared.made.Grown.TheVariants as G
use Rattle.seq_turns.specs.declared.proper.Proper.{Proper}
use Rattle.seq_turns.specs.declared.proper.Gathered.{Gathered}
use Rattle.seq_turns.specs.declared.places.Rest.{Rest}
use Rattle.seq_turns.specs.Making.{Grows}
use Rattle.seq_turns.specs.Seen.{rested}
use Rattle.seq_turns.proofs.Taking.{some_cursor, takes_loop}
use Rattle.walk_rules.specs.Left.{gathers, made_of, left_seq, left_step, walking, Takes}
use Rattle.walk_rules.specs.Words.{is_vector}
use Rattle.walk_rules.specs.declared.state.AtSeq.TheVariants as Q
use Rattle.walk_rules.specs.declared.state.AtStep.TheVariants as T
use Rattle.walk_rules.specs.declared.state.Purpose.{Purpose}
use Rattle.walk_rules.specs.declared.state.Purpose.TheVariants as P
use Rattle.walk_rules.specs.declared.state.State.{State}
use Rattle.walk_rules.proofs.Taking.{same}

-- ## Beginnings

itself : (v : M.Value ℕ) → is_vector v ≡ true → give v ≡ vec_rule v
itself M.nil e = absurd cc
itself (M.bool b) e = absurd cc
itself (M.int m) e = absurd cc
itself (M.keyword k) e = absurd cc
itself (M.text t) e = absurd cc
itself (M.vector xs) e = refl
itself (M.function t xs) e = absurd cc
itself (M.reduced v) e = absurd cc
itself (M.cell c) e = absurd cc
itself M.empty e = absurd cc
itself (M.cons xs r) e = absurd cc
itself (M.chunk xs r) e = absurd cc
itself (M.range from at end) e = absurd cc
itself (M.vec_seq xs at) e = absurd cc

pub vec_itself : (v : M.Value ℕ) (r : Next State) → is_vector v ≡ true → Takes (give v) r → Takes (vec_rule v) r
vec_itself v r e h = same (itself v e) h

by_seq : (v : M.Value ℕ) → is_vector v ≡ false → seq v (λ s. gathers P.Vector [] s) ≡ vec_rule v
by_seq M.nil e = refl
by_seq (M.bool b) e = refl
by_seq (M.int m) e = refl
by_seq (M.keyword k) e = refl
by_seq (M.text t) e = refl
by_seq (M.vector xs) e = absurd cc
by_seq (M.function t xs) e = refl
by_seq (M.reduced v) e = refl
by_seq (M.cell c) e = refl
by_seq M.empty e = refl
by_seq (M.cons xs r) e = refl
by_seq (M.chunk xs r) e = refl
by_seq (M.range from at end) e = refl
by_seq (M.vec_seq xs at) e = refl

pub vec_gathers : (v : M.Value ℕ) (kept : Gathered) (r : Next State) → is_vector v ≡ false → kept.items.items ≡ [] → Takes (seq v (λ s. left_seq (Q.Gather kept P.Vector) s)) r → Takes (vec_rule v) r
vec_gathers v kept r e f h = same ((λ i. seq v (λ s. gathers P.Vector (plains (f i)) s)) ∙ by_seq v e) h

pub reverse_gathers : (v : M.Value ℕ) (kept : Gathered) (r : Next State) → kept.items.items ≡ [] → Takes (seq v (λ s. left_seq (Q.Gather kept P.Reversed) s)) r → Takes (reverse_rule v) r
reverse_gathers v kept r f h = same (λ i. seq v (λ s. gathers P.Reversed (plains (f i)) s)) h

pub apply_few : (args : List Value) (r : Next State) → length args < 2 → Takes (throw Arity) r → Takes (apply_call (plains args)) r
apply_few [] r b h = h
apply_few (f ∷ []) r b h = h
apply_few (f ∷ x ∷ xs) r b h = absurd (omega arith)

module _ (f : M.Value ℕ) (c : M.Value ℕ) where
  first_ones : (xs ys : List (M.Value ℕ)) → apply_rule f xs (ys ++ c ∷ []) ≡ gather (xs ++ ys) c (λ zs. call f zs give)
  first_ones xs [] = ap (λ zs. gather zs c (λ all. call f all give)) (sym (append-nil xs))
  first_ones xs (y ∷ []) = refl
  first_ones xs (y ∷ z ∷ ys) = first_ones (xs ++ y ∷ []) (z ∷ ys) ∙ ap (λ zs. gather zs c (λ all. call f all give)) (append_assoc xs (y ∷ []) (z ∷ ys))

past_end : (xs : List Value) (n : ℕ) → length xs ≤ n → drop n xs ≡ []
past_end [] zero b = refl
past_end [] (suc n) b = refl
past_end (x ∷ xs) zero b = absurd (omega arith)
past_end (x ∷ xs) (suc n) b = past_end xs n (omega arith)

pub apply_gathers : (args : List Value) (f c : Proper) (kept : Gathered) (r : Next State) → 2 ≤ length args → drop 0 args ≡ f.value ∷ drop (0 + 1) args → drop (length args - 1) args ≡ c.value ∷ drop (length args - 1 + 1) args → kept.items.items ++ drop (length args - 1) args ≡ drop 1 args → Takes (seq (plain c.value) (λ s. left_seq (Q.Gather kept (P.Arguments f)) s)) r → Takes (apply_call (plains args)) r
apply_gathers args f c kept r b ef ec ek h =
    let none : drop (length args - 1 + 1) args ≡ [] = past_end args (length args - 1 + 1) (omega arith) in
    let last : drop (length args - 1) args ≡ c.value ∷ [] = ec ∙ ap (λ ys. c.value ∷ ys) none in
    let all : kept.items.items ++ c.value ∷ [] ≡ drop 1 args = ap (λ ys. kept.items.items ++ ys) (sym last) ∙ ek in
    let given : plains kept.items.items ++ plain c.value ∷ [] ≡ plains (drop 1 args) = sym (map-append plain kept.items.items (c.value ∷ [])) ∙ ap plains all in
    let whole : plain f.value ∷ plains (drop 1 args) ≡ plains args = ap plains (sym ef) in
    same (sym (first_ones (plain f.value) (plain c.value) [] (plains kept.items.items)) ∙ ap (apply_rule (plain f.value) []) given ∙ ap apply_call whole) h

-- ## Rounds

pub made_listed : (p : Purpose) (xs ys : List Value) (r : Next State) → ys ≡ xs → Takes (made_of p (plains ys)) r → Takes (made_of p (plains xs)) r
made_listed p xs ys r e h = same (ap (λ zs. made_of p (plains zs)) e) h

pub gather_ends : (kept : Gathered) (p : Purpose) (r : Next State) → Takes (made_of p (plains kept.items.items)) r → Takes (left_seq (Q.Gather kept p) M.nil) r
gather_ends kept p r h =
    takes_loop walking gather_from (M.vector (M.values (plains kept.items.items)) ∷ M.nil ∷ []) (λ v. made_of p (members v)) refl
    (same (ap (made_of p) (sym (list_values (plains kept.items.items)))) h)

then_cond : (b : Bool) (p q : Plan ℕ) (h : M.Value ℕ → Plan ℕ) → cond b (then p h) (then q h) ≡ then (cond b p q) h
then_cond true p q h = refl
then_cond false p q h = refl

then_members : (zs ys : List (M.Value ℕ)) (v : M.Value ℕ) (h : M.Value ℕ → Plan ℕ) → zs ≡ ys → with_members zs (λ xs. seq v (λ t. go gather_from (M.vector (M.values xs) ∷ t ∷ []) h)) ≡ then (with_members ys (λ xs. seq v (λ t. go gather_from (M.vector (M.values xs) ∷ t ∷ []) give))) h
then_members zs ys v h e = ap (λ xs. with_members xs (λ xs. seq v (λ t. go gather_from (M.vector (M.values xs) ∷ t ∷ []) h))) e ∙ then_cond (nat_le (length ys) longest) (seq v (λ t. go gather_from (M.vector (M.values ys) ∷ t ∷ []) give)) (throw Overflow) h

pub gather_goes : (kept : Gathered) (p : Purpose) (c : Cursor) (r : Next State) → Takes (visit (left_step (T.Gather kept p c))) r → Takes (left_seq (Q.Gather kept p) (stands c)) r
gather_goes kept p c r h =
    let xs = plains kept.items.items in
    takes_loop walking gather_from (M.vector (M.values xs) ∷ stands c ∷ []) (λ v. made_of p (members v)) refl
    (rw (some_cursor c) (same (ap visit (then_members (xs ++ first_of (stands c) ∷ []) (M.list (M.values xs) ++ first_of (stands c) ∷ []) (rest_of (stands c)) (λ v. made_of p (members v)) (ap (λ ys. ys ++ first_of (stands c) ∷ []) (sym (list_values xs))))) h))

pub gather_steps : (kept all : Gathered) (p : Purpose) (c : Cursor) (x : Proper) (rest : Rest) (r : Next State) → plain x.value ≡ first_of (stands c) → rested rest ≡ rest_of (stands c) → Grows (with_members (plains kept.items.items ++ plain x.value ∷ [])) (G.All all) → Takes (seq (rested rest) (λ s. left_seq (Q.Gather all p) s)) r → Takes (left_step (T.Gather kept p c)) r
gather_steps kept all p c x rest r e f g h =
    same (sym (g.goes (λ ys. seq (rested rest) (λ t. gathers p ys t))) ∙ (λ i. with_members (plains kept.items.items ++ e i ∷ []) (λ ys. seq (f i) (λ t. gathers p ys t)))) h

pub gather_full : (kept : Gathered) (p : Purpose) (c : Cursor) (x : Proper) (r : Next State) → plain x.value ≡ first_of (stands c) → Grows (with_members (plains kept.items.items ++ plain x.value ∷ [])) G.TooMany → Takes (throw Overflow) r → Takes (left_step (T.Gather kept p c)) r
gather_full kept p c x r e g h =
    same (sym (g.goes (λ ys. seq (rest_of (stands c)) (λ t. gathers p ys t))) ∙ (λ i. with_members (plains kept.items.items ++ e i ∷ []) (λ ys. seq (rest_of (stands c)) (λ t. gathers p ys t)))) h

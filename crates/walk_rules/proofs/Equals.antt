-- Turns of `=` and `not=`.
use Rattle.std.proofs.Common.{◌≡◌, ℕ, ◌<◌, Bool, true, false, not, ◌||◌, ◌&&◌, List, [], ◌∷◌, ◌++◌, length, drop, refl, ap, sym, ◌∙◌, arith}
use Rattle.seq_base.specs.declared.thrown.Thrown.TheVariants.{Arity, BadType}
use Rattle.seq_values.specs.Model as M
use Rattle.seq_values.specs.declared.value.Value.{Value}
use Rattle.seq_values.specs.Plain.{plain, plains}
use Rattle.seq_plan.specs.Plan.{Plan, visit, seq, give, throw, then}
use Rattle.seq_plan.specs.Nodes.{first_of, rest_of, if_true}
use Rattle.seq_plan.specs.Cursors.{stands}
use Rattle.seq_plan.specs.declared.cursor.Cursor.{Cursor}
use Rattle.seq_plan.proofs.Thens.{then_joins}
use Rattle.lazy_rows.specs.Equal.{is_incomparable, holds_elements, same_atom, pair_on}
use Rattle.seq_turns.specs.Turning.{arrives, opens}
use Rattle.seq_turns.specs.Seen.{rested}
use Rattle.seq_turns.specs.declared.next.Next.{Next}
use Rattle.seq_turns.specs.declared.proper.Proper.{Proper}
use Rattle.seq_turns.specs.declared.places.Rest.{Rest}
use Rattle.seq_turns.proofs.Taking.{some_cursor, takes_from}
use Rattle.walk_rules.specs.Left.{left_step, args_left, compares, equals, goes_on, resolved, resolved_by, walking, Takes}
use Rattle.walk_rules.specs.declared.state.AtStep.TheVariants as T
use Rattle.walk_rules.specs.declared.state.Rests.{Rests}
use Rattle.walk_rules.specs.declared.state.Pending.{Pending}
use Rattle.walk_rules.specs.declared.state.State.{State}
use Rattle.walk_rules.proofs.Taking.{same}

-- ## Arguments

pub equals_none : (negated : Bool) (args : List Value) (r : Next State) → length args ≡ 0 → Takes (throw Arity) r → Takes (equals negated (plains args)) r
equals_none false [] r e h = h
equals_none true [] r e h = h
equals_none negated (x ∷ xs) r e h = absurd cc

pub each_ends : (negated : Bool) (all : List Value) (x : Value) (rest : List Value) (r : Next State) → all ≡ x ∷ rest → rest ≡ [] → Takes (give (M.bool (not negated))) r → Takes (equals negated (plains all)) r
each_ends false all x rest r e f h = rw (e, f) h
each_ends true all x rest r e f h = rw (e, f) h

pub each_goes : (negated : Bool) (all : List Value) (x y : Value) (rest more : List Value) (r : Next State) → all ≡ x ∷ rest → rest ≡ y ∷ more → Takes (visit (then (pair_on (plain x) (plain y)) (args_left negated (plains rest)))) r → Takes (equals negated (plains all)) r
each_goes false all x y rest more r e f h = rw (e, f) (rw f at h)
each_goes true all x y rest more r e f h = rw (e, f) (rw f at h)

pub args_true : (negated : Bool) (ys : List Value) → 0 < length ys → equals negated (plains ys) ≡ args_left negated (plains ys) (M.bool true)
args_true negated [] b = absurd (omega arith)
args_true false (y ∷ ys) b = refl
args_true true (y ∷ ys) b = refl

args_false : (negated : Bool) (ys : List Value) → args_left negated (plains ys) (M.bool false) ≡ give (M.bool negated)
args_false false [] = refl
args_false true [] = refl
args_false false (y ∷ ys) = refl
args_false true (y ∷ ys) = refl

-- ## A pair

pub pair_throws : (x y : M.Value ℕ) (h : M.Value ℕ → Plan ℕ) (r : Next State) → (is_incomparable x || is_incomparable y) ≡ true → Takes (throw BadType) r → Takes (then (pair_on x y) h) r
pair_throws x y h r e t = rw e t

pub pair_seqs : (x y : M.Value ℕ) (h : M.Value ℕ → Plan ℕ) (r : Next State) → (is_incomparable x || is_incomparable y) ≡ false → (holds_elements x && holds_elements y) ≡ true → Takes (seq x (λ s. seq y (λ t. compares s t h))) r → Takes (then (pair_on x y) h) r
pair_seqs x y h r e f t = rw (e, f) t

pub pair_atoms : (x y : M.Value ℕ) (h : M.Value ℕ → Plan ℕ) (r : Next State) (b : Bool) → (is_incomparable x || is_incomparable y) ≡ false → (holds_elements x && holds_elements y) ≡ false → b ≡ same_atom x y → Takes (h (M.bool b)) r → Takes (then (pair_on x y) h) r
pair_atoms x y h r b e f g t = rw (e, f) (same (ap (λ c. h (M.bool c)) g) t)

-- ## What waits

pub resolved_push : (h : M.Value ℕ → Plan ℕ) (rs : List Rests) (r : Rests) (b : M.Value ℕ) → resolved_by h (rs ++ r ∷ []) b ≡ then (goes_on r b) (resolved_by h rs)
resolved_push h [] r b = refl
resolved_push h (q ∷ rs) r b = resolved_push (λ c. then (goes_on q c) h) rs r b

by_false : (n : Bool) (h : M.Value ℕ → Plan ℕ) (rs : List Rests) → h (M.bool false) ≡ give (M.bool n) → resolved_by h rs (M.bool false) ≡ give (M.bool n)
by_false n h [] e = e
by_false n h (r ∷ rs) e = by_false n (λ b. then (goes_on r b) h) rs e

pub ends_unequal : (p : Pending) (r : Next State) → Takes (give (M.bool p.negated)) r → Takes (resolved p (M.bool false)) r
ends_unequal p r h = same (sym (by_false p.negated (args_left p.negated (plains (drop p.at p.args.items))) p.rests.items (args_false p.negated (drop p.at p.args.items)))) h

-- ## Rounds

pub both_end : (p : Pending) (r : Next State) → Takes (resolved p (M.bool true)) r → Takes (compares M.nil M.nil (resolved p)) r
both_end p r h = takes_from walking (opens refl arrives) h

pub left_ends : (c : Cursor) (p : Pending) (r : Next State) → Takes (resolved p (M.bool false)) r → Takes (compares M.nil (stands c) (resolved p)) r
left_ends c p r h = takes_from walking (opens refl (rw (some_cursor c) arrives)) h

pub right_ends : (c : Cursor) (p : Pending) (r : Next State) → Takes (resolved p (M.bool false)) r → Takes (compares (stands c) M.nil (resolved p)) r
right_ends c p r h = takes_from walking (opens refl (rw (some_cursor c) arrives)) h

pub pair_goes : (c d : Cursor) (p q : Pending) (x y : Proper) (l m : Rest) (r : Next State) → plain x.value ≡ first_of (stands c) → plain y.value ≡ first_of (stands d) → rested l ≡ rest_of (stands c) → rested m ≡ rest_of (stands d) → q.rests.items ≡ p.rests.items ++ record { left = l; right = m } ∷ [] → q.args.items ≡ p.args.items → q.at ≡ p.at → q.negated ≡ p.negated → Takes (visit (left_step (T.Pair x y q))) r → Takes (compares (stands c) (stands d) (resolved p)) r
pair_goes c d p q x y l m r ex ey el em er ea et en h =
    let k : M.Value ℕ → M.Value ℕ → M.Value ℕ → Plan ℕ = λ (u : M.Value ℕ) (v : M.Value ℕ) (b : M.Value ℕ). if_true b (seq u (λ s. seq v (λ t. compares s t give))) (give b) in
    let waiting : M.Value ℕ → Plan ℕ = args_left p.negated (plains (drop p.at p.args.items)) in
    let kept : resolved q ≡ resolved_by waiting (p.rests.items ++ record { left = l; right = m } ∷ []) = λ i. resolved_by (args_left (en i) (plains (drop (et i) (ea i)))) (er i) in
    let push : resolved_by waiting (p.rests.items ++ record { left = l; right = m } ∷ []) ≡ (λ b. then (k (rested l) (rested m) b) (resolved p)) = λ i b. resolved_push waiting p.rests.items (record { left = l; right = m }) b i in
    let waits : resolved q ≡ (λ b. then (k (rested l) (rested m) b) (resolved p)) = kept ∙ push in
    let one : visit (then (pair_on (plain x.value) (plain y.value)) (resolved q)) ≡ visit (then (pair_on (plain x.value) (plain y.value)) (λ b. then (k (rested l) (rested m) b) (resolved p))) = λ i. visit (then (pair_on (plain x.value) (plain y.value)) (waits i)) in
    let two : visit (then (pair_on (plain x.value) (plain y.value)) (λ b. then (k (rested l) (rested m) b) (resolved p))) ≡ visit (then (pair_on (first_of (stands c)) (first_of (stands d))) (λ b. then (k (rest_of (stands c)) (rest_of (stands d)) b) (resolved p))) = λ i. visit (then (pair_on (ex i) (ey i)) (λ b. then (k (el i) (em i) b) (resolved p))) in
    let three : visit (then (then (pair_on (first_of (stands c)) (first_of (stands d))) (k (rest_of (stands c)) (rest_of (stands d)))) (resolved p)) ≡ visit (then (pair_on (first_of (stands c)) (first_of (stands d))) (λ b. then (k (rest_of (stands c)) (rest_of (stands d)) b) (resolved p))) = ap visit (then_joins (pair_on (first_of (stands c)) (first_of (stands d))) (k (rest_of (stands c)) (rest_of (stands d))) (resolved p)) in
    takes_from walking (opens refl (rw (some_cursor c, some_cursor d) arrives)) (same (one ∙ two ∙ sym three) h)

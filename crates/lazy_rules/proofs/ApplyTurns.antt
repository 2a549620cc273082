-- Turns of a function that is called with elements.
use Rattle.std.proofs.Common.{◌≡◌, ℕ, List, [], ◌∷◌, ◌++◌, Option, Some, None, refl, ap, sym, ◌∙◌}
use Rattle.seq_values.specs.Model as M
use Rattle.seq_values.specs.Plain.{plain, plains, plain_term}
use Rattle.seq_values.specs.declared.term.Term.{Term}
use Rattle.seq_values.specs.declared.value.Value.{Value}
use Rattle.seq_values.specs.declared.words.Op.{Op}
use Rattle.seq_values.specs.declared.words.Op.TheVariants as O
use Rattle.seq_values.specs.declared.words.Kind.TheVariants.{Lazy}
use Rattle.seq_plan.specs.Plan.{Plan, seq, call, make, give, drop_while_from}
use Rattle.seq_plan.specs.Nodes.{first_of, rest_of, chunk_of, if_nil, call_each}
use Rattle.seq_plan.specs.Lists.{items_and, lazily}
use Rattle.seq_plan.specs.Cursors.{stands}
use Rattle.seq_plan.specs.declared.cursor.Cursor.{Cursor}
use Rattle.seq_turns.specs.declared.next.Next.{Next}
use Rattle.seq_turns.proofs.Taking.{some_cursor}
use Rattle.lazy_rows.specs.Table.{lazy_term}
use Rattle.lazy_rows.specs.Terms.{sift, sift_on, map_on, one_or_cell}
use Rattle.lazy_rules.specs.Left.{kept_of, sift_op, purpose_op, apply_at, calls_first, element_answered, sift_left, left_value, Takes}
use Rattle.lazy_rules.specs.declared.state.Applying.{Applying}
use Rattle.lazy_rules.specs.declared.state.AtValue.TheVariants as V
use Rattle.lazy_rules.specs.declared.state.Keeps.{Keeps}
use Rattle.lazy_rules.specs.declared.state.Keeps.TheVariants as K
use Rattle.lazy_rules.specs.declared.state.Purpose.{Purpose}
use Rattle.lazy_rules.specs.declared.state.Purpose.TheVariants as U
use Rattle.lazy_rules.specs.declared.state.State.{State}
use Rattle.lazy_rules.proofs.Taking.{takes_same, takes_round, calls_same}

pub applied_to_nil : (u : Purpose) (size : ℕ) (f : M.Value ℕ) (r : Next State) → Takes (give M.nil) r → Takes (apply_at u size f M.nil) r
applied_to_nil (U.Sift k) size f r h = h
applied_to_nil U.TakeWhile size f r h = h
applied_to_nil U.DropWhile size f r h = takes_round drop_while_from (f ∷ M.nil ∷ []) refl h
applied_to_nil U.Mapcat size f r h = h

pub applied_take_while : (size : ℕ) (f : M.Value ℕ) (c : Cursor) (r : Next State) → Takes (calls_first U.TakeWhile f (stands c)) r → Takes (apply_at U.TakeWhile size f (stands c)) r
applied_take_while size f c r h = rw (some_cursor c) h

pub applied_mapcat : (size : ℕ) (f : M.Value ℕ) (c : Cursor) (r : Next State) → Takes (calls_first U.Mapcat f (stands c)) r → Takes (apply_at U.Mapcat size f (stands c)) r
applied_mapcat size f c r h = rw (some_cursor c) h

pub applied_drop_while : (size : ℕ) (f : M.Value ℕ) (c : Cursor) (r : Next State) → Takes (calls_first U.DropWhile f (stands c)) r → Takes (apply_at U.DropWhile size f (stands c)) r
applied_drop_while size f c r h = takes_round drop_while_from (f ∷ stands c ∷ []) refl (rw (some_cursor c) h)

pub applied_sift : (k : Keeps) (size : ℕ) (f : M.Value ℕ) (c : Cursor) (r : Next State) → Takes (sift_on (sift_op k) (kept_of k) f (stands c) (chunk_of size (stands c))) r → Takes (apply_at (U.Sift k) size f (stands c)) r
applied_sift k size f c r h = rw (some_cursor c) h

-- a single element, or a chunk
pub sift_single : (k : Keeps) (size : ℕ) (f : M.Value ℕ) (s t : M.Value ℕ) (r : Next State) → None ≡ chunk_of size s → t ≡ s → Takes (calls_first (U.Sift k) f t) r → Takes (sift_on (sift_op k) (kept_of k) f s (chunk_of size s)) r
sift_single k size f s t r e q h = takes_same (ap (λ v. sift_on (sift_op k) (kept_of k) f v None) q ∙ ap (λ o. sift_on (sift_op k) (kept_of k) f s o) e) h

pub sift_whole : (k : Keeps) (size : ℕ) (f : M.Value ℕ) (s : M.Value ℕ) (xs : List (M.Value ℕ)) (rest : M.Value ℕ) (r : Next State) → Some (xs, rest) ≡ chunk_of size s → Takes (sift_left k f [] xs rest) r → Takes (sift_on (sift_op k) (kept_of k) f s (chunk_of size s)) r
sift_whole k size f s xs rest r e h = takes_same (ap (λ o. sift_on (sift_op k) (kept_of k) f s o) e) h

pub element_calls : (a : Applying) (c : Cursor) (first called : Value) (args : List Value) (r : Next State) → plain first ≡ first_of (stands c) → called ≡ a.function.value → plains args ≡ plain first ∷ [] → Takes (call (plain called) (plains args) (λ y. left_value (V.Element a c) y)) r → Takes (calls_first a.purpose (plain a.function.value) (stands c)) r
element_calls a c first called args r e1 e2 e3 h = calls_same a.function.value called args (first_of (stands c) ∷ []) (λ y. element_answered a.purpose (plain a.function.value) (stands c) y) e2 (e3 ∙ ap (λ x. x ∷ []) e1) h

pub single_ends : (k : Keeps) (f s y : M.Value ℕ) (kept : List (M.Value ℕ)) (t : Term) (op : Op) (r : Next State) → kept ≡ kept_of k (first_of s) y → op ≡ sift_op k → plain_term t ≡ record { op = op; args = f ∷ rest_of s ∷ [] } → Takes (one_or_cell kept t.op (plains t.args)) r → Takes (element_answered (U.Sift k) f s y) r
single_ends k f s y kept t op r e o q h =
    let p : plain_term t ≡ record { op = sift_op k; args = f ∷ rest_of s ∷ [] } = q ∙ ap (λ x. record { op = x; args = f ∷ rest_of s ∷ [] }) o in
    takes_same (λ i. one_or_cell (e i) (p i).op (p i).args) h

-- ## How the terms begin

-- what `map` keeps is each answer
each_is_sift : (f : M.Value ℕ) (ys xs : List (M.Value ℕ)) (k : List (M.Value ℕ) → Plan ℕ) → call_each f ys xs k ≡ sift f (kept_of K.Answers) ys xs k
each_is_sift f ys [] k = refl
each_is_sift f ys (x ∷ xs) k = λ i. call f (x ∷ []) (λ y. each_is_sift f (ys ++ y ∷ []) xs k i)

map_is_sift : (f s : M.Value ℕ) (o : Option (List (M.Value ℕ) × M.Value ℕ)) → map_on f s o ≡ sift_on O.Map (kept_of K.Answers) f s o
map_is_sift f s None = refl
map_is_sift f s (Some p) = each_is_sift f [] p.0 (λ ys. items_and ys O.Map (f ∷ p.1 ∷ []))

pub apply_is : (u : Purpose) (size : ℕ) (f c : M.Value ℕ) → seq c (λ s. apply_at u size f s) ≡ lazy_term size (purpose_op u) (f ∷ c ∷ [])
apply_is (U.Sift K.Answers) size f c = λ i. seq c (λ s. if_nil s (give M.nil) (sym (map_is_sift f s (chunk_of size s)) i))
apply_is (U.Sift K.Elements) size f c = refl
apply_is (U.Sift K.SomeAnswers) size f c = refl
apply_is U.TakeWhile size f c = refl
apply_is U.DropWhile size f c = refl
apply_is U.Mapcat size f c = refl

-- ## `mapcat`

pub mapcat_makes : (f s y : M.Value ℕ) (t : Term) (r : Next State) → plain_term t ≡ record { op = O.Mapcat; args = f ∷ rest_of s ∷ [] } → Takes (make Lazy (plain_term t) (λ m. lazily O.Concat (y ∷ M.cell m ∷ []))) r → Takes (element_answered U.Mapcat f s y) r
mapcat_makes f s y t r e h = takes_same (ap (λ x. make Lazy x (λ m. lazily O.Concat (y ∷ M.cell m ∷ []))) e) h

pub two_make : (op : Op) (a b c : M.Value ℕ) (t : Term) (r : Next State) → b ≡ c → plain_term t ≡ record { op = op; args = a ∷ b ∷ [] } → Takes (make Lazy (plain_term t) (λ m. give (M.cell m))) r → Takes (lazily op (a ∷ c ∷ [])) r
two_make op a b c t r q e h =
    let p : plain_term t ≡ record { op = op; args = a ∷ c ∷ [] } = e ∙ ap (λ x. record { op = op; args = a ∷ x ∷ [] }) q in
    takes_same (ap (λ x. make Lazy x (λ m. give (M.cell m))) p) h

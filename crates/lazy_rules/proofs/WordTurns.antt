-- What the calls of words make, and give.
use Rattle.std.proofs.Common.{◌≡◌, ◌≢◌, ℕ, ◌+◌, ◌<◌, ◌≤◌, ℤ, pos, int_lt, Bool, true, false, Option, if◌then◌else◌, List, [], ◌∷◌, map, length, drop, Some, None, refl, ap, sym, ◌∙◌, arith, rules}
use Rattle.std.specs.Prelude.{IsTrue}
use Rattle.std.proofs.lemmas.Int.{ints}
use Rattle.seq_base.specs.declared.thrown.Thrown.{Thrown}
use Rattle.seq_base.specs.declared.thrown.Thrown.TheVariants.{Arity, BadType, Index}
use Rattle.seq_values.specs.Model as M
use Rattle.seq_values.specs.Plain.{plain, plains, plain_term}
use Rattle.seq_values.specs.Sight.{Sight, an_int}
use Rattle.seq_values.specs.WellFormed.{sight_of, binds, binds_stage}
use Rattle.seq_values.specs.WellFormedTerms.{takes}
use Rattle.seq_values.specs.declared.term.Term.{Term}
use Rattle.seq_values.specs.declared.value.Node.{Node}
use Rattle.seq_values.specs.declared.value.Node.TheVariants as N
use Rattle.seq_values.specs.declared.value.Node.TheFolds.{the_lemmas}
use Rattle.seq_values.specs.declared.value.Value.{Value}
use Rattle.seq_values.specs.declared.value.Value.TheVariants as V
use Rattle.seq_values.specs.declared.words.Kind.TheVariants.{Lazy}
use Rattle.seq_values.specs.declared.words.Op.{Op}
use Rattle.seq_values.specs.declared.words.Op.TheVariants as O
use Rattle.seq_values.specs.declared.words.Target.TheVariants as T
use Rattle.seq_values.specs.declared.words.XfKind.{XfKind}
use Rattle.seq_values.specs.declared.words.XfKind.TheVariants as X
use Rattle.seq_plan.specs.Plan.{Plan, make, give, throw}
use Rattle.seq_plan.specs.Nodes.{range_at, with_value}
use Rattle.seq_plan.specs.Lists.{lazily, first_and}
use Rattle.seq_turns.specs.Making.{Makes}
use Rattle.seq_turns.specs.declared.made.Made.TheVariants as D
use Rattle.seq_turns.specs.declared.next.Next.{Next}
use Rattle.seq_turns.specs.declared.proper.Proper.{Proper}
use Rattle.lazy_rows.specs.Calls.{give_stage, with_function, map_call, remove_call, with_count, partition_call, iterate_call, range_call, repeat_call, cycle_call}
use Rattle.lazy_rules.specs.Arguments.{counted, first_number}
use Rattle.seq_turns.specs.Arguments.{integer_of}
use Rattle.lazy_rules.specs.Left.{Takes}
use Rattle.lazy_rules.specs.declared.state.State.{State}
use Rattle.lazy_rules.proofs.ArgumentLemmas.{is_number}
use Rattle.lazy_rules.proofs.Taking.{takes_same}

-- ## A function and a collection

pub function_stage : (op : Op) (kind : XfKind) (args : List Value) (r : Next State) → length args ≡ 1 → Takes (give_stage kind (plains args)) r → Takes (with_function op kind (plains args)) r
function_stage op kind [] r e h = absurd cc
function_stage op kind (x ∷ []) r e h = h
function_stage op kind (x ∷ y ∷ ys) r e h = absurd (omega (arith, e))

pub function_cell : (op : Op) (kind : XfKind) (args : List Value) (r : Next State) → length args ≡ 2 → Takes (lazily op (plains args)) r → Takes (with_function op kind (plains args)) r
function_cell op kind [] r e h = absurd cc
function_cell op kind (x ∷ []) r e h = absurd (omega (arith, e))
function_cell op kind (x ∷ y ∷ []) r e h = h
function_cell op kind (x ∷ y ∷ z ∷ zs) r e h = absurd (omega (arith, e))

pub function_arity : (op : Op) (kind : XfKind) (args : List Value) (r : Next State) → length args ≢ 1 → length args ≢ 2 → Takes (throw Arity) r → Takes (with_function op kind (plains args)) r
function_arity op kind [] r n m h = h
function_arity op kind (x ∷ []) r n m h = absurd (n refl)
function_arity op kind (x ∷ y ∷ []) r n m h = absurd (m refl)
function_arity op kind (x ∷ y ∷ z ∷ zs) r n m h = h

pub stage_binds : (kind : XfKind) (args : List Value) → length args ≡ 1 → ((a : Sight) → binds_stage kind (a ∷ []) ≡ true) → IsTrue (binds (T.Xf kind) (map sight_of args))
stage_binds kind [] e h = absurd cc
stage_binds kind (x ∷ []) e h = h (sight_of x)
stage_binds kind (x ∷ y ∷ ys) e h = absurd (omega (arith, e))

pub cell_takes : (op : Op) (args : List Value) → length args ≡ 2 → ((a b : Sight) → takes op (a ∷ b ∷ []) ≡ true) → takes op (map sight_of args) ≡ true
cell_takes op [] e h = absurd cc
cell_takes op (x ∷ []) e h = absurd (omega (arith, e))
cell_takes op (x ∷ y ∷ []) e h = h (sight_of x) (sight_of y)
cell_takes op (x ∷ y ∷ z ∷ zs) e h = absurd (omega (arith, e))

-- ## `map`

pub map_several : (args : List Value) (r : Next State) → 3 ≤ length args → length args ≤ 5 → Takes (lazily O.MapN (plains args)) r → Takes (map_call (plains args)) r
map_several (a ∷ b ∷ c ∷ []) r p q h = h
map_several (a ∷ b ∷ c ∷ d ∷ []) r p q h = h
map_several (a ∷ b ∷ c ∷ d ∷ e ∷ []) r p q h = h
map_several (a ∷ b ∷ c ∷ d ∷ e ∷ f ∷ xs) r p q h = absurd (omega arith)
map_several (a ∷ b ∷ []) r p q h = absurd (omega arith)
map_several (a ∷ []) r p q h = absurd (omega arith)
map_several [] r p q h = absurd (omega arith)

pub map_other : (args : List Value) (r : Next State) → length args ≢ 3 → length args ≢ 4 → length args ≢ 5 → Takes (with_function O.Map X.Map (plains args)) r → Takes (map_call (plains args)) r
map_other [] r p q s h = h
map_other (a ∷ []) r p q s h = h
map_other (a ∷ b ∷ []) r p q s h = h
map_other (a ∷ b ∷ c ∷ []) r p q s h = absurd (p refl)
map_other (a ∷ b ∷ c ∷ d ∷ []) r p q s h = absurd (q refl)
map_other (a ∷ b ∷ c ∷ d ∷ e ∷ []) r p q s h = absurd (s refl)
map_other (a ∷ b ∷ c ∷ d ∷ e ∷ f ∷ xs) r p q s h = h

-- ## `remove`

pub remove_stage : (args : List Value) (r : Next State) → length args ≡ 1 → Takes (give_stage X.Remove (plains args)) r → Takes (remove_call (plains args)) r
remove_stage [] r e h = absurd cc
remove_stage (x ∷ []) r e h = h
remove_stage (x ∷ y ∷ ys) r e h = absurd (omega (arith, e))

pub remove_binds : (args : List Value) → length args ≡ 1 → IsTrue (binds (T.Xf X.Remove) (map sight_of args))
remove_binds args e = stage_binds X.Remove args e (λ a. refl)

pub remove_arity : (args : List Value) (r : Next State) → length args ≢ 1 → length args ≢ 2 → Takes (throw Arity) r → Takes (remove_call (plains args)) r
remove_arity [] r n m h = h
remove_arity (x ∷ []) r n m h = absurd (n refl)
remove_arity (x ∷ y ∷ []) r n m h = absurd (m refl)
remove_arity (x ∷ y ∷ z ∷ zs) r n m h = h

pub remove_pair : (args : List Value) (a b : Value) → args ≡ a ∷ b ∷ [] → remove_call (plain a ∷ plain b ∷ []) ≡ remove_call (plains args)
remove_pair args a b e = sym (ap (λ l. remove_call (plains l)) e)

pub complement_binds : (bound : List Value) (p : Value) → bound ≡ p ∷ [] → IsTrue (binds T.Complement (map sight_of bound))
complement_binds bound p e = ap (λ l. binds T.Complement (map sight_of l)) e

pub not_throws : (p c : M.Value ℕ) (bound : List Value) (why : Thrown) (r : Next State) → plains bound ≡ p ∷ [] → Makes (with_value (M.function T.Complement (M.values (plains bound)))) (D.Thrown why) → Takes (throw why) r → Takes (remove_call (p ∷ c ∷ [])) r
not_throws p c bound why r e m h =
    let k : M.Value ℕ → Plan ℕ = λ q. lazily O.Filter (q ∷ c ∷ []) in
    takes_same (sym (m.goes k) ∙ ap (λ l. with_value (M.function T.Complement (M.values l)) k) e) h

pub not_makes : (p c : M.Value ℕ) (bound : List Value) (q : Proper) (t : Term) (r : Next State) → plains bound ≡ p ∷ [] → Makes (with_value (M.function T.Complement (M.values (plains bound)))) (D.Value q) → plain_term t ≡ record { op = O.Filter; args = plain q.value ∷ c ∷ [] } → Takes (make Lazy (plain_term t) (λ m. give (M.cell m))) r → Takes (remove_call (p ∷ c ∷ [])) r
not_makes p c bound q t r e m d h =
    let k : M.Value ℕ → Plan ℕ = λ f. lazily O.Filter (f ∷ c ∷ []) in
    takes_same (sym (m.goes k) ∙ ap (λ l. with_value (M.function T.Complement (M.values l)) k) e) (takes_same (ap (λ x. make Lazy x (λ i. give (M.cell i))) d) h)

-- ## A count and a collection

count_wrong_one : (op : Op) (kind : XfKind) (x : M.Value ℕ) → integer_of x ≡ None → with_count op kind (x ∷ []) ≡ throw BadType
count_wrong_one op kind M.nil e = refl
count_wrong_one op kind (M.bool b) e = refl
count_wrong_one op kind (M.keyword k) e = refl
count_wrong_one op kind (M.text t) e = refl
count_wrong_one op kind (M.vector ys) e = refl
count_wrong_one op kind (M.function t ys) e = refl
count_wrong_one op kind (M.reduced v) e = refl
count_wrong_one op kind (M.cell m) e = refl
count_wrong_one op kind M.empty e = refl
count_wrong_one op kind (M.cons ys v) e = refl
count_wrong_one op kind (M.chunk ys v) e = refl
count_wrong_one op kind (M.range a b o) e = refl
count_wrong_one op kind (M.vec_seq ys i) e = refl
count_wrong_one op kind (M.int n) e = absurd cc

count_wrong_two : (op : Op) (kind : XfKind) (x c : M.Value ℕ) → integer_of x ≡ None → with_count op kind (x ∷ c ∷ []) ≡ throw BadType
count_wrong_two op kind M.nil c e = refl
count_wrong_two op kind (M.bool b) c e = refl
count_wrong_two op kind (M.keyword k) c e = refl
count_wrong_two op kind (M.text t) c e = refl
count_wrong_two op kind (M.vector ys) c e = refl
count_wrong_two op kind (M.function t ys) c e = refl
count_wrong_two op kind (M.reduced v) c e = refl
count_wrong_two op kind (M.cell m) c e = refl
count_wrong_two op kind M.empty c e = refl
count_wrong_two op kind (M.cons ys v) c e = refl
count_wrong_two op kind (M.chunk ys v) c e = refl
count_wrong_two op kind (M.range a b o) c e = refl
count_wrong_two op kind (M.vec_seq ys i) c e = refl
count_wrong_two op kind (M.int n) c e = absurd cc

count_many : (op : Op) (kind : XfKind) (x c d : M.Value ℕ) (ds : List (M.Value ℕ)) → with_count op kind (x ∷ c ∷ d ∷ ds) ≡ throw Arity
count_many op kind M.nil c d ds = refl
count_many op kind (M.bool b) c d ds = refl
count_many op kind (M.keyword k) c d ds = refl
count_many op kind (M.text t) c d ds = refl
count_many op kind (M.vector ys) c d ds = refl
count_many op kind (M.function t ys) c d ds = refl
count_many op kind (M.reduced v) c d ds = refl
count_many op kind (M.cell m) c d ds = refl
count_many op kind M.empty c d ds = refl
count_many op kind (M.cons ys v) c d ds = refl
count_many op kind (M.chunk ys v) c d ds = refl
count_many op kind (M.range a b o) c d ds = refl
count_many op kind (M.vec_seq ys i) c d ds = refl
count_many op kind (M.int n) c d ds = refl

pub count_stage : (op : Op) (kind : XfKind) (args : List Value) (n : ℤ) (r : Next State) → length args ≡ 1 → first_number (plains args) ≡ Some n → Takes (give_stage kind (plains args)) r → Takes (with_count op kind (plains args)) r
count_stage op kind [] n r l e h = absurd cc
count_stage op kind (x ∷ []) n r l e h =
    let i : plain x ≡ M.int n = is_number (plain x) n e in
    let p : give_stage kind (plain x ∷ []) ≡ with_count op kind (plain x ∷ []) = rw i refl in
    takes_same p h
count_stage op kind (x ∷ y ∷ ys) n r l e h = absurd (omega (arith, l))

pub count_cell : (op : Op) (kind : XfKind) (args : List Value) (n : ℤ) (r : Next State) → length args ≡ 2 → first_number (plains args) ≡ Some n → Takes (lazily op (plains args)) r → Takes (with_count op kind (plains args)) r
count_cell op kind [] n r l e h = absurd cc
count_cell op kind (x ∷ []) n r l e h = absurd (omega (arith, l))
count_cell op kind (x ∷ y ∷ []) n r l e h =
    let i : plain x ≡ M.int n = is_number (plain x) n e in
    let p : lazily op (plain x ∷ plain y ∷ []) ≡ with_count op kind (plain x ∷ plain y ∷ []) = rw i refl in
    takes_same p h
count_cell op kind (x ∷ y ∷ z ∷ zs) n r l e h = absurd (omega (arith, l))

pub count_wrong_kind : (op : Op) (kind : XfKind) (args : List Value) (r : Next State) → 0 < length args → length args ≤ 2 → first_number (plains args) ≡ None → Takes (throw BadType) r → Takes (with_count op kind (plains args)) r
count_wrong_kind op kind [] r l m e h = absurd (omega arith)
count_wrong_kind op kind (x ∷ []) r l m e h = takes_same (sym (count_wrong_one op kind (plain x) e)) h
count_wrong_kind op kind (x ∷ y ∷ []) r l m e h = takes_same (sym (count_wrong_two op kind (plain x) (plain y) e)) h
count_wrong_kind op kind (x ∷ y ∷ z ∷ zs) r l m e h = absurd (omega arith)

pub count_arity : (op : Op) (kind : XfKind) (args : List Value) (r : Next State) → length args ≢ 1 → length args ≢ 2 → Takes (throw Arity) r → Takes (with_count op kind (plains args)) r
count_arity op kind [] r n m h = h
count_arity op kind (x ∷ []) r n m h = absurd (n refl)
count_arity op kind (x ∷ y ∷ []) r n m h = absurd (m refl)
count_arity op kind (x ∷ y ∷ z ∷ zs) r n m h = takes_same (sym (count_many op kind (plain x) (plain y) (plain z) (plains zs))) h

-- what is seen of a first argument that is a number
pub counted_binds : (kind : XfKind) (args : List Value) (n : ℤ) → length args ≡ 1 → ((x : Value) (xs : List Value) → args ≡ x ∷ xs → sight_of x ≡ an_int n) → binds_stage kind (an_int n ∷ []) ≡ true → IsTrue (binds (T.Xf kind) (map sight_of args))
counted_binds kind [] n l s h = absurd cc
counted_binds kind (x ∷ []) n l s h = ap (λ i. binds_stage kind (i ∷ [])) (s x [] refl) ∙ h
counted_binds kind (x ∷ y ∷ ys) n l s h = absurd (omega (arith, l))

pub counted_takes : (op : Op) (args : List Value) (n : ℤ) → length args ≡ 2 → ((x : Value) (xs : List Value) → args ≡ x ∷ xs → sight_of x ≡ an_int n) → ((a : Sight) → takes op (an_int n ∷ a ∷ []) ≡ true) → takes op (map sight_of args) ≡ true
counted_takes op [] n l s h = absurd cc
counted_takes op (x ∷ []) n l s h = absurd (omega (arith, l))
counted_takes op (x ∷ y ∷ []) n l s h = ap (λ i. takes op (i ∷ sight_of y ∷ [])) (s x (y ∷ []) refl) ∙ h (sight_of y)
counted_takes op (x ∷ y ∷ z ∷ zs) n l s h = absurd (omega (arith, l))

-- ## `partition-all`

parts_wrong_one : (x : M.Value ℕ) → integer_of x ≡ None → partition_call (x ∷ []) ≡ throw BadType
parts_wrong_one M.nil e = refl
parts_wrong_one (M.bool b) e = refl
parts_wrong_one (M.keyword k) e = refl
parts_wrong_one (M.text t) e = refl
parts_wrong_one (M.vector ys) e = refl
parts_wrong_one (M.function t ys) e = refl
parts_wrong_one (M.reduced v) e = refl
parts_wrong_one (M.cell m) e = refl
parts_wrong_one M.empty e = refl
parts_wrong_one (M.cons ys v) e = refl
parts_wrong_one (M.chunk ys v) e = refl
parts_wrong_one (M.range a b o) e = refl
parts_wrong_one (M.vec_seq ys i) e = refl
parts_wrong_one (M.int n) e = absurd cc

parts_wrong_two : (x c : M.Value ℕ) → integer_of x ≡ None → partition_call (x ∷ c ∷ []) ≡ throw BadType
parts_wrong_two M.nil c e = refl
parts_wrong_two (M.bool b) c e = refl
parts_wrong_two (M.keyword k) c e = refl
parts_wrong_two (M.text t) c e = refl
parts_wrong_two (M.vector ys) c e = refl
parts_wrong_two (M.function t ys) c e = refl
parts_wrong_two (M.reduced v) c e = refl
parts_wrong_two (M.cell m) c e = refl
parts_wrong_two M.empty c e = refl
parts_wrong_two (M.cons ys v) c e = refl
parts_wrong_two (M.chunk ys v) c e = refl
parts_wrong_two (M.range a b o) c e = refl
parts_wrong_two (M.vec_seq ys i) c e = refl
parts_wrong_two (M.int n) c e = absurd cc

parts_many : (x c d : M.Value ℕ) (ds : List (M.Value ℕ)) → partition_call (x ∷ c ∷ d ∷ ds) ≡ throw Arity
parts_many M.nil c d ds = refl
parts_many (M.bool b) c d ds = refl
parts_many (M.keyword k) c d ds = refl
parts_many (M.text t) c d ds = refl
parts_many (M.vector ys) c d ds = refl
parts_many (M.function t ys) c d ds = refl
parts_many (M.reduced v) c d ds = refl
parts_many (M.cell m) c d ds = refl
parts_many M.empty c d ds = refl
parts_many (M.cons ys v) c d ds = refl
parts_many (M.chunk ys v) c d ds = refl
parts_many (M.range a b o) c d ds = refl
parts_many (M.vec_seq ys i) c d ds = refl
parts_many (M.int n) c d ds = refl

pub parts_wrong_kind : (args : List Value) (r : Next State) → 0 < length args → length args ≤ 2 → first_number (plains args) ≡ None → Takes (throw BadType) r → Takes (partition_call (plains args)) r
parts_wrong_kind [] r l m e h = absurd (omega arith)
parts_wrong_kind (x ∷ []) r l m e h = takes_same (sym (parts_wrong_one (plain x) e)) h
parts_wrong_kind (x ∷ y ∷ []) r l m e h = takes_same (sym (parts_wrong_two (plain x) (plain y) e)) h
parts_wrong_kind (x ∷ y ∷ z ∷ zs) r l m e h = absurd (omega arith)

pub parts_arity : (args : List Value) (r : Next State) → length args ≢ 1 → length args ≢ 2 → Takes (throw Arity) r → Takes (partition_call (plains args)) r
parts_arity [] r n m h = h
parts_arity (x ∷ []) r n m h = absurd (n refl)
parts_arity (x ∷ y ∷ []) r n m h = absurd (m refl)
parts_arity (x ∷ y ∷ z ∷ zs) r n m h = takes_same (sym (parts_many (plain x) (plain y) (plain z) (plains zs))) h

-- a size below 1
pub parts_wrong_size : (args : List Value) (n : ℤ) (r : Next State) → 0 < length args → length args ≤ 2 → first_number (plains args) ≡ Some n → int_lt n (pos 1) ≡ true → Takes (throw Index) r → Takes (partition_call (plains args)) r
parts_wrong_size [] n r l m e b h = absurd (omega arith)
parts_wrong_size (x ∷ []) n r l m e b h =
    let i : plain x ≡ M.int n = is_number (plain x) n e in
    let p : throw Index ≡ partition_call (plain x ∷ []) = rw (i, b) refl in
    takes_same p h
parts_wrong_size (x ∷ y ∷ []) n r l m e b h =
    let i : plain x ≡ M.int n = is_number (plain x) n e in
    let p : throw Index ≡ partition_call (plain x ∷ plain y ∷ []) = rw (i, b) refl in
    takes_same p h
parts_wrong_size (x ∷ y ∷ z ∷ zs) n r l m e b h = absurd (omega arith)

pub parts_stage : (args : List Value) (n : ℤ) (r : Next State) → length args ≡ 1 → first_number (plains args) ≡ Some n → int_lt n (pos 1) ≡ false → Takes (give_stage X.PartitionAll (plains args)) r → Takes (partition_call (plains args)) r
parts_stage [] n r l e b h = absurd cc
parts_stage (x ∷ []) n r l e b h =
    let i : plain x ≡ M.int n = is_number (plain x) n e in
    let p : give_stage X.PartitionAll (plain x ∷ []) ≡ partition_call (plain x ∷ []) = rw (i, b) refl in
    takes_same p h
parts_stage (x ∷ y ∷ ys) n r l e b h = absurd (omega (arith, l))

pub parts_cell : (args : List Value) (n : ℤ) (r : Next State) → length args ≡ 2 → first_number (plains args) ≡ Some n → int_lt n (pos 1) ≡ false → Takes (lazily O.Parts (plains args)) r → Takes (partition_call (plains args)) r
parts_cell [] n r l e b h = absurd cc
parts_cell (x ∷ []) n r l e b h = absurd (omega (arith, l))
parts_cell (x ∷ y ∷ []) n r l e b h =
    let i : plain x ≡ M.int n = is_number (plain x) n e in
    let p : lazily O.Parts (plain x ∷ plain y ∷ []) ≡ partition_call (plain x ∷ plain y ∷ []) = rw (i, b) refl in
    takes_same p h
parts_cell (x ∷ y ∷ z ∷ zs) n r l e b h = absurd (omega (arith, l))

above_zero : (n : ℤ) → int_lt n (pos 1) ≡ false → int_lt (pos 0) n ≡ true
above_zero n h = grind (arith, ints)

pub size_binds : (args : List Value) (n : ℤ) → length args ≡ 1 → int_lt n (pos 1) ≡ false → ((x : Value) (xs : List Value) → args ≡ x ∷ xs → sight_of x ≡ an_int n) → IsTrue (binds (T.Xf X.PartitionAll) (map sight_of args))
size_binds args n l b s = counted_binds X.PartitionAll args n l s (above_zero n b)

pub size_takes : (args : List Value) (n : ℤ) → length args ≡ 2 → int_lt n (pos 1) ≡ false → ((x : Value) (xs : List Value) → args ≡ x ∷ xs → sight_of x ≡ an_int n) → takes O.Parts (map sight_of args) ≡ true
size_takes args n l b s = counted_takes O.Parts args n l s (λ a. above_zero n b)

-- ## `iterate`

pub iterate_arity : (args : List Value) (r : Next State) → length args ≢ 2 → Takes (throw Arity) r → Takes (iterate_call (plains args)) r
iterate_arity [] r n h = h
iterate_arity (x ∷ []) r n h = h
iterate_arity (x ∷ y ∷ []) r n h = absurd (n refl)
iterate_arity (x ∷ y ∷ z ∷ zs) r n h = h

second_value : (args : List Value) (x : Value) → drop 1 args ≡ x ∷ drop (1 + 1) args → length args ≡ 2 → (f : Value) × (args ≡ f ∷ x ∷ [])
second_value [] x e l = absurd cc
second_value (f ∷ []) x e l = absurd (omega (arith, l))
second_value (f ∷ y ∷ []) x e l = (f, ap (λ ys. f ∷ ys) e)
second_value (f ∷ y ∷ z ∷ zs) x e l = absurd (omega (arith, l))

pub iterate_first : (args : List Value) (x : Value) (t : Term) (r : Next State) → length args ≡ 2 → drop 1 args ≡ x ∷ drop (1 + 1) args → plain_term t ≡ record { op = O.Next; args = plains args } → Takes (first_and (plain x) t.op (plains t.args)) r → Takes (iterate_call (plains args)) r
iterate_first args x t r l e q h =
    let p = second_value args x e l in
    let k : iterate_call (plains args) ≡ first_and (plain x) O.Next (plains args) = ap (λ ys. iterate_call (plains ys)) p.1 ∙ sym (ap (λ ys. first_and (plain x) O.Next (plains ys)) p.1) in
    takes_same (ap (λ y. first_and (plain x) y.op y.args) q ∙ sym k) h

pub next_takes : (args : List Value) → length args ≡ 2 → takes O.Next (map sight_of args) ≡ true
next_takes args e = cell_takes O.Next args e (λ a b. refl)

-- ## `range`

plain_node : (n m : Node) → n ≡ m → plain (V.Node n) ≡ plain (V.Node m)
plain_node n m e = ap (λ x. plain (V.Node x)) e

plain_range : (from at end : ℤ) → plain (V.Node (N.Range from at end)) ≡ M.range from at end
plain_range from at end = search (rules, the_lemmas)

plain_empty : plain (V.Node N.Empty) ≡ M.empty
plain_empty = search (rules, the_lemmas)

pub range_gives : (from end : ℤ) (n : Node) → n ≡ (if int_lt from end then N.Range from from end else N.Empty) → plain (V.Node n) ≡ range_at from from end
range_gives from end n e = plain_node n _ e ∙ by (int_lt from end) refl
  where
    by : (b : Bool) → int_lt from end ≡ b → plain (V.Node (if int_lt from end then N.Range from from end else N.Empty)) ≡ range_at from from end
    by true q = rw q (plain_range from from end)
    by false q = rw q plain_empty

range_wrong_one : (x : M.Value ℕ) → integer_of x ≡ None → range_call (x ∷ []) ≡ throw BadType
range_wrong_one M.nil e = refl
range_wrong_one (M.bool b) e = refl
range_wrong_one (M.keyword k) e = refl
range_wrong_one (M.text t) e = refl
range_wrong_one (M.vector ys) e = refl
range_wrong_one (M.function t ys) e = refl
range_wrong_one (M.reduced v) e = refl
range_wrong_one (M.cell m) e = refl
range_wrong_one M.empty e = refl
range_wrong_one (M.cons ys v) e = refl
range_wrong_one (M.chunk ys v) e = refl
range_wrong_one (M.range a b o) e = refl
range_wrong_one (M.vec_seq ys i) e = refl
range_wrong_one (M.int n) e = absurd cc

range_wrong_first : (x y : M.Value ℕ) → integer_of x ≡ None → range_call (x ∷ y ∷ []) ≡ throw BadType
range_wrong_first M.nil y e = refl
range_wrong_first (M.bool b) y e = refl
range_wrong_first (M.keyword k) y e = refl
range_wrong_first (M.text t) y e = refl
range_wrong_first (M.vector ys) y e = refl
range_wrong_first (M.function t ys) y e = refl
range_wrong_first (M.reduced v) y e = refl
range_wrong_first (M.cell m) y e = refl
range_wrong_first M.empty y e = refl
range_wrong_first (M.cons ys v) y e = refl
range_wrong_first (M.chunk ys v) y e = refl
range_wrong_first (M.range a b o) y e = refl
range_wrong_first (M.vec_seq ys i) y e = refl
range_wrong_first (M.int n) y e = absurd cc

range_wrong_second : (n : ℤ) (y : M.Value ℕ) → integer_of y ≡ None → range_call (M.int n ∷ y ∷ []) ≡ throw BadType
range_wrong_second n M.nil e = refl
range_wrong_second n (M.bool b) e = refl
range_wrong_second n (M.keyword k) e = refl
range_wrong_second n (M.text t) e = refl
range_wrong_second n (M.vector ys) e = refl
range_wrong_second n (M.function t ys) e = refl
range_wrong_second n (M.reduced v) e = refl
range_wrong_second n (M.cell m) e = refl
range_wrong_second n M.empty e = refl
range_wrong_second n (M.cons ys v) e = refl
range_wrong_second n (M.chunk ys v) e = refl
range_wrong_second n (M.range a b o) e = refl
range_wrong_second n (M.vec_seq ys i) e = refl
range_wrong_second n (M.int m) e = absurd cc

range_many : (x y z : M.Value ℕ) (zs : List (M.Value ℕ)) → range_call (x ∷ y ∷ z ∷ zs) ≡ throw Arity
range_many M.nil y z zs = refl
range_many (M.bool b) y z zs = refl
range_many (M.keyword k) y z zs = refl
range_many (M.text t) y z zs = refl
range_many (M.vector ys) y z zs = refl
range_many (M.function t ys) y z zs = refl
range_many (M.reduced v) y z zs = refl
range_many (M.cell m) y z zs = refl
range_many M.empty y z zs = refl
range_many (M.cons ys v) y z zs = refl
range_many (M.chunk ys v) y z zs = refl
range_many (M.range a b o) y z zs = refl
range_many (M.vec_seq ys i) y z zs = refl
range_many (M.int n) M.nil z zs = refl
range_many (M.int n) (M.bool b) z zs = refl
range_many (M.int n) (M.keyword k) z zs = refl
range_many (M.int n) (M.text t) z zs = refl
range_many (M.int n) (M.vector ys) z zs = refl
range_many (M.int n) (M.function t ys) z zs = refl
range_many (M.int n) (M.reduced v) z zs = refl
range_many (M.int n) (M.cell m) z zs = refl
range_many (M.int n) M.empty z zs = refl
range_many (M.int n) (M.cons ys v) z zs = refl
range_many (M.int n) (M.chunk ys v) z zs = refl
range_many (M.int n) (M.range a b o) z zs = refl
range_many (M.int n) (M.vec_seq ys i) z zs = refl
range_many (M.int n) (M.int o) z zs = refl

pub range_all : (args : List Value) → length args ≡ 0 → range_call [] ≡ range_call (plains args)
range_all [] e = refl
range_all (x ∷ xs) e = absurd cc

pub range_wrong_end : (args : List Value) (r : Next State) → length args ≡ 1 → first_number (plains args) ≡ None → Takes (throw BadType) r → Takes (range_call (plains args)) r
range_wrong_end [] r l e h = absurd cc
range_wrong_end (x ∷ []) r l e h = takes_same (sym (range_wrong_one (plain x) e)) h
range_wrong_end (x ∷ y ∷ ys) r l e h = absurd (omega (arith, l))

pub range_ends : (args : List Value) (n m : ℤ) (r : Next State) → length args ≡ 1 → first_number (plains args) ≡ Some n → m ≡ n → Takes (give (range_at (pos 0) (pos 0) m)) r → Takes (range_call (plains args)) r
range_ends [] n m r l e q h = absurd cc
range_ends (x ∷ []) n m r l e q h =
    let i : plain x ≡ M.int n = is_number (plain x) n e in
    takes_same (ap (λ k. give (range_at (pos 0) (pos 0) k)) q ∙ sym (ap (λ v. range_call (v ∷ [])) i)) h
range_ends (x ∷ y ∷ ys) n m r l e q h = absurd (omega (arith, l))

counted_none : (x y : M.Value ℕ) → counted (x ∷ y ∷ []) ≡ None → integer_of x ≡ None
counted_none x y e = by (integer_of x) refl
  where
    by : (o : Option ℤ) → integer_of x ≡ o → integer_of x ≡ None
    by None q = q
    by (Some n) q = absurd cc

pub range_wrong_begin : (args : List Value) (r : Next State) → length args ≡ 2 → counted (plains args) ≡ None → Takes (throw BadType) r → Takes (range_call (plains args)) r
range_wrong_begin [] r l e h = absurd cc
range_wrong_begin (x ∷ []) r l e h = absurd (omega (arith, l))
range_wrong_begin (x ∷ y ∷ []) r l e h = takes_same (sym (range_wrong_first (plain x) (plain y) (counted_none (plain x) (plain y) e))) h
range_wrong_begin (x ∷ y ∷ z ∷ zs) r l e h = absurd (omega (arith, l))

pub range_wrong_stop : (n : ℤ) (y : M.Value ℕ) (r : Next State) → integer_of y ≡ None → Takes (throw BadType) r → Takes (range_call (M.int n ∷ y ∷ [])) r
range_wrong_stop n y r e h = takes_same (sym (range_wrong_second n y e)) h

pub range_spans : (n k m o : ℤ) (y : M.Value ℕ) (r : Next State) → integer_of y ≡ Some m → k ≡ n → o ≡ m → Takes (give (range_at k k o)) r → Takes (range_call (M.int n ∷ y ∷ [])) r
range_spans n k m o y r e q p h = takes_same ((λ i. give (range_at (q i) (q i) (p i))) ∙ sym (ap (λ v. range_call (M.int n ∷ v ∷ [])) (is_number y m e))) h

pub range_arity : (args : List Value) (r : Next State) → length args ≢ 0 → length args ≢ 1 → length args ≢ 2 → Takes (throw Arity) r → Takes (range_call (plains args)) r
range_arity [] r n m o h = absurd (n refl)
range_arity (x ∷ []) r n m o h = absurd (m refl)
range_arity (x ∷ y ∷ []) r n m o h = absurd (o refl)
range_arity (x ∷ y ∷ z ∷ zs) r n m o h = takes_same (sym (range_many (plain x) (plain y) (plain z) (plains zs))) h

pub pair_same : {A : Type 0} (k : List (M.Value ℕ) → A) (args : List Value) (n : ℤ) (c : M.Value ℕ) → plains args ≡ M.int n ∷ c ∷ [] → k (M.int n ∷ c ∷ []) ≡ k (plains args)
pair_same k args n c e = sym (ap k e)

-- ## `repeat`

repeat_wrong : (x y : M.Value ℕ) → integer_of x ≡ None → repeat_call (x ∷ y ∷ []) ≡ throw BadType
repeat_wrong M.nil y e = refl
repeat_wrong (M.bool b) y e = refl
repeat_wrong (M.keyword k) y e = refl
repeat_wrong (M.text t) y e = refl
repeat_wrong (M.vector ys) y e = refl
repeat_wrong (M.function t ys) y e = refl
repeat_wrong (M.reduced v) y e = refl
repeat_wrong (M.cell m) y e = refl
repeat_wrong M.empty y e = refl
repeat_wrong (M.cons ys v) y e = refl
repeat_wrong (M.chunk ys v) y e = refl
repeat_wrong (M.range a b o) y e = refl
repeat_wrong (M.vec_seq ys i) y e = refl
repeat_wrong (M.int n) y e = absurd cc

repeat_many : (x y z : M.Value ℕ) (zs : List (M.Value ℕ)) → repeat_call (x ∷ y ∷ z ∷ zs) ≡ throw Arity
repeat_many M.nil y z zs = refl
repeat_many (M.bool b) y z zs = refl
repeat_many (M.keyword k) y z zs = refl
repeat_many (M.text t) y z zs = refl
repeat_many (M.vector ys) y z zs = refl
repeat_many (M.function t ys) y z zs = refl
repeat_many (M.reduced v) y z zs = refl
repeat_many (M.cell m) y z zs = refl
repeat_many M.empty y z zs = refl
repeat_many (M.cons ys v) y z zs = refl
repeat_many (M.chunk ys v) y z zs = refl
repeat_many (M.range a b o) y z zs = refl
repeat_many (M.vec_seq ys i) y z zs = refl
repeat_many (M.int n) y z zs = refl

pub repeat_cell : (args : List Value) (r : Next State) → length args ≡ 1 → Takes (lazily O.Repeat (plains args)) r → Takes (repeat_call (plains args)) r
repeat_cell [] r e h = absurd cc
repeat_cell (x ∷ []) r e h = h
repeat_cell (x ∷ y ∷ ys) r e h = absurd (omega (arith, e))

pub repeat_takes : (args : List Value) → length args ≡ 1 → takes O.Repeat (map sight_of args) ≡ true
repeat_takes [] e = absurd cc
repeat_takes (x ∷ []) e = refl
repeat_takes (x ∷ y ∷ ys) e = absurd (omega (arith, e))

pub repeat_wrong_count : (args : List Value) (r : Next State) → length args ≡ 2 → counted (plains args) ≡ None → Takes (throw BadType) r → Takes (repeat_call (plains args)) r
repeat_wrong_count [] r l e h = absurd cc
repeat_wrong_count (x ∷ []) r l e h = absurd (omega (arith, l))
repeat_wrong_count (x ∷ y ∷ []) r l e h = takes_same (sym (repeat_wrong (plain x) (plain y) (counted_none (plain x) (plain y) e))) h
repeat_wrong_count (x ∷ y ∷ z ∷ zs) r l e h = absurd (omega (arith, l))

pub repeat_arity : (args : List Value) (r : Next State) → length args ≢ 1 → length args ≢ 2 → Takes (throw Arity) r → Takes (repeat_call (plains args)) r
repeat_arity [] r n m h = h
repeat_arity (x ∷ []) r n m h = absurd (n refl)
repeat_arity (x ∷ y ∷ []) r n m h = absurd (m refl)
repeat_arity (x ∷ y ∷ z ∷ zs) r n m h = takes_same (sym (repeat_many (plain x) (plain y) (plain z) (plains zs))) h

pub repeat_makes : (n m : ℤ) (x : M.Value ℕ) (args : List Value) (t : Term) (r : Next State) → m ≡ n → plains args ≡ x ∷ [] → plain_term t ≡ record { op = O.Repeat; args = plains args } → Takes (make Lazy (plain_term t) (λ i. lazily O.Take (M.int m ∷ M.cell i ∷ []))) r → Takes (repeat_call (M.int n ∷ x ∷ [])) r
repeat_makes n m x args t r e q d h =
    let p : plain_term t ≡ record { op = O.Repeat; args = x ∷ [] } = d ∙ ap (λ l. record { op = O.Repeat; args = l }) q in
    takes_same (λ i. make Lazy (p i) (λ c. lazily O.Take (M.int (e i) ∷ M.cell c ∷ []))) h

-- ## `cycle`

pub cycle_arity : (args : List Value) (r : Next State) → length args ≢ 1 → Takes (throw Arity) r → Takes (cycle_call (plains args)) r
cycle_arity [] r n h = h
cycle_arity (x ∷ []) r n h = absurd (n refl)
cycle_arity (x ∷ y ∷ ys) r n h = h

pub cycle_makes : (args : List Value) (x y : Value) (t : Term) (r : Next State) → args ≡ x ∷ [] → y ≡ x → plain_term t ≡ record { op = O.Cycle; args = plain x ∷ plain y ∷ [] } → Takes (make Lazy (plain_term t) (λ m. give (M.cell m))) r → Takes (cycle_call (plains args)) r
cycle_makes args x y t r e q d h =
    let p : plain_term t ≡ record { op = O.Cycle; args = plain x ∷ plain x ∷ [] } = d ∙ ap (λ z. record { op = O.Cycle; args = plain x ∷ plain z ∷ [] }) q in
    takes_same (ap (λ w. make Lazy w (λ m. give (M.cell m))) p ∙ sym (ap (λ l. cycle_call (plains l)) e)) h

abbrev pub range_plan : List (M.Value ℕ) → Plan ℕ
range_plan xs = range_call xs

abbrev pub repeat_plan : List (M.Value ℕ) → Plan ℕ
repeat_plan xs = repeat_call xs

-- A turn that takes the node of the code takes that of the row, whose values are the same.
use Rattle.std.specs.declared.result.Result.{Result}
use Rattle.std.proofs.Common.{◌≡◌, ◌≢◌, ℕ, ◌+◌, ◌<◌, ◌≤◌, ℤ, pos, ◌-ℤ◌, ◌<ℤ◌, ◌≤ℤ◌, int_le, int_lt, true, false, List, [], ◌∷◌, ◌++◌, length, drop, Option, Some, None, Ok, Err, IfOk, refl, ap, sym, ◌∙◌, rules, arith}
use Rattle.seq_base.specs.declared.thrown.Thrown.TheVariants.{Arity, BadType, Index}
use Rattle.seq_values.specs.Model as M
use Rattle.seq_values.specs.Model.{nil, bool, int, keyword, text, vector, function, reduced, cell, empty, cons, chunk, range, vec_seq, no_values, ◌&◌}
use Rattle.seq_values.specs.Plain.{plain, plains}
use Rattle.seq_values.specs.declared.value.Value.{Value}
use Rattle.seq_values.specs.WellFormedTerms.{takes}
use Rattle.seq_values.specs.declared.words.Builtin.{Builtin}
use Rattle.seq_values.specs.declared.words.Kind.{Kind}
use Rattle.seq_values.specs.declared.words.Kind.TheVariants.{Lazy, Future}
use Rattle.seq_values.specs.declared.words.Op.{Op}
use Rattle.seq_values.specs.declared.words.Op.TheVariants as O
use Rattle.seq_plan.specs.Plan.{Plan, visit, ask, seq, go, give, throw, ahead_from}
use Rattle.seq_plan.specs.Arguments.{at_least_one}
use Rattle.seq_plan.specs.Nodes.{first_of, rest_of, chunk_of, give_value, make_term, ask_each, found, now}
use Rattle.seq_plan.specs.Lists.{first_and, items_and}
use Rattle.seq_plan.specs.Cursors.{stands}
use Rattle.seq_plan.specs.WellFormed.{sights}
use Rattle.seq_plan.specs.declared.cursor.Cursor.{Cursor}
use Rattle.seq_plan.proofs.CursorLemmas.{cursor_found}
use Rattle.seq_turns.specs.Turning.{Takes}
use Rattle.seq_turns.specs.declared.next.Next.{Next}
use Rattle.seq_turns.specs.declared.proper.Proper.{Proper}
use Rattle.seq_turns.proofs.Taking.{takes_same, takes_round, takes_found, some_cursor}
use Rattle.ahead_rows.specs.Table.{ask_of, step, start_each, rets_on, derefs_on, ahead_rule, seque_rule, seque_call, pmap_call, near_rule, ahead_term, ahead_call}
use Rattle.ahead_rules.specs.Left.{running, left_seq, left_step, left_value, left_part, stepped}
use Rattle.seq_turns.specs.Arguments.{part_in, integer_of}
use Rattle.ahead_rules.specs.declared.state.State.{State}
use Rattle.ahead_rules.specs.declared.state.Size.{Size}
use Rattle.ahead_rules.specs.declared.state.Sequence.{Sequence}
use Rattle.ahead_rules.specs.declared.state.Stepping.{Stepping}
use Rattle.ahead_rules.specs.declared.state.ChunkLeft.{ChunkLeft}
use Rattle.ahead_rules.specs.declared.state.AtSeq.TheVariants as Q
use Rattle.ahead_rules.specs.declared.state.AtStep.TheVariants as T
use Rattle.ahead_rules.specs.declared.state.AtValue.TheVariants as V
use Rattle.ahead_rules.specs.declared.state.AtPart.{AtPart}
use Rattle.ahead_rules.specs.declared.state.AtPart.TheVariants as P

-- ## Rets

pub rets_single : (g rest : Proper) (s : M.Value ℕ) (called first : Value) (args : List Value) (r : Next State) → called ≡ g.value → plain first ≡ first_of s → plain rest.value ≡ rest_of s → plains args ≡ plain called ∷ plain first ∷ [] → Takes running (make_term Future O.Call (plains args) (λ m. left_part (P.RetsOne g rest) m)) r → Takes running (rets_on (plain g.value) s None) r
rets_single g rest s called first args r e1 e2 e3 e4 h =
    let e : plains args ≡ plain g.value ∷ first_of s ∷ [] = e4 ∙ (λ i. plain (e1 i) ∷ e2 i ∷ []) in
    takes_same running (λ i. make_term Future O.Call (e i) (λ m. first_and (cell m) O.Rets (plain g.value ∷ e3 i ∷ []))) h

pub rets_ends : (g rest : Proper) (ys : List (M.Value ℕ)) (all : List Value) (args : List Value) (r : Next State) → all ≡ [] → plains args ≡ plain g.value ∷ plain rest.value ∷ [] → Takes running (items_and ys O.Rets (plains args)) r → Takes running (start_each (plain g.value) ys (plains all) (λ zs. items_and zs O.Rets (plain g.value ∷ plain rest.value ∷ []))) r
rets_ends g rest ys all args r e1 e2 h = rw e1 (takes_same running (ap (items_and ys O.Rets) e2) h)

pub rets_call : (g rest : Proper) (answers : List Value) (items : List Value) (at : ℕ) (c : ChunkLeft) (called x : Value) (args : List Value) (r : Next State) → drop at items ≡ x ∷ drop (at + 1) items → c.answers.items.items ≡ answers → c.items.items ≡ items → c.at ≡ at + 1 → called ≡ g.value → plains args ≡ plain called ∷ plain x ∷ [] → Takes running (make_term Future O.Call (plains args) (λ m. left_part (P.Rets g c rest) m)) r → Takes running (start_each (plain g.value) (plains answers) (plains (drop at items)) (λ ys. items_and ys O.Rets (plain g.value ∷ plain rest.value ∷ []))) r
rets_call g rest answers items at c called x args r e1 e2 e3 e4 e5 e6 h =
    let e : plains args ≡ plain g.value ∷ plain x ∷ [] = e6 ∙ (λ i. plain (e5 i) ∷ plain x ∷ []) in
    rw e1 (takes_same running (λ i. make_term Future O.Call (e i) (λ m. start_each (plain g.value) (plains (e2 i) ++ cell m ∷ []) (plains (drop (e4 i) (e3 i))) (λ ys. items_and ys O.Rets (plain g.value ∷ plain rest.value ∷ [])))) h)

pub rets_answer : (g rest : Proper) (c : ChunkLeft) (m : ℕ) (p : Value) (ys : List Value) (r : Next State) → plain p ≡ cell m → plains ys ≡ plains c.answers.items.items ++ plain p ∷ [] → Takes running (start_each (plain g.value) (plains ys) (plains (drop c.at c.items.items)) (λ zs. items_and zs O.Rets (plain g.value ∷ plain rest.value ∷ []))) r → Takes running (left_part (P.Rets g c rest) m) r
rets_answer g rest c m p ys r e1 e2 h =
    let e : plains ys ≡ plains c.answers.items.items ++ cell m ∷ [] = e2 ∙ ap (λ v. plains c.answers.items.items ++ v ∷ []) e1 in
    takes_same running (ap (λ l. start_each (plain g.value) l (plains (drop c.at c.items.items)) (λ zs. items_and zs O.Rets (plain g.value ∷ plain rest.value ∷ []))) e) h

pub rets_one_answer : (g rest p : Proper) (m : ℕ) (args : List Value) (r : Next State) → plain p.value ≡ cell m → plains args ≡ plain g.value ∷ plain rest.value ∷ [] → Takes running (make_term Lazy O.Rets (plains args) (λ k. left_part (P.One p) k)) r → Takes running (left_part (P.RetsOne g rest) m) r
rets_one_answer g rest p m args r e1 e2 h = takes_same running (λ i. make_term Lazy O.Rets (e2 i) (λ k. give_value (cons (e1 i & no_values) (cell k)))) h

-- ## Derefs

pub derefs_ends : (rest : Value) (ys : List (M.Value ℕ)) (all args : List Value) (r : Next State) → all ≡ [] → plains args ≡ plain rest ∷ [] → Takes running (items_and ys O.Derefs (plains args)) r → Takes running (ask_each ys (plains all) (λ zs. items_and zs O.Derefs (plain rest ∷ []))) r
derefs_ends rest ys all args r e1 e2 h = rw e1 (takes_same running (ap (items_and ys O.Derefs) e2) h)

part_is : (v : M.Value ℕ) (m : ℕ) → part_in v ≡ Some m → v ≡ cell m
part_is (cell c) m e = let p : c ≡ m = cc in ap cell p
part_is nil m e = absurd cc
part_is (bool b) m e = absurd cc
part_is (int n) m e = absurd cc
part_is (keyword k) m e = absurd cc
part_is (text t) m e = absurd cc
part_is (vector xs) m e = absurd cc
part_is (function t xs) m e = absurd cc
part_is (reduced v) m e = absurd cc
part_is empty m e = absurd cc
part_is (cons xs r) m e = absurd cc
part_is (chunk xs r) m e = absurd cc
part_is (range a b c) m e = absurd cc
part_is (vec_seq xs a) m e = absurd cc

no_part_each : (v : M.Value ℕ) (ys vs : List (M.Value ℕ)) (k : List (M.Value ℕ) → Plan ℕ) → part_in v ≡ None → ask_each ys (v ∷ vs) k ≡ throw BadType
no_part_each (cell c) ys vs k e = absurd cc
no_part_each nil ys vs k e = refl
no_part_each (bool b) ys vs k e = refl
no_part_each (int n) ys vs k e = refl
no_part_each (keyword n) ys vs k e = refl
no_part_each (text t) ys vs k e = refl
no_part_each (vector xs) ys vs k e = refl
no_part_each (function t xs) ys vs k e = refl
no_part_each (reduced v) ys vs k e = refl
no_part_each empty ys vs k e = refl
no_part_each (cons xs r) ys vs k e = refl
no_part_each (chunk xs r) ys vs k e = refl
no_part_each (range a b c) ys vs k e = refl
no_part_each (vec_seq xs a) ys vs k e = refl

no_part_of : (v : M.Value ℕ) (k : M.Value ℕ → Plan ℕ) → part_in v ≡ None → ask_of v k ≡ throw BadType
no_part_of (cell c) k e = absurd cc
no_part_of nil k e = refl
no_part_of (bool b) k e = refl
no_part_of (int n) k e = refl
no_part_of (keyword n) k e = refl
no_part_of (text t) k e = refl
no_part_of (vector xs) k e = refl
no_part_of (function t xs) k e = refl
no_part_of (reduced v) k e = refl
no_part_of empty k e = refl
no_part_of (cons xs r) k e = refl
no_part_of (chunk xs r) k e = refl
no_part_of (range a b c) k e = refl
no_part_of (vec_seq xs a) k e = refl

-- a value that is asked is a part, or throws
pub asks_part : (v : M.Value ℕ) (m : ℕ) (k : M.Value ℕ → Plan ℕ) (r : Next State) → part_in v ≡ Some m → Takes running (ask m k) r → Takes running (ask_of v k) r
asks_part v m k r e h = takes_same running (ap (λ x. ask_of x k) (sym (part_is v m e))) h

pub asks_none : (v : M.Value ℕ) (k : M.Value ℕ → Plan ℕ) (r : Next State) → part_in v ≡ None → Takes running (throw BadType) r → Takes running (ask_of v k) r
asks_none v k r e h = takes_same running (sym (no_part_of v k e)) h

pub each_part : (x : Value) (xs all : List Value) (m : ℕ) (ys : List (M.Value ℕ)) (k : List (M.Value ℕ) → Plan ℕ) (r : Next State) → all ≡ x ∷ xs → part_in (plain x) ≡ Some m → Takes running (ask m (λ y. ask_each (ys ++ y ∷ []) (plains xs) k)) r → Takes running (ask_each ys (plains all) k) r
each_part x xs all m ys k r e1 e2 h = rw e1 (takes_same running (ap (λ v. ask_each ys (v ∷ plains xs) k) (sym (part_is (plain x) m e2))) h)

pub each_none : (x : Value) (xs all : List Value) (ys : List (M.Value ℕ)) (k : List (M.Value ℕ) → Plan ℕ) (r : Next State) → all ≡ x ∷ xs → part_in (plain x) ≡ None → Takes running (throw BadType) r → Takes running (ask_each ys (plains all) k) r
each_none x xs all ys k r e1 e2 h = rw e1 (takes_same running (sym (no_part_each (plain x) ys (plains xs) k e2)) h)

pub derefs_ask : (rest : Sequence) (answers items : List Value) (at m : ℕ) (c : ChunkLeft) (r : Next State) → c.answers.items.items ≡ answers → c.items.items ≡ items → c.at ≡ at + 1 → Takes running (ask m (λ y. left_value (V.Derefs c rest) y)) r → Takes running (ask m (λ y. ask_each (plains answers ++ y ∷ []) (plains (drop (at + 1) items)) (λ ys. items_and ys O.Derefs (plain rest.value ∷ [])))) r
derefs_ask rest answers items at m c r e1 e2 e3 h = takes_same running (λ i. ask m (λ y. ask_each (plains (e1 i) ++ y ∷ []) (plains (drop (e3 i) (e2 i))) (λ ys. items_and ys O.Derefs (plain rest.value ∷ [])))) h

pub derefs_answer : (rest : Sequence) (c : ChunkLeft) (y : Value) (ys : List Value) (r : Next State) → plains ys ≡ plains c.answers.items.items ++ plain y ∷ [] → Takes running (ask_each (plains ys) (plains (drop c.at c.items.items)) (λ zs. items_and zs O.Derefs (plain rest.value ∷ []))) r → Takes running (left_value (V.Derefs c rest) (plain y)) r
derefs_answer rest c y ys r e h = takes_same running (ap (λ l. ask_each l (plains (drop c.at c.items.items)) (λ zs. items_and zs O.Derefs (plain rest.value ∷ []))) e) h

-- of a single element
pub derefs_single : (rest : Sequence) (s : M.Value ℕ) (first : Value) (m : ℕ) (r : Next State) → plain first ≡ first_of s → plain rest.value ≡ rest_of s → part_in (plain first) ≡ Some m → Takes running (ask m (λ y. left_value (V.DerefsOne rest) y)) r → Takes running (derefs_on s None) r
derefs_single rest s first m r e1 e2 e3 h =
    let e : cell m ≡ first_of s = sym (part_is (plain first) m e3) ∙ e1 in
    takes_same running (λ i. ask_of (e i) (λ y. first_and y O.Derefs (e2 i ∷ []))) h

pub derefs_no_single : (s : M.Value ℕ) (first : Value) (r : Next State) → plain first ≡ first_of s → part_in (plain first) ≡ None → Takes running (throw BadType) r → Takes running (derefs_on s None) r
derefs_no_single s first r e1 e2 h = asks_none (first_of s) _ r (ap part_in (sym e1) ∙ e2) h

-- ## Making

-- a part is made
pub part_made : (next : AtPart) (kind : Kind) (op : Op) (args : List Value) (xs : List (M.Value ℕ)) (k : ℕ → Plan ℕ) (r : Next State) → plains args ≡ xs → left_part next ≡ k → Takes running (make_term kind op (plains args) (λ m. left_part next m)) r → Takes running (make_term kind op xs k) r
part_made next kind op args xs k r e1 e2 h = takes_same running (λ i. make_term kind op (e1 i) (e2 i)) h

-- ## What `seq` finds

pub seq_now : (v w : Value) (s : M.Value ℕ) (k : M.Value ℕ → Plan ℕ) (r : Next State) → w ≡ v → found (plain w) ≡ now s → Takes running (k s) r → Takes running (seq (plain v) k) r
seq_now v w s k r e f h = takes_found running (plain v) s k (ap (λ x. found (plain x)) (sym e) ∙ f) h

pub seq_ask : (v w x : Value) (k : M.Value ℕ → Plan ℕ) (r : Next State) → w ≡ v → plain x ≡ plain w → Takes running (seq (plain x) k) r → Takes running (seq (plain v) k) r
seq_ask v w x k r e f h = takes_same running (ap (λ y. seq y k) (f ∙ ap plain e)) h

pub rest_now : (v t s : M.Value ℕ) (k : M.Value ℕ → Plan ℕ) (r : Next State) → t ≡ v → found t ≡ now s → Takes running (k s) r → Takes running (seq v k) r
rest_now v t s k r e f h = takes_found running v s k (ap found (sym e) ∙ f) h

pub rest_ask : (v t x : M.Value ℕ) (k : M.Value ℕ → Plan ℕ) (r : Next State) → t ≡ v → x ≡ t → Takes running (seq x k) r → Takes running (seq v k) r
rest_ask v t x k r e f h = takes_same running (ap (λ y. seq y k) (f ∙ e)) h

-- ## Where a seq is there

pub rets_takes : (g : Proper) (z : Size) (c : Cursor) (o : Option (List (M.Value ℕ) × M.Value ℕ)) (r : Next State) → o ≡ chunk_of z.elements (stands c) → Takes running (rets_on (plain g.value) (stands c) o) r → Takes running (left_seq (Q.Rets g z) (stands c)) r
rets_takes g z c o r e h = rw (some_cursor c, ← e) h

pub rets_one_takes : (g : Proper) (z : Size) (c d : Cursor) (r : Next State) → None ≡ chunk_of z.elements (stands c) → stands d ≡ stands c → Takes running (rets_on (plain g.value) (stands d) None) r → Takes running (left_seq (Q.Rets g z) (stands c)) r
rets_one_takes g z c d r e b h = rets_takes g z c None r e (takes_same running (ap (λ s. rets_on (plain g.value) s None) b) h)

pub derefs_takes : (z : Size) (c : Cursor) (o : Option (List (M.Value ℕ) × M.Value ℕ)) (r : Next State) → o ≡ chunk_of z.elements (stands c) → Takes running (derefs_on (stands c) o) r → Takes running (left_seq (Q.Derefs z) (stands c)) r
derefs_takes z c o r e h = rw (some_cursor c, ← e) h

pub derefs_one_takes : (z : Size) (c d : Cursor) (r : Next State) → None ≡ chunk_of z.elements (stands c) → stands d ≡ stands c → Takes running (derefs_on (stands d) None) r → Takes running (left_seq (Q.Derefs z) (stands c)) r
derefs_one_takes z c d r e b h = derefs_takes z c None r e (takes_same running (ap (λ s. derefs_on s None) b) h)

pub each_begun : (k : List (M.Value ℕ) → Plan ℕ) (none : List Value) (r : Next State) → none ≡ [] → Takes running (k (plains none)) r → Takes running (k []) r
each_begun k none r e h = takes_same running (ap (λ l. k (plains l)) e) h

pub step_takes : (x : Proper) (xs vs fs : Sequence) (c : Cursor) (m : ℕ) (r : Next State) → part_in (plain x.value) ≡ Some m → Takes running (ask m (λ y. step (plain xs.value) (rest_of (stands c)) (λ k. give_value (cons (y & no_values) (cell k))))) r → Takes running (left_seq (Q.Step x xs vs) (stands c)) r
step_takes x xs vs fs c m r e h = rw (some_cursor c) (asks_part (plain x.value) m _ r e h)

pub step_throws : (x : Proper) (xs vs : Sequence) (c : Cursor) (r : Next State) → part_in (plain x.value) ≡ None → Takes running (throw BadType) r → Takes running (left_seq (Q.Step x xs vs) (stands c)) r
step_throws x xs vs c r e h = rw (some_cursor c) (asks_none (plain x.value) _ r e h)

pub step_asked : (xs fs : Sequence) (s : M.Value ℕ) (m : ℕ) (r : Next State) → plain fs.value ≡ rest_of s → Takes running (ask m (λ y. left_value (V.Step xs fs) y)) r → Takes running (ask m (λ y. step (plain xs.value) (rest_of s) (λ k. give_value (cons (y & no_values) (cell k))))) r
step_asked xs fs s m r e h = takes_same running (λ i. ask m (λ y. step (plain xs.value) (e i) (λ k. give_value (cons (y & no_values) (cell k))))) h

-- the seq of what comes after the first
pub first_now : (g : Stepping) (x : Proper) (c : Cursor) (t s : M.Value ℕ) (r : Next State) → plain x.value ≡ first_of (stands c) → t ≡ rest_of (stands c) → found t ≡ now s → Takes running (left_seq (Q.Others x g) s) r → Takes running (left_seq (Q.First g) (stands c)) r
first_now g x c t s r e1 e2 f h = rw (some_cursor c) (rest_now (rest_of (stands c)) t s _ r e2 f (takes_same running (ap (λ v. make_term Lazy O.Step (v ∷ s ∷ plain g.values.value ∷ plain g.further.value ∷ []) (stepped g.before)) e1) h))

pub first_ask : (g : Stepping) (x y : Proper) (c : Cursor) (t : M.Value ℕ) (r : Next State) → plain x.value ≡ first_of (stands c) → t ≡ rest_of (stands c) → plain y.value ≡ t → Takes running (seq (plain y.value) (λ s. left_seq (Q.Others x g) s)) r → Takes running (left_seq (Q.First g) (stands c)) r
first_ask g x y c t r e1 e2 f h = rw (some_cursor c) (takes_same running (λ i. seq ((f ∙ e2) i) (λ s. make_term Lazy O.Step (e1 i ∷ s ∷ plain g.values.value ∷ plain g.further.value ∷ []) (stepped g.before))) h)

pub nothing_first : (g : Stepping) (x : Proper) (r : Next State) → plain x.value ≡ nil → Takes running (left_seq (Q.Others x g) nil) r → Takes running (left_seq (Q.First g) nil) r
nothing_first g x r e h = takes_same running (ap (λ v. make_term Lazy O.Step (v ∷ nil ∷ plain g.values.value ∷ plain g.further.value ∷ []) (stepped g.before)) e) h

-- the next step is made
pub others_made : (g : Stepping) (x : Proper) (s : M.Value ℕ) (o vs fs : Value) (next : AtPart) (args : List Value) (r : Next State) → plain o ≡ s → vs ≡ g.values.value → fs ≡ g.further.value → plains args ≡ plain x.value ∷ plain o ∷ plain vs ∷ plain fs ∷ [] → left_part next ≡ stepped g.before → Takes running (make_term Lazy O.Step (plains args) (λ m. left_part next m)) r → Takes running (left_seq (Q.Others x g) s) r
others_made g x s o vs fs next args r e1 e2 e3 e4 e5 h =
    let e : plains args ≡ plain x.value ∷ s ∷ plain g.values.value ∷ plain g.further.value ∷ [] = e4 ∙ (λ i. plain x.value ∷ e1 i ∷ plain (e2 i) ∷ plain (e3 i) ∷ []) in
    part_made next Lazy O.Step args _ _ r e e5 h

-- a step with an answer before it, and none
pub steps_on : (g : Stepping) (vs fs : M.Value ℕ) (k : ℕ → Plan ℕ) (r : Next State) → plain g.values.value ≡ vs → plain g.further.value ≡ fs → stepped g.before ≡ k → Takes running (step (plain g.values.value) (plain g.further.value) (stepped g.before)) r → Takes running (step vs fs k) r
steps_on g vs fs k r e1 e2 e3 h = takes_same running (λ i. step (e1 i) (e2 i) (e3 i)) h

-- ## seque

-- a count that is handed on
pub handed : (p : ℤ → Plan ℕ) (n m : ℤ) (r : Next State) → m ≡ n → Takes running (p m) r → Takes running (p n) r
handed p n m r e h = takes_same running (ap p e) h

pub handed_ok : {E : Type 0} (p : ℤ → Plan ℕ) (n m : ℤ) (x : Result (Next State) E) → m ≡ n → IfOk x (λ r. Takes running (p m) r) → IfOk x (λ r. Takes running (p n) r)
handed_ok p n m (Ok r) e h = handed p n m r e h
handed_ok p n m (Err w) e h = tt

pub counted : (n : ℤ) (p : Plan ℕ) (r : Next State) → pos 1 ≤ℤ n → Takes running p r → Takes running (at_least_one n p) r
counted n p r b h = let e : int_lt n (pos 1) ≡ false = search (rules, arith) in rw e h

pub uncounted : (n : ℤ) (p : Plan ℕ) (r : Next State) → n <ℤ pos 1 → Takes running (throw Index) r → Takes running (at_least_one n p) r
uncounted n p r b h = let e : int_lt n (pos 1) ≡ true = search (rules, arith) in rw e h

pub ahead_fits : (n : ℤ) (x y : Value) (args : List Value) → pos 0 <ℤ n → plain x ≡ int n → plains args ≡ plain x ∷ plain y ∷ [] → takes O.Ahead (sights (M.values (plains args))) ≡ true
ahead_fits n x y args b e f = let p : int_lt (pos 0) n ≡ true = search (rules, arith) in rw (f, e) p

-- ## Ahead

pub ahead_none : (n : ℤ) (c : Proper) (r : Next State) → n ≤ℤ pos 0 → Takes running (give (plain c.value)) r → Takes running (ahead_rule n (plain c.value)) r
ahead_none n c r b h = let e : int_le n (pos 0) ≡ true = search (rules, arith) in rw e h

pub ahead_some : (n : ℤ) (c : Proper) (r : Next State) → pos 0 <ℤ n → Takes running (seq (plain c.value) (λ s. go ahead_from (int n ∷ plain c.value ∷ s ∷ []) give)) r → Takes running (ahead_rule n (plain c.value)) r
ahead_some n c r b h = let e : int_le n (pos 0) ≡ false = search (rules, arith) in rw e h

pub ahead_over : (n : ℤ) (c : Proper) (r : Next State) → Takes running (give (plain c.value)) r → Takes running (left_seq (Q.Ahead n c) nil) r
ahead_over n c r h = takes_round running ahead_from (int n ∷ plain c.value ∷ nil ∷ []) refl h

on_round : (n : ℤ) (v : M.Value ℕ) (c : Cursor) (r : Next State) → Takes running (visit (left_step (T.Ahead n c))) r → Takes running (go ahead_from (int n ∷ v ∷ stands c ∷ []) give) r
on_round n v c r h = takes_round running ahead_from (int n ∷ v ∷ stands c ∷ []) refl (rw (some_cursor c) h)

pub ahead_visit : (n : ℤ) (v : Proper) (c : Cursor) (r : Next State) → Takes running (visit (left_step (T.Ahead n c))) r → Takes running (left_seq (Q.Ahead n v) (stands c)) r
ahead_visit n v c r h = on_round n (plain v.value) c r h

pub within_visit : (n : ℤ) (c : Cursor) (r : Next State) → Takes running (visit (left_step (T.Ahead n c))) r → Takes running (seq (stands c) (λ s. go ahead_from (int n ∷ stands c ∷ s ∷ []) give)) r
within_visit n c r h = takes_found running (stands c) (stands c) _ (cursor_found c) (on_round n (stands c) c r h)

pub last_taken : (n : ℤ) (c : Cursor) (t : M.Value ℕ) (r : Next State) → n ≤ℤ pos 1 → t ≡ rest_of (stands c) → Takes running (give t) r → Takes running (left_step (T.Ahead n c)) r
last_taken n c t r b e h = let p : int_le n (pos 1) ≡ true = search (rules, arith) in rw p (takes_same running (ap give e) h)

pub more_taken : (n m : ℤ) (c : Cursor) (t : M.Value ℕ) (r : Next State) → pos 1 <ℤ n → m ≡ n -ℤ pos 1 → t ≡ rest_of (stands c) → Takes running (seq t (λ s. go ahead_from (int m ∷ t ∷ s ∷ []) give)) r → Takes running (left_step (T.Ahead n c)) r
more_taken n m c t r b e f h = let p : int_le n (pos 1) ≡ false = search (rules, arith) in rw p (takes_same running (λ i. seq (f i) (λ s. go ahead_from (int (e i) ∷ f i ∷ s ∷ []) give)) h)

-- ## Near

pub near_takes : (a : ℕ) (c : Cursor) (x rest : Proper) (p : Value) (args : List Value) (r : Next State) → plain x.value ≡ first_of (stands c) → plain rest.value ≡ rest_of (stands c) → plain p ≡ cell a → plains args ≡ plain p ∷ [] → Takes running (make_term Future O.AheadOf (plains args) (λ m. left_part (P.Near x rest) m)) r → Takes running (left_seq (Q.Near a) (stands c)) r
near_takes a c x rest p args r e1 e2 e3 e4 h =
    let e : plains args ≡ cell a ∷ [] = e4 ∙ ap (λ v. v ∷ []) e3 in
    rw (some_cursor c) (takes_same running (λ i. make_term Future O.AheadOf (e i) (λ b. first_and (e1 i) O.Near (e2 i ∷ cell b ∷ []))) h)

-- ## Beginning

number_is : (v : M.Value ℕ) (n : ℤ) → integer_of v ≡ Some n → v ≡ int n
number_is (int m) n e = let p : m ≡ n = cc in ap int p
number_is (cell c) m e = absurd cc
number_is nil m e = absurd cc
number_is (bool b) m e = absurd cc
number_is (keyword k) m e = absurd cc
number_is (text t) m e = absurd cc
number_is (vector xs) m e = absurd cc
number_is (function t xs) m e = absurd cc
number_is (reduced v) m e = absurd cc
number_is empty m e = absurd cc
number_is (cons xs r) m e = absurd cc
number_is (chunk xs r) m e = absurd cc
number_is (range a b c) m e = absurd cc
number_is (vec_seq xs a) m e = absurd cc

pub seque_number : (v c : M.Value ℕ) (n : ℤ) (r : Next State) → integer_of v ≡ Some n → Takes running (at_least_one n (seque_rule n c)) r → Takes running (seque_call (v ∷ c ∷ [])) r
seque_number v c n r e h = takes_same running (ap (λ x. seque_call (x ∷ c ∷ [])) (sym (number_is v n e))) h

no_number_call : (v c : M.Value ℕ) → integer_of v ≡ None → seque_call (v ∷ c ∷ []) ≡ throw BadType
no_number_call (int m) c e = absurd cc
no_number_call (cell m) c e = refl
no_number_call nil c e = refl
no_number_call (bool b) c e = refl
no_number_call (keyword k) c e = refl
no_number_call (text t) c e = refl
no_number_call (vector xs) c e = refl
no_number_call (function t xs) c e = refl
no_number_call (reduced v) c e = refl
no_number_call empty c e = refl
no_number_call (cons xs r) c e = refl
no_number_call (chunk xs r) c e = refl
no_number_call (range a b d) c e = refl
no_number_call (vec_seq xs a) c e = refl

pub seque_no_number : (v c : M.Value ℕ) (r : Next State) → integer_of v ≡ None → Takes running (throw BadType) r → Takes running (seque_call (v ∷ c ∷ [])) r
seque_no_number v c r e h = takes_same running (sym (no_number_call v c e)) h

pub ahead_number : (size : ℕ) (v c : M.Value ℕ) (n : ℤ) (r : Next State) → integer_of v ≡ Some n → Takes running (ahead_rule n c) r → Takes running (ahead_term size O.Ahead (v ∷ c ∷ [])) r
ahead_number size v c n r e h = takes_same running (ap (λ x. ahead_term size O.Ahead (x ∷ c ∷ [])) (sym (number_is v n e))) h

no_number_term : (size : ℕ) (v c : M.Value ℕ) → integer_of v ≡ None → ahead_term size O.Ahead (v ∷ c ∷ []) ≡ throw BadType
no_number_term size (int m) c e = absurd cc
no_number_term size (cell m) c e = refl
no_number_term size nil c e = refl
no_number_term size (bool b) c e = refl
no_number_term size (keyword k) c e = refl
no_number_term size (text t) c e = refl
no_number_term size (vector xs) c e = refl
no_number_term size (function t xs) c e = refl
no_number_term size (reduced v) c e = refl
no_number_term size empty c e = refl
no_number_term size (cons xs r) c e = refl
no_number_term size (chunk xs r) c e = refl
no_number_term size (range a b d) c e = refl
no_number_term size (vec_seq xs a) c e = refl

pub ahead_no_number : (size : ℕ) (v c : M.Value ℕ) (r : Next State) → integer_of v ≡ None → Takes running (throw BadType) r → Takes running (ahead_term size O.Ahead (v ∷ c ∷ [])) r
ahead_no_number size v c r e h = takes_same running (sym (no_number_term size v c e)) h

pub near_part_takes : (size : ℕ) (c a : M.Value ℕ) (m : ℕ) (r : Next State) → part_in a ≡ Some m → Takes running (near_rule c (cell m)) r → Takes running (ahead_term size O.Near (c ∷ a ∷ [])) r
near_part_takes size c a m r e h = takes_same running (ap (near_rule c) (sym (part_is a m e))) h

-- the arguments that were read are those of the row
pub term_of_args : (size : ℕ) (op : Op) (xs ys : List Value) (r : Next State) → xs ≡ ys → Takes running (ahead_term size op (plains ys)) r → Takes running (ahead_term size op (plains xs)) r
term_of_args size op xs ys r e h = takes_same running (ap (λ l. ahead_term size op (plains l)) (sym e)) h

pub call_of_args : (processors : ℕ) (word : Builtin) (xs ys : List Value) (r : Next State) → xs ≡ ys → Takes running (ahead_call processors word (plains ys)) r → Takes running (ahead_call processors word (plains xs)) r
call_of_args processors word xs ys r e h = takes_same running (ap (λ l. ahead_call processors word (plains l)) (sym e)) h

pub pmap_misfit : (processors : ℕ) (xs : List Value) (r : Next State) → length xs ≢ 2 → Takes running (throw Arity) r → Takes running (pmap_call processors (plains xs)) r
pmap_misfit processors [] r n h = h
pmap_misfit processors (x ∷ []) r n h = h
pmap_misfit processors (x ∷ y ∷ []) r n h = absurd (n refl)
pmap_misfit processors (x ∷ y ∷ z ∷ zs) r n h = h

seque_long : (v : M.Value ℕ) (d e : M.Value ℕ) (xs : List (M.Value ℕ)) → seque_call (v ∷ d ∷ e ∷ xs) ≡ throw Arity
seque_long (int m) d e xs = refl
seque_long _ d e xs = refl

seque_short : (v : M.Value ℕ) → seque_call (v ∷ []) ≡ throw Arity
seque_short (int m) = refl
seque_short _ = refl

pub seque_misfit : (xs : List Value) (r : Next State) → length xs ≢ 2 → Takes running (throw Arity) r → Takes running (seque_call (plains xs)) r
seque_misfit [] r n h = h
seque_misfit (x ∷ []) r n h = takes_same running (sym (seque_short (plain x))) h
seque_misfit (x ∷ y ∷ []) r n h = absurd (n refl)
seque_misfit (x ∷ y ∷ z ∷ zs) r n h = takes_same running (sym (seque_long (plain x) (plain y) (plain z) (plains zs))) h

-- a rule that takes no chunk
pub each_size : {E : Type 0} (size : ℕ) (op : Op) (xs : List (M.Value ℕ)) (x : Result (Next State) E) → IfOk x (λ r. (n : ℕ) → Takes running (ahead_term n op xs) r) → IfOk x (λ r. Takes running (ahead_term size op xs) r)
each_size size op xs (Ok r) h = h size
each_size size op xs (Err e) h = tt

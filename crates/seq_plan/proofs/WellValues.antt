-- A value of the code is well formed if and only if the numbers that it keeps are right and the value that it stands for is well formed.
use Rattle.std.proofs.Common.{◌≡◌, ℕ, suc, nat_lt, nat_le, max, ℤ, int_lt, int_le, true, ◌&&◌, List, [], ◌∷◌, length, map, refl, ap, sym, ◌∙◌, subst, arith}
use Rattle.std.proofs.lemmas.Bool.Decides.{nat_tests}
use Rattle.seq_values.specs.Model as M
use Rattle.seq_values.specs.Sight.{kept_by_function, a_function}
use Rattle.seq_values.specs.Plain.{plain, plains, plain_term, node_step, value_step, function_step}
use Rattle.seq_values.specs.Depth.{keeps_depth, keep_depth}
use Rattle.seq_values.specs.WellFormed as W
use Rattle.seq_values.specs.WellFormedTerms.{takes, is_well_formed_term}
use Rattle.seq_values.specs.declared.words.Target.{Target}
use Rattle.seq_values.specs.declared.term.Term.{Term}
use Rattle.seq_values.specs.declared.value.Value.{Value, map-Value, roll-Value}
use Rattle.seq_values.specs.declared.value.Node.{Node, map-Node, roll-Node}
use Rattle.seq_values.specs.declared.value.FnValue.{FnValue, map-FnValue, roll-FnValue}
use Rattle.seq_values.specs.declared.value.Node.TheOpen.{Node-F, Value-F, FnValue-F}
use Rattle.seq_values.specs.declared.value.Node.TheFolds.{ind-Value, fold-Node, fold-FnValue, fold-roll-Node, fold-roll-Value, fold-roll-FnValue}
use Rattle.seq_plan.specs.Nodes.{deepest, depth, depths}
use Rattle.seq_plan.specs.Sound.{are_some, ends_cons, ends_chunk}
use Rattle.seq_plan.specs.WellFormed.{sight, sights, Shallow, Well, well_nil, well_bool, well_int, well_keyword, well_text, well_cell, well_empty, well_vector, well_function, well_reduced, well_cons, well_chunk, well_range, well_vec_seq, WellAll, well_none, well_more, WellList, well_end, well_item, WellTerm, well_term}
use Rattle.seq_plan.proofs.FitLemmas.{both, first_of_both, second_of_both}
use Rattle.seq_plan.proofs.ShallowLemmas.{one_less, left_of, right_of}
use Rattle.seq_plan.proofs.WellSounds.{well-shallow}
use Rattle.seq_plan.proofs.Depths.{depth_agrees}

abbrev plain_node : Node → M.Value ℕ
plain_node = fold-Node (M.Value ℕ) (M.Value ℕ) (M.Value ℕ) node_step value_step function_step

abbrev plain_function : FnValue → M.Value ℕ
plain_function = fold-FnValue (M.Value ℕ) (M.Value ℕ) (M.Value ℕ) node_step value_step function_step

not_none : (xs : List W.Seen) → nat_lt 0 (suc (length xs)) ≡ true
not_none xs = grind (arith, nat_tests)

-- what stands is well formed where it isn't too deep, the same is seen of both, and what is well formed stands
abbrev Stands : W.Seen → M.Value ℕ → Type 0
Stands s v = (s.stands ≡ true → Shallow v → Well v) × (s.sight ≡ sight v) × (Well v → s.stands ≡ true)

abbrev NodeStands : Node → Type 0
NodeStands n = Stands (W.seen_node n) (plain_node n)

abbrev ValueStands : Value → Type 0
ValueStands v = Stands (W.seen v) (plain v)

abbrev FunctionStands : FnValue → Type 0
FunctionStands f = Stands (W.seen_function f) (plain_function f)

abbrev With : (A : Type 0) → (A → Type 0) → Type 0
With A P = (a : A) × P a

abbrev NodeIn : Type 0
NodeIn = With Node NodeStands

abbrev ValueIn : Type 0
ValueIn = With Value ValueStands

abbrev FunctionIn : Type 0
FunctionIn = With FnValue FunctionStands

abbrev seen_of : List ValueIn → List W.Seen
seen_of hs = map W.seen (map (λ e. e.0) hs)

abbrev plain_of : List ValueIn → M.Values ℕ
plain_of hs = M.values (map plain (map (λ e. e.0) hs))

all_well : (hs : List ValueIn) → W.all_stand (seen_of hs) ≡ true → nat_le (depths (plain_of hs)) deepest ≡ true → WellAll (plain_of hs)
all_well [] e d = well_none
all_well (h ∷ hs) e d = well_more (h.1.0 (first_of_both _ _ e) (left_of _ _ deepest d)) (all_well hs (second_of_both ((W.seen h.0).stands) _ e) (right_of (depth (plain h.0)) _ deepest d))

all_back : (hs : List ValueIn) → WellAll (plain_of hs) → W.all_stand (seen_of hs) ≡ true
all_back [] w = refl
all_back (h ∷ hs) (well_more w ws) = both (h.1.2 w) (all_back hs ws)

some_back : (hs : List ValueIn) → are_some (plain_of hs) ≡ true → W.not_empty (seen_of hs) ≡ true
some_back [] e = absurd cc
some_back (h ∷ hs) e = not_none (seen_of hs)

some_of : (hs : List ValueIn) → W.not_empty (seen_of hs) ≡ true → are_some (plain_of hs) ≡ true
some_of [] e = absurd cc
some_of (h ∷ hs) e = refl

as_many : (hs : List ValueIn) → length (seen_of hs) ≡ length (M.list (plain_of hs))
as_many [] = refl
as_many (h ∷ hs) = rw (as_many hs)

same_sights : (hs : List ValueIn) → W.sights (seen_of hs) ≡ sights (plain_of hs)
same_sights [] = refl
same_sights (h ∷ hs) = rw (h.1.1, same_sights hs)

-- the ends of a node are seen alike
same_cons : (v : M.Value ℕ) → W.ends_cons (sight v) ≡ ends_cons v
same_cons M.nil = refl
same_cons (M.bool b) = refl
same_cons (M.int n) = refl
same_cons (M.keyword n) = refl
same_cons (M.text n) = refl
same_cons (M.vector xs) = refl
same_cons (M.function t xs) = refl
same_cons (M.reduced v) = refl
same_cons (M.cell c) = refl
same_cons M.empty = refl
same_cons (M.cons xs r) = refl
same_cons (M.chunk xs r) = refl
same_cons (M.range from at end) = refl
same_cons (M.vec_seq xs at) = refl

same_chunk : (v : M.Value ℕ) → W.ends_chunk (sight v) ≡ ends_chunk v
same_chunk M.nil = refl
same_chunk (M.bool b) = refl
same_chunk (M.int n) = refl
same_chunk (M.keyword n) = refl
same_chunk (M.text n) = refl
same_chunk (M.vector xs) = refl
same_chunk (M.function t xs) = refl
same_chunk (M.reduced v) = refl
same_chunk (M.cell c) = refl
same_chunk M.empty = refl
same_chunk (M.cons xs r) = refl
same_chunk (M.chunk xs r) = refl
same_chunk (M.range from at end) = refl
same_chunk (M.vec_seq xs at) = refl

both_sides : {s s' : W.Seen} {v v' : M.Value ℕ} → s ≡ s' → v ≡ v' → Stands s' v' → Stands s v
both_sides {s' = s'} {v = v} p q h = subst (λ x. Stands x v) (sym p) (subst (λ x. Stands s' x) (sym q) h)

-- one level, on both sides
node_level : (x : Node-F Node Value FnValue) → Stands (W.node_seen (map-Node Node Value FnValue W.Seen W.Seen W.Seen W.seen_node W.seen W.seen_function x)) (node_step (map-Node Node Value FnValue (M.Value ℕ) (M.Value ℕ) (M.Value ℕ) plain_node plain plain_function x)) → NodeStands (roll-Node x)
node_level x h = both_sides (fold-roll-Node W.Seen W.Seen W.Seen W.node_seen W.value_seen W.function_seen x) (fold-roll-Node (M.Value ℕ) (M.Value ℕ) (M.Value ℕ) node_step value_step function_step x) h

value_level : (x : Value-F Node Value FnValue) → Stands (W.value_seen (map-Value Node Value FnValue W.Seen W.Seen W.Seen W.seen_node W.seen W.seen_function x)) (value_step (map-Value Node Value FnValue (M.Value ℕ) (M.Value ℕ) (M.Value ℕ) plain_node plain plain_function x)) → ValueStands (roll-Value x)
value_level x h = both_sides (fold-roll-Value W.Seen W.Seen W.Seen W.node_seen W.value_seen W.function_seen x) (fold-roll-Value (M.Value ℕ) (M.Value ℕ) (M.Value ℕ) node_step value_step function_step x) h

function_level : (x : FnValue-F Node Value FnValue) → Stands (W.function_seen (map-FnValue Node Value FnValue W.Seen W.Seen W.Seen W.seen_node W.seen W.seen_function x)) (function_step (map-FnValue Node Value FnValue (M.Value ℕ) (M.Value ℕ) (M.Value ℕ) plain_node plain plain_function x)) → FunctionStands (roll-FnValue x)
function_level x h = both_sides (fold-roll-FnValue W.Seen W.Seen W.Seen W.node_seen W.value_seen W.function_seen x) (fold-roll-FnValue (M.Value ℕ) (M.Value ℕ) (M.Value ℕ) node_step value_step function_step x) h

cons_stands : (hs : List ValueIn) (r : ValueIn) → W.not_empty (seen_of hs) && (W.all_stand (seen_of hs) && ((W.seen r.0).stands && W.ends_cons (W.seen r.0).sight)) ≡ true → Shallow (M.cons (plain_of hs) (plain r.0)) → Well (M.cons (plain_of hs) (plain r.0))
cons_stands hs r e d =
    let some = first_of_both (W.not_empty (seen_of hs)) _ e in
    let more = second_of_both (W.not_empty (seen_of hs)) _ e in
    let all = first_of_both (W.all_stand (seen_of hs)) _ more in
    let rest = second_of_both (W.all_stand (seen_of hs)) _ more in
    let ends = sym (ap W.ends_cons r.1.1 ∙ same_cons (plain r.0)) ∙ second_of_both ((W.seen r.0).stands) _ rest in
    let d' : nat_le (max (depths (plain_of hs)) (depth (plain r.0))) deepest ≡ true = one_less _ deepest d in
    well_cons (both (some_of hs some) ends) d (all_well hs all (left_of _ _ deepest d')) (r.1.0 (first_of_both ((W.seen r.0).stands) _ rest) (right_of (depths (plain_of hs)) _ deepest d'))

chunk_stands : (hs : List ValueIn) (r : ValueIn) → W.not_empty (seen_of hs) && (W.all_stand (seen_of hs) && ((W.seen r.0).stands && W.ends_chunk (W.seen r.0).sight)) ≡ true → Shallow (M.chunk (plain_of hs) (plain r.0)) → Well (M.chunk (plain_of hs) (plain r.0))
chunk_stands hs r e d =
    let some = first_of_both (W.not_empty (seen_of hs)) _ e in
    let more = second_of_both (W.not_empty (seen_of hs)) _ e in
    let all = first_of_both (W.all_stand (seen_of hs)) _ more in
    let rest = second_of_both (W.all_stand (seen_of hs)) _ more in
    let ends = sym (ap W.ends_chunk r.1.1 ∙ same_chunk (plain r.0)) ∙ second_of_both ((W.seen r.0).stands) _ rest in
    let d' : nat_le (max (depths (plain_of hs)) (depth (plain r.0))) deepest ≡ true = one_less _ deepest d in
    well_chunk (both (some_of hs some) ends) d (all_well hs all (left_of _ _ deepest d')) (r.1.0 (first_of_both ((W.seen r.0).stands) _ rest) (right_of (depths (plain_of hs)) _ deepest d'))

cons_back : (hs : List ValueIn) (r : ValueIn) → Well (M.cons (plain_of hs) (plain r.0)) → W.not_empty (seen_of hs) && (W.all_stand (seen_of hs) && ((W.seen r.0).stands && W.ends_cons (W.seen r.0).sight)) ≡ true
cons_back hs r (well_cons n d h k) = both (some_back hs (first_of_both _ _ n)) (both (all_back hs h) (both (r.1.2 k) (ap W.ends_cons r.1.1 ∙ same_cons (plain r.0) ∙ second_of_both (are_some (plain_of hs)) _ n)))

chunk_back : (hs : List ValueIn) (r : ValueIn) → Well (M.chunk (plain_of hs) (plain r.0)) → W.not_empty (seen_of hs) && (W.all_stand (seen_of hs) && ((W.seen r.0).stands && W.ends_chunk (W.seen r.0).sight)) ≡ true
chunk_back hs r (well_chunk n d h k) = both (some_back hs (first_of_both _ _ n)) (both (all_back hs h) (both (r.1.2 k) (ap W.ends_chunk r.1.1 ∙ same_chunk (plain r.0) ∙ second_of_both (are_some (plain_of hs)) _ n)))

vec_seq_back : (hs : List ValueIn) (at : ℕ) → Well (M.vec_seq (plain_of hs) at) → nat_lt at (length (seen_of hs)) && W.all_stand (seen_of hs) ≡ true
vec_seq_back hs at (well_vec_seq n d h) = both (ap (nat_lt at) (as_many hs) ∙ n) (all_back hs h)

range_back : (from at end : ℤ) → Well {C = ℕ} (M.range from at end) → int_le from at && int_lt at end ≡ true
range_back from at end (well_range n) = n

vector_back : (hs : List ValueIn) → Well (M.vector (plain_of hs)) → W.all_stand (seen_of hs) ≡ true
vector_back hs (well_vector d h) = all_back hs h

reduced_back : (v : ValueIn) → Well (M.reduced (plain v.0)) → (W.seen v.0).stands ≡ true
reduced_back v (well_reduced d h) = v.1.2 h

function_back : (t : Target) (hs : List ValueIn) → Well (M.function t (plain_of hs)) → W.all_stand (seen_of hs) && W.binds t (W.sights (seen_of hs)) ≡ true
function_back t hs (well_function b d h) = both (all_back hs h) (ap (λ s. W.binds t s) (same_sights hs) ∙ b)

vec_seq_stands : (hs : List ValueIn) (at : ℕ) → nat_lt at (length (seen_of hs)) && W.all_stand (seen_of hs) ≡ true → Shallow (M.vec_seq (plain_of hs) at) → Well (M.vec_seq (plain_of hs) at)
vec_seq_stands hs at e d =
    well_vec_seq (sym (ap (nat_lt at) (as_many hs)) ∙ first_of_both (nat_lt at (length (seen_of hs))) _ e) d (all_well hs (second_of_both (nat_lt at (length (seen_of hs))) _ e) (one_less _ deepest d))

node_case : (x : Node-F Node Value FnValue) (y : Node-F NodeIn ValueIn FunctionIn) → map-Node NodeIn ValueIn FunctionIn Node Value FnValue (λ e. e.0) (λ e. e.0) (λ e. e.0) y ≡ x → NodeStands (roll-Node x)
node_case x Node-F.Empty is = subst (λ z. NodeStands (roll-Node z)) is (node_level _ (λ e d. well_empty, refl, λ w. refl))
node_case x (Node-F.Cons kept hs r) is = subst (λ z. NodeStands (roll-Node z)) is (node_level _ (cons_stands hs r, refl, cons_back hs r))
node_case x (Node-F.Chunk kept hs r) is = subst (λ z. NodeStands (roll-Node z)) is (node_level _ (chunk_stands hs r, refl, chunk_back hs r))
node_case x (Node-F.Range from at end) is = subst (λ z. NodeStands (roll-Node z)) is (node_level _ (λ e d. well_range e, refl, range_back from at end))
node_case x (Node-F.VecSeq kept hs at) is = subst (λ z. NodeStands (roll-Node z)) is (node_level _ (vec_seq_stands hs at, refl, vec_seq_back hs at))

value_case : (x : Value-F Node Value FnValue) (y : Value-F NodeIn ValueIn FunctionIn) → map-Value NodeIn ValueIn FunctionIn Node Value FnValue (λ e. e.0) (λ e. e.0) (λ e. e.0) y ≡ x → ValueStands (roll-Value x)
value_case x Value-F.Nil is = subst (λ z. ValueStands (roll-Value z)) is (value_level _ (λ e d. well_nil, refl, λ w. refl))
value_case x (Value-F.Bool b) is = subst (λ z. ValueStands (roll-Value z)) is (value_level _ (λ e d. well_bool, refl, λ w. refl))
value_case x (Value-F.Int n) is = subst (λ z. ValueStands (roll-Value z)) is (value_level _ (λ e d. well_int, refl, λ w. refl))
value_case x (Value-F.Keyword n) is = subst (λ z. ValueStands (roll-Value z)) is (value_level _ (λ e d. well_keyword, refl, λ w. refl))
value_case x (Value-F.Text n) is = subst (λ z. ValueStands (roll-Value z)) is (value_level _ (λ e d. well_text, refl, λ w. refl))
value_case x (Value-F.Vector kept hs) is = subst (λ z. ValueStands (roll-Value z)) is (value_level _ (λ e d. well_vector d (all_well hs e (one_less _ deepest d)), rw (as_many hs), vector_back hs))
value_case x (Value-F.Function f) is = subst (λ z. ValueStands (roll-Value z)) is (value_level _ f.1)
value_case x (Value-F.Node n) is = subst (λ z. ValueStands (roll-Value z)) is (value_level _ n.1)
value_case x (Value-F.Reduced kept v) is = subst (λ z. ValueStands (roll-Value z)) is (value_level _ (λ e d. well_reduced d (v.1.0 e (one_less _ deepest d)), refl, reduced_back v))
value_case x (Value-F.Cell c) is = subst (λ z. ValueStands (roll-Value z)) is (value_level _ (λ e d. well_cell, refl, λ w. refl))

function_case : (x : FnValue-F Node Value FnValue) (y : FnValue-F NodeIn ValueIn FunctionIn) → map-FnValue NodeIn ValueIn FunctionIn Node Value FnValue (λ e. e.0) (λ e. e.0) (λ e. e.0) y ≡ x → FunctionStands (roll-FnValue x)
function_case x y is = subst (λ z. FunctionStands (roll-FnValue z)) is (function_level _ (λ e d. well_function (ap (λ s. W.binds y.target s) (sym (same_sights y.bound)) ∙ second_of_both (W.all_stand (seen_of y.bound)) _ e) d (all_well y.bound (first_of_both _ _ e) (one_less _ deepest d)), ap (λ s. a_function y.target (kept_by_function y.target s)) (same_sights y.bound), function_back y.target y.bound))

all_stand : (v : Value) → ValueStands v
all_stand = ind-Value NodeStands ValueStands FunctionStands (λ x y is. node_case x y is) (λ x y is. value_case x y is) (λ x y is. function_case x y is)

pub well_formed : (v : Value) → W.is_well_formed v ≡ true → Well (plain v)
well_formed v e = (all_stand v).0 (first_of_both _ _ e) (ap (λ n. nat_le n deepest) (depth_agrees v) ∙ second_of_both (keeps_depth v) _ (second_of_both ((W.seen v).stands) _ e))

pub formed_kept : (v : Value) → W.is_well_formed v ≡ true → keeps_depth v ≡ true
formed_kept v e = first_of_both (keeps_depth v) _ (second_of_both ((W.seen v).stands) _ e)

pub formed_well : (v : Value) → keeps_depth v ≡ true → Well (plain v) → W.is_well_formed v ≡ true
formed_well v k w = both ((all_stand v).2 w) (both k (sym (ap (λ n. nat_le n deepest) (depth_agrees v)) ∙ well-shallow w))

-- ## Terms

same_sight : (v : Value) → W.sight_of v ≡ sight (plain v)
same_sight v = (all_stand v).1

same_arguments : (vs : List Value) → map W.sight_of vs ≡ sights (M.values (plains vs))
same_arguments [] = refl
same_arguments (v ∷ vs) = rw (same_sight v, same_arguments vs)

list_formed : (vs : List Value) → W.are_well_formed vs ≡ true → WellList (plains vs)
list_formed [] e = well_end
list_formed (v ∷ vs) e = well_item (well_formed v (first_of_both _ _ e)) (list_formed vs (second_of_both (W.is_well_formed v) _ e))

list_kept : (vs : List Value) → W.are_well_formed vs ≡ true → keep_depth vs ≡ true
list_kept [] e = refl
list_kept (v ∷ vs) e = both (formed_kept v (first_of_both _ _ e)) (list_kept vs (second_of_both (W.is_well_formed v) _ e))

formed_list : (vs : List Value) → keep_depth vs ≡ true → WellList (plains vs) → W.are_well_formed vs ≡ true
formed_list [] k w = refl
formed_list (v ∷ vs) k (well_item w ws) = both (formed_well v (first_of_both (keeps_depth v) _ k) w) (formed_list vs (second_of_both (keeps_depth v) _ k) ws)

pub term_formed : (t : Term) → is_well_formed_term t ≡ true → WellTerm (plain_term t)
term_formed t e = well_term (list_formed t.args (first_of_both _ _ e)) (sym (ap (λ s. takes t.op s) (same_arguments t.args)) ∙ second_of_both (W.are_well_formed t.args) _ e)

pub term_kept : (t : Term) → is_well_formed_term t ≡ true → keep_depth t.args ≡ true
term_kept t e = list_kept t.args (first_of_both _ _ e)

pub formed_term : (t : Term) → keep_depth t.args ≡ true → WellTerm (plain_term t) → is_well_formed_term t ≡ true
formed_term t k (well_term h e) = both (formed_list t.args k h) (ap (λ s. takes t.op s) (same_arguments t.args) ∙ e)

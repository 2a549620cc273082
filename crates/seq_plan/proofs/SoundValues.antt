-- A well-formed value of the code stands for a sound one.
use Rattle.std.proofs.Common.{◌≡◌, ℕ, nat_lt, true, ◌&&◌, List, [], ◌∷◌, length, map, refl, ap, sym, ◌∙◌, subst}
use Rattle.seq_values.specs.Model as M
use Rattle.seq_values.specs.Plain.{plain, node_step, value_step, function_step}
use Rattle.seq_values.specs.WellFormed as W
use Rattle.seq_values.specs.declared.value.Value.{Value, map-Value, roll-Value}
use Rattle.seq_values.specs.declared.value.Node.{Node, map-Node, roll-Node}
use Rattle.seq_values.specs.declared.value.FnValue.{FnValue, map-FnValue, roll-FnValue}
use Rattle.seq_values.specs.declared.value.Node.TheOpen.{Node-F, Value-F, FnValue-F}
use Rattle.seq_values.specs.declared.value.Node.TheFolds.{ind-Value, fold-Node, fold-FnValue, fold-roll-Node, fold-roll-Value, fold-roll-FnValue}
use Rattle.seq_plan.specs.Sound.{are_some, ends_cons, ends_chunk, Sound, sound_nil, sound_bool, sound_int, sound_keyword, sound_text, sound_vector, sound_function, sound_reduced, sound_cell, sound_empty, sound_cons, sound_chunk, sound_range, sound_vec_seq, SoundAll, sound_none, sound_more}
use Rattle.seq_plan.proofs.FitLemmas.{both, first_of_both, second_of_both}

abbrev plain_node : Node → M.Value ℕ
plain_node = fold-Node (M.Value ℕ) (M.Value ℕ) (M.Value ℕ) node_step value_step function_step

abbrev plain_function : FnValue → M.Value ℕ
plain_function = fold-FnValue (M.Value ℕ) (M.Value ℕ) (M.Value ℕ) node_step value_step function_step

-- what stands is sound, and what may come behind others may do so on both sides
abbrev Stands : W.Seen → M.Value ℕ → Type 0
Stands s v = (s.stands ≡ true → Sound v) × (W.ends_cons s.sight ≡ ends_cons v) × (W.ends_chunk s.sight ≡ ends_chunk v)

abbrev NodeStands : Node → Type 0
NodeStands n = Stands (W.seen_node n) (plain_node n)

abbrev ValueStands : Value → Type 0
ValueStands v = Stands (W.seen v) (plain v)

abbrev FunctionStands : FnValue → Type 0
FunctionStands f = Stands (W.seen_function f) (plain_function f)

abbrev With : (A : Type 0) → (A → Type 0) → Type 0
With A P = (a : A) × P a

abbrev NodeIn : Type 0
NodeIn = With Node NodeStands

abbrev ValueIn : Type 0
ValueIn = With Value ValueStands

abbrev FunctionIn : Type 0
FunctionIn = With FnValue FunctionStands

abbrev seen_of : List ValueIn → List W.Seen
seen_of hs = map W.seen (map (λ e. e.0) hs)

abbrev plain_of : List ValueIn → M.Values ℕ
plain_of hs = M.values (map plain (map (λ e. e.0) hs))

all_sound : (hs : List ValueIn) → W.all_stand (seen_of hs) ≡ true → SoundAll (plain_of hs)
all_sound [] e = sound_none
all_sound (h ∷ hs) e = sound_more (h.1.0 (first_of_both _ _ e)) (all_sound hs (second_of_both ((W.seen h.0).stands) _ e))

some_of : (hs : List ValueIn) → W.not_empty (seen_of hs) ≡ true → are_some (plain_of hs) ≡ true
some_of [] e = absurd cc
some_of (h ∷ hs) e = refl

as_many : (hs : List ValueIn) → length (M.list (plain_of hs)) ≡ length (seen_of hs)
as_many [] = refl
as_many (h ∷ hs) = rw (as_many hs)

both_sides : {s s' : W.Seen} {v v' : M.Value ℕ} → s ≡ s' → v ≡ v' → Stands s' v' → Stands s v
both_sides {s' = s'} {v = v} p q h = subst (λ x. Stands x v) (sym p) (subst (λ x. Stands s' x) (sym q) h)

-- one level, on both sides
node_level : (x : Node-F Node Value FnValue) → Stands (W.node_seen (map-Node Node Value FnValue W.Seen W.Seen W.Seen W.seen_node W.seen W.seen_function x)) (node_step (map-Node Node Value FnValue (M.Value ℕ) (M.Value ℕ) (M.Value ℕ) plain_node plain plain_function x)) → NodeStands (roll-Node x)
node_level x h = both_sides (fold-roll-Node W.Seen W.Seen W.Seen W.node_seen W.value_seen W.function_seen x) (fold-roll-Node (M.Value ℕ) (M.Value ℕ) (M.Value ℕ) node_step value_step function_step x) h

value_level : (x : Value-F Node Value FnValue) → Stands (W.value_seen (map-Value Node Value FnValue W.Seen W.Seen W.Seen W.seen_node W.seen W.seen_function x)) (value_step (map-Value Node Value FnValue (M.Value ℕ) (M.Value ℕ) (M.Value ℕ) plain_node plain plain_function x)) → ValueStands (roll-Value x)
value_level x h = both_sides (fold-roll-Value W.Seen W.Seen W.Seen W.node_seen W.value_seen W.function_seen x) (fold-roll-Value (M.Value ℕ) (M.Value ℕ) (M.Value ℕ) node_step value_step function_step x) h

function_level : (x : FnValue-F Node Value FnValue) → Stands (W.function_seen (map-FnValue Node Value FnValue W.Seen W.Seen W.Seen W.seen_node W.seen W.seen_function x)) (function_step (map-FnValue Node Value FnValue (M.Value ℕ) (M.Value ℕ) (M.Value ℕ) plain_node plain plain_function x)) → FunctionStands (roll-FnValue x)
function_level x h = both_sides (fold-roll-FnValue W.Seen W.Seen W.Seen W.node_seen W.value_seen W.function_seen x) (fold-roll-FnValue (M.Value ℕ) (M.Value ℕ) (M.Value ℕ) node_step value_step function_step x) h

cons_stands : (hs : List ValueIn) (r : ValueIn) → W.not_empty (seen_of hs) && (W.all_stand (seen_of hs) && ((W.seen r.0).stands && W.ends_cons (W.seen r.0).sight)) ≡ true → Sound (M.cons (plain_of hs) (plain r.0))
cons_stands hs r e =
    let some = first_of_both (W.not_empty (seen_of hs)) _ e in
    let more = second_of_both (W.not_empty (seen_of hs)) _ e in
    let all = first_of_both (W.all_stand (seen_of hs)) _ more in
    let rest = second_of_both (W.all_stand (seen_of hs)) _ more in
    let ends = sym r.1.1 ∙ second_of_both ((W.seen r.0).stands) _ rest in
    sound_cons (both (some_of hs some) ends) (all_sound hs all) (r.1.0 (first_of_both ((W.seen r.0).stands) _ rest))

chunk_stands : (hs : List ValueIn) (r : ValueIn) → W.not_empty (seen_of hs) && (W.all_stand (seen_of hs) && ((W.seen r.0).stands && W.ends_chunk (W.seen r.0).sight)) ≡ true → Sound (M.chunk (plain_of hs) (plain r.0))
chunk_stands hs r e =
    let some = first_of_both (W.not_empty (seen_of hs)) _ e in
    let more = second_of_both (W.not_empty (seen_of hs)) _ e in
    let all = first_of_both (W.all_stand (seen_of hs)) _ more in
    let rest = second_of_both (W.all_stand (seen_of hs)) _ more in
    let ends = sym r.1.2 ∙ second_of_both ((W.seen r.0).stands) _ rest in
    sound_chunk (both (some_of hs some) ends) (all_sound hs all) (r.1.0 (first_of_both ((W.seen r.0).stands) _ rest))

vec_seq_stands : (hs : List ValueIn) (at : ℕ) → nat_lt at (length (seen_of hs)) && W.all_stand (seen_of hs) ≡ true → Sound (M.vec_seq (plain_of hs) at)
vec_seq_stands hs at e =
    sound_vec_seq (ap (nat_lt at) (as_many hs) ∙ first_of_both (nat_lt at (length (seen_of hs))) _ e) (all_sound hs (second_of_both (nat_lt at (length (seen_of hs))) _ e))

node_case : (x : Node-F Node Value FnValue) (y : Node-F NodeIn ValueIn FunctionIn) → map-Node NodeIn ValueIn FunctionIn Node Value FnValue (λ e. e.0) (λ e. e.0) (λ e. e.0) y ≡ x → NodeStands (roll-Node x)
node_case x Node-F.Empty is = subst (λ z. NodeStands (roll-Node z)) is (node_level _ (λ e. sound_empty, refl, refl))
node_case x (Node-F.Cons kept hs r) is = subst (λ z. NodeStands (roll-Node z)) is (node_level _ (cons_stands hs r, refl, refl))
node_case x (Node-F.Chunk kept hs r) is = subst (λ z. NodeStands (roll-Node z)) is (node_level _ (chunk_stands hs r, refl, refl))
node_case x (Node-F.Range from at end) is = subst (λ z. NodeStands (roll-Node z)) is (node_level _ (λ e. sound_range e, refl, refl))
node_case x (Node-F.VecSeq kept hs at) is = subst (λ z. NodeStands (roll-Node z)) is (node_level _ (vec_seq_stands hs at, refl, refl))

value_case : (x : Value-F Node Value FnValue) (y : Value-F NodeIn ValueIn FunctionIn) → map-Value NodeIn ValueIn FunctionIn Node Value FnValue (λ e. e.0) (λ e. e.0) (λ e. e.0) y ≡ x → ValueStands (roll-Value x)
value_case x Value-F.Nil is = subst (λ z. ValueStands (roll-Value z)) is (value_level _ (λ e. sound_nil, refl, refl))
value_case x (Value-F.Bool b) is = subst (λ z. ValueStands (roll-Value z)) is (value_level _ (λ e. sound_bool, refl, refl))
value_case x (Value-F.Int n) is = subst (λ z. ValueStands (roll-Value z)) is (value_level _ (λ e. sound_int, refl, refl))
value_case x (Value-F.Keyword n) is = subst (λ z. ValueStands (roll-Value z)) is (value_level _ (λ e. sound_keyword, refl, refl))
value_case x (Value-F.Text n) is = subst (λ z. ValueStands (roll-Value z)) is (value_level _ (λ e. sound_text, refl, refl))
value_case x (Value-F.Vector kept hs) is = subst (λ z. ValueStands (roll-Value z)) is (value_level _ (λ e. sound_vector (all_sound hs e), refl, refl))
value_case x (Value-F.Function f) is = subst (λ z. ValueStands (roll-Value z)) is (value_level _ f.1)
value_case x (Value-F.Node n) is = subst (λ z. ValueStands (roll-Value z)) is (value_level _ n.1)
value_case x (Value-F.Reduced kept v) is = subst (λ z. ValueStands (roll-Value z)) is (value_level _ (λ e. sound_reduced (v.1.0 e), refl, refl))
value_case x (Value-F.Cell c) is = subst (λ z. ValueStands (roll-Value z)) is (value_level _ (λ e. sound_cell, refl, refl))

function_case : (x : FnValue-F Node Value FnValue) (y : FnValue-F NodeIn ValueIn FunctionIn) → map-FnValue NodeIn ValueIn FunctionIn Node Value FnValue (λ e. e.0) (λ e. e.0) (λ e. e.0) y ≡ x → FunctionStands (roll-FnValue x)
function_case x y is = subst (λ z. FunctionStands (roll-FnValue z)) is (function_level _ (λ e. sound_function (all_sound y.bound (first_of_both _ _ e)), refl, refl))

all_stand : (v : Value) → ValueStands v
all_stand = ind-Value NodeStands ValueStands FunctionStands (λ x y is. node_case x y is) (λ x y is. value_case x y is) (λ x y is. function_case x y is)

pub well_formed_sound : (v : Value) → W.is_well_formed v ≡ true → Sound (plain v)
well_formed_sound v e = (all_stand v).0 (first_of_both _ _ e)

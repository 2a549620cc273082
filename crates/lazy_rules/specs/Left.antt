-- The plan that a rule of a lazy operation has left, by where it stands and what it is told. Each clause is a piece of the row's own text.
use Rattle.std.specs.Prelude.{ℕ, ◌++◌, Bool, true, false, cond, List, [], ◌∷◌, map, drop, ℤ, pos, ◌-ℤ◌, int_le}
use Rattle.seq_base.specs.declared.thrown.Thrown.TheVariants.{BadType}
use Rattle.seq_values.specs.Model as M
use Rattle.seq_values.specs.Model.{◌&◌}
use Rattle.seq_values.specs.Plain.{plain, plains}
use Rattle.seq_values.specs.declared.value.Value.{Value}
use Rattle.seq_values.specs.declared.words.Kind.TheVariants.{Lazy}
use Rattle.seq_values.specs.declared.words.Op.{Op}
use Rattle.seq_values.specs.declared.words.Op.TheVariants as O
use Rattle.seq_plan.specs.Plan.{Plan, seq, call, go, give, throw, Told, begun, done, got, told_made, Loop, drop_from, drop_while_from, parts_from}
use Rattle.seq_plan.specs.Nodes.{chunk_of, first_of, rest_of, if_nil, if_true, give_value, with_items, with_members, make_term}
use Rattle.seq_plan.specs.Lists.{list_of, lazily, first_and, items_and, with_seq}
use Rattle.seq_plan.specs.Cursors.{stands}
use Rattle.seq_turns.specs.Seen.{seen}
use Rattle.seq_turns.specs.Turning.{Wait, to_begin, a_step, a_seq, a_value, a_part, nothing, Running, TakesTurn}
use Rattle.seq_turns.specs.declared.next.Next.{Next}
use Rattle.seq_turns.specs.declared.places.Seen.{Seen}
use Rattle.lazy_rows.specs.Table.{lazy_term, walk_call, walk_round}
use Rattle.lazy_rows.specs.Terms.{seq_each, unless_nil_among, where_true, where_some, sift, one_or_cell, sift_on, concat_on, concat_rule, cycle_on, parts_on}
use Rattle.lazy_rules.specs.declared.state.State.{State}
use Rattle.lazy_rules.specs.declared.state.State.TheVariants as S
use Rattle.lazy_rules.specs.declared.state.AtBegin.{AtBegin}
use Rattle.lazy_rules.specs.declared.state.AtBegin.TheVariants as B
use Rattle.lazy_rules.specs.declared.state.AtSeq.{AtSeq}
use Rattle.lazy_rules.specs.declared.state.AtSeq.TheVariants as Q
use Rattle.lazy_rules.specs.declared.state.AtStep.{AtStep}
use Rattle.lazy_rules.specs.declared.state.AtStep.TheVariants as T
use Rattle.lazy_rules.specs.declared.state.AtValue.{AtValue}
use Rattle.lazy_rules.specs.declared.state.AtValue.TheVariants as V
use Rattle.lazy_rules.specs.declared.state.AtPart.{AtPart}
use Rattle.lazy_rules.specs.declared.state.AtPart.TheVariants as P
use Rattle.lazy_rules.specs.declared.state.Keeps.{Keeps}
use Rattle.lazy_rules.specs.declared.state.Keeps.TheVariants as K
use Rattle.lazy_rules.specs.declared.state.Purpose.{Purpose}
use Rattle.lazy_rules.specs.declared.state.Purpose.TheVariants as U
use Rattle.lazy_rules.specs.declared.state.Group.{Group}

abbrev pub seens : List Seen → List (M.Value ℕ)
seens ss = map seen ss

-- ## A function and elements

-- what is kept of an element and of what the function gives of it
abbrev pub kept_of : Keeps → M.Value ℕ → M.Value ℕ → List (M.Value ℕ)
kept_of K.Answers x y = y ∷ []
kept_of K.Elements x y = where_true x y
kept_of K.SomeAnswers x y = where_some x y

-- the same, of the first of some elements
abbrev pub kept_in : Keeps → List (M.Value ℕ) → M.Value ℕ → List (M.Value ℕ)
kept_in k [] y = []
kept_in k (x ∷ xs) y = kept_of k x y

abbrev pub sift_op : Keeps → Op
sift_op K.Answers = O.Map
sift_op K.Elements = O.Filter
sift_op K.SomeAnswers = O.Keep

abbrev pub purpose_op : Purpose → Op
purpose_op (U.Sift k) = sift_op k
purpose_op U.TakeWhile = O.TakeWhile
purpose_op U.DropWhile = O.DropWhile
purpose_op U.Mapcat = O.Mapcat

-- what comes after the function's answer for the first element of a node
abbrev pub element_answered : Purpose → M.Value ℕ → M.Value ℕ → M.Value ℕ → Plan ℕ
element_answered (U.Sift k) f s y = one_or_cell (kept_of k (first_of s) y) (sift_op k) (f ∷ rest_of s ∷ [])
element_answered U.TakeWhile f s y = if_true y (first_and (first_of s) O.TakeWhile (f ∷ rest_of s ∷ [])) (give M.nil)
element_answered U.DropWhile f s y = if_true y (seq (rest_of s) (λ t. go drop_while_from (f ∷ t ∷ []) give)) (give s)
element_answered U.Mapcat f s y = make_term Lazy O.Mapcat (f ∷ rest_of s ∷ []) (λ m. lazily O.Concat (y ∷ M.cell m ∷ []))

-- the call with the first element
abbrev pub calls_first : Purpose → M.Value ℕ → M.Value ℕ → Plan ℕ
calls_first u f s = call f (first_of s ∷ []) (λ y. element_answered u f s y)

-- the seq of the collection is there
abbrev pub apply_at : Purpose → ℕ → M.Value ℕ → M.Value ℕ → Plan ℕ
apply_at (U.Sift k) size f s = if_nil s (give M.nil) (sift_on (sift_op k) (kept_of k) f s (chunk_of size s))
apply_at U.TakeWhile size f s = if_nil s (give M.nil) (calls_first U.TakeWhile f s)
apply_at U.DropWhile size f s = go drop_while_from (f ∷ s ∷ []) give
apply_at U.Mapcat size f s = if_nil s (give M.nil) (calls_first U.Mapcat f s)

-- what is left of a chunk, with what was kept of the elements before
abbrev pub sift_left : Keeps → M.Value ℕ → List (M.Value ℕ) → List (M.Value ℕ) → M.Value ℕ → Plan ℕ
sift_left k f kept xs rest = sift f (kept_of k) kept xs (λ ys. items_and ys (sift_op k) (f ∷ rest ∷ []))

-- the same, where the function gave this of the first of the elements
abbrev pub sift_answered : Keeps → M.Value ℕ → List (M.Value ℕ) → List (M.Value ℕ) → M.Value ℕ → M.Value ℕ → Plan ℕ
sift_answered k f kept [] rest y = throw BadType
sift_answered k f kept (x ∷ xs) rest y = sift_left k f (kept ++ kept_of k x y) xs rest

-- the seq of each collection is there
abbrev pub map_all_on : M.Value ℕ → List (M.Value ℕ) → Plan ℕ
map_all_on f ss = unless_nil_among ss (call f (map first_of ss) (λ y. first_and y O.MapN (f ∷ map rest_of ss)))

-- ## Groups

-- what comes after an element was taken, given how many are left to take, those taken, and the rest
abbrev pub group_on : ℤ → ℤ → List (M.Value ℕ) → M.Value ℕ → Plan ℕ
group_on n left xs rest =
    cond (int_le left (pos 0))
    (first_and (list_of xs) O.Parts (M.int n ∷ rest ∷ []))
    (seq rest (λ t. if_nil t (first_and (list_of xs) O.Parts (M.int n ∷ rest ∷ [])) (go parts_from (M.int n ∷ M.int left ∷ M.vector (M.values xs) ∷ t ∷ []) give)))

-- a round for the next element of a group
abbrev pub group_round : Group → M.Value ℕ → Plan ℕ
group_round g s = go parts_from (M.int g.size ∷ M.int g.left ∷ M.vector (M.values (plains g.taken.items.items)) ∷ s ∷ []) give

-- the list of the group, where this comes after its last element
abbrev pub group_ends : Group → M.Value ℕ → Plan ℕ
group_ends g rest = first_and (list_of (plains g.taken.items.items)) O.Parts (M.int g.size ∷ rest ∷ [])

-- ## By what the rule waits for

abbrev pub left_begin : AtBegin → Plan ℕ
left_begin (B.Work w) = lazy_term w.chunk w.term.op (plains w.term.args)
left_begin (B.Call c) = walk_call c.word (plains c.args)

abbrev pub left_seq : AtSeq → M.Value ℕ → Plan ℕ
left_seq (Q.Apply a) s = apply_at a.purpose a.chunk (plain a.function.value) s
left_seq (Q.MapAll g) s = seq_each (seens g.seqs.items ++ s ∷ []) (plains (drop g.at g.args.items)) (map_all_on (plain g.function.value))
left_seq (Q.Take n) s = if_nil s (give M.nil) (first_and (first_of s) O.Take (M.int n ∷ rest_of s ∷ []))
left_seq (Q.Drop n) s = go drop_from (M.int n ∷ s ∷ []) give
left_seq (Q.Concat r) s = if_nil s (concat_rule r.chunk (plains (drop r.at r.args.items))) (concat_on s (plains (drop r.at r.args.items)) (chunk_of r.chunk s))
left_seq (Q.Cycle whole) s = if_nil s (with_seq (plain whole.value) (cycle_on (plain whole.value))) (cycle_on (plain whole.value) s)
left_seq (Q.CycleAgain whole) s = if_nil s (give M.nil) (cycle_on (plain whole.value) s)
left_seq (Q.Parts g) s = if_nil s (give M.nil) (group_round g s)
left_seq (Q.PartsNext g rest) s = if_nil s (group_ends g (plain rest.value)) (group_round g s)

abbrev pub left_step : AtStep → Plan ℕ
left_step (T.Drop n c) = seq (rest_of (stands c)) (λ t. go drop_from (M.int n ∷ t ∷ []) give)
left_step (T.Parts g c) = with_members (plains g.taken.items.items ++ first_of (stands c) ∷ []) (λ ys. parts_on g.size (g.left -ℤ pos 1) ys (stands c))

abbrev pub left_value : AtValue → M.Value ℕ → Plan ℕ
left_value (V.Element a c) y = element_answered a.purpose (plain a.function.value) (stands c) y
left_value (V.Chunk s) y = sift_answered s.sieve.keeps (plain s.sieve.function.value) (plains s.kept.items.items) (plains (drop s.at s.items.items)) (plain s.sieve.rest.value) y
left_value (V.MapAll t) y = first_and y t.term.op (plains t.term.args)
left_value (V.Next f) y = first_and y O.Next (plain f.value ∷ y ∷ [])

abbrev pub left_part : AtPart → ℕ → Plan ℕ
left_part (P.Items xs) m = give_value (with_items (M.values (plains xs.items)) (M.cell m))
left_part (P.One x) m = give_value (M.cons (plain x.value & M.no_values) (M.cell m))
left_part (P.List g) m = give_value (M.cons (list_of (plains g.items.items) & M.no_values) (M.cell m))
left_part P.Cell m = give (M.cell m)
left_part (P.Mapcat y) m = lazily O.Concat (plain y.value ∷ M.cell m ∷ [])
left_part (P.TakeOf n) m = lazily O.Take (M.int n ∷ M.cell m ∷ [])

abbrev pub left : State → Told ℕ → Plan ℕ
left (S.Begin q) begun = left_begin q
left (S.Seq q) (got s) = left_seq q s
left (S.Step q) done = left_step q
left (S.Value q) (got y) = left_value q y
left (S.Part q) (told_made m) = left_part q m
left _ _ = throw BadType

abbrev pub wait_of : State → Wait
wait_of (S.Begin q) = to_begin
wait_of (S.Seq q) = a_seq
wait_of (S.Step q) = a_step
wait_of (S.Value q) = a_value
wait_of (S.Part q) = a_part
wait_of S.Over = nothing

-- the loops of this crate
abbrev pub is_lazy_loop : Loop → Bool
is_lazy_loop drop_from = true
is_lazy_loop drop_while_from = true
is_lazy_loop parts_from = true
is_lazy_loop _ = false

-- how a rule of this crate runs
abbrev pub lazily_run : Running State
lazily_run = record { left = left; wait_of = wait_of; own = is_lazy_loop; rounds = walk_round }

abbrev pub Takes : Plan ℕ → Next State → Type 0
Takes plan next = TakesTurn lazily_run plan next.state next.turn

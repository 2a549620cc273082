-- States that stages keep, after other values.
use Rattle.std.proofs.Common.{◌≡◌, ℕ, zero, suc, ◌+◌, ◌≤◌, ◌<◌, nat_le, ℤ, pos, ◌<ℤ◌, int_lt, Bool, true, false, ◌&&◌, cond, List, [], ◌∷◌, ◌++◌, length, take, drop, map, slice_index_or, refl, ap, sym, ◌∙◌, subst, arith, append_assoc, append-nil}
use Rattle.std.proofs.lemmas.Int.{ints}
use Rattle.std.proofs.lemmas.List.{length-map, length-append, map-append, get_or_default, take_more, take_all, take-append-drop}
use Rattle.seq_base.specs.declared.thrown.Thrown.TheVariants.{Overflow}
use Rattle.seq_values.specs.Model as M
use Rattle.seq_values.specs.Model.{◌&◌}
use Rattle.seq_values.specs.Plain.{plain, plains}
use Rattle.seq_values.specs.Sight as K
use Rattle.seq_values.specs.Sight.{Kept, Sight}
use Rattle.seq_values.specs.WellFormedTerms.{is_state, are_states}
use Rattle.seq_values.specs.declared.value.Value.{Value}
use Rattle.seq_plan.specs.Keeping.{kept_of}
use Rattle.seq_plan.specs.Nodes.{is_nil, longest, with_members}
use Rattle.seq_plan.specs.Plan.{Plan, give, throw}
use Rattle.seq_plan.specs.WellFormed.{sight, sights}
use Rattle.seq_plan.proofs.StageLoops.{list_values}
use Rattle.seq_turns.specs.Making.{Grows, grown}
use Rattle.seq_turns.specs.declared.made.Grown.{Grown}
use Rattle.seq_turns.specs.declared.made.Grown.TheVariants as G
use Rattle.seq_turns.specs.declared.proper.Gathered.{Gathered}
use Rattle.seq_turns.specs.declared.proper.Proper.{Proper}
use Rattle.stage_rows.specs.Table.{kept}
use Rattle.xf_stages.specs.Left.{stage_value, state_value, stages_stand, states_stand, stages_in, states_in}
use Rattle.xf_stages.specs.Opening.{AddsStates, IfGrown, all_kept, kept_in}
use Rattle.xf_stages.specs.States.{Added, Adds, AddsAll, AddsAt, IsKept, IsStateOf}
use Rattle.xf_stages.specs.declared.state.Group.{Group}
use Rattle.xf_stages.specs.declared.state.Purpose.{Purpose}
use Rattle.xf_stages.specs.declared.state.Purpose.TheVariants as P
use Rattle.xf_stages.specs.declared.state.Stage.{Stage}
use Rattle.xf_stages.specs.declared.state.Stage.TheVariants as S
use Rattle.xf_stages.specs.declared.state.Stages.{Stages}

-- ## The state of a stage

pub applies_none : (u : Purpose) (f : Proper) → (state_value (S.Applies u f) ≡ M.nil) × (kept_of (stage_value (S.Applies u f)) ≡ [])
applies_none P.Map f = (refl, refl)
applies_none P.Filter f = (refl, refl)
applies_none P.Remove f = (refl, refl)
applies_none P.Keep f = (refl, refl)
applies_none P.TakeWhile f = (refl, refl)
applies_none P.Mapcat f = (refl, refl)

pub take_kept : (n left : ℤ) (v : M.Value ℕ) → v ≡ M.int left → IsKept (S.Take n left) v
take_kept n left v e = record { kept = K.left; value = e; some = refl; keeps = refl; fits = ap (λ x. is_state K.left (sight x)) e }

pub drop_kept : (n left : ℤ) (v : M.Value ℕ) → v ≡ M.int left → IsKept (S.Drop n left) v
drop_kept n left v e = record { kept = K.left; value = e; some = refl; keeps = refl; fits = ap (λ x. is_state K.left (sight x)) e }

pub reducer_take_kept : (n left : ℤ) (v : M.Value ℕ) → v ≡ M.int left → IsKept (S.ReducerTake n left) v
reducer_take_kept n left v e = record { kept = K.left; value = e; some = refl; keeps = refl; fits = ap (λ x. is_state K.left (sight x)) e }

pub drop_while_kept : (p : Proper) (drops : Bool) (v : M.Value ℕ) → v ≡ M.bool drops → IsKept (S.DropWhile p drops) v
drop_while_kept p drops v e = record { kept = K.dropping; value = e; some = refl; keeps = refl; fits = ap (λ x. is_state K.dropping (sight x)) e }

pub group_kept : (g : Group) (v : M.Value ℕ) → v ≡ M.vector (M.values (plains g.items)) → IsKept (S.PartitionAll g) v
group_kept g v e = record { kept = K.group_of g.size; value = e; some = refl; keeps = refl; fits = ap (λ x. is_state (K.group_of g.size) (sight x)) e ∙ few }
  where
    long : length (M.list (M.values (plains g.items))) ≡ length g.items
    long = ap length (list_values (plains g.items)) ∙ length-map g.items plain

    few : int_lt (pos (length (M.list (M.values (plains g.items))))) g.size ≡ true
    few = ap (λ n. int_lt (pos n) g.size) long ∙ (let p = g.fewer in grind (arith, ints, p))

-- ## Lists of states

kept_some : (v : M.Value ℕ) (vs : List (M.Value ℕ)) → is_nil v ≡ false → kept (v ∷ vs) ≡ v ∷ kept vs
kept_some M.nil vs e = absurd cc
kept_some (M.bool b) vs e = refl
kept_some (M.int n) vs e = refl
kept_some (M.keyword k) vs e = refl
kept_some (M.text t) vs e = refl
kept_some (M.vector xs) vs e = refl
kept_some (M.function t xs) vs e = refl
kept_some (M.reduced v) vs e = refl
kept_some (M.cell c) vs e = refl
kept_some M.empty vs e = refl
kept_some (M.cons xs r) vs e = refl
kept_some (M.chunk xs r) vs e = refl
kept_some (M.range from at end) vs e = refl
kept_some (M.vec_seq xs at) vs e = refl

is_the_nil : (v : M.Value ℕ) → is_nil v ≡ true → v ≡ M.nil
is_the_nil M.nil e = refl
is_the_nil _ e = absurd cc

kept_one : (x : M.Value ℕ) (xs ys : List (M.Value ℕ)) (b : Bool) → is_nil x ≡ b → kept (xs ++ ys) ≡ kept xs ++ kept ys → kept (x ∷ (xs ++ ys)) ≡ kept (x ∷ xs) ++ kept ys
kept_one x xs ys true e h = let n : x ≡ M.nil = is_the_nil x e in ap (λ v. kept (v ∷ (xs ++ ys))) n ∙ h ∙ ap (λ v. kept (v ∷ xs) ++ kept ys) (sym n)
kept_one x xs ys false e h = kept_some x (xs ++ ys) e ∙ ap (λ l. x ∷ l) h ∙ ap (λ l. l ++ kept ys) (sym (kept_some x xs e))

kept_both : (xs ys : List (M.Value ℕ)) → kept (xs ++ ys) ≡ kept xs ++ kept ys
kept_both [] ys = refl
kept_both (x ∷ xs) ys = kept_one x xs ys (is_nil x) refl (kept_both xs ys)

all_kept_both : (xs ys : List (M.Value ℕ)) → all_kept (xs ++ ys) ≡ all_kept xs ++ all_kept ys
all_kept_both [] ys = refl
all_kept_both (x ∷ xs) ys = ap (λ l. kept_of x ++ l) (all_kept_both xs ys) ∙ sym (append_assoc (kept_of x) (all_kept xs) (all_kept ys))

sights_both : (xs ys : List (M.Value ℕ)) → sights (M.values (xs ++ ys)) ≡ sights (M.values xs) ++ sights (M.values ys)
sights_both [] ys = refl
sights_both (x ∷ xs) ys = ap (λ l. sight x ∷ l) (sights_both xs ys)

and_true : (a b : Bool) → a && b ≡ true → (a ≡ true) × (b ≡ true)
and_true true b e = (refl, e)
and_true false b e = absurd cc

states_both : (ks ls : List Kept) (ss ts : List Sight) → are_states ks ss ≡ true → are_states ls ts ≡ true → are_states (ks ++ ls) (ss ++ ts) ≡ true
states_both [] ls [] ts e f = f
states_both [] ls (s ∷ ss) ts e f = absurd cc
states_both (k ∷ ks) ls [] ts e f = absurd cc
states_both (k ∷ ks) ls (s ∷ ss) ts e f =
    let p = and_true (is_state k s) (are_states ks ss) e in
    ap (λ b. b && are_states (ks ++ ls) (ss ++ ts)) p.0 ∙ states_both ks ls ss ts p.1 f

-- ## One stage

pub add_none : (s : Stage) (xs : List (M.Value ℕ)) → (state_value s ≡ M.nil) × (kept_of (stage_value s) ≡ []) → Added (s ∷ []) xs xs
add_none s xs h = record {
  states = [];
  all = sym (append-nil xs);
  kept_states = ap (λ v. kept (v ∷ [])) h.0;
  fit = ap (λ l. are_states (l ++ []) []) h.1;
}

grown_all : (zs ys : List (M.Value ℕ)) → ((k : List (M.Value ℕ) → Plan ℕ) → with_members zs k ≡ k ys) → ys ≡ zs
grown_all zs ys h = by (nat_le (length zs) longest) (h (λ l. give (M.vector (M.values l))))
  where
    by : (b : Bool) → cond b (give (M.vector (M.values zs))) (throw Overflow) ≡ give (M.vector (M.values ys)) → ys ≡ zs
    by true e = let p : M.values zs ≡ M.values ys = cc in sym (list_values ys) ∙ ap M.list (sym p) ∙ list_values zs
    by false e = absurd cc

too_long : (zs : List (M.Value ℕ)) → ((k : List (M.Value ℕ) → Plan ℕ) → with_members zs k ≡ throw Overflow) → longest < length zs
too_long zs h = by (nat_le (length zs) longest) refl (h (λ l. give M.nil))
  where
    by : (b : Bool) → nat_le (length zs) longest ≡ b → cond {A = Plan ℕ} b (give M.nil) (throw Overflow) ≡ throw Overflow → longest < length zs
    by true e q = absurd cc
    by false e q = grind (arith, e)

pub add_some : (s : Stage) (v : M.Value ℕ) (before : List Value) (g : Grown) → IsKept s v → Grows (with_members (plains before ++ v ∷ [])) g → Adds s before g
add_some s v before (G.All all) h q = record {
  states = v ∷ [];
  all = grown_all (plains before ++ v ∷ []) (plains all.items.items) q.goes;
  kept_states = kept_some (state_value s) [] h.some ∙ ap (λ x. x ∷ []) (sym h.value);
  fit = ap (λ l. are_states (l ++ []) (sight v ∷ [])) h.keeps ∙ ap (λ b. b && true) h.fits;
}
add_some s v before G.TooMany h q = subst (λ l. longest < length (plains before ++ l)) (ap (λ x. x ∷ []) h.value ∙ sym (kept_some (state_value s) [] h.some)) (too_long (plains before ++ v ∷ []) q.goes)

pub adds_at : (ss : List Stage) (at : ℕ) (s : Stage) (before : List Value) (g : Grown) → at < length ss → s ≡ slice_index_or ss at s → Adds s before g → AddsAt ss at before g
adds_at ss at s before g b e h = subst (λ x. Adds x before g) (e ∙ get_or_default ss at s S.Cat b) h

-- ## All stages

pub added_none : (xs : List (M.Value ℕ)) → Added [] xs xs
added_none xs = record { states = []; all = sym (append-nil xs); kept_states = refl; fit = refl }

added_both : (ss ts : List Stage) (xs ys zs : List (M.Value ℕ)) → Added ss xs ys → Added ts ys zs → Added (ss ++ ts) xs zs
added_both ss ts xs ys zs p q = record {
  states = p.states ++ q.states;
  all = q.all ∙ ap (λ l. l ++ q.states) p.all ∙ append_assoc xs p.states q.states;
  kept_states = ap kept (map-append state_value ss ts) ∙ kept_both (states_stand ss) (states_stand ts) ∙ (λ i. p.kept_states i ++ q.kept_states i);
  fit =
      (λ i. are_states ((ap all_kept (map-append stage_value ss ts) ∙ all_kept_both (stages_stand ss) (stages_stand ts)) i) (sights_both p.states q.states i))
      ∙ states_both (all_kept (stages_stand ss)) (all_kept (stages_stand ts)) (sights (M.values p.states)) (sights (M.values q.states)) p.fit q.fit;
}

pub added_next : (ss : List Stage) (here : ℕ) (xs ys zs : List (M.Value ℕ)) → here < length ss → Added (take here ss) xs ys → Added (slice_index_or ss here S.Cat ∷ []) ys zs → Added (take (here + 1) ss) xs zs
added_next ss here xs ys zs b p q = subst (λ l. Added l xs zs) (sym (take_more ss here S.Cat b)) (added_both (take here ss) (slice_index_or ss here S.Cat ∷ []) xs ys zs p q)

pub added_end : (ss : List Stage) (here : ℕ) (xs ys : List (M.Value ℕ)) → length ss ≤ here → Added (take here ss) xs ys → Added ss xs ys
added_end ss here xs ys b p = subst (λ l. Added l xs ys) (take_all here ss b) p

pub too_many_end : (ss : List Stage) (here : ℕ) (xs ys : List (M.Value ℕ)) → here < length ss → Added (take here ss) xs ys → longest < length (ys ++ kept (states_stand (slice_index_or ss here S.Cat ∷ []))) → longest < length (xs ++ kept (states_stand ss))
too_many_end ss here xs ys b p h =
    let one : List (M.Value ℕ) = kept (states_stand (slice_index_or ss here S.Cat ∷ [])) in
    let rest : List (M.Value ℕ) = kept (states_stand (drop (here + 1) ss)) in
    let q : xs ++ kept (states_stand ss) ≡ (ys ++ one) ++ rest = whole in
    let n : length (xs ++ kept (states_stand ss)) ≡ length (ys ++ one) + length rest = ap length q ∙ length-append (ys ++ one) rest in
    omega (arith, n, h)
  where
    parts : (take here ss ++ slice_index_or ss here S.Cat ∷ []) ++ drop (here + 1) ss ≡ ss
    parts = ap (λ l. l ++ drop (here + 1) ss) (sym (take_more ss here S.Cat b)) ∙ take-append-drop (here + 1) ss

    whole : xs ++ kept (states_stand ss) ≡ (ys ++ kept (states_stand (slice_index_or ss here S.Cat ∷ []))) ++ kept (states_stand (drop (here + 1) ss))
    whole =
        ap (λ l. xs ++ kept (states_stand l)) (sym parts)
        ∙ ap (λ l. xs ++ l) (ap kept (map-append state_value (take here ss ++ slice_index_or ss here S.Cat ∷ []) (drop (here + 1) ss)) ∙ kept_both (states_stand (take here ss ++ slice_index_or ss here S.Cat ∷ [])) (states_stand (drop (here + 1) ss)) ∙ ap (λ l. l ++ kept (states_stand (drop (here + 1) ss))) (ap kept (map-append state_value (take here ss) (slice_index_or ss here S.Cat ∷ [])) ∙ kept_both (states_stand (take here ss)) (states_stand (slice_index_or ss here S.Cat ∷ []))))
        ∙ sym (append_assoc xs (kept (states_stand (take here ss)) ++ kept (states_stand (slice_index_or ss here S.Cat ∷ []))) (kept (states_stand (drop (here + 1) ss))))
        ∙ ap (λ l. l ++ kept (states_stand (drop (here + 1) ss))) (sym (append_assoc xs (kept (states_stand (take here ss))) (kept (states_stand (slice_index_or ss here S.Cat ∷ [])))) ∙ ap (λ l. l ++ kept (states_stand (slice_index_or ss here S.Cat ∷ []))) (ap (λ l. xs ++ l) p.kept_states ∙ sym p.all))

pub all_grows : (ss : List Stage) (all : Gathered) (g : Grown) → AddsAll ss all.items.items g → Grows (with_members (plains all.items.items ++ kept (states_stand ss))) g
all_grows ss all (G.All more) h = record { goes = λ k. ap (λ l. with_members l k) same ∙ ap (λ b. cond b (k (plains more.items.items)) (throw Overflow)) few }
  where
    same : plains all.items.items ++ kept (states_stand ss) ≡ plains more.items.items
    same = ap (λ l. plains all.items.items ++ l) h.kept_states ∙ sym h.all

    few : nat_le (length (plains more.items.items)) longest ≡ true
    few = let n : length (plains more.items.items) ≡ length more.items.items = length-map more.items.items plain in let f = more.few in grind (arith, n, f)
all_grows ss all G.TooMany h =
    let e : nat_le (length (plains all.items.items ++ kept (states_stand ss))) longest ≡ false = grind (arith, h) in
    record { goes = λ k. ap (λ b. cond b (k (plains all.items.items ++ kept (states_stand ss))) (throw Overflow)) e }

pub all_added : (s : Stages) (all : Gathered) (g : Grown) → AddsAll s.stages.items all.items.items g → IfGrown g (λ xs. AddsStates (kept_in s) (plains all.items.items) (plains xs))
all_added s all (G.All more) h = record { states = h.states; all = h.all; fit = h.fit }
all_added s all G.TooMany h = tt

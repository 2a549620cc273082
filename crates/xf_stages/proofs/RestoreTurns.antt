-- Stages with states that were kept.
use Rattle.std.proofs.Common.{◌≡◌, ℕ, zero, suc, ◌+◌, ◌≤◌, ◌<◌, ℤ, pos, ◌<ℤ◌, int_lt, Bool, true, false, ◌&&◌, List, [], ◌∷◌, ◌++◌, length, drop, map, reverse, refl, ap, sym, ◌∙◌, subst, arith, append_assoc, append-nil}
use Rattle.std.proofs.lemmas.Int.{ints}
use Rattle.xf_stages.proofs.GroupTurns.{members_long}
use Rattle.std.proofs.lemmas.List.{map_push, reverse-append, reverse-reverse, length_push}
use Rattle.seq_values.specs.Model as M
use Rattle.seq_values.specs.Plain.{plain, plains}
use Rattle.seq_values.specs.Sight as K
use Rattle.seq_values.specs.Sight.{Kept, Sight}
use Rattle.seq_values.specs.WellFormedTerms.{is_state, are_states}
use Rattle.seq_values.specs.declared.value.Value.{Value}
use Rattle.seq_values.specs.declared.words.Target.TheVariants as T
use Rattle.seq_values.specs.declared.words.XfKind.TheVariants as X
use Rattle.seq_plan.specs.Keeping.{kept_of}
use Rattle.seq_plan.specs.WellFormed.{sight, sights}
use Rattle.stage_rows.specs.Table.{replaced}
use Rattle.seq_turns.specs.declared.proper.Proper.{Proper}
use Rattle.xf_stages.specs.Left.{stage_value, state_value, stages_stand, states_stand}
use Rattle.xf_stages.specs.Opening.{all_kept}
use Rattle.xf_stages.specs.Parts.{is_integer}
use Rattle.xf_stages.specs.Reacting.{is_vector, members}
use Rattle.xf_stages.specs.Restoring.{FitsNext, FitsState, HasState, Restores, RestoresAll, is_truth, keeps_some}
use Rattle.xf_stages.specs.declared.state.Group.{Group}
use Rattle.xf_stages.specs.declared.state.Purpose.{Purpose}
use Rattle.xf_stages.specs.declared.state.Purpose.TheVariants as P
use Rattle.xf_stages.specs.declared.state.Stage.{Stage}
use Rattle.xf_stages.specs.declared.state.Stage.TheVariants as S

-- ## What fits a stage

one_true : (b : Bool) → b && true ≡ true → b ≡ true
one_true true e = refl
one_true false e = absurd cc

pub no_state : (u : Purpose) (f : Proper) (v : M.Value ℕ) → FitsState (S.Applies u f) v → ⊥
no_state P.Map f v h = absurd cc
no_state P.Filter f v h = absurd cc
no_state P.Remove f v h = absurd cc
no_state P.Keep f v h = absurd cc
no_state P.TakeWhile f v h = absurd cc
no_state P.Mapcat f v h = absurd cc

left_integer : (v : M.Value ℕ) → is_state K.left (sight v) ≡ true → is_integer v ≡ true
left_integer (M.int n) h = refl
left_integer _ h = absurd cc

dropping_truth : (v : M.Value ℕ) → is_state K.dropping (sight v) ≡ true → is_truth v ≡ true
dropping_truth (M.bool b) h = refl
dropping_truth _ h = absurd cc

group_vector : (n : ℤ) (v : M.Value ℕ) → is_state (K.group_of n) (sight v) ≡ true → is_vector v ≡ true
group_vector n (M.vector xs) h = refl
group_vector n _ h = absurd cc

group_few : (n : ℤ) (v : M.Value ℕ) → is_state (K.group_of n) (sight v) ≡ true → int_lt (pos (length (members v))) n ≡ true
group_few n (M.vector xs) h = h
group_few n _ h = absurd cc

pub take_fits : (n left : ℤ) (v : M.Value ℕ) → FitsState (S.Take n left) v → is_integer v ≡ true
take_fits n left v h = left_integer v (one_true _ h)

pub drop_fits : (n left : ℤ) (v : M.Value ℕ) → FitsState (S.Drop n left) v → is_integer v ≡ true
drop_fits n left v h = left_integer v (one_true _ h)

pub reducer_take_fits : (n left : ℤ) (v : M.Value ℕ) → FitsState (S.ReducerTake n left) v → is_integer v ≡ true
reducer_take_fits n left v h = left_integer v (one_true _ h)

pub drop_while_fits : (p : Proper) (drops : Bool) (v : M.Value ℕ) → FitsState (S.DropWhile p drops) v → is_truth v ≡ true
drop_while_fits p drops v h = dropping_truth v (one_true _ h)

pub group_fits : (g : Group) (v : M.Value ℕ) → FitsState (S.PartitionAll g) v → is_vector v ≡ true
group_fits g v h = group_vector g.size v (one_true _ h)

pub group_fewer : (g : Group) (n : ℤ) (v : M.Value ℕ) → n ≡ g.size → FitsState (S.PartitionAll g) v → int_lt (pos (length (members v))) n ≡ true
group_fewer g n v e h = ap (λ m. int_lt (pos (length (members v))) m) e ∙ group_few g.size v (one_true _ h)

pub group_has : (g : Group) (n : ℤ) (v : M.Value ℕ) (t : Stage) → n ≡ g.size → stage_value t ≡ M.function (T.Xf X.PartitionAll) (M.values (M.int n ∷ [])) → state_value t ≡ v → HasState (S.PartitionAll g) v t
group_has g n v t e h q = record { stage = h ∙ ap (λ m. M.function (T.Xf X.PartitionAll) (M.values (M.int m ∷ []))) e; state = q }

pub items_fewer : (n m : ℤ) (items : List Value) (v : M.Value ℕ) → m ≡ n → M.vector (M.values (plains items)) ≡ v → int_lt (pos (length (members v))) n ≡ true → pos (length items) <ℤ m
items_fewer n m items v e q h =
    let p : int_lt (pos (length items)) m ≡ true = (λ i. int_lt (pos (sym (members_long items v q) i)) (e i)) ∙ h in
    grind (arith, ints, p)

-- ## The next state in a list

no_keeps : (s : Stage) → keeps_some s ≡ false → (state_value s ≡ M.nil) × (kept_of (stage_value s) ≡ [])
no_keeps (S.Applies P.Map f) e = (refl, refl)
no_keeps (S.Applies P.Filter f) e = (refl, refl)
no_keeps (S.Applies P.Remove f) e = (refl, refl)
no_keeps (S.Applies P.Keep f) e = (refl, refl)
no_keeps (S.Applies P.TakeWhile f) e = (refl, refl)
no_keeps (S.Applies P.Mapcat f) e = (refl, refl)
no_keeps S.Cat e = (refl, refl)
no_keeps _ e = absurd cc

one_kept : (s : Stage) → keeps_some s ≡ true → (k : Kept) × (kept_of (stage_value s) ≡ k ∷ [])
one_kept (S.Take n left) e = (K.left, refl)
one_kept (S.Drop n left) e = (K.left, refl)
one_kept (S.DropWhile p drops) e = (K.dropping, refl)
one_kept (S.PartitionAll g) e = (K.group_of g.size, refl)
one_kept (S.ReducerTake n left) e = (K.left, refl)
one_kept _ e = absurd cc

takes_next : (s : Stage) (v : M.Value ℕ) (news vs : List (M.Value ℕ)) → keeps_some s ≡ true → replaced (state_value s ∷ news) (v ∷ vs) ≡ v ∷ replaced news vs
takes_next (S.Take n left) v news vs e = refl
takes_next (S.Drop n left) v news vs e = refl
takes_next (S.DropWhile p drops) v news vs e = refl
takes_next (S.PartitionAll g) v news vs e = refl
takes_next (S.ReducerTake n left) v news vs e = refl
takes_next _ v news vs e = absurd cc

and_parts : (a b : Bool) → a && b ≡ true → (a ≡ true) × (b ≡ true)
and_parts true b e = (refl, e)
and_parts false b e = absurd cc

first_fits : (ks more : List Kept) (k : Kept) (v : M.Value ℕ) (vs : List (M.Value ℕ)) → ks ≡ k ∷ [] → are_states (ks ++ more) (sights (M.values (v ∷ vs))) ≡ true → (are_states ks (sight v ∷ []) ≡ true) × (are_states more (sights (M.values vs)) ≡ true)
first_fits ks more k v vs e h =
    let p = and_parts (is_state k (sight v)) (are_states more (sights (M.values vs))) (ap (λ l. are_states (l ++ more) (sights (M.values (v ∷ vs)))) (sym e) ∙ h) in
    (ap (λ l. are_states l (sight v ∷ [])) e ∙ ap (λ b. b && true) p.0, p.1)

pub next_there : (s : Stage) (items : List Value) (at : ℕ) → keeps_some s ≡ true → FitsNext s (plains (drop at items)) → at < length items
next_there s [] at t h = absurd none
  where
    none : ⊥
    none =
        let k = one_kept s t in
        let q : are_states (k.0 ∷ h.more) (sights (M.values (plains (drop at [])))) ≡ true = ap (λ l. are_states (l ++ h.more) (sights (M.values (plains (drop at []))))) (sym k.1) ∙ h.fit in
        by at q
      where
        by : (n : ℕ) → are_states ((one_kept s t).0 ∷ h.more) (sights (M.values (plains (drop n [])))) ≡ true → ⊥
        by zero q = absurd cc
        by (suc n) q = absurd cc
next_there s (x ∷ items) zero t h = omega arith
next_there s (x ∷ items) (suc at) t h = let p : at < length items = next_there s items at t h in omega (arith, p)

pub next_fits : (s : Stage) (v : Value) (vs xs : List Value) → keeps_some s ≡ true → xs ≡ v ∷ vs → FitsNext s (plains xs) → FitsState s (plain v)
next_fits s v vs xs t q h =
    let k = one_kept s t in
    (first_fits (kept_of (stage_value s)) h.more k.0 (plain v) (plains vs) k.1 (ap (λ l. are_states (kept_of (stage_value s) ++ h.more) (sights (M.values (plains l)))) (sym q) ∙ h.fit)).0

pub restores_none : (s : Stage) (vs : List (M.Value ℕ)) (b : Bool) → b ≡ keeps_some s → b ≡ false → Restores s vs s vs
restores_none s vs b e f =
    let n = no_keeps s (sym e ∙ f) in
    record {
      stage = refl;
      state = λ news. ap (λ v. replaced (v ∷ news) vs) n.0 ∙ ap (λ v. v ∷ replaced news vs) (sym n.0);
      fit = λ more h. ap (λ l. are_states (l ++ more) (sights (M.values vs))) (sym n.1) ∙ h;
    }

pub restores_one : (s t : Stage) (v : Value) (vs xs : List Value) → keeps_some s ≡ true → xs ≡ v ∷ vs → HasState s (plain v) t → Restores s (plains xs) t (plains vs)
restores_one s t v vs xs c q h = subst (λ l. Restores s (plains l) t (plains vs)) (sym q) (record {
  stage = h.stage;
  state = λ news. takes_next s (plain v) news (plains vs) c ∙ ap (λ x. x ∷ replaced news (plains vs)) (sym h.state);
  fit = λ more f. (first_fits (kept_of (stage_value s)) more (one_kept s c).0 (plain v) (plains vs) (one_kept s c).1 f).1;
})

-- ## All stages

-- stages that have their states, those that are still to have theirs, the last one first, and the values that are left
pub record Restoring (ss : List Stage) (vs : List (M.Value ℕ)) (done todo : List Stage) (rest : List (M.Value ℕ)) : Type 0 where
  pub stages : stages_stand done ++ stages_stand (reverse todo) ≡ stages_stand ss
  pub states : states_stand done ++ replaced (states_stand (reverse todo)) rest ≡ replaced (states_stand ss) vs
  pub fit : are_states (all_kept (stages_stand (reverse todo))) (sights (M.values rest)) ≡ true

pub restoring_none : (todo done : List Stage) (vs : List (M.Value ℕ)) → done ≡ [] → are_states (all_kept (stages_stand (reverse todo))) (sights (M.values vs)) ≡ true → Restoring (reverse todo) vs done todo vs
restoring_none todo done vs e h = subst (λ l. Restoring (reverse todo) vs l todo vs) (sym e) (record { stages = refl; states = refl; fit = h })

turned_push : (xs : List Stage) (s : Stage) → reverse (xs ++ s ∷ []) ≡ s ∷ reverse xs
turned_push xs s = reverse-append xs (s ∷ [])

pub next_of : (ss : List Stage) (vs : List (M.Value ℕ)) (done todo back : List Stage) (s : Stage) (rest : List (M.Value ℕ)) → todo ≡ back ++ s ∷ [] → Restoring ss vs done todo rest → FitsNext s rest
next_of ss vs done todo back s rest e h = record {
  more = all_kept (stages_stand (reverse back));
  fit = ap (λ l. are_states (all_kept (stages_stand l)) (sights (M.values rest))) (sym (ap reverse e ∙ turned_push back s)) ∙ h.fit;
}

pub restoring_next : (ss : List Stage) (vs : List (M.Value ℕ)) (done more todo back : List Stage) (s t : Stage) (rest left : List (M.Value ℕ)) → todo ≡ back ++ s ∷ [] → more ≡ done ++ t ∷ [] → Restores s rest t left → Restoring ss vs done todo rest → Restoring ss vs more back left
restoring_next ss vs done more todo back s t rest left e m r h = subst (λ l. Restoring ss vs l back left) (sym m) (record {
  stages =
      ap (λ l. l ++ stages_stand (reverse back)) (map_push stage_value done t ∙ ap (λ v. stages_stand done ++ v ∷ []) r.stage)
      ∙ append_assoc (stages_stand done) (stage_value s ∷ []) (stages_stand (reverse back))
      ∙ ap (λ l. stages_stand done ++ stages_stand l) (sym turn)
      ∙ h.stages;
  states =
      ap (λ l. l ++ replaced (states_stand (reverse back)) left) (map_push state_value done t)
      ∙ append_assoc (states_stand done) (state_value t ∷ []) (replaced (states_stand (reverse back)) left)
      ∙ ap (λ l. states_stand done ++ l) (sym (r.state (states_stand (reverse back))) ∙ ap (λ l. replaced (states_stand l) rest) (sym turn))
      ∙ h.states;
  fit = r.fit (all_kept (stages_stand (reverse back))) (ap (λ l. are_states (all_kept (stages_stand l)) (sights (M.values rest))) (sym turn) ∙ h.fit);
})
  where
    turn : reverse todo ≡ s ∷ reverse back
    turn = ap reverse e ∙ turned_push back s

pub restoring_end : (ss : List Stage) (vs : List (M.Value ℕ)) (done todo : List Stage) (rest : List (M.Value ℕ)) → todo ≡ [] → Restoring ss vs done todo rest → RestoresAll ss vs done
restoring_end ss vs done todo rest e h = record {
  stages = sym (append-nil (stages_stand done)) ∙ ap (λ l. stages_stand done ++ stages_stand (reverse l)) (sym e) ∙ h.stages;
  states = sym (append-nil (states_stand done)) ∙ ap (λ l. states_stand done ++ replaced (states_stand (reverse l)) rest) (sym e) ∙ h.states;
}

-- ## In the order of the stages

pub back_again : (ss back : List Stage) → back ≡ reverse ss → reverse back ≡ ss
back_again ss back e = ap reverse e ∙ reverse-reverse ss

pub fits_back : (ss back : List Stage) (vs : List (M.Value ℕ)) → back ≡ reverse ss → are_states (all_kept (stages_stand ss)) (sights (M.values vs)) ≡ true → are_states (all_kept (stages_stand (reverse back))) (sights (M.values vs)) ≡ true
fits_back ss back vs e h = ap (λ l. are_states (all_kept (stages_stand l)) (sights (M.values vs))) (back_again ss back e) ∙ h

pub all_back : (ss back ts : List Stage) (vs : List (M.Value ℕ)) → back ≡ reverse ss → RestoresAll (reverse back) vs ts → RestoresAll ss vs ts
all_back ss back ts vs e h = subst (λ l. RestoresAll l vs ts) (back_again ss back e) h

pub fewer_left : (todo back : List Stage) (s : Stage) → todo ≡ back ++ s ∷ [] → length back < length todo
fewer_left todo back s e = let n : length todo ≡ length back + 1 = ap length e ∙ length_push back s in omega (arith, n)

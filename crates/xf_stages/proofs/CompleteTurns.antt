-- The completion, and what is at its end.
use Rattle.std.proofs.Common.{◌≡◌, ℕ, zero, suc, ◌+◌, ◌-◌, ◌*◌, ◌≤◌, ◌<◌, nat_lt, Bool, true, false, ◌||◌, List, [], ◌∷◌, ◌++◌, length, take, drop, slice_index_or, refl, ap, sym, ◌∙◌, subst, arith}
use Rattle.std.proofs.lemmas.List.{length-map, length-set, drop_more, drop_all, drop_at, drop-map, length-take-le}
use Rattle.seq_values.specs.Model as M
use Rattle.seq_values.specs.Plain.{plain}
use Rattle.seq_values.specs.declared.value.Value.{Value}
use Rattle.seq_plan.specs.Plan.{Plan}
use Rattle.seq_plan.specs.Stages.{Sink, Onward, enter, complete}
use Rattle.seq_turns.specs.Turning.{arrives}
use Rattle.seq_turns.specs.declared.proper.Proper.{Proper}
use Rattle.xf_stages.specs.Left.{at_end, at_rest, stages_stand, states_stand, stage_value, state_value, from_stage, waiting, after_input, through, entering, states_in}
use Rattle.xf_stages.specs.Flowing.{Leads, completing, CompletesFrom, CompletesAll, GroupAt, first_has_group, has_group, is_some, flow_weight, enter_weight, weight, to_complete, Puts}
use Rattle.xf_stages.specs.declared.state.Flow.{Flow}
use Rattle.xf_stages.specs.declared.state.Passing.{Passing}
use Rattle.xf_stages.specs.declared.state.Passing.TheVariants as G
use Rattle.xf_stages.specs.declared.state.Purpose.TheVariants as P
use Rattle.xf_stages.specs.declared.state.Stage.{Stage}
use Rattle.xf_stages.specs.declared.state.Stage.TheVariants as S
use Rattle.xf_stages.specs.declared.state.Stages.{Stages}
use Rattle.xf_stages.specs.declared.state.StageTurn.TheVariants as R
use Rattle.xf_stages.specs.declared.state.UnderWay.TheVariants as U
use Rattle.xf_stages.proofs.EffectTurns.{puts_stages, puts_long, behind, rest_stages, rests_as}
use Rattle.xf_stages.proofs.Leading.{leads_same, leads_at, same_plan}

pub some_items : {A : Type 0} (xs : List A) (b : Bool) → b ≡ nat_lt 0 (length xs) → b ≡ is_some xs
some_items [] b e = e ∙ grind arith
some_items (x ∷ xs) b e = e ∙ grind arith

pub group_there : (xs : List Stage) (at : ℕ) (s : Stage) (b : Bool) → at < length xs → s ≡ slice_index_or xs at s → b ≡ has_group s → b ≡ first_has_group (drop at xs)
group_there xs at s b w e h = h ∙ ap has_group e ∙ ap first_has_group (sym (drop_more xs at s w))

-- ## One stage is completed

-- a stage without a group passes nothing on
passes_none : (s : Stage) (later states : List (M.Value ℕ)) (sink : Sink ℕ) (k : Sink ℕ → Plan ℕ) → has_group s ≡ false → complete (stage_value s ∷ later) (state_value s ∷ states) sink k ≡ complete later states sink k
passes_none (S.Applies P.Map f) later states sink k h = refl
passes_none (S.Applies P.Filter f) later states sink k h = refl
passes_none (S.Applies P.Remove f) later states sink k h = refl
passes_none (S.Applies P.Keep f) later states sink k h = refl
passes_none (S.Applies P.TakeWhile f) later states sink k h = refl
passes_none (S.Applies P.Mapcat f) later states sink k h = refl
passes_none (S.Take n left) later states sink k h = refl
passes_none (S.Drop n left) later states sink k h = refl
passes_none (S.DropWhile p drops) later states sink k h = refl
passes_none S.Cat later states sink k h = refl
passes_none (S.ReducerTake n left) later states sink k h = refl
passes_none (S.PartitionAll g) later states sink k h = by g.items refl
  where
    by : (xs : List Value) → g.items ≡ xs → complete (stage_value (S.PartitionAll g) ∷ later) (state_value (S.PartitionAll g) ∷ states) sink k ≡ complete later states sink k
    by [] e = rw e refl
    by (x ∷ xs) e = let q : is_some (x ∷ xs) ≡ false = ap is_some (sym e) ∙ h in absurd cc

-- a stage with a group passes it on
passes_some : (s : Stage) (later states : List (M.Value ℕ)) (sink : Sink ℕ) (k : Sink ℕ → Plan ℕ) → has_group s ≡ true → complete (stage_value s ∷ later) (state_value s ∷ states) sink k ≡ enter later states sink (state_value s) (λ new after done. complete later new after k)
passes_some (S.PartitionAll g) later states sink k h = by g.items refl
  where
    by : (xs : List Value) → g.items ≡ xs → complete (stage_value (S.PartitionAll g) ∷ later) (state_value (S.PartitionAll g) ∷ states) sink k ≡ enter later states sink (state_value (S.PartitionAll g)) (λ new after done. complete later new after k)
    by [] e = let q : is_some {A = Value} [] ≡ true = ap is_some (sym e) ∙ h in absurd cc
    by (x ∷ xs) e = rw e refl
passes_some _ later states sink k h = absurd cc

-- the stages and the states from a place on, by the stage there
first_stage : (f : Flow) (at : ℕ) (s : Stage) → drop at f.stages.items ≡ s ∷ drop (at + 1) f.stages.items → drop at (stages_stand f.stages.items) ≡ stage_value s ∷ drop (at + 1) (stages_stand f.stages.items)
first_stage f at s e = drop-map stage_value at f.stages.items ∙ ap stages_stand e ∙ ap (λ l. stage_value s ∷ l) (sym (drop-map stage_value (at + 1) f.stages.items))

first_state : (f : Flow) (at : ℕ) (s : Stage) → drop at f.stages.items ≡ s ∷ drop (at + 1) f.stages.items → drop at (states_stand f.stages.items) ≡ state_value s ∷ drop (at + 1) (states_stand f.stages.items)
first_state f at s e = drop-map state_value at f.stages.items ∙ ap states_stand e ∙ ap (λ l. state_value s ∷ l) (sym (drop-map state_value (at + 1) f.stages.items))

-- ## The first stage that has a group

pub completes_here : (f : Flow) (at : ℕ) → CompletesFrom f at at
completes_here f at = λ sink k. refl

there : (xs : List Stage) (at : ℕ) → at < length xs → (s : Stage) × (drop at xs ≡ s ∷ drop (at + 1) xs)
there xs at b = by (drop at xs) refl
  where
    by : (ys : List Stage) → drop at xs ≡ ys → (s : Stage) × (drop at xs ≡ s ∷ drop (at + 1) xs)
    by [] e = absurd (none_left xs at b e)
      where
        none_left : (xs : List Stage) (at : ℕ) → at < length xs → drop at xs ≡ [] → ⊥
        none_left [] at b e = absurd (omega arith)
        none_left (x ∷ xs) zero b e = absurd cc
        none_left (x ∷ xs) (suc n) b e = none_left xs n (omega arith) e
    by (s ∷ ss) e = (s, drop_more xs at s b ∙ ap (λ y. y ∷ drop (at + 1) xs) (same_first (sym (drop_more xs at s b) ∙ e)))
      where
        same_first : {a b : Stage} {xs ys : List Stage} → a ∷ xs ≡ b ∷ ys → a ≡ b
        same_first q = cc

pub completes_next : (f : Flow) (from at : ℕ) (b : Bool) → at < length f.stages.items → b ≡ first_has_group (drop at f.stages.items) → b ≡ false → CompletesFrom f from at → CompletesFrom f from (at + 1)
completes_next f from at b w e n h = λ sink k. h sink k ∙ step sink k
  where
    s : Stage
    s = (there f.stages.items at w).0

    at_s : drop at f.stages.items ≡ s ∷ drop (at + 1) f.stages.items
    at_s = (there f.stages.items at w).1

    none : has_group s ≡ false
    none = ap first_has_group (sym at_s) ∙ sym e ∙ n

    step : (sink : Sink ℕ) (k : Sink ℕ → Plan ℕ) → complete (drop at (stages_stand f.stages.items)) (drop at (states_stand f.stages.items)) sink k ≡ complete (drop (at + 1) (stages_stand f.stages.items)) (drop (at + 1) (states_stand f.stages.items)) sink k
    step sink k = (λ i. complete (first_stage f at s at_s i) (first_state f at s at_s i) sink k) ∙ passes_none s (drop (at + 1) (stages_stand f.stages.items)) (drop (at + 1) (states_stand f.stages.items)) sink k none

pub completes_end : (f : Flow) (from at : ℕ) → length f.stages.items ≤ at → CompletesFrom f from at → CompletesAll f from
completes_end f from at b h = λ sink k. h sink k ∙ (λ i. complete (none i) (drop at (states_stand f.stages.items)) sink k)
  where
    none : drop at (stages_stand f.stages.items) ≡ []
    none = drop_all at (stages_stand f.stages.items) (subst (λ n. n ≤ at) (sym (length-map f.stages.items stage_value)) b)

-- ## A group is passed on

pub group_leads : (f h g : Flow) (at : ℕ) (s t : Stage) (v : Proper) → at < length f.stages.items → drop at f.stages.items ≡ s ∷ drop (at + 1) f.stages.items → first_has_group (drop at f.stages.items) ≡ true → f.walks.items ≡ [] → Puts f at t h → stage_value t ≡ stage_value s → plain v.value ≡ state_value s → g.stages.items ≡ h.stages.items → g.walks.items ≡ h.walks.items → g.under_way ≡ U.Completion (at + 1) → Leads [] (completing f at) (G.Entering g (at + 1) v)
group_leads f h g at s t v b e some w p same ev es ew eu = record { goes = λ sink k. same_plan (on_plan sink k); step = tt; rests = rests_as g ∙ ap (λ u. rest_stages u (stages_stand g.stages.items)) eu }
  where
    has : has_group s ≡ true
    has = ap first_has_group (sym e) ∙ some

    stages : stages_stand g.stages.items ≡ stages_stand f.stages.items
    stages = ap stages_stand es ∙ puts_stages f h at s t b e p same

    states : drop (at + 1) (states_stand g.stages.items) ≡ drop (at + 1) (states_stand f.stages.items)
    states = ap (λ l. drop (at + 1) (states_stand l)) es ∙ behind f h at s t b e p same

    long : at + 1 ≤ length (states_stand g.stages.items)
    long =
        let q : length (states_stand g.stages.items) ≡ length f.stages.items = length-map g.stages.items state_value ∙ ap length es ∙ puts_long f h at t p in
        omega (arith, q, b)

    later : (new : List (M.Value ℕ)) → drop (at + 1) (take (at + 1) (states_stand g.stages.items) ++ new) ≡ new
    later new = drop_at (take (at + 1) (states_stand g.stages.items)) new (at + 1) (length-take-le (at + 1) (states_stand g.stages.items) long)

    after : (k : Onward ℕ) → after_input g k ≡ at_end (U.Completion (at + 1)) (stages_stand f.stages.items) k
    after k = λ i. waiting ((ew ∙ p.walks ∙ w) i) (stages i) (at_end (eu i) (stages i) k)

    on_plan : (sink : Sink ℕ) (k : Onward ℕ) → completing f at sink k ≡ entering g (at + 1) (plain v.value) sink k
    on_plan sink k =
        (λ i. complete (first_stage f at s e i) (first_state f at s e i) sink (λ after. k [] after true))
        ∙ passes_some s (drop (at + 1) (stages_stand f.stages.items)) (drop (at + 1) (states_stand f.stages.items)) sink (λ after. k [] after true) has
        ∙ (λ i. enter (drop (at + 1) (sym stages i)) (sym states i) sink (sym ev i) (λ new out done. complete (drop (at + 1) (stages_stand f.stages.items)) (sym (later new) i) out (λ last. k [] last true)))
        ∙ (λ i. enter (drop (at + 1) (stages_stand g.stages.items)) (drop (at + 1) (states_stand g.stages.items)) sink (plain v.value) (λ new out done. sym (after k) i (take (at + 1) (states_stand g.stages.items) ++ new) out done))

pub group_lighter : (f h g : Flow) (at : ℕ) (t : Stage) → at < length f.stages.items → f.walks.items ≡ [] → Puts f at t h → g.stages.items ≡ h.stages.items → g.walks.items ≡ h.walks.items → g.under_way ≡ U.Completion (at + 1) → enter_weight g (at + 1) ≤ (length f.stages.items - (at + 1)) * (length f.stages.items + 3) + length f.stages.items + 1
group_lighter f h g at t b w p es ew eu = omega (arith, q, b)
  where
    n : length g.stages.items ≡ length f.stages.items
    n = ap length es ∙ puts_long f h at t p

    q : enter_weight g (at + 1) ≡ (length f.stages.items - (at + 1)) * (length f.stages.items + 3) + 0 + (length f.stages.items - (at + 1)) + 2
    q = λ i. to_complete (eu i) (n i) * (n i + 3) + length ((ew ∙ p.walks ∙ w) i) + (n i - (at + 1)) + 2

-- ## Nothing waits

ends_as : (f : Flow) (from : ℕ) (done : Bool) (sink : Sink ℕ) (k : Onward ℕ) → f.walks.items ≡ [] → f.under_way ≡ U.Completion from → through f done sink k ≡ completing f from sink k
ends_as f from done sink k w u = λ i. waiting (w i) (stages_stand f.stages.items) (at_end (u i) (stages_stand f.stages.items) k) (states_stand f.stages.items) sink done

no_rest : (f : Flow) (from : ℕ) → f.under_way ≡ U.Completion from → at_rest f ≡ []
no_rest f from u = rests_as f ∙ ap (λ v. rest_stages v (stages_stand f.stages.items)) u

pub none_completes : (f : Flow) (from : ℕ) (s : Stages) → f.walks.items ≡ [] → f.under_way ≡ U.Completion from → CompletesAll f from → s.stages.items ≡ [] → s.done ≡ true → (done : Bool) → Leads (at_rest f) (through f done) (G.Turned (R.Rest s))
none_completes f from s w u h es ed done = record {
  goes = λ sink k. same_plan (ends_as f from done sink k w u ∙ h sink (λ after. k [] after true) ∙ (λ i. k (states_stand (sym es i)) sink (sym ed i)));
  step = tt;
  rests = ap stages_stand es ∙ sym (no_rest f from u);
}

pub some_completes : (f : Flow) (from at : ℕ) (p : Passing) → f.walks.items ≡ [] → f.under_way ≡ U.Completion from → GroupAt f from at → Leads [] (completing f at) p → (done : Bool) → Leads (at_rest f) (through f done) p
some_completes f from at p w u g h done = leads_at (sym (no_rest f from u)) (leads_same (λ sink k. ends_as f from done sink k w u ∙ g.completes sink (λ after. k [] after true)) h)

times_less : (a b m : ℕ) → a + 1 ≤ b → a * m + m ≤ b * m
times_less a b m h =
    let q : b ≡ a + 1 + (b - (a + 1)) = omega (arith, h) in
    subst (λ c. a * m + m ≤ c * m) (sym q) (grind arith)

pub some_lighter : (f : Flow) (from at n : ℕ) → f.under_way ≡ U.Completion from → GroupAt f from at → n ≤ (length f.stages.items - (at + 1)) * (length f.stages.items + 3) + length f.stages.items + 1 → n < flow_weight f + 1
some_lighter f from at n u g h =
    let a : (length f.stages.items - (at + 1)) + 1 ≤ length f.stages.items - from = omega (arith, g.behind, g.within) in
    let t : (length f.stages.items - (at + 1)) * (length f.stages.items + 3) + (length f.stages.items + 3) ≤ (length f.stages.items - from) * (length f.stages.items + 3) = times_less (length f.stages.items - (at + 1)) (length f.stages.items - from) (length f.stages.items + 3) a in
    let q : flow_weight f ≡ (length f.stages.items - from) * (length f.stages.items + 3) + length f.walks.items = ap (λ v. to_complete v (length f.stages.items) * (length f.stages.items + 3) + length f.walks.items) u in
    omega (arith, t, q, h)

pub input_ends : (f : Flow) (last done : Bool) (s : Stages) → f.walks.items ≡ [] → f.under_way ≡ U.Input last → s.stages.items ≡ f.stages.items → s.done ≡ (last || done) → Leads (at_rest f) (through f done) (G.Turned (R.Rest s))
input_ends f last done s w u es ed = record {
  goes = λ sink k. same_plan ((λ i. waiting (w i) (stages_stand f.stages.items) (at_end (u i) (stages_stand f.stages.items) k) (states_stand f.stages.items) sink done) ∙ (λ i. k (states_stand (sym es i)) sink (sym ed i)));
  step = tt;
  rests = ap stages_stand es ∙ sym (rests_as f ∙ ap (λ v. rest_stages v (stages_stand f.stages.items)) u);
}

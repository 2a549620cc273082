-- Stages keep to well-formed values, and each state stays one that its stage may have.
use Rattle.std.proofs.Common.{◌≡◌, ℕ, ℤ, pos, ◌-ℤ◌, int_le, int_lt, Bool, true, false, cond, List, [], ◌∷◌, ◌++◌, length, Some, refl, ap, sym, ◌∙◌, subst, arith, append-nil, append_assoc}
use Rattle.std.proofs.lemmas.Int.{ints}
use Rattle.seq_values.specs.Sight.{Kept, group_of, a_function, kept_by, kept_by_all}
use Rattle.seq_values.specs.WellFormed.{binds_stage}
use Rattle.seq_values.specs.declared.words.Builtin.TheVariants as B
use Rattle.seq_values.specs.declared.words.Target.{Target}
use Rattle.seq_values.specs.declared.words.Target.TheVariants as T
use Rattle.seq_values.specs.declared.words.XfKind.{XfKind}
use Rattle.seq_values.specs.declared.words.XfKind.TheVariants as X
use Rattle.seq_values.specs.Model.{Value, vector, Values, no_values, list, values}
use Rattle.seq_plan.specs.Plan.{Plan, enter_from}
use Rattle.seq_plan.specs.Nodes.{with_value}
use Rattle.seq_plan.specs.Stages.{Effect, passes, passes_last, passes_each, passes_nothing, is_done, Sink, Onward, is_transducer, are_transducers, stages_of, stages_of_all, with_stages, begins_with, fresh, group_one, on_input, stage_on, is_reduced, unwrapped, output, answer_of, outputs_of, entered, each_from, enter_each, by_effect, enter, each_round, enter_round, complete}
use Rattle.seq_plan.specs.WellFormed.{sight, sights, Well, well_nil, well_bool, well_int, well_vector, well_function, well_reduced, WellAll, well_none, well_more, WellList, well_end, well_item}
use Rattle.seq_plan.specs.Keeping.{Stage, of_transducer, of_take, kept_of, is_kept, Staged, no_stage, stage_then, Way, reducing, WellSink, well_reduces, well_gathers, Entering, entering, Entered, has_entered, Given, Keeps, keeps_seq, keeps_call, keeps_go, keeps_give, keeps_throw, KeepsRound, keeps_end, keeps_visits}
use Rattle.seq_plan.proofs.FitLemmas.{first_of_both, second_of_both}
use Rattle.seq_plan.proofs.StageLoops.{list_values, standing_enters}
use Rattle.seq_plan.proofs.WellNodes.{well-list, well-values, well-append, well-first_of, well-rest_of, keeps-cond, keeps-either, keeps-if_nil, keeps-if_true, keeps-round_at, keeps-with_value, keeps-with_members}

-- what all of the stages keep, in their order
abbrev pub all_kept : {C : Type 0} → List (Value C) → List Kept
all_kept [] = []
all_kept (stage ∷ stages) = kept_of stage ++ all_kept stages

fewer : (n : ℤ) (m : ℕ) → int_le n (pos m) ≡ false → int_lt (pos m) n ≡ true
fewer n m h = grind (arith, ints)

module _ {C : Type 0} where
  pub data AreStages : List (Value C) → Type 0 where
    stages_end : AreStages []
    stages_item : {stage : Value C} {stages : List (Value C)} → Stage stage → AreStages stages → AreStages (stage ∷ stages)

  -- a transducer is seen as what its stages keep
  pub data SeenAs (v : Value C) : Type 0 where
    seen_as : {t : Target} → sight v ≡ a_function t (Some (all_kept (stages_of v))) → SeenAs v

  pub data WellEffect : Effect C → Type 0 where
    well_passes : {x : Value C} → Well x → WellEffect (passes x)
    well_passes_last : {x : Value C} → Well x → WellEffect (passes_last x)
    well_passes_each : {x : Value C} → Well x → WellEffect (passes_each x)
    well_passes_nothing : WellEffect passes_nothing
    well_is_done : WellEffect is_done

  -- ## The stages of a transducer

  pub are_appended : {fs gs : List (Value C)} → AreStages fs → AreStages gs → AreStages (fs ++ gs)
  are_appended stages_end h = h
  are_appended (stages_item p q) h = stages_item p (are_appended q h)

  mutual
    pub are_stages : {v : Value C} → Well v → AreStages (stages_of v)
    are_stages (well_function {t = T.Xf kind} b d h) = stages_item (of_transducer (well_function b d h)) stages_end
    are_stages (well_function {t = T.Builtin B.Cat} b d h) = stages_item (of_transducer (well_function refl refl well_none)) stages_end
    are_stages (well_function {t = T.Comp} b d h) = are_all_stages h
    are_stages _ = stages_end

    are_all_stages : {xs : Values C} → WellAll xs → AreStages (stages_of_all xs)
    are_all_stages well_none = stages_end
    are_all_stages (well_more p q) = are_appended (are_stages p) (are_all_stages q)

  all_appended : (fs gs : List (Value C)) → all_kept (fs ++ gs) ≡ all_kept fs ++ all_kept gs
  all_appended [] gs = refl
  all_appended (f ∷ fs) gs = ap (λ l. kept_of f ++ l) (all_appended fs gs) ∙ sym (append_assoc (kept_of f) (all_kept fs) (all_kept gs))

  mutual
    pub seen : {v : Value C} → Well v → is_transducer v ≡ true → SeenAs v
    seen (well_function {t = T.Xf kind} {xs = xs} b d h) e = seen_as (ap (λ l. a_function (T.Xf kind) (Some l)) (sym (append-nil (kept_by kind (sights xs)))))
    seen (well_function {t = T.Builtin B.Cat} b d well_none) e = seen_as refl
    seen (well_function {t = T.Builtin B.Identity} b d well_none) e = seen_as refl
    seen (well_function {t = T.Comp} b d h) e = seen_as (ap (λ o. a_function T.Comp o) (all_seen h e))
    seen (well_function {t = T.Builtin B.Cat} b d (well_more p q)) e = absurd cc
    seen (well_function {t = T.Builtin B.Identity} b d (well_more p q)) e = absurd cc
    seen _ e = absurd cc

    all_seen : {xs : Values C} → WellAll xs → are_transducers xs ≡ true → kept_by_all (sights xs) ≡ Some (all_kept (stages_of_all xs))
    all_seen well_none e = refl
    all_seen (well_more {x = x} {xs = xs} p q) e = by (seen p (first_of_both _ _ e)) (all_seen q (second_of_both (is_transducer x) _ e))
      where
        by : SeenAs x → kept_by_all (sights xs) ≡ Some (all_kept (stages_of_all xs)) → kept_by_all (sight x ∷ sights xs) ≡ Some (all_kept (stages_of x ++ stages_of_all xs))
        by (seen_as s) r = rw (s, r, all_appended (stages_of x) (stages_of_all xs))

  -- ## What a stage begins with

  pub begins_well : {stage : Value C} → Stage stage → Well (begins_with stage) × (is_kept (kept_of stage) (sight (begins_with stage)) ≡ true)
  begins_well (of_transducer {kind = X.Take} (well_function b d (well_more well_int well_none))) = (well_int, refl)
  begins_well (of_transducer {kind = X.Drop} (well_function b d (well_more well_int well_none))) = (well_int, refl)
  begins_well (of_transducer {kind = X.DropWhile} (well_function b d (well_more p well_none))) = (well_bool, refl)
  begins_well (of_transducer {kind = X.PartitionAll} (well_function b d (well_more well_int well_none))) = (well_vector refl well_none, b)
  begins_well (of_transducer {kind = X.Map} h) = (well_nil, refl)
  begins_well (of_transducer {kind = X.Filter} h) = (well_nil, refl)
  begins_well (of_transducer {kind = X.Remove} h) = (well_nil, refl)
  begins_well (of_transducer {kind = X.Keep} h) = (well_nil, refl)
  begins_well (of_transducer {kind = X.TakeWhile} h) = (well_nil, refl)
  begins_well (of_transducer {kind = X.Mapcat} h) = (well_nil, refl)
  begins_well (of_transducer {kind = X.Cat} h) = (well_nil, refl)
  begins_well of_take = (well_int, refl)
  begins_well (of_transducer (well_function b d h)) = absurd cc

  pub begin_staged : {stages : List (Value C)} → AreStages stages → Staged stages (fresh stages)
  begin_staged stages_end = no_stage
  begin_staged (stages_item p q) = stage_then p (begins_well p).0 (begins_well p).1 (begin_staged q)

  -- ## A list and its values

  pub staged_values : {stages states : List (Value C)} → Staged stages states → Staged (list (values stages)) states
  staged_values no_stage = no_stage
  staged_values (stage_then p w i q) = stage_then p w i (staged_values q)

  pub staged_list : {stages states : List (Value C)} → Staged stages states → Staged stages (list (values states))
  staged_list no_stage = no_stage
  staged_list (stage_then p w i q) = stage_then p w i (staged_list q)

  pub of_values : (stages : List (Value C)) {states : List (Value C)} → Staged (list (values stages)) states → Staged stages states
  of_values [] no_stage = no_stage
  of_values (stage ∷ stages) (stage_then p w i q) = stage_then p w i (of_values stages q)

  -- ## What a stage does

  -- what goes on after an input of a stage that keeps so much, and after an input of some stages
  abbrev AfterInput : (Value C → Type 0) → List Kept → (Value C → Effect C → Plan C) → Type 0
  AfterInput Asked kept k = (s : Value C) → Well s → is_kept kept (sight s) ≡ true → (e : Effect C) → WellEffect e → Keeps Asked (k s e)

  abbrev pub KeepsOnward : (Value C → Type 0) → List (Value C) → Way → Onward C → Type 0
  KeepsOnward Asked stages way k = (states : List (Value C)) → Staged stages states → (sink : Sink C) → WellSink way sink → (done : Bool) → Keeps Asked (k states sink done)

  back : (stages : List (Value C)) {way : Way} {v : Value C} → Entered (list (values stages)) way v → Entered stages way v
  back stages (has_entered st w) = has_entered (of_values stages st) w

  well-unwrapped : {v : Value C} → Well v → Well (unwrapped v)
  well-unwrapped (well_reduced d h) = h
  well-unwrapped well_nil = well_nil
  well-unwrapped h = h

  module _ {Asked : Value C → Type 0} where
    pub keeps-with_stages : {v : Value C} → Well v → (k : List (Value C) → Plan C) → (is_transducer v ≡ true → AreStages (stages_of v) → Keeps Asked (k (stages_of v))) → Keeps Asked (with_stages v k)
    keeps-with_stages {v = v} h k f = keeps-cond (is_transducer v) (λ e. keeps-with_members (stages_of v) k (f e (are_stages h))) (λ e. keeps_throw)

    keeps-group_one : (n : ℤ) → int_lt (pos 0) n ≡ true → {xs : List (Value C)} → WellList xs → {k : Value C → Effect C → Plan C} → AfterInput Asked (group_of n ∷ []) k → Keeps Asked (group_one n xs k)
    keeps-group_one n b {xs = xs} h {k = k} f =
        keeps-with_members xs (λ xs. with_value (vector (values xs)) (λ v. cond (int_le n (pos (length xs))) (k (vector no_values) (passes v)) (k v passes_nothing)))
        (keeps-with_value (vector (values xs)) (λ v. cond (int_le n (pos (length xs))) (k (vector no_values) (passes v)) (k v passes_nothing)) (λ d.
        keeps-cond (int_le n (pos (length xs)))
        (λ e. f _ (well_vector refl well_none) b _ (well_passes (well_vector d (well-values h))))
        (λ e. f _ (well_vector d (well-values h)) (ap (λ l. int_lt (pos (length l)) n) (list_values xs) ∙ fewer n (length xs) e) _ well_passes_nothing)))

    keeps-on_input : (kind : XfKind) {bs : Values C} → WellAll bs → binds_stage kind (sights bs) ≡ true → {u : Value C} → Well u → is_kept (kept_by kind (sights bs)) (sight u) ≡ true → {x : Value C} → Well x → {k : Value C → Effect C → Plan C} → AfterInput Asked (kept_by kind (sights bs)) k → Keeps Asked (on_input (T.Xf kind) (list bs) u x k)
    keeps-on_input X.Map (well_more f well_none) b u i x e = keeps_call f (well_item x well_end) (λ y w. e _ u i _ (well_passes w))
    keeps-on_input X.Filter (well_more f well_none) b u i x e = keeps_call f (well_item x well_end) (λ y w. keeps-if_true y (e _ u i _ (well_passes x)) (e _ u i _ well_passes_nothing))
    keeps-on_input X.Remove (well_more f well_none) b u i x e = keeps_call f (well_item x well_end) (λ y w. keeps-if_true y (e _ u i _ well_passes_nothing) (e _ u i _ (well_passes x)))
    keeps-on_input X.Keep (well_more f well_none) b u i x e = keeps_call f (well_item x well_end) (λ y w. keeps-if_nil y (e _ u i _ well_passes_nothing) (e _ u i _ (well_passes w)))
    keeps-on_input X.Take (well_more n well_none) b (well_int {n = rest}) i x e = keeps-either (int_le rest (pos 0)) (e _ well_int refl _ well_is_done) (keeps-either (int_le (rest -ℤ pos 1) (pos 0)) (e _ well_int refl _ (well_passes_last x)) (e _ well_int refl _ (well_passes x)))
    keeps-on_input X.TakeWhile (well_more f well_none) b u i x e = keeps_call f (well_item x well_end) (λ y w. keeps-if_true y (e _ u i _ (well_passes x)) (e _ u i _ well_is_done))
    keeps-on_input X.Drop (well_more n well_none) b (well_int {n = rest}) i x e = keeps-either (int_le rest (pos 0)) (e _ well_int refl _ (well_passes x)) (e _ well_int refl _ well_passes_nothing)
    keeps-on_input X.DropWhile (well_more f well_none) b (well_bool {b = true}) i x e = keeps_call f (well_item x well_end) (λ y w. keeps-if_true y (e _ well_bool refl _ well_passes_nothing) (e _ well_bool refl _ (well_passes x)))
    keeps-on_input X.DropWhile (well_more f well_none) b (well_bool {b = false}) i x e = e _ well_bool refl _ (well_passes x)
    keeps-on_input X.Mapcat (well_more f well_none) b u i x e = keeps_call f (well_item x well_end) (λ y w. e _ u i _ (well_passes_each w))
    keeps-on_input X.Cat well_none b u i x e = e _ u i _ (well_passes_each x)
    keeps-on_input X.PartitionAll (well_more (well_int {n = n}) well_none) b (well_vector d group) i x e = keeps-group_one n b (well-append (well-list group) (well_item x well_end)) e
    keeps-on_input _ _ _ _ _ _ _ = keeps_throw

    keeps-stage_on : {stage : Value C} → Stage stage → {u : Value C} → Well u → is_kept (kept_of stage) (sight u) ≡ true → {x : Value C} → Well x → {k : Value C → Effect C → Plan C} → AfterInput Asked (kept_of stage) k → Keeps Asked (stage_on stage u x k)
    keeps-stage_on (of_transducer {kind = kind} (well_function b d h)) u i x e = keeps-on_input kind h b u i x e
    keeps-stage_on of_take (well_int {n = rest}) i x e = keeps-either (int_le rest (pos 0)) (e _ well_int refl _ well_is_done) (e _ well_int refl _ (well_passes x))
    keeps-stage_on of_take _ i x e = keeps_throw

    -- ## Through all stages

    keeps-output : {way : Way} {sink : Sink C} → WellSink way sink → {x : Value C} → Well x → {k : Sink C → Bool → Plan C} → ((s : Sink C) → WellSink way s → (done : Bool) → Keeps Asked (k s done)) → Keeps Asked (output sink x k)
    keeps-output (well_reduces f a) x q = keeps_call f (well_item a (well_item x well_end)) (λ y w. q _ (well_reduces f (well-unwrapped w)) (is_reduced y))
    keeps-output (well_gathers xs) x q = q _ (well_gathers (well-append xs (well_item x well_end))) false

    keeps-entered : {stages : List (Value C)} {way : Way} {v : Value C} → Entered stages way v → (k : Onward C) → KeepsOnward Asked stages way k → Keeps Asked (entered k v)
    keeps-entered (has_entered {states = states} {sink = sink} {done = done} st w) k f = subst (λ p. Keeps Asked p) (sym (standing_enters k states sink done)) (f states st sink w done)

    keeps-each_from : {stages states : List (Value C)} → Staged stages states → {way : Way} {sink : Sink C} → WellSink way sink → {s : Value C} → Well s → {k : Value C → Plan C} → ((v : Value C) → Entered stages way v → Keeps Asked (k v)) → Keeps Asked (each_from stages states sink s k)
    keeps-each_from {stages = stages} st (well_reduces f a) h q = keeps_go (entering (staged_list (staged_values st)) h (well_reduces f a)) (λ v g. q v (back stages g))
    keeps-each_from {stages = stages} st (well_gathers l) h q = keeps_go (entering (staged_list (staged_values st)) h (well_gathers l)) (λ v g. q v (back stages g))

    pub keeps-enter_each : {stages states : List (Value C)} → Staged stages states → {way : Way} {sink : Sink C} → WellSink way sink → {c : Value C} → Well c → {k : Onward C} → KeepsOnward Asked stages way k → Keeps Asked (enter_each stages states sink c k)
    keeps-enter_each st w c {k = k} f = keeps_seq c (λ s ws e. keeps-each_from st w ws (λ v g. keeps-entered g k f))

    keeps-by_effect : {one last each : Value C → Plan C} {nothing ends : Plan C} → ((x : Value C) → Well x → Keeps Asked (one x)) → ((x : Value C) → Well x → Keeps Asked (last x)) → ((x : Value C) → Well x → Keeps Asked (each x)) → Keeps Asked nothing → Keeps Asked ends → {e : Effect C} → WellEffect e → Keeps Asked (by_effect one last each nothing ends e)
    keeps-by_effect a b c n d (well_passes p) = a _ p
    keeps-by_effect a b c n d (well_passes_last p) = b _ p
    keeps-by_effect a b c n d (well_passes_each p) = c _ p
    keeps-by_effect a b c n d well_passes_nothing = n
    keeps-by_effect a b c n d well_is_done = d

    pub keeps-enter : {stages states : List (Value C)} → Staged stages states → {way : Way} {sink : Sink C} → WellSink way sink → {x : Value C} → Well x → {k : Onward C} → KeepsOnward Asked stages way k → Keeps Asked (enter stages states sink x k)
    keeps-enter no_stage w x f = keeps-output w x (λ s ws done. f _ no_stage s ws done)
    keeps-enter (stage_then p u i q) w x f = keeps-stage_on p u i x (λ new n m e we. keeps-by_effect
        (λ y wy. keeps-enter q w wy (λ states st s ws done. f _ (stage_then p n m st) s ws done))
        (λ y wy. keeps-enter q w wy (λ states st s ws done. f _ (stage_then p n m st) s ws true))
        (λ c wc. keeps-enter_each q w wc (λ states st s ws done. f _ (stage_then p n m st) s ws done))
        (f _ (stage_then p n m q) _ w false)
        (f _ (stage_then p n m q) _ w true)
        we)

    pub keeps-complete : (stages : List (Value C)) {states : List (Value C)} → Staged stages states → {way : Way} {sink : Sink C} → WellSink way sink → {k : Sink C → Plan C} → ((s : Sink C) → WellSink way s → Keeps Asked (k s)) → Keeps Asked (complete stages states sink k)
    keeps-complete [] no_stage w f = f _ w
    keeps-complete (stage ∷ later) (stage_then (of_transducer {kind = X.PartitionAll} p) (well_vector d (well_more x xs)) i q) w f =
        keeps-enter q w (well_vector d (well_more x xs)) (λ states st s ws done. keeps-complete later st ws f)
    keeps-complete (stage ∷ later) (stage_then p u i q) w f = keeps-complete later q w f

  pub well-answer_of : {sink : Sink C} → WellSink reducing sink → Well (answer_of sink)
  well-answer_of (well_reduces f a) = a

  pub well-outputs_of : {way : Way} {sink : Sink C} → WellSink way sink → WellList (outputs_of sink)
  well-outputs_of (well_reduces f a) = well_item a well_end
  well-outputs_of (well_gathers h) = h

  -- ## The loop of stages

  keeps-each_round : {stages states : List (Value C)} → Staged stages states → {way : Way} {sink : Sink C} → WellSink way sink → {s : Value C} → Well s → KeepsRound (Entered stages way) (each_round stages states sink s)
  keeps-each_round st w {s = s} h = keeps-round_at s (keeps_end (has_entered st w))
      (keeps_visits (keeps-enter st w (well-first_of h) (λ new st' after ws done. keeps-either done (keeps_give (has_entered st' ws)) (keeps_seq (well-rest_of h) (λ t wt e. keeps-each_from st' ws wt (λ v g. keeps_give g))))))

  pub keeps-enter_round : {xs : List (Value C)} → Entering xs → KeepsRound (Given enter_from xs) (enter_round xs)
  keeps-enter_round (entering st h (well_reduces f a)) = keeps-each_round st (well_reduces f a) h
  keeps-enter_round (entering st h (well_gathers l)) = keeps-each_round st (well_gathers (well-list (well-values l))) h

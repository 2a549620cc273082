-- How the stages of a transducer are found.
use Rattle.std.specs.declared.result.Result.{Result}
use Rattle.std.proofs.lemmas.Int.{ints}
use Rattle.std.proofs.Common.{◌≡◌, ◌≢◌, ℤ, pos, ◌<ℤ◌, int_lt, ℕ, zero, suc, ◌+◌, ◌≤◌, ◌<◌, nat_le, Bool, true, false, ◌&&◌, cond, List, [], ◌∷◌, ◌++◌, length, drop, map, Option, Some, None, IsTrue, refl, ap, sym, ◌∙◌, subst, arith, append_assoc, append-nil}
use Rattle.std.proofs.lemmas.List.{length_push, length-map, map_push}
use Rattle.seq_base.specs.declared.thrown.Thrown.TheVariants.{BadType, Overflow}
use Rattle.seq_values.specs.Model as M
use Rattle.seq_values.specs.Model.{◌&◌}
use Rattle.seq_values.specs.Plain.{plain, plains}
use Rattle.seq_values.specs.Sight.{Sight, a_function, an_int, Kept}
use Rattle.seq_values.specs.WellFormed.{binds_stage, is_size, sight_of}
use Rattle.seq_values.specs.declared.value.Value.{Value}
use Rattle.seq_values.specs.declared.words.Builtin.{Builtin}
use Rattle.seq_values.specs.declared.words.Builtin.TheVariants as B
use Rattle.seq_values.specs.declared.words.Target.TheVariants as T
use Rattle.seq_values.specs.declared.words.XfKind.TheVariants as X
use Rattle.seq_plan.specs.Keeping.{kept_of}
use Rattle.seq_plan.specs.Nodes.{with_members, longest}
use Rattle.seq_plan.specs.Plan.{Plan, throw}
use Rattle.seq_plan.specs.Stages.{begins_with, fresh, is_transducer, are_transducers, stages_of, stages_of_all, with_stages}
use Rattle.seq_plan.specs.WellFormed.{sight}
use Rattle.seq_plan.proofs.WellStages as W
use Rattle.seq_plan.proofs.WellValues.{well_formed}
use Rattle.seq_turns.specs.declared.proper.Proper.{Proper}
use Rattle.seq_turns.specs.declared.proper.ProperList.{ProperList}
use Rattle.xf_stages.specs.Left.{stage_value, state_value, stages_stand, states_stand, stages_in}
use Rattle.xf_stages.specs.Opening.{AreFresh, IfStages, LimitedTo, Opens, all_kept, kept_in, opened, seen_kept}
use Rattle.xf_stages.specs.Parts.{Begins, FreshStages, IsOpening, IsStage, OpensAll, Steps, StepsTo, each_transducer, extent, extents, extent_of_each, pending, pending_in, stages_of_each, work_weight}
use Rattle.xf_stages.specs.declared.state.Frame.{Frame}
use Rattle.xf_stages.specs.declared.state.Opened.{Opened}
use Rattle.xf_stages.specs.declared.state.Opened.TheVariants as O
use Rattle.xf_stages.specs.declared.state.Stage.{Stage}
use Rattle.xf_stages.specs.declared.state.Stage.TheVariants as S
use Rattle.xf_stages.specs.declared.state.Work.{Work}

-- ## Lists of values

pub pending_push : (fs : List Frame) (f : Frame) (more : List (M.Value ℕ)) → pending (fs ++ f ∷ []) more ≡ plains (drop f.at f.items.items) ++ pending fs more
pending_push [] f more = refl
pending_push (g ∷ fs) f more = pending_push fs f (plains (drop g.at g.items.items) ++ more)

and_more : (a b c : Bool) → (a && b) && c ≡ a && (b && c)
and_more true b c = refl
and_more false b c = refl

each_all : (xs : List (M.Value ℕ)) → are_transducers (M.values xs) ≡ each_transducer xs
each_all [] = refl
each_all (x ∷ xs) = ap (λ b. is_transducer x && b) (each_all xs)

each_both : (xs ys : List (M.Value ℕ)) → each_transducer (xs ++ ys) ≡ each_transducer xs && each_transducer ys
each_both [] ys = refl
each_both (x ∷ xs) ys = ap (λ b. is_transducer x && b) (each_both xs ys) ∙ sym (and_more (is_transducer x) (each_transducer xs) (each_transducer ys))

stages_all : (xs : List (M.Value ℕ)) → stages_of_all (M.values xs) ≡ stages_of_each xs
stages_all [] = refl
stages_all (x ∷ xs) = ap (λ l. stages_of x ++ l) (stages_all xs)

stages_both : (xs ys : List (M.Value ℕ)) → stages_of_each (xs ++ ys) ≡ stages_of_each xs ++ stages_of_each ys
stages_both [] ys = refl
stages_both (x ∷ xs) ys = ap (λ l. stages_of x ++ l) (stages_both xs ys) ∙ sym (append_assoc (stages_of x) (stages_of_each xs) (stages_of_each ys))

extent_all : (xs : List (M.Value ℕ)) → extents (M.values xs) ≡ extent_of_each xs
extent_all [] = refl
extent_all (x ∷ xs) = ap (λ n. extent x + n) (extent_all xs)

extent_both : (xs ys : List (M.Value ℕ)) → extent_of_each (xs ++ ys) ≡ extent_of_each xs + extent_of_each ys
extent_both [] ys = omega arith
extent_both (x ∷ xs) ys = let e : extent_of_each (xs ++ ys) ≡ extent_of_each xs + extent_of_each ys = extent_both xs ys in omega (arith, e)

extent_some : (v : M.Value ℕ) → 0 < extent v
extent_some (M.function t bound) = omega arith
extent_some M.nil = omega arith
extent_some (M.bool b) = omega arith
extent_some (M.int n) = omega arith
extent_some (M.keyword k) = omega arith
extent_some (M.text t) = omega arith
extent_some (M.vector xs) = omega arith
extent_some (M.reduced v) = omega arith
extent_some (M.cell c) = omega arith
extent_some M.empty = omega arith
extent_some (M.cons xs r) = omega arith
extent_some (M.chunk xs r) = omega arith
extent_some (M.range from at end) = omega arith
extent_some (M.vec_seq xs at) = omega arith

pub fresh_push : (ss : List Stage) (s : Stage) → state_value s ≡ begins_with (stage_value s) → FreshStages ss → FreshStages (ss ++ s ∷ [])
fresh_push ss s e h =
    map_push state_value ss s ∙ (λ i. h i ++ e i ∷ []) ∙ sym (map_push begins_with (stages_stand ss) (stage_value s)) ∙ ap fresh (sym (map_push stage_value ss s))

-- ## What is bound

pub size_some : (sights : List Sight) (n : ℤ) → is_size sights ≡ true → sights ≡ an_int n ∷ [] → pos 0 <ℤ n
size_some sights n h e = let p : int_lt (pos 0) n ≡ true = ap is_size (sym e) ∙ h in grind (arith, ints, p)

pub cat_begins : (xs : List Value) → IsTrue (binds_stage X.Cat (map sight_of xs)) → Begins (M.function (T.Xf X.Cat) (M.values (plains xs))) S.Cat
cat_begins [] h = record { stage = refl; state = refl }
cat_begins (x ∷ xs) h = absurd cc

-- ## No other word is a transducer

pub other_word : (w : Builtin) (bound : M.Values ℕ) → w ≢ B.Cat → w ≢ B.Identity → is_transducer (M.function (T.Builtin w) bound) ≡ false
other_word B.Cat bound n m = absurd (n refl)
other_word B.Identity bound n m = absurd (m refl)
other_word _ bound n m = refl

-- ## One value is opened

module _ (work more : Work) (v : M.Value ℕ) where
  pub opens_stage_to : (s : Stage) → IsStage v s → more.frames.items ≡ work.frames.items → more.stages.items ≡ work.stages.items ++ s ∷ [] → Steps (length work.frames.items) work (v ∷ pending_in work) more
  opens_stage_to s h ef es = record { same = same; stages = stages; begin = begin; lighter = lighter }
    where
      rest : pending_in more ≡ pending_in work
      rest = ap (λ l. pending l []) ef

      same : each_transducer (pending_in more) ≡ is_transducer v && each_transducer (pending_in work)
      same = ap each_transducer rest ∙ ap (λ b. b && each_transducer (pending_in work)) (sym h.transducer)

      stages : stages_stand more.stages.items ++ stages_of_each (pending_in more) ≡ stages_stand work.stages.items ++ (stages_of v ++ stages_of_each (pending_in work))
      stages =
          (λ i. stages_stand (es i) ++ stages_of_each (rest i))
          ∙ ap (λ l. l ++ stages_of_each (pending_in work)) (map_push stage_value work.stages.items s ∙ ap (λ l. stages_stand work.stages.items ++ l) (sym h.stages))
          ∙ append_assoc (stages_stand work.stages.items) (stages_of v) (stages_of_each (pending_in work))

      begin : FreshStages work.stages.items → FreshStages more.stages.items
      begin f = subst FreshStages (sym es) (fresh_push work.stages.items s h.state f)

      lighter : work_weight more < extent v + extent_of_each (pending_in work) + length work.frames.items
      lighter =
          let e : work_weight more ≡ extent_of_each (pending_in work) + length work.frames.items = (λ i. extent_of_each (rest i) + length (ef i)) in
          let p : 0 < extent v = extent_some v in
          omega (arith, e, p)

  pub opens_inner_to : (f : Frame) → v ≡ M.function T.Comp (M.values (plains (drop f.at f.items.items))) → more.frames.items ≡ work.frames.items ++ f ∷ [] → more.stages.items ≡ work.stages.items → Steps (length work.frames.items) work (v ∷ pending_in work) more
  opens_inner_to f e ef es = record { same = same; stages = stages; begin = λ h. subst FreshStages (sym es) h; lighter = lighter }
    where
      members : List (M.Value ℕ)
      members = plains (drop f.at f.items.items)

      rest : pending_in more ≡ members ++ pending_in work
      rest = ap (λ l. pending l []) ef ∙ pending_push work.frames.items f []

      same : each_transducer (pending_in more) ≡ is_transducer v && each_transducer (pending_in work)
      same = ap each_transducer rest ∙ each_both members (pending_in work) ∙ ap (λ b. b && each_transducer (pending_in work)) (sym (each_all members) ∙ ap is_transducer (sym e))

      stages : stages_stand more.stages.items ++ stages_of_each (pending_in more) ≡ stages_stand work.stages.items ++ (stages_of v ++ stages_of_each (pending_in work))
      stages =
          (λ i. stages_stand (es i) ++ stages_of_each (rest i))
          ∙ ap (λ l. stages_stand work.stages.items ++ l) (stages_both members (pending_in work) ∙ ap (λ l. l ++ stages_of_each (pending_in work)) (sym (stages_all members) ∙ ap stages_of (sym e)))

      lighter : work_weight more < extent v + extent_of_each (pending_in work) + length work.frames.items
      lighter =
          let a : work_weight more ≡ extent_of_each members + extent_of_each (pending_in work) + (length work.frames.items + 1) = (λ i. extent_of_each (rest i) + length (ef i)) ∙ (λ i. extent_both members (pending_in work) i + length_push work.frames.items f i) in
          let b : extent v ≡ extent_of_each members + 2 = ap extent e ∙ ap (λ n. n + 2) (extent_all members) in
          omega (arith, a, b)

pub opens_nothing_to : (work : Work) (v : M.Value ℕ) → is_transducer v ≡ true → stages_of v ≡ [] → Steps (length work.frames.items) work (v ∷ pending_in work) work
opens_nothing_to work v t s = record {
  same = ap (λ b. b && each_transducer (pending_in work)) (sym t);
  stages = ap (λ l. stages_stand work.stages.items ++ (l ++ stages_of_each (pending_in work))) (sym s);
  begin = λ h. h;
  lighter = let p : 0 < extent v = extent_some v in omega (arith, p);
}

pub refused_to : (v : M.Value ℕ) (vs : List (M.Value ℕ)) → is_transducer v ≡ false → each_transducer (v ∷ vs) ≡ false
refused_to v vs e = ap (λ b. b && each_transducer vs) e

-- ## The next value of a composition

pub steps_same : (n m : ℕ) (a b : Work) (us vs : List (M.Value ℕ)) (r : Option Work) → n ≡ m → a.stages.items ≡ b.stages.items → us ≡ vs → StepsTo n a us r → StepsTo m b vs r
steps_same n m a b us vs None en es ev h = ap each_transducer (sym ev) ∙ h
steps_same n m a b us vs (Some w) en es ev h = record {
  same = h.same ∙ ap each_transducer ev;
  stages = h.stages ∙ (λ i. stages_stand (es i) ++ stages_of_each (ev i));
  begin = λ f. h.begin (subst FreshStages (sym es) f);
  lighter = subst (λ k. work_weight w < k) (λ i. extent_of_each (ev i) + en i) h.lighter;
}

pub past_to : (work : Work) (xs : List Value) → xs ≡ [] → Steps (length work.frames.items + 1) work (plains xs ++ pending_in work) work
past_to work xs e = subst (λ l. Steps (length work.frames.items + 1) work (plains l ++ pending_in work) work) (sym e) (record { same = refl; stages = refl; begin = λ h. h; lighter = omega arith })

-- ## All compositions

-- what is left of the work, and what was found so far
pub record Reaches (start here : Work) : Type 0 where
  pub same : each_transducer (pending_in here) ≡ each_transducer (pending_in start)
  pub stages : stages_stand here.stages.items ++ stages_of_each (pending_in here) ≡ stages_stand start.stages.items ++ stages_of_each (pending_in start)
  pub begin : FreshStages start.stages.items → FreshStages here.stages.items

pub begun : (w : Work) → Reaches w w
begun w = record { same = refl; stages = refl; begin = λ h. h }

module _ (here rest : Work) (f : Frame) (ef : here.frames.items ≡ rest.frames.items ++ f ∷ []) (es : rest.stages.items ≡ here.stages.items) where
  first_pending : pending_in here ≡ plains (drop f.at f.items.items) ++ pending_in rest
  first_pending = ap (λ l. pending l []) ef ∙ pending_push rest.frames.items f []

  pub reaches_next : (start more : Work) → Reaches start here → StepsTo (length rest.frames.items + 1) rest (plains (drop f.at f.items.items) ++ pending_in rest) (Some more) → Reaches start more
  reaches_next start more h s = record {
    same = s.same ∙ ap each_transducer (sym first_pending) ∙ h.same;
    stages = s.stages ∙ (λ i. stages_stand (es i) ++ stages_of_each (sym first_pending i)) ∙ h.stages;
    begin = λ b. s.begin (subst FreshStages (sym es) (h.begin b));
  }

  pub refused_next : (start : Work) → Reaches start here → each_transducer (plains (drop f.at f.items.items) ++ pending_in rest) ≡ false → each_transducer (pending_in start) ≡ false
  refused_next start h e = sym h.same ∙ ap each_transducer first_pending ∙ e

  pub smaller : (more : Work) → StepsTo (length rest.frames.items + 1) rest (plains (drop f.at f.items.items) ++ pending_in rest) (Some more) → work_weight more < work_weight here
  smaller more s =
      let e : work_weight here ≡ extent_of_each (plains (drop f.at f.items.items) ++ pending_in rest) + (length rest.frames.items + 1) = (λ i. extent_of_each (first_pending i) + length (ef i)) ∙ ap (λ n. extent_of_each (plains (drop f.at f.items.items) ++ pending_in rest) + n) (length_push rest.frames.items f) in
      subst (λ n. work_weight more < n) (sym e) s.lighter

pub reaches_end : (start here rest : Work) → here.frames.items ≡ rest.frames.items ++ [] → rest.frames.items ≡ [] → rest.stages.items ≡ here.stages.items → Reaches start here → OpensAll start rest.stages.items
reaches_end start here rest ef en es h = record {
  transducers = sym h.same ∙ ap each_transducer none;
  stages = ap stages_stand es ∙ sym (append-nil (stages_stand here.stages.items)) ∙ ap (λ l. stages_stand here.stages.items ++ stages_of_each l) (sym none) ∙ h.stages;
  begin = λ b. subst FreshStages (sym es) (h.begin b);
}
  where
    none : pending_in here ≡ []
    none = ap (λ l. pending l []) (ef ∙ append-nil rest.frames.items ∙ en)

-- ## The stages of a transducer

one_each : (b : Bool) → b && true ≡ b
one_each true = refl
one_each false = refl

pub none_opens : (v : M.Value ℕ) (w : Work) → pending_in w ≡ v ∷ [] → each_transducer (pending_in w) ≡ false → Opens (with_stages v) (O.Thrown BadType)
none_opens v w e h = record { goes = λ k. ap (λ b. cond b (with_members (stages_of v) k) (throw BadType)) (sym (one_each (is_transducer v)) ∙ ap each_transducer (sym e) ∙ h) }

all_same : (stages : List (M.Value ℕ)) → W.all_kept stages ≡ all_kept stages
all_same [] = refl
all_same (s ∷ ss) = ap (λ l. kept_of s ++ l) (all_same ss)

module _ (xf : Proper) (w : Work) (ss : List Stage) (e : pending_in w ≡ plain xf.value ∷ []) (n : w.stages.items ≡ []) (h : OpensAll w ss) where
  is_one : is_transducer (plain xf.value) ≡ true
  is_one = sym (one_each (is_transducer (plain xf.value))) ∙ ap each_transducer (sym e) ∙ h.transducers

  found : stages_stand ss ≡ stages_of (plain xf.value)
  found = h.stages ∙ (λ i. stages_stand (n i) ++ stages_of_each (e i)) ∙ append-nil (stages_of (plain xf.value))

  begins : FreshStages ss
  begins = h.begin (ap (λ l. states_stand l) n ∙ ap (λ l. fresh (stages_stand l)) (sym n))

  few : (b : Bool) (k : List (M.Value ℕ) → Plan ℕ) → nat_le (length (stages_of (plain xf.value))) longest ≡ b → with_stages (plain xf.value) k ≡ cond b (k (stages_of (plain xf.value))) (throw Overflow)
  few b k q = (λ i. cond (is_one i) (with_members (stages_of (plain xf.value)) k) (throw BadType)) ∙ ap (λ z. cond z (k (stages_of (plain xf.value))) (throw Overflow)) q

  long : length (stages_of (plain xf.value)) ≡ length ss
  long = ap length (sym found) ∙ length-map ss stage_value

  pub some_open : (o : Opened) → LimitedTo ss o → Opens (with_stages (plain xf.value)) o
  some_open (O.Stages s) l = record { goes = λ k. few true k (let p = l.1 in grind (arith, long, p)) ∙ ap k (sym found ∙ ap stages_stand (sym l.0)) }
  some_open (O.Thrown why) l = record { goes = λ k. few false k (let p = l.1 in grind (arith, long, p)) ∙ ap throw (sym l.0) }

  pub some_fresh : (o : Opened) → LimitedTo ss o → IfStages o AreFresh
  some_fresh (O.Stages s) l = subst FreshStages (sym l.0) begins
  some_fresh (O.Thrown why) l = tt

  pub some_kept : (o : Opened) → LimitedTo ss o → IfStages o (λ s. seen_kept (sight (plain xf.value)) ≡ Some (kept_in s))
  some_kept (O.Stages s) l = by (W.seen (well_formed xf.value xf.well) is_one)
    where
      by : W.SeenAs (plain xf.value) → seen_kept (sight (plain xf.value)) ≡ Some (kept_in s)
      by (W.seen_as q) = ap seen_kept q ∙ ap Some (all_same (stages_of (plain xf.value)) ∙ ap all_kept (sym found ∙ ap stages_stand (sym l.0)))
  some_kept (O.Thrown why) l = tt

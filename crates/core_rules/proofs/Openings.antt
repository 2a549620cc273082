-- Whether a composition is a transducer with a stage.
use Rattle.std.proofs.Common.{◌≡◌, ◌≢◌, ℕ, ◌+◌, ◌<◌, Bool, true, false, ◌&&◌, ◌||◌, List, [], ◌∷◌, ◌++◌, length, drop, Option, Some, None, refl, ap, sym, ◌∙◌, subst, arith, rules, append-nil}
use Rattle.std.proofs.lemmas.List.{length_push}
use Rattle.seq_values.specs.Model as M
use Rattle.seq_values.specs.Model.{◌&◌}
use Rattle.seq_values.specs.Plain.{plain, plains}
use Rattle.seq_values.specs.declared.value.Value.{Value}
use Rattle.seq_values.specs.declared.value.Value.TheVariants as V
use Rattle.seq_values.specs.declared.value.FnValue.{FnValue}
use Rattle.seq_values.specs.declared.value.Node.TheFolds.{the_lemmas}
use Rattle.seq_values.specs.declared.words.Builtin.{Builtin}
use Rattle.seq_values.specs.declared.words.Builtin.TheVariants as B
use Rattle.seq_values.specs.declared.words.Target.TheVariants as T
use Rattle.seq_plan.specs.Stages.{is_transducer, are_transducers, is_some_stage, stages_of, stages_of_all, has_stages}
use Rattle.core_rules.specs.Opening.{IsOpening, Steps, StepsTo, finds, extent, extents, extent_of_each, pending, pending_in, search_weight}
use Rattle.core_rules.specs.declared.state.Frame.{Frame}
use Rattle.core_rules.specs.declared.state.Opening.{Opening}
use Rattle.core_rules.specs.declared.state.Search.{Search}

-- ## Values

plain_fn : (f : FnValue) → plain (V.Function f) ≡ M.function f.target (M.values (plains f.bound))
plain_fn f = search (rules, the_lemmas)

pub opens_function : (f : FnValue) (o : Opening) → IsOpening (M.function f.target (M.values (plains f.bound))) o → IsOpening (plain (V.Function f)) o
opens_function f o h = subst (λ v. IsOpening v o) (sym (plain_fn f)) h

-- no other word is a transducer
pub other_word : (w : Builtin) (bound : M.Values ℕ) → w ≢ B.Cat → w ≢ B.Identity → is_transducer (M.function (T.Builtin w) bound) ≡ false
other_word B.Cat bound n m = absurd (n refl)
other_word B.Identity bound n m = absurd (m refl)
other_word _ bound n m = refl

-- ## Lists of values

or_false : (b : Bool) → b || false ≡ b
or_false true = refl
or_false false = refl

or_true : (b : Bool) → b || true ≡ true
or_true true = refl
or_true false = refl

or_more : (a b c : Bool) → (a || b) || c ≡ a || (b || c)
or_more true b c = refl
or_more false b c = refl

and_more : (a b c : Bool) → (a && b) && c ≡ a && (b && c)
and_more true b c = refl
and_more false b c = refl

some_both : (xs ys : List (M.Value ℕ)) → is_some_stage (xs ++ ys) ≡ is_some_stage xs || is_some_stage ys
some_both [] ys = refl
some_both (x ∷ xs) ys = refl

-- the members of a composition are looked at in its place
pub finds_members : (found : Bool) (xs vs : List (M.Value ℕ)) → are_transducers (M.values xs) && finds (found || is_some_stage (stages_of_all (M.values xs))) vs ≡ finds found (xs ++ vs)
finds_members found [] vs = ap (λ b. finds b vs) (or_false found)
finds_members found (x ∷ xs) vs =
    and_more (is_transducer x) (are_transducers (M.values xs)) (finds (found || is_some_stage (stages_of x ++ stages_of_all (M.values xs))) vs)
    ∙ ap (λ b. is_transducer x && (are_transducers (M.values xs) && finds b vs)) (ap (λ b. found || b) (some_both (stages_of x) (stages_of_all (M.values xs))) ∙ sym (or_more found (is_some_stage (stages_of x)) (is_some_stage (stages_of_all (M.values xs)))))
    ∙ ap (λ b. is_transducer x && b) (finds_members (found || is_some_stage (stages_of x)) xs vs)

pub finds_all : (xs : List (M.Value ℕ)) → finds false xs ≡ has_stages (M.function T.Comp (M.values xs))
finds_all xs = ap (finds false) (sym (append-nil xs)) ∙ sym (finds_members false xs [])

extent_all : (xs : List (M.Value ℕ)) → extents (M.values xs) ≡ extent_of_each xs
extent_all [] = refl
extent_all (x ∷ xs) = ap (λ n. extent x + n) (extent_all xs)

extent_both : (xs ys : List (M.Value ℕ)) → extent_of_each (xs ++ ys) ≡ extent_of_each xs + extent_of_each ys
extent_both [] ys = omega arith
extent_both (x ∷ xs) ys = let e : extent_of_each (xs ++ ys) ≡ extent_of_each xs + extent_of_each ys = extent_both xs ys in omega (arith, e)

extent_some : (v : M.Value ℕ) → 0 < extent v
extent_some (M.function t bound) = omega arith
extent_some M.nil = omega arith
extent_some (M.bool b) = omega arith
extent_some (M.int n) = omega arith
extent_some (M.keyword k) = omega arith
extent_some (M.text t) = omega arith
extent_some (M.vector xs) = omega arith
extent_some (M.reduced v) = omega arith
extent_some (M.cell c) = omega arith
extent_some M.empty = omega arith
extent_some (M.cons xs r) = omega arith
extent_some (M.chunk xs r) = omega arith
extent_some (M.range from at end) = omega arith
extent_some (M.vec_seq xs at) = omega arith

pub pending_push : (fs : List Frame) (f : Frame) (more : List (M.Value ℕ)) → pending (fs ++ f ∷ []) more ≡ plains (drop f.at f.items.items) ++ pending fs more
pending_push [] f more = refl
pending_push (g ∷ fs) f more = pending_push fs f (plains (drop g.at g.items.items) ++ more)

-- ## One value is looked at

module _ (search more : Search) (v : M.Value ℕ) where
  -- it has a stage
  pub looks_stage : is_transducer v ≡ true → is_some_stage (stages_of v) ≡ true → more.frames ≡ search.frames → more.found ≡ true → Steps (length search.frames.items) search.found (v ∷ pending_in search) more
  looks_stage t s ef eo = record {
    same =
        (λ i. finds (eo i) (pending (ef i).items []))
        ∙ ap (λ b. finds b (pending_in search)) (sym (ap (λ b. search.found || b) s ∙ or_true search.found))
        ∙ ap (λ b. b && finds (search.found || is_some_stage (stages_of v)) (pending_in search)) (sym t);
    lighter =
        let e : search_weight more ≡ search_weight search = ap (λ fs. extent_of_each (pending fs.items []) + length fs.items) ef in
        let p : 0 < extent v = extent_some v in
        omega (arith, e, p);
  }

  -- it is a composition
  pub looks_inner : (f : Frame) → v ≡ M.function T.Comp (M.values (plains (drop f.at f.items.items))) → more.frames.items ≡ search.frames.items ++ f ∷ [] → more.found ≡ search.found → Steps (length search.frames.items) search.found (v ∷ pending_in search) more
  looks_inner f e ef eo = record { same = same; lighter = lighter }
    where
      members : List (M.Value ℕ)
      members = plains (drop f.at f.items.items)

      rest : pending_in more ≡ members ++ pending_in search
      rest = ap (λ l. pending l []) ef ∙ pending_push search.frames.items f []

      same : finds more.found (pending_in more) ≡ is_transducer v && finds (search.found || is_some_stage (stages_of v)) (pending_in search)
      same =
          (λ i. finds (eo i) (rest i))
          ∙ sym (finds_members search.found members (pending_in search))
          ∙ ap (λ u. is_transducer u && finds (search.found || is_some_stage (stages_of u)) (pending_in search)) (sym e)

      lighter : search_weight more < extent v + extent_of_each (pending_in search) + length search.frames.items
      lighter =
          let a : search_weight more ≡ extent_of_each members + extent_of_each (pending_in search) + (length search.frames.items + 1) = (λ i. extent_of_each (rest i) + length (ef i)) ∙ (λ i. extent_both members (pending_in search) i + length_push search.frames.items f i) in
          let b : extent v ≡ extent_of_each members + 2 = ap extent e ∙ ap (λ n. n + 2) (extent_all members) in
          omega (arith, a, b)

-- it is a transducer without a stage
pub looks_nothing : (search : Search) (v : M.Value ℕ) → is_transducer v ≡ true → is_some_stage (stages_of v) ≡ false → Steps (length search.frames.items) search.found (v ∷ pending_in search) search
looks_nothing search v t s = record {
  same =
      ap (λ b. finds b (pending_in search)) (sym (ap (λ b. search.found || b) s ∙ or_false search.found))
      ∙ ap (λ b. b && finds (search.found || is_some_stage (stages_of v)) (pending_in search)) (sym t);
  lighter = let p : 0 < extent v = extent_some v in omega (arith, p);
}

-- it is none
pub looks_refused : (found : Bool) (v : M.Value ℕ) (vs : List (M.Value ℕ)) → is_transducer v ≡ false → finds found (v ∷ vs) ≡ false
looks_refused found v vs e = ap (λ b. b && finds (found || is_some_stage (stages_of v)) vs) e

-- ## The next value of a composition

pub steps_same : (n m : ℕ) (a b : Bool) (us vs : List (M.Value ℕ)) (r : Option Search) → n ≡ m → a ≡ b → us ≡ vs → StepsTo n a us r → StepsTo m b vs r
steps_same n m a b us vs None en eo ev h = (λ i. finds (sym eo i) (sym ev i)) ∙ h
steps_same n m a b us vs (Some s) en eo ev h = record {
  same = h.same ∙ (λ i. finds (eo i) (ev i));
  lighter = subst (λ k. search_weight s < k) (λ i. extent_of_each (ev i) + en i) h.lighter;
}

pub looks_past : (search : Search) (xs : List Value) → xs ≡ [] → Steps (length search.frames.items + 1) search.found (plains xs ++ pending_in search) search
looks_past search xs e = subst (λ l. Steps (length search.frames.items + 1) search.found (plains l ++ pending_in search) search) (sym e) (record { same = refl; lighter = omega arith })

-- ## All compositions

module _ (here rest : Search) (f : Frame) (ef : here.frames.items ≡ rest.frames.items ++ f ∷ []) (eo : rest.found ≡ here.found) where
  first_pending : pending_in here ≡ plains (drop f.at f.items.items) ++ pending_in rest
  first_pending = ap (λ l. pending l []) ef ∙ pending_push rest.frames.items f []

  abbrev next : List (M.Value ℕ)
  next = plains (drop f.at f.items.items) ++ pending_in rest

  pub next_same : (more : Search) → StepsTo (length rest.frames.items + 1) rest.found next (Some more) → finds more.found (pending_in more) ≡ finds here.found (pending_in here)
  next_same more s = s.same ∙ (λ i. finds (eo i) (sym first_pending i))

  pub next_refused : finds rest.found next ≡ false → finds here.found (pending_in here) ≡ false
  next_refused e = (λ i. finds (sym eo i) (first_pending i)) ∙ e

  pub next_smaller : (more : Search) → StepsTo (length rest.frames.items + 1) rest.found next (Some more) → search_weight more < search_weight here
  next_smaller more s =
      let e : search_weight here ≡ extent_of_each next + (length rest.frames.items + 1) = (λ i. extent_of_each (first_pending i) + length (ef i)) ∙ ap (λ n. extent_of_each next + n) (length_push rest.frames.items f) in
      subst (λ n. search_weight more < n) (sym e) s.lighter

pub none_left : (here rest : Search) → here.frames.items ≡ rest.frames.items ++ [] → rest.frames.items ≡ [] → rest.found ≡ here.found → rest.found ≡ finds here.found (pending_in here)
none_left here rest ef en eo = eo ∙ ap (λ l. finds here.found (pending l [])) (sym (ef ∙ append-nil rest.frames.items ∙ en))

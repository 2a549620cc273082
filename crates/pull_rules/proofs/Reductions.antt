-- What a reduction came to, by what its stages came to.
use Rattle.std.proofs.Common.{◌≡◌, ℕ, Bool, List, [], ◌∷◌, refl, sym, subst}
use Rattle.seq_base.specs.declared.thrown.Thrown.{Thrown}
use Rattle.seq_values.specs.Model as M
use Rattle.seq_values.specs.Plain.{plain, plains}
use Rattle.seq_values.specs.declared.term.Turn.TheVariants as T
use Rattle.seq_values.specs.declared.value.Value.{Value}
use Rattle.seq_values.proofs.DepthLemmas.{both}
use Rattle.seq_plan.specs.Plan.{call}
use Rattle.seq_plan.specs.Stages.{reduces, is_reduced, unwrapped}
use Rattle.seq_turns.specs.declared.next.Next.{Next}
use Rattle.seq_turns.specs.declared.proper.Proper.{Proper}
use Rattle.seq_turns.specs.declared.proper.ProperList.{ProperList}
use Rattle.xf_stages.specs.Left.{Course, at_rest, left_out, StageSilent}
use Rattle.xf_stages.specs.declared.state.Stages.{Stages}
use Rattle.xf_stages.specs.declared.state.AtOut.{AtOut}
use Rattle.pull_rules.specs.Reducing.{Flows, Runs}
use Rattle.pull_rules.specs.declared.flow.Flowed.TheVariants as F
use Rattle.pull_rules.specs.declared.flow.Waiting.{Waiting}
use Rattle.pull_rules.specs.declared.flow.Reduction.TheVariants as R
use Rattle.pull_rules.specs.declared.flow.ReductionTurn.{ReductionTurn}
use Rattle.pull_rules.specs.declared.flow.ReductionTurn.TheVariants as RT

module _ (stages : List (M.Value ℕ)) (course : Course) (f a : Proper) where
  abbrev Reaches : ReductionTurn → Type 0
  Reaches r = Runs stages (plain f.value) (λ k. course (reduces (plain f.value) (plain a.value)) k) r

  pub runs_asks : (n : Next Waiting) → Flows stages course (F.Asks n) → Reaches (RT.Asks (record { state = R.Within (record { waiting = n.state; function = f; answer = a }); turn = n.turn }))
  runs_asks n h = record { goes = λ k. h.goes (reduces (plain f.value) (plain a.value)) k; asked = h.asked; rests = h.rests; keeps = refl }

  pub runs_throw : (why : Thrown) → Flows stages course (F.Throw why) → Reaches (RT.Throw why)
  runs_throw why h = record { goes = λ k. h.goes (reduces (plain f.value) (plain a.value)) k; asked = tt; rests = tt; keeps = tt }

  pub runs_rest : (s : Stages) → Flows stages course (F.Rest s) → Reaches (RT.Rest s f a)
  runs_rest s h = record { goes = λ k. h.goes (reduces (plain f.value) (plain a.value)) k; asked = tt; rests = h.rests; keeps = refl }

  -- the function is called with the answer and the output
  pub runs_output : (w : AtOut) (x called : Proper) (args : ProperList) → called.value ≡ f.value → plains args.items ≡ plain a.value ∷ plain x.value ∷ [] → Flows stages course (F.Out w x) → Reaches (RT.Asks (record { state = R.Output (record { waiting = w; function = f }); turn = T.Apply called.value args.items }))
  runs_output w x called args e q h =
      record {
        goes = λ k. subst (λ p. StageSilent (course (reduces (plain f.value) (plain a.value)) k) p) (λ i. call (plain (sym e i)) (sym q i) (λ y. left_out w (is_reduced y) (reduces (plain f.value) (unwrapped y)) k)) (h.goes (reduces (plain f.value) (plain a.value)) k);
        asked = record { step = tt; waits = refl; well = both _ _ called.well args.well };
        rests = h.rests;
        keeps = refl;
      }

pub told_output : (w : AtOut) (f : Proper) (y : Value) (v : M.Value ℕ) (ended : Bool) (r : ReductionTurn) → v ≡ unwrapped (plain y) → ended ≡ is_reduced (plain y) → Runs (at_rest w.flow) (plain f.value) (λ k. left_out w ended (reduces (plain f.value) v) k) r → Runs (at_rest w.flow) (plain f.value) (λ k. left_out w (is_reduced (plain y)) (reduces (plain f.value) (unwrapped (plain y))) k) r
told_output w f y v ended r e q h = subst (λ p. p) (λ i. Runs (at_rest w.flow) (plain f.value) (λ k. left_out w (q i) (reduces (plain f.value) (e i)) k) r) h

-- What a frame that is told comes to.
use Rattle.std.proofs.Common.{true, false, ◌≡◌, ℕ, ◌+◌, ◌*◌, ◌<◌, ◌≤◌, length, List, [], ◌∷◌, ◌++◌, refl, sym, ap, subst, arith, IfOk}
use Rattle.std.specs.declared.result.Result.{Result}
use Rattle.seq_values.specs.Model as M
use Rattle.seq_values.specs.Plain.{plain}
use Rattle.seq_plan.specs.Plan.{give}
use Rattle.seq_turns.specs.declared.proper.Proper.{Proper}
use Rattle.eval_frames.specs.Frames.{Ground, script_in, waits, under, beneath}
use Rattle.eval_frames.specs.Leads.{Stands, Comes}
use Rattle.eval_frames.specs.Weights.{frame_weight, rest_weight, step_weight}
use Rattle.eval_frames.specs.declared.state.Frame.{Frame}
use Rattle.eval_frames.specs.declared.state.Frame.TheVariants as F
use Rattle.eval_frames.specs.declared.state.Called.{Called}
use Rattle.eval_frames.specs.declared.state.Rest.{Rest}
use Rattle.eval_frames.specs.declared.state.Runner.{Runner}
use Rattle.eval_frames.specs.declared.state.Now.TheVariants as N
use Rattle.eval_frames.specs.declared.state.Ready.TheVariants as R
use Rattle.eval_frames.specs.declared.state.Event.TheVariants as E
use Rattle.eval_frames.specs.declared.state.Advance.{Advance}
use Rattle.eval_frames.specs.declared.state.Advance.TheVariants as A
use Rattle.eval_frames.proofs.Going.{comes_on, comes_same}
use Rattle.eval_frames.proofs.Moving.{stays, stands}
use Rattle.eval_frames.proofs.Pushing.{pushed_under, pushed_sum}

module _ {S : Type 0} {b : _} (by : Ground S) where
  abbrev pub Told : Rest S b → M.Value ℕ → Frame S b → Advance S b → Type 0
  Told rest v f a = Comes by rest.left (waits by f (beneath by rest) v) (rest_weight by.code rest + frame_weight by.code f) a

  -- a frame that goes on
  pub told_on : (rest : Rest S b) (v : M.Value ℕ) (f h : Frame S b) {w : ℕ} {r : Runner S b} → f ≡ h → w + 1 ≤ rest_weight by.code rest + frame_weight by.code h → Stands by rest.left (waits by h (beneath by rest) v) w r → Told rest v f (A.On r)
  told_on rest v f h {r = r} e l s = subst (λ x. Told rest v x (A.On r)) (sym e) (comes_on by refl l s)

  pub told_ok : {X : Type 0} (rest : Rest S b) (v : M.Value ℕ) (f h : Frame S b) (r : Result (Advance S b) X) → f ≡ h → IfOk r (Told rest v h) → IfOk r (Told rest v f)
  told_ok rest v f h r e s = subst (λ x. IfOk r (Told rest v x)) (sym e) s

  -- a rule that is told its value takes a turn
  pub told_rule : (rest : Rest S b) (v : Proper) (f : Frame S b) (c : Called S b) → f ≡ F.Rule c → Told rest (plain v.value) f (A.On (record { now = N.Turn (R.Got c v); rest = rest }))
  told_rule rest v f c e = subst (λ x. Told rest (plain v.value) x (A.On (record { now = N.Turn (R.Got c v); rest = rest }))) (sym e) (record { goes = stays (script_in by) rest.left (waits by (F.Rule c) (beneath by rest) (plain v.value)); took = refl; light = omega arith })

  -- ## The top frame

  pub popped : (rest less : Rest S b) (f : Frame S b) (v : M.Value ℕ) (a : Advance S b) → less.left ≡ rest.left → rest.frames.items ≡ less.frames.items ++ f ∷ [] → Comes by less.left (waits by f (beneath by less) v) (rest_weight by.code less + frame_weight by.code f) a → Comes by rest.left (beneath by rest v) (rest_weight by.code rest) a
  popped rest less f v a l e h =
      let p : beneath by rest v ≡ waits by f (beneath by less) v = ap (λ k. k v) (pushed_under by give less.frames.items rest.frames.items f e) in
      let w = pushed_sum (frame_weight by.code) less.frames.items rest.frames.items f 0 e in
      comes_same by (sym p) (let q = ap (λ n. n * step_weight by.code) l in omega (arith, w, q)) (subst (λ n. Comes by n (waits by f (beneath by less) v) (rest_weight by.code less + frame_weight by.code f) a) l h)

  -- no frame waits: the work ends
  pub ended : (rest : Rest S b) (v : Proper) → rest.frames.items ≡ [] → Comes {b = b} by rest.left (beneath by rest (plain v.value)) (rest_weight by.code rest) (A.Comes (E.Gives v rest.left))
  ended rest v e = record { goes = stands (script_in by) refl (sym (ap (λ fs. under by give fs (plain v.value)) e)); took = tt; light = omega arith }

pub none_left : {X : Type 0} (xs : List X) → (0 < length xs → false ≡ true) → xs ≡ []
none_left [] h = refl
none_left (x ∷ xs) h = let e : false ≡ true = h (omega arith) in absurd cc

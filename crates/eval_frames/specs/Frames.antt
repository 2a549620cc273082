-- What frames stand for: what is still done with a value that is told.
use Rattle.std.specs.Prelude.{ℕ, List, [], ◌∷◌, ◌++◌}
use Rattle.seq_values.specs.Model as M
use Rattle.seq_values.specs.Plain.{plain, plains, plain_term}
use Rattle.seq_plan.specs.Plan.{Plan, ask, seq, call, make, give, then, Rules, begun, done, got, told_made}
use Rattle.seq_plan.specs.Nodes.{if_true, with_value, with_members}
use Rattle.seq_turns.specs.Turning.{Running}
use Rattle.seq_meaning.specs.Evaluates.{Script, eval, evals, while_true, until_true}
use Rattle.eval_frames.specs.Parts.{script_of, tree, to_come}
use Rattle.eval_frames.specs.declared.state.Code.{Code}
use Rattle.eval_frames.specs.declared.state.Purpose.{Purpose}
use Rattle.eval_frames.specs.declared.state.Purpose.TheVariants as P
use Rattle.eval_frames.specs.declared.state.Frame.{Frame}
use Rattle.eval_frames.specs.declared.state.Frame.TheVariants as F
use Rattle.eval_frames.specs.declared.state.Rest.{Rest}
use Rattle.eval_frames.specs.declared.state.Ready.{Ready}
use Rattle.eval_frames.specs.declared.state.Ready.TheVariants as R
use Rattle.eval_frames.specs.declared.state.Now.{Now}
use Rattle.eval_frames.specs.declared.state.Now.TheVariants as N
use Rattle.eval_frames.specs.declared.state.Runner.{Runner}
use Rattle.eval_frames.specs.declared.state.Asking.{Asking}
use Rattle.eval_frames.specs.declared.state.Asking.TheVariants as A
use Rattle.eval_frames.specs.declared.state.Asker.{Asker}
use Rattle.eval_frames.specs.declared.state.Maker.{Maker}
use Rattle.eval_frames.specs.declared.state.Maker.TheVariants as K
use Rattle.eval_frames.specs.declared.state.ProperTerm.{ProperTerm}
use Rattle.seq_values.specs.declared.words.Kind.{Kind}

-- how rules run, what the language's rules are, and what a work goes by
pub record Ground (S : Type 0) : Type 0 where
  pub running : Running S
  pub table : ℕ → Rules ℕ
  pub code : Code

abbrev pub ground : {S : Type 0} → Running S → (ℕ → Rules ℕ) → Code → Ground S
ground running table code = record { running = running; table = table; code = code }

abbrev pub script_in : {S : Type 0} → Ground S → Script ℕ
script_in by = script_of by.table by.code

-- what is done with all the values that were gathered
abbrev pub gathered : Purpose → (M.Value ℕ → Plan ℕ) → List (M.Value ℕ) → Plan ℕ
gathered (P.Call f) k ys = call (plain f.value) ys k
gathered P.Vector k ys = with_members ys (λ zs. with_value (M.vector (M.values zs)) k)

-- what the expression with a number does, where `k` goes on
abbrev pub evaluated : Code → ℕ → List (M.Value ℕ) → (M.Value ℕ → Plan ℕ) → Plan ℕ
evaluated code n env k = eval (plains code.values.items) (tree code n) env k

module _ {S : Type 0} {b : _} where
  -- what is left of a rule that is told
  abbrev pub ready_left : Running S → Ready S b → Plan ℕ
  ready_left running (R.Begin r) = running.left r.state begun
  ready_left running (R.Done r) = running.left r.state done
  ready_left running (R.Found r s) = running.left r.state (got (plain s.value))
  ready_left running (R.Got r v) = running.left r.state (got (plain v.value))
  ready_left running (R.Made r c) = running.left r.state (told_made c)

module _ {S : Type 0} {b : _} (by : Ground S) where
  -- what a frame does with the value that it is told, where `k` goes on
  abbrev pub waits : Frame S b → (M.Value ℕ → Plan ℕ) → M.Value ℕ → Plan ℕ
  waits (F.Rule c) k v = then (by.running.left c.state (got v)) k
  waits (F.Head m) k v = evals (plains by.code.values.items) (to_come by.code m) (plains m.locals.items) [] (λ ys. call v ys k)
  waits (F.Parts purpose values m) k v = evals (plains by.code.values.items) (to_come by.code m) (plains m.locals.items) (plains values.items.items ++ v ∷ []) (gathered purpose k)
  waits (F.Let body locals) k v = evaluated by.code body (plains locals.items ++ v ∷ []) k
  waits (F.If a z locals) k v = if_true v (evaluated by.code a (plains locals.items) k) (evaluated by.code z (plains locals.items) k)
  waits (F.And m) k v = while_true (plains by.code.values.items) (to_come by.code m) (plains m.locals.items) v k
  waits (F.Or m) k v = until_true (plains by.code.values.items) (to_come by.code m) (plains m.locals.items) v k
  waits F.Print k v = then ((script_in by).rules.on_print v) k

  -- the frames, the lowest first
  abbrev pub under : (M.Value ℕ → Plan ℕ) → List (Frame S b) → M.Value ℕ → Plan ℕ
  under k [] = k
  under k (f ∷ fs) = under (waits f k) fs

  -- what becomes of a value that is told to the top frame
  abbrev pub beneath : Rest S b → M.Value ℕ → Plan ℕ
  beneath rest = under give rest.frames.items

  abbrev pub now_plan : Now S b → (M.Value ℕ → Plan ℕ) → Plan ℕ
  now_plan (N.Eval n locals) k = evaluated by.code n (plains locals.items) k
  now_plan (N.Tell v) k = k (plain v.value)
  now_plan (N.Turn r) k = then (ready_left by.running r) k

  abbrev pub runner_plan : Runner S b → Plan ℕ
  runner_plan r = now_plan r.now (beneath r.rest)

  -- what is done with the answer of a part that is asked
  abbrev pub asking_plan : Asking S b → (M.Value ℕ → Plan ℕ) → M.Value ℕ → Plan ℕ
  asking_plan (A.Value r) k v = then (by.running.left r.state (got v)) k
  asking_plan (A.Seq r) k v = seq v (λ w. then (by.running.left r.state (got w)) k)

  abbrev pub asker_plan : Asker S b → Plan ℕ
  asker_plan a = ask a.cell (asking_plan a.asking (beneath a.rest))

  -- what is done with a part that was made
  abbrev pub maker_plan : Maker S b → (M.Value ℕ → Plan ℕ) → ℕ → Plan ℕ
  maker_plan (K.Rule r) k c = then (by.running.left r.state (told_made c)) k
  maker_plan K.LazySeq k c = k (M.cell c)

  abbrev pub makes_plan : Kind → ProperTerm → Maker S b → Rest S b → Plan ℕ
  makes_plan kind t maker rest = make kind (plain_term t.term) (maker_plan maker (beneath rest))
